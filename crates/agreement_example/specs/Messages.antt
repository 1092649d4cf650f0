-- The arguments of the calls in the examples: session 7, of version 1 where no other is named; each is lent 512 bytes for its line.
use Rattle.std.specs.Prelude.{ℕ, List}
use Rattle.settings.specs.Versions.{FIRST_VERSION}
use Rattle.records.specs.Words.{blank}
use Rattle.opening.specs.Given.{ones_given}
use Rattle.opening.specs.Arguments.{arguments}
use Rattle.wire.specs.Message.{encode}
use Rattle.wire.specs.declared.Message.{Message}
use Rattle.calls.specs.Machine.{Call, delivery, turn, recording}
use Rattle.calls.specs.Engine.{engine, OpeningGiven}
use Rattle.calls.specs.Given.{bytes_of, opening_of, turn_with, bit_of}

-- an opening under the number p, with v as input
unfoldable pub opening_in : (version n ta ts : ℕ) (coins weights : List ℕ) (boxed p v : ℕ) → OpeningGiven
opening_in version n ta ts coins weights boxed p v = opening_of (arguments version n ta ts p 7 v coins weights boxed)

unfoldable pub opening_with : (n ta ts : ℕ) (coins weights : List ℕ) (boxed p v : ℕ) → OpeningGiven
opening_with = opening_in FIRST_VERSION

-- .. with printed coin words of 0, weights of 1 and the input 5
unfoldable pub opening_five : (n ta ts p : ℕ) → OpeningGiven
opening_five n ta ts p = opening_with n ta ts (blank n) (ones_given n) 0 p 5

-- everyone puts in 5
abbrev pub input_five : ℕ → ℕ
input_five p = 5

-- the message m of the link's concentrator p, with the values xs beside a COMMIT, delivered to q
unfoldable pub deliver_in : (version q p : ℕ) → Message → List ℕ → Call engine
deliver_in version q p m xs = delivery q p (bytes_of (encode m version p 7 xs))

unfoldable pub deliver : (q p : ℕ) → Message → List ℕ → Call engine
deliver = deliver_in FIRST_VERSION

-- a turn of p, lent 140 bytes for a message
unfoldable pub turn_of : ℕ → Call engine
turn_of p = turn p (turn_with (blank 140))

-- the bit b of round r of vote i, recorded at p
unfoldable pub record_of : (p i r b : ℕ) → Call engine
record_of p i r b = recording p (bit_of i r b)
