-- Calls made of plain numbers: each is taken by as many of its low bits as the code has for it, and 512 bytes are lent for each line.
use Rattle.std.specs.Prelude.{ℕ, zero, suc, ◌<◌, ◌%◌, ◌^◌, List, [], ◌∷◌, get_or}
use Rattle.std.proofs.Common.{arith}
use Rattle.records.specs.Words.{word}
use Rattle.opening.specs.Arguments.{Arguments, arguments}
use Rattle.journal.specs.Journal.{LINE_BYTES}
use Rattle.calls.specs.Engine.{OpeningGiven, Bytes, TurnLent, BitGiven}

-- each number by its low 8 bits
unfoldable pub low_bytes : List ℕ → List ℕ
low_bytes [] = []
low_bytes (x ∷ xs) = x % 256 ∷ low_bytes xs

pub low_bytes_lem : (b : List ℕ) (i : ℕ) → get_or (low_bytes b) i 0 < 256
unfolding low_bytes
low_bytes_lem [] i = omega arith
low_bytes_lem (x ∷ xs) zero = omega arith
low_bytes_lem (x ∷ xs) (suc i) = low_bytes_lem xs i

-- the bytes b
unfoldable pub bytes_of : List ℕ → Bytes
bytes_of b = record { list = low_bytes b; line = LINE_BYTES; each = low_bytes_lem b }

-- each number by its low 32 bits
unfoldable pub coins_of : List ℕ → List ℕ
coins_of [] = []
coins_of (x ∷ xs) = x % 2 ^ 32 ∷ coins_of xs

pub coins_below : (xs : List ℕ) (i : ℕ) → word (coins_of xs) i < 2 ^ 32
unfolding word coins_of
coins_below [] i = omega arith
coins_below (x ∷ xs) zero = omega arith
coins_below (x ∷ xs) (suc i) = coins_below xs i

-- the opening with the arguments o
unfoldable pub opening_of : Arguments → OpeningGiven
opening_of o =
    record {
      given = arguments o.version o.n o.ta o.ts o.own (o.session % 2 ^ 32) (o.input % 2 ^ 64) (coins_of o.coins) o.weights o.boxed;
      line = LINE_BYTES;
      session_fits = omega arith;
      input_fits = omega arith;
      coins_fit = coins_below o.coins;
    }

-- a turn that is lent the bytes out for a message
unfoldable pub turn_with : List ℕ → TurnLent
turn_with out = record { message = out; line = LINE_BYTES }

-- the bit b of round r of vote i
unfoldable pub bit_of : (i r b : ℕ) → BitGiven
bit_of i r b = record { vote = i; round = r; bit = b; line = LINE_BYTES }
