-- Recording a bit of the coin box in the state of a boxed session: its answer, and the words after it (PROTOCOL 9.21 to 9.23).
use Rattle.std.specs.Prelude.{ℕ, Bool, ◌&&◌, cond, not, List, eqb, leb, Result, Ok, Err}
use Rattle.std.specs.Result.{is_ok}
use Rattle.settings.specs.declared.refusal.Refusal.{Refusal}
use Rattle.settings.specs.declared.refusal.Refusal.TheVariants as refusal
use Rattle.settings.specs.Settings.{round_limit}
use Rattle.records.specs.Layout.{n_at, coin_at, zero_mark}
use Rattle.records.specs.Words.{word, marked, set_mark}
use Rattle.records.specs.Records.{closed, printed}
use Rattle.session.specs.Session.{is_state, numbered}

-- the mark of bit b of round r in a vote's coin word: a 1 is the coin itself
unfoldable pub bit_mark : ℕ → ℕ → ℕ
bit_mark r b = cond (eqb b 1) r (zero_mark r)

-- the mark of the other bit
unfoldable pub other_mark : ℕ → ℕ → ℕ
other_mark r b = cond (eqb b 1) (zero_mark r) r

-- coins are boxed, the vote is 1 to n, the round 1 to 32 and the bit 0 or 1 (PROTOCOL 9.22)
unfoldable pub in_layout : List ℕ → ℕ → ℕ → ℕ → ℕ → Bool
in_layout s n i r b = not (printed s) && (numbered n i && (numbered round_limit r && leb b 1))

-- the other bit is not recorded for that vote and round (PROTOCOL 9.22)
unfoldable pub unopposed : List ℕ → ℕ → ℕ → ℕ → Bool
unopposed s i r b = not (marked s (coin_at i) (other_mark r b))

unfoldable pub recordable : List ℕ → ℕ → ℕ → ℕ → ℕ → Bool
recordable s n i r b = in_layout s n i r b && unopposed s i r b

-- the refusals of a recording in their order, apart from 8 for its line; a repeat is accepted too (PROTOCOL 10.17)
unfoldable pub record_answer : List ℕ → ℕ → ℕ → ℕ → Result (Unit {0}) Refusal
record_answer s i r b =
    cond (not (is_state s)) (Err refusal.NoState)
    (cond (closed s) (Err refusal.Closed)
    (cond (not (recordable s (word s n_at) i r b)) (Err refusal.Coin)
    (Ok tt)))

unfoldable pub with_bit : List ℕ → ℕ → ℕ → ℕ → List ℕ
with_bit s i r b = set_mark s (coin_at i) (bit_mark r b)

-- the words after a recording, accepted or not
unfoldable pub recorded_words : List ℕ → ℕ → ℕ → ℕ → List ℕ
recorded_words s i r b = cond (is_ok (record_answer s i r b)) (with_bit s i r b) s
