-- Recording a bit of the coin box: its answer, and the words after it (PROTOCOL 9.21 to 9.23).
use Rattle.std.specs.Prelude.{ℕ, cond, not, List, Result, Ok, Err}
use Rattle.std.specs.Result.{is_ok}
use Rattle.settings.specs.declared.refusal.Refusal.{Refusal}
use Rattle.settings.specs.declared.refusal.Refusal.TheVariants as refusal
use Rattle.records.specs.Layout.{n_at}
use Rattle.records.specs.Words.{word}
use Rattle.records.specs.Records.{closed}
use Rattle.recording.specs.Recording.{recordable, with_bit}
use Rattle.unweighted.specs.Session.{is_state}

-- the refusals of a recording in their order, apart from 8 for its line; a repeat is accepted too (PROTOCOL 10.17)
unfoldable pub record_answer : List ℕ → ℕ → ℕ → ℕ → Result (Unit {0}) Refusal
record_answer s i r b =
    cond (not (is_state s)) (Err refusal.NoState)
    (cond (closed s) (Err refusal.Closed)
    (cond (not (recordable s (word s n_at) i r b)) (Err refusal.Coin)
    (Ok tt)))

-- the words after a recording, accepted or not
unfoldable pub recorded_words : List ℕ → ℕ → ℕ → ℕ → List ℕ
recorded_words s i r b = cond (is_ok (record_answer s i r b)) (with_bit s i r b) s
