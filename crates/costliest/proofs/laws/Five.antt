-- One concentrator takes five turns: SEND, ECHO, READY, COMMIT, in force.
use Rattle.std.specs.Prelude.{ℕ, List, ◌≡◌, refl, length, Ok}
use Rattle.std.proofs.Common.{ap, ◌∙◌}
use Rattle.records.specs.Layout.{turns_at}
use Rattle.records.specs.Words.{word}
use Rattle.opening.specs.Opening.{open_answer, open_words, opened}
use Rattle.opening.specs.Given.{ones_given}
use Rattle.journal.specs.Journal.{line_words, delivered_words, turn_room}
use Rattle.calls.specs.Machine.{words}
use Rattle.calls.specs.Given.{low_bytes, bytes_of, turn_with}
use Rattle.turn_bound.proofs.laws.Computing.{calls}
use Rattle.costliest.specs.Calls.{coin_words, opens, each, say, turns, commit, packs, five, costliest_calls}
use Rattle.costliest.specs.Statement.{FiveTurns}
use Rattle.costliest.proofs.laws.Words.{after}
use Rattle.costliest.proofs.laws.Session.{takes}

computed : word (after (open_words (opens 1)) five) turns_at ≡ 5
unfolding calls opens coin_words ones_given five turns each commit say packs words delivered_words line_words turn_room low_bytes bytes_of turn_with
computed = refl

accepted : (s : List ℕ) → length s ≡ 2048 → open_answer (length s) (opens 1) ≡ Ok tt
unfolding calls opens coin_words ones_given
accepted s e = rw e

first_is : (s : List ℕ) → length s ≡ 2048 → opened s (opens 1) ≡ open_words (opens 1)
unfolding opened
first_is s e = rw (accepted s e)

pub five_turns : FiveTurns
unfolding FiveTurns costliest_calls
five_turns start e =
    takes 1 start (accepted (start 1) e) 5 (ap (λ (w : List ℕ). word (after w five) turns_at) (first_is (start 1) e) ∙ computed)
