-- With 512 bytes for its line a call is the one without.
use Rattle.std.specs.Prelude.{ℕ, ◌≤◌, List, ◌≡◌, Result}
use Rattle.std.proofs.Common.{ap, ◌∙◌}
use Rattle.opening.specs.Arguments.{Arguments}
use Rattle.opening.specs.Opening.{opened}
use Rattle.delivery.specs.Delivery.{delivered}
use Rattle.turn.specs.Turn.{turn_outcome, turn_words, turn_bytes}
use Rattle.turn.specs.declared.Outcome.{Outcome}
use Rattle.journal.specs.Journal.{LINE_BYTES, opened_words, delivered_words, turn_room, turned_message}
use Rattle.journal.specs.laws.Journal.{line_words_lem, room_kept, message_kept}
use Rattle.settings.specs.declared.refusal.Refusal.{Refusal}

module _ (line : ℕ) (h : LINE_BYTES ≤ line) (s : List ℕ) where
  pub turn_answer : (room : ℕ) (r : Result Outcome Refusal) → r ≡ turn_outcome s (turn_room room line) → r ≡ turn_outcome s room
  turn_answer room r e = e ∙ ap (turn_outcome s) (room_kept room line h)

  pub turn_state : (room : ℕ) (t : List ℕ) → t ≡ turn_words s (turn_room room line) → t ≡ turn_words s room
  turn_state room t e = e ∙ ap (turn_words s) (room_kept room line h)

  pub turn_message : (out t : List ℕ) → t ≡ turned_message s out line → t ≡ turn_bytes s out
  turn_message out t e = e ∙ message_kept s out line h

  pub deliver_state : (link : ℕ) (b t : List ℕ) → t ≡ delivered_words s link b line → t ≡ delivered s link b
  unfolding delivered_words
  deliver_state link b t e = e ∙ line_words_lem line s (delivered s link b) h

  pub open_state : (o : Arguments) (t : List ℕ) → t ≡ opened_words s o line → t ≡ opened s o
  unfolding opened_words
  open_state o t e = e ∙ line_words_lem line s (opened s o) h

pub ruleset lined_cases = (turn_answer, turn_state, turn_message, deliver_state, open_state)
