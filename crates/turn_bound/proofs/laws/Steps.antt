-- Calls without lines and without restores, one after another at one concentrator, and the count of turns over them. What the calls of
-- calls/Machine come to, such steps come to (Stepped).
use Rattle.std.specs.Prelude.{ℕ, ◌+◌, cond, List, [], ◌∷◌, length}
use Rattle.opening.specs.Arguments.{Arguments}
use Rattle.opening.specs.Opening.{open_answer, opened}
use Rattle.delivery.specs.Delivery.{delivered}
use Rattle.recording.specs.Recording.{recorded_words}
use Rattle.turn.specs.Turn.{turn_outcome, turn_words}
use Rattle.journal.specs.Journal.{acts}
use Rattle.turn_bound.specs.TurnBound.{Terms, terms_by}
use Rattle.std.specs.Result.{is_ok}

-- an opening, a delivery of any bytes from any link, a turn lent any bytes, a report, or a recording of any vote, round and bit
pub data Step : Type 0 where
  opening : Arguments → Step
  delivery : ℕ → List ℕ → Step
  turn : List ℕ → Step
  report : Step
  recording : ℕ → ℕ → ℕ → Step

-- the words after a list of steps, newest first, on the words s; a report writes none of them
unfoldable pub after : List ℕ → List Step → List ℕ
after s [] = s
after s (opening o ∷ cs) = opened (after s cs) o
after s (delivery link b ∷ cs) = delivered (after s cs) link b
after s (turn out ∷ cs) = turn_words (after s cs) (length out)
after s (report ∷ cs) = after s cs
after s (recording i r b ∷ cs) = recorded_words (after s cs) i r b

-- the version and the settings of the last accepted opening, g before any
unfoldable pub current : Terms → List ℕ → List Step → Terms
current g s [] = g
current g s (opening o ∷ cs) = cond (is_ok (open_answer (length (after s cs)) o)) (terms_by o) (current g s cs)
current g s (delivery link b ∷ cs) = current g s cs
current g s (turn out ∷ cs) = current g s cs
current g s (report ∷ cs) = current g s cs
current g s (recording i r b ∷ cs) = current g s cs

-- the turns since the opening that were neither idle nor refused (PROTOCOL 8.19): an accepted opening starts anew, a recording is no turn
unfoldable pub acting : List ℕ → List Step → ℕ
acting s [] = 0
acting s (opening o ∷ cs) = cond (is_ok (open_answer (length (after s cs)) o)) 0 (acting s cs)
acting s (delivery link b ∷ cs) = acting s cs
acting s (turn out ∷ cs) = cond (acts (turn_outcome (after s cs) (length out))) (acting s cs + 1) (acting s cs)
acting s (report ∷ cs) = acting s cs
acting s (recording i r b ∷ cs) = acting s cs
