-- An AUX carries the value that was accepted first, as a claim about whole lists of calls (calls/Machine), at every concentrator: about what was
-- accepted at the moments of its session, not about the mark that the state has of it. Restores and recordings are among the calls (PROTOCOL 16.20).
use Rattle.std.specs.Prelude.{ℕ, ◌-◌, ◌≤◌, Bool, true, false, cond, ◌&&◌, ◌||◌, not, List, [], ◌∷◌, ◌≡◌, Option, Some, None, Ok}
use Rattle.settings.specs.declared.Settings.{Settings}
use Rattle.votes.specs.Votes.{accepted}
use Rattle.session.specs.Session.{settings_of}
use Rattle.wire.specs.declared.Message.TheVariants.{Aux}
use Rattle.turn.specs.declared.Outcome.TheVariants.{Sent}
use Rattle.journal.specs.Journal.{turned_outcome}
use Rattle.restore.specs.Complete.{lines_of}
use Rattle.restore.specs.Restoring.{Point, first_line, next_line}
use Rattle.calls.specs.Machine.{Call, opening, delivery, turn, report, restore, recording, words, traced}
use Rattle.calls.specs.Engine.{engine}
use Rattle.turn_bound.specs.TurnBound.{same_words}

-- the words at the moments of a session, newest first: the newest are on top of those before, if it has begun
abbrev pub another : List ℕ → List (List ℕ) → List (List ℕ)
another w [] = []
another w (u ∷ us) = w ∷ u ∷ us

-- .. after a line of a journal; none where it cannot be applied
abbrev pub onward : Option Point → List (List ℕ) → List (List ℕ)
onward None us = []
onward (Some x) us = x.words ∷ us

-- .. after each of some further lines
unfoldable pub after_lines : List (List ℕ) → List (List ℕ) → List (List ℕ)
after_lines us [] = us
after_lines [] (b ∷ bs) = []
after_lines (u ∷ us) (b ∷ bs) = after_lines (onward (next_line u b) (u ∷ us)) bs

-- .. after each of the complete lines of a journal, from the opening line on
unfoldable pub line_moments : List (List ℕ) → List (List ℕ)
line_moments [] = []
line_moments (b ∷ bs) = after_lines (onward (first_line b) []) bs

-- the moments after a call on the words w, where they were us before. An accepted opening begins a session; so does an accepted restore, with a
-- moment after each line that it kept. A refused one leaves the buffer as it found it: the session goes on where its words are still there.
abbrev pub moments_after : Call engine → List ℕ → List (List ℕ) → List (List ℕ)
moments_after (opening p o) w us = cond (engine.opens w o) (engine.opened w o ∷ []) us
moments_after (delivery p m b) w us = another (engine.delivered w m b) us
moments_after (turn p l) w us = another (engine.turned w l) us
moments_after (report p r) w us = us
moments_after (restore p v r) w us = cond (engine.restores v r) (line_moments (lines_of r.journal)) (cond (same_words v w) us [])
moments_after (recording p x) w us = another (engine.recorded w x) us

-- the moments of the session at q after a list of calls: none before any is begun, nor where a refused restore found other words
unfoldable pub moments_at : (ℕ → List ℕ) → List (Call engine) → ℕ → List (List ℕ)
moments_at start cs q = traced engine start moments_after [] cs q

-- of the values 0 and 1, b is accepted in round r of vote i, and the other one is not
unfoldable pub alone : Settings → ℕ → ℕ → ℕ → List ℕ → Bool
alone g i r b w = accepted g w i r b && not (accepted g w i r (1 - b))

-- .. at one of these moments
unfoldable pub sometime : (List ℕ → Bool) → List (List ℕ) → Bool
sometime P [] = false
sometime P (u ∷ us) = P u || sometime P us

-- b was accepted first: it was accepted while the other value was not, and never was it the other way round
pub record First (g : Settings) (us : List (List ℕ)) (i r b : ℕ) : Type 0 where
  pub bit : b ≤ 1
  pub before : sometime (alone g i r b) us ≡ true
  pub never : sometime (alone g i r (1 - b)) us ≡ false

-- what holds of a session whose newest moment is w, where the buffer holds v: a turn that is lent any numbers of bytes for its message and its
-- line, and sends an AUX, sends the value accepted first in its vote and round
pub record Carrying (v w : List ℕ) (us : List (List ℕ)) : Type 0 where
  pub current : v ≡ w
  pub first : (room line i r b : ℕ) → turned_outcome w room line ≡ Ok (Sent (Aux i r b)) → First (settings_of w) (w ∷ us) i r b

-- for every buffer, whatever it holds, every list of calls and every concentrator at which a session was opened or restored
unfoldable pub AcceptedFirst : Type 0
AcceptedFirst = (start : ℕ → List ℕ) (cs : List (Call engine)) (q : ℕ) (w : List ℕ) (us : List (List ℕ)) → moments_at start cs q ≡ w ∷ us → Carrying (words engine start cs q) w us
