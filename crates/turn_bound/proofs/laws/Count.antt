-- A session that goes on: after any steps its words are sound, and the count is that of the turns that acted.
use Rattle.std.specs.Prelude.{ℕ, ◌+◌, Bool, ◌≡◌, length, Ok}
use Rattle.std.proofs.Math.Bool.{true, false, cond}
use mathlib.Core.List.{List, [], ◌∷◌}
use Rattle.std.proofs.Math.Path.{refl, ap}
use Rattle.std.proofs.Common.{◌∙◌, arith}
use Rattle.settings.specs.Rules.{Ruled}
use Rattle.records.specs.Layout.{turns_at}
use Rattle.records.specs.Words.{word}
use Rattle.session.specs.Session.{settings_of, is_state}
use Rattle.opening.specs.Arguments.{Arguments}
use Rattle.opening.specs.Opening.{open_answer, opened}
use Rattle.turn.specs.Turn.{turn_outcome}
use Rattle.journal.specs.Journal.{acts}
use Rattle.report.specs.Report.{figures_of}
use Rattle.report.specs.laws.Report.{report_gives}
use Rattle.turn_bound.specs.TurnBound.{Terms, terms_by, Reports, Counted}
use Rattle.turn_bound.proofs.laws.Steps.{Step, opening, delivery, turn, report, recording, after, current, acting}
use Rattle.turn_bound.proofs.laws.Sound.{Sound, sound_bound, sound_state}
use Rattle.turn_bound.proofs.laws.Delivering.{delivery_sound}
use Rattle.turn_bound.proofs.laws.Recorded.{recording_sound}
use Rattle.turn_bound.proofs.laws.Turning.{turn_sound}
use Rattle.turn_bound.proofs.laws.Opened.{opened_ruled, opened_sound, opened_turns}
use Rattle.std.specs.Result.{is_ok}
use Rattle.settings.specs.laws.Answers.{true_taken}

-- a state's report gives its stored count
told : (w : List ℕ) (k : ℕ) → is_state w ≡ true → word w turns_at ≡ k → Reports w k
unfolding figures_of
told w k is e = record { figures = figures_of (settings_of w) w; given = report_gives w is 16 16 (omega arith) (omega arith); count = e }

-- a session of version and settings g goes on in the words w
pub record Going (g : Terms) (w : List ℕ) (k : ℕ) : Type 0 where
  pub ruled : Ruled g.settings
  pub sound : Sound g w
  pub count : word w turns_at ≡ k

pub opening_going : (w : List ℕ) (o : Arguments) → open_answer (length w) o ≡ Ok tt → Going (terms_by o) (opened w o) 0
opening_going w o e =
    record {
      ruled = opened_ruled w o e;
      sound = opened_sound w o e;
      count = opened_turns w o e;
    }

pub refused_words : (w : List ℕ) (o : Arguments) → is_ok (open_answer (length w) o) ≡ false → opened w o ≡ w
unfolding opened
refused_words w o e = rw e

module _ (g : Terms) (s : List ℕ) (start : Going g s 0) where
  pub going : (cs : List Step) → Going (current g s cs) (after s cs) (acting s cs)
  unfolding current after acting
  going [] = start
  going (opening o ∷ cs) = at (is_ok (open_answer (length (after s cs)) o)) refl (going cs)
    where
      at : (b : Bool) → is_ok (open_answer (length (after s cs)) o) ≡ b → Going (current g s cs) (after s cs) (acting s cs) →
          Going (cond b (terms_by o) (current g s cs)) (opened (after s cs) o) (cond b 0 (acting s cs))
      at true e x = opening_going (after s cs) o (true_taken (open_answer (length (after s cs)) o) e)
      at false e x = rw (refused_words (after s cs) o e) x
  going (delivery link b ∷ cs) =
      let x = going cs in
      let y = delivery_sound (current g s cs) x.ruled (after s cs) x.sound link b in
      record { ruled = x.ruled; sound = y.sound; count = y.count ∙ x.count }
  going (turn out ∷ cs) =
      let x = going cs in
      let y = turn_sound (current g s cs) x.ruled (after s cs) x.sound out in
      record {
        ruled = x.ruled;
        sound = y.sound;
        count = y.count ∙ ap (λ (k : ℕ). cond (acts (turn_outcome (after s cs) (length out))) (k + 1) k) x.count;
      }
  going (report ∷ cs) = going cs
  going (recording i r b ∷ cs) =
      let x = going cs in
      let y = recording_sound (current g s cs) x.ruled (after s cs) x.sound i r b in
      record { ruled = x.ruled; sound = y.sound; count = y.count ∙ x.count }

pub going_counted : (g : Terms) (w : List ℕ) (k : ℕ) → Going g w k → Counted w (record { terms = g; turns = k })
going_counted g w k x =
    let is = sound_state g x.ruled w x.sound in
    record {
      stored = x.count;
      reported = told w k is x.count;
      bounded = omega (arith, x.count, sound_bound g x.ruled w x.sound);
      state = is;
    }
