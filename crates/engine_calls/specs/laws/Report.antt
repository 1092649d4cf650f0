-- A report that gives figures shows the sets that one lent 16 words for each would show.
use Rattle.std.specs.Prelude.{ℕ, ◌≤◌, true, List, ◌≢◌, ◌≡◌, refl, length, take, Result, Ok, Err}
use Rattle.std.proofs.Common.{sym, ap, ◌∙◌, arith}
use Rattle.records.specs.Words.{blank}
use Rattle.records.specs.laws.Fill.{length_blank}
use Rattle.session.specs.Session.{is_state, settings_of}
use Rattle.session.specs.laws.Session.{state_is}
use Rattle.exits.specs.Exits.{exit_now}
use Rattle.wire.specs.Message.{at_front}
use Rattle.report.specs.Report.{figures_of, in_force_set, admits, giving, report_answer, report_named, report_in_force}
use Rattle.report.specs.laws.Report.{Reported, reported, admitting, report_gives, report_names, report_enforces, front_read}
use Rattle.report.specs.declared.Figures.{Figures}
use Rattle.calls.specs.Engine.{ReportNames, ReportEnforces}
use Rattle.engine_calls.specs.Answers.{ReportsAs}
use Rattle.settings.specs.declared.Settings.{Settings}
use Rattle.settings.specs.declared.refusal.Refusal.{Refusal}

-- a set is read from the front of the words that were lent for it
set_read : (k : ℕ) (xs old all : List ℕ) → all ≡ at_front xs old → k ≡ length xs → take k all ≡ xs
set_read k xs old all f h = ap (take k) f ∙ ap (λ (n : ℕ). take n (at_front xs old)) h ∙ front_read xs old

-- figures are given only where there is room for both sets
given_room : (w : List ℕ) (a b : ℕ) (f : Figures) → report_answer w a b ≡ Ok f → (16 ≤ a) × (16 ≤ b)
unfolding giving report_answer
given_room w a b f e = of (admits w a b) refl e
  where
    of : (v : Result Settings Refusal) → admits w a b ≡ v → giving v Err (λ g. Ok (figures_of g w)) ≡ Ok f → (16 ≤ a) × (16 ≤ b)
    of (Err k) t h = absurd (let z : ◌≡◌ {A = ℕ} 0 1 = cc in omega arith)
    of (Ok g) t h = ((admitting w a b g t).named_room, (admitting w a b g t).in_force_room)

module _ (w named by_in_force : List ℕ) (f : Figures) (e : report_answer w (length named) (length by_in_force) ≡ Ok f) where
  told : Reported w f
  told = reported w (length named) (length by_in_force) f e

  is : is_state w ≡ true
  is = state_is w told.state

  room : (16 ≤ length named) × (16 ≤ length by_in_force)
  room = given_room w (length named) (length by_in_force) f e

  with_sixteen : report_answer w 16 16 ≡ Ok f
  with_sixteen = report_gives w is 16 16 (omega arith) (omega arith) ∙ ap Ok (sym told.same)

  sixteen_blank : 16 ≤ length (blank 16)
  sixteen_blank = omega (arith, length_blank 16)

  named_read : (old all : List ℕ) → all ≡ at_front (exit_now (settings_of w) w).names old → take f.named all ≡ (exit_now (settings_of w) w).names
  unfolding figures_of
  named_read old all p = set_read f.named _ old all p (ap (λ (x : Figures). x.named) told.same)

  in_force_read : (old all : List ℕ) → all ≡ at_front (in_force_set (settings_of w) w) old → take f.in_force all ≡ in_force_set (settings_of w) w
  unfolding figures_of
  in_force_read old all p = set_read f.in_force _ old all p (ap (λ (x : Figures). x.in_force) told.same)

  names_as : (after : List ℕ) → after ≡ report_named w named (length by_in_force) → f.exit ≢ 0 → ReportNames w (take f.named after)
  names_as after p h =
      record {
        lent = blank 16;
        room = length_blank 16;
        figures = f;
        given = with_sixteen;
        exit = h;
        set =
            named_read named after (p ∙ report_names w is named (length by_in_force) room.0 room.1)
            ∙ sym (named_read (blank 16) (report_named w (blank 16) 16) (report_names w is (blank 16) 16 sixteen_blank (omega arith)));
      }

  enforces_as : (after : List ℕ) → after ≡ report_in_force w (length named) by_in_force → f.in_force ≢ 0 → ReportEnforces w (take f.in_force after)
  enforces_as after p h =
      record {
        lent = blank 16;
        room = length_blank 16;
        figures = f;
        given = with_sixteen;
        some = h;
        set =
            in_force_read by_in_force after (p ∙ report_enforces w is (length named) by_in_force room.0 room.1)
            ∙ sym (in_force_read (blank 16) (report_in_force w 16 (blank 16)) (report_enforces w is 16 (blank 16) (omega arith) sixteen_blank));
      }

pub reports_by : (w named by_in_force : List ℕ) (r : Result Figures Refusal) (named' in_force' : List ℕ) →
    r ≡ report_answer w (length named) (length by_in_force) → named' ≡ report_named w named (length by_in_force) → in_force' ≡ report_in_force w (length named) by_in_force →
    ReportsAs w r named' in_force'
reports_by w named by_in_force r named' in_force' e p q =
    record {
      names = λ f t h. names_as w named by_in_force f (sym e ∙ t) named' p h;
      enforces = λ f t h. enforces_as w named by_in_force f (sym e ∙ t) in_force' q h;
    }
