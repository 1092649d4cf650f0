-- What a report that is given tells, and when it is given.
use Rattle.std.specs.Prelude.{ℕ, ◌≤◌, Bool, true, false, ◌||◌, cond, List, ◌≡◌, refl, length, take, drop, ltb, Option, Some, None, Result, Ok, Err}
use Rattle.std.proofs.Common.{sym, ap, ◌∙◌, arith, take_at}
use borrow.Author.Tests.{ltb-false, le-ltb}
use Rattle.quorum.specs.laws.Bools.{or_passed}
use Rattle.settings.specs.laws.Versions.{bound_few}
use Rattle.records.specs.Records.{version}
use Rattle.settings.specs.declared.Settings.{Settings}
use Rattle.exits.specs.Exits.{exit_now}
use Rattle.session.specs.Session.{is_state, stored, settings_of, session_with, session_of}
use Rattle.session.specs.laws.Session.{State, Read, held_read}
use Rattle.session.specs.declared.Session.{Session}
use Rattle.report.specs.Report.{in_force_set, figures_of, admits, giving, report_answer, report_named, report_in_force}
use Rattle.report.specs.declared.Figures.{Figures}
use Rattle.report.specs.laws.Stored.{admitted_in, admitted_for, admits_stored}
use Rattle.wire.specs.Message.{at_front}
use Rattle.settings.specs.declared.refusal.Refusal.{Refusal}
use Rattle.settings.specs.declared.refusal.Refusal.TheVariants as refusal

-- the state has room lent for both sets
pub record Admitting (s : List ℕ) (a b : ℕ) (g : Settings) : Type 0 where
  pub state : State s
  pub same : g ≡ settings_of s
  pub named_room : 16 ≤ a
  pub in_force_room : 16 ≤ b

pub admitting : (s : List ℕ) (a b : ℕ) (g : Settings) → admits s a b ≡ Ok g → Admitting s a b g
unfolding admitted_for admitted_in session_of session_with
admitting s a b g e = of (stored s) refl (sym (admits_stored s a b) ∙ e)
  where
    settings_of_lem : (x : Session) → x ≡ session_of s → x.settings ≡ settings_of s
    settings_of_lem x r = ap (λ (y : Session). y.settings) r

    room : (x : Session) → Read s x → (t : Bool) → (ltb a 16 || ltb b 16) ≡ t → cond t (Err refusal.Short) (Ok x.settings) ≡ Ok g → Admitting s a b g
    room x r true p f = absurd (let z : ◌≡◌ {A = ℕ} 0 1 = cc in omega arith)
    room x r false p f =
        let q : x.settings ≡ g = cc in
        let both = or_passed (ltb a 16) (ltb b 16) p in
        record {
          state = r.state;
          same = sym q ∙ settings_of_lem x r.same;
          named_room = ltb-false a 16 both.0;
          in_force_room = ltb-false b 16 both.1;
        }

    of : (y : Option Session) → stored s ≡ y → admitted_for y a b ≡ Ok g → Admitting s a b g
    of None t f = absurd (let z : ◌≡◌ {A = ℕ} 0 1 = cc in omega arith)
    of (Some x) t f = room x (held_read s x t) (ltb a 16 || ltb b 16) refl f

-- the state whose figures a report gives
pub record Reported (s : List ℕ) (f : Figures) : Type 0 where
  pub state : State s
  pub same : f ≡ figures_of (settings_of s) s

pub reported : (s : List ℕ) (a b : ℕ) (f : Figures) → report_answer s a b ≡ Ok f → Reported s f
unfolding giving report_answer
reported s a b f e = of (admits s a b) refl e
  where
    of : (v : Result Settings Refusal) → admits s a b ≡ v → giving v Err (λ g. Ok (figures_of g s)) ≡ Ok f → Reported s f
    of (Err k) t h = absurd (let z : ◌≡◌ {A = ℕ} 0 1 = cc in omega arith)
    of (Ok g) t h =
        let x : Admitting s a b g = admitting s a b g t in
        let q : figures_of g s ≡ f = cc in
        record { state = x.state; same = sym q ∙ ap (λ (y : Settings). figures_of y s) x.same }

-- the turn bound of 16 concentrators (PROTOCOL 8.20)
pub turns_few : (s : List ℕ) (f : Figures) → Reported s f → f.turns ≤ 1603
unfolding figures_of
turns_few s f r = rw r.same (omega (arith, r.state.turns, bound_few (version s) (settings_of s) r.state.ruled))

-- a state lent 16 words for each set gives its figures and sets
module _ (s : List ℕ) (e : is_state s ≡ true) where
  gives : (a b : ℕ) → 16 ≤ a → 16 ≤ b → admits s a b ≡ Ok (settings_of s)
  unfolding admits
  gives a b h k = rw (e, le-ltb a 16 h, le-ltb b 16 k)

  pub report_gives : (a b : ℕ) → 16 ≤ a → 16 ≤ b → report_answer s a b ≡ Ok (figures_of (settings_of s) s)
  unfolding giving report_answer
  report_gives a b h k = rw (gives a b h k)

  pub report_names : (old : List ℕ) (b : ℕ) → 16 ≤ length old → 16 ≤ b → report_named s old b ≡ at_front (exit_now (settings_of s) s).names old
  unfolding giving report_named
  report_names old b h k = rw (gives (length old) b h k)

  pub report_enforces : (a : ℕ) (old : List ℕ) → 16 ≤ a → 16 ≤ length old → report_in_force s a old ≡ at_front (in_force_set (settings_of s) s) old
  unfolding giving report_in_force
  report_enforces a old h k = rw (gives a (length old) h k)

-- a set at the front is read back by its count
pub front_read : (xs old : List ℕ) → take (length xs) (at_front xs old) ≡ xs
unfolding at_front
front_read xs old = take_at xs (drop (length xs) old) (length xs) refl
