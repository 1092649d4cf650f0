-- The laws of the report, of the engine: what it names is what the exits name, and a set in force has its COMMITs.
use Rattle.std.specs.Prelude.{ℕ, Bool, List, ◌≢◌, length, take, Result, Ok, Err, Some}
use Rattle.std.proofs.Math.Bool.{true, false}
use Rattle.std.proofs.Math.Path.{◌≡◌, refl, sym, subst}
use Rattle.std.proofs.Common.{ap, ◌∙◌, arith}
use Rattle.std.proofs.Math.Decide.{ℕ_discrete}
use borrow.Author.Tests.{eq-eqb, ne_eqb}
use Rattle.settings.specs.Settings.{quorum}
use Rattle.settings.specs.Rules.{Ruled}
use Rattle.settings.specs.declared.Settings.{Settings}
use Rattle.records.specs.Words.{blank}
use Rattle.records.specs.laws.Fill.{length_blank}
use Rattle.records.specs.Records.{closed, commit_set}
use Rattle.commits.specs.Commits.{set_leader, set_of, leading_set}
use Rattle.session.specs.Session.{settings_of, is_state}
use Rattle.session.specs.laws.Session.{State, state_is}
use Rattle.exits.specs.Exits.{exit_now}
use Rattle.opening.specs.Arguments.{settings_by}
use Rattle.turn.specs.laws.Due.{leader_holds}
use Rattle.turn.specs.laws.Admitting.{admitting}
use Rattle.turn.specs.Turn.{admits}
use Rattle.report.specs.Report.{in_force_set, figures_of, report_named, report_in_force}
use Rattle.report.specs.laws.Report.{Reported, reported, report_gives, report_names, report_enforces, front_read}
use Rattle.report.specs.declared.Figures.{Figures}
use Rattle.agreement.specs.Evidence.{World, whole}
use Rattle.agreement.specs.History.{Act, Names}
use Rattle.held.specs.laws.Held.{COMMIT}
use Rattle.agreement.proofs.laws.Runs.{HeldFrom, OutputsHeld}
use Rattle.agreement.proofs.laws.Worlds.{world_with}
use Rattle.calls.specs.Engine.{OpeningGiven, agreed, TurnLent, ReportNames, ReportEnforces, engine}
use Rattle.agreement.proofs.laws.EngineSeen.{engine_seen}
use Rattle.agreement.proofs.laws.EngineLent.{for_message}
use Rattle.agreement.proofs.laws.EngineReading.{Belongs, settings_same, admitted_act, act_of}
use Rattle.agreement.proofs.laws.EngineDue.{outputs_held, force_due}
use Rattle.wire.specs.Message.{at_front}
use Rattle.session.specs.declared.Session.{Session}
use Rattle.settings.specs.declared.refusal.Refusal.{Refusal}

-- a set is read from the front of the words that were lent for it
read_set : (k : ℕ) (xs old all X : List ℕ) → X ≡ take k all → all ≡ at_front xs old → k ≡ length xs → X ≡ xs
read_set k xs old all X e f h = e ∙ ap (take k) f ∙ ap (λ (n : ℕ). take n (at_front xs old)) h ∙ front_read xs old

module _ (o : OpeningGiven) (H : ℕ → Bool) (κ : ℕ → ℕ → Bool) (w : List ℕ) (x : Belongs o w) where
  abbrev W : World
  W = world_with engine (agreed o.given) H κ

  -- what holds with the stored settings holds with those of the opening
  with_settings_lem : (P : Settings → Type 0) → P (settings_of w) → P (settings_by o.given)
  with_settings_lem P h = subst P (settings_same o w x) h

  ruled : Ruled (settings_of w)
  ruled = rw (settings_same o w x) x.ruled

  pub outputs_have_readies : OutputsHeld W engine_seen w
  outputs_have_readies =
      with_settings_lem (λ (y : Settings). OutputsHeld (record { settings = y; honest = H; coin = W.coin }) engine_seen w) (outputs_held w ruled x.size H W.coin)

  -- ---- the set that the exits name

  pub names_exits : (X : List ℕ) → ReportNames w X → Names W.settings (engine_seen.standing w) X
  unfolding exit_now figures_of
  names_exits X h =
      with_settings_lem (λ (y : Settings). Names y (engine_seen.standing w) X)
      (of (reported w 16 16 h.figures h.given))
    where
      of : Reported w h.figures → Names (settings_of w) (engine_seen.standing w) X
      of r =
          let is : is_state w ≡ true = state_is w r.state in
          record {
            exit = λ e. h.exit (ap (λ (f : Figures). f.exit) r.same ∙ e);
            set =
                sym (
                read_set h.figures.named (exit_now (settings_of w) w).names h.lent (report_named w h.lent 16) X h.set
                (report_names w is h.lent 16 (omega (arith, h.room)) (omega arith)) (ap (λ (f : Figures). f.named) r.same)
                );
          }

  -- a turn that acts has a state, and its report is given
  acting_state : (l : TurnLent) (a : Act) → act_of w l ≡ Some a → State w
  unfolding act_of admitted_act
  acting_state l a e = go (admits w (length (for_message l))) refl e
    where
      go : (v : Result Session Refusal) → admits w (length (for_message l)) ≡ v → admitted_act v w ≡ Some a → State w
      go (Err k) f h = absurd (let z : ◌≡◌ {A = ℕ} 0 1 = cc in omega arith)
      go (Ok y) f h = (admitting w (length (for_message l)) y f).state

  pub exits_names : (l : TurnLent) (a : Act) → act_of w l ≡ Some a → (X : List ℕ) → Names W.settings (engine_seen.standing w) X → ReportNames w X
  unfolding exit_now figures_of
  exits_names l a e X h =
      let is : is_state w ≡ true = state_is w (acting_state l a e) in
      let n : Names (settings_of w) (engine_seen.standing w) X = subst (λ (y : Settings). Names y (engine_seen.standing w) X) (sym (settings_same o w x)) h in
      record {
        lent = blank 16;
        room = length_blank 16;
        figures = figures_of (settings_of w) w;
        given = report_gives w is 16 16 (omega arith) (omega arith);
        exit = n.exit;
        set =
            sym n.set
            ∙ sym (
            read_set (length (exit_now (settings_of w) w).names) (exit_now (settings_of w) w).names (blank 16) (report_named w (blank 16) 16)
            (take (length (exit_now (settings_of w) w).names) (report_named w (blank 16) 16)) refl (report_names w is (blank 16) 16 (omega (arith, length_blank 16)) (omega arith)) refl
            );
      }

  -- ---- the set in force

  -- a set that leads is that of a sender
  record Leads (g : Settings) : Type 0 where
    sender : ℕ
    leads : set_leader g w (quorum g) ≢ 0
    same : in_force_set g w ≡ commit_set w (set_leader g w (quorum g))

  leading : (g : Settings) → length (in_force_set g w) ≢ 0 → Leads g
  unfolding in_force_set leading_set set_of
  leading g ne = go (closed w) refl (ℕ_discrete (set_leader g w (quorum g)) 0)
    where
      go : (c : Bool) → closed w ≡ c → Dec (set_leader g w (quorum g) ≡ 0) → Leads g
      go false e d = absurd (ne (rw e))
      go true e (yes z) = absurd (ne (rw (e, eq-eqb (set_leader g w (quorum g)) 0 z)))
      go true e (no z) = record { sender = set_leader g w (quorum g); leads = z; same = rw (e, ne_eqb (set_leader g w (quorum g)) 0 z) }

  pub force_held : (X : List ℕ) → ReportEnforces w X → HeldFrom W engine_seen w (whole W) W.settings.ts (COMMIT X)
  unfolding figures_of
  force_held X h =
      with_settings_lem (λ (y : Settings). HeldFrom (record { settings = y; honest = H; coin = W.coin }) engine_seen w (whole (record { settings = y; honest = H; coin = W.coin })) y.ts (COMMIT X))
      (of (reported w 16 16 h.figures h.given))
    where
      with_leader : X ≡ in_force_set (settings_of w) w → Leads (settings_of w) → HeldFrom (record { settings = settings_of w; honest = H; coin = W.coin }) engine_seen w (whole (record { settings = settings_of w; honest = H; coin = W.coin })) (settings_of w).ts (COMMIT X)
      with_leader same l = rw (same ∙ l.same) (force_due w ruled x.size H W.coin (set_leader (settings_of w) w (quorum (settings_of w))) (leader_holds (settings_of w) w (quorum (settings_of w)) l.leads))

      of : Reported w h.figures → HeldFrom (record { settings = settings_of w; honest = H; coin = W.coin }) engine_seen w (whole (record { settings = settings_of w; honest = H; coin = W.coin })) (settings_of w).ts (COMMIT X)
      of r =
          let is : is_state w ≡ true = state_is w r.state in
          let count : h.figures.in_force ≡ length (in_force_set (settings_of w) w) = ap (λ (f : Figures). f.in_force) r.same in
          with_leader
          (read_set h.figures.in_force (in_force_set (settings_of w) w) h.lent (report_in_force w 16 h.lent) X h.set
          (report_enforces w is 16 h.lent (omega arith) (omega (arith, h.room))) count)
          (leading (settings_of w) (λ z. h.some (count ∙ z)))
