-- An act that is due in the engine's words has its evidence there.
use Rattle.std.specs.Prelude.{ℕ, ◌+◌, ◌*◌, ◌≤◌, Bool, true, false, ◌&&◌, ◌||◌, List, ◌⊎◌, ◌≡◌, length, Some, None, Option}
use Rattle.std.proofs.Math.Bool.{and-false}
use Rattle.std.proofs.Common.{true≢false, ◌∙◌, arith}
use Rattle.std.proofs.Math.Logic.{inl, inr}
use Rattle.std.proofs.Math.Path.{refl, sym}
use Rattle.std.proofs.Math.Decide.{ℕ_discrete}
use Rattle.std.proofs.Math.Dec.{eqb}
use borrow.Author.Tests.{eqb-true, leb-true}
use Rattle.quorum.specs.laws.Bools.{and_left, and_right}
use Rattle.settings.specs.Settings.{quorum, repeat, relay, accept}
use Rattle.settings.specs.Rules.{Ruled}
use Rattle.settings.specs.declared.Settings.{Settings}
use Rattle.records.specs.Records.{echo_held, echo_value, ready_held, ready_value, est_held, aux_held, finish_held, commit_set}
use Rattle.acts.specs.declared.Act as acts
use Rattle.acts.specs.declared.Act.TheVariants as act
use Rattle.acts.specs.declared.View.{View}
use Rattle.acts.specs.declared.View.TheVariants.{Only, Both}
use Rattle.broadcasts.specs.Leading.{present, holders}
use Rattle.broadcasts.specs.Broadcasts.{output}
use Rattle.broadcasts.specs.laws.Broadcasts.{ready_rests, output_holders}
use Rattle.votes.specs.Votes.{est_count, accepted, carries, carriers, aux_count}
use Rattle.votes.specs.Finishing.{finish_count}
use Rattle.votes.specs.laws.Told.{Among, MoveTold, DecidedAs, FinishTold}
use Rattle.commits.specs.Commits.{commit_held, same_set, set_holders}
use Rattle.commits.specs.laws.Sets.{same_set_lem}
use Rattle.session.specs.Session.{settings_of}
use Rattle.exits.specs.Exits.{exit_now}
use Rattle.turn.specs.Due.{commit_due}
use Rattle.turn.specs.laws.Told.{ActTold, SetHeld, Rests, on_exit, on_copies}
use Rattle.agreement.specs.Evidence.{World, whole}
use Rattle.agreement.proofs.laws.Thresholds.{by_quorum, by_vote_quorum, by_repeat, by_relay, by_accept}
use Rattle.agreement.specs.History.{Act, Occurs, Decision, zero, one, Names}
use Rattle.held.specs.laws.Held.{ECHO, READY, EST, COMMIT, FINISH, Numbered, Voting}
use Rattle.agreement.proofs.laws.Runs.{HeldFrom, Carried, MoveDue, Due, OutputsHeld}
use Rattle.agreement.proofs.laws.EngineSeen.{engine_seen}
use Rattle.agreement.proofs.laws.EngineReading.{shown_act}

-- of two tests, each under a condition, one passes
some_held : (a b x y : Bool) → (a && x) || (b && y) ≡ true → (x ≡ true) ⊎ (y ≡ true)
some_held a b true y e = inl refl
some_held a b false true e = inr refl
some_held a b false false e = absurd (true≢false (sym e ∙ rw (and-false a, and-false b)))

-- a broadcast that has output has a value
present_value : (x : Option ℕ) → present x ≡ true → (v : ℕ) × (x ≡ Some v)
present_value (Some v) e = (v, refl)
present_value None e = absurd (true≢false (sym e))

-- an act that shows is due
abbrev pub ShownDue : World → List ℕ → Option Act → Type 0
ShownDue W s None = Unit {0}
ShownDue W s (Some a) = Due W engine_seen s a

module _ (s : List ℕ) (ruled : Ruled (settings_of s)) (size : length s ≡ 2048) (H : ℕ → Bool) (coin : ℕ → ℕ → Bool) where
  abbrev g : Settings
  g = settings_of s

  abbrev W : World
  W = record { settings = g; honest = H; coin = coin }

  numbered : {i : ℕ} → Among g.n i → Numbered i
  numbered a = record { low = a.low; high = omega (arith, a.high, ruled.few) }

  voting : {i r b : ℕ} → Among g.n i → 1 ≤ r → r ≤ 32 → b ≤ 1 → Voting i r b
  voting a low high bit = record { instance = numbered a; first = low; last = high; bit = bit }

  -- ---- broadcasts

  echoes_held : (i v : ℕ) → Numbered i → quorum g ≤ holders g (echo_held s i) (echo_value s i) v → HeldFrom W engine_seen s (whole W) g.ts (ECHO i v)
  unfolding holders
  echoes_held i v n h =
      by_quorum W ruled (λ p. echo_held s i p && eqb (echo_value s i p) v)
      (λ m lo hi t. record { instance = n; there = and_left (echo_held s i m) (eqb (echo_value s i m) v) t; same = eqb-true (echo_value s i m) v (and_right (echo_held s i m) (eqb (echo_value s i m) v) t) }) h

  abbrev readies : ℕ → ℕ → ℕ → Bool
  readies i v p = ready_held s i p && eqb (ready_value s i p) v

  ready_held_lem : (i v : ℕ) → Numbered i → (m : ℕ) → readies i v m ≡ true → engine_seen.holds s m (READY i v)
  ready_held_lem i v n m t =
      record { instance = n; there = and_left (ready_held s i m) (eqb (ready_value s i m) v) t; same = eqb-true (ready_value s i m) v (and_right (ready_held s i m) (eqb (ready_value s i m) v) t) }

  ready_due_lem : (i v : ℕ) → Numbered i → (quorum g ≤ holders g (echo_held s i) (echo_value s i) v) ⊎ (repeat g ≤ holders g (ready_held s i) (ready_value s i) v) → HeldFrom W engine_seen s (whole W) g.ts (ECHO i v) ⊎ HeldFrom W engine_seen s (g.ts + 1) 0 (READY i v)
  unfolding holders
  ready_due_lem i v n (inl h) = inl (echoes_held i v n h)
  ready_due_lem i v n (inr h) = inr (by_repeat W ruled (readies i v) (λ m lo hi t. ready_held_lem i v n m t) h)

  -- an output has its READYs
  pub outputs_held : OutputsHeld W engine_seen s
  unfolding holders
  outputs_held i v lo hi e =
      by_quorum W ruled (readies i v) (λ m a b t. ready_held_lem i v (numbered (record { low = lo; high = hi })) m t) (output_holders g s i v e).enough

  -- ---- votes

  relay_due : (i r b : ℕ) → Voting i r b → relay g ≤ est_count g s i r b → HeldFrom W engine_seen s (g.ta + 1) 0 (EST i r b)
  unfolding est_count
  relay_due i r b v h = by_relay W ruled (est_held s i r b) (λ m lo hi t. record { vote = v; there = t }) h

  accepted_due : (i r b : ℕ) → Voting i r b → accepted g s i r b ≡ true → HeldFrom W engine_seen s (2 * g.ta + 1) 0 (EST i r b)
  unfolding accepted est_count
  accepted_due i r b v h = by_accept W ruled (est_held s i r b) (λ m lo hi t. record { vote = v; there = t }) (leb-true (accept g) (est_count g s i r b) h)

  -- an AUX of m that carries b, which the view has
  carried : (i r b : ℕ) (v : View) (m : ℕ) → Voting i r b → Occurs b v → aux_held s i r b m ≡ true → Carried W engine_seen s i r v m
  carried i r b v m x occurs t = record { value = b; occurs = occurs; held = record { vote = x; there = t } }

  -- where the AUX of m carries an accepted value it carries 0 or 1
  either : (i r m : ℕ) → Voting i r 0 → Voting i r 1 → (a0 a1 : Bool) → (a0 && aux_held s i r 0 m) || (a1 && aux_held s i r 1 m) ≡ true → Carried W engine_seen s i r Both m
  either i r m z o a0 a1 t = of (some_held a0 a1 (aux_held s i r 0 m) (aux_held s i r 1 m) t)
    where
      of : (aux_held s i r 0 m ≡ true) ⊎ (aux_held s i r 1 m ≡ true) → Carried W engine_seen s i r Both m
      of (inl e) = carried i r 0 Both m z (inl refl) e
      of (inr e) = carried i r 1 Both m o (inr refl) e

  move_due : (i r : ℕ) (v : View) → Among g.n i → MoveTold g s i r v → MoveDue W engine_seen s i r v
  unfolding aux_count carriers carries
  move_due i r (Only b) a x =
      let y : Voting i r b = voting a x.low x.high x.shown.bit in
      record {
        round = x.low;
        quorum = by_vote_quorum W ruled (aux_held s i r b) (λ m lo hi t. carried i r b (Only b) m y refl t) x.shown.carried;
        accepted = λ c e. rw e (accepted_due i r b y x.shown.is_accepted);
      }
  move_due i r Both a x =
      let z : Voting i r 0 = voting a x.low x.high (omega arith) in
      let o : Voting i r 1 = voting a x.low x.high (omega arith) in
      record {
        round = x.low;
        quorum =
            by_vote_quorum W ruled (λ p. (accepted g s i r 0 && aux_held s i r 0 p) || (accepted g s i r 1 && aux_held s i r 1 p))
            (λ m lo hi t. either i r m z o (accepted g s i r 0) (accepted g s i r 1) t) x.enough;
        accepted = λ c e. both_accepted c e z o;
      }
    where
      both_accepted : (c : ℕ) → Occurs c Both → Voting i r 0 → Voting i r 1 → HeldFrom W engine_seen s (2 * g.ta + 1) 0 (EST i r c)
      both_accepted c (inl e) z o = rw e (accepted_due i r 0 z x.shown.zero_accepted)
      both_accepted c (inr e) z o = rw e (accepted_due i r 1 o x.shown.one_accepted)

  -- ---- FINISH

  decision : (i b : ℕ) → b ≤ 1 → DecidedAs s i b → Decision (engine_seen.standing s) i b
  decision i b bit d = of (ℕ_discrete b 0)
    where
      of : Dec (b ≡ 0) → Decision (engine_seen.standing s) i b
      of (yes e) = rw e (zero (d.0 e))
      of (no ne) = let e : b ≡ 1 = omega (arith, bit, ne) in rw e (one (d.1 e))

  finish_due : (i b : ℕ) → Among g.n i → FinishTold g s i b → ((1 ≤ i) × (i ≤ g.n) × Decision (engine_seen.standing s) i b) ⊎ HeldFrom W engine_seen s (g.ta + 1) 0 (FINISH i b)
  unfolding finish_count
  finish_due i b a x = of x.basis
    where
      of : DecidedAs s i b ⊎ (relay g ≤ finish_count g s i b) → ((1 ≤ i) × (i ≤ g.n) × Decision (engine_seen.standing s) i b) ⊎ HeldFrom W engine_seen s (g.ta + 1) 0 (FINISH i b)
      of (inl d) = inl (a.low, a.high, decision i b x.bit d)
      of (inr h) = inr (by_relay W ruled (finish_held s i b) (λ m lo hi t. record { instance = numbered a; bit = x.bit; there = t }) h)

  -- ---- COMMIT

  abbrev holding : ℕ → ℕ → Bool
  holding p q = commit_held s q && same_set s p q

  -- the COMMIT of q holds the set of p
  commit_held_lem : (p q : ℕ) → p ≤ g.n → q ≤ g.n → holding p q ≡ true → engine_seen.holds s q (COMMIT (commit_set s p))
  commit_held_lem p q hp hq t =
      record {
        there = and_left (commit_held s q) (same_set s p q) t;
        same = same_set_lem s p q size (omega (arith, ruled.few)) (omega (arith, ruled.few)) (and_right (commit_held s q) (same_set s p q) t);
      }

  copies_due : (p : ℕ) → SetHeld g s (repeat g) p → HeldFrom W engine_seen s (g.ts + 1) 0 (COMMIT (commit_set s p))
  unfolding set_holders
  copies_due p x = by_repeat W ruled (holding p) (λ m lo hi t. commit_held_lem p m x.high hi t) x.enough

  -- a quorum of senders holds the set of p
  pub force_due : (p : ℕ) → SetHeld g s (quorum g) p → HeldFrom W engine_seen s (whole W) g.ts (COMMIT (commit_set s p))
  unfolding set_holders
  force_due p x = by_quorum W ruled (holding p) (λ m lo hi t. commit_held_lem p m x.high hi t) x.enough

  commit_due_lem : Rests g s → Names g (engine_seen.standing s) (commit_due g s) ⊎ HeldFrom W engine_seen s (g.ts + 1) 0 (COMMIT (commit_due g s))
  unfolding exit_now
  commit_due_lem (on_exit exits same) = inl (record { exit = exits; set = sym same })
  commit_due_lem (on_copies p x same) = inr (rw same (copies_due p x))

  -- ---- every act

  pub shown_due : (a : acts.Act) → ActTold g s a → ShownDue W s (shown_act g s a)
  shown_due act.Idle x = tt
  shown_due act.InForce x = tt
  shown_due (act.Commit k) x = commit_due_lem x.rests
  shown_due (act.Send v) x = tt
  shown_due (act.Echo i v) x =
      (λ e. true≢false (sym e ∙ x.unsent), record { instance = numbered x.among; there = x.held; same = sym x.same })
  shown_due (act.Ready i v) x = ready_due_lem i v (numbered x.among) (ready_rests g s i v x.rests)
  shown_due (act.Start i b) x = λ e. present_value (output g s i) (x.1.one e)
  shown_due (act.Relay i r b) x = relay_due i r b (voting x.0 x.1.low x.1.high x.1.bit) x.1.held
  shown_due (act.Aux i r b) x = λ e. true≢false (sym e.1 ∙ x.1.unsent)
  shown_due (act.Move i r v) x = move_due i r v x.0 x.1
  shown_due (act.Finish i b) x = finish_due i b x.0 x.1
