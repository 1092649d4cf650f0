-- Each act that is due has its evidence.
use Rattle.std.specs.Prelude.{ℕ, ◌≤◌, Bool, cond, ◌≢◌, ◌≡◌, leb}
use Rattle.std.proofs.Math.Bool.{true, false}
use mathlib.Core.List.{List, [], ◌∷◌}
use Rattle.std.proofs.Math.Path.{refl, ap}
use Rattle.std.proofs.Common.{sym, subst, ◌∙◌, length-take}
use native.Mathlib.Omega.{arith}
use Rattle.std.proofs.Math.ListN.{length}
use Rattle.std.proofs.Math.Dec.{eqb}
use borrow.Author.Tests.{eqb-false, leb-true}
use Rattle.quorum.specs.laws.Bools.{and_left, and_right}
use Rattle.settings.specs.Rules.{Ruled}
use Rattle.settings.specs.Settings.{quorum, repeat}
use Rattle.settings.specs.Versions.{finishing}
use Rattle.settings.specs.declared.Settings.{Settings}
use Rattle.quorum.specs.laws.Lowest.{Lowest, lowest_is}
use Rattle.records.specs.Layout.{input_at}
use Rattle.records.specs.Words.{word}
use Rattle.records.specs.Records.{send_sent, commit_sent, commit_count, commit_set, decided_zero, decided_one, version}
use Rattle.acts.specs.Acts.{or_act}
use Rattle.acts.specs.declared.Act.{Act}
use Rattle.acts.specs.declared.Act.TheVariants.{Idle, InForce, Commit, Send, Echo, Ready, Start, Relay, Aux, Move, Finish}
use Rattle.broadcasts.specs.Leading.{present}
use Rattle.broadcasts.specs.Broadcasts.{output, echo_rule, ready_rule}
use Rattle.broadcasts.specs.laws.Due.{echo_rule_holds, ready_rule_holds}
use Rattle.votes.specs.Votes.{votes_decided_one, vote_due, vote_rule}
use Rattle.acts.specs.laws.Choices.{all_cond, all_or, all_first}
use Rattle.votes.specs.laws.Told.{StartTold, Told, Among}
use Rattle.votes.specs.laws.Votes.{vote_told}
use Rattle.exits.specs.Exits.{Exit, no_exit}
use Rattle.exits.specs.laws.Stated.{single_exit, outputs_exit}
use Rattle.exits.proofs.laws.Exits.{names_few}
use Rattle.exits.proofs.laws.Ways.{Way, first, second, third, none, way}
use Rattle.commits.specs.Commits.{commit_held, set_holders, set_leads, set_leader, set_of, leading_set}
use Rattle.turn.specs.Due.{in_force_rule, or_set, commit_due, commit_of, commit_rule, send_rule, votes_rule, due}
use Rattle.exits.specs.Exits.{exit_now}
use Rattle.turn.specs.laws.Told.{SetHeld, Rests, on_exit, on_copies, CommitTold, Evidence, ActTold}

module _ (g : Settings) (s : List ℕ) (k : ℕ) where
  abbrev leader : ℕ
  leader = set_leader g s k

  -- the lowest sender with such a set has one
  pub leader_holds : leader ≢ 0 → SetHeld g s k leader
  unfolding set_leader set_leads
  leader_holds ne = of (lowest_is (set_leads g s k) g.n leader refl ne)
    where
      of : Lowest (set_leads g s k) g.n leader → SetHeld g s k leader
      of x =
          record {
            low = x.low;
            high = x.high;
            held = and_left (commit_held s leader) (leb k (set_holders g s leader)) x.holds;
            enough = leb-true k (set_holders g s leader) (and_right (commit_held s leader) (leb k (set_holders g s leader)) x.holds);
          }

  leading_some : 1 ≤ length (leading_set g s k) → (leader ≢ 0) × (leading_set g s k ≡ commit_set s leader)
  unfolding leading_set set_of
  leading_some h = go (eqb leader 0) refl h
    where
      go : (b : Bool) → eqb leader 0 ≡ b → 1 ≤ length (cond b [] (commit_set s leader)) → (leader ≢ 0) × (cond b [] (commit_set s leader) ≡ commit_set s leader)
      go true e l = absurd (omega arith)
      go false e l = (eqb-false leader 0 e, refl)

module _ (g : Settings) (s : List ℕ) where
  -- an exit that names values is one of the three
  named_number : 1 ≤ length (exit_now g s).names → (exit_now g s).number ≢ 0
  unfolding exit_now single_exit outputs_exit no_exit
  named_number h = go (exit_now g s) h (way g (output g s) (decided_zero s) (decided_one s))
    where
      go : (x : Exit) → 1 ≤ length x.names → Way g (output g s) (decided_zero s) (decided_one s) x → x.number ≢ 0
      go x l (first v ne f e) z = let n : x.number ≡ 1 = ap (λ (y : Exit). y.number) e in omega arith
      go x l (second v a d f e) z = let n : x.number ≡ 2 = ap (λ (y : Exit). y.number) e in omega arith
      go x l (third a d m f e) z = let n : x.number ≡ 3 = ap (λ (y : Exit). y.number) e in omega arith
      go x l (none a e) z = let n : length x.names ≡ 0 = ap (λ (y : Exit). length y.names) e in omega arith

  set_rests : 1 ≤ length (commit_due g s) → Rests g s
  unfolding commit_due or_set
  set_rests h = go (exit_now g s).names refl h
    where
      copies : (leading_set g s (repeat g) ≡ commit_due g s) → (set_leader g s (repeat g) ≢ 0) × (leading_set g s (repeat g) ≡ commit_set s (set_leader g s (repeat g))) → Rests g s
      copies e l = on_copies (set_leader g s (repeat g)) (leader_holds g s (repeat g) l.0) (sym e ∙ l.1)

      go : (xs : List ℕ) → (exit_now g s).names ≡ xs → 1 ≤ length (or_set xs (leading_set g s (repeat g))) → Rests g s
      go [] e l = copies (ap (λ (xs : List ℕ). or_set xs (leading_set g s (repeat g))) (sym e)) (leading_some g s (repeat g) l)
      go (x ∷ xs) e l =
          on_exit (named_number (rw e l))
          (ap (λ (ys : List ℕ). or_set ys (leading_set g s (repeat g))) e ∙ sym e)

  module _ (Set : ℕ → Type 0) where
    abbrev P : Act → Type 0
    P = Evidence g s Set

    in_force_told : P (in_force_rule g s)
    unfolding in_force_rule
    in_force_told =
        all_cond P (eqb (set_leader g s (quorum g)) 0) Idle InForce (λ e. tt)
        (λ e. record { sender = set_leader g s (quorum g); holds = leader_holds g s (quorum g) (eqb-false (set_leader g s (quorum g)) 0 e) })

    send_told : P (send_rule s)
    unfolding send_rule
    send_told = all_cond P (send_sent s) Idle (Send (word s input_at)) (λ e. tt) (λ e. record { unsent = e; own = refl })

    -- the evidence of vote i is that of one of the votes
    of_vote : (i : ℕ) → 1 ≤ i → i ≤ g.n → (a : Act) → Told g s (λ j. present (output g s i)) (votes_decided_one g s) (λ j. j ≡ i) a → P a
    of_vote i low high a t = go a t
      where
        among : (j : ℕ) → j ≡ i → Among g.n j
        among j e = subst (λ (k : ℕ). Among g.n k) (sym e) (record { low = low; high = high })

        go : (a : Act) → Told g s (λ j. present (output g s i)) (votes_decided_one g s) (λ j. j ≡ i) a → P a
        go Idle t = tt
        go InForce t = absurd t
        go (Commit k) t = absurd t
        go (Send v) t = absurd t
        go (Echo j v) t = absurd t
        go (Ready j v) t = absurd t
        go (Start j b) t = (
          among j t.0,
          subst (λ (k : ℕ). StartTold g s (present (output g s k)) (votes_decided_one g s) j b) (sym t.0) t.1,
        )
        go (Relay j r b) t = (among j t.0, t.1)
        go (Aux j r b) t = (among j t.0, t.1)
        go (Move j r v) t = (among j t.0, t.1)
        go (Finish j b) t = (among j t.0, t.1)

    module _ (ruled : Ruled g) where
      votes_told : P (votes_rule g s)
      unfolding votes_rule vote_rule
      votes_told =
          all_cond P (eqb (exit_now g s).number 1) Idle (vote_rule g s (λ i. present (output g s i))) (λ e. tt)
          (λ e. all_first P (λ i. vote_due g s (finishing (version s)) (present (output g s i)) (votes_decided_one g s) i) g.n tt
          (λ i low high. of_vote i low high (vote_due g s (finishing (version s)) (present (output g s i)) (votes_decided_one g s) i) (vote_told g ruled s (present (output g s i)) (votes_decided_one g s) i _ refl)))

      -- rules 3 to 6, which send no COMMIT
      pub later_told : P (or_act (send_rule s) (or_act (echo_rule g s) (or_act (ready_rule g s) (votes_rule g s))))
      later_told =
          all_or P (send_rule s) (or_act (echo_rule g s) (or_act (ready_rule g s) (votes_rule g s))) send_told
          (all_or P (echo_rule g s) (or_act (ready_rule g s) (votes_rule g s))
          (echo_rule_holds P g s tt (λ i low high e f. record { among = record { low = low; high = high }; unsent = e; held = f; same = refl }))
          (all_or P (ready_rule g s) (votes_rule g s)
          (ready_rule_holds P g s tt (λ i v low high e f. record { among = record { low = low; high = high }; unsent = e; rests = f }))
          votes_told))

  -- a set that is named has at most n values, and one that is held at most 16
  rests_few : Ruled g → Rests g s → length (commit_due g s) ≤ 16
  unfolding exit_now commit_set commit_count
  rests_few ruled (on_exit ne e) = let l : length (exit_now g s).names ≤ g.n = names_few g (output g s) (decided_zero s) (decided_one s) in rw e (omega (arith, ruled.few))
  rests_few ruled (on_copies p h e) = rw (e, length-take) (omega arith)

  commit_told : Ruled g → ActTold g s (commit_rule g s)
  unfolding commit_rule commit_of
  commit_told ruled = all_cond (Evidence g s (CommitTold g s)) (commit_sent s) Idle (commit_of (commit_due g s)) (λ e. tt) (λ e. go e (commit_due g s) refl)
    where
      go : commit_sent s ≡ false → (xs : List ℕ) → commit_due g s ≡ xs → ActTold g s (commit_of xs)
      go e [] q = tt
      go e (x ∷ xs) q =
          let sized : length (commit_due g s) ≡ length (x ∷ xs) = ap length q in
          let rests : Rests g s = set_rests (omega arith) in
          record { unsent = e; some = omega arith; few = omega (arith, rests_few ruled rests); sized = sized; rests = rests }

  -- what is due has its evidence
  pub due_told : Ruled g → ActTold g s (due g s)
  unfolding due
  due_told ruled =
      all_or (Evidence g s (CommitTold g s)) (in_force_rule g s) _ (in_force_told (CommitTold g s))
      (all_or (Evidence g s (CommitTold g s)) (commit_rule g s) _ (commit_told ruled)
      (later_told (CommitTold g s) ruled))

  pub due_is : Ruled g → (a : Act) → due g s ≡ a → ActTold g s a
  due_is ruled a e = subst (λ (b : Act). ActTold g s b) e (due_told ruled)

  -- only rule 2 sends a COMMIT
  pub in_force_no_commit : (k : ℕ) → in_force_rule g s ≡ Commit k → ⊥
  in_force_no_commit k e = subst (λ (b : Act). Evidence g s (λ m. ⊥) b) e (in_force_told (λ m. ⊥))

  pub later_no_commit : Ruled g → (a : Act) (k : ℕ) → a ≡ or_act (send_rule s) (or_act (echo_rule g s) (or_act (ready_rule g s) (votes_rule g s))) → a ≡ Commit k → ⊥
  later_no_commit ruled a k e f = subst (λ (b : Act). Evidence g s (λ m. ⊥) b) (sym e ∙ f) (later_told (λ m. ⊥) ruled)
