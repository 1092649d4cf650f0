-- The paths of src/due.rt.
use Rattle.std.specs.Prelude.{ℕ, ◌<◌, false, cond, List, [], ◌∷◌, ◌≡◌, refl, length, take, drop, eqb, leb}
use Rattle.std.proofs.Math.Bool.{Bool, true}
use Rattle.std.proofs.Math.Path.{sym, ap}
use Rattle.std.proofs.Common.{◌∙◌, arith, take_at}
use borrow.Author.Tests.{ne_eqb, ltb-true}
use Rattle.quorum.specs.laws.Bools.{and_left}
use Rattle.settings.specs.Rules.{Ruled}
use Rattle.settings.specs.Settings.{quorum, repeat}
use Rattle.settings.specs.declared.Settings.{Settings}
use Rattle.quorum.specs.laws.Lowest.{Lowest, lowest_is}
use Rattle.quorum.specs.Marks.{mark}
use Rattle.records.specs.Records.{own_input, send_sent, commit_sent, commit_count, commit_set}
use Rattle.records.specs.Sets.{SetRoom, SetCopied}
use Rattle.acts.specs.Acts.{is_due, or_act}
use Rattle.acts.specs.declared.Act.{Act}
use Rattle.acts.specs.declared.Act.TheVariants.{Idle, InForce, Commit, Send}
use Rattle.broadcasts.specs.Leading.{present}
use Rattle.broadcasts.specs.Broadcasts.{output, echo_rule, ready_rule}
use Rattle.broadcasts.specs.Outputs.{Outputs}
use Rattle.broadcasts.specs.laws.Broadcasts.{outputs_marks}
use Rattle.settings.specs.Versions.{finishing}
use Rattle.records.specs.Records.{version}
use Rattle.votes.specs.Votes.{votes_decided_one, vote_due, vote_rule}
use Rattle.exits.specs.Exits.{Exit, number_or_none, named}
use Rattle.exits.specs.Stated.{Stated}
use Rattle.exits.specs.declared.Named.{Named}
use Rattle.commits.specs.Commits.{commit_held, set_holders, set_leads, set_leader, set_of, leading_set}
use Rattle.turn.specs.Due.{in_force_rule, or_set, commit_due, commit_of, commit_rule, send_rule, votes_rule}
use Rattle.exits.specs.Exits.{exit_now}
use Rattle.acts.specs.laws.First.{first_agree}

-- what the readers of a state ask for, and an array for a set
pub record Readable (g : Settings) (s set : List ℕ) : Type 0 where
  pub size : length s ≡ 2048
  pub ruled : Ruled g
  pub room : length set ≡ 16

-- a is the act that is wanted, and where it is a COMMIT its set xs stands at the front of the array
pub record Chosen (want : Act) (xs : List ℕ) (a : Act) (set : List ℕ) : Type 0 where
  pub same : a ≡ want
  pub front : (k : ℕ) → a ≡ Commit k → take k set ≡ xs

-- rules 5 and 6, where `outputs` has mark i if broadcast i has output, and `first` tells whether Exit 1 holds
unfoldable pub last_rules : Settings → List ℕ → ℕ → Bool → Act
last_rules g s outputs first = or_act (ready_rule g s) (cond first Idle (vote_rule g s (mark outputs)))

-- rules 3 to 6
unfoldable pub later_rules : Settings → List ℕ → ℕ → Bool → Act
later_rules g s outputs first = or_act (send_rule s) (or_act (echo_rule g s) (last_rules g s outputs first))

idle_no_commit : (k : ℕ) → Idle ≡ Commit k → ⊥
idle_no_commit k e = let z : ◌≡◌ {A = ℕ} 0 1 = cc in omega arith

-- a COMMIT of a set that has a value
commit_some : (xs : List ℕ) (k : ℕ) → length xs ≡ k → (k ≡ 0 → ⊥) → commit_of xs ≡ Commit k
unfolding commit_of
commit_some [] k e h = absurd (h (sym e))
commit_some (x ∷ xs) k e h = ap Commit e

or_set_some : (xs ys : List ℕ) (k : ℕ) → length xs ≡ k → (k ≡ 0 → ⊥) → or_set xs ys ≡ xs
unfolding or_set
or_set_some [] ys k e h = absurd (h (sym e))
or_set_some (x ∷ xs) ys k e h = refl

or_set_none : (xs ys : List ℕ) (k : ℕ) → length xs ≡ k → k ≡ 0 → or_set xs ys ≡ ys
unfolding or_set
or_set_none [] ys k e h = refl
or_set_none (x ∷ xs) ys k e h = absurd (omega arith)

module _ (g : Settings) (s : List ℕ) where
  -- rule 1
  module _ (p q : ℕ) (eq : q ≡ quorum g) (ep : p ≡ set_leader g s q) where
    pub not_in_force : p ≡ 0 → Idle ≡ in_force_rule g s
    unfolding in_force_rule
    not_in_force z = rw (← eq, ← ep, z)

    pub by_in_force : (p ≡ 0 → ⊥) → InForce ≡ in_force_rule g s
    unfolding in_force_rule
    by_in_force z = rw (← eq, ← ep, ne_eqb p 0 z)

  -- a set that is held from ts + 1 senders
  module _ (p q : ℕ) (eq : q ≡ repeat g) (ep : p ≡ set_leader g s q) where
    pub none_repeated : (set : List ℕ) → p ≡ 0 → Chosen (commit_of (leading_set g s (repeat g))) (leading_set g s (repeat g)) Idle set
    unfolding leading_set set_of commit_of
    none_repeated set z =
        record {
          same = rw (← eq, ← ep, z);
          front = λ k e. absurd (idle_no_commit k e);
        }

    module _ (ne : p ≡ 0 → ⊥) (before : List ℕ) (r : Readable g s before) where
      is_leader : Lowest (set_leads g s q) g.n p
      unfolding set_leader
      is_leader = lowest_is (set_leads g s q) g.n p (sym ep) ne

      pub set_room : SetRoom s p before
      set_room = record { size = r.size; sender = omega (arith, is_leader.high, r.ruled.few); room = omega (arith, r.room) }

      module _ (after : List ℕ) (k : ℕ) (c : SetCopied s p before after k) where
        count_some : k ≡ 0 → ⊥
        unfolding set_leads commit_held
        count_some z =
            let held : commit_held s p ≡ true = and_left (commit_held s p) (leb q (set_holders g s p)) is_leader.holds in
            let some : 0 < commit_count s p = ltb-true 0 (commit_count s p) held in
            omega (arith, c.counted)

        is_set : leading_set g s (repeat g) ≡ commit_set s p
        unfolding leading_set set_of
        is_set = rw (← eq, ← ep, ne_eqb p 0 ne)

        pub set_repeated : Chosen (commit_of (leading_set g s (repeat g))) (leading_set g s (repeat g)) (Commit k) after
        set_repeated =
            record {
              same = sym (commit_some (leading_set g s (repeat g)) k (rw is_set c.sized) count_some);
              front = λ m t. let q : m ≡ k = cc in rw (q, c.words, is_set) (take_at (commit_set s p) (drop k before) k c.sized);
            }

pub ruleset in_force_cases = (not_in_force, by_in_force)

pub ruleset repeat_cases = (none_repeated, set_room, set_repeated)

-- an answer of `exits` states the exit: number and set apart
module _ (r : Named) (x : Exit) (h : Stated r x) where
  number_stated : number_or_none r.exit ≡ x.number
  unfolding named
  number_stated = ap (λ (z : Exit). z.number) h.states

  names_stated : take r.count r.values ≡ x.names
  unfolding named
  names_stated = ap (λ (z : Exit). z.names) h.states

-- rule 2
module _ (g : Settings) (s : List ℕ) (b : Bool) (eb : b ≡ commit_sent s) where
  pub commit_was_sent : (set : List ℕ) → b ≡ true → Chosen (commit_rule g s) (commit_due g s) Idle set
  unfolding commit_rule
  commit_was_sent set t = record { same = rw (← eb, t); front = λ k e. absurd (idle_no_commit k e) }

  module _ (tb : b ≡ false) (y : Named) (st : Stated y (exit_now g s)) where
    pub set_named : (y.count ≡ 0 → ⊥) → Chosen (commit_rule g s) (commit_due g s) (Commit y.count) y.values
    unfolding commit_rule commit_due
    set_named ne =
        let is : commit_due g s ≡ (exit_now g s).names = or_set_some (exit_now g s).names (leading_set g s (repeat g)) y.count st.sized ne in
        record {
          same = rw (← eb, tb, is) (sym (commit_some (exit_now g s).names y.count st.sized ne));
          front = λ k e. let q : k ≡ y.count = cc in rw q (names_stated y (exit_now g s) st ∙ sym is);
        }

    pub none_named : (a : Act) (set : List ℕ) → y.count ≡ 0 → Chosen (commit_of (leading_set g s (repeat g))) (leading_set g s (repeat g)) a set → Chosen (commit_rule g s) (commit_due g s) a set
    unfolding commit_rule commit_due
    none_named a set z h =
        let is : commit_due g s ≡ leading_set g s (repeat g) = or_set_none (exit_now g s).names (leading_set g s (repeat g)) y.count st.sized z in
        record {
          same = rw (← eb, tb, is) h.same;
          front = λ k e. h.front k e ∙ sym is;
        }

pub ruleset commit_cases = (commit_was_sent, set_named, none_named)

-- rule 3
module _ (s : List ℕ) (b : Bool) (eb : b ≡ send_sent s) where
  pub send_was_sent : b ≡ true → Idle ≡ send_rule s
  unfolding send_rule
  send_was_sent t = rw (← eb, t)

  pub send_due : (v : ℕ) → b ≡ false → v ≡ own_input s → Send v ≡ send_rule s
  unfolding send_rule
  send_due v t e = rw (← eb, t, e)

pub ruleset send_cases = (send_was_sent, send_due)

-- rules 5 and 6
module _ (g : Settings) (s : List ℕ) (outputs : ℕ) (first : Bool) (a : Act) (d : Bool) (ea : a ≡ ready_rule g s) (ed : d ≡ is_due a) where
  pub first_ready : d ≡ true → a ≡ last_rules g s outputs first
  unfolding last_rules or_act
  first_ready t = rw (← ea, ← ed, t)

  pub votes_off : d ≡ false → first ≡ true → Idle ≡ last_rules g s outputs first
  unfolding last_rules or_act
  votes_off t h = rw (← ea, ← ed, t, h)

  pub votes_on : (v : Act) → d ≡ false → first ≡ false → v ≡ vote_rule g s (mark outputs) → v ≡ last_rules g s outputs first
  unfolding last_rules or_act
  votes_on v t h ev = rw (← ea, ← ed, t, h) ev

pub ruleset last_cases = (first_ready, votes_off, votes_on)

-- rules 3 to 6
module _ (g : Settings) (s : List ℕ) (outputs : ℕ) (first : Bool) (a : Act) (d : Bool) (ea : a ≡ send_rule s) (ed : d ≡ is_due a) where
  pub first_send : d ≡ true → a ≡ later_rules g s outputs first
  unfolding later_rules or_act
  first_send t = rw (← ea, ← ed, t)

  module _ (td : d ≡ false) (b : Act) (e : Bool) (eb : b ≡ echo_rule g s) (ee : e ≡ is_due b) where
    pub first_echo : e ≡ true → b ≡ later_rules g s outputs first
    unfolding later_rules or_act
    first_echo t = rw (← ea, ← ed, td, ← eb, ← ee, t)

    pub rest_later : (c : Act) → e ≡ false → c ≡ last_rules g s outputs first → c ≡ later_rules g s outputs first
    unfolding later_rules or_act
    rest_later c t h = rw (← ea, ← ed, td, ← eb, ← ee, t) h

pub ruleset later_cases = (first_send, first_echo, rest_later)

-- the marks and the array say what the rules ask of the outputs
module _ (g : Settings) (s : List ℕ) (outputs : ℕ) (values : List ℕ) (r : Ruled g) (x : Outputs g s g.n outputs values) where
  rule_same : vote_rule g s (mark outputs) ≡ vote_rule g s (λ i. present (output g s i))
  unfolding vote_rule
  rule_same =
      let w : Bool = finishing (version s) in
      first_agree (λ i. vote_due g s w (mark outputs i) (votes_decided_one g s) i) (λ i. vote_due g s w (present (output g s i)) (votes_decided_one g s) i) g.n
      (λ i a b. ap (λ (o : Bool). vote_due g s w o (votes_decided_one g s) i) (outputs_marks g s outputs values r x i a b))

  pub later_same : (y : Named) → Stated y (exit_now g s) → later_rules g s outputs (eqb (number_or_none y.exit) 1) ≡ or_act (send_rule s) (or_act (echo_rule g s) (or_act (ready_rule g s) (votes_rule g s)))
  unfolding later_rules last_rules votes_rule
  later_same y h = rw (rule_same, number_stated y (exit_now g s) h)
