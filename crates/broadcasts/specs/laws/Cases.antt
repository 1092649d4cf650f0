-- The paths of the code.
use Rattle.std.specs.Prelude.{ℕ, ◌+◌, ◌-◌, ◌^◌, ◌≤◌, ◌<◌, Bool, true, false, ◌&&◌, List, ◌≡◌, leb, Option, Some, None}
use Rattle.std.proofs.Math.Bool.{and-false, and_comm}
use Rattle.std.proofs.Math.Path.{sym}
use Rattle.std.proofs.Common.{ap, ◌∙◌, zero-add}
use native.Mathlib.Omega.{arith}
use Rattle.std.specs.Int.Bits.{bit_and}
use Rattle.std.proofs.Math.Dec.{eqb}
use borrow.Author.Tests.{ne_eqb, lt-leb, le-leb}
use Rattle.settings.specs.Settings.{weighed, quorum, repeat}
use Rattle.settings.specs.declared.Settings.{Settings}
use Rattle.settings.specs.laws.Counting.{counting}
use Rattle.quorum.specs.laws.Bools.{and_left}
use Rattle.quorum.specs.Marks.{mark}
use Rattle.quorum.specs.Marking.{MarksOf}
use Rattle.quorum.specs.laws.Marking.{marks_weighed, marks_both, marks_agree}
use Rattle.quorum.specs.Weights.{weight_of}
use Rattle.quorum.specs.laws.Total.{total_mono, total_agree}
use Rattle.quorum.specs.Lowest.{lowest}
use Rattle.quorum.specs.laws.Lowest.{none_lowest, Passed, passed_found, passed_missing}
use Rattle.records.specs.Words.{word, marked, equal_at}
use Rattle.records.specs.Records.{echo_sent, ready_sent, send_held, send_value, echo_held, echo_value, ready_held, ready_value}
use Rattle.acts.specs.declared.Act.TheVariants.{Idle, Echo, Ready}
use Rattle.broadcasts.specs.laws.Leading.{held_count}
use Rattle.broadcasts.specs.Leading.{holders, leads, value_of, leading}
use Rattle.broadcasts.specs.Broadcasts.{ready_due, echo_act, ready_act}

-- the senders that hold v, by their marks; `held` and `value` stand as arguments, so that a search reads them
module _ (g : Settings) (s : List ℕ) (k b v q m x : ℕ) (held : ℕ → Bool) (value : ℕ → ℕ) (i : MarksOf (equal_at s (b + 1) v) g.n m) (e : x ≡ word s k) (h : g.weights < 2 ^ 64) (d : (λ p. marked s k p) ≡ held) (j : (λ p. word s (b + p)) ≡ value) where
  holders_weighed : weighed g (λ p. mark (bit_and m x) (0 + p)) ≡ holders g held value v
  unfolding holders marked equal_at
  holders_weighed =
      rw (← d, ← j)
      (marks_weighed (λ p. marked s k p && eqb (word s (b + p)) v) g.n (bit_and m x) g.weights
      (marks_agree (λ p. eqb (word s (b + 1 + (p - 1))) v && mark x p) (λ p. marked s k p && eqb (word s (b + p)) v) g.n (bit_and m x) (marks_both (λ p. eqb (word s (b + 1 + (p - 1))) v) g.n m x i) same) h)
    where
      same : (p : ℕ) → 1 ≤ p → p ≤ g.n → eqb (word s (b + 1 + (p - 1))) v && mark x p ≡ mark (word s k) p && eqb (word s (b + p)) v
      same p lo hi =
          let at : b + 1 + (p - 1) ≡ b + p = omega arith in
          rw (at, e) (and_comm (eqb (word s (b + p)) v) (mark (word s k) p))

  pub some_hold : (c : ℕ) → c ≡ weighed g (λ p. mark (bit_and m x) (0 + p)) → leb q c ≡ leb q (holders g held value v)
  some_hold c f = ap (leb q) (f ∙ holders_weighed)

  pub all_hold : bit_and m x ≡ x → q ≤ held_count g s k → true ≡ leb q (holders g held value v)
  unfolding held_count marked
  all_hold z l =
      let whole : weighed g (λ p. mark (bit_and m x) (0 + p)) ≡ weighed g (mark (word s k)) = total_agree (weight_of g.weights) (λ p. mark (bit_and m x) (0 + p)) (mark (word s k)) g.n (λ p lo hi. rw (z, e, zero-add)) in
      sym (le-leb q (holders g held value v) (omega (arith, holders_weighed, whole)))

pub ruleset held_enough = (some_hold, all_hold)

module _ (g : Settings) (held : ℕ → Bool) (value : ℕ → ℕ) (q : ℕ) where
  pub leads_held : (p u : ℕ) (b d : Bool) → b ≡ held p → b ≡ true → u ≡ value p → d ≡ leb q (holders g held value u) → d ≡ leads g held value q p
  unfolding leads
  leads_held p u b d e t s h = rw (← e, t, ← s) h

  pub leads_missing : (p : ℕ) (b : Bool) → b ≡ held p → b ≡ false → false ≡ leads g held value q p
  unfolding leads
  leads_missing p b e t = rw (← e, t)

  -- the loop of `leading`
  pub leading_found : (k u : ℕ) (b : Bool) → Passed (leads g held value q) g.n k → k < g.n → b ≡ leads g held value q (k + 1) → b ≡ true → u ≡ value (k + 1) → Some u ≡ leading g held value q
  unfolding leading value_of
  leading_found k u b i l e t s =
      let p : k + 1 ≡ lowest (leads g held value q) g.n = passed_found (leads g held value q) g.n k b i l e t in
      rw (← p, ne_eqb (k + 1) 0 (λ z. omega arith), s)

  pub leading_missing : (k : ℕ) → Passed (leads g held value q) g.n k → g.n ≤ k → None ≡ leading g held value q
  unfolding leading value_of
  leading_missing k i l =
      let p : 0 ≡ lowest (leads g held value q) g.n = passed_missing (leads g held value q) g.n k i l in
      rw (← p)

  -- fewer than q hold anything
  pub leading_few : (c : ℕ) → c ≡ weighed g held → c < q → None ≡ leading g held value q
  unfolding leading value_of leads holders
  leading_few c e l = rw (none_lowest (leads g held value q) g.n none)
    where
      fewer : (v : ℕ) → weighed g (λ p. held p && eqb (value p) v) ≤ weighed g held
      fewer v = total_mono (weight_of g.weights) (λ p. held p && eqb (value p) v) held g.n (λ p a b h. and_left (held p) (eqb (value p) v) h)

      none : (p : ℕ) → 1 ≤ p → p ≤ g.n → leads g held value q p ≡ false
      none p a b = rw (lt-leb q (weighed g (λ k. held k && eqb (value k) (value p))) (omega (arith, fewer (value p)))) (and-false (held p))

  -- of the settings only n and the weights are read
  pub leading_counted : (o : Option ℕ) → o ≡ leading (counting g.n g.weights) held value q → o ≡ leading g held value q
  unfolding leading leads holders
  leading_counted o e = e

pub ruleset leaders = (leads_held, leads_missing)

pub ruleset leading_ends = (leading_found, leading_missing)

pub held_counted : (g : Settings) (s : List ℕ) (k x c : ℕ) → x ≡ word s k → c ≡ weighed g (λ p. mark x (0 + p)) → c ≡ held_count g s k
unfolding held_count marked
held_counted g s k x c e f = f ∙ total_agree (weight_of g.weights) (λ p. mark x (0 + p)) (λ p. mark (word s k) p) g.n (λ p a b. rw (e, zero-add))

module _ (s : List ℕ) (i : ℕ) where
  pub echo_was_sent : (a : Bool) → a ≡ echo_sent s i → a ≡ true → Idle ≡ echo_act s i
  unfolding echo_act
  echo_was_sent a e t = rw (← e, t)

  pub echo_due : (a b : Bool) (v : ℕ) → a ≡ echo_sent s i → a ≡ false → b ≡ send_held s i → b ≡ true → v ≡ send_value s i → Echo i v ≡ echo_act s i
  unfolding echo_act
  echo_due a b v e t f u w = rw (← e, t, ← f, u, w)

  pub echo_not_due : (a b : Bool) → a ≡ echo_sent s i → a ≡ false → b ≡ send_held s i → b ≡ false → Idle ≡ echo_act s i
  unfolding echo_act
  echo_not_due a b e t f u = rw (← e, t, ← f, u)

pub ruleset echo_cases = (echo_was_sent, echo_due, echo_not_due)

module _ (g : Settings) (s : List ℕ) (i : ℕ) where
  pub due_by_echoes : (o : Option ℕ) (q v : ℕ) → q ≡ quorum g → o ≡ leading g (echo_held s i) (echo_value s i) q → o ≡ Some v → Some v ≡ ready_due g s i
  unfolding ready_due
  due_by_echoes o q v e f h = rw (← e, ← f, h)

  pub due_by_readies : (o r : Option ℕ) (q k : ℕ) → q ≡ quorum g → o ≡ leading g (echo_held s i) (echo_value s i) q → o ≡ None → k ≡ repeat g → r ≡ leading g (ready_held s i) (ready_value s i) k → r ≡ ready_due g s i
  unfolding ready_due
  due_by_readies o r q k e f h u w = rw (← e, ← f, h, ← u, ← w)

  pub ready_was_sent : (a : Bool) → a ≡ ready_sent s i → a ≡ true → Idle ≡ ready_act g s i
  unfolding ready_act
  ready_was_sent a e t = rw (← e, t)

  pub ready_due_lem : (a : Bool) (o : Option ℕ) (v : ℕ) → a ≡ ready_sent s i → a ≡ false → o ≡ ready_due g s i → o ≡ Some v → Ready i v ≡ ready_act g s i
  unfolding ready_act
  ready_due_lem a o v e t f h = rw (← e, t, ← f, h)

  pub ready_not_due : (a : Bool) (o : Option ℕ) → a ≡ ready_sent s i → a ≡ false → o ≡ ready_due g s i → o ≡ None → Idle ≡ ready_act g s i
  unfolding ready_act
  ready_not_due a o e t f h = rw (← e, t, ← f, h)

pub ruleset due_cases = (due_by_echoes, due_by_readies)

pub ruleset ready_cases = (ready_was_sent, ready_due_lem, ready_not_due)
