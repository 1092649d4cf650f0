-- What a leading value and an output are, and that they are unique.
use Rattle.std.specs.Prelude.{ℕ, ◌+◌, ◌≤◌, ◌<◌, Bool, true, false, ◌&&◌, cond, List, ◌≢◌, ◌⊎◌, ◌≡◌, leb, Option, Some, None}
use Rattle.std.proofs.Math.Logic.{inl, inr}
use Rattle.std.proofs.Math.Path.{refl, sym}
use Rattle.std.proofs.Common.{ap, ◌∙◌, arith}
use Rattle.std.proofs.Math.Dec.{eqb}
use borrow.Author.Tests.{eqb-true, eqb-false, leb-true, leb-false}
use Rattle.quorum.specs.laws.Bools.{and_left, and_right}
use Rattle.settings.specs.Rules.{Ruled}
use Rattle.settings.specs.Settings.{quorum, repeat}
use Rattle.settings.specs.laws.Thresholds.{quorum_sum}
use Rattle.settings.specs.declared.Settings.{Settings}
use Rattle.quorum.specs.Lowest.{lowest}
use Rattle.quorum.specs.laws.Lowest.{Lowest, lowest_is, lowest_none}
use Rattle.quorum.specs.laws.Total.{Member, Common, total_member, common_member}
use Rattle.quorum.specs.Weights.{weight_of}
use Rattle.quorum.specs.Whole.{whole_of}
use Rattle.quorum.specs.Marks.{mark}
use Rattle.records.specs.Records.{echo_held, echo_value, ready_held, ready_value}
use Rattle.broadcasts.specs.Leading.{holders, leads, value_of, leading, or_output, present}
use Rattle.broadcasts.specs.Broadcasts.{output, ready_due}
use Rattle.broadcasts.specs.Outputs.{output_at, Outputs}
use Rattle.broadcasts.specs.laws.Storing.{at_present}

-- a sender of 1 to n that holds v
pub record Holder (held : ℕ → Bool) (value : ℕ → ℕ) (n v : ℕ) : Type 0 where
  pub at : ℕ
  pub low : 1 ≤ at
  pub high : at ≤ n
  pub holds : held at ≡ true
  pub same : value at ≡ v

-- v is held from q senders, and no sender below its first holder holds a value that is
pub record Led (g : Settings) (held : ℕ → Bool) (value : ℕ → ℕ) (q v : ℕ) : Type 0 where
  pub enough : q ≤ holders g held value v
  pub holder : Holder held value g.n v
  pub first : (p : ℕ) → 1 ≤ p → p < holder.at → held p ≡ true → holders g held value (value p) < q

-- value_of, inverted
value_at : (value : ℕ → ℕ) (p v : ℕ) → value_of value p ≡ Some v → (p ≢ 0) × (value p ≡ v)
unfolding value_of
value_at value p v e = go (eqb p 0) refl e
  where
    go : (b : Bool) → eqb p 0 ≡ b → cond b None (Some (value p)) ≡ Some v → (p ≢ 0) × (value p ≡ v)
    go true t h = absurd (let z : ◌≡◌ {A = ℕ} 0 1 = cc in omega arith)
    go false t h = (eqb-false p 0 t, cc)

nothing_at : (value : ℕ → ℕ) (p : ℕ) → value_of value p ≡ None → p ≡ 0
unfolding value_of
nothing_at value p e = go (eqb p 0) refl e
  where
    go : (b : Bool) → eqb p 0 ≡ b → cond b None (Some (value p)) ≡ None → p ≡ 0
    go true t h = eqb-true p 0 t
    go false t h = absurd (let z : ◌≡◌ {A = ℕ} 0 1 = cc in omega arith)

module _ (g : Settings) (held : ℕ → Bool) (value : ℕ → ℕ) where
  -- a value that someone holds has a holder
  pub holders_some : (v : ℕ) → 1 ≤ holders g held value v → Holder held value g.n v
  unfolding holders
  holders_some v h = go (total_member (weight_of g.weights) (λ p. held p && eqb (value p) v) g.n (omega arith))
    where
      go : Member g.n (λ p. held p && eqb (value p) v) → Holder held value g.n v
      go m =
          record {
            at = m.at;
            low = m.low;
            high = m.high;
            holds = and_left (held m.at) (eqb (value m.at) v) m.holds;
            same = eqb-true (value m.at) v (and_right (held m.at) (eqb (value m.at) v) m.holds);
          }

  -- two values that together have more holders than there are senders are one
  pub holders_same : (v u : ℕ) → whole_of g.weights g.n < holders g held value v + holders g held value u → v ≡ u
  unfolding holders whole_of
  holders_same v u h =
      go (common_member (weight_of g.weights) g.n (λ p. held p && eqb (value p) v) (λ p. held p && eqb (value p) u) (omega arith))
    where
      go : Common g.n (λ p. held p && eqb (value p) v) (λ p. held p && eqb (value p) u) → v ≡ u
      go m =
          sym (eqb-true (value m.at) v (and_right (held m.at) (eqb (value m.at) v) m.left))
          ∙ eqb-true (value m.at) u (and_right (held m.at) (eqb (value m.at) u) m.right)

  module _ (q : ℕ) where
    leads_enough : (p : ℕ) → leads g held value q p ≡ true → (held p ≡ true) × (q ≤ holders g held value (value p))
    unfolding leads
    leads_enough p e = (
      and_left (held p) (leb q (holders g held value (value p))) e,
      leb-true q (holders g held value (value p)) (and_right (held p) (leb q (holders g held value (value p))) e),
    )

    leads_few : (p : ℕ) → leads g held value q p ≡ false → held p ≡ true → holders g held value (value p) < q
    unfolding leads
    leads_few p e h = leb-false q (holders g held value (value p)) (rw h at e)

    pub leading_value : (v : ℕ) → leading g held value q ≡ Some v → Led g held value q v
    unfolding leading
    leading_value v e = go (lowest (leads g held value q) g.n) refl e
      where
        at : (p : ℕ) → Lowest (leads g held value q) g.n p → value p ≡ v → (held p ≡ true) × (q ≤ holders g held value (value p)) → Led g held value q v
        at p x s l =
            record {
              enough = rw s at l.1;
              holder = record { at = p; low = x.low; high = x.high; holds = l.0; same = s };
              first = λ k a b h. leads_few k (x.first k a b) h;
            }

        go : (p : ℕ) → lowest (leads g held value q) g.n ≡ p → value_of value p ≡ Some v → Led g held value q v
        go p t h =
            let was : (p ≢ 0) × (value p ≡ v) = value_at value p v h in
            let x : Lowest (leads g held value q) g.n p = lowest_is (leads g held value q) g.n p t was.0 in
            at p x was.1 (leads_enough p x.holds)

    pub leading_nothing : leading g held value q ≡ None → (p : ℕ) → 1 ≤ p → p ≤ g.n → held p ≡ true → holders g held value (value p) < q
    unfolding leading
    leading_nothing e p a b h = leads_few p (lowest_none (leads g held value q) g.n (nothing_at value (lowest (leads g held value q) g.n) e) p a b) h

    -- a value held from q senders leads, or another does
    pub leading_some : (v : ℕ) → 1 ≤ q → q ≤ holders g held value v → leading g held value q ≡ None → ⊥
    leading_some v a h e = go (holders_some v (omega arith))
      where
        go : Holder held value g.n v → ⊥
        go x =
            let few : holders g held value (value x.at) < q = leading_nothing e x.at x.low x.high x.holds in
            let same : holders g held value (value x.at) < q → holders g held value v < q = λ l. rw x.same at l in
            omega (arith, same few)

    -- a value held from more than half of the senders is the one that leads
    pub leading_unique : (v : ℕ) → whole_of g.weights g.n < q + q → q ≤ holders g held value v → leading g held value q ≡ Some v
    leading_unique v a h = go (leading g held value q) refl
      where
        go : (o : Option ℕ) → leading g held value q ≡ o → o ≡ Some v
        go (Some u) e = ap Some (holders_same u v (omega (arith, (leading_value u e).enough)))
        go None e = absurd (leading_some v (omega arith) h e)

module _ (g : Settings) (s : List ℕ) (i : ℕ) where
  -- READYs of weight W − ts hold the output
  pub output_holders : (v : ℕ) → output g s i ≡ Some v → Led g (ready_held s i) (ready_value s i) (quorum g) v
  unfolding output
  output_holders v e = leading_value g (ready_held s i) (ready_value s i) (quorum g) v e

  -- a value that READYs of weight W − ts hold is the output: within the rules there is no other (PROTOCOL 4.3)
  pub output_unique : (v : ℕ) → Ruled g → quorum g ≤ holders g (ready_held s i) (ready_value s i) v → output g s i ≡ Some v
  unfolding output
  output_unique v r h = leading_unique g (ready_held s i) (ready_value s i) (quorum g) v (omega (arith, quorum_sum g r, r.sum)) h

  -- a READY rests on ECHOs of weight W − ts or on READYs of weight ts + 1 (PROTOCOL 4.5)
  pub ready_rests : (v : ℕ) → ready_due g s i ≡ Some v → (quorum g ≤ holders g (echo_held s i) (echo_value s i) v) ⊎ (repeat g ≤ holders g (ready_held s i) (ready_value s i) v)
  unfolding ready_due
  ready_rests v e = go (leading g (echo_held s i) (echo_value s i) (quorum g)) refl e
    where
      go : (o : Option ℕ) → leading g (echo_held s i) (echo_value s i) (quorum g) ≡ o → or_output o (leading g (ready_held s i) (ready_value s i) (repeat g)) ≡ Some v → (quorum g ≤ holders g (echo_held s i) (echo_value s i) v) ⊎ (repeat g ≤ holders g (ready_held s i) (ready_value s i) v)
      go (Some w) t h = inl (leading_value g (echo_held s i) (echo_value s i) (quorum g) v (t ∙ h)).enough
      go None t h = inr (leading_value g (ready_held s i) (ready_value s i) (repeat g) v h).enough

-- the array within the rules
module _ (g : Settings) (s : List ℕ) (outputs : ℕ) (values : List ℕ) (r : Ruled g) (x : Outputs g s g.n outputs values) where
  -- it says the output of each broadcast
  pub outputs_each : (i : ℕ) → 1 ≤ i → i ≤ g.n → output_at outputs values i ≡ output g s i
  outputs_each i a b = x.each i a b (omega arith)

  -- its marks are the broadcasts that have output
  pub outputs_marks : (i : ℕ) → 1 ≤ i → i ≤ g.n → mark outputs i ≡ present (output g s i)
  outputs_marks i a b = sym (at_present outputs values i (omega arith)) ∙ ap present (outputs_each i a b)
