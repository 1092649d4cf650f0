-- The cases of the code that checks the weights and puts them into one word.
use Rattle.std.specs.Prelude.{ℕ, ◌+◌, ◌≤◌, ◌<◌, Bool, false, ◌&&◌, not, List, ◌≡◌, refl, length, leb}
use Rattle.std.proofs.Math.Bool.{true}
use Rattle.std.proofs.Math.Path.{sym}
use Rattle.std.proofs.Common.{subst, ◌∙◌, arith, add-one, Fits}
use Rattle.std.proofs.Math.Dec.{eqb}
use borrow.Author.Tests.{lt-leb, le-leb, leb-true, eq-eqb, ne_eqb, not-true, not-false}
use Rattle.std.specs.Int.{w8}
use Rattle.quorum.specs.laws.Bools.{and_left}
use Rattle.quorum.specs.Marks.{with_mark}
use Rattle.quorum.specs.Every.{every}
use Rattle.quorum.specs.Packed.{mark_if, with_weight, packed}
use Rattle.opening.specs.Given.{item, coin_zero, coins_given, weight_given, weights_given, weights_word}

pub weight_range : (ws : List ℕ) (p x : ℕ) → x ≡ item ws p → leb 1 x && leb x 4 ≡ weight_given ws p
unfolding weight_given
weight_range ws p x e = rw e

module _ (n : ℕ) (ws : List ℕ) where
  pub weights_many : 16 < n → false ≡ weights_given n ws
  unfolding weights_given
  weights_many h = rw (lt-leb n 16 h)

  module _ (few : n ≤ 16) where
    pub weights_other : (length ws ≡ n → ⊥) → false ≡ weights_given n ws
    unfolding weights_given
    weights_other h = rw (le-leb n 16 few, ne_eqb (length ws) n h)

    pub weights_each : (b : Bool) → length ws ≡ n → b ≡ every (weight_given ws) n → b ≡ weights_given n ws
    unfolding weights_given
    weights_each b h e = e ∙ rw (le-leb n 16 few, eq-eqb (length ws) n h)

  module _ (b : Bool) (e : b ≡ weights_given n ws) where
    pub weights_wrong : not b ≡ true → 0 ≡ weights_word n ws
    unfolding weights_word
    weights_wrong t = rw (← e, not-true b t)

    pub weights_packed : (w : ℕ) → not b ≡ false → w ≡ packed (item ws) n → w ≡ weights_word n ws
    unfolding weights_word
    weights_packed w t f = f ∙ rw (← e, not-false b t)

    pub weights_few : not b ≡ false → Fits w8 n
    unfolding weights_given
    weights_few t =
        let given : weights_given n ws ≡ true = sym e ∙ not-false b t in
        let few = leb-true n 16 (and_left (leb n 16) _ (and_left (leb n 16 && eqb (length ws) n) (every (weight_given ws) n) given)) in
        record { fits = omega (arith, few) }

pub ruleset given_cases = (weight_range, weights_many, weights_other, weights_each, weights_wrong, weights_packed, weights_few)

pub mark_there : (b : Bool) (w k x : ℕ) → b ≡ true → x ≡ with_mark w k → x ≡ mark_if b w k
unfolding mark_if
mark_there b w k x t e = e ∙ rw t

pub mark_absent : (b : Bool) (w k : ℕ) → b ≡ false → w ≡ mark_if b w k
unfolding mark_if
mark_absent b w k t = rw t

pub weight_put : (w p x a b c d : ℕ) → a ≡ mark_if (leb 1 x) w p → b ≡ mark_if (leb 2 x) a (16 + p) → c ≡ mark_if (leb 3 x) b (32 + p) → d ≡ mark_if (leb 4 x) c (48 + p) → d ≡ with_weight w p x
unfolding with_weight
weight_put w p x a b c d e f g h = let z : 0 + p ≡ p = omega arith in h ∙ rw (g, f, e, z)

-- a loop that has put in the weights f 1 to f k
pub record Packing (f : ℕ → ℕ) (n k w : ℕ) : Type 0 where
  pub within : k ≤ n
  pub put_in : w ≡ packed f k

pub packing_start : (f : ℕ → ℕ) (n : ℕ) → Packing f n 0 0
unfolding packed
packing_start f n = record { within = omega arith; put_in = refl }

pub packing_next : (f : ℕ → ℕ) (n k w x v : ℕ) → Packing f n k w → k < n → x ≡ f (k + 1) → v ≡ with_weight w (k + 1) x → Packing f n (k + 1) v
unfolding packed
packing_next f n k w x v i l e h =
    record { within = omega arith; put_in = h ∙ rw (e, i.put_in, add-one k) }

pub packing_done : (f : ℕ → ℕ) (n k w : ℕ) → Packing f n k w → n ≤ k → w ≡ packed f n
packing_done f n k w i h = let e : k ≡ n = omega (arith, i.within) in subst (λ (m : ℕ). w ≡ packed f m) e i.put_in

pub ruleset packing = (mark_there, mark_absent, weight_put, packing_start, packing_next, packing_done)

module _ (n : ℕ) (coins : List ℕ) (boxed : ℕ) where
  pub coins_many : 16 < n → false ≡ coins_given n coins boxed
  unfolding coins_given
  coins_many h = rw (lt-leb n 16 h)

  module _ (few : n ≤ 16) where
    pub coins_other : (length coins ≡ n → ⊥) → false ≡ coins_given n coins boxed
    unfolding coins_given
    coins_other h = rw (le-leb n 16 few, ne_eqb (length coins) n h)

    module _ (size : length coins ≡ n) where
      pub coins_kind : 1 < boxed → false ≡ coins_given n coins boxed
      unfolding coins_given
      coins_kind h = rw (le-leb n 16 few, eq-eqb (length coins) n size, lt-leb boxed 1 h)

      pub coins_printed : boxed ≡ 0 → true ≡ coins_given n coins boxed
      unfolding coins_given
      coins_printed h = rw (le-leb n 16 few, eq-eqb (length coins) n size, h)

      pub coins_boxed : (b : Bool) → boxed ≤ 1 → (boxed ≡ 0 → ⊥) → b ≡ every (coin_zero coins) n → b ≡ coins_given n coins boxed
      unfolding coins_given
      coins_boxed b h z e = e ∙ rw (le-leb n 16 few, eq-eqb (length coins) n size, le-leb boxed 1 h, ne_eqb boxed 0 z)

pub ruleset coins_cases = (coins_many, coins_other, coins_kind, coins_printed, coins_boxed)
