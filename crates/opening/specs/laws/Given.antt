-- The word of the weights holds each weight that is given, a list that is not right opens no session, and what coin words tell.
use Rattle.std.specs.Prelude.{Ok, ℕ, zero, suc, ◌^◌, ◌≤◌, ◌<◌, Bool, true, false, ◌&&◌, ◌||◌, cond, List, ◌≡◌, refl, eqb, leb, length}
use Rattle.std.proofs.Common.{ap, arith, leb-true, eqb-true, ne_eqb}
use Rattle.quorum.specs.laws.Bools.{and_left, and_right}
use Rattle.quorum.specs.Marks.{mark}
use Rattle.quorum.specs.laws.Marks.{with_mark_fits}
use Rattle.quorum.specs.Every.{every}
use Rattle.quorum.specs.laws.Every.{every_each}
use Rattle.quorum.specs.Packed.{mark_if, with_weight, packed}
use Rattle.quorum.specs.laws.Packed.{weight_packed}
use Rattle.quorum.specs.Weights.{weight_of}
use Rattle.quorum.specs.laws.Whole.{weight_low}
use Rattle.settings.specs.laws.Rules.{valid_rules}
use Rattle.opening.specs.Given.{item, coin_zero, coins_given, weight_given, weights_given, weights_word}
use Rattle.opening.specs.Arguments.{Arguments, weights_by, ta_by}
use Rattle.opening.specs.Opening.{open_answer}
use Rattle.opening.specs.laws.Cases.{accepted}

-- what a list of weights that is right tells
pub record WeightsGiven (n : ℕ) (ws : List ℕ) : Type 0 where
  pub few : n ≤ 16
  pub number : length ws ≡ n
  pub low : (p : ℕ) → 1 ≤ p → p ≤ n → 1 ≤ item ws p
  pub high : (p : ℕ) → 1 ≤ p → p ≤ n → item ws p ≤ 4

pub are_given : (n : ℕ) (ws : List ℕ) → weights_given n ws ≡ true → WeightsGiven n ws
unfolding weights_given weight_given
are_given n ws e =
    let first : leb n 16 && eqb (length ws) n ≡ true = and_left _ (every (weight_given ws) n) e in
    let each = every_each (weight_given ws) n (and_right (leb n 16 && eqb (length ws) n) _ e) in
    record {
      few = leb-true n 16 (and_left (leb n 16) _ first);
      number = eqb-true (length ws) n (and_right (leb n 16) _ first);
      low = λ p a b. leb-true 1 (item ws p) (and_left (leb 1 (item ws p)) _ (each p a b));
      high = λ p a b. leb-true (item ws p) 4 (and_right (leb 1 (item ws p)) _ (each p a b));
    }

-- the weight of p is the one that is given
pub weight_given_lem : (n : ℕ) (ws : List ℕ) → weights_given n ws ≡ true → (p : ℕ) → 1 ≤ p → p ≤ n → weight_of (weights_word n ws) p ≡ item ws p
unfolding weights_word
weight_given_lem n ws e p lo hi =
    let k = are_given n ws e in
    rw e (weight_packed (item ws) n p lo hi k.few (k.high p lo hi))

nobody : weight_of 0 1 ≡ 0
unfolding weight_of mark
nobody = refl

-- another number of weights than n, or one that is 0 or over 4, is refused (PROTOCOL 9.15): an accepted opening was given a list that is right
pub accepted_given : (words : ℕ) (o : Arguments) → open_answer words o ≡ Ok tt → weights_given o.n o.weights ≡ true
unfolding weights_word
accepted_given words o e = at (weights_given o.n o.weights) refl
  where
    at : (b : Bool) → weights_given o.n o.weights ≡ b → weights_given o.n o.weights ≡ true
    at true f = f
    at false f =
        let r = valid_rules o.n (ta_by o) o.ts (weights_by o) (accepted words o e).valid in
        let none : weights_by o ≡ 0 = rw f in
        absurd (omega (arith, weight_low (weights_by o) o.n r.right 1 (omega arith) r.some, ap (λ (w : ℕ). weight_of w 1) none, nobody))

-- what coin words that are given tell
pub record CoinsGiven (n : ℕ) (coins : List ℕ) (boxed : ℕ) : Type 0 where
  pub few : n ≤ 16
  pub size : length coins ≡ n
  pub kind : boxed ≤ 1
  pub zero : (boxed ≡ 0 → ⊥) → (i : ℕ) → 1 ≤ i → i ≤ n → item coins i ≡ 0

pub coins_given_lem : (n : ℕ) (coins : List ℕ) (boxed : ℕ) → coins_given n coins boxed ≡ true → CoinsGiven n coins boxed
unfolding coins_given coin_zero
coins_given_lem n coins boxed e =
    let a = and_left (leb n 16 && eqb (length coins) n && leb boxed 1) (eqb boxed 0 || every (coin_zero coins) n) e in
    let b = and_left (leb n 16 && eqb (length coins) n) (leb boxed 1) a in
    record {
      few = leb-true n 16 (and_left (leb n 16) (eqb (length coins) n) b);
      size = eqb-true (length coins) n (and_right (leb n 16) (eqb (length coins) n) b);
      kind = leb-true boxed 1 (and_right (leb n 16 && eqb (length coins) n) (leb boxed 1) a);
      zero = λ z i lo hi. eqb-true (item coins i) 0 (every_each (coin_zero coins) n (boxed_zero z (and_right (leb n 16 && eqb (length coins) n && leb boxed 1) (eqb boxed 0 || every (coin_zero coins) n) e)) i lo hi);
    }
  where
    boxed_zero : (boxed ≡ 0 → ⊥) → eqb boxed 0 || every (coin_zero coins) n ≡ true → every (coin_zero coins) n ≡ true
    boxed_zero z q = rw (ne_eqb boxed 0 z) at q

mark_fits : (b : Bool) (w k : ℕ) → w < 2 ^ 64 → mark_if b w k < 2 ^ 64
unfolding mark_if
mark_fits true w k h = with_mark_fits w k h
mark_fits false w k h = h

packed_fits : (f : ℕ → ℕ) (n : ℕ) → packed f n < 2 ^ 64
unfolding packed with_weight
packed_fits f zero = omega arith
packed_fits f (suc n) = mark_fits _ _ _ (mark_fits _ _ _ (mark_fits _ _ _ (mark_fits _ _ _ (packed_fits f n))))

-- the word of the weights is one of 64 bits
pub weights_fit : (n : ℕ) (ws : List ℕ) → weights_word n ws < 2 ^ 64
unfolding weights_word
weights_fit n ws = at (weights_given n ws)
  where
    at : (b : Bool) → cond b (packed (item ws) n) 0 < 2 ^ 64
    at true = packed_fits (item ws) n
    at false = omega arith
