-- What is asked of a field of hexadecimal digits.
use Rattle.std.specs.Prelude.{ℕ, suc, ◌+◌, ◌*◌, ◌^◌, ◌≤◌, ◌<◌, Bool, true, false, ◌&&◌, List, [], ◌∷◌, ◌≡◌, refl, eqb, ltb, length}
use Rattle.std.proofs.lemmas.Bool.{false≢true}
use Rattle.std.proofs.Common.{arith, pow-suc, lt-ltb, ne_eqb, ltb-true, eqb-true}
use Rattle.std.proofs.Math.Nat.{pow-le-pow_right}
use Rattle.text.specs.Numbers.{digit_of, base_of, all_digits, value_from, value_of, complete, right}

both_left : (a b : Bool) → (a && b) ≡ true → a ≡ true
both_left true b e = refl
both_left false b e = e

both_right : (a b : Bool) → (a && b) ≡ true → b ≡ true
both_right true b e = e
both_right false b e = absurd (false≢true e)

-- so many hexadecimal digits hold no more
hex_below : (f : List ℕ) (v k : ℕ) → all_digits 16 f ≡ true → v < 16 ^ k → value_from 16 v f < 16 ^ (k + length f)
unfolding all_digits value_from
hex_below [] v k e h = let z : k + 0 ≡ k = omega arith in rw z h
hex_below (c ∷ f) v k e h =
    let d : digit_of c < 16 = ltb-true _ _ (both_left (ltb (digit_of c) 16) (all_digits 16 f) e) in
    let z : k + suc (length f) ≡ suc k + length f = omega arith in
    rw z (hex_below f (v * 16 + digit_of c) (suc k) (both_right (ltb (digit_of c) 16) (all_digits 16 f) e) (omega (arith, pow-suc 16 k)))

-- a third test that follows from the first two
implied : (a b t : Bool) → (a ≡ true → b ≡ true → t ≡ true) → (a && (b && t)) ≡ (a && b)
implied true true t h = h refl refl
implied true false t h = refl
implied false b t h = refl

-- a field of at most 16 hexadecimal digits: only their number and that they are digits is asked
pub hexadecimal : (k : ℕ) (f : List ℕ) → (k ≡ 10 → ⊥) → k ≤ 16 → right k f ≡ (eqb (length f) k && all_digits 16 f)
unfolding right complete base_of value_of
hexadecimal k f n h =
    rw (ne_eqb k 10 n)
    (implied (eqb (length f) k) (all_digits 16 f) (ltb (value_from 16 0 f) (2 ^ 64))
    (λ a b.
    let l : length f ≡ k = eqb-true _ _ a in
    let p : 16 ^ (0 + length f) ≤ 16 ^ 16 = pow-le-pow_right {n = 16} (omega arith) {i = 0 + length f} {j = 16} (omega arith) in
    lt-ltb (value_from 16 0 f) (2 ^ 64) (omega (arith, hex_below f 0 0 b (omega arith)))))
