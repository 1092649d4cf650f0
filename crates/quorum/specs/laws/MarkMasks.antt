-- Words as sets of marks: the marks of `x & y` and `x | y`, and that a word is told by its marks.
use Rattle.std.specs.Prelude.{ℕ, zero, suc, ◌+◌, ◌-◌, ◌*◌, ◌/◌, ◌%◌, ◌^◌, ◌<◌, ◌≤◌, Bool, true, ◌&&◌, ◌||◌, not, ◌≡◌, refl, eqb}
use Rattle.std.proofs.Common.{sym, ap, ap₂, ◌∙◌, arith, pow-suc, mod-lt, mod-eq_of_lt, pow_pos, shr-shr, eq-eqb, eqb-true}
use Rattle.std.proofs.Math.Decide.{dec_lt}
use Rattle.std.proofs.Math.Nat.{pow-succ'}
use Rattle.std.proofs.Math.Arith.{mod-mul, lt-one}
use Rattle.std.specs.Int.Bits.{bit_and, bit_or, bit_xor, xor_add_and}
use Rattle.std.proofs.lemmas.Nat.{and_shr, and_mod, and_mask, or_shr, or_mod, xor_shr, xor_mod}
use Rattle.std.proofs.Math.Pow.{ones_lt, ones_split, high}
use Rattle.quorum.specs.laws.Bools.{same_tests}
use Rattle.quorum.specs.Every.{every}
use Rattle.quorum.specs.laws.Every.{each_every, every_each}
use Rattle.quorum.specs.Marks.{mark}
use Rattle.quorum.specs.laws.Marks.{mark_digit, mark_low}

-- ---- the marks of two words at once

and_bit : (x y : ℕ) → x < 2 → y < 2 → eqb (bit_and x y) 1 ≡ eqb x 1 && eqb y 1
and_bit zero y a b = refl
and_bit (suc zero) zero a b = refl
and_bit (suc zero) (suc zero) a b = refl
and_bit (suc zero) (suc (suc y)) a b = absurd (omega arith)
and_bit (suc (suc x)) y a b = absurd (omega arith)

or_bit : (x y : ℕ) → x < 2 → y < 2 → eqb (bit_or x y) 1 ≡ eqb x 1 || eqb y 1
or_bit zero zero a b = refl
or_bit zero (suc zero) a b = refl
or_bit zero (suc (suc y)) a b = absurd (omega arith)
or_bit (suc zero) zero a b = refl
or_bit (suc zero) (suc zero) a b = refl
or_bit (suc zero) (suc (suc y)) a b = absurd (omega arith)
or_bit (suc (suc x)) y a b = absurd (omega arith)

pub mark_and : (x y p : ℕ) → mark (bit_and x y) p ≡ mark x p && mark y p
mark_and x y p = go (dec_lt p 1)
  where
    go : Dec (p < 1) → mark (bit_and x y) p ≡ mark x p && mark y p
    go (yes h) = rw (mark_low (bit_and x y) p h, mark_low x p h)
    go (no h) =
        let lo : 1 ≤ p = omega arith in
        mark_digit (bit_and x y) p lo
        ∙ ap (λ (d : ℕ). eqb d 1) (ap (λ (d : ℕ). d % 2) (and_shr x y (p - 1)) ∙ and_mod (x / 2 ^ (p - 1)) (y / 2 ^ (p - 1)) 1)
        ∙ and_bit (x / 2 ^ (p - 1) % 2) (y / 2 ^ (p - 1) % 2) (omega arith) (omega arith)
        ∙ ap₂ (λ (a b : Bool). a && b) (sym (mark_digit x p lo)) (sym (mark_digit y p lo))

pub mark_or : (x y p : ℕ) → mark (bit_or x y) p ≡ mark x p || mark y p
mark_or x y p = go (dec_lt p 1)
  where
    go : Dec (p < 1) → mark (bit_or x y) p ≡ mark x p || mark y p
    go (yes h) = rw (mark_low (bit_or x y) p h, mark_low x p h, mark_low y p h)
    go (no h) =
        let lo : 1 ≤ p = omega arith in
        mark_digit (bit_or x y) p lo
        ∙ ap (λ (d : ℕ). eqb d 1) (ap (λ (d : ℕ). d % 2) (or_shr x y (p - 1)) ∙ or_mod (x / 2 ^ (p - 1)) (y / 2 ^ (p - 1)) 1)
        ∙ or_bit (x / 2 ^ (p - 1) % 2) (y / 2 ^ (p - 1) % 2) (omega arith) (omega arith)
        ∙ ap₂ (λ (a b : Bool). a || b) (sym (mark_digit x p lo)) (sym (mark_digit y p lo))

-- the marks of a word shifted down
pub mark_shifted : (w i p : ℕ) → 1 ≤ p → mark (w / 2 ^ i) p ≡ mark w (i + p)
mark_shifted w i p lo =
    let e : i + p - 1 ≡ i + (p - 1) = omega arith in
    mark_digit (w / 2 ^ i) p lo ∙ rw (shr-shr w i (p - 1), ← e) (sym (mark_digit w (i + p) (omega arith)))

-- ---- a word is told by its marks

digit_same : (x y : ℕ) → x < 2 → y < 2 → eqb x 1 ≡ eqb y 1 → x ≡ y
digit_same zero zero a b e = refl
digit_same zero (suc zero) a b e = absurd (let z : ◌≡◌ {A = ℕ} 0 1 = cc in omega arith)
digit_same zero (suc (suc y)) a b e = absurd (omega arith)
digit_same (suc zero) zero a b e = absurd (let z : ◌≡◌ {A = ℕ} 0 1 = cc in omega arith)
digit_same (suc zero) (suc zero) a b e = refl
digit_same (suc zero) (suc (suc y)) a b e = absurd (omega arith)
digit_same (suc (suc x)) y a b e = absurd (omega arith)

pub digits : (x n : ℕ) → x % 2 ^ suc n ≡ x / 2 ^ n % 2 * 2 ^ n + x % 2 ^ n
digits x n = rw (pow-succ' 2 n) (mod-mul x {m = 2} {c = 2 ^ n} (omega arith) (pow_pos n))

same_part : (x y n : ℕ) → ((p : ℕ) → 1 ≤ p → p ≤ n → mark x p ≡ mark y p) → x % 2 ^ n ≡ y % 2 ^ n
same_part x y zero h = lt-one (mod-lt x (pow_pos 0)) ∙ sym (lt-one (mod-lt y (pow_pos 0)))
same_part x y (suc n) h =
    let s : suc n - 1 ≡ n = omega arith in
    let digit : eqb (x / 2 ^ n % 2) 1 ≡ eqb (y / 2 ^ n % 2) 1 = rw s at (sym (mark_digit x (suc n) (omega arith)) ∙ h (suc n) (omega arith) (omega arith) ∙ mark_digit y (suc n) (omega arith)) in
    let high_same : x / 2 ^ n % 2 ≡ y / 2 ^ n % 2 = digit_same (x / 2 ^ n % 2) (y / 2 ^ n % 2) (omega arith) (omega arith) digit in
    let low_same : x % 2 ^ n ≡ y % 2 ^ n = same_part x y n (λ p a b. h p a (omega arith)) in
    rw (digits x n, digits y n, high_same, low_same)

pub same_word : (x y n : ℕ) → x < 2 ^ n → y < 2 ^ n → ((p : ℕ) → 1 ≤ p → p ≤ n → mark x p ≡ mark y p) → x ≡ y
same_word x y n a b h = sym (mod-eq_of_lt a) ∙ same_part x y n h ∙ mod-eq_of_lt b

-- 2 ^ n − 1 has the marks 1 to n
pub mark_full : (n p : ℕ) → 1 ≤ p → p ≤ n → mark (2 ^ n - 1) p ≡ true
mark_full n p lo hi =
    let d : ℕ = n - p in
    let k : ℕ = p - 1 in
    let e : suc d + k ≡ n = omega arith in
    let split : 2 ^ n - 1 ≡ (2 ^ suc d - 1) * 2 ^ k + (2 ^ k - 1) = ap (λ (m : ℕ). 2 ^ m - 1) (sym e) ∙ ones_split (suc d) k in
    let up : (2 ^ n - 1) / 2 ^ k ≡ 2 ^ suc d - 1 = ap (λ (m : ℕ). m / 2 ^ k) split ∙ high (2 ^ suc d - 1) k (ones_lt k) in
    let odd : (2 ^ n - 1) / 2 ^ k % 2 ≡ 1 = omega (arith, up, pow-suc 2 d, pow_pos d) in
    mark_digit (2 ^ n - 1) p lo ∙ eq-eqb ((2 ^ n - 1) / 2 ^ (p - 1) % 2) 1 odd

-- `!x` has the marks that x lacks
flip_bit : (x y : ℕ) → x < 2 → y ≡ 1 → eqb (bit_xor x y) 1 ≡ not (eqb x 1)
flip_bit zero y a e = rw e
flip_bit (suc zero) y a e = rw e
flip_bit (suc (suc x)) y a e = absurd (omega arith)

pub mark_not : (x p : ℕ) → x < 2 ^ 64 → 1 ≤ p → p ≤ 64 → mark (2 ^ 64 - 1 - x) p ≡ not (mark x p)
mark_not x p h lo hi =
    let flip : 2 ^ 64 - 1 - x ≡ bit_xor x (2 ^ 64 - 1) = omega (arith, xor_add_and x (2 ^ 64 - 1), and_mask x 64, mod-eq_of_lt h) in
    let one : (2 ^ 64 - 1) / 2 ^ (p - 1) % 2 ≡ 1 = eqb-true ((2 ^ 64 - 1) / 2 ^ (p - 1) % 2) 1 (sym (mark_digit (2 ^ 64 - 1) p lo) ∙ mark_full 64 p lo hi) in
    ap (λ (w : ℕ). mark w p) flip
    ∙ mark_digit (bit_xor x (2 ^ 64 - 1)) p lo
    ∙ ap (λ (d : ℕ). eqb d 1) (ap (λ (d : ℕ). d % 2) (xor_shr x (2 ^ 64 - 1) (p - 1)) ∙ xor_mod (x / 2 ^ (p - 1)) ((2 ^ 64 - 1) / 2 ^ (p - 1)) 1)
    ∙ flip_bit (x / 2 ^ (p - 1) % 2) ((2 ^ 64 - 1) / 2 ^ (p - 1) % 2) (omega arith) one
    ∙ ap not (sym (mark_digit x p lo))

-- a word below 2 ^ n with all marks is 2 ^ n − 1
pub every_set : (x n : ℕ) → x < 2 ^ n → every (λ p. mark x p) n ≡ eqb x (2 ^ n - 1)
every_set x n h =
    same_tests (every (λ p. mark x p) n) (eqb x (2 ^ n - 1))
    (λ e. eq-eqb x (2 ^ n - 1) (same_word x (2 ^ n - 1) n h (ones_lt n) (λ p a b. every_each (λ q. mark x q) n e p a b ∙ sym (mark_full n p a b))))
    (λ e. let z : x ≡ 2 ^ n - 1 = eqb-true x (2 ^ n - 1) e in each_every (λ p. mark x p) n (λ p a b. rw z (mark_full n p a b)))
