-- The weight of marks is one population count: of the marks four times over, among the marks of the weights.
use Rattle.std.specs.Prelude.{ℕ, zero, suc, ◌+◌, ◌-◌, ◌*◌, ◌/◌, ◌%◌, ◌^◌, min, ◌<◌, ◌≤◌, Bool, true, false, ◌&&◌, ◌≡◌, refl, eqb}
use Rattle.std.proofs.Common.{sym, ap, ap₂, ◌∙◌, Fits, arith, mod-lt, mod-eq_of_lt, div-one, pow_pos, pow_mono, shr-shr, le-leb}
use Rattle.std.specs.Int.{w64}
use Rattle.std.proofs.Math.Decide.{dec_le}
use Rattle.std.proofs.Math.Arith.{lt-one}
use Rattle.std.specs.Int.Bits.{bit_and, and_lt}
use Rattle.std.proofs.lemmas.Nat.{and_block, and_mod, and_mask, and_comm, and_le_l, ones_cat, ones-le, shr_le}
use Rattle.std.specs.Int.Count.{ones, ones_in}
use Rattle.std.proofs.lemmas.Bool.{lt-leb}
use Rattle.quorum.specs.Marks.{mark}
use Rattle.quorum.specs.laws.Marks.{mark_digit}
use Rattle.quorum.specs.laws.MarkMasks.{digits}
use Rattle.quorum.specs.laws.Ones.{mark_part, share_digit}
use Rattle.quorum.specs.Total.{share, total, count}
use Rattle.quorum.specs.Weights.{marks_set, weight_of, weigh}

pub weight_is : (w p : ℕ) → 1 ≤ p → p ≤ 16 → weight_of w p ≡ marks_set w p
unfolding weight_of
weight_is w p lo hi = rw (le-leb 1 p lo, le-leb p 16 hi)

pub weight_below : (w p : ℕ) → p < 1 → 0 ≡ weight_of w p
unfolding weight_of
weight_below w p h = rw (lt-leb 1 p h)

pub weight_above : (w p : ℕ) → 1 ≤ p → 16 < p → 0 ≡ weight_of w p
unfolding weight_of
weight_above w p lo h = rw (le-leb 1 p lo, lt-leb p 16 h)

-- numbers above 16 add nothing
pub weigh_capped : (w : ℕ) (M : ℕ → Bool) (n : ℕ) → weigh w M (min n 16) ≡ weigh w M n
unfolding total
weigh_capped w M zero = refl
weigh_capped w M (suc n) = at (dec_le (suc n) 16) (weigh_capped w M n)
  where
    nothing : (b : Bool) → share b 0 ≡ 0
    nothing true = refl
    nothing false = refl

    at : Dec (suc n ≤ 16) → weigh w M (min n 16) ≡ weigh w M n → weigh w M (min (suc n) 16) ≡ weigh w M (suc n)
    at (yes h) r = let e : min (suc n) 16 ≡ suc n = omega arith in ap (weigh w M) e
    at (no h) r =
        let e : min (suc n) 16 ≡ min n 16 = omega arith in
        let here : share (M (suc n)) (weight_of w (suc n)) ≡ 0 = ap (share (M (suc n))) (sym (weight_above w (suc n) (omega arith) (omega arith))) ∙ nothing (M (suc n)) in
        ap (weigh w M) e ∙ omega (arith, here, r)

split_share : (m : Bool) (a b c d : ℕ) (e f g h : Bool) → a ≡ share e 1 → b ≡ share f 1 → c ≡ share g 1 → d ≡ share h 1 → share m (a + b + c + d) ≡ share (m && e) 1 + share (m && f) 1 + share (m && g) 1 + share (m && h) 1
split_share true a b c d e f g h i j k l = rw (i, j, k, l)
split_share false a b c d e f g h i j k l = refl

-- a weight is four counts
pub weigh_counts : (w : ℕ) (M : ℕ → Bool) (n : ℕ) → n ≤ 16 → weigh w M n ≡ count (λ p. M p && mark w (0 + p)) n + count (λ p. M p && mark w (16 + p)) n + count (λ p. M p && mark w (32 + p)) n + count (λ p. M p && mark w (48 + p)) n
unfolding total
weigh_counts w M zero few = refl
weigh_counts w M (suc n) few =
    let here = ap (share (M (suc n))) (weight_is w (suc n) (omega arith) few) ∙ split_share (M (suc n)) _ _ _ _ (mark w (0 + suc n)) (mark w (16 + suc n)) (mark w (32 + suc n)) (mark w (48 + suc n)) refl refl refl refl in
    omega (arith, here, weigh_counts w M n (omega arith))

-- ---- marks of two words at once are the ones of their digits' and

and_digit : (x y : ℕ) → x < 2 → y < 2 → share (eqb x 1 && eqb y 1) 1 ≡ ones (bit_and x y)
unfolding ones ones_in
and_digit zero y a b = refl
and_digit (suc zero) zero a b = refl
and_digit (suc zero) (suc zero) a b = refl
and_digit (suc zero) (suc (suc y)) a b = absurd (omega arith)
and_digit (suc (suc x)) y a b = absurd (omega arith)

and_more : (x y n : ℕ) → ones (bit_and (x % 2 ^ suc n) (y % 2 ^ suc n)) ≡ ones (bit_and (x / 2 ^ n % 2) (y / 2 ^ n % 2)) + ones (bit_and (x % 2 ^ n) (y % 2 ^ n))
and_more x y n =
    rw (digits x n, digits y n)
    (ap ones (and_block n (x / 2 ^ n % 2) (y / 2 ^ n % 2) (x % 2 ^ n) (y % 2 ^ n) (mod-lt x (pow_pos n)) (mod-lt y (pow_pos n)))
    ∙ ones_cat n (bit_and (x / 2 ^ n % 2) (y / 2 ^ n % 2)) (bit_and (x % 2 ^ n) (y % 2 ^ n)) (and_lt n (x % 2 ^ n) (y % 2 ^ n) (mod-lt x (pow_pos n)) (mod-lt y (pow_pos n))))

pub count_and : (x y i j n : ℕ) → count (λ p. mark x (i + p) && mark y (j + p)) n ≡ ones (bit_and (x / 2 ^ i % 2 ^ n) (y / 2 ^ j % 2 ^ n))
unfolding total ones
count_and x y i j zero = sym (ap₂ (λ (a b : ℕ). ones (bit_and a b)) (lt-one (mod-lt (x / 2 ^ i) (pow_pos 0))) (lt-one (mod-lt (y / 2 ^ j) (pow_pos 0))))
count_and x y i j (suc n) =
    ap₂ (λ (a b : ℕ). a + b)
    (ap₂ (λ (a b : Bool). share (a && b) 1) (mark_part x i n) (mark_part y j n)
    ∙ and_digit (x / 2 ^ i / 2 ^ n % 2) (y / 2 ^ j / 2 ^ n % 2) (omega arith) (omega arith))
    (count_and x y i j n)
    ∙ sym (and_more (x / 2 ^ i) (y / 2 ^ j) n)

-- the digits of the second above the first's do not count
pub and_low : (a b n : ℕ) → bit_and (a % 2 ^ n) b ≡ bit_and (a % 2 ^ n) (b % 2 ^ n)
and_low a b n =
    let low : bit_and (a % 2 ^ n) b < 2 ^ n = omega (arith, and_le_l (a % 2 ^ n) b, mod-lt a (pow_pos n)) in
    sym (mod-eq_of_lt low) ∙ and_mod (a % 2 ^ n) b n ∙ ap (λ (x : ℕ). bit_and x (b % 2 ^ n)) (mod-eq_of_lt (mod-lt a (pow_pos n)))

-- the weight of marks: four population counts
pub weigh_ones : (x w i n : ℕ) → n ≤ 16 → weigh w (λ p. mark x (i + p)) n ≡ ones (bit_and (x / 2 ^ i % 2 ^ n) (w / 2 ^ 0)) + ones (bit_and (x / 2 ^ i % 2 ^ n) (w / 2 ^ 16)) + ones (bit_and (x / 2 ^ i % 2 ^ n) (w / 2 ^ 32)) + ones (bit_and (x / 2 ^ i % 2 ^ n) (w / 2 ^ 48))
weigh_ones x w i n few =
    let at : (j : ℕ) → count (λ p. mark x (i + p) && mark w (j + p)) n ≡ ones (bit_and (x / 2 ^ i % 2 ^ n) (w / 2 ^ j)) = λ j. count_and x w i j n ∙ sym (ap ones (and_low (x / 2 ^ i) (w / 2 ^ j) n)) in
    omega (arith, weigh_counts w (λ p. mark x (i + p)) n few, at 0, at 16, at 32, at 48)

-- ---- marks below 16, four times over: one population count

split_low : (w : ℕ) → w ≡ w / 2 ^ 16 * 2 ^ 16 + w % 2 ^ 16
split_low w = omega arith

spread_one : (y x w : ℕ) → x < 2 ^ 16 → ones (bit_and (y * 2 ^ 16 + x) w) ≡ ones (bit_and y (w / 2 ^ 16)) + ones (bit_and x w)
spread_one y x w h =
    let small : w % 2 ^ 16 < 2 ^ 16 = mod-lt w (pow_pos 16) in
    let low : bit_and x (w % 2 ^ 16) ≡ bit_and x w = rw (mod-eq_of_lt h) at (sym (and_low x w 16)) in
    ap (λ (v : ℕ). ones (bit_and (y * 2 ^ 16 + x) v)) (split_low w)
    ∙ ap ones (and_block 16 y (w / 2 ^ 16) x (w % 2 ^ 16) h small)
    ∙ ones_cat 16 (bit_and y (w / 2 ^ 16)) (bit_and x (w % 2 ^ 16)) (and_lt 16 x (w % 2 ^ 16) h small)
    ∙ ap (λ (v : ℕ). ones (bit_and y (w / 2 ^ 16)) + ones v) low

fourfold_is : (x : ℕ) → x * 281479271743489 ≡ ((x * 2 ^ 16 + x) * 2 ^ 16 + x) * 2 ^ 16 + x
fourfold_is x = omega arith

fourfold_ones : (x w : ℕ) → x < 2 ^ 16 → ones (bit_and (x * 281479271743489) w) ≡ ones (bit_and x w) + ones (bit_and x (w / 2 ^ 16)) + ones (bit_and x (w / 2 ^ 32)) + ones (bit_and x (w / 2 ^ 48))
fourfold_ones x w h =
    let second : w / 2 ^ 16 / 2 ^ 16 ≡ w / 2 ^ 32 = shr-shr w 16 16 in
    let third : w / 2 ^ 32 / 2 ^ 16 ≡ w / 2 ^ 48 = shr-shr w 32 16 in
    let a = spread_one ((x * 2 ^ 16 + x) * 2 ^ 16 + x) x w h in
    let b = spread_one (x * 2 ^ 16 + x) x (w / 2 ^ 16) h in
    let c : ones (bit_and (x * 2 ^ 16 + x) (w / 2 ^ 32)) ≡ ones (bit_and x (w / 2 ^ 48)) + ones (bit_and x (w / 2 ^ 32)) = rw third at (spread_one x x (w / 2 ^ 32) h) in
    ap (λ (v : ℕ). ones (bit_and v w)) (fourfold_is x) ∙ omega (arith, a, rw second at b, c)

-- ---- the code

-- the weight of one number: the marks of its places
place_ones : (w p j : ℕ) → 1 ≤ p → ones (bit_and 1 (w / 2 ^ (p - 1) / 2 ^ j)) ≡ share (mark w (j + p)) 1
place_ones w p j lo =
    let y = w / 2 ^ (p - 1) / 2 ^ j in
    let digit : bit_and 1 y ≡ y % 2 = and_comm 1 y ∙ and_mask y 1 in
    let at : p - 1 + j ≡ j + p - 1 = omega arith in
    let moved : y ≡ w / 2 ^ (j + p - 1) = shr-shr w (p - 1) j ∙ ap (λ (k : ℕ). w / 2 ^ k) at in
    ap ones digit ∙ sym (share_digit (y % 2) (omega arith)) ∙ ap (λ (v : ℕ). share (eqb (v % 2) 1) 1) moved ∙ ap (λ (b : Bool). share b 1) (sym (mark_digit w (j + p) (omega arith)))

pub weight_ones : (w p : ℕ) → 1 ≤ p → p ≤ 16 → ones (bit_and (w / 2 ^ (p - 1)) 281479271743489) ≡ weight_of w p
weight_ones w p lo hi =
    let y = w / 2 ^ (p - 1) in
    let first : y / 2 ^ 0 ≡ y = div-one y in
    let zero_place : ones (bit_and 1 y) ≡ share (mark w (0 + p)) 1 = rw first at (place_ones w p 0 lo) in
    ap ones (and_comm y 281479271743489)
    ∙ fourfold_ones 1 y (omega arith)
    ∙ omega (arith, zero_place, place_ones w p 16 lo, place_ones w p 32 lo, place_ones w p 48 lo)
    ∙ sym (weight_is w p lo hi)

pub weight_fits : (w p : ℕ) → w < 2 ^ 64 → Fits w64 (ones (bit_and (w / 2 ^ (p - 1)) 281479271743489))
weight_fits w p h =
    let low : bit_and (w / 2 ^ (p - 1)) 281479271743489 < 2 ^ 64 = omega (arith, and_le_l (w / 2 ^ (p - 1)) 281479271743489, shr_le w (p - 1)) in
    omega (arith, ones-le 64 (bit_and (w / 2 ^ (p - 1)) 281479271743489) low)

pub ruleset weight_cases = (weight_below, weight_above, weight_ones, weight_fits)

-- the marks of at most 16, as `part` gives them
module _ (v i n t x : ℕ) (e : x ≡ v / 2 ^ i % 2 ^ t) (et : t ≡ min n 16) where
  part_few : x ≤ 65535
  part_few =
      let up : t ≤ 16 = omega arith in
      omega (arith, mod-lt (v / 2 ^ i) (pow_pos t), pow_mono up)

  pub fourfold_fits : Fits w64 (x * 281479271743489)
  fourfold_fits = omega (arith, part_few)

  pub fourfold_counted : (y : ℕ) → Fits w64 (ones (bit_and (x * 281479271743489) y))
  fourfold_counted y =
      let low : bit_and (x * 281479271743489) y < 2 ^ 64 = omega (arith, and_le_l (x * 281479271743489) y, part_few) in
      omega (arith, ones-le 64 (bit_and (x * 281479271743489) y) low)

  -- the set stands as an argument M, so that a search reads it
  module _ (M : ℕ → Bool) (same : (λ p. mark v (i + p)) ≡ M) where
    pub part_weighed : (w : ℕ) → ones (bit_and (x * 281479271743489) w) ≡ weigh w M n
    part_weighed w =
        let first : w / 2 ^ 0 ≡ w = div-one w in
        let up : t ≤ 16 = omega arith in
        let counted : weigh w (λ p. mark v (i + p)) t ≡ ones (bit_and x w) + ones (bit_and x (w / 2 ^ 16)) + ones (bit_and x (w / 2 ^ 32)) + ones (bit_and x (w / 2 ^ 48)) = rw e (rw first at (weigh_ones v w i t up)) in
        fourfold_ones x w (omega (arith, part_few)) ∙ sym counted ∙ ap₂ (weigh w) same et ∙ weigh_capped w M n

    pub part_unmarked : (w : ℕ) → x ≡ 0 → 0 ≡ weigh w M n
    unfolding ones ones_in
    part_unmarked w z = rw z at (part_weighed w)

pub ruleset weigh_cases = (part_weighed, part_unmarked, fourfold_fits, fourfold_counted)
