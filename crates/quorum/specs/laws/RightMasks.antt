-- Whether all weights are 1 to 4, by masks: each has one of its four marks. The weight of all by one count.
use Rattle.std.specs.Prelude.{ℕ, ◌+◌, ◌-◌, ◌*◌, ◌/◌, ◌%◌, ◌^◌, min, ◌<◌, ◌≤◌, Bool, true, false, ◌&&◌, ◌||◌, ◌≡◌, refl, eqb, leb}
use Rattle.std.proofs.Math.Path.{sym, ap}
use Rattle.std.proofs.Common.{ap₂, ◌∙◌, mod-eq_of_lt, div-one, Fits}
use native.Mathlib.Omega.{arith}
use Rattle.std.specs.Int.{w64}
use Rattle.std.specs.Int.Bits.{bit_and, bit_or, and_le_r}
use Rattle.std.specs.Int.Count.{ones}
use Rattle.std.proofs.Math.Pow.{pow_pos, ones_lt}
use Rattle.quorum.specs.laws.Every.{every_agree, each_every, every_fails}
use Rattle.quorum.specs.Marks.{mark}
use Rattle.quorum.specs.laws.MarkMasks.{mark_and, mark_or, mark_shifted, mark_full, every_set}
use Rattle.quorum.specs.laws.Ones.{machine_power}
use Rattle.quorum.specs.Total.{share, everyone}
use Rattle.quorum.specs.laws.Total.{total_agree}
use Rattle.quorum.specs.Weights.{weight_of, weigh}
use Rattle.quorum.specs.laws.Weights.{weight_is, weight_above, weigh_capped, part_weighed, fourfold_fits, fourfold_counted}
use Rattle.quorum.specs.Whole.{whole_of, weight_right, weights_right}
use Rattle.quorum.specs.laws.Whole.{ones_weight, ones_whole}

one_to_four : (a b c d : Bool) → leb 1 (share a 1 + share b 1 + share c 1 + share d 1) && leb (share a 1 + share b 1 + share c 1 + share d 1) 4 ≡ (a || b) || (c || d)
one_to_four true true true true = refl
one_to_four true true true false = refl
one_to_four true true false true = refl
one_to_four true true false false = refl
one_to_four true false true true = refl
one_to_four true false true false = refl
one_to_four true false false true = refl
one_to_four true false false false = refl
one_to_four false true true true = refl
one_to_four false true true false = refl
one_to_four false true false true = refl
one_to_four false true false false = refl
one_to_four false false true true = refl
one_to_four false false true false = refl
one_to_four false false false true = refl
one_to_four false false false false = refl

module _ (w n : ℕ) (few : n ≤ 16) where
  abbrev all : ℕ
  all = 2 ^ n - 1

  -- the numbers that have a mark in one of the groups
  abbrev some : ℕ
  some = bit_or (bit_or w (w / 2 ^ 16)) (bit_or (w / 2 ^ 32) (w / 2 ^ 48))

  module _ (p : ℕ) (lo : 1 ≤ p) (hi : p ≤ n) where
    drop_all : (x : ℕ) → mark (bit_and x all) p ≡ mark x p
    drop_all x = mark_and x all p ∙ rw (mark_full n p lo hi) (go (mark x p))
      where
        go : (b : Bool) → b && true ≡ b
        go true = refl
        go false = refl

    some_mark : mark some p ≡ (mark w (0 + p) || mark w (16 + p)) || (mark w (32 + p) || mark w (48 + p))
    some_mark =
        let z : 0 + p ≡ p = omega arith in
        mark_or (bit_or w (w / 2 ^ 16)) (bit_or (w / 2 ^ 32) (w / 2 ^ 48)) p
        ∙ ap₂ (λ (x y : Bool). x || y) (mark_or w (w / 2 ^ 16) p) (mark_or (w / 2 ^ 32) (w / 2 ^ 48) p)
        ∙ rw (z, mark_shifted w 16 p lo, mark_shifted w 32 p lo, mark_shifted w 48 p lo)

    right_marks : weight_right w p ≡ mark (bit_and some all) p
    unfolding weight_right
    right_marks =
        rw (weight_is w p lo (omega arith)) (one_to_four (mark w (0 + p)) (mark w (16 + p)) (mark w (32 + p)) (mark w (48 + p)) ∙ sym some_mark ∙ sym (drop_all some))

  masks_right : eqb (bit_and some all) all ≡ weights_right w n
  unfolding weights_right
  masks_right =
      sym (every_set (bit_and some all) n (omega (arith, and_le_r some all, pow_pos n)))
      ∙ sym (every_agree (λ p. weight_right w p) (λ p. mark (bit_and some all) p) n right_marks)

  everyone_marked : weigh w (λ p. mark all (0 + p)) n ≡ whole_of w n
  unfolding whole_of
  everyone_marked = total_agree (weight_of w) (λ p. mark all (0 + p)) everyone n (λ p lo hi. let z : 0 + p ≡ p = omega arith in rw (z, mark_full n p lo hi))

-- the paths of `weights_right` and `whole`
pub right_none : (w n : ℕ) → 16 < n → false ≡ weights_right w n
unfolding weights_right weight_right
right_none w n h = sym (every_fails (λ p. weight_right w p) n 17 (omega arith) (omega arith) (rw (← weight_above w 17 (omega arith) (omega arith))))

module _ (n : ℕ) (h : n ≤ 16) where
  power : (1 * 2 ^ n) % 2 ^ 64 ≡ 2 ^ n
  power = machine_power n (omega arith)

  pub power_some : 1 ≤ (1 * 2 ^ n) % 2 ^ 64
  power_some = rw power (pow_pos n)

  module _ (w : ℕ) where
    pub right_masks : eqb (bit_and (bit_or (bit_or w (w / 65536)) (bit_or (w / 4294967296) (w / 281474976710656))) ((1 * 2 ^ n) % 2 ^ 64 - 1)) ((1 * 2 ^ n) % 2 ^ 64 - 1) ≡ weights_right w n
    right_masks = rw power (masks_right w n h)

    ones_word_lem : w ≡ (1 * 2 ^ n) % 2 ^ 64 - 1 → w ≡ 2 ^ n - 1
    ones_word_lem e = e ∙ ap (λ (m : ℕ). m - 1) power

    pub right_ones : w ≡ (1 * 2 ^ n) % 2 ^ 64 - 1 → true ≡ weights_right w n
    unfolding weights_right weight_right
    right_ones e = rw (ones_word_lem e) (sym (each_every (λ p. weight_right (2 ^ n - 1) p) n (λ p lo hi. rw (ones_weight n p lo hi h))))

-- t of the n concentrators weigh
module _ (n t : ℕ) (et : t ≡ min n 16) where
  few : t ≤ 16
  few = omega arith

  pub capped_some : 1 ≤ (1 * 2 ^ t) % 2 ^ 64
  capped_some = power_some t few

  all_part : 2 ^ t - 1 ≡ (2 ^ t - 1) / 2 ^ 0 % 2 ^ t
  all_part = let first : (2 ^ t - 1) / 2 ^ 0 ≡ 2 ^ t - 1 = div-one (2 ^ t - 1) in rw first (sym (mod-eq_of_lt (ones_lt t)))

  capped_whole : (w : ℕ) → whole_of w t ≡ whole_of w n
  unfolding whole_of
  capped_whole w = ap (weigh w everyone) et ∙ weigh_capped w everyone n

  own : t ≡ min t 16
  own = omega arith

  pub all_fits : Fits w64 (((1 * 2 ^ t) % 2 ^ 64 - 1) * 281479271743489)
  all_fits = rw (power t few) (fourfold_fits (2 ^ t - 1) 0 t t (2 ^ t - 1) all_part own)

  module _ (w : ℕ) where
    pub all_counted : Fits w64 (ones (bit_and (((1 * 2 ^ t) % 2 ^ 64 - 1) * 281479271743489) w))
    all_counted = rw (power t few) (fourfold_counted (2 ^ t - 1) 0 t t (2 ^ t - 1) all_part own w)

    pub whole_fourfold : ones (bit_and (((1 * 2 ^ t) % 2 ^ 64 - 1) * 281479271743489) w) ≡ whole_of w n
    whole_fourfold =
        rw (power t few) (part_weighed (2 ^ t - 1) 0 t t (2 ^ t - 1) all_part own (λ p. mark (2 ^ t - 1) (0 + p)) refl w)
        ∙ everyone_marked w t few ∙ capped_whole w

    pub whole_ones : w ≡ (1 * 2 ^ t) % 2 ^ 64 - 1 → t ≡ whole_of w n
    whole_ones e = rw (ones_word_lem t few w e) (sym (ones_whole t few)) ∙ capped_whole w

pub ruleset ones_first = (right_none, power_some, right_masks, right_ones, capped_some, all_fits, all_counted, whole_fourfold, whole_ones)
