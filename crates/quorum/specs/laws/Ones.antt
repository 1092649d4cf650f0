-- A part of a word's marks, by shift and remainder.
use Rattle.std.specs.Prelude.{ℕ, zero, suc, ◌+◌, ◌-◌, ◌*◌, ◌/◌, ◌%◌, ◌^◌, ◌<◌, ◌≤◌, ◌≡◌, refl, eqb}
use Rattle.std.proofs.Common.{sym, ◌∙◌, arith, one-mul, mod-eq_of_lt, lt_of_lt_of_le, pow_pos, pow_mono, shr-shr}
use Rattle.std.proofs.Math.Nat.{div-eq_of_lt}
use Rattle.std.specs.Int.Count.{ones, ones_in}
use Rattle.std.proofs.Math.Pow.{pow-lt}
use Rattle.std.proofs.lemmas.Nat.{shr_le}
use Rattle.quorum.specs.Marks.{mark}
use Rattle.quorum.specs.laws.Marks.{mark_digit}
use Rattle.quorum.specs.Total.{share}

pub share_digit : (d : ℕ) → d < 2 → share (eqb d 1) 1 ≡ ones d
unfolding ones ones_in
share_digit zero h = refl
share_digit (suc zero) h = refl
share_digit (suc (suc d)) h = absurd (omega arith)

pub mark_part : (w base n : ℕ) → mark w (base + suc n) ≡ eqb (w / 2 ^ base / 2 ^ n % 2) 1
mark_part w base n =
    let e : base + suc n - 1 ≡ base + n = omega arith in
    mark_digit w (base + suc n) (omega arith) ∙ rw (e, shr-shr w base n)

-- the paths of `part`
pub machine_power : (n : ℕ) → n ≤ 63 → (1 * 2 ^ n) % 2 ^ 64 ≡ 2 ^ n
machine_power n h = let l : n < 64 = omega arith in rw (one-mul, mod-eq_of_lt (pow-lt l))

pub divisor_some : (n : ℕ) → n ≤ 63 → 0 < (1 * 2 ^ n) % 2 ^ 64
divisor_some n h = rw (machine_power n h) (pow_pos n)

pub part_none : (w base n : ℕ) → w < 2 ^ 64 → 63 < base → 0 ≡ w / 2 ^ base % 2 ^ n
part_none w base n h l =
    let k : 64 ≤ base = omega arith in
    rw (div-eq_of_lt (lt_of_lt_of_le h (pow_mono k))) (sym (mod-eq_of_lt (pow_pos n)))

pub part_whole : (w base n : ℕ) → w < 2 ^ 64 → 63 < n → w / 2 ^ base ≡ w / 2 ^ base % 2 ^ n
part_whole w base n h l =
    let k : 64 ≤ n = omega arith in
    let low : w / 2 ^ base < 2 ^ 64 = omega (arith, shr_le w base) in
    sym (mod-eq_of_lt (lt_of_lt_of_le low (pow_mono k)))

pub part_low : (w base n : ℕ) → n ≤ 63 → w / 2 ^ base % ((1 * 2 ^ n) % 2 ^ 64) ≡ w / 2 ^ base % 2 ^ n
part_low w base n h = rw (machine_power n h)

pub ruleset part_cases = (divisor_some, part_none, part_whole, part_low)
