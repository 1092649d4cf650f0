-- The cases of the code that reads digits.
use Rattle.std.specs.Prelude.{ℕ, ◌+◌, ◌*◌, ◌-◌, ◌/◌, ◌^◌, ◌≤◌, ◌<◌, ◌≡◌, eqb, leb, ltb}
use Rattle.std.proofs.Common.{arith, le-div_iff_mul-le}
use Rattle.std.proofs.Math.Decide.{dec_le}
use borrow.Author.Tests.{lt-ltb, le-ltb, le-leb, lt-leb, eq-eqb, ne_eqb}
use Rattle.io.specs.Digits.{hex_digit_ascii}
use Rattle.text.specs.Numbers.{digit_of, base_of, complete}

module _ (c : ℕ) where
  pub digit_below : c < 48 → 16 ≡ digit_of c
  unfolding digit_of
  digit_below h = rw (lt-ltb c 48 h)

  pub digit_figure : 48 ≤ c → c ≤ 57 → c - 48 ≡ digit_of c
  unfolding digit_of
  digit_figure h l = rw (le-ltb c 48 h, le-leb c 57 l)

  pub digit_between : 57 < c → c < 97 → 16 ≡ digit_of c
  unfolding digit_of
  digit_between h l = rw (le-ltb c 48 (omega arith), lt-leb c 57 h, lt-ltb c 97 l)

  pub digit_letter : 97 ≤ c → c ≤ 102 → c - 87 ≡ digit_of c
  unfolding digit_of
  digit_letter h l = rw (le-ltb c 48 (omega arith), lt-leb c 57 (omega arith), le-ltb c 97 h, le-leb c 102 l)

  pub digit_above : 102 < c → 16 ≡ digit_of c
  unfolding digit_of
  digit_above h = rw (le-ltb c 48 (omega arith), lt-leb c 57 (omega arith), le-ltb c 97 (omega arith), lt-leb c 102 h)

pub ruleset digit_cases = (digit_below, digit_figure, digit_between, digit_letter, digit_above)

module _ (w : ℕ) where
  pub base_decimal : w ≡ 10 → 10 ≡ base_of w
  unfolding base_of
  base_decimal e = rw (eq-eqb _ _ e)

  pub base_other : (w ≡ 10 → ⊥) → 16 ≡ base_of w
  unfolding base_of
  base_other e = rw (ne_eqb _ _ e)

pub ruleset base_cases = (base_decimal, base_other)

module _ (w d : ℕ) where
  pub complete_decimal : w ≡ 10 → ltb 0 d ≡ complete w d
  unfolding complete
  complete_decimal e = rw (eq-eqb _ _ e)

  pub complete_other : (w ≡ 10 → ⊥) → eqb d w ≡ complete w d
  unfolding complete
  complete_other e = rw (ne_eqb _ _ e)

pub ruleset complete_cases = (complete_decimal, complete_other)

-- the test of the code is that of the definition
pub fits_largest : (v b d : ℕ) → 0 < b → d < 2 ^ 8 → leb v ((18446744073709551615 - d) / b) ≡ ltb (v * b + d) (2 ^ 64)
fits_largest v b d h l =
    elim (dec_le v ((18446744073709551615 - d) / b)) [
      | yes q ↦ let m : v * b ≤ 18446744073709551615 - d = (le-div_iff_mul-le h).0 q in rw (le-leb _ _ q, lt-ltb (v * b + d) (2 ^ 64) (omega arith))
      | no q ↦ rw (lt-leb v ((18446744073709551615 - d) / b) (omega arith), le-ltb (v * b + d) (2 ^ 64) (go (dec_le (2 ^ 64) (v * b + d)) q))
    ]
  where
    go : Dec (2 ^ 64 ≤ v * b + d) → (v ≤ (18446744073709551615 - d) / b → ⊥) → 2 ^ 64 ≤ v * b + d
    go (yes t) q = t
    go (no t) q = absurd (q ((le-div_iff_mul-le h).1 (omega arith)))

pub ruleset fits_cases = fits_largest

-- the character of a digit
module _ (d : ℕ) where
  pub character_figure : d < 10 → 48 + d ≡ hex_digit_ascii d
  character_figure h = rw (lt-ltb d 10 h)

  pub character_letter : 10 ≤ d → 87 + d ≡ hex_digit_ascii d
  character_letter h = rw (le-ltb d 10 h)

pub ruleset character_cases = (character_figure, character_letter)
