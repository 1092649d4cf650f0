-- How long the texts of numbers are.
use Rattle.std.specs.Prelude.{ℕ, zero, suc, ◌+◌, ◌*◌, ◌/◌, ◌%◌, ◌≤◌, ◌<◌, Bool, true, false, cond, List, [], ◌∷◌, ◌++◌, ◌≡◌, refl, ltb, length}
use Rattle.std.proofs.Common.{◌∙◌, arith, length-append, lt-ltb}
use Rattle.io.specs.Digits.{last_digits, hex_digit_ascii}
use Rattle.text.specs.Numbers.{decimal_in, decimal_text, hex_text, word_text, byte_text}
use Rattle.text.specs.Fields.{each_text}

decimal_in_lem : (k n : ℕ) → length (decimal_in k n) ≤ k
unfolding decimal_in
decimal_in_lem zero n = omega arith
decimal_in_lem (suc k) n = go (ltb n 10) (decimal_in_lem k (n / 10))
  where
    go : (b : Bool) → length (decimal_in k (n / 10)) ≤ k → length (cond b ((48 + n) ∷ []) (decimal_in k (n / 10) ++ ((48 + n % 10) ∷ []))) ≤ suc k
    go true h = omega arith
    go false h = rw length-append (omega (arith, h))

pub decimal_length : (n : ℕ) → length (decimal_text n) ≤ 20
unfolding decimal_text
decimal_length n = decimal_in_lem 20 n

-- one digit
pub figure_length : (n : ℕ) → n < 10 → length (decimal_text n) ≡ 1
unfolding decimal_text decimal_in
figure_length n h = rw (lt-ltb n 10 h)

digits_length : (b k n : ℕ) → length (last_digits b k n) ≡ k
digits_length b zero n = refl
digits_length b (suc k) n = length-append (last_digits b k (n / b)) (hex_digit_ascii (n % b) ∷ []) ∙ omega (arith, digits_length b k (n / b))

pub hex_length : (n : ℕ) → length (hex_text n) ≡ 16
unfolding hex_text
hex_length n = digits_length 16 16 n

pub word_length : (n : ℕ) → length (word_text n) ≡ 8
unfolding word_text
word_length n = digits_length 16 8 n

pub bytes_length : (b : List ℕ) → length (each_text byte_text b) ≡ 2 * length b
unfolding each_text byte_text
bytes_length [] = refl
bytes_length (x ∷ b) = omega (arith, bytes_length b)
