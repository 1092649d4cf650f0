-- The cases of the code that prints.
use Rattle.std.specs.Prelude.{ℕ, List, [], ◌∷◌, ◌≡◌, length, take, min}
use Rattle.std.proofs.Common.{arith}
use Rattle.std.proofs.lemmas.List.{take_min}
use Rattle.text.specs.Numbers.{decimal_text, hex_text}
use Rattle.drill_lines.specs.Text.{comma_text, values_text, number_text, result_line, sent_line, bad_line}
use Rattle.text.specs.Paste.{Wrote}
use Rattle.text.specs.laws.Paste.{wrote_both}
use Rattle.text.specs.Fields.{each_text}

module _ (s s' s'' : List ℕ) (a r q : ℕ) where
  pub wrote_comma : (n : ℕ) → Wrote (44 ∷ []) s a r s' → Wrote (hex_text n) s' r q s'' → Wrote (comma_text n) s a q s''
  unfolding comma_text
  wrote_comma n h l = wrote_both (44 ∷ []) (hex_text n) s s' s'' a r q h l

  pub wrote_number : (n after : ℕ) → Wrote (decimal_text n) s a r s' → Wrote (after ∷ []) s' r q s'' → Wrote (number_text n after) s a q s''
  unfolding number_text
  wrote_number n after h l = wrote_both (decimal_text n) (after ∷ []) s s' s'' a r q h l

  pub wrote_sent : (n : ℕ) → Wrote (115 ∷ 101 ∷ 110 ∷ 116 ∷ 9 ∷ []) s a r s' → Wrote (number_text n 10) s' r q s'' → Wrote (sent_line n) s a q s''
  unfolding sent_line
  wrote_sent n h l = wrote_both (115 ∷ 101 ∷ 110 ∷ 116 ∷ 9 ∷ []) (number_text n 10) s s' s'' a r q h l

  pub wrote_bad : (n : ℕ) → Wrote (98 ∷ 97 ∷ 100 ∷ 9 ∷ []) s a r s' → Wrote (number_text n 10) s' r q s'' → Wrote (bad_line n) s a q s''
  unfolding bad_line
  wrote_bad n h l = wrote_both (98 ∷ 97 ∷ 100 ∷ 9 ∷ []) (number_text n 10) s s' s'' a r q h l

pub ruleset two_texts = (wrote_comma, wrote_number, wrote_sent, wrote_bad)

-- no value, and one or more
pub values_none : (xs s after : List ℕ) (a r : ℕ) → length xs ≡ 0 → Wrote (45 ∷ []) s a r after → Wrote (values_text xs) s a r after
unfolding values_text
values_none [] s after a r e w = w
values_none (x ∷ xs) s after a r e w = absurd (omega arith)

pub values_some : (xs rest s s' s'' : List ℕ) (x a r q : ℕ) → xs ≡ x ∷ rest → Wrote (hex_text x) s a r s' →
    Wrote (each_text comma_text rest) s' r q s'' → Wrote (values_text xs) s a q s''
unfolding values_text
values_some xs rest s s' s'' x a r q e w v = rw e (wrote_both (hex_text x) (each_text comma_text rest) s s' s'' a r q w v)

pub ruleset values_cases = (values_none, values_some)

pub wrote_result : (n e c t k m : ℕ) (xs s s1 s2 s3 s4 s5 s6 : List ℕ) (a r1 r2 r3 r4 r5 r6 : ℕ) → m ≡ min k (length xs) →
    Wrote (number_text n 9) s a r1 s1 → Wrote (number_text e 9) s1 r1 r2 s2 → Wrote (number_text c 9) s2 r2 r3 s3 → Wrote (number_text t 9) s3 r3 r4 s4 →
    Wrote (values_text (take m xs)) s4 r4 r5 s5 → Wrote (10 ∷ []) s5 r5 r6 s6 → Wrote (result_line n e c t (take k xs)) s a r6 s6
unfolding result_line
wrote_result n e c t k m xs s s1 s2 s3 s4 s5 s6 a r1 r2 r3 r4 r5 r6 q h1 h2 h3 h4 h5 h6 =
    rw (← take_min k xs, ← q)
    (wrote_both _ _ s s1 s6 a r1 r6 h1
    (wrote_both _ _ s1 s2 s6 r1 r2 r6 h2
    (wrote_both _ _ s2 s3 s6 r2 r3 r6 h3
    (wrote_both _ _ s3 s4 s6 r3 r4 r6 h4
    (wrote_both _ _ s4 s5 s6 r4 r5 r6 h5 h6)))))

pub ruleset result_cases = wrote_result
