-- What holds of each act of a choice holds of the act chosen; where none is due, none of them is.
use Prim.Native.Nat.{ℕ, ◌≤◌}
use Rattle.std.proofs.Math.Bool.{Bool}
use Rattle.std.specs.Prelude.{true, false, cond, ◌≡◌, eqb}
use Rattle.std.proofs.Common.{true≢false, sym, ◌∙◌, ne_eqb}
use Rattle.std.proofs.Math.Path.{refl}
use Rattle.std.proofs.Math.Decide.{ℕ_discrete}
use Rattle.std.proofs.lemmas.Bool.{eqb-false}
use Rattle.quorum.specs.Lowest.{lowest}
use Rattle.quorum.specs.laws.Lowest.{Lowest, lowest_is, lowest_none}
use Rattle.acts.specs.Acts.{is_due, or_act, act_at, first_act}
use Rattle.acts.specs.declared.Act.{Act}
use Rattle.acts.specs.declared.Act.TheVariants.{Idle}

module _ (P : Act → Type 0) where
  pub all_cond : (t : Bool) (x y : Act) → (t ≡ true → P x) → (t ≡ false → P y) → P (cond t x y)
  all_cond true x y f g = f refl
  all_cond false x y f g = g refl

  pub all_or : (x y : Act) → P x → P y → P (or_act x y)
  unfolding or_act
  all_or x y p q = all_cond (is_due x) x y (λ e. p) (λ e. q)

  pub all_first : (f : ℕ → Act) (n : ℕ) → P Idle → ((i : ℕ) → 1 ≤ i → i ≤ n → P (f i)) → P (first_act f n)
  unfolding first_act act_at
  all_first f n p q = all_cond (eqb k 0) Idle (f k) (λ e. p) (λ e. found (lowest_is test n k refl (eqb-false k 0 e)))
    where
      test : ℕ → Bool
      test i = is_due (f i)

      k : ℕ
      k = lowest (λ i. is_due (f i)) n

      found : Lowest test n k → P (f k)
      found l = q k l.low l.high

pub or_idle : (a b : Act) → is_due (or_act a b) ≡ false → (is_due a ≡ false) × (is_due b ≡ false)
unfolding or_act
or_idle a b e = go (is_due a) refl e
  where
    go : (t : Bool) → is_due a ≡ t → is_due (cond t a b) ≡ false → (is_due a ≡ false) × (is_due b ≡ false)
    go true f g = absurd (true≢false (sym f ∙ g))
    go false f g = (f, g)

pub first_idle : (f : ℕ → Act) (n : ℕ) → is_due (first_act f n) ≡ false → (i : ℕ) → 1 ≤ i → i ≤ n → is_due (f i) ≡ false
unfolding first_act act_at
first_idle f n e = at (ℕ_discrete (lowest (λ i. is_due (f i)) n) 0)
  where
    at : Dec (lowest (λ i. is_due (f i)) n ≡ 0) → (i : ℕ) → 1 ≤ i → i ≤ n → is_due (f i) ≡ false
    at (yes z) = lowest_none (λ i. is_due (f i)) n z
    at (no ne) = absurd (true≢false (sym (lowest_is (λ i. is_due (f i)) n (lowest (λ i. is_due (f i)) n) refl ne).holds ∙ due_false))
      where
        due_false : is_due (f (lowest (λ i. is_due (f i)) n)) ≡ false
        due_false = rw (ne_eqb (lowest (λ i. is_due (f i)) n) 0 ne) at e

-- a test before an act that is due
pub passed_test : (t : Bool) (a : Act) → is_due a ≡ true → is_due (cond t Idle a) ≡ false → t ≡ true
passed_test true a d e = refl
passed_test false a d e = absurd (true≢false (sym d ∙ e))
