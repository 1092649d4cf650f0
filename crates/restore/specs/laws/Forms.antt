-- The fields of an opening line by their places: the form of each, and what reading them all gives.
use Rattle.std.specs.Prelude.{ℕ, zero, suc, ◌+◌, ◌≤◌, ◌<◌, Bool, true, false, cond, ◌&&◌, ◌||◌, List, [], ◌∷◌, ◌++◌, ◌≡◌, refl, eqb, ltb, length, replicate, Option, None}
use Rattle.std.proofs.Common.{sym, ap, ◌∙◌, arith}
use borrow.Author.Tests.{eq-eqb, ne_eqb, lt-ltb, le-ltb, le-leb, eqb-true, eqb-false}
use Rattle.text.specs.Numbers.{DECIMAL, WORD, PACK, value_of, values_of}
use Rattle.journal.specs.Lines.{opening_forms}
use Rattle.restore.specs.laws.Truth.{and_none}
use Rattle.restore.specs.Reading.{proper, all_proper, figure_count, forms_for}
use Rattle.restore.specs.Restoring.{Point, opening_from, opening_read}

-- the form of field k of n concentrators: six decimals, the own input, n coin words, decimals
unfoldable pub form_at : (n k : ℕ) → ℕ
form_at n k = cond (ltb k 6) DECIMAL (cond (eqb k 6) PACK (cond (ltb k (7 + n)) WORD DECIMAL))

-- the fields from field k on, each of its form, and their numbers
unfoldable pub proper_all : (n k : ℕ) → List (List ℕ) → Bool
proper_all n k [] = true
proper_all n k (f ∷ fs) = proper (form_at n k) f && proper_all n (k + 1) fs

unfoldable pub values_all : (n k : ℕ) → List (List ℕ) → List ℕ
values_all n k [] = []
values_all n k (f ∷ fs) = value_of (form_at n k) f ∷ values_all n (k + 1) fs

-- the cases of a form
module _ (n k : ℕ) where
  pub form_front : k < 6 → 10 ≡ form_at n k
  unfolding form_at
  form_front h = rw (lt-ltb k 6 h)

  module _ (h : 6 ≤ k) where
    pub form_input : k ≡ 6 → 16 ≡ form_at n k
    unfolding form_at
    form_input e = rw (le-ltb k 6 h, eq-eqb k 6 e)

    module _ (i : k ≡ 6 → ⊥) where
      pub form_coin : k < 7 + n → 8 ≡ form_at n k
      unfolding form_at
      form_coin l = rw (le-ltb k 6 h, ne_eqb k 6 i, lt-ltb k (7 + n) l)

      pub form_weight : 7 + n ≤ k → 10 ≡ form_at n k
      unfolding form_at
      form_weight l = rw (le-ltb k 6 h, ne_eqb k 6 i, le-ltb k (7 + n) l)

pub ruleset form_cases = (form_front, form_input, form_coin, form_weight)

-- so many forms from field k on
unfoldable pub forms_from : (n k count : ℕ) → List ℕ
forms_from n k zero = []
forms_from n k (suc c) = form_at n k ∷ forms_from n (k + 1) c

pub proper_forms : (n k : ℕ) (fs : List (List ℕ)) → all_proper (forms_from n k (length fs)) fs ≡ proper_all n k fs
unfolding all_proper proper_all forms_from
proper_forms n k [] = refl
proper_forms n k (f ∷ fs) = ap (λ (b : Bool). proper (form_at n k) f && b) (proper_forms n (k + 1) fs)

pub values_forms : (n k : ℕ) (fs : List (List ℕ)) → values_of (forms_from n k (length fs)) fs ≡ values_all n k fs
unfolding values_of values_all forms_from
values_forms n k [] = refl
values_forms n k (f ∷ fs) = ap (λ (xs : List ℕ). value_of (form_at n k) f ∷ xs) (values_forms n (k + 1) fs)

forms_append : (n k c d : ℕ) → forms_from n k (c + d) ≡ forms_from n k c ++ forms_from n (k + c) d
unfolding forms_from
forms_append n k zero d = let s : k + 0 ≡ k = omega arith in let z : 0 + d ≡ d = omega arith in rw (s, z)
forms_append n k (suc c) d =
    let s : suc c + d ≡ suc (c + d) = omega arith in
    let m : k + suc c ≡ k + 1 + c = omega arith in
    rw (s, m) (ap (λ (xs : List ℕ). form_at n k ∷ xs) (forms_append n (k + 1) c d))

forms_coins : (n k c : ℕ) → 7 ≤ k → k + c ≤ 7 + n → forms_from n k c ≡ replicate c WORD
unfolding forms_from
forms_coins n k zero h l = refl
forms_coins n k (suc c) h l = rw (← form_coin n k (omega arith) (λ e. omega arith) (omega arith), forms_coins n (k + 1) c (omega arith) (omega arith))

forms_weights : (n k c : ℕ) → 7 + n ≤ k → forms_from n k c ≡ replicate c DECIMAL
unfolding forms_from
forms_weights n k zero h = refl
forms_weights n k (suc c) h = rw (← form_weight n k (omega arith) (λ e. omega arith) h, forms_weights n (k + 1) c (omega arith))

forms_seven : (n : ℕ) → forms_from n 0 7 ≡ DECIMAL ∷ DECIMAL ∷ DECIMAL ∷ DECIMAL ∷ DECIMAL ∷ DECIMAL ∷ PACK ∷ []
unfolding forms_from form_at
forms_seven n = refl

forms_opening : (n m : ℕ) → opening_forms n m ≡ forms_from n 0 (7 + n + m)
unfolding opening_forms
forms_opening n m =
    let z : 0 + (7 + n) ≡ 7 + n = omega arith in
    sym (forms_append n 0 (7 + n) m
    ∙ rw (z, forms_append n 0 7 n, forms_seven n, forms_coins n 7 n (omega arith) (omega arith), forms_weights n (7 + n) m (omega arith)))

forms_length : (n k c : ℕ) → length (forms_from n k c) ≡ c
unfolding forms_from
forms_length n k zero = refl
forms_length n k (suc c) = ap suc (forms_length n (k + 1) c)

-- fields of another number than forms are not all proper
pub proper_length : (ws : List ℕ) (fs : List (List ℕ)) → (length ws ≡ length fs → ⊥) → all_proper ws fs ≡ false
unfolding all_proper
proper_length [] [] n = absurd (n refl)
proper_length [] (f ∷ fs) n = refl
proper_length (w ∷ ws) [] n = refl
proper_length (w ∷ ws) (f ∷ fs) n = rw (proper_length ws fs (λ e. n (ap suc e))) (and_none (proper w f))

-- the number of fields is right: without weights, with them, or with whether coins are boxed too
unfoldable pub count_right : ℕ → ℕ → Bool
count_right n count = eqb count (7 + n) || eqb count (7 + n + n) || eqb count (7 + n + n + 1)

-- what numbers of an opening line come to, by how many they are
unfoldable pub counted_from : ℕ → List ℕ → Option Point
counted_from n xs = cond (count_right n (length xs)) (opening_from n xs) None

pub values_length : (n k : ℕ) (fs : List (List ℕ)) → length (values_all n k fs) ≡ length fs
unfolding values_all
values_length n k [] = refl
values_length n k (f ∷ fs) = ap suc (values_length n (k + 1) fs)

pub none_of : (b : Bool) → ◌≡◌ {A = Option Point} None (cond b None None)
none_of true = refl
none_of false = refl

pub opening_counted : (n : ℕ) (fs : List (List ℕ)) → n ≤ 16 → opening_read n fs ≡ cond (proper_all n 0 fs) (counted_from n (values_all n 0 fs)) None
unfolding opening_read forms_for figure_count counted_from count_right
opening_counted n fs h = rw (le-leb n 16 h, values_length n 0 fs) (go (eqb (length fs) (7 + n)) refl (eqb (length fs) (7 + n + n)) refl (eqb (length fs) (7 + n + n + 1)) refl)
  where
    whole : (m : ℕ) → length fs ≡ 7 + n + m → opening_forms n m ≡ forms_from n 0 (length fs)
    whole m e = forms_opening n m ∙ ap (forms_from n 0) (sym e)

    same : (m : ℕ) → length fs ≡ 7 + n + m → cond (all_proper (opening_forms n m) fs) (opening_from n (values_of (opening_forms n m) fs)) None ≡ cond (proper_all n 0 fs) (opening_from n (values_all n 0 fs)) None
    same m e = rw (whole m e, proper_forms n 0 fs, values_forms n 0 fs)

    go : (a : Bool) → eqb (length fs) (7 + n) ≡ a → (b : Bool) → eqb (length fs) (7 + n + n) ≡ b → (c : Bool) → eqb (length fs) (7 + n + n + 1) ≡ c →
        cond (all_proper (opening_forms n (cond a 0 (cond b n (n + 1)))) fs) (opening_from n (values_of (opening_forms n (cond a 0 (cond b n (n + 1)))) fs)) None
        ≡ cond (proper_all n 0 fs) (cond (a || b || c) (opening_from n (values_all n 0 fs)) None) None
    go true u b v c x = same 0 (eqb-true _ _ u ∙ omega arith)
    go false u true v c x = same n (eqb-true _ _ v)
    go false u false v true x = same (n + 1) (eqb-true _ _ x ∙ omega arith)
    go false u false v false x =
        rw (proper_length (opening_forms n (n + 1)) fs (λ e. eqb-false (length fs) (7 + n + n + 1) x (sym e ∙ ap length (forms_opening n (n + 1)) ∙ forms_length n 0 (7 + n + (n + 1)) ∙ omega arith))) (none_of (proper_all n 0 fs))
