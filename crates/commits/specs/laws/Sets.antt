-- A set as the list of its values, and when two COMMITs hold the same.
use Rattle.std.specs.Prelude.{ℕ, zero, suc, ◌+◌, ◌≤◌, ◌<◌, true, List, [], ◌∷◌, ◌≡◌, refl, eqb, length, take, drop}
use Rattle.std.proofs.Common.{sym, ap, ◌∙◌, drop-cons, eqb-true, eq-eqb}
use native.Mathlib.Omega.{arith}
use Rattle.quorum.specs.laws.Bools.{and_left, and_right, and_both}
use Rattle.quorum.specs.Every.{every}
use Rattle.quorum.specs.laws.Every.{every_each, each_every}
use Rattle.records.specs.Layout.{commit_row_at}
use Rattle.records.specs.Words.{word}
use Rattle.records.specs.Records.{commit_count, commit_value, commit_set}
use Rattle.commits.specs.Commits.{same_set}

-- f 1 to f k
unfoldable pub listed : (ℕ → ℕ) → ℕ → List ℕ
listed f zero = []
listed f (suc k) = f 1 ∷ listed (λ j. f (suc j)) k

pub listed_agree : (f g : ℕ → ℕ) (k : ℕ) → ((j : ℕ) → 1 ≤ j → j ≤ k → f j ≡ g j) → listed f k ≡ listed g k
unfolding listed
listed_agree f g zero h = refl
listed_agree f g (suc k) h =
    ap (λ (x : ℕ). x ∷ listed (λ j. f (suc j)) k) (h 1 (omega arith) (omega arith))
    ∙ ap (λ (xs : List ℕ). g 1 ∷ xs) (listed_agree (λ j. f (suc j)) (λ j. g (suc j)) k (λ j low high. h (suc j) (omega arith) (omega arith)))

pub length_listed : (f : ℕ → ℕ) (k : ℕ) → length (listed f k) ≡ k
unfolding listed
length_listed f zero = refl
length_listed f (suc k) = ap suc (length_listed (λ j. f (suc j)) k)

head_same : {x y : ℕ} {xs ys : List ℕ} → x ∷ xs ≡ y ∷ ys → x ≡ y
head_same e = cc

tail_same : {x y : ℕ} {xs ys : List ℕ} → x ∷ xs ≡ y ∷ ys → xs ≡ ys
tail_same e = cc

listed_each : (f g : ℕ → ℕ) (k : ℕ) → listed f k ≡ listed g k → (j : ℕ) → 1 ≤ j → j ≤ k → f j ≡ g j
unfolding listed
listed_each f g zero e j low high = absurd (omega arith)
listed_each f g (suc k) e zero low high = absurd (omega arith)
listed_each f g (suc k) e (suc zero) low high = head_same e
listed_each f g (suc k) e (suc (suc j)) low high = listed_each (λ i. f (suc i)) (λ i. g (suc i)) k (tail_same e) (suc j) (omega arith) (omega arith)

-- the k words after word a
pub row_listed : (s : List ℕ) (a k : ℕ) → a + k < length s → take k (drop (a + 1) s) ≡ listed (λ j. word s (a + j)) k
unfolding listed word
row_listed s a zero h = refl
row_listed s a (suc k) h =
    ap (take (suc k)) (drop-cons s (a + 1) 0 (omega arith))
    ∙ ap (λ (xs : List ℕ). word s (a + 1) ∷ xs) (rest (omega arith) ∙ row_listed s (a + 1) k (omega arith) ∙ listed_agree (λ j. word s (a + 1 + j)) (λ j. word s (a + suc j)) k (λ j low high. ap (word s) (omega arith)))
  where
    rest : suc (a + 1) ≡ a + 1 + 1 → take k (drop (suc (a + 1)) s) ≡ take k (drop (a + 1 + 1) s)
    rest e = ap (λ (x : ℕ). take k (drop x s)) e

module _ (s : List ℕ) (p : ℕ) (size : length s ≡ 2048) (high : p ≤ 16) where
  few : commit_count s p ≤ 16
  unfolding commit_count
  few = omega arith

  pub set_listed : commit_set s p ≡ listed (commit_value s p) (commit_count s p)
  unfolding commit_set commit_value
  set_listed = row_listed s (commit_row_at p) (commit_count s p) (omega (arith, few))

  pub set_length : length (commit_set s p) ≡ commit_count s p
  set_length = ap (λ (xs : List ℕ). length xs) set_listed ∙ length_listed (commit_value s p) (commit_count s p)

-- COMMITs that agree in count and values hold the same set
pub set_agree : (s t : List ℕ) (p q : ℕ) → length s ≡ 2048 → length t ≡ 2048 → p ≤ 16 → q ≤ 16 → commit_count t q ≡ commit_count s p → ((k : ℕ) → 1 ≤ k → k ≤ commit_count s p → commit_value t q k ≡ commit_value s p k) → commit_set t q ≡ commit_set s p
set_agree s t p q ls lt hp hq e v =
    set_listed t q lt hq
    ∙ ap (listed (commit_value t q)) e
    ∙ listed_agree (commit_value t q) (commit_value s p) (commit_count s p) v
    ∙ sym (set_listed s p ls hp)

-- sets that compare as the same are
pub same_set_lem : (s : List ℕ) (p q : ℕ) → length s ≡ 2048 → p ≤ 16 → q ≤ 16 → same_set s p q ≡ true → commit_set s q ≡ commit_set s p
unfolding same_set
same_set_lem s p q l hp hq e =
    let counts = eqb (commit_count s p) (commit_count s q) in
    let values = every (λ k. eqb (commit_value s p k) (commit_value s q k)) (commit_count s p) in
    set_agree s s p q l l hp hq (sym (eqb-true (commit_count s p) (commit_count s q) (and_left counts values e)))
    (λ k low high. sym (eqb-true (commit_value s p k) (commit_value s q k) (every_each (λ k. eqb (commit_value s p k) (commit_value s q k)) (commit_count s p) (and_right counts values e) k low high)))

-- and sets that are the same compare so
pub set_same : (s : List ℕ) (p q : ℕ) → length s ≡ 2048 → p ≤ 16 → q ≤ 16 → commit_set s q ≡ commit_set s p → same_set s p q ≡ true
unfolding same_set
set_same s p q l hp hq e =
    let counts : commit_count s p ≡ commit_count s q = sym (set_length s p l hp) ∙ ap (λ (xs : List ℕ). length xs) (sym e) ∙ set_length s q l hq in
    let values : listed (commit_value s p) (commit_count s p) ≡ listed (commit_value s q) (commit_count s p) = sym (set_listed s p l hp) ∙ sym e ∙ set_listed s q l hq ∙ ap (listed (commit_value s q)) (sym counts) in
    and_both _ _ (eq-eqb (commit_count s p) (commit_count s q) counts)
    (each_every (λ k. eqb (commit_value s p k) (commit_value s q k)) (commit_count s p) (λ k low high. eq-eqb (commit_value s p k) (commit_value s q k) (listed_each (commit_value s p) (commit_value s q) (commit_count s p) values k low high)))
