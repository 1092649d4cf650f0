-- The front of a list written over with the front of another, and what the loop that does so keeps.
use Rattle.std.specs.Prelude.{ℕ, zero, suc, ◌+◌, ◌≤◌, ◌<◌, List, [], ◌∷◌, ◌++◌, ◌≡◌, refl, length, set, take, drop, get_or}
use Rattle.std.proofs.Common.{sym, ap, subst, ◌∙◌, arith, not-suc-le-zero, le_of_suc-le-suc, add-one, length-set}
use Rattle.records.specs.Words.{copied}

copy_suc : (k : ℕ) (a b : List ℕ) → k < length a → k < length b → set (take k a ++ drop k b) k (get_or a k 0) ≡ take (suc k) a ++ drop (suc k) b
copy_suc k [] b h l = absurd (not-suc-le-zero h)
copy_suc k (x ∷ a) [] h l = absurd (not-suc-le-zero l)
copy_suc zero (x ∷ a) (y ∷ b) h l = refl
copy_suc (suc k) (x ∷ a) (y ∷ b) h l = ap (λ (t : List ℕ). x ∷ t) (copy_suc k a b (le_of_suc-le-suc h) (le_of_suc-le-suc l))

-- a loop `for k in 0..n { out[k] = from[k]; }` that has copied k elements
pub record Copying (a b₀ b : List ℕ) (n k : ℕ) : Type 0 where
  pub within : k ≤ n
  pub size : length b ≡ length b₀
  pub done : b ≡ copied a b₀ k

pub copying_start : (a b : List ℕ) (n : ℕ) → Copying a b b n 0
unfolding copied
copying_start a b n = record { within = omega arith; size = refl; done = refl }

pub copying_next : (a b₀ b : List ℕ) (n k : ℕ) → Copying a b₀ b n k → k < n → n ≤ length a → n ≤ length b₀ → Copying a b₀ (set b k (get_or a k 0)) n (k + 1)
unfolding copied
copying_next a b₀ b n k h l la lb =
    record {
      within = omega arith;
      size = length-set b k _ ∙ h.size;
      done = ap (λ (t : List ℕ). set t k (get_or a k 0)) h.done ∙ subst (λ (m : ℕ). set (take k a ++ drop k b₀) k (get_or a k 0) ≡ take m a ++ drop m b₀) (sym (add-one k)) (copy_suc k a b₀ (omega arith) (omega arith));
    }

pub copying_done : (a b₀ b : List ℕ) (n k : ℕ) → Copying a b₀ b n k → n ≤ k → b ≡ copied a b₀ n
copying_done a b₀ b n k h l = let e : k ≡ n = omega arith in subst (λ (m : ℕ). b ≡ copied a b₀ m) e h.done

pub copying_index : (a b₀ b : List ℕ) (n k : ℕ) → Copying a b₀ b n k → k < n → n ≤ length b₀ → k < length b
copying_index a b₀ b n k h l m = let e : length b ≡ length b₀ = h.size in omega arith

pub ruleset copying = (copying_start, copying_next, copying_done, copying_index)
