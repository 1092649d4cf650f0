-- Lists of zeros, runs of stores, and what the loop that does one keeps.
use Rattle.std.specs.Prelude.{ℕ, zero, suc, ◌+◌, ◌≤◌, ◌<◌, List, ◌≢◌, ◌≡◌, refl, length}
use Rattle.std.proofs.Common.{ap, subst, ◌∙◌, arith, add-one}
use Rattle.std.proofs.Math.Decide.{dec_le}
use Rattle.std.proofs.lemmas.List.{length-replicate, get_or-replicate}
use Rattle.records.specs.Words.{word, put, blank, store_of}
use Rattle.records.specs.laws.Words.{length_put, word_put_same, word_put_other}

pub length_blank : (n : ℕ) → length (blank n) ≡ n
unfolding blank
length_blank n = length-replicate n 0

pub word_blank : (n k : ℕ) → k < n → word (blank n) k ≡ 0
unfolding word blank
word_blank n k h = get_or-replicate n k 0 0 h

pub length_store_of : (f : ℕ → ℕ) (a : ℕ) (s : List ℕ) (n : ℕ) → length (store_of f a s n) ≡ length s
unfolding store_of
length_store_of f a s zero = refl
length_store_of f a s (suc n) = length_put _ _ _ ∙ length_store_of f a s n

-- a run of stores leaves every word outside it, and each word of it is read back
pub store_other : (f : ℕ → ℕ) (a : ℕ) (s : List ℕ) (n k : ℕ) → ((j : ℕ) → 1 ≤ j → j ≤ n → k ≢ a + j) → word (store_of f a s n) k ≡ word s k
unfolding store_of
store_other f a s zero k h = refl
store_other f a s (suc n) k h =
    word_put_other (store_of f a s n) (a + suc n) (f (suc n)) k (h (suc n) (omega arith) (omega arith))
    ∙ store_other f a s n k (λ j l m. h j l (omega arith))

pub store_same : (f : ℕ → ℕ) (a : ℕ) (s : List ℕ) (n k : ℕ) → 1 ≤ k → k ≤ n → a + n < length s → word (store_of f a s n) (a + k) ≡ f k
unfolding store_of
store_same f a s zero k lo hi h = absurd (omega arith)
store_same f a s (suc n) k lo hi h = go (λ q. store_same f a s n k lo q (omega arith)) (dec_le k n)
  where
    go : (k ≤ n → word (store_of f a s n) (a + k) ≡ f k) → Dec (k ≤ n) → word (put (store_of f a s n) (a + suc n) (f (suc n))) (a + k) ≡ f k
    go r (yes q) = word_put_other (store_of f a s n) (a + suc n) (f (suc n)) (a + k) (λ e. omega arith) ∙ r q
    go r (no q) =
        let e : k ≡ suc n = omega arith in
        rw e (word_put_same (store_of f a s n) (a + suc n) (f (suc n)) (rw length_store_of (omega arith)))

-- a loop `for k in 0..n { put(s, a + k + 1, f(k + 1)); }` that has stored 1 to k
pub record Storing (f : ℕ → ℕ) (a n : ℕ) (s₀ s : List ℕ) (k : ℕ) : Type 0 where
  pub within : k ≤ n
  pub stored : s ≡ store_of f a s₀ k

pub storing_start : (f : ℕ → ℕ) (a n : ℕ) (s : List ℕ) → Storing f a n s s 0
unfolding store_of
storing_start f a n s = record { within = omega arith; stored = refl }

pub storing_next : (f : ℕ → ℕ) (a n : ℕ) (s₀ s t : List ℕ) (k x : ℕ) → Storing f a n s₀ s k → k < n → x ≡ f (k + 1) → t ≡ put s (a + (k + 1)) x → Storing f a n s₀ t (k + 1)
unfolding store_of
storing_next f a n s₀ s t k x h l e g =
    record { within = omega arith; stored = g ∙ rw (e, h.stored, add-one) }

pub storing_done : (f : ℕ → ℕ) (a n : ℕ) (s₀ s : List ℕ) (k : ℕ) → Storing f a n s₀ s k → n ≤ k → s ≡ store_of f a s₀ n
storing_done f a n s₀ s k h l = let e : k ≡ n = omega arith in subst (λ (m : ℕ). s ≡ store_of f a s₀ m) e h.stored

pub storing_length : (f : ℕ → ℕ) (a n : ℕ) (s₀ s : List ℕ) (k : ℕ) → Storing f a n s₀ s k → length s ≡ length s₀
storing_length f a n s₀ s k h = ap length h.stored ∙ length_store_of f a s₀ k

pub ruleset storing = (storing_start, storing_next, storing_done, storing_length)
