-- All words stay below 2 ^ 64: the code keeps 64 bits.
use Rattle.std.specs.Prelude.{ℕ, zero, suc, ◌+◌, ◌≤◌, ◌<◌, ◌^◌, List, ◌≡◌, length}
use Rattle.std.proofs.Common.{arith}
use Rattle.std.proofs.Math.Decide.{dec_lt, ℕ_discrete}
use Rattle.quorum.specs.Marks.{with_mark}
use Rattle.quorum.specs.laws.Marks.{with_mark_fits}
use Rattle.records.specs.Words.{word, put, set_mark}
use Rattle.records.specs.laws.Words.{length_put, word_put_same, word_put_other, word_past_end}
use Rattle.records.specs.Words.{blank, store_of}
use Rattle.records.specs.laws.Fill.{length_blank, word_blank}

-- every word is below 2 ^ 64
abbrev pub Fit : List ℕ → Type 0
Fit s = (j : ℕ) → word s j < 2 ^ 64

pub fit_put : (s : List ℕ) (k v : ℕ) → Fit s → v < 2 ^ 64 → Fit (put s k v)
fit_put s k v f h j = at (ℕ_discrete j k)
  where
    within : j ≡ k → Dec (k < length s) → word (put s k v) j < 2 ^ 64
    within e (yes l) = rw (e, word_put_same s k v l) h
    within e (no l) = rw (← word_past_end (put s k v) j (rw (e, length_put) (omega arith))) (omega arith)

    at : Dec (j ≡ k) → word (put s k v) j < 2 ^ 64
    at (yes e) = within e (dec_lt k (length s))
    at (no ne) = rw (word_put_other s k v j ne) (f j)

pub fit_set_mark : (s : List ℕ) (k p : ℕ) → Fit s → Fit (set_mark s k p)
unfolding set_mark
fit_set_mark s k p f = fit_put s k (with_mark (word s k) p) f (with_mark_fits (word s k) p (f k))

pub fit_store_of : (g : ℕ → ℕ) (a : ℕ) (s : List ℕ) (n : ℕ) → Fit s → ((k : ℕ) → 1 ≤ k → k ≤ n → g k < 2 ^ 64) → Fit (store_of g a s n)
unfolding store_of
fit_store_of g a s zero f h = f
fit_store_of g a s (suc n) f h = fit_put (store_of g a s n) (a + suc n) (g (suc n)) (fit_store_of g a s n f (λ k lo hi. h k lo (omega arith))) (h (suc n) (omega arith) (omega arith))

pub fit_blank : (n : ℕ) → Fit (blank n)
fit_blank n j = at (dec_lt j n)
  where
    at : Dec (j < n) → word (blank n) j < 2 ^ 64
    at (yes l) = rw (word_blank n j l) (omega arith)
    at (no l) = rw (← word_past_end (blank n) j (rw length_blank (omega arith))) (omega arith)
