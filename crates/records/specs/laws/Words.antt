-- The state as a list of words: one word read, one word put, one mark set.
use Rattle.std.specs.Prelude.{ℕ, ◌+◌, ◌-◌, ◌≤◌, ◌<◌, true, List, ◌⊎◌, ◌≢◌, ◌≡◌, refl, eqb, length, get_or, set}
use Rattle.std.proofs.lemmas.Bool.{false≢true}
use Rattle.std.proofs.Common.{inl, inr, sym, ap, ◌∙◌, arith, length-set, get_or-set_same, get_or-set_other}
use Rattle.std.proofs.Math.Decide.{dec_le, ℕ_discrete}
use Rattle.std.proofs.Math.ListN.{get_or-eq_default}
use Rattle.std.proofs.Math.Seq.{set_out}
use Rattle.quorum.specs.Marks.{mark, with_mark}
use Rattle.quorum.specs.laws.Marks.{mark_same, mark_kept, mark_came, mark_zero}
use Rattle.records.specs.Words.{word, put, marked, equal_at, set_mark}

-- a word has a mark for each of n words from b on, and all these are there
pub record Reached (s : List ℕ) (b n : ℕ) : Type 0 where
  pub few : n ≤ 64
  pub there : b + n ≤ length s

pub length_put : (s : List ℕ) (k v : ℕ) → length (put s k v) ≡ length s
unfolding put
length_put s k v = length-set s k v

pub word_put_same : (s : List ℕ) (k v : ℕ) → k < length s → word (put s k v) k ≡ v
unfolding put word
word_put_same s k v h = get_or-set_same s k v 0 h

pub word_put_other : (s : List ℕ) (k v j : ℕ) → j ≢ k → word (put s k v) j ≡ word s j
unfolding put word
word_put_other s k v j h = get_or-set_other s k j v 0 h

pub length_set_mark : (s : List ℕ) (k p : ℕ) → length (set_mark s k p) ≡ length s
unfolding set_mark
length_set_mark s k p = length_put s k (with_mark (word s k) p)

pub word_set_mark_same : (s : List ℕ) (k p : ℕ) → k < length s → word (set_mark s k p) k ≡ with_mark (word s k) p
unfolding set_mark
word_set_mark_same s k p h = word_put_same s k (with_mark (word s k) p) h

pub word_set_mark_other : (s : List ℕ) (k p j : ℕ) → j ≢ k → word (set_mark s k p) j ≡ word s j
unfolding set_mark
word_set_mark_other s k p j h = word_put_other s k (with_mark (word s k) p) j h

pub word_within : (s : List ℕ) (k : ℕ) → get_or s k 0 ≡ word s k
unfolding word
word_within s k = refl

pub word_past_end : (s : List ℕ) (k : ℕ) → length s ≤ k → 0 ≡ word s k
unfolding word
word_past_end s k h = sym (get_or-eq_default s 0 h)

pub put_within : (s : List ℕ) (k v : ℕ) → set s k v ≡ put s k v
unfolding put
put_within s k v = refl

pub put_past_end : (s : List ℕ) (k v : ℕ) → length s ≤ k → s ≡ put s k v
unfolding put
put_past_end s k v h = sym (set_out s k v h)

pub equal_inside : (s : List ℕ) (b v p : ℕ) → eqb (get_or s (b + (p - 1)) 0) v ≡ equal_at s b v p
unfolding equal_at word
equal_inside s b v p = refl

pub equal_test : (s : List ℕ) (b v p r : ℕ) → r ≡ word s (b + (p - 1)) → eqb r v ≡ equal_at s b v p
unfolding equal_at
equal_test s b v p r e = rw e

pub ruleset words = (word_within, word_past_end, put_within, put_past_end)

pub marked_new : (s : List ℕ) (k p : ℕ) → k < length s → 1 ≤ p → p ≤ 64 → marked (set_mark s k p) k p ≡ true
unfolding marked
marked_new s k p l lo hi = ap (λ (w : ℕ). mark w p) (word_set_mark_same s k p l) ∙ mark_same (word s k) p lo hi

pub marked_kept : (s : List ℕ) (j q k p : ℕ) → marked s k p ≡ true → marked (set_mark s j q) k p ≡ true
unfolding marked
marked_kept s j q k p h = at (ℕ_discrete k j) (dec_le (length s) k)
  where
    at : Dec (k ≡ j) → Dec (length s ≤ k) → mark (word (set_mark s j q) k) p ≡ true
    at (no ne) d = ap (λ (w : ℕ). mark w p) (word_set_mark_other s j q k ne) ∙ h
    at (yes e) (yes past) = absurd (false≢true (sym (mark_zero p) ∙ ap (λ (w : ℕ). mark w p) (word_past_end s k past) ∙ h))
    at (yes e) (no within) =
        let is : word (set_mark s j q) k ≡ with_mark (word s k) q = rw (← e) (word_set_mark_same s k q (omega arith)) in
        ap (λ (w : ℕ). mark w p) is ∙ mark_kept (word s k) q p h

-- a mark that is set after one was set was set before, or is that one
pub marked_came : (s : List ℕ) (k p a j : ℕ) → k < length s → marked (set_mark s k p) a j ≡ true → (marked s a j ≡ true) ⊎ ((a ≡ k) × (j ≡ p))
unfolding marked
marked_came s k p a j l e = go (ℕ_discrete a k)
  where
    came : a ≡ k → (mark (word s k) j ≡ true) ⊎ (j ≡ p) → (mark (word s a) j ≡ true) ⊎ ((a ≡ k) × (j ≡ p))
    came y (inl x) = inl (rw y x)
    came y (inr x) = inr (y, x)

    go : Dec (a ≡ k) → (mark (word s a) j ≡ true) ⊎ ((a ≡ k) × (j ≡ p))
    go (no ne) = inl (ap (λ (x : ℕ). mark x j) (sym (word_set_mark_other s k p a ne)) ∙ e)
    go (yes y) = came y (mark_came (word s k) p j (ap (λ (x : ℕ). mark x j) (sym (word_set_mark_same s k p l)) ∙ ap (λ (x : ℕ). mark (word (set_mark s k p) x) j) (sym y) ∙ e))

-- words of one length that are the same at a stay so where the same is put into both
pub put_alike : (s t : List ℕ) (k v a : ℕ) → length s ≡ length t → word s a ≡ word t a → word (put s k v) a ≡ word (put t k v) a
put_alike s t k v a l e = at (ℕ_discrete a k) (dec_le (length t) k)
  where
    at : Dec (a ≡ k) → Dec (length t ≤ k) → word (put s k v) a ≡ word (put t k v) a
    at (no ne) d = word_put_other s k v a ne ∙ e ∙ sym (word_put_other t k v a ne)
    at (yes q) (yes beyond) = ap (λ (x : List ℕ). word x a) (sym (put_past_end s k v (omega arith))) ∙ e ∙ ap (λ (x : List ℕ). word x a) (put_past_end t k v beyond)
    at (yes q) (no inside) = rw q (word_put_same s k v (omega arith) ∙ sym (word_put_same t k v (omega arith)))
