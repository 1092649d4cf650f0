-- What recording a message leaves: nothing is held after it that was not, but that message.
use Rattle.std.specs.Prelude.{ℕ, ◌+◌, ◌≤◌, ◌<◌, true, List, ◌⊎◌, ◌≢◌, ◌≡◌, length}
use Rattle.std.proofs.Common.{inl, inr, sym, ap, ◌∙◌, arith}
use Rattle.quorum.specs.Marks.{mark}
use Rattle.records.specs.Layout.{send_marks_at, send_value_at, echo_marks_at, echo_value_at, ready_marks_at, ready_value_at, vote_at, est_mark, aux_mark, one_first_at, finish_marks_at, finish_mark, commit_count_at, commit_row_at, decided_zero_at, decided_one_at}
use Rattle.records.specs.Words.{word, put, marked, set_mark}
use Rattle.records.specs.laws.Words.{length_put, length_set_mark, word_put_other, word_set_mark_other, marked_came}
use Rattle.records.specs.Words.{store_of}
use Rattle.records.specs.laws.Fill.{length_store_of, store_other}
use Rattle.wire.specs.Bytes.{value_at}
use Rattle.wire.specs.declared.Message.{Message}
use Rattle.wire.specs.declared.Message.TheVariants.{Send, Echo, Ready, Est, Aux, Commit, Finish}
use Rattle.records.specs.Writing.{with_est, with_finish}
use Rattle.session.specs.Session.{settings_of}
use Rattle.delivery.specs.Delivery.{recorded}
use Rattle.delivery.specs.laws.Settling.{noted_word, noted_length, settled_word, settled_length}

-- a message of sender p within the layout; a SEND's instance is its sender (PROTOCOL 2.1)
abbrev pub InLayout : ℕ → Message → Type 0
InLayout p (Send i x) = (1 ≤ p) × (p ≤ 16) × (i ≡ p)
InLayout p (Echo i x) = (1 ≤ p) × (p ≤ 16) × (1 ≤ i) × (i ≤ 16)
InLayout p (Ready i x) = (1 ≤ p) × (p ≤ 16) × (1 ≤ i) × (i ≤ 16)
InLayout p (Est i r b) = (1 ≤ p) × (p ≤ 16) × (1 ≤ i) × (i ≤ 16) × (1 ≤ r) × (r ≤ 32) × (b ≤ 1)
InLayout p (Aux i r b) = (1 ≤ p) × (p ≤ 16) × (1 ≤ i) × (i ≤ 16) × (1 ≤ r) × (r ≤ 32) × (b ≤ 1)
InLayout p (Commit k) = (1 ≤ p) × (p ≤ 16) × (k ≤ 16)
InLayout p (Finish i b) = (1 ≤ p) × (p ≤ 16) × (1 ≤ i) × (i ≤ 16) × (b ≤ 1)

-- a word of the marks of messages that are held
abbrev pub MarkWord : ℕ → Type 0
MarkWord a = ((88 ≤ a) × (a ≤ 119)) ⊎ ((a ≡ 140) ⊎ (((1024 ≤ a) × (a ≤ 1535)) ⊎ ((145 ≤ a) × (a ≤ 160))))

-- the mark that recording a message of sender p sets; a COMMIT has none
abbrev pub mark_word_of : ℕ → Message → ℕ
mark_word_of p (Send i x) = send_marks_at
mark_word_of p (Echo i x) = echo_marks_at i
mark_word_of p (Ready i x) = ready_marks_at i
mark_word_of p (Est i r b) = vote_at i r
mark_word_of p (Aux i r b) = vote_at i r
mark_word_of p (Commit k) = 0
mark_word_of p (Finish i b) = finish_marks_at i

abbrev pub mark_of : ℕ → Message → ℕ
mark_of p (Send i x) = i
mark_of p (Echo i x) = p
mark_of p (Ready i x) = p
mark_of p (Est i r b) = est_mark b p
mark_of p (Aux i r b) = aux_mark b p
mark_of p (Commit k) = 0
mark_of p (Finish i b) = finish_mark b p

-- a word of values or of the count of a COMMIT, which is no word of marks
abbrev pub ValueWord : ℕ → Type 0
ValueWord a = ((72 ≤ a) × (a ≤ 87)) ⊎ (((120 ≤ a) × (a ≤ 135)) ⊎ ((256 ≤ a) × (a ≤ 1023)))

pub no_marks : (a k : ℕ) → ValueWord a → MarkWord k → k ≢ a
no_marks a k (inl x) (inl y) e = omega arith
no_marks a k (inl x) (inr (inl y)) e = omega arith
no_marks a k (inl x) (inr (inr (inl y))) e = omega arith
no_marks a k (inl x) (inr (inr (inr y))) e = omega arith
no_marks a k (inr (inl x)) (inl y) e = omega arith
no_marks a k (inr (inl x)) (inr (inl y)) e = omega arith
no_marks a k (inr (inl x)) (inr (inr (inl y))) e = omega arith
no_marks a k (inr (inl x)) (inr (inr (inr y))) e = omega arith
no_marks a k (inr (inr x)) (inl y) e = omega arith
no_marks a k (inr (inr x)) (inr (inl y)) e = omega arith
no_marks a k (inr (inr x)) (inr (inr (inl y))) e = omega arith
no_marks a k (inr (inr x)) (inr (inr (inr y))) e = omega arith

-- a store at a word that is not one of marks
pub mark_put : (s : List ℕ) (k v a j : ℕ) → a ≢ k → marked (put s k v) a j ≡ marked s a j
unfolding marked
mark_put s k v a j ne = ap (λ (x : ℕ). mark x j) (word_put_other s k v a ne)

value_then_mark : (s : List ℕ) (k v w q a j : ℕ) → w < length s → a ≢ k → marked (set_mark (put s k v) w q) a j ≡ true → (marked s a j ≡ true) ⊎ ((a ≡ w) × (j ≡ q))
value_then_mark s k v w q a j l ne e = of (marked_came (put s k v) w q a j (rw length_put l) e)
  where
    of : (marked (put s k v) a j ≡ true) ⊎ ((a ≡ w) × (j ≡ q)) → (marked s a j ≡ true) ⊎ ((a ≡ w) × (j ≡ q))
    of (inl x) = inl (sym (mark_put s k v a j ne) ∙ x)
    of (inr x) = inr x

-- decisions are no marks of messages
not_decision : (a : ℕ) → MarkWord a → (a ≢ decided_zero_at) × (a ≢ decided_one_at)
not_decision a (inl y) = ((λ z. omega arith), λ z. omega arith)
not_decision a (inr (inl y)) = ((λ z. omega arith), λ z. omega arith)
not_decision a (inr (inr (inl y))) = ((λ z. omega arith), λ z. omega arith)
not_decision a (inr (inr (inr y))) = ((λ z. omega arith), λ z. omega arith)

-- nor is what was accepted first
not_first : (a i : ℕ) → i ≤ 16 → MarkWord a → 1 ≤ i → a ≢ one_first_at i
not_first a i few (inl y) some z = omega arith
not_first a i few (inr (inl y)) some z = omega arith
not_first a i few (inr (inr (inl y))) some z = omega arith
not_first a i few (inr (inr (inr y))) some z = omega arith

-- no new mark but that of the message
pub mark_recorded : (s v : List ℕ) (p : ℕ) (m : Message) (a j : ℕ) → length s ≡ 2048 → InLayout p m → MarkWord a → marked (recorded s p m v) a j ≡ true → (marked s a j ≡ true) ⊎ ((a ≡ mark_word_of p m) × (j ≡ mark_of p m))
unfolding recorded marked
mark_recorded s v p (Send i x) a j l h t e =
    value_then_mark s (send_value_at i) x send_marks_at i a j (omega arith) (no_marks (send_value_at i) a (inl (omega arith, omega arith)) t) e
mark_recorded s v p (Echo i x) a j l h t e =
    value_then_mark s (echo_value_at i p) x (echo_marks_at i) p a j (omega arith) (no_marks (echo_value_at i p) a (inr (inr (omega arith, omega arith))) t) e
mark_recorded s v p (Ready i x) a j l h t e =
    value_then_mark s (ready_value_at i p) x (ready_marks_at i) p a j (omega arith) (no_marks (ready_value_at i p) a (inr (inr (omega arith, omega arith))) t) e
mark_recorded s v p (Est i r b) a j l h t e =
    marked_came s (vote_at i r) (est_mark b p) a j (omega arith)
    (ap (λ (x : ℕ). mark x j) (sym (noted_word (settings_of s) (with_est s i r b p) i r b a (not_first a i h.3 t h.2))) ∙ e)
mark_recorded s v p (Aux i r b) a j l h t e = marked_came s (vote_at i r) (aux_mark b p) a j (omega arith) e
mark_recorded s v p (Commit k) a j l h t e = inl (kept ∙ e)
  where
    count : a ≢ commit_count_at p
    count = no_marks (commit_count_at p) a (inr (inl (omega arith, omega arith))) t

    value : (c : ℕ) → 1 ≤ c → c ≤ k → a ≢ commit_row_at p + c
    value c lo hi = no_marks (commit_row_at p + c) a (inr (inr (omega arith, omega arith))) t

    kept : marked s a j ≡ marked (put (store_of (value_at v) (commit_row_at p) s k) (commit_count_at p) k) a j
    kept = ap (λ (x : ℕ). mark x j) (sym (word_put_other _ (commit_count_at p) k a count ∙ store_other (value_at v) (commit_row_at p) s k a value))
mark_recorded s v p (Finish i b) a j l h t e =
    marked_came s (finish_marks_at i) (finish_mark b p) a j (omega arith)
    (ap (λ (x : ℕ). mark x j) (sym (settled_word (settings_of s) (with_finish s i b p) i b a (not_decision a t).0 (not_decision a t).1)) ∙ e)

-- the words that recording a message of sender p may change; an EST may mark 1 as accepted first, and a FINISH may decide its vote
abbrev pub Changed : ℕ → Message → ℕ → Type 0
Changed p (Send i x) a = (a ≡ send_value_at i) ⊎ (a ≡ send_marks_at)
Changed p (Echo i x) a = (a ≡ echo_value_at i p) ⊎ (a ≡ echo_marks_at i)
Changed p (Ready i x) a = (a ≡ ready_value_at i p) ⊎ (a ≡ ready_marks_at i)
Changed p (Est i r b) a = (a ≡ vote_at i r) ⊎ (a ≡ one_first_at i)
Changed p (Aux i r b) a = a ≡ vote_at i r
Changed p (Commit k) a = (a ≡ commit_count_at p) ⊎ ((commit_row_at p < a) × (a ≤ commit_row_at p + k))
Changed p (Finish i b) a = (a ≡ finish_marks_at i) ⊎ ((decided_zero_at ≤ a) × (a ≤ decided_one_at))

-- every other word stays
pub word_recorded : (s v : List ℕ) (p : ℕ) (m : Message) (a : ℕ) → (Changed p m a → ⊥) → word (recorded s p m v) a ≡ word s a
unfolding recorded
word_recorded s v p (Send i x) a h = word_set_mark_other _ send_marks_at i a (λ z. h (inr z)) ∙ word_put_other s (send_value_at i) x a (λ z. h (inl z))
word_recorded s v p (Echo i x) a h = word_set_mark_other _ (echo_marks_at i) p a (λ z. h (inr z)) ∙ word_put_other s (echo_value_at i p) x a (λ z. h (inl z))
word_recorded s v p (Ready i x) a h = word_set_mark_other _ (ready_marks_at i) p a (λ z. h (inr z)) ∙ word_put_other s (ready_value_at i p) x a (λ z. h (inl z))
word_recorded s v p (Est i r b) a h =
    noted_word (settings_of s) (with_est s i r b p) i r b a (λ z. h (inr z))
    ∙ word_set_mark_other s (vote_at i r) (est_mark b p) a (λ z. h (inl z))
word_recorded s v p (Aux i r b) a h = word_set_mark_other s (vote_at i r) (aux_mark b p) a h
word_recorded s v p (Commit k) a h =
    word_put_other _ (commit_count_at p) k a (λ z. h (inl z))
    ∙ store_other (value_at v) (commit_row_at p) s k a (λ j lo hi z. h (inr (omega arith, omega arith)))
word_recorded s v p (Finish i b) a h =
    settled_word (settings_of s) (with_finish s i b p) i b a (λ z. h (inr (omega arith, omega arith))) (λ z. h (inr (omega arith, omega arith)))
    ∙ word_set_mark_other s (finish_marks_at i) (finish_mark b p) a (λ z. h (inl z))

pub length_recorded : (s v : List ℕ) (p : ℕ) (m : Message) → length (recorded s p m v) ≡ length s
unfolding recorded
length_recorded s v p (Send i x) = simp (length_set_mark, length_put)
length_recorded s v p (Echo i x) = simp (length_set_mark, length_put)
length_recorded s v p (Ready i x) = simp (length_set_mark, length_put)
length_recorded s v p (Est i r b) = noted_length (settings_of s) (with_est s i r b p) i r b ∙ length_set_mark s (vote_at i r) (est_mark b p)
length_recorded s v p (Aux i r b) = length_set_mark s (vote_at i r) (aux_mark b p)
length_recorded s v p (Commit k) = length_put _ (commit_count_at p) k ∙ length_store_of (value_at v) (commit_row_at p) s k
length_recorded s v p (Finish i b) = settled_length (settings_of s) (with_finish s i b p) i b ∙ length_set_mark s (finish_marks_at i) (finish_mark b p)
