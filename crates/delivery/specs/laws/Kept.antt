-- What recording a message keeps: every word that records no message, words of 64 bits, and the sets of other senders.
use Rattle.std.specs.Prelude.{ℕ, ◌+◌, ◌*◌, ◌≤◌, ◌<◌, ◌^◌, min, List, ◌⊎◌, ◌≢◌, ◌≡◌, refl, length}
use Rattle.std.proofs.Common.{inl, inr, sym, ap, ◌∙◌, arith}
use Rattle.std.proofs.Math.Decide.{ℕ_discrete}
use Rattle.records.specs.laws.Bounds.{Fit, fit_put, fit_set_mark, fit_store_of}
use Rattle.records.specs.Words.{store_of}
use Rattle.records.specs.laws.Fill.{length_store_of, store_same}
use Rattle.records.specs.Layout.{commit_count_at, commit_row_at}
use Rattle.records.specs.Records.{commit_count, commit_value, commit_set}
use Rattle.records.specs.Words.{word, put}
use Rattle.records.specs.laws.Words.{word_put_same, word_put_other}
use Rattle.commits.specs.Commits.{commit_held}
use Rattle.commits.specs.laws.Sets.{listed, listed_agree, set_listed, set_agree}
use Rattle.wire.specs.Bytes.{value_at, values}
use Rattle.wire.specs.declared.Message.{Message}
use Rattle.wire.specs.declared.Message.TheVariants.{Send, Echo, Ready, Est, Aux, Commit, Finish}
use Rattle.wire_laws.specs.Proper.{Layout}
use Rattle.records.specs.Writing.{with_est, with_finish}
use Rattle.session.specs.Session.{settings_of}
use Rattle.delivery.specs.Delivery.{recorded}
use Rattle.delivery.specs.laws.Settling.{noted_fit, settled_fit}
use Rattle.delivery.specs.laws.Frame.{InLayout, Changed, word_recorded, length_recorded}
use Rattle.delivery.specs.laws.Values.{values_listed}

-- a message that keeps to the layout of a session of at most 16
pub in_layout_lem : (n p : ℕ) (m : Message) → n ≤ 16 → 1 ≤ p → p ≤ n → Layout n p m → InLayout p m
in_layout_lem n p (Send i x) few lo hi l = (lo, omega arith, l)
in_layout_lem n p (Echo i x) few lo hi l = (lo, omega arith, l.0, omega arith)
in_layout_lem n p (Ready i x) few lo hi l = (lo, omega arith, l.0, omega arith)
in_layout_lem n p (Est i r b) few lo hi l = (lo, omega arith, l.0, omega arith, l.2, l.3, l.4)
in_layout_lem n p (Aux i r b) few lo hi l = (lo, omega arith, l.0, omega arith, l.2, l.3, l.4)
in_layout_lem n p (Commit k) few lo hi l = (lo, omega arith, omega arith)
in_layout_lem n p (Finish i b) few lo hi l = (lo, omega arith, l.0, omega arith, l.2)

-- ---- words that record no message

-- settings, coins, rounds and what was sent
abbrev pub Untouched : ℕ → Type 0
Untouched a = (a ≤ 71) ⊎ ((136 ≤ a) × (a ≤ 137))

changed_where : (p : ℕ) (m : Message) (a : ℕ) → InLayout p m → Changed p m a → ((72 ≤ a) × (a ≤ 135)) ⊎ (138 ≤ a)
changed_where p (Send i x) a h (inl e) = inl (omega arith, omega arith)
changed_where p (Send i x) a h (inr e) = inr (omega arith)
changed_where p (Echo i x) a h (inl e) = inr (omega arith)
changed_where p (Echo i x) a h (inr e) = inl (omega arith, omega arith)
changed_where p (Ready i x) a h (inl e) = inr (omega arith)
changed_where p (Ready i x) a h (inr e) = inl (omega arith, omega arith)
changed_where p (Est i r b) a h (inl e) = inr (omega arith)
changed_where p (Est i r b) a h (inr e) = inr (omega arith)
changed_where p (Aux i r b) a h e = inr (omega arith)
changed_where p (Commit k) a h (inl e) = inl (omega arith, omega arith)
changed_where p (Commit k) a h (inr e) = inr (omega arith)
changed_where p (Finish i b) a h (inl e) = inr (omega arith)
changed_where p (Finish i b) a h (inr e) = inr (omega arith)

apart : (a : ℕ) → Untouched a → ((72 ≤ a) × (a ≤ 135)) ⊎ (138 ≤ a) → ⊥
apart a (inl u) (inl c) = omega arith
apart a (inl u) (inr c) = omega arith
apart a (inr u) (inl c) = omega arith
apart a (inr u) (inr c) = omega arith

pub word_untouched : (s v : List ℕ) (p : ℕ) (m : Message) (a : ℕ) → InLayout p m → Untouched a → word (recorded s p m v) a ≡ word s a
word_untouched s v p m a h u = word_recorded s v p m a (λ c. apart a u (changed_where p m a h c))

-- the words of the weights, of the kind of coins, of the version and of the FINISHes sent (PROTOCOL 17.11, 17.12, 17.22, 17.23)
no_free : (p : ℕ) (m : Message) (a : ℕ) → InLayout p m → 141 ≤ a → a ≤ 144 → Changed p m a → ⊥
no_free p (Send i x) a h lo hi (inl e) = omega arith
no_free p (Send i x) a h lo hi (inr e) = omega arith
no_free p (Echo i x) a h lo hi (inl e) = omega arith
no_free p (Echo i x) a h lo hi (inr e) = omega arith
no_free p (Ready i x) a h lo hi (inl e) = omega arith
no_free p (Ready i x) a h lo hi (inr e) = omega arith
no_free p (Est i r b) a h lo hi (inl e) = omega arith
no_free p (Est i r b) a h lo hi (inr e) = omega arith
no_free p (Aux i r b) a h lo hi e = omega arith
no_free p (Commit k) a h lo hi (inl e) = omega arith
no_free p (Commit k) a h lo hi (inr e) = omega arith
no_free p (Finish i b) a h lo hi (inl e) = omega arith
no_free p (Finish i b) a h lo hi (inr e) = omega arith

pub word_free : (s v : List ℕ) (p : ℕ) (m : Message) (a : ℕ) → InLayout p m → 141 ≤ a → a ≤ 144 → word (recorded s p m v) a ≡ word s a
word_free s v p m a h lo hi = word_recorded s v p m a (no_free p m a h lo hi)

-- ---- words of 64 bits

-- the value that is recorded of a message fits
abbrev pub ValueFits : Message → List ℕ → Type 0
ValueFits (Send i x) v = x < 2 ^ 64
ValueFits (Echo i x) v = x < 2 ^ 64
ValueFits (Ready i x) v = x < 2 ^ 64
ValueFits (Est i r b) v = Unit {0}
ValueFits (Aux i r b) v = Unit {0}
ValueFits (Commit k) v = (j : ℕ) → value_at v j < 2 ^ 64
ValueFits (Finish i b) v = Unit {0}

pub fit_recorded : (s v : List ℕ) (p : ℕ) (m : Message) → InLayout p m → ValueFits m v → Fit s → Fit (recorded s p m v)
unfolding recorded
fit_recorded s v p (Send i x) h x_Fits f = fit_set_mark _ _ _ (fit_put s _ x f x_Fits)
fit_recorded s v p (Echo i x) h x_Fits f = fit_set_mark _ _ _ (fit_put s _ x f x_Fits)
fit_recorded s v p (Ready i x) h x_Fits f = fit_set_mark _ _ _ (fit_put s _ x f x_Fits)
fit_recorded s v p (Est i r b) h u f = noted_fit (settings_of s) (with_est s i r b p) i r b (fit_set_mark s _ _ f)
fit_recorded s v p (Aux i r b) h u f = fit_set_mark s _ _ f
fit_recorded s v p (Commit k) h all f = fit_put _ _ k (fit_store_of (value_at v) _ s k f (λ j lo hi. all j)) (omega arith)
fit_recorded s v p (Finish i b) h u f = settled_fit (settings_of s) (with_finish s i b p) i b (fit_set_mark s _ _ f)

-- ---- the sets of COMMITs

abbrev CommitWord : ℕ → ℕ → Type 0
CommitWord k a = (a ≡ commit_count_at k) ⊎ ((commit_row_at k < a) × (a ≤ commit_row_at k + 16))

-- the set of sender k after a message of sender p is recorded: as before, or that of the message
pub data SetAfter (s v : List ℕ) (p : ℕ) (m : Message) (k : ℕ) : Type 0 where
  before : commit_held (recorded s p m v) k ≡ commit_held s k → commit_set (recorded s p m v) k ≡ commit_set s k → SetAfter s v p m k
  now : (c : ℕ) → k ≡ p → m ≡ Commit c → commit_set (recorded s p m v) k ≡ values c v → SetAfter s v p m k

set_kept : (s v : List ℕ) (p : ℕ) (m : Message) (k : ℕ) → length s ≡ 2048 → k ≤ 16 → ((a : ℕ) → CommitWord k a → Changed p m a → ⊥) → SetAfter s v p m k
unfolding commit_held commit_count commit_value
set_kept s v p m k size high out =
    let t = recorded s p m v in
    let count : word t (commit_count_at k) ≡ word s (commit_count_at k) = word_recorded s v p m (commit_count_at k) (out (commit_count_at k) (inl refl)) in
    before (rw count)
    (set_agree s t k k size (length_recorded s v p m ∙ size) high high (rw count)
    (λ j lo hi. word_recorded s v p m (commit_row_at k + j) (out (commit_row_at k + j) (inr (omega arith, omega arith)))))

-- recording a COMMIT leaves its own set
set_now : (s v : List ℕ) (p c : ℕ) → length s ≡ 2048 → 1 ≤ p → p ≤ 16 → c ≤ 16 → commit_set (recorded s p (Commit c) v) p ≡ values c v
unfolding recorded commit_count commit_value
set_now s v p c size lo hi few =
    set_listed t p (length_recorded s v p (Commit c) ∙ size) hi
    ∙ ap (listed (commit_value t p)) count
    ∙ listed_agree (commit_value t p) (value_at v) c value
    ∙ sym (values_listed c v)
  where
    t : List ℕ
    t = put (store_of (value_at v) (commit_row_at p) s c) (commit_count_at p) c

    count : commit_count t p ≡ c
    count =
        let same : word t (commit_count_at p) ≡ c = word_put_same (store_of (value_at v) (commit_row_at p) s c) (commit_count_at p) c (rw length_store_of (omega arith)) in
        ap (λ (x : ℕ). min x 16) same ∙ omega arith

    value : (j : ℕ) → 1 ≤ j → j ≤ c → commit_value t p j ≡ value_at v j
    value j l h =
        word_put_other (store_of (value_at v) (commit_row_at p) s c) (commit_count_at p) c (commit_row_at p + j) (λ z. omega arith)
        ∙ store_same (value_at v) (commit_row_at p) s c j l h (omega arith)

pub set_after : (s v : List ℕ) (p : ℕ) (m : Message) (k : ℕ) → length s ≡ 2048 → InLayout p m → 1 ≤ k → k ≤ 16 → SetAfter s v p m k
set_after s v p (Send i x) k size h lo hi = set_kept s v p (Send i x) k size hi out
  where
    out : (a : ℕ) → CommitWord k a → Changed p (Send i x) a → ⊥
    out a (inl c) (inl d) = omega arith
    out a (inl c) (inr d) = omega arith
    out a (inr c) (inl d) = omega arith
    out a (inr c) (inr d) = omega arith
set_after s v p (Echo i x) k size h lo hi = set_kept s v p (Echo i x) k size hi out
  where
    out : (a : ℕ) → CommitWord k a → Changed p (Echo i x) a → ⊥
    out a (inl c) (inl d) = omega arith
    out a (inl c) (inr d) = omega arith
    out a (inr c) (inl d) = omega arith
    out a (inr c) (inr d) = omega arith
set_after s v p (Ready i x) k size h lo hi = set_kept s v p (Ready i x) k size hi out
  where
    out : (a : ℕ) → CommitWord k a → Changed p (Ready i x) a → ⊥
    out a (inl c) (inl d) = omega arith
    out a (inl c) (inr d) = omega arith
    out a (inr c) (inl d) = omega arith
    out a (inr c) (inr d) = omega arith
set_after s v p (Est i r b) k size h lo hi = set_kept s v p (Est i r b) k size hi out
  where
    out : (a : ℕ) → CommitWord k a → Changed p (Est i r b) a → ⊥
    out a (inl c) (inl d) = omega arith
    out a (inl c) (inr d) = omega arith
    out a (inr c) (inl d) = omega arith
    out a (inr c) (inr d) = omega arith
set_after s v p (Aux i r b) k size h lo hi = set_kept s v p (Aux i r b) k size hi out
  where
    out : (a : ℕ) → CommitWord k a → a ≡ 991 + 32 * i + r → ⊥
    out a (inl c) d = omega arith
    out a (inr c) d = omega arith
set_after s v p (Commit c) k size h lo hi = by (ℕ_discrete k p)
  where
    other : k ≢ p → (a : ℕ) → CommitWord k a → Changed p (Commit c) a → ⊥
    other ne a (inl c) (inl d) = ne (omega arith)
    other ne a (inl c) (inr d) = omega arith
    other ne a (inr c) (inl d) = omega arith
    other ne a (inr c) (inr d) = ne (omega arith)

    by : Dec (k ≡ p) → SetAfter s v p (Commit c) k
    by (yes e) = now c e refl (rw e (set_now s v p c size h.0 h.1 h.2))
    by (no ne) = set_kept s v p (Commit c) k size hi (other ne)
set_after s v p (Finish i b) k size h lo hi = set_kept s v p (Finish i b) k size hi out
  where
    out : (a : ℕ) → CommitWord k a → Changed p (Finish i b) a → ⊥
    out a (inl c) (inl d) = omega arith
    out a (inl c) (inr d) = omega arith
    out a (inr c) (inl d) = omega arith
    out a (inr c) (inr d) = omega arith
