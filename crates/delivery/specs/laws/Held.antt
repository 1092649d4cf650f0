-- What recording a message adds: all that was held is held still, and so is the message.
use Rattle.std.specs.Prelude.{ℕ, ◌≤◌, min, List, ◌≡◌, length}
use Rattle.std.proofs.Math.Bool.{true, false}
use Rattle.std.proofs.Common.{true≢false, inl, inr, sym, ◌∙◌, lt-ltb}
use Rattle.std.proofs.Math.Path.{refl, ap, subst}
use native.Mathlib.Omega.{arith}
use Rattle.quorum.specs.Marks.{mark}
use Rattle.records.specs.Layout.{send_marks_at, send_value_at, echo_marks_at, echo_value_at, ready_marks_at, ready_value_at, vote_at, est_mark, aux_mark, finish_marks_at, finish_mark, commit_count_at, commit_row_at}
use Rattle.records.specs.Words.{put, marked}
use Rattle.records.specs.laws.Words.{length_put, word_put_same, marked_new, marked_kept}
use Rattle.records.specs.Words.{store_of}
use Rattle.records.specs.laws.Fill.{length_store_of}
use Rattle.records.specs.Records.{commit_count}
use Rattle.commits.specs.Commits.{commit_held}
use Rattle.wire.specs.Bytes.{value_at}
use Rattle.wire.specs.declared.Message.{Message}
use Rattle.wire.specs.declared.Message.TheVariants.{Send, Echo, Ready, Est, Aux, Commit, Finish}
use Rattle.records.specs.Writing.{with_est, with_finish}
use Rattle.session.specs.Session.{settings_of}
use Rattle.delivery.specs.Delivery.{place_held, recorded}
use Rattle.delivery.specs.laws.Settling.{noted_kept, settled_kept}
use Rattle.delivery.specs.laws.Frame.{InLayout, MarkWord, ValueWord, mark_word_of, mark_of, mark_put, no_marks, Changed, word_recorded}
use Rattle.delivery.specs.laws.Kept.{SetAfter, before, now, set_after}

-- COMMITs are held without a mark
abbrev pub NotCommit : Message → Type 0
NotCommit (Send i x) = Unit {0}
NotCommit (Echo i x) = Unit {0}
NotCommit (Ready i x) = Unit {0}
NotCommit (Est i r b) = Unit {0}
NotCommit (Aux i r b) = Unit {0}
NotCommit (Commit k) = ⊥
NotCommit (Finish i b) = Unit {0}

module _ (s v : List ℕ) (size : length s ≡ 2048) (p : ℕ) where
  put_keeps : (a x : ℕ) → ValueWord a → (k : ℕ) → MarkWord k → (q : ℕ) → marked s k q ≡ true → marked (put s a x) k q ≡ true
  put_keeps a x w k m q e = mark_put s a x k q (no_marks a k w m) ∙ e

  pub marks_recorded : (m : Message) → InLayout p m → (k : ℕ) → MarkWord k → (q : ℕ) → marked s k q ≡ true → marked (recorded s p m v) k q ≡ true
  unfolding recorded marked
  marks_recorded (Send i x) h k w q e = marked_kept _ send_marks_at i k q (put_keeps (send_value_at i) x (inl (omega arith, omega arith)) k w q e)
  marks_recorded (Echo i x) h k w q e = marked_kept _ (echo_marks_at i) p k q (put_keeps (echo_value_at i p) x (inr (inr (omega arith, omega arith))) k w q e)
  marks_recorded (Ready i x) h k w q e = marked_kept _ (ready_marks_at i) p k q (put_keeps (ready_value_at i p) x (inr (inr (omega arith, omega arith))) k w q e)
  marks_recorded (Est i r b) h k w q e = noted_kept (settings_of s) (with_est s i r b p) i r b k q (marked_kept s (vote_at i r) (est_mark b p) k q e)
  marks_recorded (Aux i r b) h k w q e = marked_kept s (vote_at i r) (aux_mark b p) k q e
  marks_recorded (Commit c) h k w q e = ap (λ (x : ℕ). mark x q) (word_recorded s v p (Commit c) k out) ∙ e
    where
      out : Changed p (Commit c) k → ⊥
      out (inl z) = no_marks (commit_count_at p) k (inr (inl (omega arith, omega arith))) w z
      out (inr z) = no_marks k k (inr (inr (omega arith, omega arith))) w refl
  marks_recorded (Finish i b) h k w q e = settled_kept (settings_of s) (with_finish s i b p) i b k q (marked_kept s (finish_marks_at i) (finish_mark b p) k q e)

  put_size : (a x : ℕ) → length (put s a x) ≡ 2048
  put_size a x = length_put s a x ∙ size

  pub new_recorded : (m : Message) → InLayout p m → NotCommit m → marked (recorded s p m v) (mark_word_of p m) (mark_of p m) ≡ true
  unfolding recorded
  new_recorded (Send i x) h c = marked_new _ send_marks_at i (omega (arith, put_size (send_value_at i) x)) (omega arith) (omega arith)
  new_recorded (Echo i x) h c = marked_new _ (echo_marks_at i) p (omega (arith, put_size (echo_value_at i p) x)) (omega arith) (omega arith)
  new_recorded (Ready i x) h c = marked_new _ (ready_marks_at i) p (omega (arith, put_size (ready_value_at i p) x)) (omega arith) (omega arith)
  new_recorded (Est i r b) h c =
      noted_kept (settings_of s) (with_est s i r b p) i r b (vote_at i r) (est_mark b p)
      (marked_new s (vote_at i r) (est_mark b p) (omega arith) (omega arith) (omega arith))
  new_recorded (Aux i r b) h c = marked_new s (vote_at i r) (aux_mark b p) (omega arith) (omega arith) (omega arith)
  new_recorded (Commit k) h c = absurd c
  new_recorded (Finish i b) h c =
      settled_kept (settings_of s) (with_finish s i b p) i b (finish_marks_at i) (finish_mark b p)
      (marked_new s (finish_marks_at i) (finish_mark b p) (omega arith) (omega arith) (omega arith))

  pub commit_recorded : (c : ℕ) → 1 ≤ c → p ≤ 16 → commit_held (recorded s p (Commit c) v) p ≡ true
  unfolding recorded commit_held commit_count
  commit_recorded c some hi =
      rw (word_put_same (store_of (value_at v) (commit_row_at p) s c) (commit_count_at p) c (omega (arith, size, length_store_of (value_at v) (commit_row_at p) s c)))
      (lt-ltb 0 (min c 16) (omega arith))

  pub commits_recorded : (m : Message) → InLayout p m → place_held s p m ≡ false → (k : ℕ) → 1 ≤ k → k ≤ 16 → commit_held s k ≡ true → commit_held (recorded s p m v) k ≡ true
  unfolding place_held
  commits_recorded m h free k lo hi e = of (set_after s v p m k size h lo hi)
    where
      of : SetAfter s v p m k → commit_held (recorded s p m v) k ≡ true
      of (before f g) = f ∙ e
      of (now c z y g) =
          let taken : commit_held s p ≡ false = subst (λ (x : Message). place_held s p x ≡ false) y free in
          absurd (true≢false (sym (rw z at e) ∙ taken))
