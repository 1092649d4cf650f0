-- Words in which a message was recorded are those of the same session, still open.
use Rattle.std.specs.Prelude.{ℕ, ◌≤◌, List, ◌≡◌, length}
use Rattle.std.proofs.Common.{inl, inr, ◌∙◌, arith}
use Rattle.std.proofs.Math.Decide.{ℕ_discrete}
use Rattle.records.specs.Layout.{n_at, ta_at, ts_at, own_at, session_at, turns_at, flags_at, weights_at, boxed_at, version_at, round_at, commit_count_at, commit_row_at}
use Rattle.records.specs.Words.{word, marked}
use Rattle.records.specs.laws.Words.{word_put_same}
use Rattle.records.specs.Words.{store_of}
use Rattle.records.specs.laws.Fill.{length_store_of}
use Rattle.records.specs.Records.{closed, version}
use Rattle.session.specs.laws.Session.{State}
use Rattle.session.specs.Session.{settings_of, session_with, session_of}
use Rattle.wire.specs.Bytes.{value_at}
use Rattle.wire.specs.declared.Message.{Message}
use Rattle.wire.specs.declared.Message.TheVariants.{Send, Echo, Ready, Est, Aux, Commit, Finish}
use Rattle.wire_laws.specs.Proper.{Layout}
use Rattle.delivery.specs.Delivery.{recorded}
use Rattle.delivery.specs.laws.Frame.{InLayout, Changed, word_recorded, length_recorded}
use Rattle.delivery.specs.laws.Kept.{in_layout_lem, word_untouched, word_free}

-- a COMMIT that is recorded has at most n values
module _ (n : ℕ) (few : n ≤ 16) (s v : List ℕ) (size : length s ≡ 2048) (p : ℕ) (low : 1 ≤ p) (high : p ≤ n) (q : ℕ) (lo : 1 ≤ q) (hi : q ≤ n) (old : word s (commit_count_at q) ≤ n) where
  kept : (m : Message) → (Changed p m (commit_count_at q) → ⊥) → word (recorded s p m v) (commit_count_at q) ≤ n
  kept m h = omega (arith, word_recorded s v p m (commit_count_at q) h)

  own : (k : ℕ) → k ≤ n → q ≡ p → word (recorded s p (Commit k) v) (commit_count_at q) ≤ n
  unfolding recorded
  own k h e = rw (e, word_put_same (store_of (value_at v) (commit_row_at p) s k) (commit_count_at p) k (omega (arith, length_store_of (value_at v) (commit_row_at p) s k))) h

  count_recorded : (m : Message) → Layout n p m → word (recorded s p m v) (commit_count_at q) ≤ n
  count_recorded (Send i x) l = kept (Send i x) (λ z. elim z [ inl e ↦ omega arith | inr e ↦ omega arith ])
  count_recorded (Echo i x) l = kept (Echo i x) (λ z. elim z [ inl e ↦ omega arith | inr e ↦ omega arith ])
  count_recorded (Ready i x) l = kept (Ready i x) (λ z. elim z [ inl e ↦ omega arith | inr e ↦ omega arith ])
  count_recorded (Est i r b) l = kept (Est i r b) (λ z. elim z [ inl e ↦ omega arith | inr e ↦ omega arith ])
  count_recorded (Aux i r b) l = kept (Aux i r b) (λ e. omega arith)
  count_recorded (Finish i b) l = kept (Finish i b) (λ z. elim z [ inl e ↦ omega arith | inr e ↦ omega arith ])
  count_recorded (Commit k) l = elim (ℕ_discrete q p) [
    | yes e ↦ own k l.1 e
    | no ne ↦ kept (Commit k) (λ z. elim z [ inl e ↦ ne (omega arith) | inr e ↦ omega arith ])
  ]

module _ (s v : List ℕ) (S : State s) (p : ℕ) (m : Message) (low : 1 ≤ p) (high : p ≤ word s n_at) (l : Layout (word s n_at) p m) where
  abbrev after : List ℕ
  after = recorded s p m v

  few : word s n_at ≤ 16
  unfolding settings_of
  few = S.ruled.few

  pub layout_of : InLayout p m
  layout_of = in_layout_lem (word s n_at) p m few low high l

  early : (a : ℕ) → a ≤ 71 → word after a ≡ word s a
  early a h = word_untouched s v p m a layout_of (inl h)

  late : (a : ℕ) → 141 ≤ a → a ≤ 144 → word after a ≡ word s a
  late a lo hi = word_free s v p m a layout_of lo hi

  settings_recorded : settings_of after ≡ settings_of s
  unfolding settings_of
  settings_recorded = rw (early n_at (omega arith), early ta_at (omega arith), early ts_at (omega arith), late weights_at (omega arith) (omega arith))

  pub session_recorded : session_of after ≡ session_of s
  unfolding session_of session_with
  session_recorded = rw (settings_recorded, early own_at (omega arith), early session_at (omega arith))

  pub version_recorded : version after ≡ version s
  version_recorded = late version_at (omega arith) (omega arith)

  pub closed_recorded : closed after ≡ closed s
  unfolding closed marked
  closed_recorded = rw (early flags_at (omega arith))

  pub state_recorded : State after
  state_recorded =
      let n = early n_at (omega arith) in
      let own = early own_at (omega arith) in
      record {
        size = length_recorded s v p m ∙ S.size;
        ruled = rw settings_recorded S.ruled;
        own_low = rw own S.own_low;
        own_high = rw (own, n) S.own_high;
        kind = rw (late boxed_at (omega arith) (omega arith)) S.kind;
        known = rw (late version_at (omega arith) (omega arith)) S.known;
        turns = rw (early turns_at (omega arith), settings_recorded, late version_at (omega arith) (omega arith)) S.turns;
        rounds = λ i lo hi. rw (early (round_at i) (omega (arith, n, few))) (S.rounds i lo (omega (arith, n)));
        counts = λ q lo hi. rw n (count_recorded (word s n_at) few s v S.size p low high q lo (omega (arith, n)) (S.counts q lo (omega (arith, n))) m l);
      }
