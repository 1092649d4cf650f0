-- All that is held in one state is held in another: deliveries and turns take nothing away.
use Rattle.std.specs.Prelude.{ℕ, ◌≤◌, true, false, List, ◌≡◌, length}
use Rattle.std.proofs.Common.{inl, inr, ◌∙◌, arith}
use Rattle.std.proofs.Math.Path.{ap}
use Rattle.quorum.specs.Marks.{mark}
use Rattle.records.specs.Words.{word, marked}
use Rattle.commits.specs.Commits.{commit_held}
use Rattle.wire.specs.declared.Message.{Message}
use Rattle.delivery.specs.Delivery.{place_held, recorded}
use Rattle.delivery.specs.laws.Frame.{InLayout, MarkWord}
use Rattle.delivery.specs.laws.Held.{marks_recorded, commits_recorded}
use Rattle.turn.proofs.laws.Frame.{Kept, held, between, beyond}
use Rattle.held.specs.laws.Keeping.{kept_holding, count_back}

-- what is held in s is held in t
pub record Stays (s t : List ℕ) : Type 0 where
  pub marks : (k : ℕ) → MarkWord k → (q : ℕ) → marked s k q ≡ true → marked t k q ≡ true
  pub commits : (k : ℕ) → 1 ≤ k → k ≤ 16 → commit_held s k ≡ true → commit_held t k ≡ true

pub stays_same : (s : List ℕ) → Stays s s
stays_same s = record { marks = λ k w q e. e; commits = λ k lo hi e. e }

pub stays_then : {s t u : List ℕ} → Stays s t → Stays t u → Stays s u
stays_then x y = record { marks = λ k w q e. y.marks k w q (x.marks k w q e); commits = λ k lo hi e. y.commits k lo hi (x.commits k lo hi e) }

pub stays_recorded : (s v : List ℕ) → length s ≡ 2048 → (p : ℕ) (m : Message) → InLayout p m → place_held s p m ≡ false → Stays s (recorded s p m v)
stays_recorded s v size p m h free = record { marks = marks_recorded s v size p m h; commits = commits_recorded s v size p m h free }

-- words that agree where a turn writes nothing
module _ (s t : List ℕ) (size : length s ≡ 2048) (sizes : length t ≡ length s) (same : (j : ℕ) → Kept j → word t j ≡ word s j) where
  mark_kept : (k : ℕ) → MarkWord k → Kept k
  mark_kept k (inl y) = held (omega arith) (omega arith)
  mark_kept k (inr (inl y)) = between (omega arith) (omega arith)
  mark_kept k (inr (inr (inl y))) = beyond (omega arith)
  mark_kept k (inr (inr (inr y))) = beyond (omega arith)

  pub stays_kept : Stays s t
  unfolding marked commit_held
  stays_kept =
      record {
        marks = λ k w q e. ap (λ (y : ℕ). mark y q) (same k (mark_kept k w)) ∙ e;
        commits = λ k lo hi e. rw (count_back s t size sizes (kept_holding s t same) k lo hi) e;
      }
