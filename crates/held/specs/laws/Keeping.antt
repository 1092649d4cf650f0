-- Words that agree where messages are held hold the same messages.
use Rattle.std.specs.Prelude.{ℕ, ◌+◌, ◌*◌, ◌≤◌, ◌<◌, true, List, ◌≡◌, length}
use Rattle.std.proofs.Math.Path.{sym, ap}
use Rattle.std.proofs.Common.{◌∙◌, arith}
use Rattle.quorum.specs.Marks.{mark}
use Rattle.records.specs.Words.{word, marked}
use Rattle.records.specs.Records.{send_held, send_value, echo_held, echo_value, ready_held, ready_value, est_held, aux_held, finish_held, commit_count, commit_value, commit_set}
use Rattle.commits.specs.Commits.{commit_held}
use Rattle.commits.specs.laws.Sets.{set_agree}
use Rattle.turn.proofs.laws.Frame.{Kept, held, between, beyond}
use Rattle.held.specs.laws.Held.{Message, SEND, ECHO, READY, EST, AUX, COMMIT, FINISH, Numbered, Committed, holds}

-- the words that messages are held in, and others that neither a turn nor a recording writes
pub data Holding (j : ℕ) : Type 0 where
  early : 72 ≤ j → j < 136 → Holding j
  middle : 140 ≤ j → j < 144 → Holding j
  late : 145 ≤ j → Holding j

-- a turn writes none of them
pub kept_holding : (s t : List ℕ) → ((j : ℕ) → Kept j → word t j ≡ word s j) → (j : ℕ) → Holding j → word t j ≡ word s j
kept_holding s t same j (early a b) = same j (held a b)
kept_holding s t same j (middle a b) = same j (between a b)
kept_holding s t same j (late a) = same j (beyond a)

module _ (s t : List ℕ) (size : length s ≡ 2048) (sizes : length t ≡ length s) (same : (j : ℕ) → Holding j → word t j ≡ word s j) where
  mark_back : (j p : ℕ) → Holding j → marked t j p ≡ true → marked s j p ≡ true
  unfolding marked
  mark_back j p k e = ap (λ (w : ℕ). mark w p) (sym (same j k)) ∙ e

  pub count_back : (m : ℕ) → 1 ≤ m → m ≤ 16 → commit_count t m ≡ commit_count s m
  unfolding commit_count
  count_back m low high = rw (same (119 + m) (early (omega arith) (omega arith)))

  value_back : (m k : ℕ) → commit_value t m k ≡ commit_value s m k
  unfolding commit_value
  value_back m k = same (751 + 16 * m + k) (late (omega arith))

  pub set_back : (m : ℕ) → 1 ≤ m → m ≤ 16 → commit_set t m ≡ commit_set s m
  set_back m low high = set_agree s t m m size (sizes ∙ size) high high (count_back m low high) (λ k lo hi. value_back m k)

  commit_back : (m : ℕ) → 1 ≤ m → m ≤ 16 → (X : List ℕ) → Committed (commit_held t m ≡ true) (commit_set t m) X → Committed (commit_held s m ≡ true) (commit_set s m) X
  unfolding commit_held
  commit_back m low high X h =
      record { there = rw (← count_back m low high) h.there; same = sym (set_back m low high) ∙ h.same }

  pub held_back : (m : ℕ) (x : Message) → 1 ≤ m → m ≤ 16 → holds t m x → holds s m x
  unfolding send_held send_value echo_held echo_value ready_held ready_value est_held aux_held finish_held
  held_back m (SEND v) low high h =
      record { instance = h.instance; there = mark_back 140 m (middle (omega arith) (omega arith)) h.there; same = sym (same (71 + m) (early (omega arith) (omega arith))) ∙ h.same }
  held_back m (ECHO i v) low high h =
      let n : Numbered i = h.instance in
      record { instance = n; there = mark_back (87 + i) m (early (omega (arith, n.low)) (omega (arith, n.high))) h.there; same = sym (same (239 + 16 * i + m) (late (omega arith))) ∙ h.same }
  held_back m (READY i v) low high h =
      let n : Numbered i = h.instance in
      record { instance = n; there = mark_back (103 + i) m (early (omega (arith, n.low)) (omega (arith, n.high))) h.there; same = sym (same (495 + 16 * i + m) (late (omega arith))) ∙ h.same }
  held_back m (EST i r b) low high h = record { vote = h.vote; there = mark_back (991 + 32 * i + r) (16 * b + m) (late (omega arith)) h.there }
  held_back m (AUX i r b) low high h = record { vote = h.vote; there = mark_back (991 + 32 * i + r) (32 + 16 * b + m) (late (omega arith)) h.there }
  held_back m (COMMIT X) low high h = commit_back m low high X h
  held_back m (FINISH i b) low high h =
      let n : Numbered i = h.instance in
      record { instance = n; bit = h.bit; there = mark_back (144 + i) (16 * b + m) (late (omega (arith, n.low))) h.there }
