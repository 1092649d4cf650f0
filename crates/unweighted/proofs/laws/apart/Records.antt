-- No record stands in the word of the weights: each reads the same, whatever x stands there.
use Prim.Native.Nat.{ℕ, ◌≤◌, min}
use Rattle.std.specs.Prelude.{Bool, ◌&&◌, ◌≢◌, ◌≡◌}
use mathlib.Core.List.{List}
use Rattle.std.proofs.Math.Path.{ap, ap₂, fun_ext}
use Rattle.std.proofs.Common.{arith, drop-set-lt}
use Rattle.std.proofs.Math.Dec.{eqb, ltb}
use Rattle.std.proofs.Math.ListN.{take}
use Rattle.quorum.specs.Every.{every}
use Rattle.quorum.specs.Marks.{mark}
use Rattle.records.specs.Layout.{weights_at, flags_at, closed_mark, send_sent_mark, commit_sent_mark, echo_sent_at, ready_sent_at, finish_sent_at, version_at, finish_marks_at, finish_mark, one_first_at, decided_zero_at, decided_one_at, send_marks_at, boxed_at, coin_at, zero_mark, round_at, est_sent_at, est_sent_mark, aux_sent_at, send_value_at, echo_marks_at, ready_marks_at, echo_value_at, ready_value_at, commit_count_at, commit_value_at, vote_at, est_mark, aux_mark}
use Rattle.records.specs.Words.{word, put, marked}
use Rattle.records.specs.laws.Words.{word_put_other}
use Rattle.records.specs.Records.{closed, send_sent, commit_sent, echo_sent, ready_sent, send_held, send_value, echo_held, echo_value, ready_held, ready_value, est_held, aux_held, one_first, finish_held, finish_sent, version, coin, printed, coin_recorded, coin_known, round, est_sent, aux_sent, decided_zero, decided_one, decided, commit_count, commit_value, commit_set}
use Rattle.commits.specs.Commits.{commit_held, same_set}

module _ (s : List ℕ) (x : ℕ) where
  abbrev t : List ℕ
  t = put s weights_at x

  pub word_apart : (k : ℕ) → k ≢ weights_at → word t k ≡ word s k
  word_apart k ne = word_put_other s weights_at x k ne

  mark_apart : (k p : ℕ) → k ≢ weights_at → marked t k p ≡ marked s k p
  unfolding marked
  mark_apart k p ne = ap (λ (w : ℕ). mark w p) (word_apart k ne)

  -- the flags, and the marks of the instances
  pub closed_apart : closed t ≡ closed s
  unfolding closed
  closed_apart = mark_apart flags_at closed_mark (λ e. omega arith)

  pub send_sent_apart : send_sent t ≡ send_sent s
  unfolding send_sent
  send_sent_apart = mark_apart flags_at send_sent_mark (λ e. omega arith)

  pub commit_sent_apart : commit_sent t ≡ commit_sent s
  unfolding commit_sent
  commit_sent_apart = mark_apart flags_at commit_sent_mark (λ e. omega arith)

  pub echo_sent_apart : (i : ℕ) → echo_sent t i ≡ echo_sent s i
  unfolding echo_sent
  echo_sent_apart i = mark_apart echo_sent_at i (λ e. omega arith)

  pub ready_sent_apart : (i : ℕ) → ready_sent t i ≡ ready_sent s i
  unfolding ready_sent
  ready_sent_apart i = mark_apart ready_sent_at i (λ e. omega arith)

  pub finish_sent_apart : (i : ℕ) → finish_sent t i ≡ finish_sent s i
  unfolding finish_sent
  finish_sent_apart i = mark_apart finish_sent_at i (λ e. omega arith)

  pub version_apart : version t ≡ version s
  version_apart = word_apart version_at (λ e. omega arith)

  pub finish_held_apart : (i b : ℕ) → finish_held t i b ≡ finish_held s i b
  unfolding finish_held
  finish_held_apart i b = fun_ext (λ p. mark_apart (finish_marks_at i) (finish_mark b p) (λ e. omega arith))

  pub send_held_apart : (i : ℕ) → send_held t i ≡ send_held s i
  unfolding send_held
  send_held_apart i = mark_apart send_marks_at i (λ e. omega arith)

  pub zero_apart : decided_zero t ≡ decided_zero s
  unfolding decided_zero
  zero_apart = fun_ext (λ i. mark_apart decided_zero_at i (λ e. omega arith))

  pub one_apart : decided_one t ≡ decided_one s
  unfolding decided_one
  one_apart = fun_ext (λ i. mark_apart decided_one_at i (λ e. omega arith))

  pub decided_apart : (i : ℕ) → decided t i ≡ decided s i
  unfolding decided
  decided_apart i = rw (zero_apart, one_apart)

  pub printed_apart : printed t ≡ printed s
  unfolding printed
  printed_apart = ap (λ (w : ℕ). eqb w 0) (word_apart boxed_at (λ e. omega arith))

  -- ESTs and AUXs held, and the values of ECHOs, READYs and COMMITs
  pub est_held_apart : (i r b : ℕ) → est_held t i r b ≡ est_held s i r b
  unfolding est_held
  est_held_apart i r b = fun_ext (λ p. mark_apart (vote_at i r) (est_mark b p) (λ e. omega arith))

  pub aux_held_apart : (i r b : ℕ) → aux_held t i r b ≡ aux_held s i r b
  unfolding aux_held
  aux_held_apart i r b = fun_ext (λ p. mark_apart (vote_at i r) (aux_mark b p) (λ e. omega arith))

  pub one_first_apart : (i r : ℕ) → one_first t i r ≡ one_first s i r
  unfolding one_first
  one_first_apart i r = mark_apart (one_first_at i) r (λ e. omega arith)

  pub echo_value_apart : (i : ℕ) → echo_value t i ≡ echo_value s i
  unfolding echo_value
  echo_value_apart i = fun_ext (λ p. word_apart (echo_value_at i p) (λ e. omega arith))

  pub ready_value_apart : (i : ℕ) → ready_value t i ≡ ready_value s i
  unfolding ready_value
  ready_value_apart i = fun_ext (λ p. word_apart (ready_value_at i p) (λ e. omega arith))

  commit_value_apart : (p k : ℕ) → commit_value t p k ≡ commit_value s p k
  unfolding commit_value
  commit_value_apart p k = word_apart (commit_value_at p k) (λ e. omega arith)

  -- what stands there for each of 1 to 16
  module _ (i : ℕ) (high : i ≤ 16) where
    pub send_value_apart : send_value t i ≡ send_value s i
    unfolding send_value
    send_value_apart = word_apart (send_value_at i) (λ e. omega arith)

    pub echo_held_apart : echo_held t i ≡ echo_held s i
    unfolding echo_held
    echo_held_apart = fun_ext (λ p. mark_apart (echo_marks_at i) p (λ e. omega arith))

    pub ready_held_apart : ready_held t i ≡ ready_held s i
    unfolding ready_held
    ready_held_apart = fun_ext (λ p. mark_apart (ready_marks_at i) p (λ e. omega arith))

    pub coin_mark_apart : (p : ℕ) → marked t (coin_at i) p ≡ marked s (coin_at i) p
    coin_mark_apart p = mark_apart (coin_at i) p (λ e. omega arith)

    pub coin_apart : (r : ℕ) → coin t i r ≡ coin s i r
    unfolding coin
    coin_apart r = coin_mark_apart r

    pub coin_known_apart : (r : ℕ) → coin_known t i r ≡ coin_known s i r
    unfolding coin_known coin_recorded
    coin_known_apart r = rw (printed_apart, coin_apart r, coin_mark_apart (zero_mark r))

    pub round_apart : round t i ≡ round s i
    unfolding round
    round_apart = ap (λ (r : ℕ). min r 33) (word_apart (round_at i) (λ e. omega arith))

    pub est_sent_apart : (r b : ℕ) → est_sent t i r b ≡ est_sent s i r b
    unfolding est_sent
    est_sent_apart r b = mark_apart (est_sent_at i) (est_sent_mark r b) (λ e. omega arith)

    pub aux_sent_apart : (r : ℕ) → aux_sent t i r ≡ aux_sent s i r
    unfolding aux_sent
    aux_sent_apart r = mark_apart (aux_sent_at i) r (λ e. omega arith)

    commit_count_apart : commit_count t i ≡ commit_count s i
    unfolding commit_count
    commit_count_apart = ap (λ (c : ℕ). min c 16) (word_apart (commit_count_at i) (λ e. omega arith))

    pub commit_held_apart : commit_held t i ≡ commit_held s i
    unfolding commit_held
    commit_held_apart = ap (λ (c : ℕ). ltb 0 c) commit_count_apart

    pub commit_set_apart : commit_set t i ≡ commit_set s i
    unfolding commit_set put
    commit_set_apart = ap₂ (λ (c : ℕ) (row : List ℕ). take c row) commit_count_apart (drop-set-lt (commit_value_at i 1) s weights_at x (omega arith))

  pub same_set_apart : (p q : ℕ) → p ≤ 16 → q ≤ 16 → same_set t p q ≡ same_set s p q
  unfolding same_set
  same_set_apart p q lo hi =
      rw (commit_count_apart p lo, commit_count_apart q hi)
      (ap (λ (f : ℕ → Bool). eqb (commit_count s p) (commit_count s q) && every f (commit_count s p)) (fun_ext (λ k. ap₂ eqb (commit_value_apart p k) (commit_value_apart q k))))
