-- What a delivery and an act write stands beside the word of the weights: whatever x stands there stays, and changes nothing else.
use Rattle.std.specs.Prelude.{ℕ, ◌+◌, ◌≤◌, Bool, ◌&&◌, not, ◌≢◌, ◌≡◌, eqb, ltb}
use Rattle.std.proofs.Math.Bool.{true, false, cond}
use mathlib.Core.List.{List}
use Rattle.std.proofs.Math.Path.{refl, ap}
use Rattle.std.proofs.Common.{◌∙◌, arith}
use Rattle.quorum.specs.Marks.{with_mark}
use Rattle.settings.specs.Settings.{round_limit}
use Rattle.records.specs.Layout.{weights_at, turns_at, flags_at, closed_mark, send_sent_mark, commit_sent_mark, echo_sent_at, ready_sent_at, decided_zero_at, decided_one_at, round_at, est_sent_at, est_sent_mark, aux_sent_at, send_marks_at, send_value_at, echo_marks_at, echo_value_at, ready_marks_at, ready_value_at, vote_at, est_mark, one_first_at, finish_sent_at, finish_marks_at, finish_mark, aux_mark, commit_count_at, commit_row_at}
use Rattle.records.specs.Words.{put, set_mark}
use Rattle.records.specs.Records.{coin, decided}
use Rattle.records.specs.Words.{store_of}
use Rattle.acts.specs.Acts.{is_due}
use Rattle.acts.specs.declared.Act.{Act}
use Rattle.acts.specs.declared.Act.TheVariants.{Idle, InForce, Commit, Send, Echo, Ready, Start, Relay, Aux, Move, Finish}
use Rattle.acts.specs.declared.View.{View}
use Rattle.votes.specs.Votes.{estimate, decides}
use Rattle.wire.specs.Bytes.{value_at}
use Rattle.wire.specs.declared.Message.{Message}
use Rattle.wire.specs.declared.Message.TheVariants as message
use Rattle.delivery.specs.Delivery as weighted
use Rattle.unweighted.specs.Votes.{one_alone, finish_decides}
use Rattle.unweighted.specs.Session.{settings_of}
use Rattle.unweighted.specs.Delivery.{first_noted, finish_settled, recorded}
use Rattle.delivery.specs.laws.Frame.{InLayout}
use Rattle.records.specs.Writing.{with_est, with_one_first, with_finish, with_decision}
use Rattle.turn.specs.Turn.{with_turn_counted, entered, new_decision, move_decided, moved, done, applied}
use Rattle.turn.proofs.laws.Frame.{Placed}
use Rattle.unweighted.proofs.laws.Opening.{put_swap, store_put}
use Rattle.unweighted.proofs.laws.apart.Records.{word_apart, coin_apart, decided_apart}
use Rattle.unweighted.proofs.laws.apart.Rules.{one_alone_apart, finish_decides_apart}
use Rattle.unweighted.proofs.laws.apart.Session.{settings_apart}

module _ (x : ℕ) where
  put_apart : (s : List ℕ) (k v : ℕ) → weights_at ≢ k → put (put s weights_at x) k v ≡ put (put s k v) weights_at x
  put_apart s k v ne = put_swap s weights_at k x v ne

  pub mark_apart : (s : List ℕ) (k p : ℕ) → weights_at ≢ k → set_mark (put s weights_at x) k p ≡ put (set_mark s k p) weights_at x
  unfolding set_mark
  mark_apart s k p ne = ap (λ (w : ℕ). put (put s weights_at x) k (with_mark w p)) (word_apart s x k (λ e. ne (omega arith))) ∙ put_apart s k _ ne

  -- a value, then its mark
  both_apart : (s : List ℕ) (a v k p : ℕ) → weights_at ≢ a → weights_at ≢ k → set_mark (put (put s weights_at x) a v) k p ≡ put (set_mark (put s a v) k p) weights_at x
  both_apart s a v k p na nk = ap (λ (u : List ℕ). set_mark u k p) (put_apart s a v na) ∙ mark_apart (put s a v) k p nk

  with_decision_apart : (s : List ℕ) (i b : ℕ) → with_decision (put s weights_at x) i b ≡ put (with_decision s i b) weights_at x
  with_decision_apart s i b = go (eqb b 0)
    where
      go : (c : Bool) → set_mark (put s weights_at x) (cond c decided_zero_at decided_one_at) i ≡ put (set_mark s (cond c decided_zero_at decided_one_at) i) weights_at x
      go true = mark_apart s decided_zero_at i (λ e. omega arith)
      go false = mark_apart s decided_one_at i (λ e. omega arith)

  -- EST b of sender p, and the mark of a 1 that was accepted first
  est_apart : (s : List ℕ) (p i r b : ℕ) → (settings_of s).n ≤ 16 → i ≤ 16 → first_noted (put s weights_at x) (with_est (put s weights_at x) i r b p) i r b ≡ put (first_noted s (with_est s i r b p) i r b) weights_at x
  unfolding first_noted
  est_apart s p i r b few high =
      rw (settings_apart s x, mark_apart s (vote_at i r) (est_mark b p) (λ e. omega arith), one_alone_apart (settings_of s) few (with_est s i r b p) x i high r)
      (go (eqb b 1 && one_alone (settings_of s) (with_est s i r b p) i r))
    where
      go : (c : Bool) → cond c (with_one_first (put (with_est s i r b p) weights_at x) i r) (put (with_est s i r b p) weights_at x) ≡ put (cond c (with_one_first (with_est s i r b p) i r) (with_est s i r b p)) weights_at x
      go true = mark_apart (with_est s i r b p) (one_first_at i) r (λ e. omega arith)
      go false = refl

  -- FINISH b of sender p, and its decision
  finish_apart : (s : List ℕ) (p i b : ℕ) → (settings_of s).n ≤ 16 → i ≤ 16 → finish_settled (put s weights_at x) (with_finish (put s weights_at x) i b p) i b ≡ put (finish_settled s (with_finish s i b p) i b) weights_at x
  unfolding finish_settled
  finish_apart s p i b few high =
      rw (settings_apart s x, mark_apart s (finish_marks_at i) (finish_mark b p) (λ e. omega arith), finish_decides_apart (settings_of s) few (with_finish s i b p) x i high b)
      (go (finish_decides (settings_of s) (with_finish s i b p) i b))
    where
      go : (c : Bool) → cond c (with_decision (put (with_finish s i b p) weights_at x) i b) (put (with_finish s i b p) weights_at x) ≡ put (cond c (with_decision (with_finish s i b p) i b) (with_finish s i b p)) weights_at x
      go true = with_decision_apart (with_finish s i b p) i b
      go false = refl

  -- ---- a message that keeps to the layout
  pub recorded_apart : (s v : List ℕ) (p : ℕ) (m : Message) → (settings_of s).n ≤ 16 → InLayout p m → recorded (put s weights_at x) p m v ≡ put (recorded s p m v) weights_at x
  unfolding recorded weighted.recorded
  recorded_apart s v p (message.Send i y) few h = both_apart s (send_value_at i) y send_marks_at i (λ e. omega arith) (λ e. omega arith)
  recorded_apart s v p (message.Echo i y) few h = both_apart s (echo_value_at i p) y (echo_marks_at i) p (λ e. omega arith) (λ e. omega arith)
  recorded_apart s v p (message.Ready i y) few h = both_apart s (ready_value_at i p) y (ready_marks_at i) p (λ e. omega arith) (λ e. omega arith)
  recorded_apart s v p (message.Est i r b) few h = est_apart s p i r b few h.3
  recorded_apart s v p (message.Aux i r b) few h = mark_apart s (vote_at i r) (aux_mark b p) (λ e. omega arith)
  recorded_apart s v p (message.Commit k) few h =
      ap (λ (u : List ℕ). put u (commit_count_at p) k) (store_put (value_at v) (commit_row_at p) s weights_at x k (λ j lo hi e. omega arith))
      ∙ put_apart (store_of (value_at v) (commit_row_at p) s k) (commit_count_at p) k (λ e. omega arith)
  recorded_apart s v p (message.Finish i b) few h = finish_apart s p i b few h.3

  -- ---- an act of one of the votes 1 to 16
  counted_apart : (s : List ℕ) → with_turn_counted (put s weights_at x) ≡ put (with_turn_counted s) weights_at x
  unfolding with_turn_counted
  counted_apart s = ap (λ (w : ℕ). put (put s weights_at x) turns_at (w + 1)) (word_apart s x turns_at (λ e. omega arith)) ∙ put_apart s turns_at _ (λ e. omega arith)

  entered_apart : (s : List ℕ) (i r b : ℕ) → i ≤ 16 → entered (put s weights_at x) i r b ≡ put (entered s i r b) weights_at x
  unfolding entered
  entered_apart s i r b high = go (ltb round_limit r)
    where
      go : (c : Bool) → cond c (put (put s weights_at x) (round_at i) r) (set_mark (put (put s weights_at x) (round_at i) r) (est_sent_at i) (est_sent_mark r b)) ≡ put (cond c (put s (round_at i) r) (set_mark (put s (round_at i) r) (est_sent_at i) (est_sent_mark r b))) weights_at x
      go true = put_apart s (round_at i) r (λ e. omega arith)
      go false = both_apart s (round_at i) r (est_sent_at i) (est_sent_mark r b) (λ e. omega arith) (λ e. omega arith)

  decision_apart : (s : List ℕ) (i r : ℕ) (v : View) → i ≤ 16 → move_decided (put s weights_at x) i r v ≡ put (move_decided s i r v) weights_at x
  unfolding move_decided new_decision
  decision_apart s i r v high = rw (decided_apart s x i, coin_apart s x i high r) (go (not (decided s i) && decides (coin s i r) v))
    where
      go : (c : Bool) → cond c (with_decision (put s weights_at x) i (estimate (coin s i r) v)) (put s weights_at x) ≡ put (cond c (with_decision s i (estimate (coin s i r) v)) s) weights_at x
      go true = with_decision_apart s i (estimate (coin s i r) v)
      go false = refl

  moved_apart : (s : List ℕ) (i r : ℕ) (v : View) → i ≤ 16 → moved (put s weights_at x) i r v ≡ put (moved s i r v) weights_at x
  unfolding moved
  moved_apart s i r v high =
      rw (decision_apart s i r v high, coin_apart s x i high r)
      (entered_apart (move_decided s i r v) i (r + 1) (estimate (coin s i r) v) high)

  done_apart : (s : List ℕ) (a : Act) → Placed a → done (put s weights_at x) a ≡ put (done s a) weights_at x
  unfolding done
  done_apart s Idle h = refl
  done_apart s InForce h = mark_apart s flags_at closed_mark (λ e. omega arith)
  done_apart s (Commit k) h = mark_apart s flags_at commit_sent_mark (λ e. omega arith)
  done_apart s (Send v) h = mark_apart s flags_at send_sent_mark (λ e. omega arith)
  done_apart s (Echo i v) h = mark_apart s echo_sent_at i (λ e. omega arith)
  done_apart s (Ready i v) h = mark_apart s ready_sent_at i (λ e. omega arith)
  done_apart s (Start i b) h = entered_apart s i 1 b h.1
  done_apart s (Relay i r b) h = mark_apart s (est_sent_at i) (est_sent_mark r b) (λ e. omega arith)
  done_apart s (Aux i r b) h = mark_apart s (aux_sent_at i) r (λ e. omega arith)
  done_apart s (Move i r v) h = moved_apart s i r v h.1
  done_apart s (Finish i b) h = mark_apart s finish_sent_at i (λ e. omega arith)

  pub applied_apart : (s : List ℕ) (a : Act) → Placed a → applied (put s weights_at x) a ≡ put (applied s a) weights_at x
  unfolding applied
  applied_apart s a h = go (is_due a)
    where
      go : (b : Bool) → cond b (done (with_turn_counted (put s weights_at x)) a) (put s weights_at x) ≡ put (cond b (done (with_turn_counted s) a) s) weights_at x
      go true = ap (λ (u : List ℕ). done u a) (counted_apart s) ∙ done_apart (with_turn_counted s) a h
      go false = refl
