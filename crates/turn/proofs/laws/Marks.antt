-- Marks never vanish, and what was sent is marked so.
use Rattle.std.specs.Prelude.{ℕ, ◌+◌, ◌≤◌, ◌<◌, Bool, cond, List, ◌≢◌, ◌≡◌, eqb, ltb, length}
use Rattle.std.proofs.Math.Bool.{true, false}
use Rattle.std.proofs.Math.Path.{ap}
use Rattle.std.proofs.Common.{◌∙◌, arith}
use Rattle.settings.specs.Settings.{round_limit}
use Rattle.quorum.specs.Marks.{mark}
use Rattle.quorum.specs.laws.Marks.{mark_same}
use Rattle.records.specs.Layout.{flags_at, closed_mark, send_sent_mark, commit_sent_mark, echo_sent_at, ready_sent_at, decided_zero_at, decided_one_at, round_at, est_sent_at, est_sent_mark, aux_sent_at, finish_sent_at}
use Rattle.records.specs.Words.{word, put, marked, set_mark}
use Rattle.records.specs.laws.Words.{word_put_other, word_set_mark_same, marked_kept}
use Rattle.records.specs.Records.{closed, send_sent, commit_sent, echo_sent, ready_sent, aux_sent, est_sent, finish_sent, coin}
use Rattle.records.specs.Writing.{with_decision}
use Rattle.acts.specs.Acts.{is_due}
use Rattle.acts.specs.declared.Act.{Act}
use Rattle.acts.specs.declared.Act.TheVariants.{Idle, InForce, Commit, Send, Echo, Ready, Start, Relay, Aux, Move, Finish}
use Rattle.acts.specs.declared.View.{View}
use Rattle.votes.specs.Votes.{estimate}
use Rattle.turn.specs.Turn.{with_turn_counted, entered, new_decision, move_decided, moved, applied}
use Rattle.turn.specs.Turn as turn
use Rattle.turn.proofs.laws.Frame.{Placed, length_counted, word_counted_other}

-- every mark of word k in s is one in t
abbrev pub Keeps : ℕ → List ℕ → List ℕ → Type 0
Keeps k s t = (p : ℕ) → mark (word s k) p ≡ true → mark (word t k) p ≡ true

keeps_same : (k : ℕ) (s t : List ℕ) → word t k ≡ word s k → Keeps k s t
keeps_same k s t e p h = ap (λ (w : ℕ). mark w p) e ∙ h

keeps_mark : (k : ℕ) (s : List ℕ) (j q : ℕ) → Keeps k s (set_mark s j q)
unfolding marked
keeps_mark k s j q p h = marked_kept s j q k p h

-- a word of marks: neither the count nor a round
pub record MarkWord (k : ℕ) : Type 0 where
  pub not_turns : k ≢ 6
  pub not_round : (i : ℕ) → 1 ≤ i → i ≤ 16 → k ≢ 23 + i

module _ (k : ℕ) (m : MarkWord k) where
  keeps_entered : (s : List ℕ) (i r b : ℕ) → 1 ≤ i → i ≤ 16 → Keeps k s (entered s i r b)
  unfolding entered
  keeps_entered s i r b low high p h = go (ltb round_limit r)
    where
      first : mark (word (put s (round_at i) r) k) p ≡ true
      first = keeps_same k s (put s (round_at i) r) (word_put_other s (round_at i) r k (m.not_round i low high)) p h

      go : (t : Bool) → mark (word (cond t (put s (round_at i) r) (set_mark (put s (round_at i) r) (est_sent_at i) (est_sent_mark r b))) k) p ≡ true
      go true = first
      go false = keeps_mark k (put s (round_at i) r) (est_sent_at i) (est_sent_mark r b) p first

  keeps_decided : (s : List ℕ) (i r : ℕ) (v : View) → Keeps k s (move_decided s i r v)
  unfolding move_decided
  keeps_decided s i r v p h = go (new_decision s i r v)
    where
      go : (t : Bool) → mark (word (cond t (with_decision s i (estimate (coin s i r) v)) s) k) p ≡ true
      go true = keeps_mark k s (cond (eqb (estimate (coin s i r) v) 0) decided_zero_at decided_one_at) i p h
      go false = h

  keeps_done : (s : List ℕ) (a : Act) → Placed a → Keeps k s (turn.done s a)
  unfolding turn.done moved
  keeps_done s Idle x p h = h
  keeps_done s InForce x p h = keeps_mark k s flags_at closed_mark p h
  keeps_done s (Commit n) x p h = keeps_mark k s flags_at commit_sent_mark p h
  keeps_done s (Send v) x p h = keeps_mark k s flags_at send_sent_mark p h
  keeps_done s (Echo i v) x p h = keeps_mark k s echo_sent_at i p h
  keeps_done s (Ready i v) x p h = keeps_mark k s ready_sent_at i p h
  keeps_done s (Start i b) x p h = keeps_entered s i 1 b x.0 x.1 p h
  keeps_done s (Relay i r b) x p h = keeps_mark k s (est_sent_at i) (est_sent_mark r b) p h
  keeps_done s (Aux i r b) x p h = keeps_mark k s (aux_sent_at i) r p h
  keeps_done s (Finish i b) x p h = keeps_mark k s finish_sent_at i p h
  keeps_done s (Move i r v) x p h = keeps_entered (move_decided s i r v) i (r + 1) (estimate (coin s i r) v) x.0 x.1 p (keeps_decided s i r v p h)

  -- marks never vanish
  pub keeps_applied : (s : List ℕ) (a : Act) → Placed a → Keeps k s (applied s a)
  unfolding applied
  keeps_applied s a x p h = go (is_due a)
    where
      go : (b : Bool) → mark (word (cond b (turn.done (with_turn_counted s) a) s) k) p ≡ true
      go true = keeps_done (with_turn_counted s) a x p (keeps_same k s (with_turn_counted s) (word_counted_other s k m.not_turns) p h)
      go false = h

-- what was sent is marked so
module _ (s : List ℕ) (size : length s ≡ 2048) where
  set_here : (k p : ℕ) → k < 2048 → 1 ≤ p → p ≤ 64 → marked (set_mark (with_turn_counted s) k p) k p ≡ true
  unfolding marked
  set_here k p l low high =
      ap (λ (w : ℕ). mark w p) (word_set_mark_same (with_turn_counted s) k p (omega (arith, size, length_counted s))) ∙ mark_same (word (with_turn_counted s) k) p low high

  pub closed_marked : closed (applied s InForce) ≡ true
  unfolding applied turn.done closed
  closed_marked = set_here flags_at closed_mark (omega arith) (omega arith) (omega arith)

  pub send_marked : (v : ℕ) → send_sent (applied s (Send v)) ≡ true
  unfolding applied turn.done send_sent
  send_marked v = set_here flags_at send_sent_mark (omega arith) (omega arith) (omega arith)

  pub commit_marked : (k : ℕ) → commit_sent (applied s (Commit k)) ≡ true
  unfolding applied turn.done commit_sent
  commit_marked k = set_here flags_at commit_sent_mark (omega arith) (omega arith) (omega arith)

  pub echo_marked : (i v : ℕ) → 1 ≤ i → i ≤ 16 → echo_sent (applied s (Echo i v)) i ≡ true
  unfolding applied turn.done echo_sent
  echo_marked i v low high = set_here echo_sent_at i (omega arith) low (omega arith)

  pub ready_marked : (i v : ℕ) → 1 ≤ i → i ≤ 16 → ready_sent (applied s (Ready i v)) i ≡ true
  unfolding applied turn.done ready_sent
  ready_marked i v low high = set_here ready_sent_at i (omega arith) low (omega arith)

  pub relay_marked : (i r b : ℕ) → i ≤ 16 → 1 ≤ r → r ≤ 32 → b ≤ 1 → est_sent (applied s (Relay i r b)) i r b ≡ true
  unfolding applied turn.done est_sent
  relay_marked i r b high low last bit = set_here (est_sent_at i) (est_sent_mark r b) (omega arith) (omega arith) (omega arith)

  pub aux_marked : (i r b : ℕ) → i ≤ 16 → 1 ≤ r → r ≤ 32 → aux_sent (applied s (Aux i r b)) i r ≡ true
  unfolding applied turn.done aux_sent
  aux_marked i r b high low last = set_here (aux_sent_at i) r (omega arith) low (omega arith)

  pub finish_marked : (i b : ℕ) → 1 ≤ i → i ≤ 16 → finish_sent (applied s (Finish i b)) i ≡ true
  unfolding applied turn.done finish_sent
  finish_marked i b low high = set_here finish_sent_at i (omega arith) low (omega arith)
