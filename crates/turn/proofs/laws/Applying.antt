-- The paths of src/apply.rt.
use Rattle.std.specs.Prelude.{ℕ, ◌+◌, ◌≤◌, ◌<◌, Bool, true, false, not, ◌&&◌, List, ◌≡◌}
use Rattle.std.proofs.Common.{lt-ltb, le-ltb}
use Rattle.records.specs.Records.{turn_count, coin, decided}
use Rattle.records.specs.Writing.{with_turn_count, with_round, with_decision, with_closed, with_commit_sent, with_send_sent, with_echo_sent, with_ready_sent, with_est_sent, with_aux_sent, with_finish_sent}
use Rattle.acts.specs.Acts.{is_due}
use Rattle.acts.specs.declared.Act.{Act}
use Rattle.acts.specs.declared.Act.TheVariants.{Idle, InForce, Commit, Send, Echo, Ready, Start, Relay, Aux, Move, Finish}
use Rattle.acts.specs.declared.View.{View}
use Rattle.votes.specs.Votes.{estimate, decides}
use Rattle.turn.specs.Turn.{with_turn_counted, entered, new_decision, move_decided, moved, done, applied}

pub turn_counted : (s t : List ℕ) (w : ℕ) → w ≡ turn_count s → t ≡ with_turn_count s (w + 1) → t ≡ with_turn_counted s
unfolding with_turn_counted
turn_counted s t w e f = rw (← e) f

module _ (s t : List ℕ) (i r b : ℕ) (e : t ≡ with_round s i r) where
  pub last_left : 32 < r → t ≡ entered s i r b
  unfolding entered
  last_left l = rw (lt-ltb 32 r l) e

  pub round_entered : (u : List ℕ) → r ≤ 32 → u ≡ with_est_sent t i r b → u ≡ entered s i r b
  unfolding entered
  round_entered u l f = rw (le-ltb 32 r l, ← e) f

module _ (s : List ℕ) (i r : ℕ) (v : View) (c : Bool) (ec : c ≡ coin s i r) where
  pub decision : (d b : Bool) → d ≡ decided s i → b ≡ decides c v → (not d && b) ≡ new_decision s i r v
  unfolding new_decision
  decision d b e f = rw (e, f, ec)

  module _ (b : ℕ) (eb : b ≡ estimate c v) where
    pub decision_taken : (t : List ℕ) (d : Bool) → d ≡ new_decision s i r v → d ≡ true → t ≡ with_decision s i b → t ≡ move_decided s i r v
    unfolding move_decided
    decision_taken t d e h f = rw (← e, h, ← ec, ← eb) f

    pub round_left : (t u : List ℕ) → t ≡ move_decided s i r v → u ≡ entered t i (r + 1) b → u ≡ moved s i r v
    unfolding moved
    round_left t u e f = rw (← e, ← ec, ← eb) f

pub no_decision : (s : List ℕ) (i r : ℕ) (v : View) (d : Bool) → d ≡ new_decision s i r v → d ≡ false → s ≡ move_decided s i r v
unfolding move_decided
no_decision s i r v d e h = rw (← e, h)

module _ (s t : List ℕ) (a : Act) where
  pub mark_idle : a ≡ Idle → s ≡ done s a
  unfolding done
  mark_idle e = rw e

  pub mark_in_force : a ≡ InForce → t ≡ with_closed s → t ≡ done s a
  unfolding done
  mark_in_force e f = rw e f

  pub mark_commit : (k : ℕ) → a ≡ Commit k → t ≡ with_commit_sent s → t ≡ done s a
  unfolding done
  mark_commit k e f = rw e f

  pub mark_send : (v : ℕ) → a ≡ Send v → t ≡ with_send_sent s → t ≡ done s a
  unfolding done
  mark_send v e f = rw e f

  pub mark_echo : (i v : ℕ) → a ≡ Echo i v → t ≡ with_echo_sent s i → t ≡ done s a
  unfolding done
  mark_echo i v e f = rw e f

  pub mark_ready : (i v : ℕ) → a ≡ Ready i v → t ≡ with_ready_sent s i → t ≡ done s a
  unfolding done
  mark_ready i v e f = rw e f

  pub mark_start : (i b : ℕ) → a ≡ Start i b → t ≡ entered s i 1 b → t ≡ done s a
  unfolding done
  mark_start i b e f = rw e f

  pub mark_relay : (i r b : ℕ) → a ≡ Relay i r b → t ≡ with_est_sent s i r b → t ≡ done s a
  unfolding done
  mark_relay i r b e f = rw e f

  pub mark_aux : (i r b : ℕ) → a ≡ Aux i r b → t ≡ with_aux_sent s i r → t ≡ done s a
  unfolding done
  mark_aux i r b e f = rw e f

  pub mark_move : (i r : ℕ) (v : View) → a ≡ Move i r v → t ≡ moved s i r v → t ≡ done s a
  unfolding done
  mark_move i r v e f = rw e f

  pub mark_finish : (i b : ℕ) → a ≡ Finish i b → t ≡ with_finish_sent s i → t ≡ done s a
  unfolding done
  mark_finish i b e f = rw e f

  pub act_done : (u : List ℕ) (d : Bool) → d ≡ is_due a → d ≡ true → t ≡ with_turn_counted s → u ≡ done t a → u ≡ applied s a
  unfolding applied
  act_done u d e h f g = rw (← e, h, ← f) g

pub nothing_done : (s : List ℕ) (a : Act) (d : Bool) → d ≡ is_due a → d ≡ false → s ≡ applied s a
unfolding applied
nothing_done s a d e h = rw (← e, h)

pub ruleset apply_cases = (turn_counted, last_left, round_entered, decision, decision_taken, round_left, no_decision, act_done, nothing_done)

pub ruleset mark_cases = (mark_idle, mark_in_force, mark_commit, mark_send, mark_echo, mark_ready, mark_start, mark_relay, mark_aux, mark_move, mark_finish)
