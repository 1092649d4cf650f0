-- Each act that is due, but FINISH, raises the potential.
use Rattle.std.specs.Prelude.{ℕ, ◌+◌, ◌≤◌, ◌<◌, Bool, true, false, List, ◌≢◌, ◌≡◌, length}
use Rattle.std.proofs.lemmas.Bool.{false≢true}
use Rattle.std.proofs.Math.Path.{ap}
use Rattle.std.proofs.Common.{◌∙◌, lt-ltb, le-ltb}
use native.Mathlib.Omega.{arith}
use Rattle.std.proofs.Math.Decide.{dec_lt}
use Rattle.settings.specs.Rules.{Ruled}
use Rattle.settings.specs.declared.Settings.{Settings}
use Rattle.quorum.specs.Marks.{mark, with_mark}
use Rattle.records.specs.Layout.{round_at, est_sent_at, est_sent_mark, aux_sent_at}
use Rattle.records.specs.Words.{word, put, marked, set_mark}
use Rattle.records.specs.laws.Words.{length_put, word_put_same, word_put_other, word_set_mark_same, word_set_mark_other}
use Rattle.records.specs.Records.{closed, send_sent, commit_sent, echo_sent, ready_sent, est_sent, aux_sent, round, coin}
use Rattle.acts.specs.Acts.{is_due}
use Rattle.acts.specs.declared.Act.{Act}
use Rattle.acts.specs.declared.Act.TheVariants.{Idle, InForce, Commit, Send, Echo, Ready, Start, Relay, Aux, Move, Finish}
use Rattle.acts.specs.declared.View.{View}
use Rattle.acts.specs.declared.View.TheVariants.{Only, Both}
use Rattle.votes.specs.Votes.{estimate, coin_value}
use Rattle.votes.specs.laws.Told.{Shown}
use Rattle.turn.specs.laws.Told.{ActTold}
use Rattle.turn.specs.Turn.{with_turn_counted, entered, move_decided, moved, applied}
use Rattle.turn.specs.Turn as turn
use Rattle.turn.proofs.laws.Frame.{Spared, Placed, told_placed, length_counted, word_counted_other, length_decided, word_decided_other, word_entered_other, applied_other}
use Rattle.turn.proofs.laws.Marks.{MarkWord, keeps_applied, closed_marked, send_marked, commit_marked, echo_marked, ready_marked, relay_marked, aux_marked}
use Rattle.turn_bound.proofs.laws.Potential.{potential, Grows, Gain, flag, of_instance, echo, ready, est, aux, potential_rises}
use Rattle.turn_bound.proofs.laws.Rounds.{Still, Entry, Change, still, relayed, entry, Orderly, orderly_kept, moved_out_kept, entry_gain}

-- an act that the potential measures
abbrev pub Plain : Act → Type 0
Plain Idle = Unit {0}
Plain InForce = Unit {0}
Plain (Commit k) = Unit {0}
Plain (Send v) = Unit {0}
Plain (Echo i v) = Unit {0}
Plain (Ready i v) = Unit {0}
Plain (Start i b) = Unit {0}
Plain (Relay i r b) = Unit {0}
Plain (Aux i r b) = Unit {0}
Plain (Move i r v) = Unit {0}
Plain (Finish i b) = ⊥

coin_bit : (c : Bool) → coin_value c ≤ 1
coin_bit true = omega arith
coin_bit false = omega arith

shown_bit : (g : Settings) (s : List ℕ) (i r : ℕ) (c : Bool) (v : View) → Shown g s i r v → estimate c v ≤ 1
shown_bit g s i r c (Only b) h = h.bit
shown_bit g s i r c Both h = coin_bit c

-- u has the rounds and the ESTs of s; round r + 1 of vote i is entered in u
module _ (s u : List ℕ) (size : length u ≡ 2048) (same : Still s u) (i r b : ℕ) (low : 1 ≤ i) (few : i ≤ 16) where
  abbrev t : List ℕ
  t = entered u i (r + 1) b

  round_put : word (put u (round_at i) (r + 1)) (round_at i) ≡ r + 1
  round_put = word_put_same u (round_at i) (r + 1) (omega arith)

  est_put : word (put u (round_at i) (r + 1)) (est_sent_at i) ≡ word u (est_sent_at i)
  est_put = word_put_other u (round_at i) (r + 1) (est_sent_at i) (λ e. omega arith)

  enters : Dec (r < 32) → word t (round_at i) ≡ r + 1
  unfolding entered
  enters (yes l) =
      rw (le-ltb 32 (r + 1) (omega arith))
      (word_set_mark_other (put u (round_at i) (r + 1)) (est_sent_at i) (est_sent_mark (r + 1) b) (round_at i) (λ e. omega arith) ∙ round_put)
  enters (no l) = rw (lt-ltb 32 (r + 1) (omega arith)) round_put

  marks : r < 32 → word t (est_sent_at i) ≡ with_mark (word s (est_sent_at i)) (est_sent_mark (r + 1) b)
  unfolding entered
  marks l =
      rw (le-ltb 32 (r + 1) (omega arith))
      (word_set_mark_same (put u (round_at i) (r + 1)) (est_sent_at i) (est_sent_mark (r + 1) b) (omega (arith, length_put u (round_at i) (r + 1)))
      ∙ ap (λ (w : ℕ). with_mark w (est_sent_mark (r + 1) b)) (est_put ∙ same.ests i low few))

  leaves : 32 ≤ r → word t (est_sent_at i) ≡ word s (est_sent_at i)
  unfolding entered
  leaves l = rw (lt-ltb 32 (r + 1) (omega arith)) (est_put ∙ same.ests i low few)

  entered_entry : Dec (r < 32) → word s (round_at i) ≡ r → (1 ≤ r → mark (word s (aux_sent_at i)) r ≡ true) → r ≤ 32 → b ≤ 1 → Entry i r b s t
  entered_entry d e v h c =
      record {
        high = h;
        bit = c;
        before = e;
        voted = v;
        enters = enters d;
        rounds = λ j lo hi ne. word_entered_other u i (r + 1) b (round_at j) (λ z. ne (omega arith)) (λ z. omega arith) ∙ same.rounds j lo hi;
        ests = λ j lo hi ne. word_entered_other u i (r + 1) b (est_sent_at j) (λ z. omega arith) (λ z. ne (omega arith)) ∙ same.ests j lo hi;
        marks = marks;
        leaves = leaves;
      }

module _ (s : List ℕ) (size : length s ≡ 2048) where
  counted_still : Still s (with_turn_counted s)
  counted_still =
      record {
        rounds = λ j lo hi. word_counted_other s (round_at j) (λ e. omega arith);
        ests = λ j lo hi. word_counted_other s (est_sent_at j) (λ e. omega arith);
      }

  decided_still : (i r : ℕ) (v : View) → Still s (move_decided (with_turn_counted s) i r v)
  decided_still i r v =
      record {
        rounds = λ j lo hi. word_decided_other (with_turn_counted s) i r v (round_at j) (λ e. omega arith) (λ e. omega arith) ∙ word_counted_other s (round_at j) (λ e. omega arith);
        ests = λ j lo hi. word_decided_other (with_turn_counted s) i r v (est_sent_at j) (λ e. omega arith) (λ e. omega arith) ∙ word_counted_other s (est_sent_at j) (λ e. omega arith);
      }

  spared_still : (a : Act) → ((j : ℕ) → 1 ≤ j → j ≤ 16 → Spared a (round_at j) × Spared a (est_sent_at j)) → Still s (applied s a)
  spared_still a h =
      record {
        rounds = λ j lo hi. applied_other s a (round_at j) (λ e. omega arith) (h j lo hi).0;
        ests = λ j lo hi. applied_other s a (est_sent_at j) (λ e. omega arith) (h j lo hi).1;
      }

  -- a mark that is set in a turn that counts
  pub counted_mark : (k p : ℕ) → k < 2048 → k ≢ 6 → word (set_mark (with_turn_counted s) k p) k ≡ with_mark (word s k) p
  counted_mark k p l ne =
      word_set_mark_same (with_turn_counted s) k p (omega (arith, size, length_counted s))
      ∙ ap (λ (w : ℕ). with_mark w p) (word_counted_other s k ne)

  pub relay_marks : (i r b : ℕ) → i ≤ 16 → word (applied s (Relay i r b)) (est_sent_at i) ≡ with_mark (word s (est_sent_at i)) (est_sent_mark r b)
  unfolding applied turn.done
  relay_marks i r b high = counted_mark (est_sent_at i) (est_sent_mark r b) (omega arith) (λ e. omega arith)

  module _ (g : Settings) (ruled : Ruled g) where
    pub start_entry : (i b : ℕ) → ActTold g s (Start i b) → Entry i 0 b s (applied s (Start i b))
    unfolding applied turn.done round
    start_entry i b h =
        let before : word s (round_at i) ≡ 0 = omega (arith, h.1.before) in
        entered_entry s (with_turn_counted s) (length_counted s ∙ size) counted_still i 0 b h.0.low (omega (arith, h.0.high, ruled.few)) (yes (omega arith)) before (λ l. absurd (omega arith)) (omega arith) h.1.bit

    abbrev pub move_bit : ℕ → ℕ → View → ℕ
    move_bit i r v = estimate (coin (with_turn_counted s) i r) v

    pub move_entry : (i r : ℕ) (v : View) → ActTold g s (Move i r v) → Dec (r < 32) → Entry i r (move_bit i r v) s (applied s (Move i r v))
    unfolding applied turn.done moved round aux_sent marked
    move_entry i r v h d =
        let before : word s (round_at i) ≡ r = omega (arith, h.1.current, h.1.high) in
        entered_entry s (move_decided (with_turn_counted s) i r v) (length_decided (with_turn_counted s) i r v ∙ length_counted s ∙ size) (decided_still i r v)
        i r (move_bit i r v) h.0.low (omega (arith, h.0.high, ruled.few)) d before (λ l. h.1.sent) h.1.high (shown_bit g s i r (coin (with_turn_counted s) i r) v h.1.shown)

    -- the rounds and the ESTs after an act
    pub act_change : (a : Act) → ActTold g s a → Change s (applied s a)
    unfolding round
    act_change Idle h = still (spared_still Idle (λ j lo hi. (tt, tt)))
    act_change InForce h = still (spared_still InForce (λ j lo hi. (λ e. omega arith, λ e. omega arith)))
    act_change (Commit k) h = still (spared_still (Commit k) (λ j lo hi. (λ e. omega arith, λ e. omega arith)))
    act_change (Send v) h = still (spared_still (Send v) (λ j lo hi. (λ e. omega arith, λ e. omega arith)))
    act_change (Echo i v) h = still (spared_still (Echo i v) (λ j lo hi. (λ e. omega arith, λ e. omega arith)))
    act_change (Ready i v) h = still (spared_still (Ready i v) (λ j lo hi. (λ e. omega arith, λ e. omega arith)))
    act_change (Start i b) h = entry i 0 b (start_entry i b h)
    act_change (Relay i r b) h =
        relayed i r b
        (record {
          low = h.1.low;
          high = h.1.high;
          bit = h.1.bit;
          reached = omega (arith, h.1.reached);
          rounds = λ j lo hi. applied_other s (Relay i r b) (round_at j) (λ e. omega arith) (λ e. omega (arith, h.0.low));
          ests = λ j lo hi ne. applied_other s (Relay i r b) (est_sent_at j) (λ e. omega arith) (λ e. ne (omega arith));
          marks = relay_marks i r b (omega (arith, h.0.high, ruled.few));
        })
    act_change (Aux i r b) h = still (spared_still (Aux i r b) (λ j lo hi. (λ e. omega (arith, h.0.low), λ e. omega (arith, h.0.low))))
    act_change (Finish i b) h = still (spared_still (Finish i b) (λ j lo hi. (λ e. omega arith, λ e. omega arith)))
    act_change (Move i r v) h = entry i r (move_bit i r v) (move_entry i r v h (dec_lt r 32))

    module _ (o : Orderly g.n s) (unclosed : closed s ≡ false) where
      -- what is new after an act
      act_gain : (a : Act) → is_due a ≡ true → Plain a → ActTold g s a → Gain g.n s (applied s a)
      unfolding closed send_sent commit_sent echo_sent ready_sent est_sent aux_sent marked
      act_gain Idle d x h = absurd (false≢true d)
      act_gain InForce d x h = flag 1 (omega arith) (omega arith) (record { clear = unclosed; set = closed_marked s size })
      act_gain (Commit k) d x h = flag 3 (omega arith) (omega arith) (record { clear = h.unsent; set = commit_marked s size k })
      act_gain (Send v) d x h = flag 2 (omega arith) (omega arith) (record { clear = h.unsent; set = send_marked s size v })
      act_gain (Echo i v) d x h =
          of_instance i h.among.low h.among.high
          (echo (record { clear = h.unsent; set = echo_marked s size i v h.among.low (omega (arith, h.among.high, ruled.few)) }))
      act_gain (Ready i v) d x h =
          of_instance i h.among.low h.among.high
          (ready (record { clear = h.unsent; set = ready_marked s size i v h.among.low (omega (arith, h.among.high, ruled.few)) }))
      act_gain (Start i b) d x h = of_instance i h.0.low h.0.high (entry_gain g.n ruled.few s (applied s (Start i b)) o i 0 b h.0.low h.0.high (start_entry i b h))
      act_gain (Relay i r b) d x h =
          of_instance i h.0.low h.0.high
          (est (est_sent_mark r b) (omega (arith, h.1.low)) (omega (arith, h.1.high, h.1.bit))
          (record { clear = h.1.unsent; set = relay_marked s size i r b (omega (arith, h.0.high, ruled.few)) h.1.low h.1.high h.1.bit }))
      act_gain (Aux i r b) d x h =
          of_instance i h.0.low h.0.high
          (aux r h.1.low h.1.high (record { clear = h.1.unsent; set = aux_marked s size i r b (omega (arith, h.0.high, ruled.few)) h.1.low h.1.high }))
      act_gain (Finish i b) d x h = absurd x
      act_gain (Move i r v) d x h =
          of_instance i h.0.low h.0.high
          (entry_gain g.n ruled.few s (applied s (Move i r v)) o i r (move_bit i r v) h.0.low h.0.high (move_entry i r v h (dec_lt r 32)))

      flags_word : MarkWord 7
      flags_word = record { not_turns = λ e. omega arith; not_round = λ i lo hi e. omega arith }

      echo_word : MarkWord 136
      echo_word = record { not_turns = λ e. omega arith; not_round = λ i lo hi e. omega arith }

      ready_word : MarkWord 137
      ready_word = record { not_turns = λ e. omega arith; not_round = λ i lo hi e. omega arith }

      est_word : (j : ℕ) → 1 ≤ j → MarkWord (est_sent_at j)
      est_word j low = record { not_turns = λ e. omega arith; not_round = λ i lo hi e. omega arith }

      aux_word : (j : ℕ) → 1 ≤ j → MarkWord (aux_sent_at j)
      aux_word j low = record { not_turns = λ e. omega arith; not_round = λ i lo hi e. omega arith }

      act_grows : (a : Act) → ActTold g s a → Grows g.n s (applied s a)
      act_grows a h = of (told_placed g s ruled a h)
        where
          of : Placed a → Grows g.n s (applied s a)
          of p =
              record {
                flags = keeps_applied 7 flags_word s a p;
                echoes = keeps_applied 136 echo_word s a p;
                readies = keeps_applied 137 ready_word s a p;
                ests = λ i low high. keeps_applied (est_sent_at i) (est_word i low) s a p;
                auxs = λ i low high. keeps_applied (aux_sent_at i) (aux_word i low) s a p;
                moved_out = moved_out_kept g.n ruled.few s (applied s a) o (act_change a h);
              }

      -- every act but FINISH raises the potential
      pub act_raises : (a : Act) → is_due a ≡ true → Plain a → ActTold g s a → potential g.n s < potential g.n (applied s a)
      act_raises a d x h = potential_rises g.n s (applied s a) (act_grows a h) (act_gain a d x h)

      pub act_orderly : (a : Act) → ActTold g s a → Orderly g.n (applied s a)
      act_orderly a h = orderly_kept g.n ruled.few s (applied s a) o (act_change a h) (act_grows a h).auxs
