-- Each act that is due in a vote tells what the rules ask for it.
use Rattle.std.specs.Prelude.{ℕ, min, ◌≤◌, Bool, true, false, ◌&&◌, cond, List, ◌≡◌, refl, eqb, leb}
use Rattle.std.proofs.Common.{true≢false, sym, subst, ◌∙◌, arith}
use Rattle.std.proofs.Math.Logic.{inl, inr}
use borrow.Author.Tests.{eqb-true, leb-true}
use Rattle.quorum.specs.laws.Bools.{and_left, and_right}
use Rattle.settings.specs.Settings.{vote_quorum, relay, round_limit}
use Rattle.settings.specs.Versions.{finishing}
use Rattle.settings.specs.Rules.{Ruled}
use Rattle.settings.specs.laws.Thresholds.{ruled_bounds}
use Rattle.settings.specs.declared.Settings.{Settings}
use Rattle.quorum.specs.Whole.{weights_right}
use Rattle.records.specs.Records.{round, est_sent, aux_sent, one_first, coin_known, finish_sent, decided_zero, decided_one, version}
use Rattle.acts.specs.Acts.{or_act}
use Rattle.acts.specs.declared.Act.{Act}
use Rattle.acts.specs.declared.Act.TheVariants.{Idle, Start, Relay, Aux, Move, Finish}
use Rattle.votes.specs.Votes.{est_count, accepted, start_act, relay_value, relay_round, relay_act, running, one_accepted_first, aux_value, aux_act, carriers, view}
use Rattle.votes.specs.Votes.{move_value, move_act, round_act, vote_act, winding_act, vote_due}
use Rattle.votes.specs.Finishing.{finish_count, repeated, finish_repeated, finish_value, finish_act, finished}
use Rattle.acts.specs.laws.Choices.{all_cond, all_or, all_first}
use Rattle.votes.specs.laws.Told.{Told}
use Rattle.votes.specs.laws.Views.{view_shown}

unmarked : (m one : Bool) → (m && one) ≡ false → one ≡ true → m ≡ false
unmarked true one q o = absurd (true≢false (sym o ∙ q))
unmarked false one q o = refl

module _ (g : Settings) (right : weights_right g.weights g.n ≡ true) (s : List ℕ) (output : ℕ → Bool) (ones : ℕ) (Vote : ℕ → Type 0) (i : ℕ) (v : Vote i) where
  abbrev P : Act → Type 0
  P = Told g s output ones Vote

  start_told : P (start_act g s (output i) ones i)
  unfolding start_act
  start_told =
      all_cond P (eqb (round s i) 0) (cond (output i) (Start i 1) (cond (leb (vote_quorum g) ones) (Start i 0) Idle)) Idle (λ e. go (eqb-true (round s i) 0 e)) (λ e. tt)
    where
      go : round s i ≡ 0 → P (cond (output i) (Start i 1) (cond (leb (vote_quorum g) ones) (Start i 0) Idle))
      go e =
          all_cond P (output i) (Start i 1) (cond (leb (vote_quorum g) ones) (Start i 0) Idle)
          (λ o. (v, record { before = e; bit = omega arith; one = λ z. o; zero = λ z. absurd (omega arith); enough = λ z. absurd (omega arith) }))
          (λ o. all_cond P (leb (vote_quorum g) ones) (Start i 0) Idle
          (λ q. (v, record { before = e; bit = omega arith; one = λ z. absurd (omega arith); zero = λ z. o; enough = λ z. leb-true (vote_quorum g) ones q }))
          (λ q. tt))

  relay_value_told : (r b : ℕ) → 1 ≤ r → r ≤ min (round s i) round_limit → b ≤ 1 → P (relay_value g s i r b)
  unfolding relay_value
  relay_value_told r b low high bit =
      all_cond P (est_sent s i r b) Idle (cond (leb (relay g) (est_count g s i r b)) (Relay i r b) Idle) (λ e. tt)
      (λ e. all_cond P (leb (relay g) (est_count g s i r b)) (Relay i r b) Idle
      (λ q. (v, record { low = low; high = omega arith; reached = omega arith; bit = bit; held = leb-true (relay g) (est_count g s i r b) q; unsent = e }))
      (λ q. tt))

  relay_told : P (relay_act g s i)
  unfolding relay_act relay_round
  relay_told =
      all_first P (relay_round g s i) (min (round s i) round_limit) tt
      (λ r low high. all_or P (relay_value g s i r 0) (relay_value g s i r 1) (relay_value_told r 0 low high (omega arith)) (relay_value_told r 1 low high (omega arith)))

  module _ (low : 1 ≤ round s i) (high : round s i ≤ round_limit) where
    aux_value_told : aux_sent s i (round s i) ≡ false → P (aux_value g s i (round s i))
    unfolding aux_value one_accepted_first
    aux_value_told e =
        let r = round s i in
        let m = one_first s i r in
        let zero = accepted g s i r 0 in
        let one = accepted g s i r 1 in
        all_cond P (one_accepted_first g s i r) (Aux i r 1) (cond zero (Aux i r 0) (cond one (Aux i r 1) Idle))
        (λ q. (v, record { current = refl; low = low; high = high; bit = omega arith; is_accepted = and_right m one q; unsent = e; zero_first = λ z. absurd (omega arith); one_first_lem = λ z o. and_left m one q }))
        (λ q. all_cond P zero (Aux i r 0) (cond one (Aux i r 1) Idle)
        (λ a. (v, record { current = refl; low = low; high = high; bit = omega arith; is_accepted = a; unsent = e; zero_first = λ z o. unmarked m one q o; one_first_lem = λ z. absurd (omega arith) }))
        (λ n. all_cond P one (Aux i r 1) Idle
        (λ a. (v, record { current = refl; low = low; high = high; bit = omega arith; is_accepted = a; unsent = e; zero_first = λ z. absurd (omega arith); one_first_lem = λ z o. absurd (true≢false (sym o ∙ n)) }))
        (λ w. tt)))

    aux_told : P (aux_act g s i)
    unfolding aux_act
    aux_told = all_cond P (aux_sent s i (round s i)) Idle (aux_value g s i (round s i)) (λ e. tt) aux_value_told

    module _ (some : 1 ≤ vote_quorum g) where
      move_value_told : (aux_sent s i (round s i) && coin_known s i (round s i)) ≡ true → P (move_value g s i (round s i))
      unfolding move_value
      move_value_told e =
          all_cond P (leb (vote_quorum g) (carriers g s i (round s i))) (Move i (round s i) (view g s i (round s i))) Idle
          (λ q. moved (leb-true (vote_quorum g) (carriers g s i (round s i)) q))
          (λ q. tt)
        where
          moved : vote_quorum g ≤ carriers g s i (round s i) → P (Move i (round s i) (view g s i (round s i)))
          moved q = (
            v,
            record {
              current = refl;
              low = low;
              high = high;
              sent = and_left (aux_sent s i (round s i)) (coin_known s i (round s i)) e;
              known = and_right (aux_sent s i (round s i)) (coin_known s i (round s i)) e;
              enough = q;
              shown = view_shown g s i (round s i) right some q;
            },
          )

      move_told : P (move_act g s i)
      unfolding move_act
      move_told = all_cond P (aux_sent s i (round s i) && coin_known s i (round s i)) (move_value g s i (round s i)) Idle move_value_told (λ e. tt)

  module _ (some : 1 ≤ vote_quorum g) where
    round_told : P (round_act g s i)
    unfolding round_act running
    round_told =
        all_cond P (running s i) (or_act (aux_act g s i) (move_act g s i)) Idle
        (λ e. go (leb-true 1 (round s i) (and_left (leb 1 (round s i)) (leb (round s i) round_limit) e)) (leb-true (round s i) round_limit (and_right (leb 1 (round s i)) (leb (round s i) round_limit) e)))
        (λ e. tt)
      where
        go : 1 ≤ round s i → round s i ≤ round_limit → P (or_act (aux_act g s i) (move_act g s i))
        go low high = all_or P (aux_act g s i) (move_act g s i) (aux_told low high) (move_told low high some)

    vote_acts : P (vote_act g s (output i) ones i)
    unfolding vote_act
    vote_acts =
        all_or P (start_act g s (output i) ones i) (or_act (relay_act g s i) (round_act g s i)) start_told
        (all_or P (relay_act g s i) (round_act g s i) relay_told round_told)

    finish_repeated_told : finishing (version s) ≡ true → finish_sent s i ≡ false → P (finish_repeated g s i)
    unfolding finish_repeated repeated
    finish_repeated_told w u =
        all_cond P (repeated g s i 0) (Finish i 0) (cond (repeated g s i 1) (Finish i 1) Idle)
        (λ q. (v, record { allowed = w; bit = omega arith; unsent = u; basis = inr (leb-true (relay g) (finish_count g s i 0) q) }))
        (λ q. all_cond P (repeated g s i 1) (Finish i 1) Idle
        (λ p. (v, record { allowed = w; bit = omega arith; unsent = u; basis = inr (leb-true (relay g) (finish_count g s i 1) p) }))
        (λ p. tt))

    finish_told : finishing (version s) ≡ true → P (finish_act g s i)
    unfolding finish_act finish_value
    finish_told w =
        all_cond P (finish_sent s i) Idle (finish_value g s i) (λ e. tt)
        (λ u. all_cond P (decided_one s i) (Finish i 1) (cond (decided_zero s i) (Finish i 0) (finish_repeated g s i))
        (λ d. (v, record { allowed = w; bit = omega arith; unsent = u; basis = inl ((λ z. absurd (omega arith)), λ z. d) }))
        (λ d. all_cond P (decided_zero s i) (Finish i 0) (finish_repeated g s i)
        (λ c. (v, record { allowed = w; bit = omega arith; unsent = u; basis = inl ((λ z. c), λ z. absurd (omega arith)) }))
        (λ c. finish_repeated_told w u)))

    due_acts_lem : (finishes : Bool) → (finishes ≡ true → finishing (version s) ≡ true) → P (vote_due g s finishes (output i) ones i)
    unfolding vote_due winding_act
    due_acts_lem finishes w =
        all_cond P finishes (winding_act g s (output i) ones i) (vote_act g s (output i) ones i)
        (λ e. all_or P (finish_act g s i) (cond (finished s i) Idle (vote_act g s (output i) ones i)) (finish_told (w e))
        (all_cond P (finished s i) Idle (vote_act g s (output i) ones i) (λ f. tt) (λ f. vote_acts)))
        (λ e. vote_acts)

module _ (g : Settings) (ruled : Ruled g) (s : List ℕ) where
  -- an act of vote i is vote i's own
  pub vote_told : (output : Bool) (ones i : ℕ) (a : Act) → vote_due g s (finishing (version s)) output ones i ≡ a → Told g s (λ j. output) ones (λ j. j ≡ i) a
  vote_told output ones i a e =
      subst (Told g s (λ j. output) ones (λ j. j ≡ i)) e
      (due_acts_lem g ruled.right s (λ j. output) ones (λ j. j ≡ i) i refl (ruled_bounds g ruled).vote_quorum_some (finishing (version s)) (λ w. w))
