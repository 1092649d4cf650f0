-- What is due, and the exit, are the same whatever x stands in the word of the weights. There are at most 16 concentrators.
use Prim.Native.Nat.{ℕ, ◌-◌, ◌^◌, ◌≤◌, min}
use Rattle.std.specs.Prelude.{Bool, ◌≡◌, refl, eqb, Option}
use Rattle.std.proofs.Math.Bool.{◌&&◌, cond}
use mathlib.Core.List.{List}
use Rattle.std.proofs.Common.{sym, ◌∙◌, arith}
use Rattle.std.proofs.Math.Path.{ap₂, fun_ext}
use Rattle.quorum.specs.laws.Total.{total_agree}
use Rattle.quorum.specs.laws.Lowest.{lowest_agree, lowest_le}
use Rattle.quorum.specs.laws.Whole.{ones_weight}
use Rattle.settings.specs.Settings.{round_limit}
use Rattle.settings.specs.declared.Settings as weighted_settings
use Rattle.records.specs.Layout.{weights_at, input_at}
use Rattle.records.specs.Words.{put}
use Rattle.records.specs.Records.{round, decided_zero, decided_one, version}
use Rattle.acts.specs.Acts.{or_act, first_act}
use Rattle.acts.specs.declared.Act.{Act}
use Rattle.acts.specs.declared.Act.TheVariants.{Idle}
use Rattle.broadcasts.specs.Broadcasts.{echo_act}
use Rattle.broadcasts.specs.Leading.{present}
use Rattle.votes.specs.Votes.{running}
use Rattle.votes.specs.Finishing.{finished}
use Rattle.settings.specs.Versions.{finishing}
use Rattle.exits.specs.Exits.{Exit}
use Rattle.exits.proofs.laws.Exits.{exit_agree}
use Rattle.commits.specs.Commits.{set_of}
use Rattle.turn.specs.Due.{or_set, send_rule}
use Rattle.unweighted.specs.Settings.{Settings}
use Rattle.unweighted.specs.Broadcasts.{output, ready_due, ready_act, echo_rule, ready_rule}
use Rattle.unweighted.specs.Votes.{est_count, accepted, one_alone, one_accepted_first, votes_decided_one, start_act, relay_value, relay_round, relay_act, aux_value, aux_act, carries, carriers, carried, view, move_value, move_act, round_act, vote_act, finish_count, repeated, finish_value, finish_act, finish_decides, winding_act, vote_due}
use Rattle.unweighted.specs.Exits.{exit_of, exit_now}
use Rattle.unweighted.specs.Commits.{set_holders, set_leads, set_leader, leading_set}
use Rattle.unweighted.specs.Due.{in_force_rule, commit_due, commit_rule, votes_rule, due}
use Rattle.unweighted.proofs.laws.Counts.{Ones}
use Rattle.unweighted.proofs.laws.Exits.{exit_same}
use Rattle.unweighted.proofs.laws.apart.Records.{word_apart, send_sent_apart, commit_sent_apart, echo_sent_apart, ready_sent_apart, send_held_apart, finish_sent_apart, version_apart, finish_held_apart, zero_apart, one_apart, est_held_apart, aux_held_apart, one_first_apart, echo_value_apart, ready_value_apart, send_value_apart, echo_held_apart, ready_held_apart, round_apart, est_sent_apart, aux_sent_apart, coin_known_apart, commit_held_apart, commit_set_apart, same_set_apart}
use Rattle.unweighted.proofs.laws.apart.Records as records
use Rattle.acts.specs.laws.First.{first_agree}

-- outputs that agree on 1 to n give the same exit: it is that of settings in which each of 1 to n weighs 1
module _ (g : Settings) (few : g.n ≤ 16) where
  abbrev ones : weighted_settings.Settings
  ones = record { n = g.n; ta = g.ta; ts = g.ts; whole = g.n; weights = 2 ^ g.n - 1 }

  all_ones : Ones ones
  all_ones = record { each = λ p lo hi. ones_weight g.n p lo hi few; whole = refl }

  exit_of_agree : (o p : ℕ → Option ℕ) (as0 as1 : ℕ → Bool) → ((i : ℕ) → 1 ≤ i → i ≤ g.n → o i ≡ p i) → exit_of g o as0 as1 ≡ exit_of g p as0 as1
  exit_of_agree o p as0 as1 h =
      sym (exit_same ones all_ones o as0 as1)
      ∙ exit_agree ones o p as0 as1 as0 as1 h (λ i lo hi. refl) (λ i lo hi. refl)
      ∙ exit_same ones all_ones p as0 as1

module _ (g : Settings) (few : g.n ≤ 16) (s : List ℕ) (x : ℕ) where
  abbrev t : List ℕ
  t = put s weights_at x

  -- ---- one broadcast and one vote
  module _ (i : ℕ) (high : i ≤ 16) where
    output_apart : output g t i ≡ output g s i
    unfolding output
    output_apart = rw (ready_held_apart s x i high, ready_value_apart s x i)

    echo_act_apart : echo_act t i ≡ echo_act s i
    unfolding echo_act
    echo_act_apart = rw (echo_sent_apart s x i, send_held_apart s x i, send_value_apart s x i high)

    ready_act_apart : ready_act g t i ≡ ready_act g s i
    unfolding ready_act ready_due
    ready_act_apart = rw (ready_sent_apart s x i, echo_held_apart s x i high, echo_value_apart s x i, ready_held_apart s x i high, ready_value_apart s x i)

    est_count_apart : (r b : ℕ) → est_count g t i r b ≡ est_count g s i r b
    unfolding est_count
    est_count_apart r b = rw (est_held_apart s x i r b)

    accepted_apart : (r b : ℕ) → accepted g t i r b ≡ accepted g s i r b
    unfolding accepted
    accepted_apart r b = rw (est_count_apart r b)

    start_apart : (has_output : Bool) (decided_ones : ℕ) → start_act g t has_output decided_ones i ≡ start_act g s has_output decided_ones i
    unfolding start_act
    start_apart has_output decided_ones = rw (round_apart s x i high)

    relay_value_apart : (r b : ℕ) → relay_value g t i r b ≡ relay_value g s i r b
    unfolding relay_value
    relay_value_apart r b = rw (est_sent_apart s x i high r b, est_count_apart r b)

    relay_round_apart : (r : ℕ) → relay_round g t i r ≡ relay_round g s i r
    unfolding relay_round
    relay_round_apart r = ap₂ or_act (relay_value_apart r 0) (relay_value_apart r 1)

    relay_act_apart : relay_act g t i ≡ relay_act g s i
    unfolding relay_act
    relay_act_apart = ap₂ (λ (f : ℕ → Act) (r : ℕ). first_act f (min r round_limit)) (fun_ext relay_round_apart) (round_apart s x i high)

    pub one_alone_apart : (r : ℕ) → one_alone g t i r ≡ one_alone g s i r
    unfolding one_alone
    one_alone_apart r = rw (accepted_apart r 0, accepted_apart r 1)

    one_accepted_first_apart : (r : ℕ) → one_accepted_first g t i r ≡ one_accepted_first g s i r
    unfolding one_accepted_first
    one_accepted_first_apart r = rw (one_first_apart s x i r, accepted_apart r 1)

    aux_act_apart : aux_act g t i ≡ aux_act g s i
    unfolding aux_act aux_value
    aux_act_apart =
        rw (round_apart s x i high, aux_sent_apart s x i high (round s i), one_accepted_first_apart (round s i), accepted_apart (round s i) 0, accepted_apart (round s i) 1)

    carries_apart : (r p : ℕ) → carries g t i r p ≡ carries g s i r p
    unfolding carries
    carries_apart r p = rw (accepted_apart r 0, accepted_apart r 1, aux_held_apart s x i r 0, aux_held_apart s x i r 1)

    carriers_apart : (r : ℕ) → carriers g t i r ≡ carriers g s i r
    unfolding carriers
    carriers_apart r = total_agree (λ p. 1) _ _ g.n (λ p lo hi. carries_apart r p)

    view_apart : (r : ℕ) → view g t i r ≡ view g s i r
    unfolding view carried
    view_apart r = rw (accepted_apart r 0, accepted_apart r 1, aux_held_apart s x i r 0, aux_held_apart s x i r 1)

    move_value_apart : (r : ℕ) → move_value g t i r ≡ move_value g s i r
    unfolding move_value
    move_value_apart r = rw (carriers_apart r, view_apart r)

    move_act_apart : move_act g t i ≡ move_act g s i
    unfolding move_act
    move_act_apart =
        rw (round_apart s x i high, aux_sent_apart s x i high (round s i), coin_known_apart s x i high (round s i), move_value_apart (round s i))

    round_act_apart : round_act g t i ≡ round_act g s i
    unfolding round_act running
    round_act_apart = rw (round_apart s x i high, aux_act_apart, move_act_apart)

    vote_act_apart : (has_output : Bool) (decided_ones : ℕ) → vote_act g t has_output decided_ones i ≡ vote_act g s has_output decided_ones i
    unfolding vote_act
    vote_act_apart has_output decided_ones = rw (start_apart has_output decided_ones, relay_act_apart, round_act_apart)

    finish_count_apart : (b : ℕ) → finish_count g t i b ≡ finish_count g s i b
    unfolding finish_count
    finish_count_apart b = rw (finish_held_apart s x i b)

    repeated_apart : (b : ℕ) → repeated g t i b ≡ repeated g s i b
    unfolding repeated
    repeated_apart b = rw (finish_count_apart b)

    finish_act_apart : finish_act g t i ≡ finish_act g s i
    unfolding finish_act finish_value
    finish_act_apart = rw (finish_sent_apart s x i, zero_apart s x, one_apart s x, repeated_apart 0, repeated_apart 1)

    finished_apart : finished t i ≡ finished s i
    unfolding finished
    finished_apart = rw (finish_sent_apart s x i, records.decided_apart s x i)

    pub finish_decides_apart : (b : ℕ) → finish_decides g t i b ≡ finish_decides g s i b
    unfolding finish_decides
    finish_decides_apart b = rw (records.decided_apart s x i, finish_count_apart b)

    vote_due_apart : (has_output : Bool) (decided_ones : ℕ) → vote_due g t (finishing (version t)) has_output decided_ones i ≡ vote_due g s (finishing (version s)) has_output decided_ones i
    unfolding vote_due winding_act
    vote_due_apart has_output decided_ones = rw (version_apart s x, finish_act_apart, finished_apart, vote_act_apart has_output decided_ones)

  -- ---- the sets that COMMITs hold
  holders_apart : (p : ℕ) → p ≤ 16 → set_holders t g.n p ≡ set_holders s g.n p
  unfolding set_holders
  holders_apart p high =
      total_agree (λ q. 1) _ _ g.n
      (λ q lo hi. ap₂ ◌&&◌ (commit_held_apart s x q (omega arith)) (same_set_apart s x p q high (omega arith)))

  leads_apart : (k p : ℕ) → p ≤ 16 → set_leads t g.n k p ≡ set_leads s g.n k p
  unfolding set_leads
  leads_apart k p high = rw (commit_held_apart s x p high, holders_apart p high)

  leader_apart : (k : ℕ) → set_leader t g.n k ≡ set_leader s g.n k
  unfolding set_leader
  leader_apart k = lowest_agree _ _ g.n (λ p lo hi. leads_apart k p (omega arith))

  leader_high : (k : ℕ) → set_leader s g.n k ≤ 16
  unfolding set_leader
  leader_high k = omega (arith, few, lowest_le (set_leads s g.n k) g.n)

  pub leading_apart : (k : ℕ) → leading_set t g.n k ≡ leading_set s g.n k
  unfolding leading_set set_of
  leading_apart k = rw (leader_apart k, commit_set_apart s x (set_leader s g.n k) (leader_high k))

  -- ---- the exits and the rules
  pub exit_apart : exit_now g t ≡ exit_now g s
  unfolding exit_now
  exit_apart =
      ap₂ (λ (as0 as1 : ℕ → Bool). exit_of g (output g t) as0 as1) (zero_apart s x) (one_apart s x)
      ∙ exit_of_agree g few (output g t) (output g s) (decided_zero s) (decided_one s) (λ i lo hi. output_apart i (omega arith))

  in_force_apart : in_force_rule g t ≡ in_force_rule g s
  unfolding in_force_rule
  in_force_apart = rw (leader_apart _)

  pub commit_due_apart : commit_due g t ≡ commit_due g s
  unfolding commit_due
  commit_due_apart = ap₂ (λ (e : Exit) (set : List ℕ). or_set e.names set) exit_apart (leading_apart _)

  commit_apart : commit_rule g t ≡ commit_rule g s
  unfolding commit_rule
  commit_apart = rw (commit_sent_apart s x, commit_due_apart)

  send_apart : send_rule t ≡ send_rule s
  unfolding send_rule
  send_apart = rw (send_sent_apart s x, word_apart s x input_at (λ e. omega arith))

  echo_apart : echo_rule g t ≡ echo_rule g s
  unfolding echo_rule
  echo_apart = first_agree _ _ g.n (λ i lo hi. echo_act_apart i (omega arith))

  ready_apart : ready_rule g t ≡ ready_rule g s
  unfolding ready_rule
  ready_apart = first_agree _ _ g.n (λ i lo hi. ready_act_apart i (omega arith))

  decided_apart : votes_decided_one g t ≡ votes_decided_one g s
  unfolding votes_decided_one
  decided_apart = rw (one_apart s x)

  vote_apart : (i : ℕ) → i ≤ 16 → vote_due g t (finishing (version t)) (present (output g t i)) (votes_decided_one g t) i ≡ vote_due g s (finishing (version s)) (present (output g s i)) (votes_decided_one g s) i
  vote_apart i high =
      ap₂ (λ (o : Option ℕ) (k : ℕ). vote_due g t (finishing (version t)) (present o) k i) (output_apart i high) decided_apart
      ∙ vote_due_apart i high (present (output g s i)) (votes_decided_one g s)

  votes_apart : votes_rule g t ≡ votes_rule g s
  unfolding votes_rule
  votes_apart =
      ap₂ (λ (e : Exit) (a : Act). cond (eqb e.number 1) Idle a) exit_apart
      (first_agree _ _ g.n (λ i lo hi. vote_apart i (omega arith)))

  pub due_apart : due g t ≡ due g s
  unfolding due
  due_apart = rw (in_force_apart, commit_apart, send_apart, echo_apart, ready_apart, votes_apart)
