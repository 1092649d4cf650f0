-- With all weights 1: what is due in a vote.
use Prim.Native.Nat.{ℕ, min}
use Rattle.std.specs.Prelude.{Bool, ◌&&◌, List, ◌≡◌}
use Rattle.std.proofs.Math.Bool.{not}
use Rattle.std.proofs.Math.Path.{ap, ap₂, fun_ext}
use Rattle.std.proofs.Math.Dec.{leb, ltb}
use Rattle.settings.specs.Settings.{round_limit}
use Rattle.records.specs.Records.{est_held, aux_held, finish_held, one_first, round, decided, decided_one}
use Rattle.acts.specs.Acts.{or_act, first_act}
use Rattle.acts.specs.declared.Act.{Act}
use Rattle.votes.specs.Votes.{view_of}
use Rattle.votes.specs.Votes as weighted
use Rattle.votes.specs.Finishing as weighted_finishing
use Rattle.settings.specs.declared.Settings as weighted_settings
use Rattle.unweighted.specs.Votes.{est_count, accepted, one_alone, one_accepted_first, votes_decided_one, start_act, relay_value, relay_round, relay_act, aux_value, aux_act, carries, carriers, carried, view, move_value, move_act, round_act, vote_act, finish_count, repeated, finish_value, finish_act, finish_decides, winding_act, vote_due}
use Rattle.unweighted.proofs.laws.Counts.{Ones, plain, counts, vote_quorum_same, relay_same, accept_same}

module _ (g : weighted_settings.Settings) (one : Ones g) (s : List ℕ) where
  pub decided_same : weighted.votes_decided_one g s ≡ votes_decided_one (plain g) s
  unfolding weighted.votes_decided_one votes_decided_one
  decided_same = counts g one (decided_one s)

  module _ (i : ℕ) where
    est_same : (r b : ℕ) → weighted.est_count g s i r b ≡ est_count (plain g) s i r b
    unfolding weighted.est_count est_count
    est_same r b = counts g one (est_held s i r b)

    accepted_same : (r b : ℕ) → weighted.accepted g s i r b ≡ accepted (plain g) s i r b
    unfolding weighted.accepted accepted
    accepted_same r b = ap₂ leb (accept_same g) (est_same r b)

    start_same : (has_output : Bool) (ones : ℕ) → weighted.start_act g s has_output ones i ≡ start_act (plain g) s has_output ones i
    unfolding weighted.start_act start_act
    start_same has_output ones = rw (vote_quorum_same g one)

    relay_value_same : (r b : ℕ) → weighted.relay_value g s i r b ≡ relay_value (plain g) s i r b
    unfolding weighted.relay_value relay_value
    relay_value_same r b = rw (relay_same g, est_same r b)

    relay_round_same : (r : ℕ) → weighted.relay_round g s i r ≡ relay_round (plain g) s i r
    unfolding weighted.relay_round relay_round
    relay_round_same r = ap₂ or_act (relay_value_same r 0) (relay_value_same r 1)

    relay_act_same : weighted.relay_act g s i ≡ relay_act (plain g) s i
    unfolding weighted.relay_act relay_act
    relay_act_same = ap (λ (f : ℕ → Act). first_act f (min (round s i) round_limit)) (fun_ext relay_round_same)

    pub one_alone_same : (r : ℕ) → weighted.one_alone g s i r ≡ one_alone (plain g) s i r
    unfolding weighted.one_alone one_alone
    one_alone_same r = rw (accepted_same r 0, accepted_same r 1)

    one_accepted_first_same : (r : ℕ) → weighted.one_accepted_first g s i r ≡ one_accepted_first (plain g) s i r
    unfolding weighted.one_accepted_first one_accepted_first
    one_accepted_first_same r = ap (λ (a : Bool). one_first s i r && a) (accepted_same r 1)

    aux_value_same : (r : ℕ) → weighted.aux_value g s i r ≡ aux_value (plain g) s i r
    unfolding weighted.aux_value aux_value
    aux_value_same r = rw (one_accepted_first_same r, accepted_same r 0, accepted_same r 1)

    aux_act_same : weighted.aux_act g s i ≡ aux_act (plain g) s i
    unfolding weighted.aux_act aux_act
    aux_act_same = rw (aux_value_same (round s i))

    carries_same : (r : ℕ) → weighted.carries g s i r ≡ carries (plain g) s i r
    unfolding weighted.carries carries
    carries_same r = fun_ext (λ p. rw (accepted_same r 0, accepted_same r 1))

    carriers_same : (r : ℕ) → weighted.carriers g s i r ≡ carriers (plain g) s i r
    unfolding weighted.carriers carriers
    carriers_same r = rw (carries_same r) (counts g one (carries (plain g) s i r))

    carried_same : (r b : ℕ) → weighted.carried g s i r b ≡ carried (plain g) s i r b
    unfolding weighted.carried weighted.aux_count carried
    carried_same r b = ap₂ (λ (x : Bool) (y : ℕ). x && ltb 0 y) (accepted_same r b) (counts g one (aux_held s i r b))

    view_same : (r : ℕ) → weighted.view g s i r ≡ view (plain g) s i r
    unfolding weighted.view view
    view_same r = ap₂ view_of (carried_same r 0) (carried_same r 1)

    move_value_same : (r : ℕ) → weighted.move_value g s i r ≡ move_value (plain g) s i r
    unfolding weighted.move_value move_value
    move_value_same r = rw (vote_quorum_same g one, carriers_same r, view_same r)

    move_act_same : weighted.move_act g s i ≡ move_act (plain g) s i
    unfolding weighted.move_act move_act
    move_act_same = rw (move_value_same (round s i))

    round_act_same : weighted.round_act g s i ≡ round_act (plain g) s i
    unfolding weighted.round_act round_act
    round_act_same = rw (aux_act_same, move_act_same)

    pub vote_act_same : (has_output : Bool) (ones : ℕ) → weighted.vote_act g s has_output ones i ≡ vote_act (plain g) s has_output ones i
    unfolding weighted.vote_act vote_act
    vote_act_same has_output ones = rw (start_same has_output ones, relay_act_same, round_act_same)

    finish_same : (b : ℕ) → weighted_finishing.finish_count g s i b ≡ finish_count (plain g) s i b
    unfolding weighted_finishing.finish_count finish_count
    finish_same b = counts g one (finish_held s i b)

    repeated_same : (b : ℕ) → weighted_finishing.repeated g s i b ≡ repeated (plain g) s i b
    unfolding weighted_finishing.repeated repeated
    repeated_same b = ap₂ leb (relay_same g) (finish_same b)

    finish_act_same : weighted_finishing.finish_act g s i ≡ finish_act (plain g) s i
    unfolding weighted_finishing.finish_act weighted_finishing.finish_value weighted_finishing.finish_repeated finish_act finish_value
    finish_act_same = rw (repeated_same 0, repeated_same 1)

    pub finish_decides_same : (b : ℕ) → weighted_finishing.finish_decides g s i b ≡ finish_decides (plain g) s i b
    unfolding weighted_finishing.finish_decides finish_decides
    finish_decides_same b = ap₂ (λ (k c : ℕ). not (decided s i) && leb k c) (accept_same g) (finish_same b)

    pub vote_due_same : (finishes has_output : Bool) (ones : ℕ) → weighted.vote_due g s finishes has_output ones i ≡ vote_due (plain g) s finishes has_output ones i
    unfolding weighted.vote_due weighted.winding_act vote_due winding_act
    vote_due_same finishes has_output ones = rw (finish_act_same, vote_act_same has_output ones)
