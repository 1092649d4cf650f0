-- The list of specs/Weighted.antt passes the test and closes by Exit 2.
use Rattle.std.specs.Prelude.{true, [], ◌∷◌, ◌≡◌, refl}
use Rattle.agreement_check.proofs.laws.Example.{passes, passes_example}
use Rattle.agreement_check.proofs.laws.Refusals.{refusals}
use Rattle.agreement_check.proofs.laws.Tracking.{AllSized}
use Rattle.agreement_example.specs.Messages.{input_five}
use Rattle.turn_bound.proofs.laws.Computing.{calls}
use Rattle.agreement_example.proofs.laws.Computing.{checks}
use Rattle.agreement_example.specs.Weighted.{session, first_two, openings, turns, to_both, from_both, twice, with_readies, with_auxes, with_last_auxes, with_sets, weighted_calls, WeightedMeet}

weighted_pass : passes session first_two input_five 2 (5 ∷ []) weighted_calls ≡ true
unfolding calls checks openings turns to_both from_both twice with_readies with_auxes with_last_auxes with_sets weighted_calls
weighted_pass = refl

weighted_sized : AllSized weighted_calls
unfolding checks openings turns to_both from_both twice with_readies with_auxes with_last_auxes with_sets weighted_calls
weighted_sized = tt

pub weighted_meet : WeightedMeet
weighted_meet start room = passes_example start session first_two input_five weighted_calls room weighted_sized 2 (5 ∷ []) weighted_pass

-- no call is refused
pub weighted_refusals : (refusals session first_two input_five weighted_calls).list ≡ []
unfolding calls checks openings turns to_both from_both twice with_readies with_auxes with_last_auxes with_sets weighted_calls
weighted_refusals = refl
