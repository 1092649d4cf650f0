-- The list of specs/Finishing.antt passes the test and closes by Exit 2; a concentrator is decided by FINISHes alone.
use Rattle.std.specs.Prelude.{true, [], ◌∷◌, ◌≡◌, refl}
use Rattle.agreement_check.proofs.laws.Example.{passes, passes_example}
use Rattle.agreement_check.proofs.laws.Refusals.{refusals}
use Rattle.agreement_check.proofs.laws.Tracking.{AllSized}
use Rattle.agreement_example.specs.Messages.{input_five}
use Rattle.agreement_example.specs.Weighted.{first_two, turns}
use Rattle.turn_bound.proofs.laws.Computing.{calls}
use Rattle.agreement_example.proofs.laws.Computing.{checks}
use Rattle.agreement_example.specs.Finishing.{session, openings, to_both, from_both, twice, until_readies, until_auxes, first_finishes, until_finishes, last_finish, finishing_calls, FinishingMeet, DecidedByFinishes}

finishing_pass : passes session first_two input_five 2 (5 ∷ []) finishing_calls ≡ true
unfolding calls checks openings turns to_both from_both twice until_readies until_auxes first_finishes until_finishes last_finish finishing_calls
finishing_pass = refl

finishing_sized : AllSized finishing_calls
unfolding checks openings turns to_both from_both twice until_readies until_auxes first_finishes until_finishes last_finish finishing_calls
finishing_sized = tt

pub finishing_meet : FinishingMeet
finishing_meet start room = passes_example start session first_two input_five finishing_calls room finishing_sized 2 (5 ∷ []) finishing_pass

pub decided_by_finishes : DecidedByFinishes
unfolding calls checks openings turns to_both from_both twice until_readies until_auxes first_finishes until_finishes last_finish finishing_calls
decided_by_finishes =
    record {
      first_open = refl;
      first_decided = refl;
      third_decided = refl;
      second_open = refl;
      second_decided = refl;
      first_round = refl;
      second_round = refl;
    }

-- no call is refused
pub finishing_refusals : (refusals session first_two input_five finishing_calls).list ≡ []
unfolding calls checks openings turns to_both from_both twice until_readies until_auxes first_finishes until_finishes last_finish finishing_calls
finishing_refusals = refl
