-- The list of specs/Unequal.antt, computed.
use Rattle.std.specs.Prelude.{true, [], ◌∷◌, ◌≡◌, refl}
use Rattle.exits.specs.Exits.{insert, insert_output, outputs_of_s}
use Rattle.turn_bound.proofs.laws.Computing.{calls}
use Rattle.agreement_example.proofs.laws.Computing.{checks}
use Rattle.agreement_check.proofs.laws.Example.{passes, passes_example}
use Rattle.agreement_check.proofs.laws.Tracking.{AllSized}
use Rattle.agreement_example.specs.Four.{first_three, turns, to_all, from_all}
use Rattle.agreement_example.specs.Unequal.{session, input_of, openings, in_each, until_sends, until_readies, until_auxes, until_last_auxes, unequal_calls, UnequalMeet}

unequal_pass : passes session first_three input_of 3 (5 ∷ 6 ∷ 7 ∷ []) unequal_calls ≡ true
unfolding calls checks insert insert_output outputs_of_s turns to_all from_all openings in_each until_sends until_readies until_auxes until_last_auxes unequal_calls
unequal_pass = refl

unequal_sized : AllSized unequal_calls
unfolding checks turns to_all from_all openings in_each until_sends until_readies until_auxes until_last_auxes unequal_calls
unequal_sized = tt

pub unequal_meet : UnequalMeet
unequal_meet start room = passes_example start session first_three input_of unequal_calls room unequal_sized 3 (5 ∷ 6 ∷ 7 ∷ []) unequal_pass
