-- The list of specs/Boxed.antt meets the conditions, waits for its coins and closes by Exit 2.
use Rattle.std.specs.Prelude.{true, [], ◌∷◌, ◌≡◌, refl}
use Rattle.settings.specs.declared.refusal.Refusal.TheVariants as refusal
use Rattle.agreement_check.proofs.laws.Example.{passes, passes_example}
use Rattle.agreement_check.proofs.laws.Refusals.{refusals}
use Rattle.agreement_check.proofs.laws.Tracking.{AllSized}
use Rattle.agreement_example.specs.Messages.{input_five}
use Rattle.agreement_example.specs.Weighted.{first_two, turns, to_both, from_both, twice, with_readies, with_auxes, with_last_auxes, with_sets}
use Rattle.turn_bound.proofs.laws.Computing.{calls}
use Rattle.agreement_example.proofs.laws.Computing.{checks}
use Rattle.agreement_example.specs.Boxed.{session, openings, recorded, waiting, told, boxed_calls, BoxedMeet, Waits}

boxed_pass : passes session first_two input_five 2 (5 ∷ []) boxed_calls ≡ true
unfolding calls checks openings turns to_both from_both twice with_readies with_auxes with_last_auxes with_sets recorded waiting told boxed_calls
boxed_pass = refl

boxed_sized : AllSized boxed_calls
unfolding checks openings turns to_both from_both twice with_readies with_auxes with_last_auxes with_sets recorded waiting told boxed_calls
boxed_sized = tt

pub boxed_meet : BoxedMeet
boxed_meet start room = passes_example start session first_two input_five boxed_calls room boxed_sized 2 (5 ∷ []) boxed_pass

pub waits : Waits
unfolding calls checks openings turns to_both from_both twice with_readies with_auxes with_last_auxes with_sets recorded waiting told
waits = record { before = refl; again = refl; after = refl }

-- one recording is refused, and no other call
pub boxed_refusals : (refusals session first_two input_five boxed_calls).list ≡ refusal.Coin ∷ []
unfolding calls checks openings turns to_both from_both twice with_readies with_auxes with_last_auxes with_sets recorded waiting told boxed_calls
boxed_refusals = refl
