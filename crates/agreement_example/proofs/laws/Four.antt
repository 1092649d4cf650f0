-- The list of specs/Four.antt passes the test.
use Rattle.std.specs.Prelude.{true, [], ◌∷◌, ◌≡◌, refl}
use Rattle.settings.specs.declared.refusal.Refusal.TheVariants as refusal
use Rattle.agreement_check.proofs.laws.Example.{passes, passes_example}
use Rattle.agreement_check.proofs.laws.Refusals.{refusals}
use Rattle.agreement_check.proofs.laws.Tracking.{AllSized}
use Rattle.agreement_example.specs.Messages.{input_five}
use Rattle.turn_bound.proofs.laws.Computing.{calls}
use Rattle.agreement_example.proofs.laws.Computing.{checks}
use Rattle.agreement_example.specs.Four.{session, first_three, turns, to_all, from_all, openings, until_sends, honest_echoes, until_echoes, until_readies, four_calls, FourMeet}

four_pass : passes session first_three input_five 1 (5 ∷ []) four_calls ≡ true
unfolding calls checks turns to_all from_all openings until_sends honest_echoes until_echoes until_readies four_calls
four_pass = refl

four_sized : AllSized four_calls
unfolding checks turns to_all from_all openings until_sends honest_echoes until_echoes until_readies four_calls
four_sized = tt

pub four_meet : FourMeet
four_meet start room = passes_example start session first_three input_five four_calls room four_sized 1 (5 ∷ []) four_pass

-- the refusals, the last first: every other delivery is recorded
pub four_refusals : (refusals session first_three input_five four_calls).list ≡ refusal.Closed ∷ refusal.Held ∷ refusal.Sender ∷ []
unfolding calls checks turns to_all from_all openings until_sends honest_echoes until_echoes until_readies four_calls
four_refusals = refl
