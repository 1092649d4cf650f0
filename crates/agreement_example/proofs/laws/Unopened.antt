-- The list of specs/Unopened.antt, computed.
use Rattle.std.specs.Prelude.{ℕ, Bool, true, ◌&&◌, not, List, [], ◌∷◌, ◌≢◌, ◌≡◌, refl, eqb}
use Rattle.std.proofs.lemmas.Bool.{eqb-false, not-true}
use Rattle.std.proofs.Common.{leb-true}
use Rattle.quorum.specs.laws.Bools.{and_left, and_right}
use Rattle.turn_bound.proofs.laws.Computing.{calls}
use Rattle.agreement.specs.Moments.{Within, now, after}
use Rattle.calls.specs.Machine.{Call, place}
use Rattle.calls.specs.Engine.{engine}
use Rattle.agreement_check.specs.Checking.{listed}
use Rattle.agreement_example.proofs.laws.Computing.{checks}
use Rattle.agreement_check.proofs.laws.Example.{passes_at, passes_at_lem}
use Rattle.agreement_check.proofs.laws.Tracking.{AllSized}
use Rattle.agreement_check.proofs.laws.Tracks.{listed_honest}
use Rattle.agreement_example.specs.Messages.{input_five}
use Rattle.agreement_example.specs.Four.{session, first_three}
use Rattle.agreement_example.specs.Weighted.{first_two, turns, to_both, from_both}
use Rattle.agreement_example.specs.Unopened.{openings, from_three, in_each, until_sends, unopened_calls, UnopenedMeet}

unfoldable no_call_at : ℕ → List (Call engine) → Bool
no_call_at p [] = true
no_call_at p (c ∷ cs) = not (eqb (place engine c) p) && no_call_at p cs

no_call : (p : ℕ) {c : Call engine} {ds cs : List (Call engine)} → Within (c ∷ ds) cs → no_call_at p cs ≡ true → place engine c ≢ p
unfolding no_call_at
no_call p {c = c} now e = eqb-false (place engine c) p (not-true _ (and_left (not (eqb (place engine c) p)) _ e))
no_call p (after d w) e = no_call p w (and_right (not (eqb (place engine d) p)) _ e)

unopened_pass : passes_at session first_three input_five first_two 1 (5 ∷ []) unopened_calls ≡ true
unfolding calls checks turns to_both from_both openings from_three in_each until_sends unopened_calls
unopened_pass = refl

unopened_sized : AllSized unopened_calls
unfolding checks turns to_both from_both openings from_three in_each until_sends unopened_calls
unopened_sized = tt

none_at_three : no_call_at 3 unopened_calls ≡ true
unfolding no_call_at checks turns to_both from_both openings from_three in_each until_sends unopened_calls
none_at_three = refl

pub unopened_meet : UnopenedMeet
unfolding calls listed
unopened_meet start room =
    let x = passes_at_lem start session first_three input_five unopened_calls room unopened_sized 1 (5 ∷ []) first_two unopened_pass in
    record {
      few_ta = leb-true _ _ refl;
      supposed = x.supposed;
      honest = listed_honest start session first_three input_five 3 refl;
      uncalled = λ c ds w. no_call 3 w none_at_three;
      first = x.shown 1 (listed_honest start session first_three input_five 1 refl) refl;
      second = x.shown 2 (listed_honest start session first_three input_five 2 refl) refl;
    }
