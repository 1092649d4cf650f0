-- The lists of specs/LowTa.antt and specs/UnnamedTa.antt, computed.
use Rattle.std.specs.Prelude.{ℕ, ◌<◌, true, List, [], ◌∷◌, ◌≡◌, refl, Some}
use Rattle.std.proofs.Common.{ap, ◌∙◌, arith}
use Rattle.broadcasts.specs.Broadcasts.{output}
use Rattle.turn_bound.proofs.laws.Computing.{calls}
use Rattle.agreement.specs.Evidence.{liars}
use Rattle.calls.specs.Machine.{Call}
use Rattle.agreement.proofs.laws.Worlds.{world}
use Rattle.calls.specs.Engine.{engine, Agreed}
use Rattle.agreement_example.proofs.laws.Computing.{checks}
use Rattle.agreement_check.specs.Checking.{is_opened, words_of, run}
use Rattle.agreement_check.specs.Example.{FromAny}
use Rattle.agreement_check.proofs.laws.Example.{passes_at, passes_at_lem}
use Rattle.agreement_check.proofs.laws.Tracking.{AllSized}
use Rattle.agreement_example.specs.Messages.{input_five}
use Rattle.agreement_example.specs.Weighted.{first_two, turns, to_both, from_both}
use Rattle.agreement_example.specs.LowTa.{session, openings, equivocated, in_each, closing, low_ta_calls, OverTa, LowTaMeet}
use Rattle.agreement_example.specs.UnnamedTa as unnamed

-- what is computed of a list
record Computed (S : Agreed) (cs : List (Call engine)) : Type 0 where
  over : S.settings.ta < liars (world engine S first_two)
  sized : AllSized cs
  pass : passes_at S first_two input_five first_two 1 (5 ∷ []) cs ≡ true
  first : is_opened (run S first_two input_five cs).states 1 ≡ true
  second : is_opened (run S first_two input_five cs).states 2 ≡ true
  at_first : output S.settings (words_of (run S first_two input_five cs).states 1) 3 ≡ Some 6
  at_second : output S.settings (words_of (run S first_two input_five cs).states 2) 3 ≡ Some 8

over_ta : (S : Agreed) (cs : List (Call engine)) → Computed S cs → FromAny S first_two (λ start. OverTa start S cs)
over_ta S cs c start room =
    let x = passes_at_lem start S first_two input_five cs room c.sized 1 (5 ∷ []) first_two c.pass in
    record {
      over = c.over;
      supposed = x.supposed;
      shown = λ p h. x.shown p h h.fair;
      at_first = ap (λ (w : List ℕ). output S.settings w 3) (x.tracks.equal 1 c.first) ∙ c.at_first;
      at_second = ap (λ (w : List ℕ). output S.settings w 3) (x.tracks.equal 2 c.second) ∙ c.at_second;
    }

low_computed : Computed session low_ta_calls
unfolding calls checks turns to_both from_both openings equivocated in_each closing low_ta_calls
low_computed = record { over = omega arith; sized = tt; pass = refl; first = refl; second = refl; at_first = refl; at_second = refl }

pub low_ta_meet : LowTaMeet
low_ta_meet = over_ta session low_ta_calls low_computed

unnamed_computed : Computed unnamed.session unnamed.unnamed_calls
unfolding calls checks turns to_both from_both unnamed.openings equivocated in_each closing unnamed.unnamed_calls
unnamed_computed = record { over = omega arith; sized = tt; pass = refl; first = refl; second = refl; at_first = refl; at_second = refl }

pub unnamed_meet : unnamed.UnnamedMeet
unnamed_meet = over_ta unnamed.session unnamed.unnamed_calls unnamed_computed
