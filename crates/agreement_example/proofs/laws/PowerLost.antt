-- The list of specs/PowerLost.antt passes the test.
use Rattle.std.specs.Prelude.{ℕ, true, List, [], ◌∷◌, ◌≡◌, length}
use Rattle.std.proofs.Math.Path.{refl}
use Rattle.records.specs.Layout.{state_words}
use Rattle.agreement_check.proofs.laws.Example.{passes, passes_example}
use Rattle.agreement_check.proofs.laws.Refusals.{refusals}
use Rattle.agreement_check.proofs.laws.Tracking.{AllSized}
use Rattle.agreement_example.specs.Messages.{input_five}
use Rattle.agreement_example.specs.One.{session, everyone}
use Rattle.turn_bound.proofs.laws.Computing.{calls}
use Rattle.agreement_example.proofs.laws.Computing.{checks}
use Rattle.agreement_example.specs.PowerLost.{from, once_restored, twice_restored, lost_calls, LostMeets}

module _ (v w : List ℕ) where
  lost_passes : passes session everyone input_five 1 (5 ∷ []) (lost_calls v w) ≡ true
  unfolding calls checks from once_restored twice_restored lost_calls
  lost_passes = refl

  -- no opening, delivery or turn is refused
  pub lost_refusals : (refusals session everyone input_five (lost_calls v w)).list ≡ []
  unfolding calls checks from once_restored twice_restored lost_calls
  lost_refusals = refl

  lost_sized : length v ≡ state_words → length w ≡ state_words → AllSized (lost_calls v w)
  unfolding checks from once_restored twice_restored lost_calls
  lost_sized a b = (b, (a, tt))

pub lost_meets : LostMeets
lost_meets start room v w a b = passes_example start session everyone input_five (lost_calls v w) room (lost_sized v w a b) 1 (5 ∷ []) (lost_passes v w)
