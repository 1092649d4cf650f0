-- The number of a conversion's answer: what stands above bit 7 is cut to 56 bits.
use Rattle.std.specs.Prelude.{ℕ, ◌+◌, ◌*◌, ◌%◌, List, ◌≡◌, Result, Ok, Err}
use Rattle.std.proofs.Common.{ap, ◌∙◌}
use Rattle.delivery_csv.specs.Fields.{Outcome}
use Rattle.delivery_csv.specs.Converting.{conversion}
use Rattle.delivery_csv.specs.declared.ConversionError.{ConversionError}
use Rattle.delivery_csv.specs.declared.ConversionError.TheVariants as csv
use Rattle.cabi.specs.Conversions.{conversion_number}
use Rattle.settings.specs.declared.refusal.Refusal.TheVariants as refusal
use Rattle.settings.specs.Refusals.{number_of}

module _ (x : Result ℕ ConversionError) where
  pub record_number_lem : (d : ConversionError) (n k : ℕ) → x ≡ Err d → d ≡ csv.Record n → k ≡ number_of refusal.Record → k + 256 * (n % 72057594037927936) ≡ conversion_number x
  record_number_lem d n k e f g = rw (e, f, g)

  pub written_number : (n : ℕ) → x ≡ Ok n → 256 * (n % 72057594037927936) ≡ conversion_number x
  written_number n e = rw e

pub ruleset conversion_cases = (record_number_lem, written_number)

pub conversion_number_lem : (o : Outcome (List ℕ)) (room : ℕ) (x : Result ℕ ConversionError) (r : ℕ) → x ≡ conversion o room → r ≡ conversion_number x → r ≡ conversion_number (conversion o room)
conversion_number_lem o room x r e f = f ∙ ap conversion_number e
