-- The answer of a conversion as one number of 64 bits: bits 0 to 7 are the number of the refusal, 0 where there is none.
use Rattle.std.specs.Prelude.{ℕ, ◌+◌, ◌*◌, ◌%◌, ◌^◌, Result, Ok, Err}
use Rattle.settings.specs.declared.refusal.Refusal.TheVariants as refusal
use Rattle.settings.specs.Refusals.{number_of}
use Rattle.delivery_csv.specs.declared.ConversionError.{ConversionError}
use Rattle.delivery_csv.specs.declared.ConversionError.TheVariants as csv

-- bits 8 to 63: the bytes that were written, beside 13 the number of the record or line; both are cut to their bits
abbrev pub conversion_number : Result ℕ ConversionError → ℕ
conversion_number (Err (csv.Record n)) = number_of refusal.Record + 2 ^ 8 * (n % 2 ^ 56)
conversion_number (Err csv.Short) = number_of refusal.Short
conversion_number (Ok n) = 2 ^ 8 * (n % 2 ^ 56)
