-- The answer of the coin box to a request as one number of 64 bits: bits 0 to 7 are the number of the refusal, 0 where there is none.
use Rattle.std.specs.Prelude.{ℕ, ◌+◌, ◌*◌, ◌^◌, Bool, true, false, Option, Some, None, Result, Ok, Err}
use Rattle.settings.specs.declared.refusal.Refusal.{Refusal}
use Rattle.settings.specs.Refusals.{number_of}

abbrev pub bit_value : Bool → ℕ
bit_value true = 1
bit_value false = 0

-- bits 8 to 15: 0 while the coin is sealed, else 1; 16 to 23: its bit
abbrev pub reply_number : Result (Option Bool) Refusal → ℕ
reply_number (Err k) = number_of k
reply_number (Ok None) = 2 ^ 8 * 0
reply_number (Ok (Some b)) = 2 ^ 8 * 1 + 2 ^ 16 * bit_value b
