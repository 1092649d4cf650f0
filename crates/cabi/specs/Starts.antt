-- The answer of the calendar as one number of 64 bits: bits 0 to 7 are the number of the refusal, 0 where there is none.
use Rattle.std.specs.Prelude.{ℕ, ◌*◌, ◌^◌, Result, Ok, Err}
use Rattle.settings.specs.declared.refusal.Refusal.{Refusal}
use Rattle.settings.specs.Refusals.{number_of}

-- bits 32 to 63: the minute
abbrev pub start_number : Result ℕ Refusal → ℕ
start_number (Err k) = number_of k
start_number (Ok m) = 2 ^ 32 * m
