-- The answer of a restore as one number of 64 bits: bits 0 to 7 are the number of the refusal, 0 where the journal is taken.
use Rattle.std.specs.Prelude.{ℕ, ◌+◌, ◌*◌, ◌%◌, ◌^◌, cond, ltb, Result, Ok, Err}
use Rattle.settings.specs.declared.refusal.Refusal.TheVariants as refusal
use Rattle.restore.specs.declared.Restored.{Restored}
use Rattle.restore.specs.declared.RestoreError.{RestoreError}
use Rattle.restore.specs.declared.RestoreError.TheVariants as failed
use Rattle.settings.specs.Refusals.{number_of}

-- beside 15, bits 8 to 63: the number of the line. Else bits 8 to 15: 1 where a message is given again; 16 to 31: its length;
-- 32 to 63: the bytes of the journal up to the end of its last complete line. Both counts are cut to their bits.
abbrev pub restored_number : Result Restored RestoreError → ℕ
restored_number (Err (failed.Lent k)) = number_of k
restored_number (Err (failed.Line line)) = number_of refusal.Journal + 2 ^ 8 * (line % 2 ^ 56)
restored_number (Ok r) = 2 ^ 8 * cond (ltb 0 r.message) 1 0 + 2 ^ 16 * r.message + 2 ^ 32 * (r.bytes % 2 ^ 32)
