-- What C reads of the number that a call answers: the bits that the functions at the end of include/pack_agreement.h take out of it.
use Rattle.std.specs.Prelude.{ℕ, ◌/◌, ◌%◌, ◌^◌, ◌≢◌}

-- pack_refusal_of: 0 where the call was accepted
abbrev pub refusal_of : ℕ → ℕ
refusal_of r = r % 2 ^ 8

abbrev pub Refused : ℕ → Type 0
Refused r = refusal_of r ≢ 0

-- pack_outcome_of; the same bits of a restore tell whether a message is given again
abbrev pub outcome_of : ℕ → ℕ
outcome_of r = r / 2 ^ 8 % 2 ^ 8

-- pack_exit_of
abbrev pub exit_of : ℕ → ℕ
exit_of r = r / 2 ^ 8 % 2 ^ 8

-- pack_told_of: whether this is not 0
abbrev pub told_of : ℕ → ℕ
told_of r = r / 2 ^ 8 % 2 ^ 8

-- pack_length_of
abbrev pub length_of : ℕ → ℕ
length_of r = r / 2 ^ 16 % 2 ^ 16

-- pack_named_of
abbrev pub named_of : ℕ → ℕ
named_of r = r / 2 ^ 16 % 2 ^ 8

-- pack_bit_of
abbrev pub bit_of : ℕ → ℕ
bit_of r = r / 2 ^ 16 % 2 ^ 8

-- pack_in_force_of
abbrev pub in_force_of : ℕ → ℕ
in_force_of r = r / 2 ^ 24 % 2 ^ 8

-- pack_turns_of
abbrev pub turns_of : ℕ → ℕ
turns_of r = r / 2 ^ 32

-- pack_complete_of
abbrev pub complete_of : ℕ → ℕ
complete_of r = r / 2 ^ 32 % 2 ^ 32

-- pack_line_of
abbrev pub line_of : ℕ → ℕ
line_of r = r / 2 ^ 8

-- pack_minute_of
abbrev pub minute_of : ℕ → ℕ
minute_of r = r / 2 ^ 32 % 2 ^ 32

-- pack_record_of
abbrev pub record_of : ℕ → ℕ
record_of r = r / 2 ^ 8

-- pack_written_of
abbrev pub written_of : ℕ → ℕ
written_of r = r / 2 ^ 8
