-- The answers of opening, delivery, recording, turn and report as one number of 64 bits. Bits 0 to 7 are the number of the refusal, 0 where the
-- call is accepted; on a refusal the others are 0.
use Rattle.std.specs.Prelude.{ℕ, ◌+◌, ◌*◌, ◌^◌, Result, Ok, Err}
use Rattle.wire.specs.Message.{length_of}
use Rattle.turn.specs.declared.Outcome.{Outcome}
use Rattle.turn.specs.declared.Outcome.TheVariants as turn
use Rattle.report.specs.declared.Figures.{Figures}
use Rattle.settings.specs.declared.refusal.Refusal.{Refusal}
use Rattle.settings.specs.Refusals.{number_of}

-- the opening of a coin box, which has nothing beside
abbrev pub taken_number : Result (Unit {0}) Refusal → ℕ
taken_number (Err k) = number_of k
taken_number (Ok tt) = 0

-- opening, delivery and recording; bits 16 to 31: the length of the line
abbrev pub entry_number : Result ℕ Refusal → ℕ
entry_number (Err k) = number_of k
entry_number (Ok l) = 2 ^ 16 * l

-- bits 8 to 15: the outcome, 0 idle, 1 sent, 2 moved out of round 32, 3 in force; 16 to 31: the length of the message
abbrev pub outcome_number : Result Outcome Refusal → ℕ
outcome_number (Err k) = number_of k
outcome_number (Ok turn.Idle) = 2 ^ 8 * 0
outcome_number (Ok (turn.Sent m)) = 2 ^ 8 * 1 + 2 ^ 16 * length_of m
outcome_number (Ok turn.MovedOut) = 2 ^ 8 * 2
outcome_number (Ok turn.InForce) = 2 ^ 8 * 3

-- bits 8 to 15: the exit, 0 for none; 16 to 23: how many values it names; 24 to 31: how many values are in force, 0 for none;
-- 32 to 63: the turn count
abbrev pub figures_number : Figures → ℕ
figures_number f = 2 ^ 8 * f.exit + 2 ^ 16 * f.named + 2 ^ 24 * f.in_force + 2 ^ 32 * f.turns

abbrev pub report_number : Result Figures Refusal → ℕ
report_number (Err k) = number_of k
report_number (Ok f) = figures_number f
