-- What C reads of the number that a call answers is what the call answered, part by part, for every answer that it can give.
use Rattle.std.specs.Prelude.{ℕ, ◌≤◌, ◌<◌, ◌^◌, ◌/◌, Bool, true, false, cond, List, ◌≡◌, ltb, length, Option, Some, None, Result, Ok, Err}
use Rattle.settings.specs.declared.refusal.Refusal.{Refusal}
use Rattle.settings.specs.declared.refusal.Refusal.TheVariants as refusal
use Rattle.settings.specs.Refusals.{number_of}
use Rattle.opening.specs.Given.{weights_word}
use Rattle.opening.specs.Arguments.{Arguments}
use Rattle.wire.specs.Message as wire
use Rattle.turn.specs.Turn.{turn_outcome}
use Rattle.turn.specs.declared.Outcome.{Outcome}
use Rattle.turn.specs.declared.Outcome.TheVariants as turn
use Rattle.journal.specs.Journal.{open_entry, deliver_entry, record_entry}
use Rattle.restore.specs.Restoring.{restore_answer}
use Rattle.restore.specs.declared.Restored.{Restored}
use Rattle.restore.specs.declared.RestoreError.{RestoreError}
use Rattle.restore.specs.declared.RestoreError.TheVariants as failed
use Rattle.report.specs.Report.{report_answer}
use Rattle.report.specs.declared.Figures.{Figures}
use Rattle.coin_box.specs.Box.{box_open_answer, request_reply}
use Rattle.calendar.specs.Calendar.{start_of}
use Rattle.delivery_csv.specs.Converting.{drill_of_csv, csv_of_drill, conversion}
use Rattle.cabi.specs.Answers.{taken_number, entry_number, outcome_number, report_number}
use Rattle.delivery_csv.specs.declared.ConversionError.{ConversionError}
use Rattle.delivery_csv.specs.declared.ConversionError.TheVariants as csv
use Rattle.cabi.specs.Restored.{restored_number}
use Rattle.cabi.specs.Replies.{reply_number}
use Rattle.cabi.specs.Starts.{start_number}
use Rattle.cabi.specs.Conversions.{conversion_number}
use Rattle.call_laws.specs.Parts.{refusal_of, outcome_of, exit_of, told_of, length_of, named_of, bit_of, in_force_of, turns_of, complete_of, line_of, minute_of, record_of, written_of}

-- the number r is read as the refusal k, and as nothing else
pub record Refuses (r : ℕ) (k : Refusal) : Type 0 where
  pub numbered : 1 ≤ number_of k
  pub read : refusal_of r ≡ number_of k
  pub alone : r / 2 ^ 8 ≡ 0

-- as a line of l bytes
pub record Line (r l : ℕ) : Type 0 where
  pub accepted : refusal_of r ≡ 0
  pub length : length_of r ≡ l

-- as a turn with outcome o, 0 to 3, that sends a message of l bytes
pub record Turned (r o l : ℕ) : Type 0 where
  pub accepted : refusal_of r ≡ 0
  pub outcome : outcome_of r ≡ o
  pub length : length_of r ≡ l

-- as the figures f
pub record Given (r : ℕ) (f : Figures) : Type 0 where
  pub accepted : refusal_of r ≡ 0
  pub exit : exit_of r ≡ f.exit
  pub named : named_of r ≡ f.named
  pub by_in_force : in_force_of r ≡ f.in_force
  pub turns : turns_of r ≡ f.turns

-- as a restore that gives a message of l bytes again, 0 for none, from a journal of `size` bytes, k of them in complete lines
pub record Restores (size r l k : ℕ) : Type 0 where
  pub accepted : refusal_of r ≡ 0
  pub again : outcome_of r ≡ cond (ltb 0 l) 1 0
  pub length : length_of r ≡ l
  pub complete : size < 2 ^ 32 → complete_of r ≡ k

-- as line k of such a journal, which cannot be applied
pub record Stops (size r k : ℕ) : Type 0 where
  pub refused : refusal_of r ≡ number_of refusal.Journal
  pub line : size < 2 ^ 56 → line_of r ≡ k

-- as a coin that is sealed, t = 0, or told, t = 1, and is the bit b
pub record Told (r t b : ℕ) : Type 0 where
  pub accepted : refusal_of r ≡ 0
  pub told : told_of r ≡ t
  pub bit : bit_of r ≡ b

-- as a start in minute m
pub record Starts (r m : ℕ) : Type 0 where
  pub accepted : refusal_of r ≡ 0
  pub minute : minute_of r ≡ m

-- as n bytes that a conversion wrote into `size` lent ones
pub record Writes (size r n : ℕ) : Type 0 where
  pub accepted : refusal_of r ≡ 0
  pub written : size < 2 ^ 56 → written_of r ≡ n

-- as record or line k of a text of `size` bytes, which is not taken
pub record NotTaken (size r k : ℕ) : Type 0 where
  pub refused : refusal_of r ≡ number_of refusal.Record
  pub number : size < 2 ^ 56 → record_of r ≡ k

-- ---- the number r is read as an answer

abbrev pub EntryAs : ℕ → Result ℕ Refusal → Type 0
EntryAs r (Err k) = Refuses r k
EntryAs r (Ok l) = Line r l

abbrev pub OutcomeAs : ℕ → Result Outcome Refusal → Type 0
OutcomeAs r (Err k) = Refuses r k
OutcomeAs r (Ok turn.Idle) = Turned r 0 0
OutcomeAs r (Ok (turn.Sent m)) = Turned r 1 (wire.length_of m)
OutcomeAs r (Ok turn.MovedOut) = Turned r 2 0
OutcomeAs r (Ok turn.InForce) = Turned r 3 0

abbrev pub ReportAs : ℕ → Result Figures Refusal → Type 0
ReportAs r (Err k) = Refuses r k
ReportAs r (Ok f) = Given r f

abbrev pub RestoredAs : ℕ → ℕ → Result Restored RestoreError → Type 0
RestoredAs size r (Err (failed.Lent k)) = Refuses r k
RestoredAs size r (Err (failed.Line line)) = Stops size r line
RestoredAs size r (Ok x) = Restores size r x.message x.bytes

abbrev pub ReplyAs : ℕ → Result (Option Bool) Refusal → Type 0
ReplyAs r (Err k) = Refuses r k
ReplyAs r (Ok None) = Told r 0 0
ReplyAs r (Ok (Some true)) = Told r 1 1
ReplyAs r (Ok (Some false)) = Told r 1 0

abbrev pub StartAs : ℕ → Result ℕ Refusal → Type 0
StartAs r (Err k) = Refuses r k
StartAs r (Ok m) = Starts r m

-- a text of `text` bytes into `lent` ones
abbrev pub ConversionAs : (text lent : ℕ) → ℕ → Result ℕ ConversionError → Type 0
ConversionAs text lent r (Err (csv.Record k)) = NotTaken text r k
ConversionAs text lent r (Err csv.Short) = Refuses r refusal.Short
ConversionAs text lent r (Ok n) = Writes lent r n

-- ---- the number of an answer is read as that answer

abbrev pub EntryBack : Result ℕ Refusal → Type 0
EntryBack e = EntryAs (entry_number e) e

abbrev pub OutcomeBack : Result Outcome Refusal → Type 0
OutcomeBack o = OutcomeAs (outcome_number o) o

abbrev pub ReportBack : Result Figures Refusal → Type 0
ReportBack a = ReportAs (report_number a) a

abbrev pub RestoredBack : ℕ → Result Restored RestoreError → Type 0
RestoredBack size a = RestoredAs size (restored_number a) a

abbrev pub ReplyBack : Result (Option Bool) Refusal → Type 0
ReplyBack x = ReplyAs (reply_number x) x

abbrev pub StartBack : Result ℕ Refusal → Type 0
StartBack x = StartAs (start_number x) x

abbrev pub ConversionBack : (text lent : ℕ) → Result ℕ ConversionError → Type 0
ConversionBack text lent x = ConversionAs text lent (conversion_number x) x

-- opening a box answers 0 or its refusal
abbrev pub NumberBack : ℕ → Type 0
NumberBack k = (refusal_of k ≡ k) × (k / 2 ^ 8 ≡ 0)

-- every answer that a call can give
pub record AnswersReadBack : Type 0 where
  pub opening : (words : ℕ) (o : Arguments) (room : ℕ) → EntryBack (open_entry words o room)
  pub delivery : (s : List ℕ) (link : ℕ) (message : List ℕ) (room : ℕ) → EntryBack (deliver_entry s link message room)
  pub recording : (s : List ℕ) (vote round bit room : ℕ) → EntryBack (record_entry s vote round bit room)
  pub turn : (s : List ℕ) (room : ℕ) → OutcomeBack (turn_outcome s room)
  pub report : (s : List ℕ) (named set_in_force : ℕ) → ReportBack (report_answer s named set_in_force)
  pub restore : (s journal : List ℕ) (room : ℕ) → RestoredBack (length journal) (restore_answer s journal room)
  pub box_opening : (words n ta ts : ℕ) (weights : List ℕ) (coins : ℕ) → NumberBack (taken_number (box_open_answer words n ta ts (weights_word n weights) coins))
  pub request : (s : List ℕ) (requester vote round : ℕ) → ReplyBack (request_reply s requester vote round)
  pub start : (windows : List ℕ) (closing lead : ℕ) → StartBack (start_of windows closing lead)
  pub csv_to_drill : (text : List ℕ) (lent : ℕ) → ConversionBack (length text) lent (conversion (drill_of_csv text) lent)
  pub drill_to_csv : (text : List ℕ) (lent : ℕ) → ConversionBack (length text) lent (conversion (csv_of_drill text) lent)
