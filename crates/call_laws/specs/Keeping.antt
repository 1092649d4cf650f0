-- A refusal leaves all lent words and bytes as they were. Answers, words and bytes are those that the contracts of the C functions state
-- (cabi/src/lib.rt); a call is refused where C reads a refusal in its number.
use Rattle.std.specs.Prelude.{ℕ, List, ◌≡◌, length}
use Rattle.opening.specs.Given.{weights_word}
use Rattle.opening.specs.Arguments.{Arguments}
use Rattle.coin_box.specs.Box.{box_open_answer, box_opened, request_reply, request_words}
use Rattle.turn.specs.Turn.{turn_outcome, turn_words}
use Rattle.journal.specs.Journal.{open_entry, opened_words, opened_bytes, deliver_entry, delivered_words, delivered_bytes, record_entry, record_words, record_bytes, turn_room, turned_message, turned_line}
use Rattle.restore.specs.Restoring.{restore_answer, restored_words, restored_bytes}
use Rattle.delivery_csv.specs.Fields.{Outcome}
use Rattle.delivery_csv.specs.Converting.{drill_of_csv, csv_of_drill, conversion, bytes_after}
use Rattle.report.specs.Report.{report_answer, report_named, report_in_force}
use Rattle.cabi.specs.Answers.{taken_number, entry_number, outcome_number, report_number}
use Rattle.cabi.specs.Restored.{restored_number}
use Rattle.cabi.specs.Replies.{reply_number}
use Rattle.cabi.specs.Conversions.{conversion_number}
use Rattle.call_laws.specs.Parts.{Refused}

abbrev pub OpeningKeeps : Type 0
OpeningKeeps =
    (s : List ℕ) (o : Arguments) (line : List ℕ) → Refused (entry_number (open_entry (length s) o (length line))) →
    (opened_words s o (length line) ≡ s) × (opened_bytes (length s) o line ≡ line)

abbrev pub DeliveryKeeps : Type 0
DeliveryKeeps =
    (s : List ℕ) (link : ℕ) (message line : List ℕ) → Refused (entry_number (deliver_entry s link message (length line))) →
    (delivered_words s link message (length line) ≡ s) × (delivered_bytes s link message line ≡ line)

abbrev pub RecordingKeeps : Type 0
RecordingKeeps =
    (s : List ℕ) (vote round bit : ℕ) (line : List ℕ) → Refused (entry_number (record_entry s vote round bit (length line))) →
    (record_words s vote round bit (length line) ≡ s) × (record_bytes s vote round bit line ≡ line)

abbrev pub TurnKeeps : Type 0
TurnKeeps =
    (s message line : List ℕ) → Refused (outcome_number (turn_outcome s (turn_room (length message) (length line)))) →
    (turn_words s (turn_room (length message) (length line)) ≡ s)
    × (turned_message s message (length line) ≡ message)
    × (turned_line s (length message) line ≡ line)

-- a report is lent its state to read only
abbrev pub ReportKeeps : Type 0
ReportKeeps =
    (s named set_in_force : List ℕ) → Refused (report_number (report_answer s (length named) (length set_in_force))) →
    (report_named s named (length set_in_force) ≡ named) × (report_in_force s (length named) set_in_force ≡ set_in_force)

abbrev pub RestoreKeeps : Type 0
RestoreKeeps =
    (s journal message : List ℕ) → Refused (restored_number (restore_answer s journal (length message))) →
    (restored_words s journal (length message) ≡ s) × (restored_bytes (length s) journal message ≡ message)

abbrev pub BoxOpeningKeeps : Type 0
BoxOpeningKeeps =
    (s : List ℕ) (n ta ts : ℕ) (coins weights : List ℕ) →
    Refused (taken_number (box_open_answer (length s) n ta ts (weights_word n weights) (length coins))) →
    box_opened s n ta ts (weights_word n weights) coins ≡ s

abbrev pub RequestKeeps : Type 0
RequestKeeps =
    (s : List ℕ) (requester vote round : ℕ) → Refused (reply_number (request_reply s requester vote round)) →
    request_words s requester vote round ≡ s

abbrev pub ConversionKeeps : (List ℕ → Outcome (List ℕ)) → Type 0
ConversionKeeps convert = (text lent : List ℕ) → Refused (conversion_number (conversion (convert text) (length lent))) → bytes_after (convert text) lent ≡ lent

pub record RefusalsKeep : Type 0 where
  pub opening : OpeningKeeps
  pub delivery : DeliveryKeeps
  pub recording : RecordingKeeps
  pub turn : TurnKeeps
  pub report : ReportKeeps
  pub restore : RestoreKeeps
  pub box_opening : BoxOpeningKeeps
  pub request : RequestKeeps
  pub csv_to_drill : ConversionKeeps drill_of_csv
  pub drill_to_csv : ConversionKeeps csv_of_drill
