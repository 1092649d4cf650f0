-- A refusal leaves all lent words and bytes as they were.
use Rattle.std.specs.Prelude.{ℕ, Bool, true, false, cond, List, ◌≡◌, refl, ltb, length, Some, None, Result, Ok, Err}
use Rattle.std.proofs.lemmas.Bool.{false≢true}
use Rattle.std.proofs.Common.{sym, ◌∙◌, arith}
use Rattle.settings.specs.declared.refusal.Refusal.TheVariants as refusal
use Rattle.records.specs.Records.{coin}
use Rattle.records.specs.Words.{set_mark}
use Rattle.wire.specs.Message.{at_front}
use Rattle.opening.specs.Given.{weights_word}
use Rattle.opening.specs.Opening.{open_answer, opened}
use Rattle.coin_box.specs.Box.{requests_at, asks, unsealed, box_open_answer, box_open_words, box_opened, request_reply, request_words}
use Rattle.delivery.specs.laws.Answers.{answer_refused}
use Rattle.delivery.specs.Delivery.{deliver_answer, delivered}
use Rattle.recording.specs.Recording.{record_answer, recorded_words}
use Rattle.turn.specs.Due.{due}
use Rattle.turn.specs.Turn.{outcome_of, taking, admits, turn_outcome, turn_words, turn_bytes}
use Rattle.turn.specs.declared.Outcome.{Outcome}
use Rattle.turn.specs.declared.Outcome.TheVariants as turn
use Rattle.journal.specs.Journal.{line_bytes, line_entry, open_line_answer, open_entry, opened_words, opened_bytes, turn_room, acts, turned_message, turned_line}
use Rattle.journal.specs.Journal.{deliver_line_answer, deliver_entry, delivered_words, delivered_bytes, record_line_answer, record_entry, record_words, record_bytes}
use Rattle.journal.specs.Lines.{turn_line}
use Rattle.journal.specs.laws.Journal.{line_stays}
use Rattle.report.specs.Report.{giving, report_answer, report_named, report_in_force}
use Rattle.report.specs.Report as reporting
use Rattle.settings.specs.declared.Settings.{Settings}
use Rattle.restore.specs.Complete.{lines_of, joined}
use Rattle.restore.specs.Restoring.{Replay, wrong, right, replay, replay_answer, replay_words, replay_bytes, lent_answer, where_lent, restore_answer, restored_words, restored_bytes}
use Rattle.delivery_csv.specs.Fields as csv
use Rattle.delivery_csv.specs.Converting.{drill_of_csv, csv_of_drill, conversion, bytes_after}
use Rattle.cabi.specs.Answers.{taken_number, entry_number, outcome_number}
use Rattle.delivery_csv.specs.declared.ConversionError.TheVariants as converted
use Rattle.cabi.specs.Restored.{restored_number}
use Rattle.cabi.specs.Replies.{reply_number}
use Rattle.cabi.specs.Conversions.{conversion_number}
use Rattle.call_laws.specs.Parts.{Refused}
use Rattle.call_laws.specs.Keeping.{OpeningKeeps, DeliveryKeeps, RecordingKeeps, TurnKeeps, ReportKeeps, RestoreKeeps, BoxOpeningKeeps, RequestKeeps, ConversionKeeps, RefusalsKeep}
use Rattle.session.specs.declared.Session.{Session}
use Rattle.settings.specs.declared.refusal.Refusal.{Refusal}
use Rattle.settings.specs.laws.Answers.{taken_true}
use Rattle.std.specs.Result.{is_ok}

-- ---- calls with a line

-- a number in which C reads a refusal is that of a call that is refused, and then no line is written
line_refused : (a : Result (Unit {0}) Refusal) (line lent : List ℕ) → Refused (entry_number (line_entry a line)) → (is_ok a ≡ false) × (line_bytes a line lent ≡ lent)
unfolding line_entry line_bytes
line_refused (Ok tt) line lent h = absurd (h (omega arith))
line_refused (Err k) line lent h = (refl, refl)

if_refused : (a : Result (Unit {0}) Refusal) (after before : List ℕ) → is_ok a ≡ false → cond (is_ok a) after before ≡ before
if_refused a after before e = rw e

opening_keeps : OpeningKeeps
unfolding open_entry opened_words opened_bytes open_line_answer opened
opening_keeps s o line h =
    let r = line_refused _ _ line h in
    (line_stays _ (length line) s _ r.0 (if_refused (open_answer (length s) o) _ s), r.1)

-- a delivery that is refused leaves the words
deliver_stays : (s : List ℕ) (link : ℕ) (b : List ℕ) → is_ok (deliver_answer s link b) ≡ false → delivered s link b ≡ s
deliver_stays s link b e = answer_refused s link b (λ t. false≢true (sym e ∙ taken_true (deliver_answer s link b) t))

delivery_keeps : DeliveryKeeps
unfolding deliver_entry delivered_words delivered_bytes deliver_line_answer
delivery_keeps s link message line h =
    let r = line_refused _ _ line h in
    (line_stays _ (length line) s _ r.0 (deliver_stays s link message), r.1)

recording_keeps : RecordingKeeps
unfolding record_entry record_words record_bytes record_line_answer recorded_words
recording_keeps s vote round bit line h =
    let r = line_refused _ _ line h in
    (line_stays _ (length line) s _ r.0 (if_refused (record_answer s vote round bit) _ s), r.1)

-- ---- turn

-- C reads no refusal where a turn is admitted
no_refusal : (o : Outcome) → Refused (outcome_number (Ok o)) → ⊥
no_refusal turn.Idle h = h refl
no_refusal (turn.Sent m) h = h (omega arith)
no_refusal turn.MovedOut h = h refl
no_refusal turn.InForce h = h refl

turn_keeps : TurnKeeps
unfolding turn_outcome turn_words turn_room turned_message turned_line turn_bytes taking
turn_keeps s message line h = go (ltb (length line) 512) (admits s (cond (ltb (length line) 512) 0 (length message))) refl h
  where
    bytes : (b : Bool) (k : Refusal) → admits s (cond b 0 (length message)) ≡ Err k → cond b message (turn_bytes s message) ≡ message
    bytes true k e = refl
    bytes false k e = rw e

    go : (b : Bool) (v : Result Session Refusal) → admits s (cond b 0 (length message)) ≡ v → Refused (outcome_number (turn_outcome s (cond b 0 (length message)))) →
        (turn_words s (cond b 0 (length message)) ≡ s) × (cond b message (turn_bytes s message) ≡ message) × (cond (acts (turn_outcome s (cond b 0 (length message)))) (at_front turn_line line) line ≡ line)
    go b (Err k) e r = (rw e, bytes b k e, rw e)
    go b (Ok x) e r = absurd (no_refusal (outcome_of x.own s (due x.settings s)) (rw e at r))

-- ---- report

report_keeps : ReportKeeps
unfolding giving report_answer report_named report_in_force
report_keeps s named set_in_force h = go (reporting.admits s (length named) (length set_in_force)) refl
  where
    go : (v : Result Settings Refusal) → reporting.admits s (length named) (length set_in_force) ≡ v → (report_named s named (length set_in_force) ≡ named) × (report_in_force s (length named) set_in_force ≡ set_in_force)
    go (Err k) e = (rw e, rw e)
    go (Ok g) e = absurd ((rw e at h) (omega arith))

-- ---- restore

restore_keeps : RestoreKeeps
unfolding restore_answer restored_words restored_bytes replay_answer replay_words replay_bytes
restore_keeps s journal message h = go (lent_answer (length s) (length message)) (replay (lines_of journal)) h
  where
    go : (a : Result (Unit {0}) Refusal) (x : Replay) → Refused (restored_number (where_lent a (replay_answer x (length (joined (lines_of journal)))))) →
        (cond (is_ok a) (replay_words x s) s ≡ s) × (cond (is_ok a) (replay_bytes x message) message ≡ message)
    go (Ok tt) (wrong k) r = (refl, refl)
    go (Ok tt) (right x) r = absurd (r (omega arith))
    go (Err k) x r = (refl, refl)

-- ---- the coin box

box_opening_keeps : BoxOpeningKeeps
unfolding box_opened
box_opening_keeps s n ta ts coins weights h = go (box_open_answer (length s) n ta ts (weights_word n weights) (length coins)) h
  where
    go : (a : Result (Unit {0}) Refusal) → Refused (taken_number a) → cond (is_ok a) (box_open_words n ta ts (weights_word n weights) coins) s ≡ s
    go (Ok tt) r = absurd (r refl)
    go (Err k) r = refl

request_keeps : RequestKeeps
unfolding request_reply request_words
request_keeps s requester vote round h = go (asks s requester vote round) (unsealed (request_words s requester vote round) vote round) h
  where
    go : (a b : Bool) → Refused (reply_number (cond a (cond b (Ok (Some (coin s vote round))) (Ok None)) (Err refusal.Coin))) →
        cond a (set_mark s (requests_at vote round) requester) s ≡ s
    go true true r = absurd (r (omega arith))
    go true false r = absurd (r refl)
    go false b r = refl

-- ---- conversions

conversion_keeps : (convert : List ℕ → csv.Outcome (List ℕ)) → ConversionKeeps convert
unfolding conversion bytes_after
conversion_keeps convert text lent = go (convert text)
  where
    fits : (b : Bool) (n : ℕ) (after : List ℕ) → Refused (conversion_number (cond b (Err converted.Short) (Ok n))) → cond b lent after ≡ lent
    fits true n after r = refl
    fits false n after r = absurd (r (omega arith))

    go : (x : csv.Outcome (List ℕ)) → Refused (conversion_number (conversion x (length lent))) → bytes_after x lent ≡ lent
    go (csv.bad n) r = refl
    go (csv.good t) r = fits (ltb (length lent) (length t)) (length t) _ r

pub refusals_keep : RefusalsKeep
refusals_keep =
    record {
      opening = opening_keeps;
      delivery = delivery_keeps;
      recording = recording_keeps;
      turn = turn_keeps;
      report = report_keeps;
      restore = restore_keeps;
      box_opening = box_opening_keeps;
      request = request_keeps;
      csv_to_drill = conversion_keeps drill_of_csv;
      drill_to_csv = conversion_keeps csv_of_drill;
    }
