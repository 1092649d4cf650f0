-- Each part of an answer is read back from its number.
use Rattle.std.specs.Prelude.{ℕ, ◌≤◌, ◌<◌, ◌-◌, ◌^◌, Bool, true, false, cond, List, ◌≡◌, refl, ltb, length, Some, None, Result, Ok, Err}
use Rattle.std.proofs.Common.{arith, mod-eq_of_lt, ltb-false}
use Rattle.settings.specs.declared.refusal.Refusal.{Refusal}
use Rattle.settings.specs.declared.refusal.Refusal.TheVariants as refusal
use Rattle.settings.specs.Refusals.{number_of}
use Rattle.records.specs.Records.{coin}
use Rattle.opening.specs.Given.{weights_word}
use Rattle.opening.specs.Arguments.{Arguments}
use Rattle.coin_box.specs.Box.{box_open_answer, asks, unsealed, request_words, request_reply}
use Rattle.calendar.specs.Calendar.{start_minute, start_of}
use Rattle.calendar.specs.Calendar as windows
use Rattle.calendar.specs.laws.First.{start_below}
use Rattle.turn.specs.Due.{due}
use Rattle.turn.specs.Turn.{sent_length, outcome_of, turn_outcome, taking, admits}
use Rattle.turn.specs.declared.Outcome.{Outcome}
use Rattle.turn.specs.declared.Outcome.TheVariants as turn
use Rattle.journal.specs.Journal.{line_entry, open_line_answer, open_entry, deliver_line_answer, deliver_entry, record_line_answer, record_entry}
use Rattle.report.specs.laws.Report.{reported}
use Rattle.report.specs.Report.{report_answer}
use Rattle.report.specs.declared.Figures.{Figures}
use Rattle.restore.specs.Complete.{lines_of, joined}
use Rattle.restore.specs.Restoring.{Replay, wrong, right, replay, length_again, replay_answer, lent_answer, where_lent, restore_answer}
use Rattle.restore.specs.declared.RestoreError.TheVariants as failed
use Rattle.delivery_csv.specs.Fields as csv
use Rattle.delivery_csv.specs.Converting.{drill_of_csv, csv_of_drill, conversion}
use Rattle.delivery_csv.specs.declared.ConversionError.TheVariants as converted
use Rattle.delivery_csv.specs.laws.Numbers as numbers
use Rattle.cabi.specs.laws.Cases.{line_length, open_few, deliver_few, record_few, sent_few, message_length, restore_few}
use Rattle.call_laws.specs.ReadBack.{Refuses, EntryBack, OutcomeBack, ReportBack, RestoredBack, ReplyBack, NumberBack, StartBack, ConversionBack, AnswersReadBack}
use Rattle.call_laws.proofs.laws.Figures.{Small, figures_small}
use Rattle.call_laws.proofs.laws.Journals.{complete_short, Among, journal_among}
use Rattle.session.specs.declared.Session.{Session}
use Rattle.cabi.specs.Answers.{taken_number}

-- the number of a refusal is 1 to 16
number_few : (k : Refusal) → (1 ≤ number_of k) × (number_of k ≤ 16)
number_few refusal.Settings = (omega arith, omega arith)
number_few refusal.Length = (omega arith, omega arith)
number_few refusal.Kind = (omega arith, omega arith)
number_few refusal.Session = (omega arith, omega arith)
number_few refusal.Sender = (omega arith, omega arith)
number_few refusal.Field = (omega arith, omega arith)
number_few refusal.Value = (omega arith, omega arith)
number_few refusal.Short = (omega arith, omega arith)
number_few refusal.NoState = (omega arith, omega arith)
number_few refusal.Closed = (omega arith, omega arith)
number_few refusal.Held = (omega arith, omega arith)
number_few refusal.Windows = (omega arith, omega arith)
number_few refusal.Record = (omega arith, omega arith)
number_few refusal.Journal = (omega arith, omega arith)
number_few refusal.Coin = (omega arith, omega arith)

-- .. and it is read as the refusal
refusal_back : (k : Refusal) → Refuses (number_of k) k
refusal_back k = let few = number_few k in record { numbered = few.0; read = omega (arith, few.1); alone = omega (arith, few.1) }

-- ---- opening, delivery, recording

entry_back : (a : Result (Unit {0}) Refusal) (line : List ℕ) → line_length (line_entry a line) ≤ 512 → EntryBack (line_entry a line)
unfolding line_entry
entry_back (Ok tt) line few = record { accepted = omega arith; length = omega arith }
entry_back (Err k) line few = refusal_back k

opening_back : (words : ℕ) (o : Arguments) (room : ℕ) → EntryBack (open_entry words o room)
unfolding open_entry open_line_answer
opening_back words o room = entry_back _ _ (open_few words o room _ refl)

delivery_back : (s : List ℕ) (link : ℕ) (message : List ℕ) (room : ℕ) → EntryBack (deliver_entry s link message room)
unfolding deliver_entry deliver_line_answer
delivery_back s link message room = entry_back _ _ (deliver_few s link message room _ refl)

recording_back : (s : List ℕ) (vote round bit room : ℕ) → EntryBack (record_entry s vote round bit room)
unfolding record_entry record_line_answer
recording_back s vote round bit room = entry_back _ _ (record_few s vote round bit room _ refl)

-- ---- turn

outcome_back : (o : Outcome) → sent_length (Ok o) ≤ 140 → OutcomeBack (Ok o)
outcome_back turn.Idle few = record { accepted = refl; outcome = refl; length = refl }
outcome_back (turn.Sent m) few = record { accepted = omega arith; outcome = omega arith; length = omega arith }
outcome_back turn.MovedOut few = record { accepted = refl; outcome = refl; length = refl }
outcome_back turn.InForce few = record { accepted = refl; outcome = refl; length = refl }

turn_back : (s : List ℕ) (room : ℕ) → OutcomeBack (turn_outcome s room)
unfolding taking turn_outcome
turn_back s room = of (admits s room) refl
  where
    of : (v : Result Session Refusal) → admits s room ≡ v → OutcomeBack (turn_outcome s room)
    of (Err k) e = rw e (refusal_back k)
    of (Ok x) e = rw e (outcome_back (outcome_of x.own s (due x.settings s)) (rw e at (sent_few s room)))

-- ---- report

figures_back : (f : Figures) → Small f → ReportBack (Ok f)
figures_back f h =
    let exit = h.exit in
    let named = h.named in
    let by_in_force = h.by_in_force in
    record { accepted = omega arith; exit = omega arith; named = omega arith; by_in_force = omega arith; turns = omega arith }

report_back : (s : List ℕ) (named set_in_force : ℕ) → ReportBack (report_answer s named set_in_force)
report_back s named set_in_force = go (report_answer s named set_in_force) refl
  where
    go : (a : Result Figures Refusal) → report_answer s named set_in_force ≡ a → ReportBack a
    go (Err k) e = refusal_back k
    go (Ok f) e = figures_back f (figures_small s f (reported s named set_in_force f e))

-- ---- restore

stops_back : (size k : ℕ) → (size < 2 ^ 56 → k < 2 ^ 56) → RestoredBack size (Err (failed.Line k))
stops_back size k h = record { refused = omega arith; line = λ l. omega (arith, mod-eq_of_lt (h l)) }

flag_small : (b : Bool) → cond b 1 0 ≤ 1
flag_small true = omega arith
flag_small false = omega arith

restores_back : (size l k : ℕ) → l ≤ 140 → k ≤ size → RestoredBack size (Ok (record { message = l; bytes = k }))
restores_back size l k few h =
    let flag = flag_small (ltb 0 l) in
    record {
      accepted = omega arith;
      again = omega arith;
      length = omega arith;
      complete = λ z. let small : k < 2 ^ 32 = omega arith in omega (arith, mod-eq_of_lt small);
    }

restore_back : (s journal : List ℕ) (room : ℕ) → RestoredBack (length journal) (restore_answer s journal room)
unfolding restore_answer replay_answer Among
restore_back s journal room =
    go (lent_answer (length s) room) (replay (lines_of journal)) (λ m. journal_among m journal) (restore_few s journal room _ refl)
  where
    go : (a : Result (Unit {0}) Refusal) (x : Replay) → ((m : ℕ) → 1 ≤ m → length journal ≤ m → Among m x) →
        message_length (where_lent a (replay_answer x (length (joined (lines_of journal))))) ≤ 140 →
        RestoredBack (length journal) (where_lent a (replay_answer x (length (joined (lines_of journal)))))
    go (Ok tt) (wrong k) among few = stops_back (length journal) k (λ l. omega (arith, among (2 ^ 56 - 1) (omega arith) (omega arith)))
    go (Ok tt) (right x) among few = restores_back (length journal) (length_again x.turned) (length (joined (lines_of journal))) few (complete_short journal)
    go (Err k) x among few = refusal_back k

-- ---- the coin box

box_opening_back : (words n ta ts : ℕ) (weights : List ℕ) (coins : ℕ) → NumberBack (taken_number (box_open_answer words n ta ts (weights_word n weights) coins))
box_opening_back words n ta ts weights coins = go (box_open_answer words n ta ts (weights_word n weights) coins)
  where
    go : (a : Result (Unit {0}) Refusal) → NumberBack (taken_number a)
    go (Ok tt) = (refl, refl)
    go (Err k) = let back = refusal_back k in (back.read, back.alone)

request_back : (s : List ℕ) (requester vote round : ℕ) → ReplyBack (request_reply s requester vote round)
unfolding request_reply
request_back s requester vote round = go (asks s requester vote round) (unsealed (request_words s requester vote round) vote round) (coin s vote round)
  where
    go : (a b c : Bool) → ReplyBack (cond a (cond b (Ok (Some c)) (Ok None)) (Err refusal.Coin))
    go true true true = record { accepted = refl; told = refl; bit = refl }
    go true true false = record { accepted = refl; told = refl; bit = refl }
    go true false c = record { accepted = refl; told = refl; bit = refl }
    go false b c = refusal_back refusal.Coin

-- ---- the calendar

start_back : (ws : List ℕ) (c l : ℕ) → StartBack (start_of ws c l)
unfolding start_of
start_back ws c l = go (windows.taken ws c l) refl
  where
    go : (b : Bool) → windows.taken ws c l ≡ b → StartBack (cond b (Ok (start_minute ws c l)) (Err refusal.Windows))
    go true t = let small = start_below ws c l t in record { accepted = omega arith; minute = omega (arith, small, mod-eq_of_lt small) }
    go false t = refusal_back refusal.Windows

-- ---- conversions

conversion_back : (text lent : ℕ) (x : csv.Outcome (List ℕ)) → numbers.Among text x → ConversionBack text lent (conversion x lent)
unfolding conversion numbers.Among
conversion_back text lent (csv.bad k) a =
    let few : k ≤ text = a in
    record { refused = omega arith; number = λ l. let small : k < 2 ^ 56 = omega arith in omega (arith, mod-eq_of_lt small) }
conversion_back text lent (csv.good t) a = go (ltb lent (length t)) refl
  where
    go : (b : Bool) → ltb lent (length t) ≡ b → ConversionBack text lent (cond b (Err converted.Short) (Ok (length t)))
    go true e = refusal_back refusal.Short
    go false e =
        let few : length t ≤ lent = ltb-false lent (length t) e in
        record { accepted = omega arith; written = λ l. let small : length t < 2 ^ 56 = omega arith in omega (arith, mod-eq_of_lt small) }

pub answers_read_back : AnswersReadBack
answers_read_back =
    record {
      opening = opening_back;
      delivery = delivery_back;
      recording = recording_back;
      turn = turn_back;
      report = report_back;
      restore = restore_back;
      box_opening = box_opening_back;
      request = request_back;
      start = start_back;
      csv_to_drill = λ text lent. conversion_back (length text) lent (drill_of_csv text) (numbers.record_among text);
      drill_to_csv = λ text lent. conversion_back (length text) lent (csv_of_drill text) (numbers.line_among text);
    }
