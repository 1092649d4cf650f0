-- Sessions of version 1 are what they would be if there were no other, call by call: on words of version 1 each call gives what it gives by the
-- definitions of Earlier. So no FINISH is accepted, and deliveries and turns leave the words of FINISHes.
-- Answers stand without their lines of the journal: the calls with lines are these by journal/Journal, which asks nothing of the version.
use Rattle.std.specs.Prelude.{ℕ, ◌≤◌, List, ◌≢◌, ◌≡◌, length, Ok}
use Rattle.settings.specs.Versions.{FIRST_VERSION}
use Rattle.records.specs.Layout.{version_at, finish_sent_at, finish_marks_at}
use Rattle.records.specs.Records.{version}
use Rattle.records.specs.Words.{word}
use Rattle.wire.specs.Message.{COMMIT, kind_of}
use Rattle.wire.specs.declared.Message.{Message}
use Rattle.opening.specs.Arguments.{Arguments}
use Rattle.opening.specs.Opening.{open_answer, opened}
use Rattle.recording.specs.Recording.{record_answer, recorded_words}
use Rattle.delivery.specs.Delivery.{verdict, deliver_answer, delivered}
use Rattle.turn.specs.Turn.{turn_outcome, turn_words, turn_bytes}
use Rattle.journal.specs.Lines.{numbers_of}
use Rattle.report.specs.Report.{report_answer, report_named, report_in_force}
use Rattle.call_laws.specs.Earlier as earlier

-- s are words of a session of version 1
abbrev pub First : List ℕ → Type 0
First s = version s ≡ FIRST_VERSION

-- a word of FINISHes
pub record FinishWord (a : ℕ) : Type 0 where
  pub low : finish_sent_at ≤ a
  pub high : a ≤ finish_marks_at 16

-- an opening of version 1, on any words s
pub record OpensAsEarlier (o : Arguments) : Type 0 where
  pub answer : (words : ℕ) → open_answer words o ≡ earlier.open_answer words o
  -- all words but that of the version, which is then 1
  pub words : (s : List ℕ) (a : ℕ) → a ≢ version_at → word (opened s o) a ≡ word (earlier.opened s o) a
  pub first : (s : List ℕ) → open_answer (length s) o ≡ Ok tt → First (opened s o)
  -- the numbers of its line
  pub numbers : numbers_of o ≡ earlier.numbers_of o

-- the other calls on the words s: answers, words, lent bytes and lent words
pub record CallsAsEarlier (s : List ℕ) : Type 0 where
  pub delivery_answer : (link : ℕ) (b : List ℕ) → deliver_answer s link b ≡ earlier.deliver_answer s link b
  pub delivery_words : (link : ℕ) (b : List ℕ) → delivered s link b ≡ earlier.delivered s link b
  pub turn_outcome_lem : (room : ℕ) → turn_outcome s room ≡ earlier.turn_outcome s room
  pub turn_words_lem : (room : ℕ) → turn_words s room ≡ earlier.turn_words s room
  pub turn_bytes_lem : (out : List ℕ) → turn_bytes s out ≡ earlier.turn_bytes s out
  pub report_answer_lem : (named_words in_force_words : ℕ) → report_answer s named_words in_force_words ≡ earlier.report_answer s named_words in_force_words
  pub report_named_lem : (named : List ℕ) (in_force_words : ℕ) → report_named s named in_force_words ≡ earlier.report_named s named in_force_words
  pub report_in_force_lem : (named_words : ℕ) (set_in_force : List ℕ) → report_in_force s named_words set_in_force ≡ earlier.report_in_force s named_words set_in_force
  pub recording_answer : (i r b : ℕ) → record_answer s i r b ≡ earlier.record_answer s i r b
  pub recording_words : (i r b : ℕ) → recorded_words s i r b ≡ earlier.recorded_words s i r b

pub record FirstVersion : Type 0 where
  pub openings : (o : Arguments) → o.version ≡ FIRST_VERSION → OpensAsEarlier o
  pub calls : (s : List ℕ) → First s → CallsAsEarlier s
  -- no FINISH is accepted (PROTOCOL 2.16)
  pub accepted : (s : List ℕ) (link : ℕ) (b : List ℕ) (m : Message) → First s → verdict s link b ≡ Ok m → kind_of m ≤ COMMIT
  -- the words of FINISHes stay
  pub delivery_words : (s : List ℕ) (link : ℕ) (b : List ℕ) (a : ℕ) → First s → FinishWord a → word (delivered s link b) a ≡ word s a
  pub turn_words_lem : (s : List ℕ) (room a : ℕ) → First s → FinishWord a → word (turn_words s room) a ≡ word s a
