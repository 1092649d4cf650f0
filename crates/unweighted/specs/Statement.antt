-- With weights of 1 all is as without weights (PROTOCOL 13.4), as a claim about the calls.
-- The unweighted rules are those of this crate's files Settings to Report: they count, and no weight is among what they read.
-- Answers stand without their lines of the journal: the bytes for a line are asked for after all else, and with enough of them a call is
-- the one without (journal/Journal).
use Rattle.std.specs.Prelude.{ℕ, ◌-◌, ◌^◌, ◌≤◌, true, List, [], ◌∷◌, ◌++◌, ◌≢◌, ◌≡◌, length, Ok}
use Rattle.quorum.specs.Weights.{weight_of}
use Rattle.records.specs.Layout.{n_at, weights_at}
use Rattle.records.specs.Words.{word, put}
use Rattle.opening.specs.Given.{ones_given}
use Rattle.opening.specs.Arguments.{Arguments}
use Rattle.opening.specs.Opening.{open_answer, opened}
use Rattle.delivery.specs.Delivery.{deliver_answer, delivered}
use Rattle.recording.specs.Recording.{record_answer, recorded_words}
use Rattle.turn.specs.Turn.{turn_outcome, turn_words, turn_bytes}
use Rattle.report.specs.Report.{report_answer, report_named, report_in_force}
use Rattle.journal.specs.Journal.{line_words, turn_room}
use Rattle.calls.specs.Machine.{Call, opening, delivery, turn, report, restore, recording, place, words, traced}
use Rattle.calls.specs.Engine.{OpeningGiven, engine}
use Rattle.unweighted.specs.Opening as unweighted_opening
use Rattle.unweighted.specs.Delivery as unweighted_delivery
use Rattle.unweighted.specs.Recording as unweighted_recording
use Rattle.unweighted.specs.Turn as unweighted_turn
use Rattle.unweighted.specs.Report as unweighted_report

-- ---- an opening that is given n weights of 1

unfoldable pub GivenOnes : Arguments → Type 0
GivenOnes o = o.weights ≡ ones_given o.n

-- its answer, where the buffer has so many words; coins are printed or boxed
unfoldable pub AnswersAlike : Type 0
AnswersAlike = (words : ℕ) (o : Arguments) → GivenOnes o → open_answer words o ≡ unweighted_opening.open_answer words o

-- the words after it, on any words s
pub record OpensAlike (s : List ℕ) (o : Arguments) : Type 0 where
  -- accepted: the unweighted words but for the word of the weights
  pub accepted : unweighted_opening.open_answer (length s) o ≡ Ok tt → opened s o ≡ put (unweighted_opening.opened s o) weights_at (2 ^ o.n - 1)
  -- refused: the words are untouched
  pub refused : unweighted_opening.open_answer (length s) o ≢ Ok tt → opened s o ≡ s
  pub unweighted_refused : unweighted_opening.open_answer (length s) o ≢ Ok tt → unweighted_opening.opened s o ≡ s

-- ---- the other calls, on words in which all weights are 1

-- each of the numbers 1 to n has weight 1
unfoldable pub AllOne : List ℕ → Type 0
AllOne s = (p : ℕ) → 1 ≤ p → p ≤ word s n_at → weight_of (word s weights_at) p ≡ 1

-- every delivery, recording, turn and report on the words s gives what the unweighted one gives: answer, words, lent bytes and lent words
pub record Alike (s : List ℕ) : Type 0 where
  pub delivery_answer : (link : ℕ) (b : List ℕ) → deliver_answer s link b ≡ unweighted_delivery.deliver_answer s link b
  pub delivery_words : (link : ℕ) (b : List ℕ) → delivered s link b ≡ unweighted_delivery.delivered s link b
  pub recording_answer : (i r b : ℕ) → record_answer s i r b ≡ unweighted_recording.record_answer s i r b
  pub recording_words : (i r b : ℕ) → recorded_words s i r b ≡ unweighted_recording.recorded_words s i r b
  pub turn_outcome_lem : (room : ℕ) → turn_outcome s room ≡ unweighted_turn.turn_outcome s room
  pub turn_words_lem : (room : ℕ) → turn_words s room ≡ unweighted_turn.turn_words s room
  pub turn_bytes_lem : (out : List ℕ) → turn_bytes s out ≡ unweighted_turn.turn_bytes s out
  pub report_answer_lem : (named_words in_force_words : ℕ) → report_answer s named_words in_force_words ≡ unweighted_report.report_answer s named_words in_force_words
  pub report_named_lem : (named : List ℕ) (in_force_words : ℕ) → report_named s named in_force_words ≡ unweighted_report.report_named s named in_force_words
  pub report_in_force_lem : (named_words : ℕ) (set_in_force : List ℕ) → report_in_force s named_words set_in_force ≡ unweighted_report.report_in_force s named_words set_in_force

-- ---- lists of calls

-- a call that is no restore and, if it is an opening, is given weights of 1
abbrev pub GivesOnes : Call engine → Type 0
GivesOnes (opening p o) = GivenOnes o.given
GivesOnes (delivery p m b) = Unit {0}
GivesOnes (turn p l) = Unit {0}
GivesOnes (report p r) = Unit {0}
GivesOnes (restore p v r) = ⊥
GivesOnes (recording p x) = Unit {0}

-- each call at q of a list is such a one
unfoldable pub EachGivenOnes : ℕ → List (Call engine) → Type 0
EachGivenOnes q [] = Unit {0}
EachGivenOnes q (c ∷ cs) = (place engine c ≡ q → GivesOnes c) × EachGivenOnes q cs

-- the words that a call of an unweighted session leaves, with its line (journal/Journal); a restore is not among the calls
abbrev pub unweighted_left : Call engine → List ℕ → List ℕ
unweighted_left (opening p o) u = line_words o.line u (unweighted_opening.opened u o.given)
unweighted_left (delivery p m b) u = line_words b.line u (unweighted_delivery.delivered u m b.list)
unweighted_left (turn p l) u = unweighted_turn.turn_words u (turn_room (length l.message) l.line)
unweighted_left (report p r) u = u
unweighted_left (restore p v r) u = u
unweighted_left (recording p x) u = line_words x.line u (unweighted_recording.recorded_words u x.vote x.round x.bit)

-- the words of q after a list of calls, newest first, where the session is unweighted
unfoldable pub unweighted_words : (ℕ → List ℕ) → List (Call engine) → ℕ → List ℕ
unweighted_words start cs q = traced engine start (λ c w u. unweighted_left c u) (start q) cs q

-- two runs side by side: w are the words of one with weights of 1, u those of the unweighted one
pub record SideBySide (w u : List ℕ) : Type 0 where
  -- the words are the same but for that of the weights: it is 0 in the unweighted run ..
  pub words : u ≡ put w weights_at 0
  -- .. and gives each of 1 to n the weight 1 in the other
  pub weights : AllOne w
  -- a further opening, given weights of 1, has the same answer
  pub opening_answer : (o : Arguments) → GivenOnes o → open_answer (length w) o ≡ unweighted_opening.open_answer (length u) o
  -- a further delivery has the same answer
  pub delivery_answer : (link : ℕ) (b : List ℕ) → deliver_answer w link b ≡ unweighted_delivery.deliver_answer u link b
  -- a further recording has the same answer
  pub recording_answer : (i r b : ℕ) → record_answer w i r b ≡ unweighted_recording.record_answer u i r b
  -- a further turn has the same outcome ..
  pub turn_outcome_lem : (room : ℕ) → turn_outcome w room ≡ unweighted_turn.turn_outcome u room
  -- .. and leaves the same bytes, those of its message among them
  pub turn_bytes_lem : (out : List ℕ) → turn_bytes w out ≡ unweighted_turn.turn_bytes u out
  -- a further report has the same answer ..
  pub report_answer_lem : (named_words in_force_words : ℕ) → report_answer w named_words in_force_words ≡ unweighted_report.report_answer u named_words in_force_words
  -- .. leaves the same words lent for the set that the exits name ..
  pub report_named_lem : (named : List ℕ) (in_force_words : ℕ) → report_named w named in_force_words ≡ unweighted_report.report_named u named in_force_words
  -- .. and the same words lent for the set in force
  pub report_in_force_lem : (named_words : ℕ) (set_in_force : List ℕ) → report_in_force w named_words set_in_force ≡ unweighted_report.report_in_force u named_words set_in_force

-- the claim
pub record Unweighted : Type 0 where
  -- an opening given weights of 1 has the unweighted answer ..
  pub openings_answer : AnswersAlike
  -- .. and leaves the unweighted words but for that of the weights, on any words, foreign ones too
  pub openings : (s : List ℕ) (o : Arguments) → GivenOnes o → OpensAlike s o
  -- every other call is the unweighted one on any words in which all weights are 1, foreign ones too
  pub calls : (s : List ℕ) → AllOne s → Alike s
  -- after an accepted opening of any words at q, given weights of 1, and every list of calls, further openings at q among them, each given
  -- weights of 1, but no restores there, the run at q and the unweighted run of the same calls stand side by side
  pub runs : (start : ℕ → List ℕ) (q : ℕ) (o : OpeningGiven) → engine.opens (start q) o ≡ true → GivenOnes o.given →
      (cs : List (Call engine)) → EachGivenOnes q cs →
      SideBySide (words engine start (cs ++ (opening q o ∷ [])) q) (unweighted_words start (cs ++ (opening q o ∷ [])) q)
