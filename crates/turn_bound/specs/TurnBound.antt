-- The count of turns and its bound, as a claim about a whole list of calls (calls/Machine), at every concentrator; restores and recordings are
-- among the calls (PROTOCOL 16.11).
use Rattle.std.specs.Prelude.{ℕ, ◌+◌, ◌≤◌, Bool, true, false, cond, ◌&&◌, List, [], ◌∷◌, ◌≡◌, eqb, Ok, Option, Some, None}
use Rattle.settings.specs.Versions.{turn_bound}
use Rattle.settings.specs.declared.Settings.{Settings}
use Rattle.records.specs.Layout.{turns_at}
use Rattle.records.specs.Records.{version}
use Rattle.records.specs.Words.{word}
use Rattle.session.specs.Session.{settings_of, is_state}
use Rattle.opening.specs.Arguments.{Arguments, settings_by}
use Rattle.text.specs.Fields.{fields, letter}
use Rattle.journal.specs.Lines.{LETTER_T}
use Rattle.restore.specs.Complete.{lines_of}
use Rattle.restore.specs.Reading.{field_at}
use Rattle.report.specs.Report.{report_answer}
use Rattle.report.specs.declared.Figures.{Figures}
use Rattle.calls.specs.Machine.{Call, opening, delivery, turn, report, restore, recording, words, traced}
use Rattle.calls.specs.Engine.{engine}

-- whether a line of a journal is a `T`
unfoldable pub is_turn : List ℕ → Bool
is_turn b = eqb (letter (field_at (fields b) 0)) LETTER_T

-- how many of its lines are
unfoldable pub turn_lines : List (List ℕ) → ℕ
turn_lines [] = 0
turn_lines (b ∷ bs) = cond (is_turn b) 1 0 + turn_lines bs

-- what the turn bound goes by: the version and the settings of a session
pub record Terms : Type 0 where
  pub version : ℕ
  pub settings : Settings

-- .. as an opening gives them, and as words have them
abbrev pub terms_by : Arguments → Terms
terms_by o = record { version = o.version; settings = settings_by o }

abbrev pub terms_of : List ℕ → Terms
terms_of w = record { version = version w; settings = settings_of w }

-- a session that was begun: its version and settings, and how many turns count
pub record Begun : Type 0 where
  pub terms : Terms
  pub turns : ℕ

abbrev pub one_more : Option Begun → Option Begun
one_more None = None
one_more (Some x) = Some (record { terms = x.terms; turns = x.turns + 1 })

-- whether two buffers hold the same
unfoldable pub same_words : List ℕ → List ℕ → Bool
same_words [] [] = true
same_words [] (y ∷ w) = false
same_words (x ∷ v) [] = false
same_words (x ∷ v) (y ∷ w) = eqb x y && same_words v w

-- the session after a call on the words w, where it was x before. An accepted opening begins one, and each turn that acts counts. An accepted
-- restore begins one, too, with the version and the settings in its words: it counts the `T` lines that it kept, and turns of lost lines count no more. A
-- refused one leaves the buffer as it found it: the session goes on where its words are still there.
abbrev pub session_after : Call engine → List ℕ → Option Begun → Option Begun
session_after (opening p o) w x = cond (engine.opens w o) (Some (record { terms = terms_by o.given; turns = 0 })) x
session_after (delivery p m b) w x = x
session_after (turn p l) w x = cond (engine.acts w l) (one_more x) x
session_after (report p r) w x = x
session_after (restore p v r) w x = cond (engine.restores v r) (Some (record { terms = terms_of (engine.restored v r); turns = turn_lines (lines_of r.journal) })) (cond (same_words v w) x None)
session_after (recording p b) w x = x

-- the session at q after a list of calls: the one begun last, none before any, nor where a refused restore found other words
unfoldable pub session_at : (ℕ → List ℕ) → List (Call engine) → ℕ → Option Begun
session_at start cs q = traced engine start session_after None cs q

-- a report lent 16 words for each set gives the count k
pub record Reports (w : List ℕ) (k : ℕ) : Type 0 where
  pub figures : Figures
  pub given : report_answer w 16 16 ≡ Ok figures
  pub count : figures.turns ≡ k

-- what holds of the words w of the session x
pub record Counted (w : List ℕ) (x : Begun) : Type 0 where
  -- the count has every turn since the opening that was neither idle nor refused; after a restore, the turns of the lines kept and those since
  -- (PROTOCOL 8.19)
  pub stored : word w turns_at ≡ x.turns
  pub reported : Reports w x.turns
  -- counted turns stay within the turn bound of the version, whatever is delivered (PROTOCOL 8.20)
  pub bounded : x.turns ≤ turn_bound x.terms.version x.terms.settings
  -- the words stay a state
  pub state : is_state w ≡ true

-- for every buffer, whatever it holds, every list of calls and every concentrator at which a session was opened or restored
unfoldable pub TurnCount : Type 0
TurnCount = (start : ℕ → List ℕ) (cs : List (Call engine)) (q : ℕ) (x : Begun) → session_at start cs q ≡ Some x → Counted (words engine start cs q) x
