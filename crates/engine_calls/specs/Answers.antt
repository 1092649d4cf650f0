-- What the code's six calls answer and leave, beside the machine `engine` of which agreement is proved.
use Rattle.std.specs.Prelude.{ℕ, Bool, true, false, List, [], ◌≢◌, ◌≡◌, length, take, Result, Ok, Err}
use Rattle.wire.specs.Message.{length_of}
use Rattle.wire.specs.declared.Message.{Message}
use Rattle.opening.specs.Arguments.{Arguments}
use Rattle.journal.specs.Journal.{acts}
use Rattle.turn.specs.declared.Outcome.{Outcome}
use Rattle.turn.specs.declared.Outcome.TheVariants as outcome
use Rattle.restore.specs.Restoring as restoring
use Rattle.restore.specs.declared.Restored.{Restored}
use Rattle.restore.specs.declared.RestoreError.{RestoreError}
use Rattle.report.specs.declared.Figures.{Figures}
use Rattle.calls.specs.Engine.{engine, OpeningGiven, Bytes, TurnLent, BitGiven, RestoreLent}
use Rattle.settings.specs.declared.refusal.Refusal.{Refusal}

-- whether an opening, a delivery or a recording is accepted
abbrev pub accepted : Result ℕ Refusal → Bool
accepted (Err k) = false
accepted (Ok l) = true

-- the line that it answers, which stands at the front of the bytes lent for it
abbrev pub line_in : Result ℕ Refusal → List ℕ → List ℕ
line_in (Err k) bytes = []
line_in (Ok l) bytes = take l bytes

-- the machine has an opening with these arguments, lent so many bytes for its line
pub record OpeningOf (a : Arguments) (room : ℕ) : Type 0 where
  pub opening : OpeningGiven
  pub given : opening.given ≡ a
  pub line : opening.line ≡ room

-- the machine has these bytes of a message, their delivery lent so many for its line
pub record BytesOf (list : List ℕ) (room : ℕ) : Type 0 where
  pub bytes : Bytes
  pub same : bytes.list ≡ list
  pub line : bytes.line ≡ room

-- What came of a call is what comes of it in the machine. w are the words before it, r is its answer; `after` are the words after it, `line`,
-- `message`, `named` and `in-force` what the lent bytes and words then are.

pub record OpensAs (w : List ℕ) (o : OpeningGiven) (r : Result ℕ Refusal) (after line : List ℕ) : Type 0 where
  pub answer : accepted r ≡ engine.opens w o
  pub words : after ≡ engine.opened w o
  pub written : accepted r ≡ true → line_in r line ≡ engine.opening_line_lem o

pub record DeliversAs (w : List ℕ) (link : ℕ) (b : Bytes) (r : Result ℕ Refusal) (after line : List ℕ) : Type 0 where
  pub answer : accepted r ≡ engine.accepts w link b
  pub words : after ≡ engine.delivered w link b
  pub written : accepted r ≡ true → line_in r line ≡ engine.delivery_line_lem link b

pub record RecordsAs (w : List ℕ) (x : BitGiven) (r : Result ℕ Refusal) (after line : List ℕ) : Type 0 where
  pub answer : accepted r ≡ engine.records w x
  pub words : after ≡ engine.recorded w x
  pub written : accepted r ≡ true → line_in r line ≡ engine.recording_line_lem x

-- the bytes that are sent are those of the message's length
pub record TurnsAs (w : List ℕ) (l : TurnLent) (r : Result Outcome Refusal) (after message line : List ℕ) : Type 0 where
  pub answer : acts r ≡ engine.acts w l
  pub words : after ≡ engine.turned w l
  pub sends : (m : Message) → r ≡ Ok (outcome.Sent m) → (b : Bytes) → b.list ≡ take (length_of m) message → engine.Sends w l b
  pub written : acts r ≡ true → take (length engine.turn_line_lem) line ≡ engine.turn_line_lem

pub record RestoresAs (w : List ℕ) (l : RestoreLent) (r : Result Restored RestoreError) (after : List ℕ) : Type 0 where
  pub answer : restoring.accepted r ≡ engine.restores w l
  pub words : after ≡ engine.restored w l

-- of a report that gives figures, so was lent 16 words or more for each set
pub record ReportsAs (w : List ℕ) (r : Result Figures Refusal) (named by_in_force : List ℕ) : Type 0 where
  pub names : (f : Figures) → r ≡ Ok f → f.exit ≢ 0 → engine.Names w (take f.named named)
  pub enforces : (f : Figures) → r ≡ Ok f → f.in_force ≢ 0 → engine.InForce w (take f.in_force by_in_force)
