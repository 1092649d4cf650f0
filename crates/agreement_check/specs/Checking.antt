-- A list of calls checked by computing it: whether each call meets the conditions of agreement (PROTOCOL 16.4 to 16.7) after the calls before it.
-- The check is sound (proofs/laws/Tracking.antt); it may reject a list that meets them. A restore is taken only at an opened one whose journal
-- allows it; whether it is accepted need not be computed (agreement, EngineRestores).
use Rattle.std.specs.Prelude.{ℕ, Bool, true, false, ◌&&◌, ◌||◌, not, cond, List, [], ◌∷◌, ◌++◌, eqb, leb, length, take, Result, Ok, Err}
use Rattle.records.specs.Layout.{state_words}
use Rattle.opening.specs.Opening.{open_words}
use Rattle.wire.specs.Message.{length_of}
use Rattle.turn.specs.declared.Outcome.{Outcome}
use Rattle.turn.specs.declared.Outcome.TheVariants as outcome
use Rattle.journal.specs.Journal.{open_line_answer, turned_outcome, turned_message}
use Rattle.restore.specs.Restoring.{MESSAGE_BYTES}
use Rattle.calls.specs.Machine.{Call, opening, delivery, turn, report, restore, recording}
use Rattle.calls.specs.Engine.{engine, OpeningGiven, Bytes, TurnLent, BitGiven, RestoreLent, Agreed, agreed}
use Rattle.agreement_check.specs.Bits.{box_bit}
use Rattle.std.specs.Result.{is_ok}
use Rattle.settings.specs.declared.refusal.Refusal.{Refusal}

-- a line of a journal: its bytes, the words after it, and the messages that its call sent, one or none
pub record Line : Type 0 where
  pub text : List ℕ
  pub after : List ℕ
  pub sent : List (List ℕ)

-- an opened concentrator: the words of its state, and its journal, the newest line first
pub record Entry : Type 0 where
  pub who : ℕ
  pub list : List ℕ
  pub lines : List Line

-- a message that left, with its sender
pub record Gone : Type 0 where
  pub from : ℕ
  pub bytes : List ℕ

-- after some calls: the opened ones, the newest first; what left; whether each call met the conditions
pub record Run : Type 0 where
  pub states : List Entry
  pub gone : List Gone
  pub right : Bool

-- p is opened
unfoldable pub is_opened : List Entry → ℕ → Bool
is_opened [] p = false
is_opened (x ∷ xs) p = cond (eqb p x.who) true (is_opened xs p)

-- the words of p
unfoldable pub words_of : List Entry → ℕ → List ℕ
words_of [] p = []
words_of (x ∷ xs) p = cond (eqb p x.who) x.list (words_of xs p)

-- its journal
unfoldable pub lines_of : List Entry → ℕ → List Line
lines_of [] p = []
lines_of (x ∷ xs) p = cond (eqb p x.who) x.lines (lines_of xs p)

-- p, if it is opened, has the words w and the journal ls now
unfoldable pub with_entry : ℕ → List ℕ → List Line → List Entry → List Entry
with_entry p w ls xs = cond (is_opened xs p) (record { who = p; list = w; lines = ls } ∷ xs) xs

unfoldable pub same_list : List ℕ → List ℕ → Bool
same_list [] [] = true
same_list [] (y ∷ ys) = false
same_list (x ∷ xs) [] = false
same_list (x ∷ xs) (y ∷ ys) = eqb x y && same_list xs ys

unfoldable pub among : List (List ℕ) → List ℕ → Bool
among [] b = false
among (x ∷ xs) b = same_list x b || among xs b

-- a line of the journal sent b
unfoldable pub was_sent : List Line → List ℕ → Bool
was_sent [] b = false
was_sent (x ∷ xs) b = among x.sent b || was_sent xs b

-- the bytes of a journal
unfoldable pub text_of : List Line → List ℕ
text_of [] = []
text_of (x ∷ xs) = text_of xs ++ x.text

-- the lines that stand complete in the first k bytes
unfoldable pub complete_of : ℕ → List Line → List Line
complete_of k [] = []
complete_of k (x ∷ xs) = cond (leb (length (text_of (x ∷ xs))) k) (x ∷ xs) (complete_of k xs)

-- there is a line
unfoldable pub some : List Line → Bool
some [] = false
some (x ∷ xs) = true

-- the words after the last line
unfoldable pub last_words : List Line → List ℕ
last_words [] = []
last_words (x ∷ xs) = x.after

-- what left of p has its line in the journal
unfoldable pub keeps : List Gone → ℕ → List Line → Bool
keeps [] p ls = true
keeps (g ∷ gs) p ls = (not (eqb p g.from) || was_sent ls g.bytes) && keeps gs p ls

-- what a turn with this outcome sent, having left the bytes lent for a message as b
unfoldable pub sent_in : Result Outcome Refusal → List ℕ → List (List ℕ)
sent_in (Err k) b = []
sent_in (Ok outcome.Idle) b = []
sent_in (Ok (outcome.Sent m)) b = take (length_of m) b ∷ []
sent_in (Ok outcome.MovedOut) b = []
sent_in (Ok outcome.InForce) b = []

unfoldable pub sent_by : List ℕ → TurnLent → List (List ℕ)
sent_by w l = sent_in (turned_outcome w (length l.message) l.line) (turned_message w l.message l.line)

unfoldable pub same_session : Agreed → Agreed → Bool
same_session a b =
    eqb a.version b.version
    && (eqb a.settings.n b.settings.n
    && (eqb a.settings.ta b.settings.ta
    && (eqb a.settings.ts b.settings.ts
    && (eqb a.settings.whole b.settings.whole
    && (eqb a.settings.weights b.settings.weights
    && (eqb a.number b.number
    && (same_list a.coins b.coins
    && eqb a.boxed b.boxed)))))))

-- an opening of 2,048 words is accepted
unfoldable pub opens : OpeningGiven → Bool
opens o = is_ok (open_line_answer state_words o.given o.line)

-- the journal after an accepted opening, and after a delivery, a turn or a recording at the words w
unfoldable pub first_lines : OpeningGiven → List Line
first_lines o = record { text = engine.opening_line_lem o; after = open_words o.given; sent = [] } ∷ []

unfoldable pub delivery_lines : ℕ → Bytes → List ℕ → List Line → List Line
delivery_lines m b w ls = cond (engine.accepts w m b) (record { text = engine.delivery_line_lem m b; after = engine.delivered w m b; sent = [] } ∷ ls) ls

unfoldable pub turn_lines : TurnLent → List ℕ → List Line → List Line
turn_lines l w ls = cond (engine.acts w l) (record { text = engine.turn_line_lem; after = engine.turned w l; sent = sent_by w l } ∷ ls) ls

unfoldable pub recording_lines : BitGiven → List ℕ → List Line → List Line
recording_lines y w ls = cond (engine.records w y) (record { text = engine.recording_line_lem y; after = engine.recorded w y; sent = [] } ∷ ls) ls

unfoldable pub states_after : Call engine → List Entry → List Entry
states_after (opening p o) xs = cond (opens o && eqb o.given.own p) (record { who = p; list = open_words o.given; lines = first_lines o } ∷ xs) xs
states_after (delivery p m b) xs = with_entry p (engine.delivered (words_of xs p) m b) (delivery_lines m b (words_of xs p) (lines_of xs p)) xs
states_after (turn p l) xs = with_entry p (engine.turned (words_of xs p) l) (turn_lines l (words_of xs p) (lines_of xs p)) xs
states_after (recording p y) xs = with_entry p (engine.recorded (words_of xs p) y) (recording_lines y (words_of xs p) (lines_of xs p)) xs
states_after (report p r) xs = with_entry p (words_of xs p) (lines_of xs p) xs
states_after (restore p v r) xs =
    with_entry p (last_words (complete_of (length r.journal) (lines_of xs p))) (complete_of (length r.journal) (lines_of xs p)) xs

unfoldable pub gone_after : Call engine → List Entry → List Gone → List Gone
gone_after (opening p o) xs gs = gs
gone_after (delivery p m b) xs gs = cond (is_opened xs p && engine.accepts (words_of xs p) m b) (record { from = m; bytes = b.list } ∷ gs) gs
gone_after (turn p l) xs gs = gs
gone_after (recording p y) xs gs = gs
gone_after (report p r) xs gs = gs
gone_after (restore p v r) xs gs = gs

-- a restore reads a cut of the journal ls, and is lent enough for a message
unfoldable pub restore_right : RestoreLent → List Line → Bool
restore_right r ls =
    leb MESSAGE_BYTES (length r.message)
    && (same_list r.journal (take (length r.journal) (text_of ls))
    && some (complete_of (length r.journal) ls))

-- in the session S, where H tells who is honest, and v what each puts in
module _ (S : Agreed) (H : ℕ → Bool) (v : ℕ → ℕ) where
  -- the honest ones are chosen freely among the numbers from 1 to n (PROTOCOL 16.4)
  unfoldable pub listed : ℕ → Bool
  listed p = leb 1 p && (leb p S.settings.n && H p)

  -- an opening is refused, or none under the own number came before; under the own number it is one of the session S, with the own input
  unfoldable pub opening_right : ℕ → OpeningGiven → List Entry → Bool
  opening_right p o xs =
      not (opens o) || not (is_opened xs p) && (not (eqb o.given.own p) || same_session (agreed o.given) S && eqb o.given.input (v p))

  -- a delivery is refused, or it comes from a liar, or its bytes were sent
  unfoldable pub delivery_right : Bool → ℕ → List ℕ → List Line → Bool
  delivery_right accepted m b ls = not accepted || (not (H m) || was_sent ls b)

  -- a recording is refused, or its bit is that of the box
  unfoldable pub recording_right : Bool → BitGiven → Bool
  recording_right accepted y = not accepted || eqb y.bit (box_bit y.vote y.round)

  unfoldable pub call_right : Call engine → List Entry → List Gone → Bool
  call_right (opening p o) xs gs = listed p && opening_right p o xs
  call_right (delivery p m b) xs gs =
      listed p && (not (is_opened xs p) || delivery_right (engine.accepts (words_of xs p) m b) m b.list (lines_of xs m))
  call_right (turn p l) xs gs = listed p
  call_right (report p r) xs gs = listed p
  call_right (recording p y) xs gs = listed p && (not (is_opened xs p) || recording_right (engine.records (words_of xs p) y) y)
  call_right (restore p u r) xs gs =
      listed p && (is_opened xs p && (restore_right r (lines_of xs p) && keeps gs p (complete_of (length r.journal) (lines_of xs p))))

  unfoldable pub step : Call engine → Run → Run
  step c r =
      record {
        states = states_after c r.states;
        gone = gone_after c r.states r.gone;
        right = r.right && call_right c r.states r.gone;
      }

  unfoldable pub run : List (Call engine) → Run
  run [] = record { states = []; gone = []; right = true }
  run (c ∷ cs) = step c (run cs)
