-- Laws of a call with its line: accepted, it is lent enough and does what it does without the line; refused, it leaves the words.
use Rattle.std.specs.Prelude.{ℕ, ◌≤◌, true, false, not, List, ◌≡◌, ltb, Result, Ok, Err}
use Rattle.std.proofs.Math.Bool.{Bool, cond}
use Rattle.std.proofs.lemmas.Bool.{false≢true}
use Rattle.std.proofs.Math.Path.{refl}
use Rattle.std.proofs.Common.{sym, arith, ltb-false, le-ltb}
use Rattle.records.specs.Records.{closed}
use Rattle.session.specs.Session.{is_state, session_of}
use Rattle.session.specs.declared.Session.{Session}
use Rattle.turn.specs.Turn.{turn_outcome, turn_words, turn_bytes, taking, admits}
use Rattle.turn.specs.declared.Outcome.{Outcome}
use Rattle.journal.specs.Journal.{LINE_BYTES, line_answer, line_words, turn_room, acts, turned_outcome, turned_message}
use Rattle.settings.specs.declared.refusal.Refusal.{Refusal}
use Rattle.settings.specs.declared.refusal.Refusal.TheVariants as refusal
use Rattle.std.specs.Result.{is_ok}
use Rattle.settings.specs.laws.Answers.{err_passed}

-- ---- opening and delivery

pub line_taken : (a : Result (Unit {0}) Refusal) (room : ℕ) → line_answer a room ≡ Ok tt → (a ≡ Ok tt) × (LINE_BYTES ≤ room)
unfolding line_answer
line_taken (Ok tt) room e = let p = err_passed (ltb room LINE_BYTES) refusal.Short (Ok tt) tt e in (refl, ltb-false room LINE_BYTES p.0)
line_taken (Err k) room e = absurd (let z : ◌≡◌ {A = ℕ} 0 1 = cc in omega arith)

pub line_answer_lem : (a : Result (Unit {0}) Refusal) (room : ℕ) → LINE_BYTES ≤ room → line_answer a room ≡ a
unfolding line_answer
line_answer_lem (Ok tt) room l = rw (le-ltb room LINE_BYTES l)
line_answer_lem (Err k) room l = refl

pub line_words_lem : (room : ℕ) (before after : List ℕ) → LINE_BYTES ≤ room → line_words room before after ≡ after
unfolding line_words
line_words_lem room before after l = rw (le-ltb room LINE_BYTES l)

-- a refused call leaves the words where it does so without its line
pub line_stays : (a : Result (Unit {0}) Refusal) (room : ℕ) (before after : List ℕ) → is_ok (line_answer a room) ≡ false → (is_ok a ≡ false → after ≡ before) → line_words room before after ≡ before
unfolding line_answer line_words
line_stays a room before after e same = go (ltb room LINE_BYTES) a (given a e) same
  where
    lined : Bool → Result (Unit {0}) Refusal → Result (Unit {0}) Refusal
    lined b (Ok tt) = cond b (Err refusal.Short) (Ok tt)
    lined b (Err k) = Err k

    given : (a : Result (Unit {0}) Refusal) → is_ok (line_answer a room) ≡ false → is_ok (lined (ltb room LINE_BYTES) a) ≡ false
    given (Ok tt) h = h
    given (Err k) h = h

    go : (b : Bool) (a : Result (Unit {0}) Refusal) → is_ok (lined b a) ≡ false → (is_ok a ≡ false → after ≡ before) → cond b before after ≡ before
    go true a h f = refl
    go false (Ok tt) h f = absurd (false≢true (sym h))
    go false (Err k) h f = f refl

-- ---- turn

pub room_kept : (room line : ℕ) → LINE_BYTES ≤ line → turn_room room line ≡ room
unfolding turn_room
room_kept room line l = rw (le-ltb line LINE_BYTES l)

pub message_kept : (s out : List ℕ) (line : ℕ) → LINE_BYTES ≤ line → turned_message s out line ≡ turn_bytes s out
unfolding turned_message
message_kept s out line l = rw (le-ltb line LINE_BYTES l)

module _ (s : List ℕ) (room : ℕ) where
  -- a turn that acts is admitted as with any other number of bytes that is enough for a message
  pub acts_admitted : acts (turn_outcome s room) ≡ true → (140 ≤ room) × (admits s 140 ≡ admits s room)
  unfolding taking turn_outcome admits
  acts_admitted e = of (is_state s) (closed s) (ltb room 140) _ refl e
    where
      tested : Bool → Bool → Bool → Result Session Refusal
      tested t c b = cond (not t) (Err refusal.NoState) (cond c (Err refusal.Closed) (cond b (Err refusal.Short) (Ok (session_of s))))

      of : (t c b : Bool) (taken : Session → Result Outcome Refusal) → ltb room 140 ≡ b → acts (taking (tested t c b) Err taken) ≡ true → (140 ≤ room) × (tested t c false ≡ tested t c b)
      of false c b taken q f = absurd (false≢true f)
      of true true b taken q f = absurd (false≢true f)
      of true false true taken q f = absurd (false≢true f)
      of true false false taken q f = (ltb-false room 140 q, refl)

  pub acts_outcome : acts (turn_outcome s room) ≡ true → turn_outcome s 140 ≡ turn_outcome s room
  unfolding turn_outcome
  acts_outcome e = rw (acts_admitted e).1

  pub acts_words : acts (turn_outcome s room) ≡ true → turn_words s 140 ≡ turn_words s room
  unfolding turn_words
  acts_words e = rw (acts_admitted e).1

-- a turn that acts is lent enough for its message and for its line
pub turn_enough : (s : List ℕ) (room line : ℕ) → acts (turned_outcome s room line) ≡ true → (140 ≤ room) × (LINE_BYTES ≤ line)
unfolding turn_room
turn_enough s room line e = go (ltb line LINE_BYTES) refl (acts_admitted s (turn_room room line) e).0
  where
    go : (b : Bool) → ltb line LINE_BYTES ≡ b → 140 ≤ cond b 0 room → (140 ≤ room) × (LINE_BYTES ≤ line)
    go true f h = absurd (omega (arith, h))
    go false f h = (h, ltb-false line LINE_BYTES f)
