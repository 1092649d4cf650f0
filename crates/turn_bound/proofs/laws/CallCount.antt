-- The theorem of specs/TurnBound.antt: what calls come to, steps come to.
use Rattle.std.specs.Prelude.{ℕ, ◌+◌, Bool, ◌≡◌, eqb, ltb, length, Option, Some, None, Ok, Result, Err}
use Rattle.std.proofs.Math.Bool.{true, false, cond}
use Rattle.std.proofs.lemmas.Bool.{false≢true}
use mathlib.Core.List.{List, [], ◌∷◌}
use Rattle.std.proofs.Math.Path.{refl}
use Rattle.std.proofs.Common.{sym, ap₂, subst, arith, eqb-true}
use Rattle.quorum.specs.laws.Bools.{and_left, and_right}
use Rattle.opening.specs.Arguments.{Arguments}
use Rattle.opening.specs.Opening.{open_answer, opened}
use Rattle.delivery.specs.Delivery.{delivered}
use Rattle.recording.specs.Recording.{recorded_words}
use Rattle.turn.specs.Turn.{turn_outcome, turn_words}
use Rattle.journal.specs.Journal.{acts, line_words, open_line_answer, opened_words, delivered_words, record_words, turn_room, turned_outcome, turned_words}
use Rattle.journal.specs.laws.Journal.{line_taken, line_words_lem, line_stays}
use Rattle.restore.specs.Complete.{lines_of, joined}
use Rattle.restore.specs.Restoring.{Replay, wrong, right, replay, replay_answer, replay_words, lent_answer, where_lent, restore_answer, restored_words, accepted}
use Rattle.calls.specs.Machine.{Call, opening, delivery, turn, report, restore, recording, place, left, words, traced}
use Rattle.calls.specs.Engine.{engine}
use Rattle.turn_bound.specs.TurnBound.{Terms, terms_by, terms_of, Begun, turn_lines, one_more, same_words, session_after, session_at, TurnCount}
use Rattle.turn_bound.proofs.laws.Count.{Going, refused_words, going_counted}
use Rattle.turn_bound.proofs.laws.Stepped.{Stepped, opening_stepped, delivery_stepped, turn_stepped, recording_stepped, stepped_going, replay_stepped}
use Rattle.std.specs.Result.{is_ok}
use Rattle.settings.specs.declared.refusal.Refusal.{Refusal}
use Rattle.settings.specs.laws.Answers.{true_taken}

-- an opening lent `room` bytes for its line: accepted, it is the one without; else the words stay
module _ (w : List ℕ) (o : Arguments) (room : ℕ) where
  pub open_taken : is_ok (open_line_answer (length w) o room) ≡ true → (open_answer (length w) o ≡ Ok tt) × (opened_words w o room ≡ opened w o)
  unfolding open_line_answer opened_words
  open_taken e = let t = line_taken (open_answer (length w) o) room (true_taken _ e) in (t.0, line_words_lem room w (opened w o) t.1)

  pub open_refused : is_ok (open_line_answer (length w) o room) ≡ false → opened_words w o room ≡ w
  unfolding open_line_answer opened_words
  open_refused e = line_stays (open_answer (length w) o) room w (opened w o) e (refused_words w o)

-- a restore onto the words v: accepted, its words are those of its lines; else they stay
module _ (v journal : List ℕ) (room : ℕ) where
  restore_stepped : accepted (restore_answer v journal room) ≡ true → Stepped (restored_words v journal room) (turn_lines (lines_of journal)) (terms_of (restored_words v journal room))
  unfolding restore_answer restored_words accepted replay_answer replay_words
  restore_stepped e = of (lent_answer (length v) room) (replay (lines_of journal)) refl e
    where
      of : (a : Result (Unit {0}) Refusal) (r : Replay) → replay (lines_of journal) ≡ r → accepted (where_lent a (replay_answer r (length (joined (lines_of journal))))) ≡ true → Stepped (cond (is_ok a) (replay_words r v) v) (turn_lines (lines_of journal)) (terms_of (cond (is_ok a) (replay_words r v) v))
      of (Err k) r f e = absurd (false≢true e)
      of (Ok tt) (wrong k) f e = absurd (false≢true e)
      of (Ok tt) (right x) f e = replay_stepped (lines_of journal) x f

  pub restore_refused : accepted (restore_answer v journal room) ≡ false → restored_words v journal room ≡ v
  unfolding restore_answer restored_words accepted replay_answer replay_words
  restore_refused e = of (lent_answer (length v) room) (replay (lines_of journal)) e
    where
      of : (a : Result (Unit {0}) Refusal) (r : Replay) → accepted (where_lent a (replay_answer r (length (joined (lines_of journal))))) ≡ false → cond (is_ok a) (replay_words r v) v ≡ v
      of (Err k) r e = refl
      of (Ok tt) (wrong k) e = refl
      of (Ok tt) (right x) e = absurd (false≢true (sym e))

module _ (w : List ℕ) (k : ℕ) (g : Terms) (x : Stepped w k g) where
  deliver_lined : (link : ℕ) (b : List ℕ) (room : ℕ) → Stepped (delivered_words w link b room) k g
  unfolding delivered_words line_words
  deliver_lined link b room = of (ltb room 512)
    where
      of : (c : Bool) → Stepped (cond c w (delivered w link b)) k g
      of true = x
      of false = delivery_stepped w k g x link b

  record_lined : (i r b room : ℕ) → Stepped (record_words w i r b room) k g
  unfolding record_words line_words
  record_lined i r b room = of (ltb room 512)
    where
      of : (c : Bool) → Stepped (cond c w (recorded_words w i r b)) k g
      of true = x
      of false = recording_stepped w k g x i r b

  turn_lined : (out : List ℕ) (room : ℕ) → Stepped (turned_words w (length out) room) (cond (acts (turned_outcome w (length out) room)) (k + 1) k) g
  unfolding turn_room
  turn_lined out room = of (ltb room 512)
    where
      of : (c : Bool) → Stepped (turn_words w (cond c 0 (length out))) (cond (acts (turn_outcome w (cond c 0 (length out)))) (k + 1) k) g
      of true = turn_stepped w k g x []
      of false = turn_stepped w k g x out

pub same_words_lem : (v w : List ℕ) → same_words v w ≡ true → v ≡ w
unfolding same_words
same_words_lem [] [] e = refl
same_words_lem [] (y ∷ w) e = absurd (false≢true e)
same_words_lem (x ∷ v) [] e = absurd (false≢true e)
same_words_lem (x ∷ v) (y ∷ w) e = ap₂ (λ (z : ℕ) (u : List ℕ). z ∷ u) (eqb-true x y (and_left (eqb x y) (same_words v w) e)) (same_words_lem v w (and_right (eqb x y) (same_words v w) e))

-- the session y in the words w
abbrev pub BegunIn : List ℕ → Begun → Type 0
BegunIn w y = Stepped w y.turns y.terms

pub none_begun : (y : Begun) → None ≡ Some y → ⊥
none_begun y e = let z : ◌≡◌ {A = ℕ} 0 1 = cc in omega arith

begun_as : (w : List ℕ) (z y : Begun) → Some z ≡ Some y → BegunIn w z → BegunIn w y
begun_as w z y e x = let same : z ≡ y = cc in subst (BegunIn w) same x

-- a call on the words w of a session, if any was begun
module _ (w : List ℕ) (x : Option Begun) (before : (y : Begun) → x ≡ Some y → BegunIn w y) (y : Begun) where
  opening_begun : (o : Arguments) (room : ℕ) (b : Bool) → is_ok (open_line_answer (length w) o room) ≡ b → cond b (Some (record { terms = terms_by o; turns = 0 })) x ≡ Some y → BegunIn (opened_words w o room) y
  opening_begun o room true f e =
      let t = open_taken w o room f in
      begun_as (opened_words w o room) (record { terms = terms_by o; turns = 0 }) y e (rw t.1 (opening_stepped w o t.0))
  opening_begun o room false f e = rw (open_refused w o room f) (before y e)

  turn_begun : (out : List ℕ) (room : ℕ) → cond (acts (turned_outcome w (length out) room)) (one_more x) x ≡ Some y → BegunIn (turned_words w (length out) room) y
  turn_begun out room e = of x before e
    where
      of : (u : Option Begun) → ((z : Begun) → u ≡ Some z → BegunIn w z) → cond (acts (turned_outcome w (length out) room)) (one_more u) u ≡ Some y → BegunIn (turned_words w (length out) room) y
      of None h e = at (acts (turned_outcome w (length out) room)) e
        where
          at : (b : Bool) → cond b None None ≡ Some y → BegunIn (turned_words w (length out) room) y
          at true e = absurd (none_begun y e)
          at false e = absurd (none_begun y e)
      of (Some z) h e = at (acts (turned_outcome w (length out) room)) e (turn_lined w z.turns z.terms (h z refl) out room)
        where
          at : (b : Bool) → cond b (one_more (Some z)) (Some z) ≡ Some y → Stepped (turned_words w (length out) room) (cond b (z.turns + 1) z.turns) z.terms → BegunIn (turned_words w (length out) room) y
          at true e s = begun_as (turned_words w (length out) room) (record { terms = z.terms; turns = z.turns + 1 }) y e s
          at false e s = begun_as (turned_words w (length out) room) z y e s

  restore_begun : (v journal : List ℕ) (room : ℕ) (b : Bool) → accepted (restore_answer v journal room) ≡ b →
      cond b (Some (record { terms = terms_of (restored_words v journal room); turns = turn_lines (lines_of journal) })) (cond (same_words v w) x None) ≡ Some y → BegunIn (restored_words v journal room) y
  restore_begun v journal room true f e =
      begun_as (restored_words v journal room) (record { terms = terms_of (restored_words v journal room); turns = turn_lines (lines_of journal) }) y e (restore_stepped v journal room f)
  restore_begun v journal room false f e = rw (restore_refused v journal room f) (of (same_words v w) refl e)
    where
      of : (b : Bool) → same_words v w ≡ b → cond b x None ≡ Some y → BegunIn v y
      of true g e = rw (same_words_lem v w g) (before y e)
      of false g e = absurd (none_begun y e)

  call_begun : (c : Call engine) → session_after c w x ≡ Some y → BegunIn (left engine c w) y
  call_begun (opening p o) e = opening_begun o.given o.line _ refl e
  call_begun (delivery p m b) e = deliver_lined w y.turns y.terms (before y e) m b.list b.line
  call_begun (turn p l) e = turn_begun l.message l.line e
  call_begun (report p r) e = before y e
  call_begun (restore p v r) e = restore_begun v r.journal (length r.message) _ refl e
  call_begun (recording p b) e = record_lined w y.turns y.terms (before y e) b.vote b.round b.bit b.line

module _ (start : ℕ → List ℕ) where
  pub calls_begun : (cs : List (Call engine)) (q : ℕ) (y : Begun) → session_at start cs q ≡ Some y → BegunIn (words engine start cs q) y
  unfolding session_at words traced
  calls_begun [] q y e = absurd (none_begun y e)
  calls_begun (c ∷ cs) q y e = of (eqb q (place engine c)) (calls_begun cs q) e
    where
      of : (b : Bool) → ((z : Begun) → session_at start cs q ≡ Some z → BegunIn (words engine start cs q) z) →
          cond b (session_after c (words engine start cs q) (session_at start cs q)) (session_at start cs q) ≡ Some y → BegunIn (cond b (left engine c (words engine start cs q)) (words engine start cs q)) y
      of true again e = call_begun (words engine start cs q) (session_at start cs q) again y c e
      of false again e = again y e

  pub calls_going : (cs : List (Call engine)) (q : ℕ) (y : Begun) → session_at start cs q ≡ Some y → Going y.terms (words engine start cs q) y.turns
  calls_going cs q y e = stepped_going (words engine start cs q) y.turns y.terms (calls_begun cs q y e)

pub turn_count_lem : TurnCount
unfolding TurnCount
turn_count_lem start cs q y e = going_counted y.terms (words engine start cs q) y.turns (calls_going start cs q y e)
