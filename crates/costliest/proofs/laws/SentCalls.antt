-- The messages and bytes that a concentrator sends along a list of calls are no more than its turns could send.
use Prim.Native.Nat.{ℕ, ◌+◌}
use Rattle.std.specs.Prelude.{Bool, cond, ◌≡◌, refl, eqb, ltb, length, Option, Some, None}
use Rattle.std.proofs.Math.Bool.{true, false}
use mathlib.Core.List.{List, [], ◌∷◌}
use Rattle.opening.specs.Arguments.{Arguments}
use Rattle.delivery.specs.Delivery.{delivered}
use Rattle.recording.specs.Recording.{recorded_words}
use Rattle.turn.specs.Turn.{sent_length, turn_outcome, turn_words}
use Rattle.journal.specs.Journal.{acts, line_words, open_line_answer, opened_words, delivered_words, record_words, turn_room, turned_outcome, turned_words}
use Rattle.restore.specs.Restoring.{accepted, restore_answer, restored_words}
use Rattle.calls.specs.Machine.{Call, opening, delivery, turn, report, restore, recording, place, left, words, traced}
use Rattle.calls.specs.Engine.{engine}
use Rattle.turn_bound.specs.TurnBound.{Terms, terms_by, Begun, one_more, same_words, session_after, session_at}
use Rattle.turn_bound.proofs.laws.Count.{Going}
use Rattle.turn_bound.proofs.laws.CallCount.{open_refused, restore_refused, same_words_lem, none_begun, calls_going}
use Rattle.costliest.specs.Calls.{Calls}
use Rattle.costliest.specs.Statement.{sent_one, sent_after, sent_at, AtMostSent}
use Rattle.costliest.proofs.laws.Sent.{SentWithin, delivery_within, recording_within, turn_within, fresh_within, few_sent}
use Rattle.std.specs.Result.{is_ok}

-- the session z in the words w, in which m messages of b bytes were sent
record SentIn (w : List ℕ) (m b : ℕ) (z : Begun) : Type 0 where
  going : Going z.terms w z.turns
  within : SentWithin z.terms.settings.n w m b

-- a session of terms g was begun
record BegunWith (x : Option Begun) (g : Terms) : Type 0 where
  session : Begun
  was : x ≡ Some session
  same : session.terms ≡ g

-- a turn leaves its terms
turn_terms : (t : Bool) (x : Option Begun) (y : Begun) → cond t (one_more x) x ≡ Some y → BegunWith x y.terms
turn_terms true None y e = absurd (none_begun y e)
turn_terms true (Some z) y e = record { session = z; was = refl; same = cc }
turn_terms false x y e = record { session = y; was = e; same = refl }

-- a call on the words w of a session, if any was begun
module _ (w : List ℕ) (x : Option Begun) (m b : ℕ) (before : (z : Begun) → x ≡ Some z → SentIn w m b z) (y : Begun) where
  opening_sends : (o : Arguments) (room : ℕ) (t : Bool) → is_ok (open_line_answer (length w) o room) ≡ t → cond t (Some (record { terms = terms_by o; turns = 0 })) x ≡ Some y →
      Going y.terms (opened_words w o room) y.turns → SentWithin y.terms.settings.n (opened_words w o room) (cond t 0 m) (cond t 0 b)
  opening_sends o room true f e now = fresh_within y.terms (opened_words w o room) y.turns now
  opening_sends o room false f e now = rw (open_refused w o room f) (before y e).within

  restore_sends : (v journal : List ℕ) (room : ℕ) (z : Begun) (t : Bool) → accepted (restore_answer v journal room) ≡ t → cond t (Some z) (cond (same_words v w) x None) ≡ Some y →
      Going y.terms (restored_words v journal room) y.turns → SentWithin y.terms.settings.n (restored_words v journal room) (cond t 0 m) (cond t 0 b)
  restore_sends v journal room z true f e now = fresh_within y.terms (restored_words v journal room) y.turns now
  restore_sends v journal room z false f e now = rw (restore_refused v journal room f) (of (same_words v w) refl e)
    where
      of : (t : Bool) → same_words v w ≡ t → cond t x None ≡ Some y → SentWithin y.terms.settings.n v m b
      of true g e = rw (same_words_lem v w g) (before y e).within
      of false g e = absurd (none_begun y e)

  deliver_sends : (link : ℕ) (bytes : List ℕ) (room : ℕ) → SentIn w m b y → SentWithin y.terms.settings.n (delivered_words w link bytes room) m b
  unfolding delivered_words line_words
  deliver_sends link bytes room z = of (ltb room 512)
    where
      of : (t : Bool) → SentWithin y.terms.settings.n (cond t w (delivered w link bytes)) m b
      of true = z.within
      of false = delivery_within y.terms z.going.ruled w z.going.sound m b z.within link bytes

  record_sends : (i r bit room : ℕ) → SentIn w m b y → SentWithin y.terms.settings.n (record_words w i r bit room) m b
  unfolding record_words line_words
  record_sends i r bit room z = of (ltb room 512)
    where
      of : (t : Bool) → SentWithin y.terms.settings.n (cond t w (recorded_words w i r bit)) m b
      of true = z.within
      of false = recording_within y.terms z.going.ruled w z.going.sound m b z.within i r bit

  -- whatever session it was counted in
  turn_sends : (out : List ℕ) (room : ℕ) → cond (acts (turned_outcome w (length out) room)) (one_more x) x ≡ Some y →
      SentWithin y.terms.settings.n (turned_words w (length out) room) (sent_one (turned_outcome w (length out) room) + m) (sent_length (turned_outcome w (length out) room) + b)
  unfolding turn_room
  turn_sends out room e = of (turn_terms (acts (turned_outcome w (length out) room)) x y e)
    where
      lined : (g : Terms) (k : ℕ) → Going g w k → SentWithin g.settings.n w m b → (t : Bool) →
          SentWithin g.settings.n (turn_words w (cond t 0 (length out))) (sent_one (turn_outcome w (cond t 0 (length out))) + m) (sent_length (turn_outcome w (cond t 0 (length out))) + b)
      lined g k y z true = turn_within g y.ruled w y.sound m b z []
      lined g k y z false = turn_within g y.ruled w y.sound m b z out

      of : BegunWith x y.terms → SentWithin y.terms.settings.n (turned_words w (length out) room) (sent_one (turned_outcome w (length out) room) + m) (sent_length (turned_outcome w (length out) room) + b)
      of z = let s = before z.session z.was in lined y.terms z.session.turns (rw (← z.same) s.going) (rw (← z.same) s.within) (ltb room 512)

  call_sends : (c : Call engine) → session_after c w x ≡ Some y → Going y.terms (left engine c w) y.turns → SentWithin y.terms.settings.n (left engine c w) (sent_after sent_one c w m) (sent_after sent_length c w b)
  call_sends (opening p o) e now = opening_sends o.given o.line _ refl e now
  call_sends (delivery p l c) e now = deliver_sends l c.list c.line (before y e)
  call_sends (turn p l) e now = turn_sends l.message l.line e
  call_sends (report p r) e now = (before y e).within
  call_sends (restore p v r) e now = restore_sends v r.journal (length r.message) _ _ refl e now
  call_sends (recording p c) e now = record_sends c.vote c.round c.bit c.line (before y e)

module _ (start : ℕ → List ℕ) where
  sent_within : (cs : Calls) (q : ℕ) (y : Begun) → session_at start cs q ≡ Some y → SentWithin y.terms.settings.n (words engine start cs q) (sent_at sent_one start cs q) (sent_at sent_length start cs q)
  unfolding session_at sent_at words traced
  sent_within [] q y e = absurd (none_begun y e)
  sent_within (c ∷ cs) q y e = of (eqb q (place engine c)) (λ z f. record { going = calls_going start cs q z f; within = sent_within cs q z f }) e (calls_going start (c ∷ cs) q y e)
    where
      w : List ℕ
      w = words engine start cs q

      m : ℕ
      m = sent_at sent_one start cs q

      b : ℕ
      b = sent_at sent_length start cs q

      of : (t : Bool) → ((z : Begun) → session_at start cs q ≡ Some z → SentIn w m b z) → cond t (session_after c w (session_at start cs q)) (session_at start cs q) ≡ Some y → Going y.terms (cond t (left engine c w) w) y.turns →
          SentWithin y.terms.settings.n (cond t (left engine c w) w) (cond t (sent_after sent_one c w m) m) (cond t (sent_after sent_length c w b) b)
      of true again e now = call_sends w (session_at start cs q) m b again y c e now
      of false again e now = (again y e).within

pub at_most_sent : AtMostSent
unfolding AtMostSent
at_most_sent start cs q y e =
    let x = few_sent y.terms (words engine start cs q) y.turns _ _ (calls_going start cs q y e) (sent_within start cs q y e) in
    record { messages = x.0; bytes = x.1 }
