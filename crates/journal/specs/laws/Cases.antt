-- The cases of the code of the four calls.
use Rattle.std.specs.Prelude.{ℕ, ◌≤◌, ◌<◌, Bool, not, List, [], ◌++◌, ◌≡◌, take, Result, Ok, Err}
use Rattle.std.proofs.Math.Bool.{true, false, cond}
use Rattle.std.proofs.lemmas.Bool.{false≢true}
use Rattle.std.proofs.Common.{append-nil, ap, ◌∙◌, length-take-le}
use Rattle.std.proofs.Math.Path.{refl, sym}
use native.Mathlib.Omega.{arith}
use Rattle.std.proofs.Math.Dec.{ltb}
use Rattle.std.proofs.Math.ListN.{length, drop}
use Rattle.std.proofs.Math.Seq.{take-length, drop-length}
use borrow.Author.Tests.{lt-ltb, ltb-false}
use Rattle.text.specs.Paste.{Wrote}
use Rattle.text.specs.laws.Paste.{wrote_front}
use Rattle.opening.specs.Arguments.{Arguments}
use Rattle.opening.specs.Opening.{open_answer, opened}
use Rattle.recording.specs.Recording.{record_answer, recorded_words}
use Rattle.delivery.specs.Delivery.{deliver_answer, delivered, verdict, answer_of}
use Rattle.wire.specs.Message.{at_front}
use Rattle.wire.specs.declared.Message.{Message}
use Rattle.records.specs.Records.{closed}
use Rattle.session.specs.Session.{is_state}
use Rattle.session.specs.declared.Session.{Session}
use Rattle.turn.specs.Turn.{turn_outcome, turn_words, turn_bytes, taking, admits}
use Rattle.turn.specs.declared.Outcome.{Outcome}
use Rattle.journal.specs.Lines.{opening_line, delivery_line, recording_line, turn_line}
use Rattle.journal.specs.Journal.{line_answer, line_words, line_bytes, line_entry, acts, open_line_answer, opened_words, opened_bytes, open_entry, deliver_line_answer, delivered_words, delivered_bytes, deliver_entry, record_line_answer, record_words, record_bytes, record_entry, turn_room, turned_message, turned_line}
use Rattle.journal.specs.laws.Journal.{line_answer_lem, line_words_lem, room_kept}
use Rattle.journal.specs.laws.Fitting.{opening_fits, delivery_fits, recording_fits, turn_fits}
use Rattle.settings.specs.declared.refusal.Refusal.{Refusal}
use Rattle.settings.specs.declared.refusal.Refusal.TheVariants as refusal
use Rattle.std.specs.Result.{is_ok}

-- a call with too few bytes for its line
module _ (a : Result (Unit {0}) Refusal) (room : ℕ) (h : room < 512) where
  never : is_ok (line_answer a room) ≡ false
  unfolding line_answer
  never = of a
    where
      of : (x : Result (Unit {0}) Refusal) → is_ok (line_answer x room) ≡ false
      of (Ok tt) = rw (lt-ltb room 512 h)
      of (Err k) = refl

  short_entry : a ≡ Ok tt → (line : List ℕ) → Err refusal.Short ≡ line_entry (line_answer a room) line
  unfolding line_answer line_entry
  short_entry e line = rw (e, lt-ltb room 512 h)

  short_bytes : (line lent : List ℕ) → lent ≡ line_bytes (line_answer a room) line lent
  unfolding line_bytes
  short_bytes line lent = rw never

short_words : (room : ℕ) → room < 512 → (before after : List ℕ) → before ≡ line_words room before after
unfolding line_words
short_words room h before after = rw (lt-ltb room 512 h)

-- a refused call writes nothing, whatever it is lent
module _ (a : Result (Unit {0}) Refusal) (k : Refusal) (e : a ≡ Err k) (room : ℕ) where
  refused_entry : (line : List ℕ) → Err k ≡ line_entry (line_answer a room) line
  unfolding line_answer line_entry
  refused_entry line = rw e

  refused_bytes : (line lent : List ℕ) → lent ≡ line_bytes (line_answer a room) line lent
  unfolding line_answer line_bytes
  refused_bytes line lent = rw e

-- a call that is taken, with enough
module _ (a : Result (Unit {0}) Refusal) (e : a ≡ Ok tt) (room : ℕ) (h : 512 ≤ room) where
  line_entry_lem : (line : List ℕ) (r : ℕ) → r ≡ length line → Ok r ≡ line_entry (line_answer a room) line
  unfolding line_entry
  line_entry_lem line r f = rw (line_answer_lem a room h, e, f)

  line_bytes_lem : (line lent after : List ℕ) → after ≡ line ++ drop (length line) lent → after ≡ line_bytes (line_answer a room) line lent
  unfolding line_bytes at_front
  line_bytes_lem line lent after f = rw (line_answer_lem a room h, e) f

-- opening
module _ (words : ℕ) (o : Arguments) (room : ℕ) (a : Result (Unit {0}) Refusal) where
  module _ (e : a ≡ open_answer words o) where
    pub open_short : a ≡ Ok tt → room < 512 → Err refusal.Short ≡ open_entry words o room
    unfolding open_entry open_line_answer
    open_short t h = rw (← e) (short_entry a room h t _)

    pub open_refused : (k : Refusal) → a ≡ Err k → Err k ≡ open_entry words o room
    unfolding open_entry open_line_answer
    open_refused k t = rw (← e) (refused_entry a k t room _)

module _ (words : ℕ) (o : Arguments) (lent : List ℕ) where
  pub open_short_bytes : length lent < 512 → lent ≡ opened_bytes words o lent
  unfolding opened_bytes open_line_answer
  open_short_bytes h = short_bytes _ (length lent) h _ lent

  module _ (a : Result (Unit {0}) Refusal) (e : a ≡ open_answer words o) where
    pub open_refused_bytes : (k : Refusal) → a ≡ Err k → lent ≡ opened_bytes words o lent
    unfolding opened_bytes open_line_answer
    open_refused_bytes k t = rw (← e) (refused_bytes a k t (length lent) _ lent)

    module _ (r : ℕ) (after : List ℕ) (w : Wrote (opening_line o) lent 0 r after) (h : 512 ≤ length lent) (t : a ≡ Ok tt) where
      front : (r ≡ length (opening_line o)) × (after ≡ opening_line o ++ drop (length (opening_line o)) lent)
      front = wrote_front _ lent after r w (let f = opening_fits words o (sym e ∙ t) in omega arith)

      pub open_line : Ok r ≡ open_entry words o (length lent)
      unfolding open_entry open_line_answer
      open_line = rw (← e) (line_entry_lem a t (length lent) h _ r front.0)

      pub open_bytes : after ≡ opened_bytes words o lent
      unfolding opened_bytes open_line_answer
      open_bytes = rw (← e) (line_bytes_lem a t (length lent) h _ lent after front.1)

module _ (s : List ℕ) (o : Arguments) (room : ℕ) where
  pub open_short_words : room < 512 → s ≡ opened_words s o room
  unfolding opened_words
  open_short_words h = short_words room h s _

  pub open_words_lem : (t : List ℕ) → 512 ≤ room → t ≡ opened s o → t ≡ opened_words s o room
  unfolding opened_words
  open_words_lem t h f = f ∙ sym (line_words_lem room s _ h)

pub ruleset open_cases = (open_short, open_refused, open_short_bytes, open_refused_bytes, open_line, open_bytes, open_short_words, open_words_lem)

-- delivery
module _ (s : List ℕ) (link : ℕ) (b : List ℕ) (room : ℕ) where
  module _ (v : Result Message Refusal) (e : v ≡ verdict s link b) where
    pub judged_refused : (k : Refusal) → v ≡ Err k → Err k ≡ deliver_entry s link b room
    unfolding deliver_entry deliver_line_answer deliver_answer answer_of
    judged_refused k t = refused_entry _ k (rw (← e, t)) room _

    pub judged_short : (m : Message) → v ≡ Ok m → room < 512 → Err refusal.Short ≡ deliver_entry s link b room
    unfolding deliver_entry deliver_line_answer deliver_answer answer_of
    judged_short m t h = short_entry _ room h (rw (← e, t)) _

  pub deliver_refused : (a : Result (Unit {0}) Refusal) → a ≡ deliver_answer s link b → (k : Refusal) → a ≡ Err k → Err k ≡ deliver_entry s link b room
  unfolding deliver_entry deliver_line_answer
  deliver_refused a e k t = rw (← e) (refused_entry a k t room _)

module _ (s : List ℕ) (link : ℕ) (b lent : List ℕ) where
  pub deliver_short_bytes : length lent < 512 → lent ≡ delivered_bytes s link b lent
  unfolding delivered_bytes deliver_line_answer
  deliver_short_bytes h = short_bytes _ (length lent) h _ lent

  module _ (a : Result (Unit {0}) Refusal) (e : a ≡ deliver_answer s link b) where
    pub deliver_refused_bytes : (k : Refusal) → a ≡ Err k → lent ≡ delivered_bytes s link b lent
    unfolding delivered_bytes deliver_line_answer
    deliver_refused_bytes k t = rw (← e) (refused_bytes a k t (length lent) _ lent)

    module _ (r : ℕ) (after : List ℕ) (w : Wrote (delivery_line link b) lent 0 r after) (h : 512 ≤ length lent) (t : a ≡ Ok tt) where
      delivery_front : (r ≡ length (delivery_line link b)) × (after ≡ delivery_line link b ++ drop (length (delivery_line link b)) lent)
      delivery_front = wrote_front _ lent after r w (let f = delivery_fits s link b (sym e ∙ t) in omega arith)

      pub deliver_line : Ok r ≡ deliver_entry s link b (length lent)
      unfolding deliver_entry deliver_line_answer
      deliver_line = rw (← e) (line_entry_lem a t (length lent) h _ r delivery_front.0)

      pub deliver_bytes : after ≡ delivered_bytes s link b lent
      unfolding delivered_bytes deliver_line_answer
      deliver_bytes = rw (← e) (line_bytes_lem a t (length lent) h _ lent after delivery_front.1)

module _ (s : List ℕ) (link : ℕ) (b : List ℕ) (room : ℕ) where
  pub deliver_short_words : room < 512 → s ≡ delivered_words s link b room
  unfolding delivered_words
  deliver_short_words h = short_words room h s _

  pub deliver_words : (t : List ℕ) → 512 ≤ room → t ≡ delivered s link b → t ≡ delivered_words s link b room
  unfolding delivered_words
  deliver_words t h f = f ∙ sym (line_words_lem room s _ h)

pub ruleset deliver_cases = (judged_refused, judged_short, deliver_refused, deliver_short_bytes, deliver_refused_bytes, deliver_line, deliver_bytes, deliver_short_words, deliver_words)

-- recording
module _ (s : List ℕ) (i r b room : ℕ) (a : Result (Unit {0}) Refusal) (e : a ≡ record_answer s i r b) where
  pub record_short : a ≡ Ok tt → room < 512 → Err refusal.Short ≡ record_entry s i r b room
  unfolding record_entry record_line_answer
  record_short t h = rw (← e) (short_entry a room h t _)

  pub record_refused : (k : Refusal) → a ≡ Err k → Err k ≡ record_entry s i r b room
  unfolding record_entry record_line_answer
  record_refused k t = rw (← e) (refused_entry a k t room _)

module _ (s : List ℕ) (i r b : ℕ) (lent : List ℕ) where
  pub record_short_bytes : length lent < 512 → lent ≡ record_bytes s i r b lent
  unfolding record_bytes record_line_answer
  record_short_bytes h = short_bytes _ (length lent) h _ lent

  module _ (a : Result (Unit {0}) Refusal) (e : a ≡ record_answer s i r b) where
    pub record_refused_bytes : (k : Refusal) → a ≡ Err k → lent ≡ record_bytes s i r b lent
    unfolding record_bytes record_line_answer
    record_refused_bytes k t = rw (← e) (refused_bytes a k t (length lent) _ lent)

    module _ (q : ℕ) (after : List ℕ) (w : Wrote (recording_line i r b) lent 0 q after) (h : 512 ≤ length lent) (t : a ≡ Ok tt) where
      recording_front : (q ≡ length (recording_line i r b)) × (after ≡ recording_line i r b ++ drop (length (recording_line i r b)) lent)
      recording_front = wrote_front _ lent after q w (let f = recording_fits i r b in omega arith)

      pub record_line : Ok q ≡ record_entry s i r b (length lent)
      unfolding record_entry record_line_answer
      record_line = rw (← e) (line_entry_lem a t (length lent) h _ q recording_front.0)

      pub record_bytes_lem : after ≡ record_bytes s i r b lent
      unfolding record_bytes record_line_answer
      record_bytes_lem = rw (← e) (line_bytes_lem a t (length lent) h _ lent after recording_front.1)

module _ (s : List ℕ) (i r b : ℕ) (room : ℕ) where
  pub record_short_words : room < 512 → s ≡ record_words s i r b room
  unfolding record_words
  record_short_words h = short_words room h s _

  pub record_words_lem : (t : List ℕ) → 512 ≤ room → t ≡ recorded_words s i r b → t ≡ record_words s i r b room
  unfolding record_words
  record_words_lem t h f = f ∙ sym (line_words_lem room s _ h)

pub ruleset record_cases = (record_short, record_refused, record_short_bytes, record_refused_bytes, record_line, record_bytes_lem, record_short_words, record_words_lem)

pub room_none : (room line : ℕ) → line < 512 → 0 ≡ turn_room room line
unfolding turn_room
room_none room line h = rw (lt-ltb line 512 h)

pub room_all : (room line : ℕ) → 512 ≤ line → room ≡ turn_room room line
room_all room line h = sym (room_kept room line h)

pub ruleset room_cases = (room_none, room_all)

-- a turn lent nothing is refused
none_refused : (s : List ℕ) → acts (turn_outcome s 0) ≡ false
unfolding taking turn_outcome admits
none_refused s = of (is_state s) (closed s) _
  where
    of : (t c : Bool) (taken : Session → Result Outcome Refusal) → acts (taking (cond (not t) (Err refusal.NoState) (cond c (Err refusal.Closed) (Err refusal.Short))) Err taken) ≡ false
    of false c taken = refl
    of true true taken = refl
    of true false taken = refl

-- and keeps its bytes
none_bytes : (s : List ℕ) → turn_bytes s [] ≡ []
unfolding taking turn_bytes admits
none_bytes s = of (is_state s) (closed s) _
  where
    of : (t c : Bool) (taken : Session → List ℕ) → taking (cond (not t) (Err refusal.NoState) (cond c (Err refusal.Closed) (Err refusal.Short))) (λ k. []) taken ≡ []
    of false c taken = refl
    of true true taken = refl
    of true false taken = refl

-- turn: it gets the first k bytes for its message, all or none
module _ (out : List ℕ) (line k : ℕ) (e : k ≡ turn_room (length out) line) where
  pub part_within : k ≤ length out
  unfolding turn_room
  part_within = rw e (of (ltb line 512))
    where
      of : (b : Bool) → cond b 0 (length out) ≤ length out
      of true = omega arith
      of false = omega arith

  pub part_length : k ≡ length (take k out)
  part_length = sym (length-take-le k out part_within)

  same : length (take k out) ≡ turn_room (length out) line
  same = sym part_length ∙ e

  module _ (s : List ℕ) where
    pub part_answer : (r : Result Outcome Refusal) → r ≡ turn_outcome s (length (take k out)) → r ≡ turn_outcome s (turn_room (length out) line)
    part_answer r f = f ∙ ap (turn_outcome s) same

    pub part_words : (t : List ℕ) → t ≡ turn_words s (length (take k out)) → t ≡ turn_words s (turn_room (length out) line)
    part_words t f = f ∙ ap (turn_words s) same

    pub part_message : (t : List ℕ) → t ≡ turn_bytes s (take k out) → t ++ drop k out ≡ turned_message s out line
    unfolding turned_message turn_room
    part_message t f = rw f (of (ltb line 512) e)
      where
        of : (b : Bool) → k ≡ cond b 0 (length out) → turn_bytes s (take k out) ++ drop k out ≡ cond b out (turn_bytes s out)
        of true q = rw (q, none_bytes s)
        of false q = rw (q, take-length out, drop-length out) (append-nil (turn_bytes s out))

-- the line of a turn that acts, and of one that does not
module _ (s out lent : List ℕ) (k : ℕ) (e : k ≡ turn_room (length out) (length lent)) (r : Result Outcome Refusal) (f : r ≡ turn_outcome s (length (take k out))) (b : Bool) (eb : b ≡ acts r) where
  told : acts (turn_outcome s (turn_room (length out) (length lent))) ≡ b
  told = ap acts (sym (part_answer out (length lent) k e s r f)) ∙ sym eb

  -- it was lent enough
  lent_enough : b ≡ true → 512 ≤ length lent
  unfolding turn_room
  lent_enough t = of (ltb (length lent) 512) refl (told ∙ t)
    where
      of : (c : Bool) → ltb (length lent) 512 ≡ c → acts (turn_outcome s (cond c 0 (length out))) ≡ true → 512 ≤ length lent
      of true q a = absurd (false≢true (sym (none_refused s) ∙ a))
      of false q a = ltb-false (length lent) 512 q

  pub turn_line_lem : b ≡ true → (j : ℕ) (after : List ℕ) → Wrote turn_line lent 0 j after → after ≡ turned_line s (length out) lent
  unfolding turned_line at_front
  turn_line_lem t j after w = rw (told ∙ t) (wrote_front turn_line lent after j w (let l = turn_fits in omega (arith, lent_enough t))).1

  pub turn_no_line : b ≡ false → lent ≡ turned_line s (length out) lent
  unfolding turned_line
  turn_no_line t = rw (told ∙ t)

-- an outcome, and a refusal, which writes no line
module _ (s out lent : List ℕ) (k : ℕ) (e : k ≡ turn_room (length out) (length lent)) (r : Result Outcome Refusal) (f : r ≡ turn_outcome s (length (take k out))) where
  module _ (o : Outcome) (t : r ≡ Ok o) where
    pub some_answer : Ok o ≡ turn_outcome s (turn_room (length out) (length lent))
    some_answer = sym t ∙ part_answer out (length lent) k e s r f

    module _ (b : Bool) (eb : b ≡ acts (Ok o)) where
      pub some_line : b ≡ true → (j : ℕ) (after : List ℕ) → Wrote turn_line lent 0 j after → after ≡ turned_line s (length out) lent
      some_line = turn_line_lem s out lent k e r f b (eb ∙ ap acts (sym t))

      pub some_no_line : b ≡ false → lent ≡ turned_line s (length out) lent
      some_no_line = turn_no_line s out lent k e r f b (eb ∙ ap acts (sym t))

  module _ (x : Refusal) (t : r ≡ Err x) where
    pub none_answer : Err x ≡ turn_outcome s (turn_room (length out) (length lent))
    none_answer = sym t ∙ part_answer out (length lent) k e s r f

    pub none_line : lent ≡ turned_line s (length out) lent
    none_line = turn_no_line s out lent k e r f false (sym (ap acts t)) refl

pub ruleset turn_cases = (some_answer, some_line, some_no_line, none_answer, none_line, part_within, part_length, part_words, part_message)
