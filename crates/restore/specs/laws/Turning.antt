-- A further line as the code takes it: a turn, a delivery, or a recording.
use Rattle.std.specs.Prelude.{ℕ, ◌+◌, ◌-◌, ◌≤◌, ◌<◌, Bool, true, false, cond, ◌&&◌, List, [], ◌∷◌, ◌≡◌, ltb, take, get_or, Result, Ok, Err, Option, Some, None}
use Rattle.std.proofs.Math.Path.{refl, sym, ap}
use Rattle.std.proofs.Common.{◌∙◌, arith, length-take-le}
use Rattle.std.proofs.Math.ListN.{length}
use borrow.Author.Tests.{eq-eqb, ne_eqb, le-ltb}
use Rattle.acts.specs.declared.Act.{Act}
use Rattle.acts.specs.declared.Act.TheVariants as act
use Rattle.session.specs.declared.Session.{Session}
use Rattle.settings.specs.Settings.{round_limit}
use Rattle.turn.specs.Due.{due}
use Rattle.turn.specs.Turn.{move_outcome, outcome_of, applied, admits, bytes_after, sent_length, taking, turn_outcome, turn_words, turn_bytes}
use Rattle.turn.specs.declared.Outcome.{Outcome}
use Rattle.turn.specs.declared.Outcome.TheVariants as outcome
use Rattle.wire.specs.declared.Message.{Message}
use Rattle.wire.specs.Message.{length_of}
use Rattle.recording.specs.Recording.{record_answer, recorded_words}
use Rattle.delivery.specs.Delivery.{deliver_answer, delivered}
use Rattle.text.specs.Fields.{TAB, fields, letter}
use Rattle.text.specs.Numbers.{DECIMAL, value_of, values_of}
use Rattle.journal.specs.Lines.{recording_forms}
use Rattle.journal.specs.Journal.{acts}
use Rattle.restore.specs.laws.Truth.{no_truth}
use Rattle.restore.specs.Reading.{proper, all_proper, hex_right, bytes_of}
use Rattle.restore.specs.Restoring.{Point, delivered_from, turned_from, recorded_by, recorded_from, next_of, next_line, length_again, bytes_again}
use Rattle.restore.specs.laws.Places.{place_of}
use Rattle.restore.specs.laws.Parts.{fields_at, Field, field_at}
use Rattle.restore.specs.laws.Applying.{applies, words_or, Tried, fields_past}
use Rattle.turn.specs.laws.Stored.{room_enough}
use Rattle.settings.specs.declared.refusal.Refusal.{Refusal}
use Rattle.std.specs.Result.{is_ok}

-- the answer of a line, with the length of its message
unfoldable pub applied_as : Option Point → Option ℕ
applied_as None = None
applied_as (Some x) = Some (length_again x.turned)

-- the lent bytes after a line
unfoldable pub bytes_or : List ℕ → Option Point → List ℕ
bytes_or lent None = lent
bytes_or lent (Some x) = bytes_again x.turned lent

-- a line that comes to p was applied to the words w and the lent bytes
pub record Took (p : Option Point) (w lent : List ℕ) (r : Option ℕ) (after message : List ℕ) : Type 0 where
  pub answer : r ≡ applied_as p
  pub words : after ≡ words_or w p
  pub bytes : message ≡ bytes_or lent p

-- an outcome as a line's answer
unfoldable pub outcome_applied : Result Outcome Refusal → Option ℕ
outcome_applied a = cond (acts a) (Some (sent_length a)) None

module _ (a : Result Outcome Refusal) where
  pub applied_refused : (k : Refusal) → a ≡ Err k → None ≡ outcome_applied a
  unfolding outcome_applied
  applied_refused k e = rw e

  module _ (o : Outcome) (f : a ≡ Ok o) where
    pub applied_idle : o ≡ outcome.Idle → None ≡ outcome_applied a
    unfolding outcome_applied
    applied_idle e = rw (f, e)

    pub applied_sent : (m : Message) (k : ℕ) → o ≡ outcome.Sent m → k ≡ length_of m → Some k ≡ outcome_applied a
    unfolding outcome_applied
    applied_sent m k e g = rw (f, e, g)

    pub applied_out : o ≡ outcome.MovedOut → Some 0 ≡ outcome_applied a
    unfolding outcome_applied
    applied_out e = rw (f, e)

    pub applied_force : o ≡ outcome.InForce → Some 0 ≡ outcome_applied a
    unfolding outcome_applied
    applied_force e = rw (f, e)

pub ruleset outcome_cases = (applied_refused, applied_idle, applied_sent, applied_out, applied_force)

-- whether a delivery or a recording was taken, as a line's answer
unfoldable pub taken_applied : Bool → Option ℕ
taken_applied b = cond b (Some 0) None

-- a turn that does not act leaves the words and the bytes
move_acts : (t : Bool) (o : Outcome) → acts (Ok o) ≡ true → acts (Ok (cond t o outcome.MovedOut)) ≡ true
move_acts true o e = e
move_acts false o e = refl

quiet_act : (own : ℕ) (w : List ℕ) (a : Act) → acts (Ok (outcome_of own w a)) ≡ false → applied w a ≡ w
unfolding outcome_of move_outcome applied
quiet_act own w act.Idle e = refl
quiet_act own w act.InForce e = no_truth e
quiet_act own w (act.Commit k) e = no_truth e
quiet_act own w (act.Send v) e = no_truth e
quiet_act own w (act.Echo i v) e = no_truth e
quiet_act own w (act.Ready i v) e = no_truth e
quiet_act own w (act.Start i b) e = no_truth e
quiet_act own w (act.Relay i r b) e = no_truth e
quiet_act own w (act.Aux i r b) e = no_truth e
quiet_act own w (act.Move i r v) e = no_truth (sym (move_acts (ltb r round_limit) _ refl) ∙ e)
quiet_act own w (act.Finish i b) e = no_truth e

quiet_bytes : (x : Session) (w : List ℕ) (o : Outcome) (out : List ℕ) → acts (Ok o) ≡ false → bytes_after x w o out ≡ out
unfolding bytes_after
quiet_bytes x w outcome.Idle out e = refl
quiet_bytes x w (outcome.Sent m) out e = no_truth e
quiet_bytes x w outcome.MovedOut out e = no_truth e
quiet_bytes x w outcome.InForce out e = no_truth e

quiet_turn_words : (w : List ℕ) (room : ℕ) → acts (turn_outcome w room) ≡ false → turn_words w room ≡ w
unfolding taking turn_outcome turn_words
quiet_turn_words w room e = go (admits w room) refl
  where
    go : (a : Result Session Refusal) → admits w room ≡ a → turn_words w room ≡ w
    go (Err k) f = rw f
    go (Ok x) f = rw f (quiet_act x.own w (due x.settings w) (rw f at e))

quiet_turn_bytes : (w out : List ℕ) → acts (turn_outcome w (length out)) ≡ false → turn_bytes w out ≡ out
unfolding taking turn_outcome turn_bytes
quiet_turn_bytes w out e = go (admits w (length out)) refl
  where
    go : (a : Result Session Refusal) → admits w (length out) ≡ a → turn_bytes w out ≡ out
    go (Err k) f = rw f
    go (Ok x) f = rw f (quiet_bytes x w (outcome_of x.own w (due x.settings w)) out (rw f at e))

enough_outcome : (w : List ℕ) (room : ℕ) → 140 ≤ room → turn_outcome w room ≡ turn_outcome w 140
unfolding turn_outcome
enough_outcome w room h = rw (room_enough w room h)

enough_words : (w : List ℕ) (room : ℕ) → 140 ≤ room → turn_words w room ≡ turn_words w 140
unfolding turn_words
enough_words w room h = rw (room_enough w room h)

pub turn_taken : (w lent after message : List ℕ) (a : Result Outcome Refusal) (r : Option ℕ) → 140 ≤ length lent → a ≡ turn_outcome w (length lent) → after ≡ turn_words w (length lent) → message ≡ turn_bytes w lent → r ≡ outcome_applied a → Took (turned_from w []) w lent r after message
unfolding outcome_applied turned_from applied_as words_or bytes_or length_again bytes_again
turn_taken w lent after message o r h a b c d = go (acts (turn_outcome w 140)) refl
  where
    same : turn_outcome w (length lent) ≡ turn_outcome w 140
    same = enough_outcome w (length lent) h

    what : o ≡ turn_outcome w 140
    what = a ∙ same

    go : (t : Bool) → acts (turn_outcome w 140) ≡ t → Took (turned_from w []) w lent r after message
    go true e = record { answer = d ∙ rw (what, e); words = b ∙ rw e (enough_words w (length lent) h); bytes = c ∙ rw e }
    go false e =
        record {
          answer = d ∙ rw (what, e);
          words = b ∙ rw e (quiet_turn_words w (length lent) (ap acts same ∙ e));
          bytes = c ∙ rw e (quiet_turn_bytes w lent (ap acts same ∙ e));
        }

-- the answer of a delivery or a recording
pub taken_right : (b : Bool) → b ≡ true → Some 0 ≡ taken_applied b
unfolding taken_applied
taken_right b e = rw e

pub taken_wrong : (b : Bool) → b ≡ false → None ≡ taken_applied b
unfolding taken_applied
taken_wrong b e = rw e

pub ruleset taken_answers = (taken_right, taken_wrong)

-- a delivery has no message, nor has a recording
record Quiet (lent : List ℕ) (p : Option Point) : Type 0 where
  answer : applied_as p ≡ taken_applied (applies p)
  bytes : bytes_or lent p ≡ lent

quiet_point : (lent v : List ℕ) (b : Bool) → Quiet lent (cond b (Some (record { words = v; turned = None })) None)
unfolding applied_as taken_applied applies bytes_or length_again bytes_again
quiet_point lent v true = record { answer = refl; bytes = refl }
quiet_point lent v false = record { answer = refl; bytes = refl }

quiet_delivery : (w lent : List ℕ) (fs : List (List ℕ)) → Quiet lent (delivered_from w fs)
unfolding delivered_from
quiet_delivery w lent [] = quiet_point lent w false
quiet_delivery w lent (l ∷ []) = quiet_point lent w false
quiet_delivery w lent (l ∷ h ∷ []) =
    quiet_point lent (delivered w (value_of DECIMAL l) (bytes_of h)) (proper DECIMAL l && (hex_right h && is_ok (deliver_answer w (value_of DECIMAL l) (bytes_of h))))
quiet_delivery w lent (l ∷ h ∷ x ∷ fs) = quiet_point lent w false

quiet_recording : (w lent : List ℕ) (fs : List (List ℕ)) → Quiet lent (recorded_from w fs)
unfolding recorded_from recorded_by
quiet_recording w lent fs = go (all_proper recording_forms fs)
  where
    go : (b : Bool) → Quiet lent (cond b (recorded_by w (values_of recording_forms fs)) None)
    go true =
        let xs = values_of recording_forms fs in
        quiet_point lent (recorded_words w (get_or xs 0 0) (get_or xs 1 0) (get_or xs 2 0)) (is_ok (record_answer w (get_or xs 0 0) (get_or xs 1 0) (get_or xs 2 0)))
    go false = quiet_point lent w false

pub first_field : (b : List ℕ) (e : ℕ) → Field b 0 e → fields b ≡ take e b ∷ fields_at b (e + 1)
unfolding fields_at
first_field b e h = let s : e - 0 ≡ e = omega arith in rw (s, le-ltb (length b) 0 (omega arith)) at h.field

-- the cases of a further line
pub line_front : (b : List ℕ) (e : ℕ) → Field b 0 e → e ≡ length (take e b)
line_front b e h = sym (length-take-le e b h.inside)

module _ (w b lent : List ℕ) (e c : ℕ) (h : Field b 0 e) (q : c ≡ letter (take e b)) where
  pub line_bare : c ≡ 68 → e ≡ length b → Took (next_line w b) w lent None w lent
  unfolding next_line next_of delivered_from applied_as words_or bytes_or
  line_bare d s = rw (first_field b e h, ← q, eq-eqb c 68 d, s, fields_past) (record { answer = refl; words = refl; bytes = refl })

  pub line_delivery : (t : Bool) (r : Option ℕ) (after : List ℕ) → c ≡ 68 → Tried (delivered_from w (fields_at b (e + 1))) w t after → r ≡ taken_applied t → Took (next_line w b) w lent r after lent
  unfolding next_line next_of
  line_delivery t r after d y s =
      let z : Quiet lent (delivered_from w (fields_at b (e + 1))) = quiet_delivery w lent (fields_at b (e + 1)) in
      rw (first_field b e h, ← q, eq-eqb c 68 d) (record { answer = s ∙ ap taken_applied y.answer ∙ sym z.answer; words = y.words; bytes = sym z.bytes })

  module _ (n : c ≡ 68 → ⊥) where
    pub line_recording_bare : c ≡ 75 → e ≡ length b → Took (next_line w b) w lent None w lent
    unfolding next_line next_of recorded_from all_proper applied_as words_or bytes_or
    line_recording_bare d s = rw (first_field b e h, ← q, ne_eqb c 68 n, eq-eqb c 75 d, s, fields_past) (record { answer = refl; words = refl; bytes = refl })

    pub line_recording : (t : Bool) (r : Option ℕ) (after : List ℕ) → c ≡ 75 → Tried (recorded_from w (fields_at b (e + 1))) w t after → r ≡ taken_applied t → Took (next_line w b) w lent r after lent
    unfolding next_line next_of
    line_recording t r after d y s =
        let z : Quiet lent (recorded_from w (fields_at b (e + 1))) = quiet_recording w lent (fields_at b (e + 1)) in
        rw (first_field b e h, ← q, ne_eqb c 68 n, eq-eqb c 75 d) (record { answer = s ∙ ap taken_applied y.answer ∙ sym z.answer; words = y.words; bytes = sym z.bytes })

    module _ (k : c ≡ 75 → ⊥) where
      pub line_unknown : (c ≡ 84 → ⊥) → Took (next_line w b) w lent None w lent
      unfolding next_line next_of applied_as words_or bytes_or
      line_unknown d = rw (first_field b e h, ← q, ne_eqb c 68 n, ne_eqb c 75 k, ne_eqb c 84 d) (record { answer = refl; words = refl; bytes = refl })

      module _ (d : c ≡ 84) where
        pub line_longer : e < length b → Took (next_line w b) w lent None w lent
        unfolding next_line next_of turned_from applied_as words_or bytes_or
        line_longer s = rw (first_field b e h, ← q, ne_eqb c 68 n, ne_eqb c 75 k, eq-eqb c 84 d, (field_at b (e + 1) (place_of TAB b (e + 1)) (omega arith) refl).field) (record { answer = refl; words = refl; bytes = refl })

        pub line_turn : (r : Option ℕ) (after message : List ℕ) → length b ≤ e → Took (turned_from w []) w lent r after message → Took (next_line w b) w lent r after message
        unfolding next_line next_of
        line_turn r after message s y =
            let end : e ≡ length b = omega (arith, h.inside) in
            rw (first_field b e h, ← q, ne_eqb c 68 n, ne_eqb c 75 k, eq-eqb c 84 d, ap (λ (m : ℕ). fields_at b (m + 1)) end ∙ fields_past b) y

pub ruleset line_kinds = (line_front, line_bare, line_delivery, line_recording_bare, line_recording, line_unknown, line_longer, line_turn)
