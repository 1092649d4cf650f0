-- Restoring: a state is rebuilt from the complete lines of a journal, one after another (PROTOCOL 11.10).
use Rattle.std.specs.Prelude.{ℕ, ◌+◌, ◌^◌, Bool, cond, ◌&&◌, not, List, [], ◌∷◌, eqb, leb, ltb, length, get_or, Option, Some, None, Result, Ok, Err}
use Rattle.settings.specs.declared.refusal.Refusal.TheVariants as refusal
use Rattle.records.specs.Layout.{state_words}
use Rattle.opening.specs.Arguments.{Arguments}
use Rattle.opening.specs.Opening.{open_answer, open_words}
use Rattle.delivery.specs.Delivery.{deliver_answer, delivered}
use Rattle.recording.specs.Recording.{record_answer, recorded_words}
use Rattle.turn.specs.Turn.{sent_length, turn_outcome, turn_words, turn_bytes}
use Rattle.text.specs.Fields.{fields, letter}
use Rattle.text.specs.Numbers.{DECIMAL, value_of, values_of}
use Rattle.journal.specs.Lines.{LETTER_O, LETTER_D, LETTER_T, LETTER_K, recording_forms}
use Rattle.journal.specs.Journal.{acts}
use Rattle.restore.specs.Complete.{lines_of, joined}
use Rattle.restore.specs.Reading.{proper, all_proper, field_at, forms_for, arguments_from, hex_right, bytes_of}
use Rattle.restore.specs.declared.Restored.{Restored}
use Rattle.restore.specs.declared.RestoreError.{RestoreError}
use Rattle.restore.specs.declared.RestoreError.TheVariants as failed
use Rattle.std.specs.Result.{is_ok}
use Rattle.settings.specs.declared.refusal.Refusal.{Refusal}

-- the bytes that a restore must be lent for a message
abbrev pub MESSAGE_BYTES : ℕ
MESSAGE_BYTES = 140

-- what some lines come to: the words after the last of them, and those before it where it is a `T`
pub record Point : Type 0 where
  pub words : List ℕ
  pub turned : Option (List ℕ)

-- An `O` line of these arguments. Its opening is accepted, or the line cannot be applied.
unfoldable pub opened_from : Arguments → Option Point
opened_from o = cond (is_ok (open_answer state_words o)) (Some (record { words = open_words o; turned = None })) None

-- .. of the numbers xs: version, n, ta, ts, own number, session, own input, coin words, weights, whether coins are boxed
unfoldable pub opening_from : (n : ℕ) → List ℕ → Option Point
opening_from n xs = cond (ltb (get_or xs 5 0) (2 ^ 32)) (opened_from (arguments_from n xs)) None

-- n stands in the second field; above 16 its opening is refused, whatever follows
unfoldable pub opening_read : (n : ℕ) → List (List ℕ) → Option Point
opening_read n fs =
    cond (leb n 16 && all_proper (forms_for n (length fs)) fs)
    (opening_from n (values_of (forms_for n (length fs)) fs))
    None

unfoldable pub first_of : List (List ℕ) → Option Point
first_of [] = None
first_of (f ∷ fs) = cond (eqb (letter f) LETTER_O) (opening_read (value_of DECIMAL (field_at fs 1)) fs) None

-- the first line
unfoldable pub first_line : List ℕ → Option Point
first_line b = first_of (fields b)

-- a `D` line at the words w
unfoldable pub delivered_from : List ℕ → List (List ℕ) → Option Point
delivered_from w [] = None
delivered_from w (l ∷ []) = None
delivered_from w (l ∷ h ∷ []) =
    cond (proper DECIMAL l && (hex_right h && is_ok (deliver_answer w (value_of DECIMAL l) (bytes_of h))))
    (Some (record { words = delivered w (value_of DECIMAL l) (bytes_of h); turned = None }))
    None
delivered_from w (l ∷ h ∷ x ∷ fs) = None

-- a `T` line: one that would be idle cannot be applied
unfoldable pub turned_from : List ℕ → List (List ℕ) → Option Point
turned_from w [] = cond (acts (turn_outcome w MESSAGE_BYTES)) (Some (record { words = turn_words w MESSAGE_BYTES; turned = Some w })) None
turned_from w (x ∷ fs) = None

-- a `K` line of the numbers xs: vote, round, bit (PROTOCOL 11.7). Its recording is accepted, or the line cannot be applied.
unfoldable pub recorded_by : List ℕ → List ℕ → Option Point
recorded_by w xs =
    cond (is_ok (record_answer w (get_or xs 0 0) (get_or xs 1 0) (get_or xs 2 0)))
    (Some (record { words = recorded_words w (get_or xs 0 0) (get_or xs 1 0) (get_or xs 2 0); turned = None }))
    None

unfoldable pub recorded_from : List ℕ → List (List ℕ) → Option Point
recorded_from w fs = cond (all_proper recording_forms fs) (recorded_by w (values_of recording_forms fs)) None

unfoldable pub next_of : List ℕ → List (List ℕ) → Option Point
next_of w [] = None
next_of w (f ∷ fs) =
    cond (eqb (letter f) LETTER_D) (delivered_from w fs)
    (cond (eqb (letter f) LETTER_K) (recorded_from w fs)
    (cond (eqb (letter f) LETTER_T) (turned_from w fs)
    None))

-- a further line, at the words w; an `O` is none
unfoldable pub next_line : List ℕ → List ℕ → Option Point
next_line w b = next_of w (fields b)

-- what the lines of a journal come to, or the number of the first line that cannot be applied, from 1
pub data Replay : Type 0 where
  wrong : ℕ → Replay
  right : Point → Replay

unfoldable pub applied_or : ℕ → Option Point → Replay
applied_or k None = wrong k
applied_or k (Some x) = right x

-- a further line of number k
unfoldable pub further : ℕ → Replay → List ℕ → Replay
further k (wrong j) b = wrong j
further k (right x) b = applied_or k (next_line x.words b)

-- further lines, the first of them of number k
unfoldable pub replay_from : ℕ → Replay → List (List ℕ) → Replay
replay_from k x [] = x
replay_from k x (b ∷ bs) = replay_from (k + 1) (further k x b) bs

-- the complete lines: without any there is no opening line
unfoldable pub replay : List (List ℕ) → Replay
replay [] = wrong 1
replay (b ∷ bs) = replay_from 2 (applied_or 1 (first_line b)) bs

-- the message of the last line, where that is a turn that sent (PROTOCOL 11.13): its length, and the lent bytes with it
unfoldable pub length_again : Option (List ℕ) → ℕ
length_again None = 0
length_again (Some w) = sent_length (turn_outcome w MESSAGE_BYTES)

unfoldable pub bytes_again : Option (List ℕ) → List ℕ → List ℕ
bytes_again None lent = lent
bytes_again (Some w) lent = turn_bytes w lent

-- the number of the first line that cannot be applied, beside 15 (PROTOCOL 9.11), or the length of the message, 0 for none, and of the complete
-- lines
unfoldable pub replay_answer : Replay → ℕ → Result Restored RestoreError
replay_answer (wrong k) bytes = Err (failed.Line k)
replay_answer (right x) bytes = Ok (record { message = length_again x.turned; bytes = bytes })

unfoldable pub replay_words : Replay → List ℕ → List ℕ
replay_words (wrong k) v = v
replay_words (right x) v = x.words

unfoldable pub replay_bytes : Replay → List ℕ → List ℕ
replay_bytes (wrong k) lent = lent
replay_bytes (right x) lent = bytes_again x.turned lent

-- whether the journal is read: not with another number of words than 2,048, which is 9, nor with too few bytes for a message, 8 (PROTOCOL 9.26)
unfoldable pub lent_answer : (words room : ℕ) → Result (Unit {0}) Refusal
lent_answer words room = cond (not (eqb words state_words)) (Err refusal.NoState) (cond (ltb room MESSAGE_BYTES) (Err refusal.Short) (Ok tt))

-- a refusal of what is lent, or what the journal comes to
abbrev pub where_lent : Result (Unit {0}) Refusal → Result Restored RestoreError → Result Restored RestoreError
where_lent (Ok tt) x = x
where_lent (Err k) x = Err (failed.Lent k)

-- Restoring onto the words v from the bytes of a journal, lent bytes for a message: its answer, the words and the lent bytes after it. On a
-- refusal both stay.
unfoldable pub restore_answer : (v journal : List ℕ) (room : ℕ) → Result Restored RestoreError
restore_answer v journal room = where_lent (lent_answer (length v) room) (replay_answer (replay (lines_of journal)) (length (joined (lines_of journal))))

unfoldable pub restored_words : (v journal : List ℕ) (room : ℕ) → List ℕ
restored_words v journal room = cond (is_ok (lent_answer (length v) room)) (replay_words (replay (lines_of journal)) v) v

unfoldable pub restored_bytes : (words : ℕ) (journal lent : List ℕ) → List ℕ
restored_bytes words journal lent = cond (is_ok (lent_answer words (length lent))) (replay_bytes (replay (lines_of journal)) lent) lent

-- a restore is accepted
unfoldable pub accepted : Result Restored RestoreError → Bool
accepted r = is_ok r
