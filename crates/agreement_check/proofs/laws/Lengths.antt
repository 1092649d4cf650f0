-- No call changes the number of words; of a restore it is known where its words are.
use Rattle.std.specs.Prelude.{ℕ, Bool, true, false, cond, List, ◌≡◌, refl, ltb, length, drop, Result, Ok, Err}
use Rattle.std.proofs.Common.{◌∙◌}
use Rattle.records.specs.Layout.{state_words, coin_at}
use Rattle.records.specs.Words.{word, put, set_mark}
use Rattle.records.specs.laws.Words.{length_put}
use Rattle.opening.specs.Arguments.{Arguments}
use Rattle.opening.specs.Opening.{open_answer, open_words, opened}
use Rattle.opening.specs.laws.Opening.{length_first}
use Rattle.delivery.specs.Delivery.{verdict, words_after, delivered}
use Rattle.delivery.specs.laws.Frame.{length_recorded}
use Rattle.quorum.specs.Marks.{with_mark}
use Rattle.recording.specs.Recording.{bit_mark, record_answer, with_bit, recorded_words}
use Rattle.turn.specs.Due.{due}
use Rattle.turn.specs.Turn.{admits, taking, turn_words}
use Rattle.turn.proofs.laws.Frame.{length_applied}
use Rattle.journal.specs.Journal.{LINE_BYTES, line_words, opened_words, delivered_words, record_words, turn_room}
use Rattle.agreement.specs.Plain.{NoRestore}
use Rattle.calls.specs.Machine.{Call, opening, delivery, turn, report, restore, recording, left}
use Rattle.calls.specs.Engine.{engine}
use Rattle.wire.specs.declared.Message.{Message}
use Rattle.settings.specs.declared.refusal.Refusal.{Refusal}
use Rattle.session.specs.declared.Session.{Session}
use Rattle.std.specs.Result.{is_ok}

length_opened : (s : List ℕ) (o : Arguments) → length s ≡ state_words → length (opened s o) ≡ state_words
unfolding opened
length_opened s o e = go (is_ok (open_answer (length s) o))
  where
    go : (b : Bool) → length (cond b (open_words o) s) ≡ state_words
    go true = length_first o
    go false = e

length_delivered : (s : List ℕ) (link : ℕ) (b : List ℕ) → length (delivered s link b) ≡ length s
unfolding delivered words_after
length_delivered s link b = go (verdict s link b)
  where
    go : (x : Result Message Refusal) → length (words_after x s link b) ≡ length s
    go (Err k) = refl
    go (Ok m) = length_recorded s (drop 12 b) link m

length_turned : (s : List ℕ) (room : ℕ) → length (turn_words s room) ≡ length s
unfolding taking turn_words
length_turned s room = go (admits s room) refl
  where
    go : (x : Result Session Refusal) → admits s room ≡ x → length (turn_words s room) ≡ length s
    go (Err k) e = rw e
    go (Ok x) e = rw e (length_applied s (due x.settings s))

length_recording : (s : List ℕ) (i r b : ℕ) → length (recorded_words s i r b) ≡ length s
unfolding recorded_words with_bit set_mark
length_recording s i r b = go (is_ok (record_answer s i r b))
  where
    go : (t : Bool) → length (cond t (put s (coin_at i) (with_mark (word s (coin_at i)) (bit_mark r b))) s) ≡ length s
    go true = length_put _ _ _
    go false = refl

length_line : (room : ℕ) (before after : List ℕ) → length before ≡ state_words → length after ≡ state_words → length (line_words room before after) ≡ state_words
unfolding line_words
length_line room before after e f = go (ltb room LINE_BYTES)
  where
    go : (b : Bool) → length (cond b before after) ≡ state_words
    go true = e
    go false = f

-- the words that a call leaves of 2,048 words are as many
pub length_left : (c : Call engine) → NoRestore engine c → (w : List ℕ) → length w ≡ state_words → length (left engine c w) ≡ state_words
unfolding opened_words delivered_words record_words
length_left (opening p o) n w e = length_line o.line w _ e (length_opened w o.given e)
length_left (delivery p m b) n w e = length_line b.line w _ e (length_delivered w m b.list ∙ e)
length_left (turn p l) n w e = length_turned w (turn_room (length l.message) l.line) ∙ e
length_left (report p r) n w e = e
length_left (recording p y) n w e = length_line y.line w _ e (length_recording w y.vote y.round y.bit ∙ e)
length_left (restore p v r) n w e = absurd n
