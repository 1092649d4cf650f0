-- No delivery, turn or recording changes a word of the settings.
use Rattle.std.specs.Prelude.{ℕ, ◌≤◌, Bool, true, false, cond, List, ◌≢◌, ◌≡◌, refl, ltb, drop, Result, Ok, Err}
use Rattle.std.proofs.Common.{inl, inr, ap, ◌∙◌, arith}
use Rattle.records.specs.Layout.{n_at, coin_at}
use Rattle.records.specs.Records.{version}
use Rattle.records.specs.Words.{word}
use Rattle.session.specs.Session.{settings_of, session_with, session_of}
use Rattle.wire.specs.declared.Message.{Message}
use Rattle.wire_laws.proofs.laws.Forms.{Form}
use Rattle.wire_laws.proofs.Converse.{taken_form}
use Rattle.delivery.specs.Delivery.{verdict, recorded, words_after, delivered}
use Rattle.delivery.specs.laws.Frame.{InLayout}
use Rattle.delivery.specs.laws.Kept.{in_layout_lem, word_untouched, word_free}
use Rattle.delivery.specs.laws.Accepting.{Accepting, accepting}
use Rattle.recording.specs.Recording.{record_answer, recorded_words}
use Rattle.recording.specs.laws.Recording.{Recordable, accepted, refused_same, accepted_marks, other_word}
use Rattle.turn.specs.Due.{due}
use Rattle.turn.specs.Turn.{admits, taking, turn_words}
use Rattle.turn.specs.laws.Admitting.{admitting, admitted_ruled}
use Rattle.turn.specs.laws.Due.{due_told}
use Rattle.turn.proofs.laws.Frame.{Kept, setting, between, told_placed, applied_kept}
use Rattle.journal.specs.Journal.{LINE_BYTES, line_words, delivered_words, record_words}
use Rattle.call_laws.specs.SettingsKept.{SettingWord, SettingsKept}
use Rattle.settings.specs.declared.refusal.Refusal.{Refusal}
use Rattle.session.specs.declared.Session.{Session}
use Rattle.settings.specs.laws.Answers.{true_taken}
use Rattle.std.specs.Result.{is_ok}

-- whether the line is lent enough or not
lined : (room : ℕ) (before after : List ℕ) (a : ℕ) → word after a ≡ word before a → word (line_words room before after) a ≡ word before a
unfolding line_words
lined room before after a e = go (ltb room LINE_BYTES)
  where
    go : (b : Bool) → word (cond b before after) a ≡ word before a
    go true = refl
    go false = e

recorded_keeps : (s v : List ℕ) (p : ℕ) (m : Message) (a : ℕ) → InLayout p m → SettingWord a → word (recorded s p m v) a ≡ word s a
recorded_keeps s v p m a h (inl l) = word_untouched s v p m a h (inl (omega arith))
recorded_keeps s v p m a h (inr (inl e)) = word_free s v p m a h (omega arith) (omega arith)
recorded_keeps s v p m a h (inr (inr (inl e))) = word_free s v p m a h (omega arith) (omega arith)
recorded_keeps s v p m a h (inr (inr (inr e))) = word_free s v p m a h (omega arith) (omega arith)

-- the message of an accepted delivery is within the layout
pub accepted_layout : (s : List ℕ) (link : ℕ) (b : List ℕ) (m : Message) → Accepting s link b m → InLayout link m
unfolding session_of session_with settings_of
accepted_layout s link b m x =
    let f : Form (version s) (word s n_at) (session_of s).number link b m = taken_form (version s) (word s n_at) (session_of s).number link b m x.taken in
    in_layout_lem (word s n_at) link m x.state.ruled.few f.link_low f.link_high f.layout

delivery_keeps : (s : List ℕ) (link : ℕ) (b : List ℕ) (a : ℕ) → SettingWord a → word (delivered s link b) a ≡ word s a
unfolding delivered words_after
delivery_keeps s link b a h = go (verdict s link b) refl
  where
    go : (y : Result Message Refusal) → verdict s link b ≡ y → word (words_after y s link b) a ≡ word s a
    go (Err k) e = refl
    go (Ok m) e = recorded_keeps s (drop 12 b) link m a (accepted_layout s link b m (accepting s link b m e)) h

kept : (a : ℕ) → SettingWord a → Kept a
kept a (inl l) = setting (omega arith)
kept a (inr (inl e)) = between (omega arith) (omega arith)
kept a (inr (inr (inl e))) = between (omega arith) (omega arith)
kept a (inr (inr (inr e))) = between (omega arith) (omega arith)

turn_keeps : (s : List ℕ) (room a : ℕ) → SettingWord a → word (turn_words s room) a ≡ word s a
unfolding taking turn_words
turn_keeps s room a h = go (admits s room) refl
  where
    go : (y : Result Session Refusal) → admits s room ≡ y → word (turn_words s room) a ≡ word s a
    go (Err k) e = rw e
    go (Ok x) e =
        let r = admitted_ruled s room x (admitting s room x e) in
        rw e (applied_kept s (due x.settings s) (told_placed x.settings s r (due x.settings s) (due_told x.settings s r)) a (kept a h))

-- the coin words stand elsewhere
coin_apart : (a i : ℕ) → SettingWord a → 1 ≤ i → i ≤ 16 → a ≢ coin_at i
coin_apart a i (inl l) lo hi = λ e. omega arith
coin_apart a i (inr (inl q)) lo hi = λ e. omega arith
coin_apart a i (inr (inr (inl q))) lo hi = λ e. omega arith
coin_apart a i (inr (inr (inr q))) lo hi = λ e. omega arith

vote_few : (s : List ℕ) (i r b : ℕ) → Recordable s i r b → i ≤ 16
unfolding settings_of
vote_few s i r b x = omega (arith, x.vote_high, x.state.ruled.few)

recording_keeps : (s : List ℕ) (i r b a : ℕ) → SettingWord a → word (recorded_words s i r b) a ≡ word s a
recording_keeps s i r b a h = go (is_ok (record_answer s i r b)) refl
  where
    go : (t : Bool) → is_ok (record_answer s i r b) ≡ t → word (recorded_words s i r b) a ≡ word s a
    go false e = ap (λ (w : List ℕ). word w a) (refused_same s i r b e)
    go true e =
        let x = accepted s i r b (true_taken (record_answer s i r b) e) in
        ap (λ (w : List ℕ). word w a) (accepted_marks s i r b e) ∙ other_word s i r b x a (coin_apart a i h x.vote_low (vote_few s i r b x))

pub settings_kept : SettingsKept
unfolding delivered_words record_words
settings_kept =
    record {
      delivery = λ s link b line a h. lined line s _ a (delivery_keeps s link b a h);
      turn = turn_keeps;
      recording = λ s i r b line a h. lined line s _ a (recording_keeps s i r b a h);
    }
