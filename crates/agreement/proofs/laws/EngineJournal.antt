-- The engine reads back its journal: the words after each line are those after the call that wrote it, so a restore of a cut leaves the words
-- after the last complete line.
use Rattle.std.specs.Prelude.{ℕ, suc, ◌+◌, true, false, cond, List, [], ◌∷◌, ◌++◌, ◌≡◌, refl, length, Option, Some, None, Result, Ok, Err}
use Rattle.std.proofs.lemmas.Bool.{false≢true}
use Rattle.std.proofs.Common.{sym, ap, ◌∙◌, arith}
use Rattle.wire_laws.specs.Proper.{AllBytes}
use Rattle.opening.specs.Opening.{open_answer}
use Rattle.text.specs.Fields.{LF}
use Rattle.journal.specs.Lines.{opening_text, delivery_text, turn_text, recording_text, with_end}
use Rattle.journal.specs.Journal.{turn_room}
use Rattle.restore.specs.Complete.{lines_of, joined}
use Rattle.restore.specs.Restoring.{Point, first_line, next_line, Replay, wrong, right, applied_or, further, replay, replay_answer, replay_words, lent_answer, where_lent, accepted, restore_answer, restored_words}
use Rattle.restore.specs.laws.Written.{Without, AllWithout, lines_joined, joined_more, all_more, free_part, replay_one, replay_more}
use Rattle.restore.specs.laws.WrittenLines.{EachByte, opening_without, delivery_without, turn_without, recording_without, first_reads, delivery_reads, turn_reads, recording_reads}
use Rattle.calls.specs.Machine.{Call, opening, delivery, turn, report, restore, recording}
use Rattle.agreement.specs.Journals.{line}
use Rattle.calls.specs.Engine.{OpeningGiven, Bytes, TurnLent, RestoreLent, BitGiven, engine}
use Rattle.agreement.proofs.laws.Machine.{Ran, by_opening, by_delivery, by_turn, by_recording, Torn, nothing, part}
use Rattle.agreement.proofs.laws.EngineOpening.{without_line, told, opened_first}
use Rattle.agreement.specs.EngineRestores.{Last}
use Rattle.agreement.proofs.laws.EngineDelivery as deliveries
use Rattle.agreement.proofs.laws.EngineRecording as recordings
use Rattle.std.specs.Result.{is_ok}
use Rattle.settings.specs.declared.refusal.Refusal.{Refusal}

abbrev pub words_before : Last → Option (List ℕ)
words_before None = None
words_before (Some x) = Some x.0

-- what lines come to
abbrev pub point : List ℕ → Last → Point
point w last = record { words = w; turned = words_before last }

open_again : (w : List ℕ) (o : OpeningGiven) → engine.opens w o ≡ true → first_line (opening_text o.given) ≡ Some (point (engine.opened w o) None)
open_again w o e =
    let taken = ap (λ (k : ℕ). open_answer k o.given) (sym (told w o e).size) ∙ (without_line w o e).0 in
    rw (opened_first w o e) (first_reads o.given taken o.session_fits o.input_fits o.coins_fit)

each_byte : (b : List ℕ) → AllBytes b → EachByte b
each_byte [] h = tt
each_byte (x ∷ b) h = (h 0, each_byte b (λ i. h (suc i)))

deliver_again : (w : List ℕ) (m : ℕ) (b : Bytes) → engine.accepts w m b ≡ true → next_line w (delivery_text m b.list) ≡ Some (point (engine.delivered w m b) None)
deliver_again w m b e =
    let k = deliveries.without_line w m b e in
    rw (deliveries.delivered_words_lem w m b k.1) (delivery_reads w m b.list (each_byte b.list b.each) k.0)

turn_again : (w : List ℕ) (l : TurnLent) → engine.acts w l ≡ true → next_line w turn_text ≡ Some (point (engine.turned w l) (Some (w, l)))
turn_again w l e = turn_reads w (turn_room (length l.message) l.line) e

record_again : (w : List ℕ) (x : BitGiven) → engine.records w x ≡ true → next_line w (recording_text x.vote x.round x.bit) ≡ Some (point (engine.recorded w x) None)
record_again w x e =
    let k = recordings.without_line w x e in
    rw (recordings.recorded_words_lem w x k.1) (recording_reads w x.vote x.round x.bit k.0)

pub record Lines (t : List ℕ) (x : Point) : Type 0 where
  pub oldest : List ℕ
  pub others : List (List ℕ)
  pub free : AllWithout LF (oldest ∷ others)
  pub text : t ≡ joined (oldest ∷ others)
  pub replays : replay (oldest ∷ others) ≡ right x

more : (t : List ℕ) (x y : Point) (b l : List ℕ) → Lines t x → l ≡ b ++ (LF ∷ []) → Without LF b → next_line x.words b ≡ Some y → Lines (t ++ l) y
unfolding further applied_or
more t x y b l s e f n =
    record {
      oldest = s.oldest;
      others = s.others ++ (b ∷ []);
      free = all_more (s.oldest ∷ s.others) b s.free f;
      text = ap (λ (k : List ℕ). k ++ l) s.text ∙ ap (λ (k : List ℕ). joined (s.oldest ∷ s.others) ++ k) e ∙ sym (joined_more (s.oldest ∷ s.others) b);
      replays = replay_more s.oldest s.others b ∙ ap (λ (z : Replay). further (2 + length s.others) z b) s.replays ∙ ap (applied_or (2 + length s.others)) n;
    }

ran_lines : (t w : List ℕ) (last : Last) → Ran engine t w last → Lines t (point w last)
unfolding applied_or with_end
ran_lines _ _ _ (by_opening w o e) =
    record {
      oldest = opening_text o.given;
      others = [];
      free = (opening_without o.given, tt);
      text = refl;
      replays = replay_one (opening_text o.given) ∙ ap (applied_or 1) (open_again w o e);
    }
ran_lines _ _ _ (by_delivery t w last m b r e) = more t (point w last) (point (engine.delivered w m b) None) (delivery_text m b.list) (engine.delivery_line_lem m b) (ran_lines t w last r) refl (delivery_without m b.list) (deliver_again w m b e)
ran_lines _ _ _ (by_turn t w last l r e) = more t (point w last) (point (engine.turned w l) (Some (w, l))) turn_text engine.turn_line_lem (ran_lines t w last r) refl turn_without (turn_again w l e)
ran_lines _ _ _ (by_recording t w last x r e) = more t (point w last) (point (engine.recorded w x) None) (recording_text x.vote x.round x.bit) (engine.recording_line_lem x) (ran_lines t w last r) refl (recording_without x.vote x.round x.bit) (record_again w x e)

torn_free : (rest : List ℕ) → Torn engine rest → Without LF rest
unfolding with_end
torn_free rest (nothing e) = rw e tt
torn_free rest (part c more e ne) = at c e
  where
    none_left : (rest : List ℕ) → rest ++ more ≡ [] → Without LF rest
    none_left [] f = tt
    none_left (x ∷ xs) f = absurd (let z : ◌≡◌ {A = ℕ} 0 1 = cc in omega arith)

    at : (c : Call engine) → rest ++ more ≡ line engine c → Without LF rest
    at (opening p o) f = free_part rest more (opening_text o.given) f ne (opening_without o.given)
    at (delivery p m b) f = free_part rest more (delivery_text m b.list) f ne (delivery_without m b.list)
    at (turn p l) f = free_part rest more turn_text f ne turn_without
    at (report p r) f = none_left rest f
    at (restore p v r) f = none_left rest f
    at (recording p x) f = free_part rest more (recording_text x.vote x.round x.bit) f ne (recording_without x.vote x.round x.bit)

-- the complete lines of a cut are those lines, and they come to the words after the last of them
pub record CutRead (text t w : List ℕ) (last : Last) : Type 0 where
  pub replays : replay (lines_of text) ≡ right (point w last)
  pub lines : joined (lines_of text) ≡ t

pub cut_read : (text t rest w : List ℕ) (last : Last) → Ran engine t w last → Torn engine rest → text ≡ t ++ rest → CutRead text t w last
cut_read text t rest w last r torn e =
    let x = ran_lines t w last r in
    let same : lines_of text ≡ x.oldest ∷ x.others = ap lines_of (e ∙ ap (λ (l : List ℕ). l ++ rest) x.text) ∙ lines_joined (x.oldest ∷ x.others) rest x.free (torn_free rest torn) in
    record { replays = ap replay same ∙ x.replays; lines = ap joined same ∙ sym x.text }

pub restore_refused : (v : List ℕ) (r : RestoreLent) → engine.restores v r ≡ false → engine.restored v r ≡ v
unfolding restore_answer restored_words accepted replay_answer replay_words
restore_refused v r e = at (lent_answer (length v) (length r.message)) (replay (lines_of r.journal)) e
  where
    at : (a : Result (Unit {0}) Refusal) (x : Replay) → accepted (where_lent a (replay_answer x (length (joined (lines_of r.journal))))) ≡ false → cond (is_ok a) (replay_words x v) v ≡ v
    at (Err k) x f = refl
    at (Ok tt) (wrong k) f = refl
    at (Ok tt) (right x) f = absurd (false≢true (sym f))

pub restore_ran : (v : List ℕ) (r : RestoreLent) (t rest w : List ℕ) (last : Last) → Ran engine t w last → Torn engine rest → r.journal ≡ t ++ rest → engine.restores v r ≡ true → engine.restored v r ≡ w
unfolding restore_answer restored_words accepted replay_answer replay_words
restore_ran v r t rest w last ran torn e f = rw (cut_read r.journal t rest w last ran torn e).replays (at (lent_answer (length v) (length r.message)) f)
  where
    at : (a : Result (Unit {0}) Refusal) → accepted (where_lent a (replay_answer (replay (lines_of r.journal)) (length (joined (lines_of r.journal))))) ≡ true → cond (is_ok a) w v ≡ w
    at (Ok tt) g = refl
    at (Err k) g = absurd (false≢true g)
