-- What the contracts of the calls say is what the machine says.
use Rattle.std.specs.Prelude.{ℕ, true, List, ◌≡◌, refl, length, take, Result, Ok, Err}
use Rattle.std.proofs.lemmas.Bool.{false≢true}
use Rattle.std.proofs.Common.{sym, ap, ◌∙◌}
use Rattle.wire.specs.Message.{length_of}
use Rattle.opening.specs.Arguments.{Arguments}
use Rattle.journal.specs.Lines.{opening_line, delivery_line, recording_line, turn_line}
use Rattle.journal.specs.Journal.{line_entry, line_bytes, open_line_answer, open_entry, opened_words, opened_bytes, deliver_line_answer, deliver_entry, delivered_words, delivered_bytes}
use Rattle.journal.specs.Journal.{record_line_answer, record_entry, record_words, record_bytes, acts, turned_outcome, turned_words, turned_message, turned_line}
use Rattle.turn.specs.declared.Outcome.{Outcome}
use Rattle.restore.specs.Restoring.{restore_answer, restored_words}
use Rattle.restore.specs.Restoring as restoring
use Rattle.restore.specs.declared.Restored.{Restored}
use Rattle.report.specs.laws.Report.{front_read}
use Rattle.calls.specs.Engine.{OpeningGiven, Bytes, TurnLent, BitGiven, RestoreLent}
use Rattle.engine_calls.specs.Answers.{accepted, line_in, OpensAs, DeliversAs, RecordsAs, TurnsAs, RestoresAs}
use Rattle.settings.specs.declared.refusal.Refusal.{Refusal}
use Rattle.restore.specs.declared.RestoreError.{RestoreError}
use Rattle.std.specs.Result.{is_ok}

-- a call and its line
module _ (a : Result (Unit {0}) Refusal) (line lent : List ℕ) (r : Result ℕ Refusal) (e : r ≡ line_entry a line) (bytes : List ℕ) (f : bytes ≡ line_bytes a line lent) where
  entry_answer : accepted r ≡ is_ok a
  unfolding line_entry
  entry_answer = rw e (go a)
    where
      go : (x : Result (Unit {0}) Refusal) → accepted (line_entry x line) ≡ is_ok x
      go (Ok tt) = refl
      go (Err k) = refl

  entry_line : accepted r ≡ true → line_in r bytes ≡ line
  unfolding line_entry line_bytes
  entry_line = rw (e, f) (go a)
    where
      go : (x : Result (Unit {0}) Refusal) → accepted (line_entry x line) ≡ true → line_in (line_entry x line) (line_bytes x line lent) ≡ line
      go (Ok tt) t = front_read line lent
      go (Err k) t = absurd (false≢true t)

module _ (w : List ℕ) (a : Arguments) (lent : List ℕ) (r : Result ℕ Refusal) (after bytes : List ℕ) where
  pub opens_by : r ≡ open_entry (length w) a (length lent) → after ≡ opened_words w a (length lent) → bytes ≡ opened_bytes (length w) a lent →
      (o : OpeningGiven) → o.given ≡ a → o.line ≡ length lent → OpensAs w o r after bytes
  unfolding open_entry opened_bytes
  opens_by e f g o p q =
      record {
        answer = rw (p, q) (entry_answer (open_line_answer (length w) a (length lent)) (opening_line a) lent r e bytes g);
        words = rw (p, q) f;
        written = rw p (entry_line (open_line_answer (length w) a (length lent)) (opening_line a) lent r e bytes g);
      }

module _ (w : List ℕ) (link : ℕ) (message lent : List ℕ) (r : Result ℕ Refusal) (after bytes : List ℕ) where
  pub delivers_by : r ≡ deliver_entry w link message (length lent) → after ≡ delivered_words w link message (length lent) → bytes ≡ delivered_bytes w link message lent →
      (b : Bytes) → b.list ≡ message → b.line ≡ length lent → DeliversAs w link b r after bytes
  unfolding deliver_entry delivered_bytes
  delivers_by e f g b p q =
      record {
        answer = rw (p, q) (entry_answer (deliver_line_answer w link message (length lent)) (delivery_line link message) lent r e bytes g);
        words = rw (p, q) f;
        written = rw p (entry_line (deliver_line_answer w link message (length lent)) (delivery_line link message) lent r e bytes g);
      }

module _ (w : List ℕ) (i k b : ℕ) (lent : List ℕ) (r : Result ℕ Refusal) (after bytes : List ℕ) where
  pub records_by : r ≡ record_entry w i k b (length lent) → after ≡ record_words w i k b (length lent) → bytes ≡ record_bytes w i k b lent →
      (x : BitGiven) → x.vote ≡ i → x.round ≡ k → x.bit ≡ b → x.line ≡ length lent → RecordsAs w x r after bytes
  unfolding record_entry record_bytes
  records_by e f g x v k' b' q =
      record {
        answer = rw (v, k', b', q) (entry_answer (record_line_answer w i k b (length lent)) (recording_line i k b) lent r e bytes g);
        words = rw (v, k', b', q) f;
        written = rw (v, k', b') (entry_line (record_line_answer w i k b (length lent)) (recording_line i k b) lent r e bytes g);
      }

-- a turn that acts writes its line
turn_line_in : (w : List ℕ) (room : ℕ) (lent : List ℕ) → acts (turned_outcome w room (length lent)) ≡ true → take (length turn_line) (turned_line w room lent) ≡ turn_line
unfolding turned_line
turn_line_in w room lent e = rw e (front_read turn_line lent)

module _ (w message lent : List ℕ) (r : Result Outcome Refusal) (after sent bytes : List ℕ) where
  pub turns_by : r ≡ turned_outcome w (length message) (length lent) → after ≡ turned_words w (length message) (length lent) →
      sent ≡ turned_message w message (length lent) → bytes ≡ turned_line w (length message) lent →
      (l : TurnLent) → l.message ≡ message → l.line ≡ length lent → TurnsAs w l r after sent bytes
  turns_by e f g h l p q =
      record {
        answer = rw (p, q) (ap acts e);
        words = rw (p, q) f;
        sends = λ m t b s. record { message = m; outcome = rw (p, q) (sym e ∙ t); bytes = rw (p, q) (s ∙ ap (take (length_of m)) g) };
        written = λ t. ap (take (length turn_line)) h ∙ turn_line_in w (length message) lent (sym (ap acts e) ∙ t);
      }

module _ (w journal message : List ℕ) (r : Result Restored RestoreError) (after : List ℕ) where
  pub restores_by : r ≡ restore_answer w journal (length message) → after ≡ restored_words w journal (length message) →
      (l : RestoreLent) → l.journal ≡ journal → l.message ≡ message → RestoresAs w l r after
  restores_by e f l p q = record { answer = rw (p, q) (ap restoring.accepted e); words = rw (p, q) f }
