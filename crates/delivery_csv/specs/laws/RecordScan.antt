-- What judging byte by byte comes to, and how far it counts.
use Rattle.std.specs.Prelude.{ℕ, ◌+◌, ◌≤◌, Bool, true, false, cond, List, [], ◌∷◌, ◌≡◌, refl, length, Err, Option}
use Rattle.std.proofs.lemmas.Bool.{false≢true}
use Rattle.std.proofs.Common.{sym, ◌∙◌, arith}
use Rattle.delivery_csv.specs.Fields.{bad, good}
use Rattle.delivery_csv.specs.laws.Outcomes.{not_good, text_after, next_number_lem}
use Rattle.delivery_csv.specs.laws.Room.{passed, answered, spent, room_answer, answer_in, answer_more}
use Rattle.delivery_csv.specs.laws.RecordReader.{reading, start, fed, ends, advanced, broken_in, shown, shown_text, broken, end_text, run, emitted, scanned, scanned_all, scan_answer}
use Rattle.delivery_csv.specs.declared.RecordReader.{RecordReader}
use Rattle.delivery_csv.specs.declared.scan.Scan.{Scan}
use Rattle.delivery_csv.specs.declared.ConversionError.TheVariants.{Record}

scan_end : (all : ℕ) (x : Scan RecordReader) → scan_answer all x ≡ answer_in all x.room (run x.reader (x.count + 1) [])
unfolding scan_answer run answer_in shown answered
scan_end all x = go (broken x.reader)
  where
    go : (t : Bool) →
        cond t (Err (Record (x.count + 1))) (room_answer all (spent x.room (length (end_text x.reader))))
        ≡ answer_in all x.room (cond t (bad (x.count + 1)) (good (end_text x.reader)))
    go true = refl
    go false = refl

scan_byte : (all : ℕ) (x : Scan RecordReader) (b : ℕ) (t : List ℕ) →
    answer_in all (scanned x b).room (run (scanned x b).reader ((scanned x b).count + 1) t)
    ≡ answer_in all x.room (run x.reader (x.count + 1) (b ∷ t))
unfolding scanned run shown passed
scan_byte all x b t =
    rw (next_number_lem (ends x.reader b) x.count)
    (sym (answer_more all x.room (shown_text (shown x.reader b)) (run (advanced x.reader b) (cond (ends x.reader b) (x.count + 1 + 1) (x.count + 1)) t)))

pub scan_run : (t : List ℕ) (all : ℕ) (x : Scan RecordReader) → scan_answer all (scanned_all x t) ≡ answer_in all x.room (run x.reader (x.count + 1) t)
unfolding scanned_all
scan_run [] all x = scan_end all x
scan_run (b ∷ t) all x = scan_run t all (scanned x b) ∙ scan_byte all x b t

emitted_end : (r : Option RecordReader) (n : ℕ) (u : List ℕ) → run r n [] ≡ good u → u ≡ emitted r []
unfolding run emitted shown
emitted_end r n u = go (broken r)
  where
    go : (t : Bool) → cond t (bad n) (good (end_text r)) ≡ good u → u ≡ end_text r
    go true e = not_good n u e
    go false e = cc

-- where a text is taken, what is written is its lines
pub run_emitted : (t : List ℕ) (r : Option RecordReader) (n : ℕ) (u : List ℕ) → run r n t ≡ good u → u ≡ emitted r t
unfolding run emitted shown
run_emitted [] r n u e = emitted_end r n u e
run_emitted (b ∷ t) r n u e =
    text_after (shown_text (shown r b)) (emitted (advanced r b) t) u (run (advanced r b) (cond (ends r b) (n + 1) n) t)
    (run_emitted t (advanced r b) (cond (ends r b) (n + 1) n)) e

-- n records are over and k bytes read, and r reads the record after them: one that is not taken has a byte
pub record Counted (r : Option RecordReader) (n k : ℕ) : Type 0 where
  pub over : n ≤ k
  pub unfinished : broken r ≡ true → n + 1 ≤ k

pub counted_start : Counted start 0 0
unfolding broken broken_in start reading shown
counted_start = record { over = omega arith; unfinished = λ z. absurd (false≢true z) }

counted_byte : (r : Option RecordReader) (n k : ℕ) (t : Bool) → n ≤ k → Counted (cond t start r) (cond t (n + 1) n) (k + 1)
unfolding broken broken_in start reading shown
counted_byte r n k true h = record { over = omega arith; unfinished = λ z. absurd (false≢true z) }
counted_byte r n k false h = record { over = omega arith; unfinished = λ z. omega arith }

pub counted_next : (x : Scan RecordReader) (b k : ℕ) → Counted x.reader x.count k → Counted (scanned x b).reader (scanned x b).count (k + 1)
unfolding scanned advanced passed
counted_next x b k h = counted_byte (fed x.reader b) x.count k (ends x.reader b) h.over
