-- What the loop keeps that judges a text, and the paths of what it calls.
use Rattle.std.specs.Prelude.{ℕ, ◌+◌, ◌≤◌, ◌<◌, ◌^◌, Bool, true, List, ◌≡◌, length, get_or, drop, Result, Option, Some}
use Rattle.std.proofs.Common.{sym, ap, ◌∙◌, arith, add-one, drop_of_length-le, drop-cons}
use Rattle.delivery_csv.specs.Fields.{good}
use Rattle.delivery_csv.specs.Converting.{drill_of_csv, conversion}
use Rattle.delivery_csv.specs.laws.Room.{answered, answer_new}
use Rattle.delivery_csv.specs.laws.RecordReader.{start, broken, end_text, emitted, scanned, scanned_all, scan_answer}
use Rattle.delivery_csv.specs.laws.RecordScan.{scan_run, run_emitted, Counted, counted_start, counted_next}
use Rattle.delivery_csv.specs.laws.TextTheorem.{text_run}
use Rattle.delivery_csv.specs.declared.RecordReader.{RecordReader}
use Rattle.delivery_csv.specs.declared.scan.Scan.{Scan}
use Rattle.delivery_csv.specs.declared.ConversionError.{ConversionError}

-- ---- the loop

-- the bytes from place k on are left
pub record Scanning (t : List ℕ) (all : ℕ) (x : Scan RecordReader) (k : ℕ) : Type 0 where
  pub within : k ≤ length t
  pub answer : scan_answer all (scanned_all x (drop k t)) ≡ conversion (drill_of_csv t) all
  pub counted : Counted x.reader x.count k

whole_answer : (t : List ℕ) (all : ℕ) → scan_answer all (scanned_all (record { reader = start; count = 0; room = Some all }) t) ≡ conversion (drill_of_csv t) all
whole_answer t all =
    scan_run t all (record { reader = start; count = 0; room = Some all }) ∙ answer_new all _ ∙ ap (λ o. conversion o all) (text_run t)

pub scanning_start : (t : List ℕ) (all : ℕ) (r : Option RecordReader) (room : Option ℕ) → r ≡ start → room ≡ Some all →
    Scanning t all (record { reader = r; count = 0; room = room }) 0
scanning_start t all r room e d = rw (e, d) (record { within = omega arith; answer = whole_answer t all; counted = counted_start })

pub scanning_next : (t : List ℕ) (all : ℕ) (x y : Scan RecordReader) (k : ℕ) → Scanning t all x k → k < length t → y ≡ scanned x (get_or t k 0) → Scanning t all y (k + 1)
unfolding scanned_all
scanning_next t all x y k h l e =
    rw e
    (record {
      within = omega arith;
      answer = rw add-one (rw (drop-cons t k 0 l) at h.answer);
      counted = counted_next x (get_or t k 0) k h.counted;
    })

pub scanning_done : (t : List ℕ) (all : ℕ) (x : Scan RecordReader) (k : ℕ) (r : Result ℕ ConversionError) (e : Bool) (n : ℕ) → Scanning t all x k → length t ≤ k →
    e ≡ broken x.reader → n ≡ length (end_text x.reader) → r ≡ answered all x e n → r ≡ conversion (drill_of_csv t) all
unfolding scanned_all scan_answer
scanning_done t all x k r e n h l p q i = i ∙ rw (p, q) (rw (drop_of_length-le t l) at h.answer)

pub scanning_number : (t : List ℕ) (all : ℕ) (x : Scan RecordReader) (k : ℕ) (e : Bool) → Scanning t all x k → length t < 2 ^ 64 →
    e ≡ broken x.reader → e ≡ true → x.count + 1 < 2 ^ 64
scanning_number t all x k e h l p b = omega (arith, h.counted.unfinished (sym p ∙ b), h.within)

-- the lines of a text that is taken are what is written for it
pub records_emitted : (t u : List ℕ) → drill_of_csv t ≡ good u → u ≡ emitted start t
records_emitted t u e = run_emitted t start 1 u (text_run t ∙ e)

pub ruleset scannings = (scanning_start, scanning_next, scanning_done, scanning_number)
