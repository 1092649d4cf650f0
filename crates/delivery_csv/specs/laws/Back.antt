-- Conversions there and back, by the records that are read in between.
use Rattle.std.specs.Prelude.{ℕ, Bool, cond, List, [], ◌∷◌, ◌++◌, ◌≡◌, refl}
use Rattle.std.proofs.Common.{sym, subst, ◌∙◌}
use Rattle.text.specs.Fields.{LF}
use Rattle.delivery_csv.specs.Fields.{Outcome, bad, good}
use Rattle.delivery_csv.specs.Records.{records_read, records_text}
use Rattle.delivery_csv.specs.Lines.{lines_read, lines_text}
use Rattle.delivery_csv.specs.Converting.{text_of, drill_of_csv, csv_of_drill}
use Rattle.delivery_csv.specs.Back.{lacks_end, Taken, ThereAndBack}
use Rattle.delivery_csv.specs.laws.Outcomes.{not_good}
use Rattle.delivery_csv.specs.laws.Canonical.{records_of_text}
use Rattle.delivery_csv.specs.laws.Reading.{records_right, lines_of_text, lines_right, text_of_lines}

-- what a text that is written was read as
record Source (write : List (List (List ℕ)) → List ℕ) (x : Outcome (List (List (List ℕ)))) (u : List ℕ) : Type 0 where
  records : List (List (List ℕ))
  read : x ≡ good records
  text : write records ≡ u

source : (write : List (List (List ℕ)) → List ℕ) (x : Outcome (List (List (List ℕ)))) (u : List ℕ) → text_of write x ≡ good u → Source write x u
unfolding text_of
source write (bad n) u e = not_good n u e
source write (good rs) u e = record { records = rs; read = refl; text = cc }

-- lines to records and back
lines_back : (t u : List ℕ) → csv_of_drill t ≡ good u → drill_of_csv u ≡ good (cond (lacks_end t) (t ++ (LF ∷ [])) t)
unfolding csv_of_drill drill_of_csv text_of
lines_back t u e =
    let h : Source records_text (lines_read 1 t) u = source records_text (lines_read 1 t) u e in
    rw (← h.text, records_of_text 1 h.records (lines_right 1 t h.records h.read), text_of_lines 1 t h.records h.read)

-- records to lines: the lines are read as the records
record Between (t u : List ℕ) : Type 0 where
  records : List (List (List ℕ))
  before : records_read 1 t ≡ good records
  after : lines_read 1 u ≡ good records

between : (t u : List ℕ) → drill_of_csv t ≡ good u → Between t u
unfolding drill_of_csv
between t u e =
    let h : Source lines_text (records_read 1 t) u = source lines_text (records_read 1 t) u e in
    record {
      records = h.records;
      before = h.read;
      after = subst (λ (x : List ℕ). lines_read 1 x ≡ good h.records) h.text (lines_of_text 1 h.records (records_right 1 t h.records h.read));
    }

good_taken : (x : Outcome (List ℕ)) (u : List ℕ) → x ≡ good u → Taken x
unfolding Taken
good_taken (bad n) u e = not_good n u e
good_taken (good t) u e = tt

fields_back : (t u w : List ℕ) → drill_of_csv t ≡ good u → csv_of_drill u ≡ good w → records_read 1 w ≡ records_read 1 t
unfolding csv_of_drill
fields_back t u w e f =
    let h : Between t u = between t u e in
    let k : Source records_text (lines_read 1 u) w = source records_text (lines_read 1 u) w f in
    let same : good k.records ≡ good h.records = sym k.read ∙ h.after in
    subst (λ (x : List ℕ). records_read 1 x ≡ records_read 1 t) k.text
    (records_of_text 1 k.records (lines_right 1 u k.records k.read) ∙ same ∙ sym h.before)

lines_again : (t u : List ℕ) → drill_of_csv t ≡ good u → Taken (csv_of_drill u)
unfolding csv_of_drill text_of
lines_again t u e = let h : Between t u = between t u e in good_taken _ (records_text h.records) (rw h.after)

pub there_and_back : ThereAndBack
there_and_back =
    record {
      same_lines = λ t u l e. subst (λ (x : Bool). drill_of_csv u ≡ good (cond x (t ++ (LF ∷ [])) t)) l (lines_back t u e);
      line_ended = λ t u l e. subst (λ (x : Bool). drill_of_csv u ≡ good (cond x (t ++ (LF ∷ [])) t)) l (lines_back t u e);
      records_taken = λ t u e. good_taken (drill_of_csv u) _ (lines_back t u e);
      lines_taken_lem = lines_again;
      same_fields = fields_back;
    }
