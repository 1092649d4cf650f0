-- What a conversion of a part of an input says of its output.
use Rattle.std.specs.Prelude.{ℕ, suc, ◌+◌, ◌-◌, ◌≤◌, Bool, cond, List, ◌≡◌, ltb, length, take, Ok, Err}
use Rattle.std.proofs.Math.Bool.{true, false}
use Rattle.std.proofs.Math.Path.{refl, ap}
use Rattle.std.proofs.Common.{◌∙◌, arith}
use Rattle.delivery_csv.specs.Fields.{Outcome, bad, good}
use Rattle.delivery_csv.specs.Records.{turned, without_cr, records_in, record_right, record_fields, records_read, records_text}
use Rattle.delivery_csv.specs.Lines.{unturned, whole_line, lines_in, line_right, line_fields, lines_read, lines_text}
use Rattle.delivery_csv.specs.Converting.{text_of, drill_of_csv, csv_of_drill, conversion}
use Rattle.delivery_csv.specs.Parts.{turned_if, ended_part}
use Rattle.delivery_csv.specs.Stream.{Output, output_from, output_of, converted}
use Rattle.delivery_csv.specs.laws.Blocks.{text_stop}
use Rattle.delivery_csv.specs.laws.Parts.{part_counted}
use Rattle.delivery_csv.specs.laws.Stream.{output_count, streamed_as_whole}
use Rattle.delivery_csv.specs.laws.Before.{part_many, part_read}
use Rattle.delivery_csv.specs.declared.ConversionError.TheVariants as errors
use Rattle.delivery_csv.specs.declared.stream.Stop.{Stop}
use Rattle.delivery_csv.specs.declared.stream.Stop.TheVariants.{Short, Refused}

-- the answer where what stands before a refused record or line is converted
unfoldable pub refused_progress : Output → (room : ℕ) → Stop
refused_progress x room = cond (ltb room (length x.text)) Short (Refused (length x.text) x.count)

-- ---- what a conversion says of its text

-- the text is taken, and its text and count are those of the output
pub record Whole (quotes : Bool) (t u : List ℕ) : Type 0 where
  pub text : (output_of quotes t).text ≡ u
  pub taken : (output_of quotes t).refused ≡ false

pub whole : (quotes : Bool) (t u : List ℕ) → converted quotes t ≡ good u → Whole quotes t u
unfolding converted
whole true t u e = let h = streamed_as_whole.records_text_lem t u e in record { text = h.0; taken = h.1 }
whole false t u e = let h = streamed_as_whole.lines_text_lem t u e in record { text = h.0; taken = h.1 }

pub record Broken (quotes : Bool) (t : List ℕ) (n : ℕ) : Type 0 where
  pub number : (output_of quotes t).count + 1 ≡ n
  pub refused : (output_of quotes t).refused ≡ true

pub broken : (quotes : Bool) (t : List ℕ) (n : ℕ) → converted quotes t ≡ bad n → Broken quotes t n
unfolding converted
broken true t n e = let h = streamed_as_whole.records_number t n e in record { number = h.0; refused = h.1 }
broken false t n e = let h = streamed_as_whole.lines_number t n e in record { number = h.0; refused = h.1 }

pub number_positive : (quotes : Bool) (t : List ℕ) (n : ℕ) → converted quotes t ≡ bad n → 1 ≤ n
number_positive quotes t n e = omega (arith, (broken quotes t n e).number)

-- the count of an ended part that is taken
pub part_count : (quotes : Bool) (t u : List ℕ) (most : ℕ) → converted quotes (take (ended_part quotes t most).length t) ≡ good u →
    (output_of quotes (take (ended_part quotes t most).length t)).count ≡ (ended_part quotes t most).count
unfolding converted drill_of_csv csv_of_drill records_read lines_read records_in lines_in ended_part turned_if turned unturned output_of
part_count true t u most e = output_count record_right record_fields lines_text _ _ refl u e ∙ part_counted turned refl t most without_cr
part_count false t u most e = output_count line_right line_fields records_text _ _ refl u e ∙ part_counted unturned refl t most whole_line

-- what stands before a record or line that is not taken
module _ (t : List ℕ) (m : ℕ) where
  text_before : (quotes : Bool) → converted quotes t ≡ bad (suc m) → converted quotes (take (ended_part quotes t m).length t) ≡ good (output_of quotes t).text
  unfolding converted drill_of_csv csv_of_drill records_read lines_read records_in lines_in ended_part turned_if turned unturned output_of output_from text_of
  text_before true e =
      ap (text_of lines_text) (part_read record_right record_fields turned refl without_cr t m (text_stop record_right record_fields lines_text _ (suc m) e))
  text_before false e =
      ap (text_of records_text) (part_read line_right line_fields unturned refl whole_line t m (text_stop line_right line_fields records_text _ (suc m) e))

  count_before : (quotes : Bool) → converted quotes t ≡ bad (suc m) → (ended_part quotes t m).count ≡ m
  unfolding converted drill_of_csv csv_of_drill records_read lines_read records_in lines_in ended_part turned_if turned unturned
  count_before true e = part_many record_right record_fields turned refl without_cr t m (text_stop record_right record_fields lines_text _ (suc m) e)
  count_before false e = part_many line_right line_fields unturned refl whole_line t m (text_stop line_right line_fields records_text _ (suc m) e)

module _ (quotes : Bool) (t : List ℕ) (n : ℕ) (e : converted quotes t ≡ bad n) where
  after_one : converted quotes t ≡ bad (suc (n - 1))
  after_one = e ∙ ap bad (omega (arith, number_positive quotes t n e))

  pub before_text : converted quotes (take (ended_part quotes t (n - 1)).length t) ≡ good (output_of quotes t).text
  before_text = text_before t (n - 1) quotes after_one

  pub before_count : (ended_part quotes t (n - 1)).count ≡ (output_of quotes t).count
  before_count = count_before t (n - 1) quotes after_one ∙ omega (arith, (broken quotes t n e).number)

-- ---- the answers of a conversion

pub is_bad_lem : (o : Outcome (List ℕ)) (room n : ℕ) → Err (errors.Record n) ≡ conversion o room → o ≡ bad n
unfolding conversion
is_bad_lem (bad m) room n e = cc
is_bad_lem (good u) room n e = go (ltb room (length u)) e
  where
    go : (x : Bool) → Err (errors.Record n) ≡ cond x (Err errors.Short) (Ok (length u)) → good u ≡ bad n
    go true q = absurd (let z : ◌≡◌ {A = ℕ} 0 1 = cc in omega (arith, z))
    go false q = absurd (let z : ◌≡◌ {A = ℕ} 0 1 = cc in omega (arith, z))

pub record Fits (o : Outcome (List ℕ)) (room w : ℕ) : Type 0 where
  pub text : List ℕ
  pub is : o ≡ good text
  pub size : length text ≡ w
  pub fits : ltb room (length text) ≡ false

pub is_good : (o : Outcome (List ℕ)) (room w : ℕ) → Ok w ≡ conversion o room → Fits o room w
unfolding conversion
is_good (bad m) room w e = absurd (let z : ◌≡◌ {A = ℕ} 0 1 = cc in omega (arith, z))
is_good (good u) room w e = go (ltb room (length u)) refl e
  where
    go : (x : Bool) → ltb room (length u) ≡ x → Ok w ≡ cond x (Err errors.Short) (Ok (length u)) → Fits (good u) room w
    go true q r = absurd (let z : ◌≡◌ {A = ℕ} 0 1 = cc in omega (arith, z))
    go false q r = record { text = u; is = refl; size = cc; fits = q }

pub record Over-full (o : Outcome (List ℕ)) (room : ℕ) : Type 0 where
  pub text : List ℕ
  pub is : o ≡ good text
  pub over : ltb room (length text) ≡ true

pub is_short : (o : Outcome (List ℕ)) (room : ℕ) → Err errors.Short ≡ conversion o room → Over-full o room
unfolding conversion
is_short (bad m) room e = absurd (let z : ◌≡◌ {A = ℕ} 0 1 = cc in omega (arith, z))
is_short (good u) room e = go (ltb room (length u)) refl e
  where
    go : (x : Bool) → ltb room (length u) ≡ x → Err errors.Short ≡ cond x (Err errors.Short) (Ok (length u)) → Over-full (good u) room
    go true q r = record { text = u; is = refl; over = q }
    go false q r = absurd (let z : ◌≡◌ {A = ℕ} 0 1 = cc in omega (arith, z))
