-- What a byte leads to that does not end the record.
use Rattle.std.specs.Prelude.{ℕ, ◌+◌, Bool, cond, ◌&&◌, ◌||◌, ◌≡◌, eqb, ltb, Option, None}
use Rattle.std.proofs.Math.Bool.{true, false}
use Rattle.std.proofs.Math.Path.{refl}
use Rattle.std.proofs.Common.{arith, ne_eqb}
use Rattle.text.specs.Fields.{LF}
use Rattle.delivery_csv.specs.Fields.{CR, max_fields, max_field_bytes}
use Rattle.delivery_csv.specs.Records.{turned}
use Rattle.delivery_csv.specs.laws.Bytes.{Other, by_kind_lem}
use Rattle.delivery_csv.specs.laws.RecordReader.{reading, extended, parted, plain_fed, quoted_fed, closing_fed, fed_in, fed, within, ends, untouched_in, broken_in}
use Rattle.delivery_csv.specs.laws.RecordTheorem.{step}
use Rattle.delivery_csv.specs.declared.Phase.{Phase}
use Rattle.delivery_csv.specs.declared.Phase.TheVariants.{Start, Plain, Quoted, Closing, Return}
use Rattle.delivery_csv.specs.declared.RecordReader.{RecordReader}

-- a record that is not taken, or one that is touched; `inside` says whether the next byte stands within quotes, `cr` whether the last was a CR
pub data Next (inside cr : Bool) : Option RecordReader → Type 0 where
  refused : Next inside cr None
  touched : (p : Phase) (f l : ℕ) → within p ≡ inside → untouched_in p f ≡ false → broken_in p ≡ (within p || cr) → Next inside cr (reading p f l)

next_if : (inside cr t : Bool) (p : Phase) (f l : ℕ) → within p ≡ inside → untouched_in p f ≡ false → broken_in p ≡ (within p || cr) →
    Next inside cr (cond t (reading p f l) None)
next_if inside cr true p f l w u c = touched p f l w u c
next_if inside cr false p f l w u c = refused

unfoldable pub Leads : (p : Phase) (f l b : ℕ) → Type 0
Leads p f l b = Next (turned (within p) b) (eqb b CR) (step (reading p f l) b)

module _ (f l : ℕ) where
  next_field : Next false false (cond (ltb (f + 1) max_fields) (reading Start (f + 1) 0) None)
  unfolding within untouched_in broken_in
  next_field = next_if false false (ltb (f + 1) max_fields) Start (f + 1) 0 refl (ne_eqb (f + 1) 0 (λ z. omega arith)) refl

  start_other : (b : ℕ) → Other b → Leads Start f l b
  unfolding Leads turned within untouched_in broken_in step reading ends fed fed_in plain_fed extended
  start_other b k = rw (k.lf, k.quote, k.comma, k.cr, k.tab) (next_if false false (ltb l max_field_bytes) Plain f (l + 1) refl refl refl)

  start_leads : (b : ℕ) → Leads Start f l b
  unfolding Leads turned within untouched_in broken_in step reading ends fed fed_in plain_fed parted extended
  start_leads = by_kind_lem (λ b. Leads Start f l b) (touched Quoted f 0 refl refl refl) next_field (touched Return f l refl refl refl) refused refused start_other

  plain_other : (b : ℕ) → Other b → Leads Plain f l b
  unfolding Leads turned within untouched_in broken_in step reading ends fed fed_in plain_fed extended
  plain_other b k = rw (k.lf, k.quote, k.comma, k.cr, k.tab) (next_if false false (ltb l max_field_bytes) Plain f (l + 1) refl refl refl)

  plain_leads : (b : ℕ) → Leads Plain f l b
  unfolding Leads turned within untouched_in broken_in step reading ends fed fed_in plain_fed parted extended
  plain_leads = by_kind_lem (λ b. Leads Plain f l b) refused next_field (touched Return f l refl refl refl) refused refused plain_other

  quoted_other : (b : ℕ) → Other b → Leads Quoted f l b
  unfolding Leads turned within untouched_in broken_in step reading ends fed fed_in quoted_fed extended
  quoted_other b k = rw (k.lf, k.quote, k.tab, k.cr) (next_if true false (ltb l max_field_bytes) Quoted f (l + 1) refl refl refl)

  quoted_leads : (b : ℕ) → Leads Quoted f l b
  unfolding Leads turned within untouched_in broken_in step reading ends fed fed_in quoted_fed extended
  quoted_leads =
      by_kind_lem (λ b. Leads Quoted f l b) (touched Closing f l refl refl refl) (next_if true false (ltb l max_field_bytes) Quoted f (l + 1) refl refl refl) refused refused refused quoted_other

  closing_other : (b : ℕ) → Other b → Leads Closing f l b
  unfolding Leads turned within step reading ends fed fed_in closing_fed
  closing_other b k = rw (k.lf, k.quote, k.comma, k.cr) refused

  closing_leads : (b : ℕ) → Leads Closing f l b
  unfolding Leads turned within untouched_in broken_in step reading ends fed fed_in closing_fed parted extended
  closing_leads =
      by_kind_lem (λ b. Leads Closing f l b) (next_if true false (ltb l max_field_bytes) Quoted f (l + 1) refl refl refl) next_field (touched Return f l refl refl refl) refused refused closing_other

  return_leads : (b : ℕ) → Leads Return f l b
  unfolding Leads step reading ends fed fed_in within
  return_leads b = go (eqb b LF)
    where
      go : (t : Bool) → Next (turned false b) (eqb b CR) (cond (t && true) None None)
      go true = refused
      go false = refused

pub leads : (p : Phase) (f l b : ℕ) → Leads p f l b
leads Start f l b = start_leads f l b
leads Plain f l b = plain_leads f l b
leads Quoted f l b = quoted_leads f l b
leads Closing f l b = closing_leads f l b
leads Return f l b = return_leads f l b
