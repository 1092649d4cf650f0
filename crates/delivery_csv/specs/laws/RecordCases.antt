-- The paths of the functions that read a record, one law each.
use Rattle.std.specs.Prelude.{ℕ, ◌+◌, ◌≤◌, ◌<◌, ◌≡◌, Option, Some, None}
use borrow.Author.Tests.{lt-ltb, le-ltb, eq-eqb, ne_eqb}
use Rattle.text.specs.Fields.{TAB, LF}
use Rattle.delivery_csv.specs.Fields.{CR, QUOTE, COMMA, max_fields, max_field_bytes}
use Rattle.delivery_csv.specs.laws.RecordReader.{reading, extended, parted, plain_fed, quoted_fed, closing_fed, fed_in, plain_shown, shown_in}
use Rattle.delivery_csv.specs.declared.Phase.{Phase}
use Rattle.delivery_csv.specs.declared.Phase.TheVariants.{Start, Plain, Quoted, Closing, Return}
use Rattle.delivery_csv.specs.declared.RecordReader.{RecordReader}

module _ (r : RecordReader) (s : Option RecordReader) where
  pub extended_within : (p : Phase) → r.length < max_field_bytes → s ≡ reading p r.fields (r.length + 1) → s ≡ extended r p
  unfolding extended
  extended_within p l e = rw (e, lt-ltb r.length max_field_bytes l)

  pub extended_full : (p : Phase) → max_field_bytes ≤ r.length → s ≡ None → s ≡ extended r p
  unfolding extended
  extended_full p l e = rw (e, le-ltb r.length max_field_bytes l)

  pub parted_within : r.fields + 1 < max_fields → s ≡ reading Start (r.fields + 1) 0 → s ≡ parted r
  unfolding parted
  parted_within l e = rw (e, lt-ltb (r.fields + 1) max_fields l)

  pub parted_full : max_fields ≤ r.fields + 1 → s ≡ None → s ≡ parted r
  unfolding parted
  parted_full l e = rw (e, le-ltb (r.fields + 1) max_fields l)

  module _ (b : ℕ) where
    pub plain_comma : b ≡ COMMA → s ≡ parted r → s ≡ plain_fed r b
    unfolding plain_fed
    plain_comma c e = rw (e, eq-eqb b COMMA c)

    pub plain_cr : (b ≡ COMMA → ⊥) → b ≡ CR → s ≡ reading Return r.fields r.length → s ≡ plain_fed r b
    unfolding plain_fed
    plain_cr c d e = rw (e, ne_eqb b COMMA c, eq-eqb b CR d)

    pub plain_tab : (b ≡ COMMA → ⊥) → (b ≡ CR → ⊥) → b ≡ TAB → s ≡ None → s ≡ plain_fed r b
    unfolding plain_fed
    plain_tab c d t e = rw (e, ne_eqb b COMMA c, ne_eqb b CR d, eq-eqb b TAB t)

    pub plain_other : (b ≡ COMMA → ⊥) → (b ≡ CR → ⊥) → (b ≡ TAB → ⊥) → s ≡ extended r Plain → s ≡ plain_fed r b
    unfolding plain_fed
    plain_other c d t e = rw (e, ne_eqb b COMMA c, ne_eqb b CR d, ne_eqb b TAB t)

    pub quoted_quote : b ≡ QUOTE → s ≡ reading Closing r.fields r.length → s ≡ quoted_fed r b
    unfolding quoted_fed
    quoted_quote q e = rw (e, eq-eqb b QUOTE q)

    pub quoted_tab : (b ≡ QUOTE → ⊥) → b ≡ TAB → s ≡ None → s ≡ quoted_fed r b
    unfolding quoted_fed
    quoted_tab q t e = rw (e, ne_eqb b QUOTE q, eq-eqb b TAB t)

    pub quoted_cr : (b ≡ QUOTE → ⊥) → (b ≡ TAB → ⊥) → b ≡ CR → s ≡ None → s ≡ quoted_fed r b
    unfolding quoted_fed
    quoted_cr q t c e = rw (e, ne_eqb b QUOTE q, ne_eqb b TAB t, eq-eqb b CR c)

    pub quoted_lf : (b ≡ QUOTE → ⊥) → (b ≡ TAB → ⊥) → (b ≡ CR → ⊥) → b ≡ LF → s ≡ None → s ≡ quoted_fed r b
    unfolding quoted_fed
    quoted_lf q t c l e = rw (e, ne_eqb b QUOTE q, ne_eqb b TAB t, ne_eqb b CR c, eq-eqb b LF l)

    pub quoted_other : (b ≡ QUOTE → ⊥) → (b ≡ TAB → ⊥) → (b ≡ CR → ⊥) → (b ≡ LF → ⊥) → s ≡ extended r Quoted → s ≡ quoted_fed r b
    unfolding quoted_fed
    quoted_other q t c l e = rw (e, ne_eqb b QUOTE q, ne_eqb b TAB t, ne_eqb b CR c, ne_eqb b LF l)

    pub closing_quote : b ≡ QUOTE → s ≡ extended r Quoted → s ≡ closing_fed r b
    unfolding closing_fed
    closing_quote q e = rw (e, eq-eqb b QUOTE q)

    pub closing_comma : (b ≡ QUOTE → ⊥) → b ≡ COMMA → s ≡ parted r → s ≡ closing_fed r b
    unfolding closing_fed
    closing_comma q c e = rw (e, ne_eqb b QUOTE q, eq-eqb b COMMA c)

    pub closing_cr : (b ≡ QUOTE → ⊥) → (b ≡ COMMA → ⊥) → b ≡ CR → s ≡ reading Return r.fields r.length → s ≡ closing_fed r b
    unfolding closing_fed
    closing_cr q c d e = rw (e, ne_eqb b QUOTE q, ne_eqb b COMMA c, eq-eqb b CR d)

    pub closing_other : (b ≡ QUOTE → ⊥) → (b ≡ COMMA → ⊥) → (b ≡ CR → ⊥) → s ≡ None → s ≡ closing_fed r b
    unfolding closing_fed
    closing_other q c d e = rw (e, ne_eqb b QUOTE q, ne_eqb b COMMA c, ne_eqb b CR d)

    pub fed_start_quote : r.phase ≡ Start → b ≡ QUOTE → s ≡ reading Quoted r.fields 0 → s ≡ fed_in r.phase r b
    unfolding fed_in
    fed_start_quote p q e = rw (e, p, eq-eqb b QUOTE q)

    pub fed_start : r.phase ≡ Start → (b ≡ QUOTE → ⊥) → s ≡ plain_fed r b → s ≡ fed_in r.phase r b
    unfolding fed_in
    fed_start p q e = rw (e, p, ne_eqb b QUOTE q)

    pub fed_plain_quote : r.phase ≡ Plain → b ≡ QUOTE → s ≡ None → s ≡ fed_in r.phase r b
    unfolding fed_in
    fed_plain_quote p q e = rw (e, p, eq-eqb b QUOTE q)

    pub fed_plain : r.phase ≡ Plain → (b ≡ QUOTE → ⊥) → s ≡ plain_fed r b → s ≡ fed_in r.phase r b
    unfolding fed_in
    fed_plain p q e = rw (e, p, ne_eqb b QUOTE q)

    pub fed_quoted : r.phase ≡ Quoted → s ≡ quoted_fed r b → s ≡ fed_in r.phase r b
    unfolding fed_in
    fed_quoted p e = rw (e, p)

    pub fed_closing : r.phase ≡ Closing → s ≡ closing_fed r b → s ≡ fed_in r.phase r b
    unfolding fed_in
    fed_closing p e = rw (e, p)

    pub fed_return : r.phase ≡ Return → s ≡ None → s ≡ fed_in r.phase r b
    unfolding fed_in
    fed_return p e = rw (e, p)

pub ruleset extending = (extended_within, extended_full)

pub ruleset parting = (parted_within, parted_full)

pub ruleset plain_cases = (plain_comma, plain_cr, plain_tab, plain_other)

pub ruleset quoted_cases = (quoted_quote, quoted_tab, quoted_cr, quoted_lf, quoted_other)

pub ruleset closing_cases = (closing_quote, closing_comma, closing_cr, closing_other)

pub ruleset fed_cases = (fed_start_quote, fed_start, fed_plain_quote, fed_plain, fed_quoted, fed_closing, fed_return)

module _ (b : ℕ) (s : Option ℕ) where
  pub shown_comma : b ≡ COMMA → s ≡ Some TAB → s ≡ plain_shown b
  unfolding plain_shown
  shown_comma c e = rw (e, eq-eqb b COMMA c)

  pub shown_cr : (b ≡ COMMA → ⊥) → b ≡ CR → s ≡ None → s ≡ plain_shown b
  unfolding plain_shown
  shown_cr c d e = rw (e, ne_eqb b COMMA c, eq-eqb b CR d)

  pub shown_other : (b ≡ COMMA → ⊥) → (b ≡ CR → ⊥) → s ≡ Some b → s ≡ plain_shown b
  unfolding plain_shown
  shown_other c d e = rw (e, ne_eqb b COMMA c, ne_eqb b CR d)

  pub shown_start_quote : (p : Phase) → p ≡ Start → b ≡ QUOTE → s ≡ None → s ≡ shown_in p b
  unfolding shown_in
  shown_start_quote p h q e = rw (e, h, eq-eqb b QUOTE q)

  pub shown_start : (p : Phase) → p ≡ Start → (b ≡ QUOTE → ⊥) → s ≡ plain_shown b → s ≡ shown_in p b
  unfolding shown_in
  shown_start p h q e = rw (e, h, ne_eqb b QUOTE q)

  pub shown_plain : (p : Phase) → p ≡ Plain → s ≡ plain_shown b → s ≡ shown_in p b
  unfolding shown_in
  shown_plain p h e = rw (e, h)

  pub shown_quote : (p : Phase) → p ≡ Quoted → b ≡ QUOTE → s ≡ None → s ≡ shown_in p b
  unfolding shown_in
  shown_quote p h q e = rw (e, h, eq-eqb b QUOTE q)

  pub shown_quoted : (p : Phase) → p ≡ Quoted → (b ≡ QUOTE → ⊥) → s ≡ Some b → s ≡ shown_in p b
  unfolding shown_in
  shown_quoted p h q e = rw (e, h, ne_eqb b QUOTE q)

  pub shown_closing : (p : Phase) → p ≡ Closing → s ≡ plain_shown b → s ≡ shown_in p b
  unfolding shown_in
  shown_closing p h e = rw (e, h)

  pub shown_return : (p : Phase) → p ≡ Return → s ≡ plain_shown b → s ≡ shown_in p b
  unfolding shown_in
  shown_return p h e = rw (e, h)

pub ruleset plain_shows = (shown_comma, shown_cr, shown_other)

pub ruleset shows = (shown_start_quote, shown_start, shown_plain, shown_quote, shown_quoted, shown_closing, shown_return)
