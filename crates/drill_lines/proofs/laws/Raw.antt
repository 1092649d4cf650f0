-- Reading a line on in numbers, or ending it, comes to what the reader that they stand for comes to.
use Rattle.std.specs.Prelude.{ℕ, ◌+◌, Bool, true, false, cond, List, ◌≡◌, refl, eqb, ltb, Option, Some, None}
use Rattle.std.specs.Option.{option_map, option_map_or}
use Rattle.std.proofs.lemmas.Option.{none-some}
use Rattle.std.proofs.Common.{sym, ◌∙◌, eqb-true}
use Rattle.text.specs.Fields.{TAB}
use Rattle.drill_lines.specs.Grammar.{letter_of}
use Rattle.drill_lines.specs.Automaton.{count_of, form_of, pushed, no_numbers, reading, lettered, parted, extended_as, extended, next, read, fed, line_read, finished}
use Rattle.drill_lines.specs.laws.Theorem.{cond_same}
use Rattle.drill_lines.specs.Raw.{reader_of, raw_count, raw_form, raw_reading, raw_wrong, raw_lettered, raw_parted, raw_extended, raw_fed, raw_finished, RawReaders}
use Rattle.drill_lines.specs.declared.Letter.{Letter}
use Rattle.drill_lines.specs.declared.Letter.TheVariants.{N, C, P, T, D, L, R}
use Rattle.drill_lines.specs.declared.Fields.{Fields}
use Rattle.drill_lines.specs.declared.Reader.TheVariants.{Open, Bad}
use Rattle.drill_lines.specs.declared.raw.RawReader.{RawReader}

-- 0 is no letter
zero_none : (k : ℕ) → eqb k 0 ≡ true → letter_of k ≡ None
unfolding letter_of
zero_none k z = rw (eqb-true k 0 z) refl

not_zero : (k : ℕ) (l : Letter) → letter_of k ≡ Some l → eqb k 0 ≡ false
not_zero k l e = go (eqb k 0) refl
  where
    go : (t : Bool) → eqb k 0 ≡ t → t ≡ false
    go true z = absurd (none-some l (sym (zero_none k z) ∙ e))
    go false z = refl

some_count : (l : Letter) → ltb 0 (count_of l) ≡ true
unfolding count_of
some_count N = refl
some_count C = refl
some_count P = refl
some_count T = refl
some_count D = refl
some_count L = refl
some_count R = refl

-- the line of numbers with a letter, and with none
with_letter : (k f d v : ℕ) (x : List ℕ) (l : Letter) → letter_of k ≡ Some l → reader_of (raw_reading k f d v x) ≡ Open (reading l f d v x)
unfolding reader_of raw_reading read
with_letter k f d v x l e = rw (not_zero k l e, e) refl

with_none : (k f d v : ℕ) (x : List ℕ) → eqb k 0 ≡ false → letter_of k ≡ None → reader_of (raw_reading k f d v x) ≡ Bad
unfolding reader_of raw_reading read
with_none k f d v x z e = rw (z, e) refl

-- a test that leads on, or to a line of the wrong form
leads : (t : Bool) (y : RawReader) (f : Fields) → reader_of y ≡ Open f → reader_of (cond t y raw_wrong) ≡ read (cond t (Some f) None)
unfolding reader_of raw_wrong read
leads true y f e = e
leads false y f e = refl

stays : (t : Bool) (y : RawReader) → reader_of y ≡ Bad → reader_of (cond t y raw_wrong) ≡ Bad
unfolding reader_of raw_wrong
stays true y e = e
stays false y e = refl

letter_read : (c : ℕ) → reader_of (raw_lettered c) ≡ read (lettered c)
unfolding raw_lettered lettered raw_count reader_of raw_wrong read
letter_read c = go (letter_of c) refl
  where
    go : (o : Option Letter) → letter_of c ≡ o →
        reader_of (cond (ltb 0 (option_map_or count_of o 0)) (raw_reading c 0 0 0 no_numbers) raw_wrong) ≡ read (option_map (λ l. reading l 0 0 0 no_numbers) o)
    go None e = refl
    go (Some l) e = rw (some_count l) (with_letter c 0 0 0 no_numbers l e)

-- numbers that may still be of the right form
module _ (k f d v : ℕ) (x : List ℕ) where
  -- where they have a byte, and their letter is none
  module _ (z : eqb k 0 ≡ false) (e : letter_of k ≡ None) where
    none_parted : reader_of (raw_parted (raw_reading k f d v x)) ≡ Bad
    unfolding raw_parted raw_reading
    none_parted = stays _ _ (with_none k (f + 1) 0 0 (pushed x v) z e)

    none_extended : (w c : ℕ) → reader_of (raw_extended w (raw_reading k f d v x) c) ≡ Bad
    unfolding raw_extended raw_reading
    none_extended w c = stays _ _ (with_none k f _ _ x z e)

    none_byte : (c : ℕ) → reader_of (raw_fed (raw_reading k f d v x) c) ≡ fed (reader_of (raw_reading k f d v x)) c
    unfolding raw_fed raw_reading fed
    none_byte c = rw (with_none k f d v x z e, z) (go (eqb c TAB))
      where
        go : (t : Bool) → reader_of (cond t (raw_parted (raw_reading k f d v x)) (raw_extended (raw_form k f) (raw_reading k f d v x) c)) ≡ Bad
        go true = none_parted
        go false = none_extended (raw_form k f) c

    none_over : raw_finished (raw_reading k f d v x) ≡ finished (reader_of (raw_reading k f d v x))
    unfolding raw_finished raw_reading finished
    none_over = rw (with_none k f d v x z e, e) (cond_same _ None)

  -- where their letter is l
  module _ (l : Letter) (e : letter_of k ≡ Some l) where
    form_is : raw_form k f ≡ form_of l f
    unfolding raw_form
    form_is = rw e refl

    count_is : raw_count k ≡ count_of l
    unfolding raw_count
    count_is = rw e refl

    some_parted : reader_of (raw_parted (raw_reading k f d v x)) ≡ read (parted (reading l f d v x))
    unfolding raw_parted raw_reading parted reading
    some_parted = rw (form_is, count_is) (leads _ _ _ (with_letter k (f + 1) 0 0 (pushed x v) l e))

    some_extended : (w c : ℕ) → reader_of (raw_extended w (raw_reading k f d v x) c) ≡ read (extended_as w (reading l f d v x) c)
    unfolding raw_extended raw_reading extended_as reading
    some_extended w c = leads _ _ _ (with_letter k f _ _ x l e)

    some_byte : (c : ℕ) → reader_of (raw_fed (raw_reading k f d v x) c) ≡ fed (reader_of (raw_reading k f d v x)) c
    unfolding raw_fed raw_reading fed next extended reading
    some_byte c = rw (with_letter k f d v x l e, not_zero k l e, form_is) (go (eqb c TAB))
      where
        go : (t : Bool) →
            reader_of (cond t (raw_parted (raw_reading k f d v x)) (raw_extended (form_of l f) (raw_reading k f d v x) c))
            ≡ read (cond t (parted (reading l f d v x)) (extended_as (form_of l f) (reading l f d v x) c))
        go true = some_parted
        go false = some_extended (form_of l f) c

    some_over : raw_finished (raw_reading k f d v x) ≡ finished (reader_of (raw_reading k f d v x))
    unfolding raw_finished raw_reading finished line_read reading
    some_over = rw (with_letter k f d v x l e, form_is, count_is, e) refl

byte_read : (b : Bool) (k f d v : ℕ) (x : List ℕ) (c : ℕ) →
    reader_of (raw_fed (record { kind = k; field = f; digits = d; value = v; numbers = x; bad = b }) c)
    ≡ fed (reader_of (record { kind = k; field = f; digits = d; value = v; numbers = x; bad = b })) c
unfolding reader_of raw_fed raw_reading fed
byte_read true k f d v x c = refl
byte_read false k f d v x c = go (eqb k 0) refl (letter_of k) refl
  where
    go : (t : Bool) → eqb k 0 ≡ t → (o : Option Letter) → letter_of k ≡ o → reader_of (raw_fed (raw_reading k f d v x) c) ≡ fed (reader_of (raw_reading k f d v x)) c
    go true z o e = rw z (letter_read c)
    go false z None e = none_byte k f d v x z e c
    go false z (Some l) e = some_byte k f d v x l e c

over_read : (b : Bool) (k f d v : ℕ) (x : List ℕ) →
    raw_finished (record { kind = k; field = f; digits = d; value = v; numbers = x; bad = b })
    ≡ finished (reader_of (record { kind = k; field = f; digits = d; value = v; numbers = x; bad = b }))
unfolding reader_of raw_finished raw_reading finished
over_read true k f d v x = refl
over_read false k f d v x = go (eqb k 0) refl (letter_of k) refl
  where
    go : (t : Bool) → eqb k 0 ≡ t → (o : Option Letter) → letter_of k ≡ o → raw_finished (raw_reading k f d v x) ≡ finished (reader_of (raw_reading k f d v x))
    go true z o e = rw (z, zero_none k z) (cond_same _ None)
    go false z None e = none_over k f d v x z e
    go false z (Some l) e = some_over k f d v x l e

pub raw_readers : RawReaders
raw_readers x = record { byte = byte_read x.bad x.kind x.field x.digits x.value x.numbers; over = over_read x.bad x.kind x.field x.digits x.value x.numbers }
