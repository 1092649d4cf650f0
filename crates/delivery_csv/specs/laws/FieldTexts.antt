-- The text of a field is read as the field, and is not cut.
use Rattle.std.specs.Prelude.{ℕ, Bool, cond, ◌&&◌, ◌||◌, not, ◌≡◌, leb, length}
use Rattle.std.proofs.Math.Bool.{true, false, and-false}
use Rattle.std.proofs.lemmas.Bool.{false≢true, not-true}
use mathlib.Core.List.{List, [], ◌∷◌, ◌++◌}
use Rattle.std.proofs.Math.Path.{refl}
use Rattle.std.proofs.Common.{◌∙◌, eqb-true}
use Rattle.std.proofs.Math.Dec.{eqb}
use Rattle.text.specs.Fields.{TAB, LF}
use Rattle.delivery_csv.specs.Fields.{CR, QUOTE, COMMA, max_field_bytes, clean, field_taken, fields_taken}
use Rattle.delivery_csv.specs.Records.{turned, unquoted, closed, undoubled, field_right, field_value, special, needs_quotes, doubled}
use Rattle.delivery_csv.specs.Lines.{unturned}
use Rattle.delivery_csv.specs.laws.Bools.{and_left, and_right, or_left, or_right}
use Rattle.delivery_csv.specs.laws.Cuts.{Sealed, AllSealed, sealed_nil, sealed_byte, sealed_append}

-- a text without the byte s
unfoldable pub free : ℕ → List ℕ → Bool
free s [] = true
free s (b ∷ w) = not (eqb b s) && free s w

-- ---- what is taken, and what needs no quotes

pub free_byte : (s b : ℕ) (w : List ℕ) → eqb b s ≡ false → free s w ≡ true → free s (b ∷ w) ≡ true
unfolding free
free_byte s b w e h = rw (e, h)

pub free_first : (s b : ℕ) (w : List ℕ) → free s (b ∷ w) ≡ true → eqb b s ≡ false
unfolding free
free_first s b w h = not-true (eqb b s) (and_left (not (eqb b s)) (free s w) h)

pub free_rest : (s b : ℕ) (w : List ℕ) → free s (b ∷ w) ≡ true → free s w ≡ true
unfolding free
free_rest s b w h = and_right (not (eqb b s)) (free s w) h

pub unquoted_byte : (b : ℕ) (w : List ℕ) → eqb b QUOTE ≡ false → unquoted w ≡ true → unquoted (b ∷ w) ≡ true
unfolding unquoted
unquoted_byte b w e h = rw (e, h)

pub unquoted_first : (b : ℕ) (w : List ℕ) → unquoted (b ∷ w) ≡ true → eqb b QUOTE ≡ false
unfolding unquoted
unquoted_first b w h = not-true (eqb b QUOTE) (and_left (not (eqb b QUOTE)) (unquoted w) h)

pub unquoted_rest : (b : ℕ) (w : List ℕ) → unquoted (b ∷ w) ≡ true → unquoted w ≡ true
unfolding unquoted
unquoted_rest b w h = and_right (not (eqb b QUOTE)) (unquoted w) h

-- a byte of a clean field
pub clean_byte : (b : ℕ) (f : List ℕ) → clean (b ∷ f) ≡ true → (eqb b TAB || (eqb b CR || eqb b LF)) ≡ false
unfolding clean
clean_byte b f h = not-true (eqb b TAB || (eqb b CR || eqb b LF)) (and_left (not (eqb b TAB || (eqb b CR || eqb b LF))) (clean f) h)

pub clean_rest : (b : ℕ) (f : List ℕ) → clean (b ∷ f) ≡ true → clean f ≡ true
unfolding clean
clean_rest b f h = and_right (not (eqb b TAB || (eqb b CR || eqb b LF))) (clean f) h

clean_tab : (f : List ℕ) → clean f ≡ true → free TAB f ≡ true
unfolding free
clean_tab [] h = refl
clean_tab (b ∷ f) h = free_byte TAB b f (or_left (eqb b TAB) (eqb b CR || eqb b LF) (clean_byte b f h)) (clean_tab f (clean_rest b f h))

clean_lf : (f : List ℕ) → clean f ≡ true → free LF f ≡ true
unfolding free
clean_lf [] h = refl
clean_lf (b ∷ f) h =
    free_byte LF b f (or_right (eqb b CR) (eqb b LF) (or_right (eqb b TAB) (eqb b CR || eqb b LF) (clean_byte b f h))) (clean_lf f (clean_rest b f h))

plain_byte : (b : ℕ) (f : List ℕ) → needs_quotes (b ∷ f) ≡ false → (eqb b COMMA || eqb b QUOTE) ≡ false
unfolding needs_quotes special
plain_byte b f h = or_left (eqb b COMMA || eqb b QUOTE) (needs_quotes f) h

plain_rest : (b : ℕ) (f : List ℕ) → needs_quotes (b ∷ f) ≡ false → needs_quotes f ≡ false
unfolding needs_quotes special
plain_rest b f h = or_right (eqb b COMMA || eqb b QUOTE) (needs_quotes f) h

pub plain_comma : (f : List ℕ) → needs_quotes f ≡ false → free COMMA f ≡ true
unfolding free
plain_comma [] h = refl
plain_comma (b ∷ f) h = free_byte COMMA b f (or_left (eqb b COMMA) (eqb b QUOTE) (plain_byte b f h)) (plain_comma f (plain_rest b f h))

pub plain_quote : (f : List ℕ) → needs_quotes f ≡ false → unquoted f ≡ true
unfolding unquoted
plain_quote [] h = refl
plain_quote (b ∷ f) h = unquoted_byte b f (or_right (eqb b COMMA) (eqb b QUOTE) (plain_byte b f h)) (plain_quote f (plain_rest b f h))

-- ---- the field that is read

closed_byte : (b : ℕ) (g : List ℕ) → eqb b QUOTE ≡ false → closed g ≡ true → closed (b ∷ g) ≡ true
unfolding closed
closed_byte b [] e h = absurd (false≢true h)
closed_byte b (c ∷ g) e h = rw e h

undoubled_byte : (b : ℕ) (g : List ℕ) → eqb b QUOTE ≡ false → undoubled (b ∷ g) ≡ b ∷ undoubled g
unfolding undoubled
undoubled_byte b [] e = rw e
undoubled_byte b (c ∷ g) e = rw e

pub closed_doubled : (f : List ℕ) → closed (doubled f ++ (QUOTE ∷ [])) ≡ true
unfolding closed doubled
closed_doubled [] = refl
closed_doubled (b ∷ f) = go (eqb b QUOTE) refl (closed_doubled f)
  where
    go : (x : Bool) → eqb b QUOTE ≡ x → closed (doubled f ++ (QUOTE ∷ [])) ≡ true →
        closed (cond x (QUOTE ∷ QUOTE ∷ doubled f) (b ∷ doubled f) ++ (QUOTE ∷ [])) ≡ true
    go true e h = h
    go false e h = closed_byte b (doubled f ++ (QUOTE ∷ [])) e h

pub undoubled_doubled : (f : List ℕ) → undoubled (doubled f ++ (QUOTE ∷ [])) ≡ f
unfolding undoubled doubled
undoubled_doubled [] = refl
undoubled_doubled (b ∷ f) = go (eqb b QUOTE) refl (eqb-true b QUOTE) (undoubled_doubled f)
  where
    go : (x : Bool) → eqb b QUOTE ≡ x → (x ≡ true → b ≡ QUOTE) → undoubled (doubled f ++ (QUOTE ∷ [])) ≡ f →
        undoubled (cond x (QUOTE ∷ QUOTE ∷ doubled f) (b ∷ doubled f) ++ (QUOTE ∷ [])) ≡ b ∷ f
    go true e q h = rw (h, q refl)
    go false e q h = undoubled_byte b (doubled f ++ (QUOTE ∷ [])) e ∙ rw h

pub plain_right : (f : List ℕ) → unquoted f ≡ true → field_right f ≡ true
unfolding field_right
plain_right [] h = refl
plain_right (b ∷ f) h = rw (unquoted_first b f h) (unquoted_rest b f h)

pub plain_value : (f : List ℕ) → unquoted f ≡ true → field_value f ≡ f
unfolding field_value
plain_value [] h = refl
plain_value (b ∷ f) h = rw (unquoted_first b f h)

-- ---- where a field is not cut

sealed_line : (s : ℕ) (w : List ℕ) → free s w ≡ true → Sealed unturned s false w false
unfolding unturned
sealed_line s [] h = sealed_nil unturned s false
sealed_line s (b ∷ w) h = sealed_byte unturned s false b w false (rw (free_first s b w h)) (sealed_line s w (free_rest s b w h))

module _ (s : ℕ) where
  pub sealed_outside : (w : List ℕ) → free s w ≡ true → unquoted w ≡ true → Sealed turned s false w false
  unfolding turned
  sealed_outside [] h q = sealed_nil turned s false
  sealed_outside (b ∷ w) h q =
      sealed_byte turned s false b w false (rw (free_first s b w h))
      (rw (unquoted_first b w q) (sealed_outside w (free_rest s b w h) (unquoted_rest b w q)))

  module _ (other : eqb QUOTE s ≡ false) where
    sealed_doubled : (f : List ℕ) → Sealed turned s true (doubled f) true
    unfolding doubled turned
    sealed_doubled [] = sealed_nil turned s true
    sealed_doubled (b ∷ f) = go (eqb b QUOTE) refl (sealed_doubled f)
      where
        go : (x : Bool) → eqb b QUOTE ≡ x → Sealed turned s true (doubled f) true →
            Sealed turned s true (cond x (QUOTE ∷ QUOTE ∷ doubled f) (b ∷ doubled f)) true
        go true e h =
            sealed_byte turned s true QUOTE (QUOTE ∷ doubled f) true (and-false (eqb QUOTE s))
            (sealed_byte turned s false QUOTE (doubled f) true (rw other) h)
        go false e h = sealed_byte turned s true b (doubled f) true (and-false (eqb b s)) (rw e h)

    pub sealed_quoted : (f : List ℕ) → Sealed turned s false (QUOTE ∷ (doubled f ++ (QUOTE ∷ []))) false
    unfolding turned
    sealed_quoted f =
        sealed_byte turned s false QUOTE (doubled f ++ (QUOTE ∷ [])) false (rw other)
        (sealed_append turned s true true false (doubled f) (QUOTE ∷ []) (sealed_doubled f)
        (sealed_byte turned s true QUOTE [] false (and-false (eqb QUOTE s)) (sealed_nil turned s false)))

pub taken_clean : (f : List ℕ) (fs : List (List ℕ)) → fields_taken (f ∷ fs) ≡ true → clean f ≡ true
unfolding fields_taken field_taken
taken_clean f fs h = and_right (leb (length f) max_field_bytes) (clean f) (and_left (leb (length f) max_field_bytes && clean f) (fields_taken fs) h)

pub taken_rest : (f : List ℕ) (fs : List (List ℕ)) → fields_taken (f ∷ fs) ≡ true → fields_taken fs ≡ true
unfolding fields_taken
taken_rest f fs h = and_right (field_taken f) (fields_taken fs) h

-- fields that are taken
pub sealed_lines : (fs : List (List ℕ)) → fields_taken fs ≡ true → AllSealed unturned LF fs
unfolding AllSealed
sealed_lines [] h = tt
sealed_lines (f ∷ fs) h = (sealed_line LF f (clean_lf f (taken_clean f fs h)), sealed_lines fs (taken_rest f fs h))

pub sealed_at_tabs : (fs : List (List ℕ)) → fields_taken fs ≡ true → AllSealed unturned TAB fs
unfolding AllSealed
sealed_at_tabs [] h = tt
sealed_at_tabs (f ∷ fs) h = (sealed_line TAB f (clean_tab f (taken_clean f fs h)), sealed_at_tabs fs (taken_rest f fs h))
