-- A record or line that is taken is short, and a long rest without an end begins one that is not.
use Rattle.std.specs.Prelude.{ℕ, suc, ◌+◌, ◌*◌, ◌≤◌, ◌<◌, Bool, ◌&&◌, not, ◌≡◌, eqb, leb}
use Rattle.std.proofs.Math.Bool.{true, false, cond}
use Rattle.std.proofs.lemmas.Bool.{false≢true}
use mathlib.Core.List.{List, [], ◌∷◌, ◌++◌}
use Rattle.std.proofs.Math.Path.{refl}
use Rattle.std.proofs.Common.{ap, arith, leb-true}
use Rattle.std.proofs.Math.ListN.{length, length-append}
use Rattle.text.specs.Fields.{TAB, LF}
use Rattle.delivery_csv.specs.Fields.{QUOTE, COMMA, max_fields, max_field_bytes, clean, field_taken, fields_taken, record_taken, cut, unless_empty, pieces, joined, bad, with_record, read_all}
use Rattle.delivery_csv.specs.Records.{turned, without_cr, records_in, raw_fields, unquoted, closed, undoubled, field_right, field_value, all_right, all_values, record_right, record_fields, records_read, records_text}
use Rattle.delivery_csv.specs.Lines.{unturned, whole_line, lines_in, line_fields, line_right, lines_read, lines_text}
use Rattle.delivery_csv.specs.Converting.{text_of, drill_of_csv, csv_of_drill}
use Rattle.delivery_csv.specs.laws.Bools.{and_left, and_right}
use Rattle.delivery_csv.specs.laws.Cuts.{Some, front, front_piece, cut_some, joined_cut, Sealed, sealed_nil, sealed_byte}
use Rattle.delivery_csv.specs.laws.FieldTexts.{taken_rest}
use Rattle.delivery_csv.specs.laws.Reading.{taken_fields}
use Rattle.delivery_csv.specs.laws.Parts.{ends, cut_length}

-- ---- fields

closed_length : (f : List ℕ) → closed f ≡ true → length f ≤ 2 * length (undoubled f) + 1
unfolding closed undoubled
closed_length [] e = absurd (false≢true e)
closed_length (b ∷ []) e = omega arith
closed_length (b ∷ c ∷ f) e = go (eqb b QUOTE) (closed_length f) (closed_length (c ∷ f)) e
  where
    go : (x : Bool) → (closed f ≡ true → length f ≤ 2 * length (undoubled f) + 1) →
        (closed (c ∷ f) ≡ true → suc (length f) ≤ 2 * length (undoubled (c ∷ f)) + 1) →
        cond x (eqb c QUOTE && closed f) (closed (c ∷ f)) ≡ true →
        suc (suc (length f)) ≤ 2 * length (cond x (QUOTE ∷ undoubled f) (b ∷ undoubled (c ∷ f))) + 1
    go true g h q = omega (arith, g (and_right (eqb c QUOTE) (closed f) q))
    go false g h q = omega (arith, h q)

right_length : (f : List ℕ) → field_right f ≡ true → length f ≤ 2 * length (field_value f) + 2
unfolding field_right field_value
right_length [] e = omega arith
right_length (b ∷ f) e = go (eqb b QUOTE) (closed_length f) e
  where
    go : (x : Bool) → (closed f ≡ true → length f ≤ 2 * length (undoubled f) + 1) → cond x (closed f) (unquoted f) ≡ true →
        suc (length f) ≤ 2 * length (cond x (undoubled f) (b ∷ f)) + 2
    go true g q = omega (arith, g q)
    go false g q = omega arith

taken_length : (f : List ℕ) (fs : List (List ℕ)) → fields_taken (f ∷ fs) ≡ true → length f ≤ 64
unfolding fields_taken field_taken
taken_length f fs h =
    leb-true (length f) max_field_bytes (and_left (leb (length f) max_field_bytes) (clean f) (and_left (leb (length f) max_field_bytes && clean f) (fields_taken fs) h))

-- ---- records and lines

right_joined : (fs : List (List ℕ)) → Some fs → all_right fs ≡ true → fields_taken (all_values fs) ≡ true → length (joined COMMA fs) < 131 * length fs
unfolding Some all_right all_values joined
right_joined [] s r h = absurd s
right_joined (f ∷ []) s r h = omega (arith, right_length f (and_left (field_right f) true r), taken_length (field_value f) [] h)
right_joined (f ∷ g ∷ fs) s r h =
    let l : length f ≤ 130 = omega (arith, right_length f (and_left (field_right f) (all_right (g ∷ fs)) r), taken_length (field_value f) (all_values (g ∷ fs)) h) in
    let m : length (joined COMMA (g ∷ fs)) < 131 * length (g ∷ fs) =
    right_joined (g ∷ fs) tt (and_right (field_right f) (all_right (g ∷ fs)) r) (taken_rest (field_value f) (all_values (g ∷ fs)) h) in
    simp length-append (omega arith)

line_joined : (fs : List (List ℕ)) → Some fs → fields_taken fs ≡ true → length (joined TAB fs) < 65 * length fs
unfolding Some joined
line_joined [] s h = absurd s
line_joined (f ∷ []) s h = omega (arith, taken_length f [] h)
line_joined (f ∷ g ∷ fs) s h =
    let l : length f ≤ 64 = taken_length f (g ∷ fs) h in
    let m : length (joined TAB (g ∷ fs)) < 65 * length (g ∷ fs) = line_joined (g ∷ fs) tt (taken_rest f (g ∷ fs) h) in
    simp length-append (omega arith)

length_values : (fs : List (List ℕ)) → length (all_values fs) ≡ length fs
unfolding all_values
length_values [] = refl
length_values (f ∷ fs) = ap suc (length_values fs)

taken_count : (fs : List (List ℕ)) → record_taken fs ≡ true → length fs ≤ 16
unfolding record_taken
taken_count fs h = leb-true (length fs) max_fields (and_left (leb (length fs) max_fields) (fields_taken fs) h)

pub record_short : (p : List ℕ) → record_right p ≡ true → record_taken (record_fields p) ≡ true → length p ≤ 2095
unfolding record_right record_fields raw_fields
record_short p r h =
    let n : length (cut turned COMMA false p) ≤ 16 = omega (arith, length_values (cut turned COMMA false p), taken_count (all_values (cut turned COMMA false p)) h) in
    let l : length (joined COMMA (cut turned COMMA false p)) < 131 * length (cut turned COMMA false p) =
    right_joined (cut turned COMMA false p) (cut_some turned COMMA false p) r (taken_fields (all_values (cut turned COMMA false p)) h) in
    omega (arith, n, l, ap length (joined_cut turned COMMA false p))

pub line_short : (p : List ℕ) → record_taken (line_fields p) ≡ true → length p ≤ 1039
unfolding line_fields
line_short p h =
    let n : length (cut unturned TAB false p) ≤ 16 = taken_count (cut unturned TAB false p) h in
    let l : length (joined TAB (cut unturned TAB false p)) < 65 * length (cut unturned TAB false p) =
    line_joined (cut unturned TAB false p) (cut_some unturned TAB false p) (taken_fields (cut unturned TAB false p) h) in
    omega (arith, n, l, ap length (joined_cut unturned TAB false p))

-- ---- a rest without an end

-- a text without an end is not cut, whatever follows
record Whole (turns : Bool → ℕ → Bool) (i : Bool) (t : List ℕ) : Type 0 where
  then : Bool
  sealed : Sealed turns LF i t then

whole : (turns : Bool → ℕ → Bool) (i : Bool) (t : List ℕ) → ends turns i t ≡ 0 → Whole turns i t
unfolding ends
whole turns i [] e = record { then = i; sealed = sealed_nil turns LF i }
whole turns i (b ∷ t) e = go (eqb b LF && not i) refl (whole turns (turns i b) t) e
  where
    go : (x : Bool) → (eqb b LF && not i) ≡ x → (ends turns (turns i b) t ≡ 0 → Whole turns (turns i b) t) →
        cond x (ends turns (turns i b) t + 1) (ends turns (turns i b) t) ≡ 0 → Whole turns i (b ∷ t)
    go true q h z = absurd (omega arith)
    go false q h z = record { then = (h z).then; sealed = sealed_byte turns LF i b t (h z).then q (h z).sealed }

pub without_cr_length : (p : List ℕ) → length p ≤ length (without_cr p) + 1
unfolding without_cr
without_cr_length [] = omega arith
without_cr_length (b ∷ []) = omega arith
without_cr_length (b ∷ c ∷ p) = omega (arith, without_cr_length (c ∷ p))

module _ (right : List ℕ → Bool) (fields_of : List ℕ → List (List ℕ)) (short : (p : List ℕ) → right p ≡ true → record_taken (fields_of p) ≡ true → length p ≤ 2095) where
  first_refused : (p : List ℕ) (ps : List (List ℕ)) → 2095 < length p → read_all right fields_of 1 (p ∷ ps) ≡ bad 1
  unfolding read_all
  first_refused p ps l =
      go (right p && record_taken (fields_of p)) (λ e. short p (and_left (right p) (record_taken (fields_of p)) e) (and_right (right p) (record_taken (fields_of p)) e))
    where
      go : (x : Bool) → (x ≡ true → length p ≤ 2095) → cond x (with_record (fields_of p) (read_all right fields_of (1 + 1) ps)) (bad 1) ≡ bad 1
      go true h = absurd (omega (arith, h refl))
      go false h = refl

  module _ (strip : List ℕ → List ℕ) (keeps : (p : List ℕ) → length p ≤ length (strip p) + 1) where
    piece_refused : (p : List ℕ) (ps : List (List ℕ)) → 2096 < length p → read_all right fields_of 1 (pieces strip (p ∷ ps)) ≡ bad 1
    unfolding pieces unless_empty
    piece_refused [] [] l = absurd (omega arith)
    piece_refused (b ∷ p) [] l = first_refused (b ∷ p) [] (omega arith)
    piece_refused p (q ∷ qs) l = first_refused (strip p) (pieces strip (q ∷ qs)) (omega (arith, keeps p))

    module _ (turns : Bool → ℕ → Bool) (quiet : turns false LF ≡ false) where
      pub too_long : (t u : List ℕ) → length (cut turns LF false t) ≡ 1 → 4096 ≤ length t →
          read_all right fields_of 1 (pieces strip (cut turns LF false (t ++ u))) ≡ bad 1
      unfolding Sealed Some
      too_long t u e l = go (whole turns false t (omega (arith, cut_length turns quiet false t)))
        where
          first : (ps : List (List ℕ)) → Some ps → read_all right fields_of 1 (pieces strip (front t ps)) ≡ bad 1
          first [] h = absurd h
          first (q ∷ qs) h = rw (front_piece t q qs) (piece_refused (t ++ q) qs (simp length-append (omega arith)))

          go : Whole turns false t → read_all right fields_of 1 (pieces strip (cut turns LF false (t ++ u))) ≡ bad 1
          go w = rw (w.sealed u) (first (cut turns LF w.then u) (cut_some turns LF w.then u))

pub line_keeps : (p : List ℕ) → length p ≤ length (whole_line p) + 1
unfolding whole_line
line_keeps p = omega arith

pub line_shorter : (p : List ℕ) → line_right p ≡ true → record_taken (line_fields p) ≡ true → length p ≤ 2095
line_shorter p r h = omega (arith, line_short p h)

pub records_too_long : (t u : List ℕ) → length (cut turned LF false t) ≡ 1 → 4096 ≤ length t → drill_of_csv (t ++ u) ≡ bad 1
unfolding drill_of_csv text_of records_read records_in turned
records_too_long t u e l = ap (text_of lines_text) (too_long record_right record_fields record_short without_cr without_cr_length turned refl t u e l)

pub lines_too_long : (t u : List ℕ) → length (cut unturned LF false t) ≡ 1 → 4096 ≤ length t → csv_of_drill (t ++ u) ≡ bad 1
unfolding csv_of_drill text_of lines_read lines_in unturned
lines_too_long t u e l = ap (text_of records_text) (too_long line_right line_fields line_shorter whole_line line_keeps unturned refl t u e l)
