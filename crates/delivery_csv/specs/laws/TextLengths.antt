-- How long the text of an output is at most.
use Rattle.std.specs.Prelude.{ℕ, suc, ◌+◌, ◌*◌, ◌≤◌, Bool, true, false, cond, ◌&&◌, not, List, [], ◌∷◌, ◌++◌, ◌≡◌, refl, eqb, length}
use Rattle.std.proofs.Common.{ap, arith, length-append}
use Rattle.text.specs.Fields.{TAB, LF, in_front}
use Rattle.delivery_csv.specs.Fields.{CR, QUOTE, COMMA, record_taken, cut, unless_empty, pieces, joined}
use Rattle.delivery_csv.specs.Records.{turned, without_cr, records_in, raw_fields, undoubled, field_value, all_values, record_right, record_fields, needs_quotes, doubled, field_text, field_texts, records_text}
use Rattle.delivery_csv.specs.Lines.{unturned, whole_line, lines_in, line_right, line_fields, lines_text}
use Rattle.delivery_csv.specs.Stream.{first_taken, output_from, output_of}
use Rattle.delivery_csv.specs.laws.Cuts.{Some, cut_some, joined_cut}

-- ---- pieces of a text

-- their bytes, and one for each
total : List (List ℕ) → ℕ
total [] = 0
total (p ∷ ps) = length p + 1 + total ps

total_in_front : (b : ℕ) (ps : List (List ℕ)) → Some ps → total (in_front b ps) ≡ total ps + 1
unfolding Some total in_front
total_in_front b [] h = absurd h
total_in_front b (p ∷ ps) h = omega arith

total_cut : (turns : Bool → ℕ → Bool) (s : ℕ) (i : Bool) (t : List ℕ) → total (cut turns s i t) ≡ length t + 1
unfolding total cut
total_cut turns s i [] = refl
total_cut turns s i (b ∷ t) = go (eqb b s && not i) (total_cut turns s i t) (total_cut turns s (turns i b) t)
  where
    go : (x : Bool) → total (cut turns s i t) ≡ length t + 1 → total (cut turns s (turns i b) t) ≡ length t + 1 →
        total (cond x ([] ∷ cut turns s i t) (in_front b (cut turns s (turns i b) t))) ≡ suc (length t) + 1
    go true h k = omega (arith, h)
    go false h k = omega (arith, k, total_in_front b (cut turns s (turns i b) t) (cut_some turns s (turns i b) t))

total_pieces : (strip : List ℕ → List ℕ) → ((p : List ℕ) → length (strip p) ≤ length p) → (ps : List (List ℕ)) → total (pieces strip ps) ≤ total ps
unfolding total pieces unless_empty
total_pieces strip h [] = omega arith
total_pieces strip h ([] ∷ []) = omega arith
total_pieces strip h ((b ∷ p) ∷ []) = omega arith
total_pieces strip h (p ∷ q ∷ ps) = omega (arith, h p, total_pieces strip h (q ∷ ps))

without_cr_shorter : (p : List ℕ) → length (without_cr p) ≤ length p
unfolding without_cr
without_cr_shorter [] = omega arith
without_cr_shorter (b ∷ []) = go (eqb b CR)
  where
    go : (x : Bool) → length (cond x [] (b ∷ [])) ≤ 1
    go true = omega arith
    go false = omega arith
without_cr_shorter (b ∷ c ∷ p) = omega (arith, without_cr_shorter (c ∷ p))

whole_line_shorter : (p : List ℕ) → length (whole_line p) ≤ length p
unfolding whole_line
whole_line_shorter p = omega arith

-- ---- lines of records

undoubled_shorter : (f : List ℕ) → length (undoubled f) ≤ length f
unfolding undoubled
undoubled_shorter [] = omega arith
undoubled_shorter (b ∷ []) = go (eqb b QUOTE)
  where
    go : (x : Bool) → length (cond x [] (b ∷ [])) ≤ 1
    go true = omega arith
    go false = omega arith
undoubled_shorter (b ∷ c ∷ f) = go (eqb b QUOTE) (undoubled_shorter f) (undoubled_shorter (c ∷ f))
  where
    go : (x : Bool) → length (undoubled f) ≤ length f → length (undoubled (c ∷ f)) ≤ suc (length f) →
        length (cond x (QUOTE ∷ undoubled f) (b ∷ undoubled (c ∷ f))) ≤ suc (suc (length f))
    go true h k = omega arith
    go false h k = omega arith

value_shorter : (f : List ℕ) → length (field_value f) ≤ length f
unfolding field_value
value_shorter [] = omega arith
value_shorter (b ∷ f) = go (eqb b QUOTE) (undoubled_shorter f)
  where
    go : (x : Bool) → length (undoubled f) ≤ length f → length (cond x (undoubled f) (b ∷ f)) ≤ suc (length f)
    go true h = omega arith
    go false h = omega arith

values_shorter : (fs : List (List ℕ)) → length (joined TAB (all_values fs)) ≤ length (joined COMMA fs)
unfolding joined all_values
values_shorter [] = omega arith
values_shorter (f ∷ []) = value_shorter f
values_shorter (f ∷ g ∷ fs) = simp length-append (omega (arith, value_shorter f, values_shorter (g ∷ fs)))

line_shorter : (p : List ℕ) → length (joined TAB (record_fields p)) ≤ length p
unfolding record_fields raw_fields
line_shorter p = omega (arith, values_shorter (cut turned COMMA false p), ap length (joined_cut turned COMMA false p))

lines_shorter : (ps : List (List ℕ)) → length (lines_text (first_taken record_right record_fields ps)) ≤ total ps
unfolding first_taken lines_text total
lines_shorter [] = omega arith
lines_shorter (p ∷ ps) = go (record_right p && record_taken (record_fields p)) (lines_shorter ps)
  where
    go : (x : Bool) → length (lines_text (first_taken record_right record_fields ps)) ≤ total ps →
        length (lines_text (cond x (record_fields p ∷ first_taken record_right record_fields ps) [])) ≤ length p + 1 + total ps
    go true h = simp length-append (omega (arith, h, line_shorter p))
    go false h = omega arith

-- ---- records of lines

doubled_length : (f : List ℕ) → length (doubled f) ≤ 2 * length f
unfolding doubled
doubled_length [] = omega arith
doubled_length (b ∷ f) = go (eqb b QUOTE) (doubled_length f)
  where
    go : (x : Bool) → length (doubled f) ≤ 2 * length f → length (cond x (QUOTE ∷ QUOTE ∷ doubled f) (b ∷ doubled f)) ≤ 2 * suc (length f)
    go true h = omega arith
    go false h = omega arith

field_length : (f : List ℕ) → length (field_text f) ≤ 3 * length f + 1
unfolding field_text needs_quotes
field_length [] = omega arith
field_length (b ∷ f) = go (needs_quotes (b ∷ f)) (doubled_length (b ∷ f))
  where
    go : (x : Bool) → length (doubled (b ∷ f)) ≤ 2 * suc (length f) →
        length (cond x (QUOTE ∷ (doubled (b ∷ f) ++ (QUOTE ∷ []))) (b ∷ f)) ≤ 3 * suc (length f) + 1
    go true h = simp length-append (omega arith)
    go false h = omega arith

fields_length : (fs : List (List ℕ)) → length (joined COMMA (field_texts fs)) ≤ 3 * length (joined TAB fs) + 1
unfolding joined field_texts
fields_length [] = omega arith
fields_length (f ∷ []) = field_length f
fields_length (f ∷ g ∷ fs) = simp length-append (omega (arith, field_length f, fields_length (g ∷ fs)))

record_length : (p : List ℕ) → length (joined COMMA (field_texts (line_fields p))) ≤ 3 * length p + 1
unfolding line_fields
record_length p = omega (arith, fields_length (cut unturned TAB false p), ap length (joined_cut unturned TAB false p))

records_length : (ps : List (List ℕ)) → length (records_text (first_taken line_right line_fields ps)) ≤ 3 * total ps
unfolding first_taken records_text total
records_length [] = omega arith
records_length (p ∷ ps) = go (line_right p && record_taken (line_fields p)) (records_length ps)
  where
    go : (x : Bool) → length (records_text (first_taken line_right line_fields ps)) ≤ 3 * total ps →
        length (records_text (cond x (line_fields p ∷ first_taken line_right line_fields ps) [])) ≤ 3 * (length p + 1 + total ps)
    go true h = simp length-append (omega (arith, h, record_length p))
    go false h = omega arith

-- ---- both

pub lines_bound : (t : List ℕ) → length (output_of true t).text ≤ length t + 1
unfolding output_of output_from records_in
lines_bound t =
    omega (
      arith,
      lines_shorter (pieces without_cr (cut turned LF false t)),
      total_pieces without_cr without_cr_shorter (cut turned LF false t),
      total_cut turned LF false t,
    )

pub records_bound : (t : List ℕ) → length (output_of false t).text ≤ 3 * length t + 3
unfolding output_of output_from lines_in
records_bound t =
    omega (
      arith,
      records_length (pieces whole_line (cut unturned LF false t)),
      total_pieces whole_line whole_line_shorter (cut unturned LF false t),
      total_cut unturned LF false t,
    )
