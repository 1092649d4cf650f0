-- A text that is taken is by the grammar.
use Rattle.std.specs.Prelude.{ℕ, ◌+◌, Bool, cond, ◌&&◌, ◌≡◌, eqb}
use Rattle.std.proofs.Math.Bool.{true, false, not, and-true}
use Rattle.std.proofs.lemmas.Bool.{false≢true}
use Rattle.std.proofs.Common.{true≢false, sym, ap, subst, ◌∙◌, eqb-true}
use mathlib.Core.List.{List, [], ◌∷◌, ◌++◌}
use Rattle.std.proofs.Math.Path.{refl}
use Rattle.text.specs.Fields.{LF, in_front}
use Rattle.delivery_csv.specs.Fields.{CR, QUOTE, COMMA, clean, fields_taken, record_taken, cut, unless_empty, pieces, joined, good, read_all}
use Rattle.delivery_csv.specs.Records.{turned, without_cr, records_in, raw_fields, unquoted, closed, undoubled, field_right, field_value, all_right, all_values}
use Rattle.delivery_csv.specs.Records.{record_right, record_fields, records_read, doubled}
use Rattle.delivery_csv.specs.Grammar.{Field, non_escaped, escaped, Record, fields, End, crlf, lf, none, last, ended}
use Rattle.delivery_csv.specs.Grammar.{written_text, written_texts, record_text, end_text, file_text, all_text_data, lawful, all_lawful, record_lawful, has_byte, file_lawful}
use Rattle.delivery_csv.specs.Grammar.{value_of, values_of, record_values, file_values, ByGrammar, GrammarRead}
use Rattle.delivery_csv.specs.laws.Bools.{and_left, and_right, and_both, and_not}
use Rattle.delivery_csv.specs.laws.Cuts.{Some, cut_some, joined_cut}
use Rattle.delivery_csv.specs.laws.FieldTexts.{free, free_byte, unquoted_byte, unquoted_first, unquoted_rest, taken_clean, taken_rest}
use Rattle.delivery_csv.specs.laws.Reading.{taken_fields, Step, step}
use Rattle.delivery_csv.specs.laws.Grammar.{text_data_lem, file_read}

-- ---- a piece without quotes is not cut further

module _ (s : ℕ) where
  -- pieces that have no byte s where they have no quote
  AllFree : List (List ℕ) → Type 0
  AllFree [] = Unit
  AllFree (p ∷ ps) = (unquoted p ≡ true → free s p ≡ true) × AllFree ps

  -- the same where the first begins within quotes or not (i)
  FreeFrom : Bool → List (List ℕ) → Type 0
  FreeFrom i [] = Unit
  FreeFrom i (p ∷ ps) = (i ≡ false → unquoted p ≡ true → free s p ≡ true) × AllFree ps

  free_outside : (i : Bool) (ps : List (List ℕ)) → i ≡ false → FreeFrom i ps → AllFree ps
  unfolding FreeFrom AllFree
  free_outside i [] e h = tt
  free_outside i (p ∷ ps) e h = (h.0 e, h.1)

  free_first_piece : (i : Bool) (b : ℕ) (p : List ℕ) → (eqb b s && not i) ≡ false → (turned i b ≡ false → unquoted p ≡ true → free s p ≡ true) →
      i ≡ false → unquoted (b ∷ p) ≡ true → free s (b ∷ p) ≡ true
  unfolding turned
  free_first_piece true b p e k q u = absurd (true≢false q)
  free_first_piece false b p e k q u =
      free_byte s b p (sym (and-true (eqb b s)) ∙ e) (k (rw (unquoted_first b p u)) (unquoted_rest b p u))

  free_front : (i : Bool) (b : ℕ) (ps : List (List ℕ)) → (eqb b s && not i) ≡ false → FreeFrom (turned i b) ps → FreeFrom i (in_front b ps)
  unfolding FreeFrom in_front
  free_front i b [] e h = tt
  free_front i b (p ∷ ps) e h = (free_first_piece i b p e h.0, h.1)

  cut_free : (i : Bool) (t : List ℕ) → FreeFrom i (cut turned s i t)
  unfolding FreeFrom AllFree cut free
  cut_free i [] = (λ q u. refl, tt)
  cut_free i (b ∷ t) = go (eqb b s && not i) refl (cut_free i t) (cut_free (turned i b) t)
    where
      go : (x : Bool) → (eqb b s && not i) ≡ x → FreeFrom i (cut turned s i t) → FreeFrom (turned i b) (cut turned s (turned i b) t) →
          FreeFrom i (cond x ([] ∷ cut turned s i t) (in_front b (cut turned s (turned i b) t)))
      go true e h k = (λ q u. refl, free_outside i (cut turned s i t) (and_not (eqb b s) i e) h)
      go false e h k = free_front i b (cut turned s (turned i b) t) e k

-- ---- fields

-- the field with a text that is right
as_field : List ℕ → Field
as_field [] = non_escaped []
as_field (b ∷ f) = cond (eqb b QUOTE) (escaped (undoubled f)) (non_escaped (b ∷ f))

as_fields : List (List ℕ) → List Field
as_fields [] = []
as_fields (p ∷ ps) = as_field p ∷ as_fields ps

doubled_undoubled : (f : List ℕ) → closed f ≡ true → doubled (undoubled f) ++ (QUOTE ∷ []) ≡ f
unfolding closed doubled undoubled
doubled_undoubled [] h = absurd (false≢true h)
doubled_undoubled (b ∷ []) h = rw (h, eqb-true b QUOTE h)
doubled_undoubled (b ∷ c ∷ f) h = go (eqb b QUOTE) refl h (λ k. doubled_undoubled f k) (λ k. doubled_undoubled (c ∷ f) k)
  where
    go : (x : Bool) → eqb b QUOTE ≡ x → cond x (eqb c QUOTE && closed f) (closed (c ∷ f)) ≡ true →
        (closed f ≡ true → doubled (undoubled f) ++ (QUOTE ∷ []) ≡ f) → (closed (c ∷ f) ≡ true → doubled (undoubled (c ∷ f)) ++ (QUOTE ∷ []) ≡ c ∷ f) →
        doubled (cond x (QUOTE ∷ undoubled f) (b ∷ undoubled (c ∷ f))) ++ (QUOTE ∷ []) ≡ b ∷ c ∷ f
    go true e h k l =
        rw (k (and_right (eqb c QUOTE) (closed f) h), eqb-true b QUOTE e, eqb-true c QUOTE (and_left (eqb c QUOTE) (closed f) h))
    go false e h k l = rw e (ap (λ (u : List ℕ). b ∷ u) (l h))

field_text_lem : (p : List ℕ) → field_right p ≡ true → written_text (as_field p) ≡ p
unfolding field_right as_field written_text
field_text_lem [] h = refl
field_text_lem (b ∷ f) h = go (eqb b QUOTE) refl h
  where
    go : (x : Bool) → eqb b QUOTE ≡ x → cond x (closed f) (unquoted f) ≡ true → written_text (cond x (escaped (undoubled f)) (non_escaped (b ∷ f))) ≡ b ∷ f
    go true e h = rw (doubled_undoubled f h, eqb-true b QUOTE e)
    go false e h = refl

field_value_lem : (p : List ℕ) → value_of (as_field p) ≡ field_value p
unfolding field_value as_field value_of
field_value_lem [] = refl
field_value_lem (b ∷ f) = go (eqb b QUOTE)
  where
    go : (x : Bool) → value_of (cond x (escaped (undoubled f)) (non_escaped (b ∷ f))) ≡ cond x (undoubled f) (b ∷ f)
    go true = refl
    go false = refl

field_lawful : (p : List ℕ) → field_right p ≡ true → clean (field_value p) ≡ true → (unquoted p ≡ true → free COMMA p ≡ true) → lawful (as_field p) ≡ true
unfolding field_right field_value as_field lawful all_text_data
field_lawful [] h k l = refl
field_lawful (b ∷ f) h k l = go (eqb b QUOTE) refl h k
  where
    go : (x : Bool) → eqb b QUOTE ≡ x → cond x (closed f) (unquoted f) ≡ true → clean (cond x (undoubled f) (b ∷ f)) ≡ true →
        lawful (cond x (escaped (undoubled f)) (non_escaped (b ∷ f))) ≡ true
    go true e h k = refl
    go false e h k = text_data_lem (b ∷ f) k (unquoted_byte b f e h) (l (unquoted_byte b f e h))

fields_text : (ps : List (List ℕ)) → all_right ps ≡ true → written_texts (as_fields ps) ≡ ps
unfolding all_right as_fields written_texts
fields_text [] h = refl
fields_text (p ∷ ps) h = rw (field_text_lem p (and_left (field_right p) (all_right ps) h), fields_text ps (and_right (field_right p) (all_right ps) h))

fields_value : (ps : List (List ℕ)) → values_of (as_fields ps) ≡ all_values ps
unfolding all_values as_fields values_of
fields_value [] = refl
fields_value (p ∷ ps) = rw (field_value_lem p, fields_value ps)

fields_lawful : (ps : List (List ℕ)) → all_right ps ≡ true → fields_taken (all_values ps) ≡ true → AllFree COMMA ps → all_lawful (as_fields ps) ≡ true
unfolding all_right all_values AllFree as_fields all_lawful
fields_lawful [] h k l = refl
fields_lawful (p ∷ ps) h k l =
    and_both (field_lawful p (and_left (field_right p) (all_right ps) h) (taken_clean (field_value p) (all_values ps) k) l.0)
    (fields_lawful ps (and_right (field_right p) (all_right ps) h) (taken_rest (field_value p) (all_values ps) k) l.1)

-- ---- records

-- a record by the grammar with the text p
record Found (p : List ℕ) : Type 0 where
  found : Record
  by_grammar : record_lawful found ≡ true
  text : record_text found ≡ p
  values : record_values found ≡ record_fields p

found_of : (p : List ℕ) (ps : List (List ℕ)) → Some ps → joined COMMA ps ≡ p → all_values ps ≡ record_fields p →
    all_right ps ≡ true → fields_taken (all_values ps) ≡ true → AllFree COMMA ps → Found p
unfolding Some record_lawful record_text record_values as_fields
found_of p [] s j v h k l = absurd s
found_of p (q ∷ qs) s j v h k l =
    record {
      found = fields (as_field q) (as_fields qs);
      by_grammar = fields_lawful (q ∷ qs) h k l;
      text = ap (joined COMMA) (fields_text (q ∷ qs) h) ∙ j;
      values = fields_value (q ∷ qs) ∙ v;
    }

find : (p : List ℕ) → record_right p ≡ true → record_taken (record_fields p) ≡ true → Found p
unfolding record_right record_fields raw_fields
find p h k =
    found_of p (cut turned COMMA false p) (cut_some turned COMMA false p) (joined_cut turned COMMA false p) refl
    h (taken_fields (all_values (cut turned COMMA false p)) k) (free_outside COMMA false (cut turned COMMA false p) refl (cut_free COMMA false p))

-- ---- ends

-- the end of a record whose text was cut before the LF
record Ending (p : List ℕ) : Type 0 where
  end : End
  whole : (t : List ℕ) → without_cr p ++ (end_text end ++ t) ≡ p ++ (LF ∷ t)

ending : (p : List ℕ) → Ending p
unfolding without_cr end_text
ending [] = record { end = lf; whole = λ t. refl }
ending (b ∷ []) = go (eqb b CR) refl
  where
    go : (x : Bool) → eqb b CR ≡ x → Ending (b ∷ [])
    go true e = record { end = crlf; whole = λ t. rw (e, eqb-true b CR e) }
    go false e = record { end = lf; whole = λ t. rw e }
ending (b ∷ c ∷ p) = let k : Ending (c ∷ p) = ending (c ∷ p) in record { end = k.end; whole = λ t. ap (λ (u : List ℕ). b ∷ u) (k.whole t) }

-- ---- files

no_more : (n : ℕ) (rs : List (List (List ℕ))) → read_all record_right record_fields n [] ≡ good rs → [] ≡ rs
unfolding read_all
no_more n rs e = cc

last_file : (n : ℕ) (p : List ℕ) (rs : List (List (List ℕ))) → read_all record_right record_fields n (unless_empty p) ≡ good rs → ByGrammar p rs
unfolding unless_empty has_byte file_lawful file_text file_values
last_file n [] rs e = record { file = none; by_grammar = refl; text = refl; values = no_more n rs e }
last_file n (b ∷ p) rs e =
    let h : Step record_right record_fields n (b ∷ p) [] rs = step record_right record_fields n (b ∷ p) [] rs e in
    let k : Found (b ∷ p) = find (b ∷ p) h.quotes h.taken in
    record {
      file = last k.found;
      by_grammar = and_both (ap has_byte k.text) k.by_grammar;
      text = k.text;
      values = rw (k.values, no_more (n + 1) h.others h.rest) h.whole;
    }

files : (n : ℕ) (ps : List (List ℕ)) (rs : List (List (List ℕ))) → Some ps →
    read_all record_right record_fields n (pieces without_cr ps) ≡ good rs → ByGrammar (joined LF ps) rs
unfolding Some pieces joined file_lawful file_text file_values
files n [] rs s e = absurd s
files n (p ∷ []) rs s e = last_file n p rs e
files n (p ∷ q ∷ ps) rs s e =
    let h : Step record_right record_fields n (without_cr p) (pieces without_cr (q ∷ ps)) rs =
    step record_right record_fields n (without_cr p) (pieces without_cr (q ∷ ps)) rs e in
    let k : Found (without_cr p) = find (without_cr p) h.quotes h.taken in
    let g : ByGrammar (joined LF (q ∷ ps)) h.others = files (n + 1) (q ∷ ps) h.others tt h.rest in
    record {
      file = ended k.found (ending p).end g.file;
      by_grammar = and_both k.by_grammar g.by_grammar;
      text = rw (k.text, g.text) ((ending p).whole (joined LF (q ∷ ps)));
      values = rw (k.values, g.values) h.whole;
    }

taken_file : (n : ℕ) (t : List ℕ) (rs : List (List (List ℕ))) → records_read n t ≡ good rs → ByGrammar t rs
unfolding records_read records_in
taken_file n t rs e =
    subst (λ (u : List ℕ). ByGrammar u rs) (joined_cut turned LF false t) (files n (cut turned LF false t) rs (cut_some turned LF false t) e)

pub grammar_read : GrammarRead
grammar_read = record { as_written = file_read 1; only = taken_file 1 }
