-- Records as they are written are a file by the grammar, and so are read as the records.
use Rattle.std.specs.Prelude.{ℕ, ◌+◌, Bool, true, false, cond, List, [], ◌∷◌, ◌++◌, ◌≡◌, refl}
use Rattle.std.proofs.Common.{sym, ap, ◌∙◌}
use Rattle.text.specs.Fields.{LF}
use Rattle.delivery_csv.specs.Fields.{CR, QUOTE, COMMA, clean, fields_taken, joined, good, with_record}
use Rattle.delivery_csv.specs.Records.{records_read, needs_quotes, doubled, field_text, field_texts, records_text}
use Rattle.delivery_csv.specs.Grammar.{Field, non_escaped, escaped, fields, crlf, none, ended, written_text, written_texts, record_text, end_text, file_text}
use Rattle.delivery_csv.specs.Grammar.{lawful, all_lawful, record_lawful, file_lawful, value_of, values_of, record_values, file_values, limited, ByGrammar}
use Rattle.delivery_csv.specs.laws.Bools.{and_both}
use Rattle.delivery_csv.specs.laws.Cuts.{Some}
use Rattle.delivery_csv.specs.laws.FieldTexts.{plain_comma, plain_quote, taken_clean, taken_rest}
use Rattle.delivery_csv.specs.laws.Reading.{Right, taken_fields}
use Rattle.delivery_csv.specs.laws.Grammar.{text_data_lem, file_read}

-- ---- fields

-- in quotes only where it needs them
chosen : List ℕ → Field
chosen f = cond (needs_quotes f) (escaped f) (non_escaped f)

chosen_text : (f : List ℕ) → written_text (chosen f) ≡ field_text f
unfolding chosen written_text field_text
chosen_text f = go (needs_quotes f)
  where
    go : (x : Bool) → written_text (cond x (escaped f) (non_escaped f)) ≡ cond x (QUOTE ∷ (doubled f ++ (QUOTE ∷ []))) f
    go true = refl
    go false = refl

chosen_value : (f : List ℕ) → value_of (chosen f) ≡ f
unfolding chosen value_of
chosen_value f = go (needs_quotes f)
  where
    go : (x : Bool) → value_of (cond x (escaped f) (non_escaped f)) ≡ f
    go true = refl
    go false = refl

chosen_lawful : (f : List ℕ) → clean f ≡ true → lawful (chosen f) ≡ true
unfolding chosen lawful
chosen_lawful f h = go (needs_quotes f) refl
  where
    go : (x : Bool) → needs_quotes f ≡ x → lawful (cond x (escaped f) (non_escaped f)) ≡ true
    go true e = refl
    go false e = text_data_lem f h (plain_quote f e) (plain_comma f e)

all_chosen : List (List ℕ) → List Field
all_chosen [] = []
all_chosen (f ∷ fs) = chosen f ∷ all_chosen fs

chosen_texts : (fs : List (List ℕ)) → written_texts (all_chosen fs) ≡ field_texts fs
unfolding all_chosen written_texts field_texts
chosen_texts [] = refl
chosen_texts (f ∷ fs) = rw (chosen_text f, chosen_texts fs)

chosen_values : (fs : List (List ℕ)) → values_of (all_chosen fs) ≡ fs
unfolding all_chosen values_of
chosen_values [] = refl
chosen_values (f ∷ fs) = rw (chosen_value f, chosen_values fs)

all_chosen_lawful : (fs : List (List ℕ)) → fields_taken fs ≡ true → all_lawful (all_chosen fs) ≡ true
unfolding all_chosen all_lawful
all_chosen_lawful [] h = refl
all_chosen_lawful (f ∷ fs) h = and_both (chosen_lawful f (taken_clean f fs h)) (all_chosen_lawful fs (taken_rest f fs h))

-- ---- records

text_by_grammar : (rs : List (List (List ℕ))) → Right rs → ByGrammar (records_text rs) rs
unfolding Right Some file_lawful file_text file_values record_lawful record_text record_values end_text records_text all_chosen
text_by_grammar [] h = record { file = none; by_grammar = refl; text = refl; values = refl }
text_by_grammar ([] ∷ rs) h = absurd h.1
text_by_grammar ((f ∷ fs) ∷ rs) h =
    let g : ByGrammar (records_text rs) rs = text_by_grammar rs h.2 in
    record {
      file = ended (fields (chosen f) (all_chosen fs)) crlf g.file;
      by_grammar = and_both (all_chosen_lawful (f ∷ fs) (taken_fields (f ∷ fs) h.0)) g.by_grammar;
      text = ap (λ (ps : List (List ℕ)). joined COMMA ps ++ (CR ∷ LF ∷ file_text g.file)) (chosen_texts (f ∷ fs)) ∙ rw g.text;
      values = rw (chosen_values (f ∷ fs), g.values);
    }

within : (n : ℕ) (rs : List (List (List ℕ))) → Right rs → limited n rs ≡ good rs
unfolding Right limited with_record
within n [] h = refl
within n (r ∷ rs) h = rw (h.0, within (n + 1) rs h.2)

pub records_of_text : (n : ℕ) (rs : List (List (List ℕ))) → Right rs → records_read n (records_text rs) ≡ good rs
records_of_text n rs h =
    let g : ByGrammar (records_text rs) rs = text_by_grammar rs h in
    ap (records_read n) (sym g.text) ∙ file_read n g.file g.by_grammar ∙ ap (limited n) g.values ∙ within n rs h
