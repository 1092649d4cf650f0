-- A file by the grammar is read as what it says.
use Rattle.std.specs.Prelude.{ℕ, ◌+◌, true, false, ◌||◌, ◌≡◌, refl, eqb}
use Rattle.std.proofs.lemmas.Bool.{false≢true, not-true}
use mathlib.Core.List.{List, [], ◌∷◌, ◌++◌, append-nil, append_assoc}
use Rattle.std.proofs.Common.{sym, ap, ◌∙◌}
use Rattle.text.specs.Fields.{TAB, LF}
use Rattle.delivery_csv.specs.Fields.{CR, QUOTE, COMMA, clean, cut, unless_empty, pieces, joined, good, read_all}
use Rattle.delivery_csv.specs.Records.{turned, without_cr, records_in, raw_fields, unquoted, field_right, field_value, all_right, all_values}
use Rattle.delivery_csv.specs.Records.{record_right, record_fields, records_read, doubled}
use Rattle.delivery_csv.specs.Grammar.{Field, non_escaped, escaped, Record, fields, End, crlf, lf, File, none, last, ended}
use Rattle.delivery_csv.specs.Grammar.{written_text, written_texts, record_text, end_text, file_text, text_data, all_text_data, lawful, all_lawful, record_lawful, has_byte, file_lawful}
use Rattle.delivery_csv.specs.Grammar.{value_of, values_of, record_values, file_values, limited}
use Rattle.delivery_csv.specs.laws.Bools.{and_left, and_right, and_both, or_left, or_right}
use Rattle.delivery_csv.specs.laws.Cuts.{Some, pieces_next, cut_some, cut_at, cut_whole, cut_joined, Sealed, AllSealed}
use Rattle.delivery_csv.specs.laws.Cuts.{sealed_nil, sealed_byte, sealed_append, sealed_joined}
use Rattle.delivery_csv.specs.laws.FieldTexts.{free, free_byte, free_first, free_rest, unquoted_byte, unquoted_first, unquoted_rest, clean_byte, clean_rest}
use Rattle.delivery_csv.specs.laws.FieldTexts.{closed_doubled, undoubled_doubled, plain_right, plain_value, sealed_outside, sealed_quoted}
use Rattle.delivery_csv.specs.laws.Reading.{read_one}

-- ---- TEXTDATA

-- a byte that is none of the four
record Apart (b : ℕ) : Type 0 where
  comma : eqb b COMMA ≡ false
  quote : eqb b QUOTE ≡ false
  cr : eqb b CR ≡ false
  lf : eqb b LF ≡ false

apart : (b : ℕ) → text_data b ≡ true → Apart b
unfolding text_data
apart b h =
    let any : (eqb b COMMA || (eqb b QUOTE || (eqb b CR || eqb b LF))) ≡ false = not-true _ h in
    let three : (eqb b QUOTE || (eqb b CR || eqb b LF)) ≡ false = or_right (eqb b COMMA) _ any in
    let two : (eqb b CR || eqb b LF) ≡ false = or_right (eqb b QUOTE) _ three in
    record { comma = or_left (eqb b COMMA) _ any; quote = or_left (eqb b QUOTE) _ three; cr = or_left (eqb b CR) _ two; lf = or_right (eqb b CR) _ two }

data_byte : (b : ℕ) (f : List ℕ) → all_text_data (b ∷ f) ≡ true → Apart b
unfolding all_text_data
data_byte b f h = apart b (and_left (text_data b) (all_text_data f) h)

data_rest : (b : ℕ) (f : List ℕ) → all_text_data (b ∷ f) ≡ true → all_text_data f ≡ true
unfolding all_text_data
data_rest b f h = and_right (text_data b) (all_text_data f) h

data_free : (s : ℕ) → ((b : ℕ) → Apart b → eqb b s ≡ false) → (f : List ℕ) → all_text_data f ≡ true → free s f ≡ true
unfolding free
data_free s d [] h = refl
data_free s d (b ∷ f) h = free_byte s b f (d b (data_byte b f h)) (data_free s d f (data_rest b f h))

data_unquoted : (f : List ℕ) → all_text_data f ≡ true → unquoted f ≡ true
unfolding unquoted
data_unquoted [] h = refl
data_unquoted (b ∷ f) h = unquoted_byte b f (data_byte b f h).quote (data_unquoted f (data_rest b f h))

is_data : (b : ℕ) → eqb b COMMA ≡ false → eqb b QUOTE ≡ false → (eqb b CR || eqb b LF) ≡ false → text_data b ≡ true
unfolding text_data
is_data b c q e = rw (c, q, e)

-- fields that may stand without quotes
pub text_data_lem : (f : List ℕ) → clean f ≡ true → unquoted f ≡ true → free COMMA f ≡ true → all_text_data f ≡ true
unfolding all_text_data
text_data_lem [] h q c = refl
text_data_lem (b ∷ f) h q c =
    and_both (is_data b (free_first COMMA b f c) (unquoted_first b f q) (or_right (eqb b TAB) (eqb b CR || eqb b LF) (clean_byte b f h)))
    (text_data_lem f (clean_rest b f h) (unquoted_rest b f q) (free_rest COMMA b f c))

-- ---- a field is read as what it says, and is not cut

lawful_first : (w : Field) (ws : List Field) → all_lawful (w ∷ ws) ≡ true → lawful w ≡ true
unfolding all_lawful
lawful_first w ws h = and_left (lawful w) (all_lawful ws) h

lawful_rest : (w : Field) (ws : List Field) → all_lawful (w ∷ ws) ≡ true → all_lawful ws ≡ true
unfolding all_lawful
lawful_rest w ws h = and_right (lawful w) (all_lawful ws) h

written_right : (w : Field) → lawful w ≡ true → field_right (written_text w) ≡ true
unfolding field_right written_text lawful
written_right (non_escaped f) h = plain_right f (data_unquoted f h)
written_right (escaped f) h = closed_doubled f

written_value : (w : Field) → lawful w ≡ true → field_value (written_text w) ≡ value_of w
unfolding field_value written_text lawful value_of
written_value (non_escaped f) h = plain_value f (data_unquoted f h)
written_value (escaped f) h = undoubled_doubled f

all_right_written : (ws : List Field) → all_lawful ws ≡ true → all_right (written_texts ws) ≡ true
unfolding all_right written_texts
all_right_written [] h = refl
all_right_written (w ∷ ws) h = and_both (written_right w (lawful_first w ws h)) (all_right_written ws (lawful_rest w ws h))

all_values_written : (ws : List Field) → all_lawful ws ≡ true → all_values (written_texts ws) ≡ values_of ws
unfolding all_values written_texts values_of
all_values_written [] h = refl
all_values_written (w ∷ ws) h = rw (written_value w (lawful_first w ws h), all_values_written ws (lawful_rest w ws h))

module _ (s : ℕ) (other : eqb QUOTE s ≡ false) (d : (b : ℕ) → Apart b → eqb b s ≡ false) where
  sealed_field : (w : Field) → lawful w ≡ true → Sealed turned s false (written_text w) false
  unfolding written_text lawful
  sealed_field (non_escaped f) h = sealed_outside s f (data_free s d f h) (data_unquoted f h)
  sealed_field (escaped f) h = sealed_quoted s other f

  sealed_fields : (ws : List Field) → all_lawful ws ≡ true → AllSealed turned s (written_texts ws)
  unfolding AllSealed written_texts
  sealed_fields [] h = tt
  sealed_fields (w ∷ ws) h = (sealed_field w (lawful_first w ws h), sealed_fields ws (lawful_rest w ws h))

-- ---- no end takes a CR of a record

-- a text without a CR at its end, also where it has no byte and stands behind b
Kept : List ℕ → Type 0
Kept w = (b : ℕ) → eqb b CR ≡ false → without_cr (b ∷ w) ≡ b ∷ w

kept_nil : Kept []
unfolding Kept without_cr
kept_nil b e = rw e

kept_data : (f : List ℕ) → all_text_data f ≡ true → Kept f
unfolding Kept without_cr
kept_data [] h b e = kept_nil b e
kept_data (c ∷ f) h b e = ap (λ (q : List ℕ). b ∷ q) (kept_data f (data_rest c f h) c (data_byte c f h).cr)

behind : (v : List ℕ) (c : ℕ) (w : List ℕ) → without_cr (v ++ (c ∷ w)) ≡ v ++ without_cr (c ∷ w)
unfolding without_cr
behind [] c w = refl
behind (a ∷ []) c w = refl
behind (a ∷ b ∷ v) c w = ap (λ (q : List ℕ). a ∷ q) (behind (b ∷ v) c w)

kept_behind : (v : List ℕ) (c : ℕ) (w : List ℕ) → eqb c CR ≡ false → Kept w → Kept (v ++ (c ∷ w))
unfolding Kept
kept_behind v c w e k b q = behind (b ∷ v) c w ∙ ap (λ (u : List ℕ). b ∷ (v ++ u)) (k c e)

kept_field : (w : Field) → lawful w ≡ true → Kept (written_text w)
unfolding written_text lawful
kept_field (non_escaped f) h = kept_data f h
kept_field (escaped f) h = kept_behind (QUOTE ∷ doubled f) QUOTE [] refl kept_nil

kept_joined : (w : Field) (ws : List Field) → all_lawful (w ∷ ws) ≡ true → Kept (joined COMMA (written_texts (w ∷ ws)))
unfolding joined written_texts
kept_joined w [] h = kept_field w (lawful_first w [] h)
kept_joined w (x ∷ ws) h =
    kept_behind (written_text w) COMMA (joined COMMA (written_texts (x ∷ ws))) refl (kept_joined x ws (lawful_rest w (x ∷ ws) h))

kept_whole : (w : List ℕ) → Kept w → without_cr w ≡ w
unfolding Kept without_cr
kept_whole [] k = refl
kept_whole (b ∷ w) k = let e : 0 ∷ without_cr (b ∷ w) ≡ 0 ∷ b ∷ w = k 0 refl in cc

-- ---- records and files

raw_fields_lem : (ws : List Field) → Some (written_texts ws) → all_lawful ws ≡ true → raw_fields (joined COMMA (written_texts ws)) ≡ written_texts ws
unfolding raw_fields
raw_fields_lem ws g h = cut_joined turned COMMA (written_texts ws) g (sealed_fields COMMA refl (λ b a. a.comma) ws h)

record_right_lem : (r : Record) → record_lawful r ≡ true → record_right (record_text r) ≡ true
unfolding Some record_lawful record_text written_texts record_right
record_right_lem (fields w ws) h = ap all_right (raw_fields_lem (w ∷ ws) tt h) ∙ all_right_written (w ∷ ws) h

record_values_lem : (r : Record) → record_lawful r ≡ true → record_fields (record_text r) ≡ record_values r
unfolding Some record_lawful record_text written_texts record_fields record_values
record_values_lem (fields w ws) h = ap all_values (raw_fields_lem (w ∷ ws) tt h) ∙ all_values_written (w ∷ ws) h

sealed_record : (r : Record) → record_lawful r ≡ true → Sealed turned LF false (record_text r) false
unfolding record_lawful record_text turned
sealed_record (fields w ws) h = sealed_joined turned LF COMMA refl refl (written_texts (w ∷ ws)) (sealed_fields LF refl (λ b a. a.lf) (w ∷ ws) h)

kept_record : (r : Record) → record_lawful r ≡ true → without_cr (record_text r) ≡ record_text r
unfolding record_lawful record_text
kept_record (fields w ws) h = kept_whole (joined COMMA (written_texts (w ∷ ws))) (kept_joined w ws h)

-- a text that is not cut, up to an LF, is the first record
record_cut : (p t : List ℕ) → Sealed turned LF false p false → records_in (p ++ (LF ∷ t)) ≡ without_cr p ∷ records_in t
unfolding records_in
record_cut p t h = ap (pieces without_cr) (cut_at turned LF p t h) ∙ pieces_next without_cr p (cut turned LF false t) (cut_some turned LF false t)

sealed_cr : (p : List ℕ) → Sealed turned LF false p false → Sealed turned LF false (p ++ (CR ∷ [])) false
unfolding turned
sealed_cr p h = sealed_append turned LF false false false p (CR ∷ []) h (sealed_byte turned LF false CR [] false refl (sealed_nil turned LF false))

record_ended : (e : End) (p t : List ℕ) → Sealed turned LF false p false → without_cr p ≡ p → records_in (p ++ (end_text e ++ t)) ≡ p ∷ records_in t
unfolding end_text without_cr
record_ended crlf p t h k =
    ap records_in (sym (append_assoc p (CR ∷ []) (LF ∷ t))) ∙ record_cut (p ++ (CR ∷ [])) t (sealed_cr p h)
    ∙ ap (λ (q : List ℕ). q ∷ records_in t) (behind p CR [] ∙ append-nil p)
record_ended lf p t h k = record_cut p t h ∙ ap (λ (q : List ℕ). q ∷ records_in t) k

some_piece : (p : List ℕ) → has_byte p ≡ true → unless_empty p ≡ p ∷ []
unfolding has_byte unless_empty
some_piece [] h = absurd (false≢true h)
some_piece (b ∷ p) h = refl

record_last : (p : List ℕ) → Sealed turned LF false p false → has_byte p ≡ true → records_in p ≡ p ∷ []
unfolding records_in pieces
record_last p h k = ap (pieces without_cr) (cut_whole turned LF p h) ∙ some_piece p k

pub file_read : (n : ℕ) (f : File) → file_lawful f ≡ true → records_read n (file_text f) ≡ limited n (file_values f)
unfolding records_read records_in cut pieces unless_empty read_all file_lawful file_text file_values limited
file_read n none h = refl
file_read n (last r) h =
    let l : record_lawful r ≡ true = and_right (has_byte (record_text r)) (record_lawful r) h in
    ap (read_all record_right record_fields n) (record_last (record_text r) (sealed_record r l) (and_left (has_byte (record_text r)) (record_lawful r) h))
    ∙ read_one record_right record_fields n (record_text r) [] (record_values r) (good []) (record_right_lem r l) (record_values_lem r l) refl
file_read n (ended r e f) h =
    let l : record_lawful r ≡ true = and_left (record_lawful r) (file_lawful f) h in
    ap (read_all record_right record_fields n) (record_ended e (record_text r) (file_text f) (sealed_record r l) (kept_record r l))
    ∙ read_one record_right record_fields n (record_text r) (records_in (file_text f)) (record_values r) (limited (n + 1) (file_values f))
    (record_right_lem r l) (record_values_lem r l) (file_read (n + 1) f (and_right (record_lawful r) (file_lawful f) h))
