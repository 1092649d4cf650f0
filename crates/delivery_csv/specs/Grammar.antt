-- Files by the grammar of RFC 4180, section 2, with any choice of quotes and ends, and what is read of them: PROTOCOL 19.1, 19.2, 19.13.
use Rattle.std.specs.Prelude.{ℕ, ◌+◌, Bool, true, false, cond, ◌&&◌, ◌||◌, not, List, [], ◌∷◌, ◌++◌, ◌≡◌, eqb}
use Rattle.text.specs.Fields.{LF}
use Rattle.delivery_csv.specs.Fields.{CR, QUOTE, COMMA, record_taken, joined, Outcome, bad, good, with_record}
use Rattle.delivery_csv.specs.Records.{doubled, records_read}

-- field = (escaped / non-escaped), each with what it says
pub data Field : Type 0 where
  non_escaped : List ℕ → Field
  escaped : List ℕ → Field

-- record = field *(COMMA field): the first, and those behind a comma
pub data Record : Type 0 where
  fields : Field → List Field → Record

-- CRLF, or LF alone (PROTOCOL 19.1)
pub data End : Type 0 where
  crlf : End
  lf : End

-- file = [header CRLF] record *(CRLF record) [CRLF]: each record with its end, which the last may lack. A header is a record like others,
-- and a file may have no record.
pub data File : Type 0 where
  none : File
  last : Record → File
  ended : Record → End → File → File

-- ---- texts

-- escaped = DQUOTE *(TEXTDATA / COMMA / CR / LF / 2DQUOTE) DQUOTE: each quote of it is doubled
unfoldable pub written_text : Field → List ℕ
written_text (non_escaped f) = f
written_text (escaped f) = QUOTE ∷ (doubled f ++ (QUOTE ∷ []))

unfoldable pub written_texts : List Field → List (List ℕ)
written_texts [] = []
written_texts (w ∷ ws) = written_text w ∷ written_texts ws

unfoldable pub record_text : Record → List ℕ
record_text (fields w ws) = joined COMMA (written_texts (w ∷ ws))

unfoldable pub end_text : End → List ℕ
end_text crlf = CR ∷ LF ∷ []
end_text lf = LF ∷ []

unfoldable pub file_text : File → List ℕ
file_text none = []
file_text (last r) = record_text r
file_text (ended r e f) = record_text r ++ (end_text e ++ file_text f)

-- ---- which are by the grammar

-- TEXTDATA and the bytes that the grammar leaves out: all but a comma, quote, CR or LF (PROTOCOL 19.2)
unfoldable pub text_data : ℕ → Bool
text_data b = not (eqb b COMMA || (eqb b QUOTE || (eqb b CR || eqb b LF)))

unfoldable pub all_text_data : List ℕ → Bool
all_text_data [] = true
all_text_data (b ∷ f) = text_data b && all_text_data f

-- non-escaped = *TEXTDATA; in quotes any byte may stand
unfoldable pub lawful : Field → Bool
lawful (non_escaped f) = all_text_data f
lawful (escaped f) = true

unfoldable pub all_lawful : List Field → Bool
all_lawful [] = true
all_lawful (w ∷ ws) = lawful w && all_lawful ws

unfoldable pub record_lawful : Record → Bool
record_lawful (fields w ws) = all_lawful (w ∷ ws)

unfoldable pub has_byte : List ℕ → Bool
has_byte [] = false
has_byte (b ∷ t) = true

-- a record without bytes is one only with its end (PROTOCOL 19.1)
unfoldable pub file_lawful : File → Bool
file_lawful none = true
file_lawful (last r) = has_byte (record_text r) && record_lawful r
file_lawful (ended r e f) = record_lawful r && file_lawful f

-- ---- what they say

unfoldable pub value_of : Field → List ℕ
value_of (non_escaped f) = f
value_of (escaped f) = f

unfoldable pub values_of : List Field → List (List ℕ)
values_of [] = []
values_of (w ∷ ws) = value_of w ∷ values_of ws

unfoldable pub record_values : Record → List (List ℕ)
record_values (fields w ws) = values_of (w ∷ ws)

unfoldable pub file_values : File → List (List (List ℕ))
file_values none = []
file_values (last r) = record_values r ∷ []
file_values (ended r e f) = record_values r ∷ file_values f

-- what the limits of PROTOCOL 19.5 leave of records, numbered from n on
unfoldable pub limited : ℕ → List (List (List ℕ)) → Outcome (List (List (List ℕ)))
limited n [] = good []
limited n (r ∷ rs) = cond (record_taken r) (with_record r (limited (n + 1) rs)) (bad n)

-- ---- the theorem

-- a text by the grammar, and the fields of its records
pub record ByGrammar (t : List ℕ) (rs : List (List (List ℕ))) : Type 0 where
  pub file : File
  pub by_grammar : file_lawful file ≡ true
  pub text : file_text file ≡ t
  pub values : file_values file ≡ rs

pub record GrammarRead : Type 0 where
  -- a file by the grammar is read as what was written, up to the first record that the limits refuse
  pub as_written : (f : File) → file_lawful f ≡ true → records_read 1 (file_text f) ≡ limited 1 (file_values f)
  -- every text that is taken is such a file, and is read as what was written in it
  pub only : (t : List ℕ) (rs : List (List (List ℕ))) → records_read 1 t ≡ good rs → ByGrammar t rs
