-- Reading drill lines byte by byte.
use Rattle.std.specs.Prelude.{ℕ, ◌+◌, Bool, true, false, cond, ◌&&◌, ◌||◌, not, List, [], ◌∷◌, ◌++◌, eqb, ltb, length, Result, Some, Option, None, is_none}
use Rattle.std.specs.List.{list_any, take_while}
use Rattle.text.specs.Fields.{TAB, LF}
use Rattle.delivery_csv.specs.Fields.{CR, QUOTE, COMMA, max_fields, max_field_bytes, Outcome, bad, good}
use Rattle.delivery_csv.specs.Records.{special}
use Rattle.delivery_csv.specs.laws.Outcomes.{with_text}
use Rattle.delivery_csv.specs.laws.Room.{spent, passed, answered}
use Rattle.delivery_csv.specs.declared.LineReader.{LineReader}
use Rattle.delivery_csv.specs.declared.scan.Scan.{Scan}
use Rattle.delivery_csv.specs.declared.ConversionError.{ConversionError}

-- whether a field is over at the byte
unfoldable pub field_ends : ℕ → Bool
field_ends b = eqb b TAB || eqb b LF

-- whether the field at the front of a text needs quotes
unfoldable pub wraps_in : List ℕ → Bool
wraps_in t = list_any special (take_while (λ b. not (field_ends b)) t)

-- whether the field that starts after the byte b needs quotes, if one does
unfoldable pub wraps_after : ℕ → List ℕ → Bool
wraps_after b t = cond (field_ends b) (wraps_in t) false

-- a line that may still be taken; `wraps` says whether the field being read is written in quotes
unfoldable pub reading_line : (fields length : ℕ) (wraps : Bool) → Option LineReader
reading_line f l w = Some (record { fields = f; length = l; wraps = w })

-- a tab: the field is over, and another follows
unfoldable pub parted_line : LineReader → Bool → Option LineReader
parted_line r w = cond (ltb (r.fields + 1) max_fields) (reading_line (r.fields + 1) 0 w) None

-- one more byte of a field
unfoldable pub extended_line : LineReader → Option LineReader
extended_line r = cond (ltb r.length max_field_bytes) (reading_line r.fields (r.length + 1) r.wraps) None

-- one more byte of a text is read; w says whether a field that starts after it needs quotes
unfoldable pub fed_line : LineReader → ℕ → Bool → Option LineReader
fed_line r b w =
    cond (eqb b LF) (reading_line 0 0 w)
    (cond (eqb b TAB) (parted_line r w)
    (cond (eqb b CR) None
    (extended_line r)))

-- a line that is not taken stays so
unfoldable pub advanced_line : Option LineReader → ℕ → Bool → Option LineReader
advanced_line None b w = None
advanced_line (Some r) b w = fed_line r b w

-- whether the byte ends the line
unfoldable pub line_ends : Option LineReader → ℕ → Bool
line_ends None b = false
line_ends (Some r) b = eqb b LF

-- whether the field being read is written in quotes
unfoldable pub line_wraps : Option LineReader → Bool
line_wraps None = false
line_wraps (Some r) = r.wraps

-- ---- what is written for a byte

-- a quote, if there are quotes
unfoldable pub quote_if : Bool → List ℕ
quote_if w = cond w (QUOTE ∷ []) []

-- between two fields, or after a line
unfoldable pub end_mark : ℕ → List ℕ
end_mark b = cond (eqb b LF) (CR ∷ LF ∷ []) (COMMA ∷ [])

-- `wraps` says whether the field that b is in or ends has quotes, `w` whether the one after it has
unfoldable pub line_shown : (wraps : Bool) → ℕ → (w : Bool) → List ℕ
line_shown wraps b w =
    cond (field_ends b) (quote_if wraps ++ (end_mark b ++ quote_if w))
    (cond (eqb b QUOTE) (QUOTE ∷ QUOTE ∷ []) (b ∷ []))

-- ---- the end of the text

-- whether nothing is read of a line that may still be taken
unfoldable pub line_untouched : Option LineReader → Bool
line_untouched None = true
line_untouched (Some r) = eqb r.fields 0 && eqb r.length 0

unfoldable pub line_end_text : Option LineReader → List ℕ
line_end_text r = cond (line_untouched r) [] (quote_if (line_wraps r) ++ (CR ∷ LF ∷ []))

-- ---- a text

-- the records of the bytes that are left; n is the number of the line being read
unfoldable pub run_lines : Option LineReader → ℕ → List ℕ → Outcome (List ℕ)
run_lines r n [] = cond (is_none r) (bad n) (good (line_end_text r))
run_lines r n (b ∷ t) =
    with_text (line_shown (line_wraps r) b (wraps_after b t)) (run_lines (advanced_line r b (wraps_after b t)) (cond (line_ends r b) (n + 1) n) t)

-- the bytes that are written for a text
unfoldable pub emitted_lines : Option LineReader → List ℕ → List ℕ
emitted_lines r [] = line_end_text r
emitted_lines r (b ∷ t) = line_shown (line_wraps r) b (wraps_after b t) ++ emitted_lines (advanced_line r b (wraps_after b t)) t

-- one more byte is judged
unfoldable pub scanned_line : Scan LineReader → ℕ → Bool → Scan LineReader
scanned_line x b w = passed x (advanced_line x.reader b w) (line_ends x.reader b) (length (line_shown (line_wraps x.reader) b w))

unfoldable pub scanned_lines : Scan LineReader → List ℕ → Scan LineReader
scanned_lines x [] = x
scanned_lines x (b ∷ t) = scanned_lines (scanned_line x b (wraps_after b t)) t

-- the text is over
unfoldable pub line_scan_answer : ℕ → Scan LineReader → Result ℕ ConversionError
line_scan_answer all x = answered all x (is_none x.reader) (length (line_end_text x.reader))

-- ---- the whole text

-- nothing is judged but the quote of the first field, if it has one
unfoldable pub start_scan : ℕ → Bool → Scan LineReader
start_scan all w = record { reader = reading_line 0 0 w; count = 0; room = spent (Some all) (length (quote_if w)) }

unfoldable pub judged_lines : ℕ → List ℕ → Result ℕ ConversionError
judged_lines all t = line_scan_answer all (scanned_lines (start_scan all (wraps_in t)) t)

unfoldable pub written_lines : List ℕ → List ℕ
written_lines t = quote_if (wraps_in t) ++ emitted_lines (reading_line 0 0 (wraps_in t)) t
