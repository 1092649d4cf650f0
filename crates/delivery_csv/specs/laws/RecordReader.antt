-- Reading records byte by byte.
use Rattle.std.specs.Prelude.{ℕ, ◌+◌, Bool, true, false, cond, ◌&&◌, ◌||◌, not, List, [], ◌∷◌, ◌++◌, eqb, ltb, length, Result, Option, Some, None}
use Rattle.text.specs.Fields.{TAB, LF}
use Rattle.delivery_csv.specs.Fields.{CR, QUOTE, COMMA, max_fields, max_field_bytes, Outcome, bad, good}
use Rattle.delivery_csv.specs.laws.Outcomes.{with_text}
use Rattle.delivery_csv.specs.laws.Room.{passed, answered}
use Rattle.delivery_csv.specs.declared.Phase.{Phase}
use Rattle.delivery_csv.specs.declared.Phase.TheVariants.{Start, Plain, Quoted, Closing, Return}
use Rattle.delivery_csv.specs.declared.RecordReader.{RecordReader}
use Rattle.delivery_csv.specs.declared.scan.Scan.{Scan}
use Rattle.delivery_csv.specs.declared.ConversionError.{ConversionError}

-- a record that may still be taken
unfoldable pub reading : Phase → (fields length : ℕ) → Option RecordReader
reading p f l = Some (record { phase = p; fields = f; length = l })

-- a record of which nothing is read
unfoldable pub start : Option RecordReader
start = reading Start 0 0

-- one more byte of a field is read
unfoldable pub extended : RecordReader → Phase → Option RecordReader
extended r p = cond (ltb r.length max_field_bytes) (reading p r.fields (r.length + 1)) None

-- the field is over, and another follows
unfoldable pub parted : RecordReader → Option RecordReader
parted r = cond (ltb (r.fields + 1) max_fields) (reading Start (r.fields + 1) 0) None

-- a byte outside quotes
unfoldable pub plain_fed : RecordReader → ℕ → Option RecordReader
plain_fed r b =
    cond (eqb b COMMA) (parted r)
    (cond (eqb b CR) (reading Return r.fields r.length)
    (cond (eqb b TAB) None
    (extended r Plain)))

-- a byte within quotes
unfoldable pub quoted_fed : RecordReader → ℕ → Option RecordReader
quoted_fed r b =
    cond (eqb b QUOTE) (reading Closing r.fields r.length)
    (cond (eqb b TAB || (eqb b CR || eqb b LF)) None
    (extended r Quoted))

-- a byte after a quote within quotes
unfoldable pub closing_fed : RecordReader → ℕ → Option RecordReader
closing_fed r b =
    cond (eqb b QUOTE) (extended r Quoted)
    (cond (eqb b COMMA) (parted r)
    (cond (eqb b CR) (reading Return r.fields r.length)
    None))

unfoldable pub fed_in : Phase → RecordReader → ℕ → Option RecordReader
fed_in Start r b = cond (eqb b QUOTE) (reading Quoted r.fields 0) (plain_fed r b)
fed_in Plain r b = cond (eqb b QUOTE) None (plain_fed r b)
fed_in Quoted r b = quoted_fed r b
fed_in Closing r b = closing_fed r b
fed_in Return r b = None

-- one more byte of a record is read; a record that is not taken stays so
unfoldable pub fed : Option RecordReader → ℕ → Option RecordReader
fed None b = None
fed (Some r) b = fed_in r.phase r b

unfoldable pub within : Phase → Bool
within Start = false
within Plain = false
within Quoted = true
within Closing = false
within Return = false

-- whether the byte ends the record
unfoldable pub ends : Option RecordReader → ℕ → Bool
ends None b = false
ends (Some r) b = eqb b LF && not (within r.phase)

-- one more byte of a text is read
unfoldable pub advanced : Option RecordReader → ℕ → Option RecordReader
advanced r b = cond (ends r b) start (fed r b)

-- ---- what is written for a byte

unfoldable pub plain_shown : ℕ → Option ℕ
plain_shown b = cond (eqb b COMMA) (Some TAB) (cond (eqb b CR) None (Some b))

unfoldable pub shown_in : Phase → ℕ → Option ℕ
shown_in Start b = cond (eqb b QUOTE) None (plain_shown b)
shown_in Plain b = plain_shown b
shown_in Quoted b = cond (eqb b QUOTE) None (Some b)
shown_in Closing b = plain_shown b
shown_in Return b = plain_shown b

unfoldable pub shown : Option RecordReader → ℕ → Option ℕ
shown None b = None
shown (Some r) b = shown_in r.phase b

unfoldable pub shown_text : Option ℕ → List ℕ
shown_text None = []
shown_text (Some b) = b ∷ []

-- ---- the end of the text

unfoldable pub untouched_in : Phase → ℕ → Bool
untouched_in Start f = eqb f 0
untouched_in Plain f = false
untouched_in Quoted f = false
untouched_in Closing f = false
untouched_in Return f = false

-- whether nothing is read of a record that may still be taken
unfoldable pub untouched : Option RecordReader → Bool
untouched None = true
untouched (Some r) = untouched_in r.phase r.fields

unfoldable pub broken_in : Phase → Bool
broken_in Start = false
broken_in Plain = false
broken_in Quoted = true
broken_in Closing = false
broken_in Return = true

-- whether a record that ends with the text is not taken
unfoldable pub broken : Option RecordReader → Bool
broken None = true
broken (Some r) = broken_in r.phase

unfoldable pub end_text : Option RecordReader → List ℕ
end_text r = cond (untouched r) [] (LF ∷ [])

-- ---- a text

-- the lines of the bytes that are left; n is the number of the record being read
unfoldable pub run : Option RecordReader → ℕ → List ℕ → Outcome (List ℕ)
run r n [] = cond (broken r) (bad n) (good (end_text r))
run r n (b ∷ t) = with_text (shown_text (shown r b)) (run (advanced r b) (cond (ends r b) (n + 1) n) t)

-- the bytes that are written for a text
unfoldable pub emitted : Option RecordReader → List ℕ → List ℕ
emitted r [] = end_text r
emitted r (b ∷ t) = shown_text (shown r b) ++ emitted (advanced r b) t

-- one more byte is judged
unfoldable pub scanned : Scan RecordReader → ℕ → Scan RecordReader
scanned x b = passed x (advanced x.reader b) (ends x.reader b) (length (shown_text (shown x.reader b)))

unfoldable pub scanned_all : Scan RecordReader → List ℕ → Scan RecordReader
scanned_all x [] = x
scanned_all x (b ∷ t) = scanned_all (scanned x b) t

-- the text is over
unfoldable pub scan_answer : ℕ → Scan RecordReader → Result ℕ ConversionError
scan_answer all x = answered all x (broken x.reader) (length (end_text x.reader))
