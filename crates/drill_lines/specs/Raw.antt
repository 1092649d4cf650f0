-- A line as far as it is read, in numbers: which line they stand for, and how they are read on.
use Rattle.std.specs.Prelude.{ℕ, ◌+◌, ◌*◌, ◌^◌, true, false, cond, ◌&&◌, List, ◌≡◌, eqb, ltb, Option, None}
use Rattle.std.specs.Option.{option_map, option_map_or}
use Rattle.text.specs.Fields.{TAB}
use Rattle.text.specs.Numbers.{DECIMAL, digit_of, base_of, complete}
use Rattle.drill_lines.specs.Grammar.{letter_of}
use Rattle.drill_lines.specs.Automaton.{count_of, form_of, room, digit_count, pushed, no_numbers, reading, read, fed, line_with, finished}
use Rattle.drill_lines.specs.declared.Line.{Line}
use Rattle.drill_lines.specs.declared.Reader.{Reader}
use Rattle.drill_lines.specs.declared.Reader.TheVariants.{Empty, Bad}
use Rattle.drill_lines.specs.declared.raw.RawReader.{RawReader}

-- the line that numbers stand for: of the wrong form where it is bad or its letter is none, empty where its letter is 0
unfoldable pub reader_of : RawReader → Reader
reader_of x =
    cond x.bad Bad
    (cond (eqb x.kind 0) Empty
    (read (option_map (λ l. reading l x.field x.digits x.value x.numbers) (letter_of x.kind))))

-- how many fields a line has, its letter's too, and 0 for a byte that is no letter of a line
unfoldable pub raw_count : ℕ → ℕ
raw_count kind = option_map_or count_of (letter_of kind) 0

-- the form of a field; behind a byte that is no letter every field is a decimal
unfoldable pub raw_form : (kind field : ℕ) → ℕ
raw_form kind field = option_map_or (λ l. form_of l field) (letter_of kind) (cond (eqb field 0) 0 DECIMAL)

-- a line that may still be of the right form
unfoldable pub raw_reading : (kind field digits value : ℕ) → List ℕ → RawReader
raw_reading kind field digits value x = record { kind = kind; field = field; digits = digits; value = value; numbers = x; bad = false }

-- a line of the wrong form
unfoldable pub raw_wrong : RawReader
raw_wrong = record { kind = 0; field = 0; digits = 0; value = 0; numbers = no_numbers; bad = true }

-- the letter is read
unfoldable pub raw_lettered : ℕ → RawReader
raw_lettered c = cond (ltb 0 (raw_count c)) (raw_reading c 0 0 0 no_numbers) raw_wrong

-- a tab is read: the field must be a number of its form, and another one must follow
unfoldable pub raw_parted : RawReader → RawReader
raw_parted x =
    cond (complete (raw_form x.kind x.field) x.digits && ltb (x.field + 1) (raw_count x.kind))
    (raw_reading x.kind (x.field + 1) 0 0 (pushed x.numbers x.value))
    raw_wrong

-- one more byte of a field whose form is w is read: it must be a digit, and the number stay below 2^64
unfoldable pub raw_extended : ℕ → RawReader → ℕ → RawReader
raw_extended w x c =
    cond (room w x.digits && (ltb (digit_of c) (base_of w) && ltb (x.value * base_of w + digit_of c) (2 ^ 64)))
    (raw_reading x.kind x.field (digit_count w x.digits) (x.value * base_of w + digit_of c) x.numbers)
    raw_wrong

-- one more byte is read
unfoldable pub raw_fed : RawReader → ℕ → RawReader
raw_fed x c =
    cond x.bad x
    (cond (eqb x.kind 0) (raw_lettered c)
    (cond (eqb c TAB) (raw_parted x)
    (raw_extended (raw_form x.kind x.field) x c)))

-- the line is over: its last field must be a number of its form, and no other one be missing
unfoldable pub raw_finished : RawReader → Option Line
raw_finished x =
    cond x.bad None
    (cond (complete (raw_form x.kind x.field) x.digits && eqb (x.field + 1) (raw_count x.kind))
    (option_map (λ l. line_with l (pushed x.numbers x.value)) (letter_of x.kind))
    None)

-- numbers after one more byte stand for the reader after that byte, and at the end of the line both give the same
pub record ReadsRaw (x : RawReader) : Type 0 where
  pub byte : (c : ℕ) → reader_of (raw_fed x c) ≡ fed (reader_of x) c
  pub over : raw_finished x ≡ finished (reader_of x)

abbrev pub RawReaders : Type 0
RawReaders = (x : RawReader) → ReadsRaw x
