-- Both directions, and the answer and the lent bytes of a conversion: PROTOCOL 19.6 to 19.8.
use Rattle.std.specs.Prelude.{ℕ, cond, List, ◌++◌, ltb, length, drop, Result, Ok, Err}
use Rattle.delivery_csv.specs.Fields.{Outcome, bad, good}
use Rattle.delivery_csv.specs.Records.{records_read, records_text}
use Rattle.delivery_csv.specs.Lines.{lines_read, lines_text}
use Rattle.delivery_csv.specs.declared.ConversionError.{ConversionError}
use Rattle.delivery_csv.specs.declared.ConversionError.TheVariants.{Record, Short}

-- the text of what is read
unfoldable pub text_of : (List (List (List ℕ)) → List ℕ) → Outcome (List (List (List ℕ))) → Outcome (List ℕ)
text_of write (bad n) = bad n
text_of write (good rs) = good (write rs)

unfoldable pub drill_of_csv : List ℕ → Outcome (List ℕ)
drill_of_csv t = text_of lines_text (records_read 1 t)

unfoldable pub csv_of_drill : List ℕ → Outcome (List ℕ)
csv_of_drill t = text_of records_text (lines_read 1 t)

-- a record that is refused goes before too little room
unfoldable pub conversion : Outcome (List ℕ) → ℕ → Result ℕ ConversionError
conversion (bad n) room = Err (Record n)
conversion (good t) room = cond (ltb room (length t)) (Err Short) (Ok (length t))

-- the lent bytes s after it: the text at their front, and nothing where it is refused
unfoldable pub bytes_after : Outcome (List ℕ) → List ℕ → List ℕ
bytes_after (bad n) s = s
bytes_after (good t) s = cond (ltb (length s) (length t)) s (t ++ drop (length t) s)
