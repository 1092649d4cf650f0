-- An input converted as it comes: what is written does not depend on how reads cut it (PROTOCOL 19.10, 19.11).
use Rattle.std.specs.Prelude.{ℕ, ◌+◌, ◌*◌, ◌≤◌, Bool, true, false, cond, ◌&&◌, ◌||◌, List, [], ◌∷◌, ◌++◌, ◌≡◌, leb, ltb, length, take, drop, Result, Ok, Err}
use Rattle.delivery_csv.specs.Fields.{record_taken, Outcome, bad, good}
use Rattle.delivery_csv.specs.Records.{records_in, record_right, record_fields, records_text}
use Rattle.delivery_csv.specs.Lines.{lines_in, line_right, line_fields, lines_text}
use Rattle.delivery_csv.specs.Converting.{drill_of_csv, csv_of_drill}
use Rattle.delivery_csv.specs.Parts.{ended_part}
use Rattle.delivery_csv.specs.declared.stream.Progress.{Progress}
use Rattle.delivery_csv.specs.declared.stream.Stop.{Stop}
use Rattle.delivery_csv.specs.declared.stream.Stop.TheVariants.{Short, Refused}

-- records or lines up to the first that is not taken
unfoldable pub first_taken : (right : List ℕ → Bool) (fields_of : List ℕ → List (List ℕ)) → List (List ℕ) → List (List (List ℕ))
first_taken right fields_of [] = []
first_taken right fields_of (p ∷ ps) = cond (right p && record_taken (fields_of p)) (fields_of p ∷ first_taken right fields_of ps) []

-- whether there is one that is not taken
unfoldable pub some_refused : (right : List ℕ → Bool) (fields_of : List ℕ → List (List ℕ)) → List (List ℕ) → Bool
some_refused right fields_of [] = false
some_refused right fields_of (p ∷ ps) = cond (right p && record_taken (fields_of p)) (some_refused right fields_of ps) true

-- what comes of an input: the text of the records or lines that are taken, how many they are, and whether the next one is refused
pub record Output : Type 0 where
  pub text : List ℕ
  pub count : ℕ
  pub refused : Bool

unfoldable pub output_from : (right : List ℕ → Bool) (fields_of : List ℕ → List (List ℕ)) (write : List (List (List ℕ)) → List ℕ) → List (List ℕ) → Output
output_from right fields_of write ps =
    record {
      text = write (first_taken right fields_of ps);
      count = length (first_taken right fields_of ps);
      refused = some_refused right fields_of ps;
    }

-- of records where quotes count, else of lines
unfoldable pub output_of : (quotes : Bool) → List ℕ → Output
output_of true t = output_from record_right record_fields lines_text (records_in t)
output_of false t = output_from line_right line_fields records_text (lines_in t)

-- nothing follows a refusal
unfoldable pub followed : Output → Output → Output
followed x y = cond x.refused x (record { text = x.text ++ y.text; count = x.count + y.count; refused = y.refused })

-- how many bytes go up to the last end
unfoldable pub ended_length : (quotes : Bool) → List ℕ → ℕ
ended_length quotes t = (ended_part quotes t (length t)).length

-- what is converted of the bytes that are there: all up to the last end. A rest that cannot be taken, whatever follows, is refused.
unfoldable pub ended_output : (quotes : Bool) → List ℕ → Output
ended_output quotes t =
    record {
      text = (output_of quotes (take (ended_length quotes t) t)).text;
      count = (output_of quotes (take (ended_length quotes t) t)).count;
      refused = (output_of quotes (take (ended_length quotes t) t)).refused || leb 4096 (length (drop (ended_length quotes t) t));
    }

-- an input that comes in pieces, after a rest: each is converted as it comes with what was left before it
unfoldable pub streamed : (quotes : Bool) (rest : List ℕ) → List (List ℕ) → Output
streamed quotes rest [] = output_of quotes rest
streamed quotes rest (c ∷ cs) =
    followed (ended_output quotes (rest ++ c)) (streamed quotes (drop (ended_length quotes (rest ++ c)) (rest ++ c)) cs)

unfoldable pub all_bytes : List (List ℕ) → List ℕ
all_bytes [] = []
all_bytes (c ∷ cs) = c ++ all_bytes cs

pub record Streamed : Type 0 where
  -- an input in pieces gives what it gives as a whole
  pub any_pieces : (quotes : Bool) (cs : List (List ℕ)) → streamed quotes [] cs ≡ output_of quotes (all_bytes cs)
  -- an input that is converted gives its text, and one that is not the number of its first record or line that is not taken
  pub records_text_lem : (t u : List ℕ) → drill_of_csv t ≡ good u → ((output_of true t).text ≡ u) × ((output_of true t).refused ≡ false)
  pub records_number : (t : List ℕ) (n : ℕ) → drill_of_csv t ≡ bad n → ((output_of true t).count + 1 ≡ n) × ((output_of true t).refused ≡ true)
  pub lines_text_lem : (t u : List ℕ) → csv_of_drill t ≡ good u → ((output_of false t).text ≡ u) × ((output_of false t).refused ≡ false)
  pub lines_number : (t : List ℕ) (n : ℕ) → csv_of_drill t ≡ bad n → ((output_of false t).count + 1 ≡ n) × ((output_of false t).refused ≡ true)
  -- how long a text is at most
  pub lines_bound : (t : List ℕ) → length (output_of true t).text ≤ length t + 1
  pub records_bound : (t : List ℕ) → length (output_of false t).text ≤ 3 * length t + 3

-- ---- the answers of the functions

-- records to lines where quotes count, else lines to records
unfoldable pub converted : (quotes : Bool) → List ℕ → Outcome (List ℕ)
converted true t = drill_of_csv t
converted false t = csv_of_drill t

-- where the lent bytes hold the text of an output, n bytes being converted
unfoldable pub ended_progress : Output → (n room : ℕ) → Result Progress Stop
ended_progress x n room =
    cond (ltb room (length x.text)) (Err Short)
    (cond x.refused (Err (Refused (length x.text) x.count)) (Ok (record { written = length x.text; length = n; count = x.count })))

unfoldable pub last_progress : Output → (room : ℕ) → Result ℕ Stop
last_progress x room =
    cond (ltb room (length x.text)) (Err Short) (cond x.refused (Err (Refused (length x.text) x.count)) (Ok (length x.text)))
