-- Records as RFC 4180, section 2, has them: PROTOCOL 19.1 to 19.4. Grammar.antt has its grammar, and that both take the same texts.
use Rattle.std.specs.Prelude.{ℕ, Bool, true, false, cond, ◌&&◌, ◌||◌, not, List, [], ◌∷◌, ◌++◌, eqb}
use Rattle.text.specs.Fields.{LF}
use Rattle.delivery_csv.specs.Fields.{CR, QUOTE, COMMA, cut, pieces, joined, Outcome, read_all}

-- a quote begins what stands within quotes, or ends it; a doubled one does both
unfoldable pub turned : Bool → ℕ → Bool
turned inside b = cond (eqb b QUOTE) (not inside) inside

-- a CR before the LF that ends a record belongs to the end
unfoldable pub without_cr : List ℕ → List ℕ
without_cr [] = []
without_cr (b ∷ []) = cond (eqb b CR) [] (b ∷ [])
without_cr (b ∷ c ∷ p) = b ∷ without_cr (c ∷ p)

-- records end with CR LF or LF, outside quotes (RFC 4180, 2.1, 2.2, 2.6)
unfoldable pub records_in : List ℕ → List (List ℕ)
records_in t = pieces without_cr (cut turned LF false t)

-- fields as they stand: a comma outside quotes between any two (RFC 4180, 2.4, 2.6)
unfoldable pub raw_fields : List ℕ → List (List ℕ)
raw_fields p = cut turned COMMA false p

unfoldable pub unquoted : List ℕ → Bool
unquoted [] = true
unquoted (b ∷ f) = not (eqb b QUOTE) && unquoted f

-- what stands behind an opening quote: each quote is doubled, but for one at the end that closes (RFC 4180, 2.5, 2.7)
unfoldable pub closed : List ℕ → Bool
closed [] = false
closed (b ∷ []) = eqb b QUOTE
closed (b ∷ c ∷ f) = cond (eqb b QUOTE) (eqb c QUOTE && closed f) (closed (c ∷ f))

-- its bytes: one quote for two, and none for the one that closes
unfoldable pub undoubled : List ℕ → List ℕ
undoubled [] = []
undoubled (b ∷ []) = cond (eqb b QUOTE) [] (b ∷ [])
undoubled (b ∷ c ∷ f) = cond (eqb b QUOTE) (QUOTE ∷ undoubled f) (b ∷ undoubled (c ∷ f))

-- a field is quoted whole, or has no quote (RFC 4180, 2.5)
unfoldable pub field_right : List ℕ → Bool
field_right [] = true
field_right (b ∷ f) = cond (eqb b QUOTE) (closed f) (unquoted f)

-- what a field says
unfoldable pub field_value : List ℕ → List ℕ
field_value [] = []
field_value (b ∷ f) = cond (eqb b QUOTE) (undoubled f) (b ∷ f)

unfoldable pub all_right : List (List ℕ) → Bool
all_right [] = true
all_right (f ∷ fs) = field_right f && all_right fs

unfoldable pub all_values : List (List ℕ) → List (List ℕ)
all_values [] = []
all_values (f ∷ fs) = field_value f ∷ all_values fs

unfoldable pub record_right : List ℕ → Bool
record_right p = all_right (raw_fields p)

unfoldable pub record_fields : List ℕ → List (List ℕ)
record_fields p = all_values (raw_fields p)

-- the fields of all records, numbered from n on
unfoldable pub records_read : ℕ → List ℕ → Outcome (List (List (List ℕ)))
records_read n t = read_all record_right record_fields n (records_in t)

-- ---- writing

-- what needs quotes (RFC 4180, 2.6, 2.7); CR and LF do too, and stand in no field that is taken
unfoldable pub special : ℕ → Bool
special b = eqb b COMMA || eqb b QUOTE

unfoldable pub needs_quotes : List ℕ → Bool
needs_quotes [] = false
needs_quotes (b ∷ f) = special b || needs_quotes f

unfoldable pub doubled : List ℕ → List ℕ
doubled [] = []
doubled (b ∷ f) = cond (eqb b QUOTE) (QUOTE ∷ QUOTE ∷ doubled f) (b ∷ doubled f)

-- a field in quotes only where it needs them (PROTOCOL 19.4)
unfoldable pub field_text : List ℕ → List ℕ
field_text f = cond (needs_quotes f) (QUOTE ∷ (doubled f ++ (QUOTE ∷ []))) f

unfoldable pub field_texts : List (List ℕ) → List (List ℕ)
field_texts [] = []
field_texts (f ∷ fs) = field_text f ∷ field_texts fs

-- each record ends with CR LF
unfoldable pub records_text : List (List (List ℕ)) → List ℕ
records_text [] = []
records_text (r ∷ rs) = joined COMMA (field_texts r) ++ (CR ∷ LF ∷ records_text rs)
