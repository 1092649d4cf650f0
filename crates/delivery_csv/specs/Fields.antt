-- Fields, and what the records and the drill lines that hold them have in common: PROTOCOL, section 19.
use Rattle.std.specs.Prelude.{ℕ, ◌+◌, Bool, true, cond, ◌&&◌, ◌||◌, not, List, [], ◌∷◌, ◌++◌, eqb, leb, length}
use Rattle.text.specs.Fields.{TAB, LF, in_front}

abbrev pub CR : ℕ
CR = 13

abbrev pub QUOTE : ℕ
QUOTE = 34

abbrev pub COMMA : ℕ
COMMA = 44

abbrev pub max_fields : ℕ
max_fields = 16

abbrev pub max_field_bytes : ℕ
max_field_bytes = 64

-- a field with a tab, CR or LF has no drill line (PROTOCOL 19.5)
unfoldable pub clean : List ℕ → Bool
clean [] = true
clean (b ∷ f) = not (eqb b TAB || (eqb b CR || eqb b LF)) && clean f

unfoldable pub field_taken : List ℕ → Bool
field_taken f = leb (length f) max_field_bytes && clean f

unfoldable pub fields_taken : List (List ℕ) → Bool
fields_taken [] = true
fields_taken (f ∷ fs) = field_taken f && fields_taken fs

-- the limits of a record or line (PROTOCOL 19.5)
unfoldable pub record_taken : List (List ℕ) → Bool
record_taken fs = leb (length fs) max_fields && fields_taken fs

-- a text cut at each byte s that stands outside quotes. `inside` says whether it begins within quotes, `turns inside b` whether it goes on
-- within them after the byte b.
unfoldable pub cut : (turns : Bool → ℕ → Bool) (s : ℕ) (inside : Bool) → List ℕ → List (List ℕ)
cut turns s inside [] = [] ∷ []
cut turns s inside (b ∷ t) = cond (eqb b s && not inside) ([] ∷ cut turns s inside t) (in_front b (cut turns s (turns inside b) t))

-- a piece that is not empty
unfoldable pub unless_empty : List ℕ → List (List ℕ)
unless_empty [] = []
unless_empty (b ∷ p) = (b ∷ p) ∷ []

-- the records or lines of a text that is cut at its ends: the last may lack its end, and there is none where nothing stands after the last
-- end. `strip` takes off what belongs to an end beside the LF.
unfoldable pub pieces : (strip : List ℕ → List ℕ) → List (List ℕ) → List (List ℕ)
pieces strip [] = []
pieces strip (p ∷ []) = unless_empty p
pieces strip (p ∷ q ∷ ps) = strip p ∷ pieces strip (q ∷ ps)

-- fields with a byte between any two
unfoldable pub joined : ℕ → List (List ℕ) → List ℕ
joined s [] = []
joined s (f ∷ []) = f
joined s (f ∷ g ∷ fs) = f ++ (s ∷ joined s (g ∷ fs))

-- what reading or converting comes to: the number, from 1, of the first record or line that is not taken, or a result
pub data Outcome (A : Type 0) : Type 0 where
  bad : ℕ → Outcome A
  good : A → Outcome A

-- one record more, before those of an outcome
unfoldable pub with_record : List (List ℕ) → Outcome (List (List (List ℕ))) → Outcome (List (List (List ℕ)))
with_record r (bad n) = bad n
with_record r (good rs) = good (r ∷ rs)

-- records or lines read one after the other, numbered from n on: `right` says whether the quotes of one are, `fields_of` gives its fields
unfoldable pub read_all : (right : List ℕ → Bool) (fields_of : List ℕ → List (List ℕ)) (n : ℕ) → List (List ℕ) → Outcome (List (List (List ℕ)))
read_all right fields_of n [] = good []
read_all right fields_of n (p ∷ ps) = cond (right p && record_taken (fields_of p)) (with_record (fields_of p) (read_all right fields_of (n + 1) ps)) (bad n)
