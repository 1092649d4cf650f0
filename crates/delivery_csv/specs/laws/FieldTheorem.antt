-- A field read byte by byte is what the definitions say of it.
use Rattle.std.specs.Prelude.{ℕ, suc, ◌+◌, ◌≤◌, ◌<◌, Bool, true, false, cond, ◌&&◌, ◌||◌, not, List, [], ◌∷◌, ◌≡◌, refl, eqb, ltb, leb, length}
use Rattle.std.proofs.Math.Bool.{and-false, and_comm}
use Rattle.std.proofs.Common.{sym, ap, ◌∙◌, arith, lt-ltb, le-ltb, le-leb}
use Rattle.std.proofs.Math.Decide.{dec_lt}
use Rattle.std.proofs.lemmas.Bool.{lt-leb}
use Rattle.text.specs.Fields.{TAB, LF}
use Rattle.delivery_csv.specs.Fields.{CR, QUOTE, max_fields, max_field_bytes, clean, field_taken, fields_taken, record_taken}
use Rattle.delivery_csv.specs.Records.{unquoted, closed, undoubled, field_right, field_value, all_right, all_values}
use Rattle.delivery_csv.specs.laws.RecordReader.{broken_in}
use Rattle.delivery_csv.specs.declared.Phase.{Phase}
use Rattle.delivery_csv.specs.declared.Phase.TheVariants.{Start, Plain, Quoted, Closing, Return}

-- bytes that no field holds
abbrev pub barred : ℕ → Bool
barred b = eqb b TAB || (eqb b CR || eqb b LF)

-- whether a field of which l bytes are read is taken with the bytes that are left
unfoldable pub right_from : List ℕ → Phase → ℕ → Bool
right_from [] p l = not (broken_in p)
right_from (b ∷ h) Start l = cond (eqb b QUOTE) (right_from h Quoted 0) (cond (barred b) false (ltb l max_field_bytes && right_from h Plain (l + 1)))
right_from (b ∷ h) Plain l = cond (eqb b QUOTE) false (cond (barred b) false (ltb l max_field_bytes && right_from h Plain (l + 1)))
right_from (b ∷ h) Quoted l = cond (eqb b QUOTE) (right_from h Closing l) (cond (barred b) false (ltb l max_field_bytes && right_from h Quoted (l + 1)))
right_from (b ∷ h) Closing l = cond (eqb b QUOTE) (ltb l max_field_bytes && right_from h Quoted (l + 1)) false
right_from (b ∷ h) Return l = false

-- what the bytes that are left say
unfoldable pub text_from : List ℕ → Phase → List ℕ
text_from [] p = []
text_from (b ∷ h) Start = cond (eqb b QUOTE) (text_from h Quoted) (b ∷ h)
text_from (b ∷ h) Plain = b ∷ h
text_from (b ∷ h) Quoted = cond (eqb b QUOTE) (text_from h Closing) (b ∷ text_from h Quoted)
text_from (b ∷ h) Closing = QUOTE ∷ text_from h Quoted
text_from (b ∷ h) Return = []

-- one byte more, within the limit of m + 1
limited : (k x y : Bool) (l m : ℕ) (q : Bool) → (l < max_field_bytes → q ≡ (x && (y && leb (l + 1 + m) max_field_bytes))) →
    cond k false (ltb l max_field_bytes && q) ≡ (x && ((not k && y) && leb (l + suc m) max_field_bytes))
limited true x y l m q h = sym (and-false x)
limited false x y l m q h =
    elim (dec_lt l max_field_bytes) [
      | yes g ↦ let e : l + suc m ≡ l + 1 + m = omega arith in rw (lt-ltb l max_field_bytes g, e) (h g)
      | no g ↦ rw (le-ltb l max_field_bytes (omega arith), lt-leb (l + suc m) max_field_bytes (omega arith), and-false y) (sym (and-false x))
    ]

plain_right : (h : List ℕ) (l : ℕ) → l ≤ max_field_bytes → right_from h Plain l ≡ (unquoted h && (clean h && leb (l + length h) max_field_bytes))
unfolding right_from broken_in unquoted clean
plain_right [] l s = sym (le-leb (l + 0) max_field_bytes (omega arith))
plain_right (b ∷ h) l s = go (eqb b QUOTE) (λ g. plain_right h (l + 1) (omega arith))
  where
    go : (q : Bool) → (l < max_field_bytes → right_from h Plain (l + 1) ≡ (unquoted h && (clean h && leb (l + 1 + length h) max_field_bytes))) →
        cond q false (cond (barred b) false (ltb l max_field_bytes && right_from h Plain (l + 1)))
        ≡ ((not q && unquoted h) && ((not (barred b) && clean h) && leb (l + suc (length h)) max_field_bytes))
    go true r = refl
    go false r = limited (barred b) (unquoted h) (clean h) l (length h) (right_from h Plain (l + 1)) r

cond_same : {A : Type 0} (b : Bool) (x : A) → cond b x x ≡ x
cond_same true x = refl
cond_same false x = refl

-- the statement for a quoted field
QuotedRight : ℕ → List ℕ → Type 0
QuotedRight l h = right_from h Quoted l ≡ (closed h && (clean (undoubled h) && leb (l + length (undoubled h)) max_field_bytes))

quoted_last : (b l : ℕ) → l ≤ max_field_bytes → QuotedRight l (b ∷ [])
unfolding QuotedRight right_from broken_in closed undoubled clean
quoted_last b l s = go (eqb b QUOTE)
  where
    go : (q : Bool) →
        cond q true (cond (barred b) false (ltb l max_field_bytes && false))
        ≡ (q && (clean (cond q [] (b ∷ [])) && leb (l + length (cond q [] (b ∷ []))) max_field_bytes))
    go true = sym (le-leb (l + 0) max_field_bytes (omega arith))
    go false = rw (and-false (ltb l max_field_bytes)) (cond_same (barred b) false)

quoted_more : (b c l : ℕ) (f : List ℕ) → (l < max_field_bytes → QuotedRight (l + 1) f) → (l < max_field_bytes → QuotedRight (l + 1) (c ∷ f)) → QuotedRight l (b ∷ c ∷ f)
unfolding QuotedRight right_from broken_in closed undoubled clean
quoted_more b c l f r s =
    go (eqb b QUOTE) (eqb c QUOTE) (limited false (closed f) (clean (undoubled f)) l (length (undoubled f)) (right_from f Quoted (l + 1)) r)
    (limited (barred b) (closed (c ∷ f)) (clean (undoubled (c ∷ f))) l (length (undoubled (c ∷ f))) (right_from (c ∷ f) Quoted (l + 1)) s)
  where
    go : (q p : Bool) →
        (ltb l max_field_bytes && right_from f Quoted (l + 1)) ≡ (closed f && (clean (undoubled f) && leb (l + suc (length (undoubled f))) max_field_bytes)) →
        cond (barred b) false (ltb l max_field_bytes && right_from (c ∷ f) Quoted (l + 1))
        ≡ (closed (c ∷ f) && ((not (barred b) && clean (undoubled (c ∷ f))) && leb (l + suc (length (undoubled (c ∷ f)))) max_field_bytes)) →
        cond q (cond p (ltb l max_field_bytes && right_from f Quoted (l + 1)) false) (cond (barred b) false (ltb l max_field_bytes && right_from (c ∷ f) Quoted (l + 1)))
        ≡ (cond q (p && closed f) (closed (c ∷ f))
        && (clean (cond q (QUOTE ∷ undoubled f) (b ∷ undoubled (c ∷ f))) && leb (l + length (cond q (QUOTE ∷ undoubled f) (b ∷ undoubled (c ∷ f)))) max_field_bytes))
    go true true d e = d
    go true false d e = refl
    go false p d e = e

quoted_right : (h : List ℕ) (l : ℕ) → l ≤ max_field_bytes → QuotedRight l h
unfolding QuotedRight right_from broken_in closed
quoted_right [] l s = refl
quoted_right (b ∷ []) l s = quoted_last b l s
quoted_right (b ∷ c ∷ f) l s = quoted_more b c l f (λ g. quoted_right f (l + 1) (omega arith)) (λ g. quoted_right (c ∷ f) (l + 1) (omega arith))

quoted_text : (h : List ℕ) → text_from h Quoted ≡ undoubled h
unfolding text_from undoubled
quoted_text [] = refl
quoted_text (b ∷ []) = refl
quoted_text (b ∷ c ∷ f) = go (eqb b QUOTE) (text_from f Quoted) (text_from (c ∷ f) Quoted) (quoted_text f) (quoted_text (c ∷ f))
  where
    go : (q : Bool) (x y : List ℕ) → x ≡ undoubled f → y ≡ undoubled (c ∷ f) → cond q (QUOTE ∷ x) (b ∷ y) ≡ cond q (QUOTE ∷ undoubled f) (b ∷ undoubled (c ∷ f))
    go true x y d e = ap (λ (u : List ℕ). QUOTE ∷ u) d
    go false x y d e = ap (λ (u : List ℕ). b ∷ u) e

pub start_text : (h : List ℕ) → text_from h Start ≡ field_value h
unfolding text_from field_value
start_text [] = refl
start_text (b ∷ h) = ap (λ (u : List ℕ). cond (eqb b QUOTE) u (b ∷ h)) (quoted_text h)

pub start_right : (h : List ℕ) → right_from h Start 0 ≡ (field_right h && field_taken (field_value h))
unfolding right_from broken_in field_right field_taken field_value clean QuotedRight
start_right [] = refl
start_right (b ∷ h) = go (eqb b QUOTE) (quoted_right h 0 (omega arith)) (limited (barred b) (unquoted h) (clean h) 0 (length h) (right_from h Plain 1) (λ g. plain_right h 1 (omega arith)))
  where
    go : (q : Bool) → QuotedRight 0 h →
        cond (barred b) false (ltb 0 max_field_bytes && right_from h Plain 1) ≡ (unquoted h && ((not (barred b) && clean h) && leb (0 + suc (length h)) max_field_bytes)) →
        cond q (right_from h Quoted 0) (cond (barred b) false (ltb 0 max_field_bytes && right_from h Plain 1))
        ≡ (cond q (closed h) (unquoted h) && (leb (length (cond q (undoubled h) (b ∷ h))) max_field_bytes && clean (cond q (undoubled h) (b ∷ h))))
    go true r s =
        let z : 0 + length (undoubled h) ≡ length (undoubled h) = omega arith in
        rw z at r ∙ ap (λ (t : Bool). closed h && t) (and_comm (clean (undoubled h)) (leb (length (undoubled h)) max_field_bytes))
    go false r s =
        let z : 0 + suc (length h) ≡ suc (length h) = omega arith in
        rw z at s ∙ ap (λ (t : Bool). unquoted h && t) (and_comm (not (barred b) && clean h) (leb (suc (length h)) max_field_bytes))

-- the fields after the one being read, with f fields before them
unfoldable pub rest_right : ℕ → List (List ℕ) → Bool
rest_right f [] = true
rest_right f (h ∷ hs) = ltb f max_fields && (right_from h Start 0 && rest_right (f + 1) hs)

mixed : (a b c d e : Bool) → ((a && b) && (c && (d && e))) ≡ ((a && c) && ((b && d) && e))
mixed false b c d e = refl
mixed true true c d e = refl
mixed true false c d e = sym (and-false c)

rest_right_lem : (hs : List (List ℕ)) (f : ℕ) → f ≤ max_fields → rest_right f hs ≡ (all_right hs && (fields_taken (all_values hs) && leb (f + length hs) max_fields))
unfolding rest_right all_right all_values fields_taken
rest_right_lem [] f s = sym (le-leb (f + 0) max_fields (omega arith))
rest_right_lem (h ∷ hs) f s = go (λ g. rest_right_lem hs (f + 1) (omega arith))
  where
    go : (f < max_fields → rest_right (f + 1) hs ≡ (all_right hs && (fields_taken (all_values hs) && leb (f + 1 + length hs) max_fields))) →
        (ltb f max_fields && (right_from h Start 0 && rest_right (f + 1) hs))
        ≡ ((field_right h && all_right hs) && ((field_taken (field_value h) && fields_taken (all_values hs)) && leb (f + suc (length hs)) max_fields))
    go r =
        elim (dec_lt f max_fields) [
          | yes g ↦
              let e : f + suc (length hs) ≡ f + 1 + length hs = omega arith in
              rw (lt-ltb f max_fields g, start_right h, r g, e) (mixed (field_right h) (field_taken (field_value h)) (all_right hs) (fields_taken (all_values hs)) (leb (f + 1 + length hs) max_fields))
          | no g ↦
              rw (le-ltb f max_fields (omega arith), lt-leb (f + suc (length hs)) max_fields (omega arith), and-false (field_taken (field_value h) && fields_taken (all_values hs)))
              (sym (and-false (field_right h && all_right hs)))
        ]

length_values : (hs : List (List ℕ)) → length (all_values hs) ≡ length hs
unfolding all_values
length_values [] = refl
length_values (h ∷ hs) = ap suc (length_values hs)

pub all_right_lem : (hs : List (List ℕ)) → rest_right 0 hs ≡ (all_right hs && record_taken (all_values hs))
unfolding record_taken
all_right_lem hs =
    let e : 0 + length hs ≡ length (all_values hs) = omega (arith, length_values hs) in
    rest_right_lem hs 0 (omega arith) ∙ rw (e, and_comm (fields_taken (all_values hs)) (leb (length (all_values hs)) max_fields))
