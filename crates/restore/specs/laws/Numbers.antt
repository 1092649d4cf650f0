-- A field that is read as a number.
use Rattle.std.specs.Prelude.{ℕ, ◌+◌, ◌*◌, ◌^◌, ◌≤◌, ◌<◌, Bool, ◌&&◌, not, List, [], ◌∷◌, ◌≡◌, eqb, length, get_or, drop, Option, Some, None}
use Rattle.std.proofs.Math.Bool.{true, false, cond}
use Rattle.std.proofs.Math.Path.{refl, sym, ap}
use Rattle.std.proofs.Common.{◌∙◌, arith, add-one, mul-le-mul_left, drop_of_length-le, drop-cons}
use Rattle.std.proofs.Math.Dec.{ltb}
use borrow.Author.Tests.{lt-ltb, le-ltb, ltb-true, ltb-false, not-true, not-false}
use Rattle.text.specs.Fields.{letter}
use Rattle.text.specs.Numbers.{digit_of, base_of, all_digits, value_from, value_of, complete, right}
use Rattle.restore.specs.laws.Truth.{and_none}
use Rattle.restore.specs.Reading.{zero_led, proper}

-- the number of digits to a base, after the number v, where it is below 2^64
unfoldable pub digits_from : ℕ → ℕ → List ℕ → Option ℕ
digits_from base v f = cond (all_digits base f && ltb (value_from base v f) (2 ^ 64)) (Some (value_from base v f)) None

-- the number of a field of a form
unfoldable pub number_of : ℕ → List ℕ → Option ℕ
number_of form f = cond (proper form f) (Some (value_of form f)) None

-- a loop that has read the first k digits
pub record Counting (base : ℕ) (f : List ℕ) (k v : ℕ) : Type 0 where
  pub fits : v < 2 ^ 64
  pub whole : digits_from base 0 f ≡ digits_from base v (drop k f)

pub counting_start : (base : ℕ) (f : List ℕ) → Counting base f 0 0
counting_start base f = record { fits = omega arith; whole = refl }

value_grows : (base v : ℕ) (f : List ℕ) → 0 < base → v ≤ value_from base v f
unfolding value_from
value_grows base v [] h = omega arith
value_grows base v (c ∷ f) h =
    let one : v * 1 ≤ v * base = mul-le-mul_left v h in
    let tail : v * base + digit_of c ≤ value_from base (v * base + digit_of c) f = value_grows base (v * base + digit_of c) f h in
    omega arith

stepped : (base v c d : ℕ) (f : List ℕ) → d ≡ digit_of c → d < base → digits_from base v (c ∷ f) ≡ digits_from base (v * base + d) f
unfolding digits_from all_digits value_from
stepped base v c d f e n = let m : digit_of c < base = rw e at n in rw (e, lt-ltb (digit_of c) base m)

pub counting_fits : (v base d : ℕ) (t : Bool) → t ≡ ltb (v * base + d) (2 ^ 64) → not t ≡ false → v * base + d < 2 ^ 64
counting_fits v base d t q b = ltb-true _ _ (sym q ∙ not-false t b)

module _ (base : ℕ) (f : List ℕ) (k v : ℕ) (h : Counting base f k v) where
  pub counting_done : length f ≤ k → Some v ≡ digits_from base 0 f
  unfolding digits_from all_digits value_from
  counting_done l = sym (h.whole ∙ rw (drop_of_length-le f l, lt-ltb v (2 ^ 64) h.fits))

  module _ (l : k < length f) (d : ℕ) (e : d ≡ digit_of (get_or f k 0)) where
    here : drop k f ≡ get_or f k 0 ∷ drop (k + 1) f
    here = rw add-one (drop-cons f k 0 l)

    pub counting_no_digit : base ≤ d → None ≡ digits_from base 0 f
    unfolding digits_from all_digits
    counting_no_digit n = sym (h.whole ∙ rw (here, ← e, le-ltb d base n))

    module _ (n : d < base) (t : Bool) (q : t ≡ ltb (v * base + d) (2 ^ 64)) where
      pub counting_too_big : not t ≡ true → None ≡ digits_from base 0 f
      unfolding digits_from all_digits value_from
      counting_too_big b =
          let big : 2 ^ 64 ≤ v * base + d = ltb-false _ _ (sym q ∙ not-true t b) in
          let grown : v * base + d ≤ value_from base (v * base + d) (drop (k + 1) f) = value_grows base (v * base + d) (drop (k + 1) f) (omega arith) in
          sym (h.whole ∙ ap (digits_from base v) here ∙ stepped base v (get_or f k 0) d (drop (k + 1) f) e n ∙ rw (le-ltb (value_from base (v * base + d) (drop (k + 1) f)) (2 ^ 64) (omega arith), and_none))

      pub counting_next : (w : ℕ) → not t ≡ false → w ≡ v * base + d → Counting base f (k + 1) w
      unfolding digits_from all_digits value_from
      counting_next w b r =
          let small : v * base + d < 2 ^ 64 = counting_fits v base d t q b in
          record { fits = omega arith; whole = h.whole ∙ ap (digits_from base v) here ∙ stepped base v (get_or f k 0) d (drop (k + 1) f) e n ∙ rw r }

pub ruleset counting = (counting_start, counting_done, counting_no_digit, counting_too_big, counting_next, counting_fits)

-- the cases of a number
module _ (form : ℕ) (f : List ℕ) (t : Bool) (q : t ≡ complete form (length f)) where
  pub number_incomplete : not t ≡ true → None ≡ number_of form f
  unfolding number_of proper right
  number_incomplete b = rw (← q, not-true t b)

  module _ (b : not t ≡ false) (z : Bool) (p : z ≡ zero_led f) where
    pub number_zero_led : eqb form 10 && z ≡ true → None ≡ number_of form f
    unfolding number_of proper
    number_zero_led s = rw (← p, s, and_none)

    pub number_digits : (base : ℕ) (r : Option ℕ) → eqb form 10 && z ≡ false → base ≡ base_of form → r ≡ digits_from base 0 f → r ≡ number_of form f
    unfolding number_of proper right digits_from value_of
    number_digits base r s e d = d ∙ rw (← p, s, e, ← q, not-false t b) (go (all_digits (base_of form) f && ltb (value_from (base_of form) 0 f) (2 ^ 64)))
      where
        go : (x : Bool) → cond x (Some (value_from (base_of form) 0 f)) None ≡ cond (x && true) (Some (value_from (base_of form) 0 f)) None
        go true = refl
        go false = refl

pub ruleset number_cases = (number_incomplete, number_zero_led, number_digits)

-- the one byte of a field
pub letter_one : (f : List ℕ) → length f ≡ 1 → get_or f 0 0 ≡ letter f
unfolding letter
letter_one [] h = refl
letter_one (c ∷ []) h = refl
letter_one (c ∷ d ∷ f) h = absurd (omega arith)

pub letter_other : (f : List ℕ) → (length f ≡ 1 → ⊥) → 0 ≡ letter f
unfolding letter
letter_other [] h = refl
letter_other (c ∷ []) h = absurd (h refl)
letter_other (c ∷ d ∷ f) h = refl

-- a leading zero
pub zero_led_many : (f : List ℕ) → 1 < length f → eqb (get_or f 0 0) 48 ≡ zero_led f
unfolding zero_led
zero_led_many [] h = absurd (omega arith)
zero_led_many (c ∷ []) h = absurd (omega arith)
zero_led_many (c ∷ d ∷ f) h = refl

pub zero_led_few : (f : List ℕ) → length f ≤ 1 → false ≡ zero_led f
unfolding zero_led
zero_led_few [] h = refl
zero_led_few (c ∷ []) h = refl
zero_led_few (c ∷ d ∷ f) h = absurd (omega arith)

pub ruleset field_cases = (letter_one, letter_other, zero_led_many, zero_led_few)
