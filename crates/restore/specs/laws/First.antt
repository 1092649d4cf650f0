-- The first line as the code takes it.
use Rattle.std.specs.Prelude.{ℕ, ◌+◌, ◌-◌, ◌^◌, ◌≤◌, ◌<◌, Bool, ◌||◌, not, List, [], ◌∷◌, ◌⊎◌, eqb, leb, get_or, take, drop, None, Option, Some}
use Rattle.std.proofs.Math.Bool.{true, false, cond}
use Rattle.std.proofs.Common.{inl, inr, sym, ap, subst, ◌∙◌, arith, length-take-le, get_or-take}
use Rattle.std.proofs.Math.Path.{◌≡◌, refl}
use Rattle.std.proofs.Math.ListN.{length}
use borrow.Author.Tests.{eq-eqb, ne_eqb, lt-leb, eqb-true, not-true, not-false}
use Rattle.text.specs.Fields.{letter}
use Rattle.text.specs.Numbers.{value_of, complete, right}
use Rattle.journal.specs.Lines.{opening_forms}
use Rattle.restore.specs.laws.Truth.{and_none}
use Rattle.restore.specs.Reading.{proper, all_proper, field_at, forms_for}
use Rattle.restore.specs.Restoring.{opening_from, opening_read, first_of, first_line}
use Rattle.restore.specs.laws.Parts.{fields_at, Field}
use Rattle.restore.specs.laws.Numbers.{number_of}
use Rattle.restore.specs.laws.Forms.{proper_all, values_all, count_right, counted_from, none_of, opening_counted, values_length}
use Rattle.restore.specs.laws.Filling.{FieldsRead, read_none, read_count}
use Rattle.restore.specs.laws.Opened.{CoinsFit, coins_below}
use Rattle.restore.specs.laws.Given.{OpenGiven, refused}
use Rattle.restore.specs.laws.Applying.{Tried, fields_past}
use Rattle.restore.specs.laws.Turning.{first_field}

-- what is asked of so many numbers that were read from an opening line
pub record CountGiven (n count : ℕ) (xs w : List ℕ) : Type 0 where
  pub few : n ≤ 16
  pub room : length xs ≡ 40
  pub within : count ≤ 40
  pub coins : 7 + n ≤ count → CoinsFit n xs
  pub size : length w ≡ 2048

right_least : (n count : ℕ) → count_right n count ≡ true → 7 + n ≤ count
unfolding count_right
right_least n count h = go (eqb count (7 + n)) refl h
  where
    last : (b : Bool) → eqb count (7 + n + n) ≡ b → b || eqb count (7 + n + n + 1) ≡ true → 7 + n ≤ count
    last true u v = omega (arith, eqb-true count (7 + n + n) u)
    last false u v = omega (arith, eqb-true count (7 + n + n + 1) v)

    go : (b : Bool) → eqb count (7 + n) ≡ b → b || eqb count (7 + n + n) || eqb count (7 + n + n + 1) ≡ true → 7 + n ≤ count
    go true u v = omega (arith, eqb-true count (7 + n) u)
    go false u v = last (eqb count (7 + n + n)) refl v

pub count_right_lem : (n count : ℕ) → eqb count (7 + n) || eqb count (7 + n + n) || eqb count (7 + n + n + 1) ≡ count_right n count
unfolding count_right
count_right_lem n count = refl

module _ (n count : ℕ) (xs w : List ℕ) (g : CountGiven n count xs w) where
  counted : length (take count xs) ≡ count
  counted = length-take-le count xs (omega (arith, g.room, g.within))

  module _ (t : Bool) (e : t ≡ count_right n count) where
    pub count_wrong : not t ≡ true → Tried (counted_from n (take count xs)) w false w
    unfolding counted_from
    count_wrong h = refused _ w (rw (counted, ← e, not-true t h))

    pub count_given : not t ≡ false → OpenGiven n count xs w
    count_given h =
        let r : count_right n count ≡ true = sym e ∙ not-false t h in
        record { few = g.few; long = omega (arith, g.few, g.room); within = omega (arith, g.within, g.room); number = r; least = right_least n count r; coins = g.coins (right_least n count r); size = g.size }

    pub count_opened : (q : Bool) (after : List ℕ) → not t ≡ false → Tried (opening_from n (take count xs)) w q after → Tried (counted_from n (take count xs)) w q after
    unfolding counted_from
    count_opened q after h y = rw (counted, ← e, not-false t h) y

pub ruleset count_cases = (count_right_lem, count_wrong, count_given, count_opened)

-- the fields of n concentrators that were read
pub read_many : (n : ℕ) (fs : List (List ℕ)) (w : List ℕ) → 16 < n → Tried (opening_read n fs) w false w
unfolding opening_read
read_many n fs w h = refused _ w (rw (lt-leb n 16 h))

module _ (n : ℕ) (fs : List (List ℕ)) (w after : List ℕ) (r : Option ℕ) (few : n ≤ 16) (h : FieldsRead n fs 40 r after) where
  pub read_wrong : r ≡ None → Tried (opening_read n fs) w false w
  unfolding counted_from count_right
  read_wrong e = refused _ w (opening_counted n fs few ∙ go (read_none n fs 40 r after h e))
    where
      go : (proper_all n 0 fs ≡ false) ⊎ (40 < length fs) → cond (proper_all n 0 fs) (counted_from n (values_all n 0 fs)) None ≡ None
      go (inl u) = rw u
      go (inr l) =
          rw (values_length n 0 fs, ne_eqb (length fs) (7 + n) (λ z. omega arith), ne_eqb (length fs) (7 + n + n) (λ z. omega arith), ne_eqb (length fs) (7 + n + n + 1) (λ z. omega arith))
          (sym (none_of (proper_all n 0 fs)))

  module _ (k : ℕ) (e : r ≡ Some k) where
    all : (proper_all n 0 fs ≡ true) × (k ≤ 40)
    all = read_count n fs 40 r after h k e

    pub read_given : length w ≡ 2048 → CountGiven n k after w
    read_given s =
        record {
          few = few;
          room = h.size;
          within = all.1;
          coins = λ l. record {
            each = λ j m. subst (λ (x : ℕ). x < 2 ^ 32)
                (ap (λ (xs : List ℕ). get_or xs (7 + j) 0) (sym (h.numbers k e)) ∙ get_or-take k after (7 + j) 0 (omega arith))
                (coins_below n 0 fs all.0 (7 + j) (omega arith) (omega arith));
          };
          size = s;
        }

    pub read_opened : (q : Bool) (t : List ℕ) → Tried (counted_from n (take k after)) w q t → Tried (opening_read n fs) w q t
    read_opened q t y = rw (opening_counted n fs few, all.0, ← h.numbers k e) y

pub ruleset read_cases = (read_many, read_wrong, read_given, read_opened)

-- the number in the second field
module _ (b : List ℕ) (at e : ℕ) (h : Field b at e) where
  pub second_none : e ≡ length b → None ≡ number_of 10 (field_at (fields_at b at) 1)
  unfolding field_at number_of proper right complete
  second_none s = rw (h.field, s, fields_past)

  pub second_is : (g : ℕ) (x : Option ℕ) → Field b (e + 1) g → x ≡ number_of 10 (take (g - (e + 1)) (drop (e + 1) b)) → x ≡ number_of 10 (field_at (fields_at b at) 1)
  unfolding field_at
  second_is g x j q = q ∙ rw (h.field, j.field)

pub ruleset second_cases = (second_none, second_is)

-- a line whose second field is no number
no_second : (m count : ℕ) (fs : List (List ℕ)) → proper 10 (field_at fs 1) ≡ false → all_proper (forms_for m count) fs ≡ false
unfolding forms_for opening_forms all_proper field_at
no_second m count [] h = refl
no_second m count (f ∷ []) h = and_none (proper 10 f)
no_second m count (f ∷ g ∷ fs) h = rw h (and_none (proper 10 f))

module _ (fs : List (List ℕ)) (w : List ℕ) (x : Option ℕ) (q : x ≡ number_of 10 (field_at fs 1)) where
  pub n_wrong : x ≡ None → Tried (opening_read (value_of 10 (field_at fs 1)) fs) w false w
  unfolding number_of opening_read
  n_wrong e = go (proper 10 (field_at fs 1)) refl (sym q ∙ e)
    where
      go : (b : Bool) → proper 10 (field_at fs 1) ≡ b → cond b (Some (value_of 10 (field_at fs 1))) None ≡ None → Tried (opening_read (value_of 10 (field_at fs 1)) fs) w false w
      go true u v = absurd (let z : ◌≡◌ {A = ℕ} 0 1 = cc in omega arith)
      go false u v = refused _ w (rw (no_second (value_of 10 (field_at fs 1)) (length fs) fs u, and_none (leb (value_of 10 (field_at fs 1)) 16)))

  pub n_is : (k : ℕ) (r : Bool) (t : List ℕ) → x ≡ Some k → Tried (opening_read k fs) w r t → Tried (opening_read (value_of 10 (field_at fs 1)) fs) w r t
  unfolding number_of
  n_is k r t e y = go (proper 10 (field_at fs 1)) refl (sym q ∙ e)
    where
      go : (b : Bool) → proper 10 (field_at fs 1) ≡ b → cond b (Some (value_of 10 (field_at fs 1))) None ≡ Some k → Tried (opening_read (value_of 10 (field_at fs 1)) fs) w r t
      go true u v = let s : value_of 10 (field_at fs 1) ≡ k = cc in rw s y
      go false u v = absurd (let z : ◌≡◌ {A = ℕ} 0 1 = cc in omega arith)

pub ruleset n_cases = (n_wrong, n_is)

none_read : (n : ℕ) → opening_read n [] ≡ None
unfolding opening_read field_at proper right complete
none_read n = rw (no_second n 0 [] refl, and_none)

-- the cases of the first line
pub first_front : (b : List ℕ) (e : ℕ) → Field b 0 e → e ≡ length (take e b)
first_front b e h = sym (length-take-le e b h.inside)

module _ (w b : List ℕ) (e c : ℕ) (h : Field b 0 e) (q : c ≡ letter (take e b)) where
  pub first_unknown : (c ≡ 79 → ⊥) → Tried (first_line b) w false w
  unfolding first_line first_of
  first_unknown d = refused _ w (rw (first_field b e h, ← q, ne_eqb c 79 d))

  module _ (d : c ≡ 79) where
    pub first_bare : e ≡ length b → Tried (first_line b) w false w
    unfolding first_line first_of field_at
    first_bare s = refused _ w (rw (first_field b e h, ← q, eq-eqb c 79 d, s, fields_past b) (none_read (value_of 10 [])))

    pub first_opened : (r : Bool) (t : List ℕ) → Tried (opening_read (value_of 10 (field_at (fields_at b (e + 1)) 1)) (fields_at b (e + 1))) w r t → Tried (first_line b) w r t
    unfolding first_line first_of
    first_opened r t y = rw (first_field b e h, ← q, eq-eqb c 79 d) y

pub ruleset first_cases = (first_front, first_unknown, first_bare, first_opened)
