-- The fields of an opening line that are read one after another into an array of numbers.
use Rattle.std.specs.Prelude.{ℕ, suc, ◌+◌, ◌-◌, ◌≤◌, ◌<◌, Bool, ◌&&◌, not, ◌⊎◌, leb, drop, set, Option, Some, None}
use Rattle.std.proofs.Math.Bool.{true, false, cond}
use mathlib.Core.List.{List, [], ◌∷◌, ◌++◌, append-nil, append_assoc}
use Rattle.std.proofs.Common.{inl, inr, ◌∙◌, length-set}
use Rattle.std.proofs.Math.Path.{◌≡◌, refl, sym, ap}
use native.Mathlib.Omega.{arith}
use Rattle.std.proofs.Math.Numerals.{add-one}
use Rattle.std.proofs.Math.ListN.{length, take}
use Rattle.std.proofs.Math.Seq.{take-suc-set}
use borrow.Author.Tests.{le-leb, lt-leb, leb-true, leb-false, not-true, not-false}
use Rattle.text.specs.Fields.{TAB}
use Rattle.text.specs.Numbers.{value_of}
use Rattle.restore.specs.laws.Truth.{and_none}
use Rattle.restore.specs.Reading.{proper}
use Rattle.restore.specs.laws.Places.{place_of}
use Rattle.restore.specs.laws.Parts.{fields_at, Field, field_at}
use Rattle.restore.specs.laws.Numbers.{number_of}
use Rattle.restore.specs.laws.Forms.{form_at, proper_all, values_all}
use Rattle.restore.specs.laws.Applying.{fields_past}

-- a number that was read into place k of an array: only where the field is proper
pub record Stored (form : ℕ) (f xs : List ℕ) (k : ℕ) (r : Bool) (after : List ℕ) : Type 0 where
  pub answer : r ≡ proper form f
  pub numbers : after ≡ cond (proper form f) (set xs k (value_of form f)) xs

module _ (form : ℕ) (f xs : List ℕ) (k : ℕ) (x : Option ℕ) (q : x ≡ number_of form f) where
  pub stored_wrong : x ≡ None → Stored form f xs k false xs
  unfolding number_of
  stored_wrong e = go (proper form f) refl (sym q ∙ e)
    where
      go : (b : Bool) → proper form f ≡ b → cond b (Some (value_of form f)) None ≡ None → Stored form f xs k false xs
      go true u v = absurd (let z : ◌≡◌ {A = ℕ} 0 1 = cc in omega arith)
      go false u v = record { answer = sym u; numbers = rw u }

  pub stored_is : (v : ℕ) → x ≡ Some v → Stored form f xs k true (set xs k v)
  unfolding number_of
  stored_is v e = go (proper form f) refl (sym q ∙ e)
    where
      go : (b : Bool) → proper form f ≡ b → cond b (Some (value_of form f)) None ≡ Some v → Stored form f xs k true (set xs k v)
      go true u z = let s : value_of form f ≡ v = cc in record { answer = sym u; numbers = rw (u, s) }
      go false u z = absurd (let y : ◌≡◌ {A = ℕ} 0 1 = cc in omega arith)

pub ruleset stored_cases = (stored_wrong, stored_is)

-- the fields fs of n concentrators were read: how many, and their numbers stand at the front
pub record FieldsRead (n : ℕ) (fs : List (List ℕ)) (room : ℕ) (r : Option ℕ) (after : List ℕ) : Type 0 where
  pub size : length after ≡ room
  pub answer : r ≡ cond (proper_all n 0 fs && leb (length fs) room) (Some (length fs)) None
  pub numbers : (c : ℕ) → r ≡ Some c → take c after ≡ values_all n 0 fs

-- what the answer tells of the fields
module _ (n : ℕ) (fs : List (List ℕ)) (room : ℕ) (r : Option ℕ) (after : List ℕ) (h : FieldsRead n fs room r after) where
  answered : (b : Bool) → proper_all n 0 fs && leb (length fs) room ≡ b → r ≡ cond b (Some (length fs)) None
  answered b e = h.answer ∙ rw e

  pub read_none : r ≡ None → (proper_all n 0 fs ≡ false) ⊎ (room < length fs)
  read_none e = go (proper_all n 0 fs) refl (leb (length fs) room) refl
    where
      go : (a : Bool) → proper_all n 0 fs ≡ a → (b : Bool) → leb (length fs) room ≡ b → (proper_all n 0 fs ≡ false) ⊎ (room < length fs)
      go false u b v = inl u
      go true u false v = inr (leb-false (length fs) room v)
      go true u true v = absurd (let x : r ≡ Some (length fs) = answered true (rw (u, v)) in let z : ◌≡◌ {A = ℕ} 0 1 = cc in omega arith)

  pub read_count : (k : ℕ) → r ≡ Some k → (proper_all n 0 fs ≡ true) × (k ≤ room)
  read_count k e = go (proper_all n 0 fs) refl (leb (length fs) room) refl
    where
      go : (a : Bool) → proper_all n 0 fs ≡ a → (b : Bool) → leb (length fs) room ≡ b → (proper_all n 0 fs ≡ true) × (k ≤ room)
      go true u true v =
          let x : r ≡ Some (length fs) = answered true (rw (u, v)) in
          let y : length fs ≡ k = cc in
          (u, rw y at (leb-true (length fs) room v))
      go true u false v = absurd (let x : r ≡ None = answered false (rw (u, v)) in let z : ◌≡◌ {A = ℕ} 0 1 = cc in omega arith)
      go false u b v = absurd (let x : r ≡ None = answered false (rw u) in let z : ◌≡◌ {A = ℕ} 0 1 = cc in omega arith)

-- a loop that has read k fields and is at a place
pub record Filling (n : ℕ) (b : List ℕ) (start room at k : ℕ) (xs : List ℕ) : Type 0 where
  pub size : length xs ≡ room
  pub fits : k ≤ room
  pub inside : at ≤ length b
  pub right : proper_all n 0 (fields_at b start) ≡ proper_all n k (fields_at b at)
  pub long : length (fields_at b start) ≡ k + length (fields_at b at)
  pub numbers : values_all n 0 (fields_at b start) ≡ take k xs ++ values_all n k (fields_at b at)

pub filling_start : (n : ℕ) (b : List ℕ) (start : ℕ) (xs : List ℕ) → start ≤ length b → Filling n b start (length xs) start 0 xs
filling_start n b start xs h = record { size = refl; fits = omega arith; inside = h; right = refl; long = omega arith; numbers = refl }

wrong_fields : (n : ℕ) (fs : List (List ℕ)) (room : ℕ) (after : List ℕ) → length after ≡ room → proper_all n 0 fs && leb (length fs) room ≡ false → FieldsRead n fs room None after
wrong_fields n fs room after s e = record { size = s; answer = rw e; numbers = λ c z. absurd (let y : ◌≡◌ {A = ℕ} 0 1 = cc in omega arith) }

module _ (n : ℕ) (b : List ℕ) (start room at k : ℕ) (xs : List ℕ) (h : Filling n b start room at k xs) where
  pub filling_many : length xs ≤ k → FieldsRead n (fields_at b start) room None xs
  filling_many l =
      let more : length (fields_at b at) ≡ suc (length (fields_at b (place_of TAB b at + 1))) = ap length (field_at b at (place_of TAB b at) h.inside refl).field in
      wrong_fields n (fields_at b start) room xs h.size (rw (lt-leb (length (fields_at b start)) room (omega (arith, h.long, h.size))) (and_none (proper_all n 0 (fields_at b start))))

  module _ (e form : ℕ) (j : Field b at e) (f : form ≡ form_at n k) (l : k < length xs) (t : Bool) (after : List ℕ) (s : Stored form (take (e - at) (drop at b)) xs k t after) where
    proper_here : t ≡ proper (form_at n k) (take (e - at) (drop at b))
    proper_here = s.answer ∙ rw f

    size_after : length after ≡ room
    size_after = ap length s.numbers ∙ go (proper form (take (e - at) (drop at b))) ∙ h.size
      where
        go : (c : Bool) → length (cond c (set xs k (value_of form (take (e - at) (drop at b)))) xs) ≡ length xs
        go true = length-set xs k (value_of form (take (e - at) (drop at b)))
        go false = refl

    pub filling_wrong : not t ≡ true → FieldsRead n (fields_at b start) room None after
    unfolding proper_all
    filling_wrong w = wrong_fields n (fields_at b start) room after size_after (rw (h.right ∙ ap (proper_all n k) j.field, ← proper_here, not-true t w))

    module _ (w : not t ≡ false) where
      stored : after ≡ set xs k (value_of (form_at n k) (take (e - at) (drop at b)))
      stored = s.numbers ∙ rw (← s.answer, not-false t w, f)

      right_after : proper_all n 0 (fields_at b start) ≡ proper_all n (k + 1) (fields_at b (e + 1))
      unfolding proper_all
      right_after = h.right ∙ ap (proper_all n k) j.field ∙ rw (← proper_here, not-false t w)

      long_after : length (fields_at b start) ≡ k + 1 + length (fields_at b (e + 1))
      long_after = let m : length (fields_at b at) ≡ suc (length (fields_at b (e + 1))) = ap length j.field in omega (arith, h.long)

      numbers_after : values_all n 0 (fields_at b start) ≡ take (k + 1) after ++ values_all n (k + 1) (fields_at b (e + 1))
      unfolding values_all
      numbers_after =
          h.numbers
          ∙ ap (λ (gs : List (List ℕ)). take k xs ++ values_all n k gs) j.field
          ∙ rw (stored, add-one k, take-suc-set xs k (value_of (form_at n k) (take (e - at) (drop at b))) l) (sym (append_assoc (take k xs) (value_of (form_at n k) (take (e - at) (drop at b)) ∷ []) _))

      pub filling_end : e ≡ length b → FieldsRead n (fields_at b start) room (Some (k + 1)) after
      unfolding proper_all values_all
      filling_end d =
          let none_left : fields_at b (e + 1) ≡ [] = ap (λ (m : ℕ). fields_at b (m + 1)) d ∙ fields_past b in
          let count : length (fields_at b start) ≡ k + 1 = long_after ∙ ap (λ (gs : List (List ℕ)). k + 1 + length gs) none_left ∙ omega arith in
          let all : values_all n 0 (fields_at b start) ≡ take (k + 1) after = numbers_after ∙ ap (λ (gs : List (List ℕ)). take (k + 1) after ++ values_all n (k + 1) gs) none_left ∙ append-nil (take (k + 1) after) in
          record {
            size = size_after;
            answer = rw (right_after ∙ ap (proper_all n (k + 1)) none_left, count, le-leb (k + 1) room (omega (arith, h.size)));
            numbers = λ c z. let q : k + 1 ≡ c = cc in rw (← q) (sym all);
          }

      pub filling_next : (e ≡ length b → ⊥) → Filling n b start room (e + 1) (k + 1) after
      filling_next d = record { size = size_after; fits = omega (arith, h.size); inside = omega (arith, j.inside); right = right_after; long = long_after; numbers = numbers_after }

pub ruleset filling = (filling_start, filling_many, filling_wrong, filling_end, filling_next)
