-- The walk over the bytes of a text that finds its ended part.
use Rattle.std.specs.Prelude.{ℕ, ◌+◌, ◌≤◌, ◌<◌, Bool, ◌&&◌, ◌||◌, List, ◌∷◌, ◌≡◌, eqb, get_or, drop}
use Rattle.std.proofs.Math.Bool.{true, false, cond, not, and-false}
use Rattle.std.specs.Bool.{beq}
use Rattle.std.proofs.lemmas.Bool.{false≢true}
use Rattle.std.proofs.Common.{true≢false, sym, ap, ◌∙◌, arith, add-one, drop_of_length-le, drop-cons, lt-ltb, le-ltb}
use Rattle.std.proofs.Math.Path.{refl}
use Rattle.std.proofs.Math.Dec.{ltb}
use Rattle.std.proofs.Math.ListN.{length}
use Rattle.text.specs.Fields.{LF}
use Rattle.delivery_csv.specs.Fields.{QUOTE}
use Rattle.delivery_csv.specs.Records.{turned}
use Rattle.delivery_csv.specs.Lines.{unturned}
use Rattle.delivery_csv.specs.Parts.{turned_if, part_with, part_from, ended_part}
use Rattle.delivery_csv.specs.declared.parts.Part.{Part}

pub turned_by_test : (q i : Bool) (b : ℕ) → (q && not (beq i (eqb b QUOTE))) ≡ turned_if q i b
unfolding turned_if turned unturned
turned_by_test false i b = refl
turned_by_test true i b = go i (eqb b QUOTE)
  where
    go : (j x : Bool) → not (beq j x) ≡ cond x (not j) j
    go true true = refl
    go true false = refl
    go false true = refl
    go false false = refl

-- where quotes count
pub turned_by_quote : (i : Bool) (b : ℕ) → not (beq i (eqb b QUOTE)) ≡ turned_if true i b
turned_by_quote i b = turned_by_test true i b

module _ (most : ℕ) (i : Bool) (k : ℕ) (part : Part) (b : ℕ) where
  pub no_end : (not (eqb b LF) || i) ≡ true → part ≡ part_with most i k part b
  unfolding part_with
  no_end = go (eqb b LF) i
    where
      go : (x j : Bool) → (not x || j) ≡ true → part ≡ cond (x && not j && ltb part.count most) (record { length = k; count = part.count + 1 }) part
      go true true e = refl
      go true false e = absurd (false≢true e)
      go false j e = refl

  pub part_full : most ≤ part.count → part ≡ part_with most i k part b
  unfolding part_with
  part_full h = rw (le-ltb part.count most h, and-false (eqb b LF && not i))

  pub part_longer : (not (eqb b LF) || i) ≡ false → part.count < most → record { length = k; count = part.count + 1 } ≡ part_with most i k part b
  unfolding part_with
  part_longer = go (eqb b LF) i
    where
      go : (x j : Bool) → (not x || j) ≡ false → part.count < most →
          record { length = k; count = part.count + 1 } ≡ cond (x && not j && ltb part.count most) (record { length = k; count = part.count + 1 }) part
      go true true e h = absurd (true≢false e)
      go true false e h = rw (lt-ltb part.count most h)
      go false j e h = absurd (true≢false e)

pub ruleset part_with_cases = (no_end, part_full, part_longer)

-- a loop that has passed the first k bytes
pub record Walking (quotes : Bool) (t : List ℕ) (most : ℕ) (part : Part) (inside : Bool) (k : ℕ) : Type 0 where
  pub within : k ≤ length t
  pub rest : part_from (turned_if quotes) most inside k part (drop k t) ≡ ended_part quotes t most

pub walking_start : (quotes : Bool) (t : List ℕ) (most : ℕ) → Walking quotes t most (record { length = 0; count = 0 }) false 0
unfolding ended_part
walking_start quotes t most = record { within = omega arith; rest = refl }

pub walking_next : (quotes : Bool) (t : List ℕ) (most : ℕ) (part part' : Part) (i i' : Bool) (k : ℕ) →
    Walking quotes t most part i k → k < length t → part' ≡ part_with most i (k + 1) part (get_or t k 0) → i' ≡ turned_if quotes i (get_or t k 0) →
    Walking quotes t most part' i' (k + 1)
unfolding part_from
walking_next quotes t most part part' i i' k h l p q =
    let d : drop k t ≡ get_or t k 0 ∷ drop (k + 1) t = rw (add-one k) (drop-cons t k 0 l) in
    record { within = omega arith; rest = rw (p, q) (sym (ap (part_from (turned_if quotes) most i k part) d) ∙ h.rest) }

pub walking_done : (quotes : Bool) (t : List ℕ) (most : ℕ) (part : Part) (i : Bool) (k : ℕ) →
    Walking quotes t most part i k → length t ≤ k → part ≡ ended_part quotes t most
unfolding part_from
walking_done quotes t most part i k h l = ap (part_from (turned_if quotes) most i k part) (sym (drop_of_length-le t l)) ∙ h.rest

pub ruleset walkings = (walking_start, walking_next, walking_done)
