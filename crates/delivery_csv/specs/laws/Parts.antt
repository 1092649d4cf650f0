-- The ended front of a text: where it ends, how many records or lines it has, and what is left.
use Prim.Native.Nat.{ℕ, suc, ◌+◌, ◌≤◌, ◌<◌}
use Rattle.std.specs.Prelude.{Bool, ◌&&◌, ◌≡◌, eqb, take, drop}
use Rattle.std.proofs.Math.Bool.{true, false, cond, not, and-false}
use mathlib.Core.List.{List, [], ◌∷◌, ◌++◌}
use Rattle.std.proofs.Math.Path.{refl, sym, ap}
use Rattle.std.proofs.Common.{◌∙◌, length-append, take_at, drop_at}
use native.Mathlib.Omega.{arith}
use Rattle.std.proofs.Math.Dec.{ltb}
use Rattle.std.proofs.Math.ListN.{length}
use borrow.Author.Tests.{eqb-true, not-true, ltb-true, ltb-false, le-ltb}
use Rattle.text.specs.Fields.{LF, in_front}
use Rattle.delivery_csv.specs.Fields.{cut, pieces, good, read_all}
use Rattle.delivery_csv.specs.Lines.{unturned}
use Rattle.delivery_csv.specs.Back.{lacks_end}
use Rattle.delivery_csv.specs.Blocks.{ends_record}
use Rattle.delivery_csv.specs.Parts.{part_with, part_from}
use Rattle.delivery_csv.specs.declared.parts.Part.{Part}
use Rattle.delivery_csv.specs.laws.Bools.{and_left, and_right}
use Rattle.delivery_csv.specs.laws.Reading.{Step, step}
use Rattle.delivery_csv.specs.laws.Blocks.{ends_length}

abbrev pub nothing : Part
nothing = record { length = 0; count = 0 }

-- as many records as pieces
pub read_length : (right : List ℕ → Bool) (fields_of : List ℕ → List (List ℕ)) (n : ℕ) (ps : List (List ℕ)) (rs : List (List (List ℕ))) →
    read_all right fields_of n ps ≡ good rs → length rs ≡ length ps
unfolding read_all
read_length right fields_of n [] rs e = let q : [] ≡ rs = cc in rw (← q)
read_length right fields_of n (p ∷ ps) rs e =
    let h : Step right fields_of n p ps rs = step right fields_of n p ps rs e in
    rw (← h.whole) (ap suc (read_length right fields_of (n + 1) ps h.others h.rest))

length_in_front : (b : ℕ) (ps : List (List ℕ)) → length (in_front b ps) ≡ length ps
unfolding in_front
length_in_front b [] = refl
length_in_front b (p ∷ ps) = refl

module _ (turns : Bool → ℕ → Bool) where
  -- how many LF stand outside quotes
  unfoldable pub ends : Bool → List ℕ → ℕ
  ends i [] = 0
  ends i (b ∷ t) = cond (eqb b LF && not i) (ends (turns i b) t + 1) (ends (turns i b) t)

  ends_one : (i : Bool) (b : ℕ) (t : List ℕ) → (eqb b LF && not i) ≡ true → ends i (b ∷ t) ≡ ends (turns i b) t + 1
  unfolding ends
  ends_one i b t e = rw e

  ends_none : (i : Bool) (b : ℕ) (t : List ℕ) → (eqb b LF && not i) ≡ false → ends i (b ∷ t) ≡ ends (turns i b) t
  unfolding ends
  ends_none i b t e = rw e

  ends_few : (i : Bool) (t : List ℕ) → ends i t ≤ length t
  unfolding ends
  ends_few i [] = omega arith
  ends_few i (b ∷ t) = go (eqb b LF && not i) (ends_few (turns i b) t)
    where
      go : (x : Bool) → ends (turns i b) t ≤ length t → cond x (ends (turns i b) t + 1) (ends (turns i b) t) ≤ suc (length t)
      go true h = omega arith
      go false h = omega arith

  module _ (most : ℕ) where
    -- a part that has all it may have stays
    full : (i : Bool) (k : ℕ) (part : Part) (t : List ℕ) → most ≤ part.count → part_from turns most i k part t ≡ part
    unfolding part_from part_with
    full i k part [] h = refl
    full i k part (b ∷ t) h = rw (le-ltb part.count most h, and-false (eqb b LF && not i)) (full (turns i b) (k + 1) part t h)

    -- the bytes that are not passed have nothing for the part r, or it ends among them
    data Found (i : Bool) (k : ℕ) (part : Part) (t : List ℕ) (r : Part) : Type 0 where
      none : r ≡ part → (part.count < most → ends i t ≡ 0) → Found i k part t r
      some : (b : ℕ) (v w : List ℕ) → t ≡ b ∷ (v ++ w) → ends_record turns i (b ∷ v) ≡ true → r.length ≡ k + suc (length v) →
          r.count ≡ part.count + ends i (b ∷ v) → r.count ≤ most → (r.count < most → ends false w ≡ 0) → Found i k part t r

    module _ (quiet : turns false LF ≡ false) where
      stays : (i : Bool) (b : ℕ) → (eqb b LF && not i) ≡ true → turns i b ≡ false
      stays i b e = rw (eqb-true b LF (and_left (eqb b LF) (not i) e), not-true i (and_right (eqb b LF) (not i) e)) quiet

      module _ (i : Bool) (k : ℕ) (part : Part) (b : ℕ) (t : List ℕ) (r : Part) where
        found_past : (eqb b LF && not i) ≡ false → Found (turns i b) (k + 1) part t r → Found i k part (b ∷ t) r
        unfolding ends_record
        found_past e (none q h) = none q (λ l. ends_none i b t e ∙ h l)
        found_past e (some c v w q f s n m h) =
            some b (c ∷ v) w (ap (λ (u : List ℕ). b ∷ u) q) f (s ∙ omega arith) (n ∙ rw (ends_none i b (c ∷ v) e)) m h

        found_end : (eqb b LF && not i) ≡ true → part.count < most → Found (turns i b) (k + 1) (record { length = k + 1; count = part.count + 1 }) t r →
            Found i k part (b ∷ t) r
        unfolding ends_record ends
        found_end e l (none q h) =
            some b [] t refl e (ap (λ (p : Part). p.length) q ∙ omega arith) (ap (λ (p : Part). p.count) q ∙ rw e (omega arith))
            (rw q (omega arith)) (λ m. rw (stays i b e) at (h (rw q at m)))
        found_end e l (some c v w q f s n m h) =
            some b (c ∷ v) w (ap (λ (u : List ℕ). b ∷ u) q) f (s ∙ omega arith) (n ∙ rw (ends_one i b (c ∷ v) e) (omega arith)) m h

      found : (i : Bool) (k : ℕ) (part : Part) (t : List ℕ) → Found i k part t (part_from turns most i k part t)
      unfolding part_from part_with ends
      found i k part [] = none refl (λ l. refl)
      found i k part (b ∷ t) =
          go (ltb part.count most) refl (eqb b LF && not i) refl (found (turns i b) (k + 1) part t)
          (found (turns i b) (k + 1) (record { length = k + 1; count = part.count + 1 }) t)
        where
          go : (l : Bool) → ltb part.count most ≡ l → (x : Bool) → (eqb b LF && not i) ≡ x →
              Found (turns i b) (k + 1) part t (part_from turns most (turns i b) (k + 1) part t) →
              Found (turns i b) (k + 1) (record { length = k + 1; count = part.count + 1 }) t
              (part_from turns most (turns i b) (k + 1) (record { length = k + 1; count = part.count + 1 }) t) →
              Found i k part (b ∷ t) (part_from turns most (turns i b) (k + 1) (cond (x && l) (record { length = k + 1; count = part.count + 1 }) part) t)
          go true q true e g h = found_end i k part b t _ e (ltb-true part.count most q) h
          go true q false e g h = found_past i k part b t _ e g
          go false q x e g h =
              let m : most ≤ part.count = ltb-false part.count most q in
              rw (and-false x, full (turns i b) (k + 1) part t m) (none refl (λ l. absurd (omega arith)))

      -- a text as the part and the rest
      record Split (t : List ℕ) (r : Part) : Type 0 where
        front : List ℕ
        rest : List ℕ
        whole : t ≡ front ++ rest
        size : length front ≡ r.length
        ended : ends_record turns false front ≡ true
        counted : r.count ≡ ends false front
        few : r.count ≤ most
        unended : r.count < most → ends false rest ≡ 0

      split : (t : List ℕ) → Split t (part_from turns most false 0 nothing t)
      unfolding ends_record ends
      split t = go (part_from turns most false 0 nothing t) (found false 0 nothing t)
        where
          go : (r : Part) → Found false 0 nothing t r → Split t r
          go r (none q h) =
              record {
                front = [];
                rest = t;
                whole = refl;
                size = rw q;
                ended = refl;
                counted = rw q;
                few = rw q (omega arith);
                unended = λ l. h (rw q at l);
              }
          go r (some b v w q f s n m h) =
              record {
                front = b ∷ v;
                rest = w;
                whole = q;
                size = sym (s ∙ omega arith);
                ended = f;
                counted = n ∙ omega arith;
                few = m;
                unended = h;
              }

  module _ (quiet : turns false LF ≡ false) where
    -- one piece more than ends
    pub cut_length : (i : Bool) (t : List ℕ) → length (cut turns LF i t) ≡ suc (ends i t)
    unfolding cut ends
    cut_length i [] = refl
    cut_length i (b ∷ t) = go (eqb b LF && not i) refl (cut_length i t) (cut_length (turns i b) t)
      where
        go : (x : Bool) → (eqb b LF && not i) ≡ x → length (cut turns LF i t) ≡ suc (ends i t) → length (cut turns LF (turns i b) t) ≡ suc (ends (turns i b) t) →
            length (cond x ([] ∷ cut turns LF i t) (in_front b (cut turns LF (turns i b) t))) ≡ suc (cond x (ends (turns i b) t + 1) (ends (turns i b) t))
        go true e h k =
            let o : i ≡ false = not-true i (and_right (eqb b LF) (not i) e) in
            let z : turns i b ≡ i = stays 0 quiet i b e ∙ sym o in
            ap suc (h ∙ ap suc (ap (λ (j : Bool). ends j t) (sym z)) ∙ omega arith)
        go false e h k = length_in_front b (cut turns LF (turns i b) t) ∙ k

module _ (turns : Bool → ℕ → Bool) (quiet : turns false LF ≡ false) (t : List ℕ) (most : ℕ) where
  abbrev part : Part
  part = part_from turns most false 0 nothing t

  the_split : Split turns most quiet t part
  the_split = split turns most quiet t

  pub part_within : part.length ≤ length t
  part_within =
      let h : Split turns most quiet t part = the_split in
      omega (arith, h.size, ap length h.whole, length-append h.front h.rest)

  pub part_few : part.count ≤ most
  part_few = the_split.few

  part_front : take part.length t ≡ the_split.front
  part_front =
      let h : Split turns most quiet t part = the_split in
      ap (take part.length) h.whole ∙ take_at h.front h.rest part.length h.size

  part_rest : drop part.length t ≡ the_split.rest
  part_rest =
      let h : Split turns most quiet t part = the_split in
      ap (drop part.length) h.whole ∙ drop_at h.front h.rest part.length h.size

  pub part_ended : ends_record turns false (take part.length t) ≡ true
  part_ended = ap (ends_record turns false) part_front ∙ the_split.ended

  pub part_counted : (strip : List ℕ → List ℕ) → length (pieces strip (cut turns LF false (take part.length t))) ≡ part.count
  part_counted strip =
      let e : length (cut turns LF false (take part.length t)) ≡ suc (length (pieces strip (cut turns LF false (take part.length t)))) =
      ends_length turns quiet strip (take part.length t) part_ended in
      let n : length (cut turns LF false (take part.length t)) ≡ suc (ends turns false (take part.length t)) =
      cut_length turns quiet false (take part.length t) in
      let f : ends turns false (take part.length t) ≡ ends turns false the_split.front = ap (ends turns false) part_front in
      omega (arith, e, n, f, the_split.counted)

  pub part_rest_unended : part.count < most → length (cut turns LF false (drop part.length t)) ≡ 1
  part_rest_unended l =
      ap (λ (u : List ℕ). length (cut turns LF false u)) part_rest
      ∙ cut_length turns quiet false the_split.rest
      ∙ ap suc (the_split.unended l)

empty : (t : List ℕ) → length t ≡ 0 → t ≡ []
empty [] e = refl
empty (b ∷ t) e = absurd (omega arith)

-- a text has no more ends than bytes
pub rest_unended : (turns : Bool → ℕ → Bool) → turns false LF ≡ false → (t : List ℕ) →
    length (cut turns LF false (drop (part_from turns (length t) false 0 nothing t).length t)) ≡ 1
unfolding cut
rest_unended turns quiet t = go (ltb (part_from turns (length t) false 0 nothing t).count (length t)) refl
  where
    go : (x : Bool) → ltb (part_from turns (length t) false 0 nothing t).count (length t) ≡ x →
        length (cut turns LF false (drop (part_from turns (length t) false 0 nothing t).length t)) ≡ 1
    go true e = part_rest_unended turns quiet t (length t) (ltb-true _ _ e)
    go false e = rw (part_rest turns quiet t (length t)) (last (the_split turns quiet t (length t)) (ltb-false _ _ e))
      where
        last : (h : Split turns (length t) quiet t (part_from turns (length t) false 0 nothing t)) →
            length t ≤ (part_from turns (length t) false 0 nothing t).count → length (cut turns LF false h.rest) ≡ 1
        last h l =
            rw (empty h.rest (omega (arith, h.counted, ends_few turns false h.front, ap length h.whole, length-append h.front h.rest)))

-- a block of lines that ends with an LF does not lack it
pub line_ended : (a : List ℕ) → ends_record unturned false a ≡ true → lacks_end a ≡ false
unfolding lacks_end ends_record unturned
line_ended [] e = refl
line_ended (b ∷ []) e = rw (and_left (eqb b LF) true e)
line_ended (b ∷ c ∷ a) e = line_ended (c ∷ a) e
