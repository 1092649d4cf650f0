-- What stands before the first record or line that is not taken.
use Prim.Native.Nat.{ℕ, suc, ◌+◌, ◌≤◌, ◌<◌}
use Rattle.std.specs.Prelude.{Bool, ◌&&◌, ◌≡◌, ltb, take, drop}
use Rattle.std.proofs.Math.Bool.{true, false, cond}
use Rattle.std.proofs.Common.{true≢false, sym, ◌∙◌, length-append, take-append-drop, ltb-true, ltb-false}
use mathlib.Core.List.{List, [], ◌∷◌, ◌++◌, append-nil}
use Rattle.std.proofs.Math.Path.{refl, ap}
use native.Mathlib.Omega.{arith}
use Rattle.std.proofs.Math.ListN.{length}
use Rattle.text.specs.Fields.{LF}
use Rattle.delivery_csv.specs.Fields.{record_taken, cut, unless_empty, pieces, bad, good, with_record, read_all}
use Rattle.delivery_csv.specs.Parts.{part_from}
use Rattle.delivery_csv.specs.Stream.{first_taken, some_refused}
use Rattle.delivery_csv.specs.declared.parts.Part.{Part}
use Rattle.delivery_csv.specs.laws.Blocks.{ends_pieces}
use Rattle.delivery_csv.specs.laws.Parts.{nothing, part_few, part_ended, part_counted, part_rest_unended}
use Rattle.delivery_csv.specs.laws.Stream.{stopped, first_append}

pieces_few : (strip : List ℕ → List ℕ) (ps : List (List ℕ)) → length (pieces strip ps) ≤ length ps
unfolding pieces unless_empty
pieces_few strip [] = omega arith
pieces_few strip ([] ∷ []) = omega arith
pieces_few strip ((b ∷ p) ∷ []) = omega arith
pieces_few strip (p ∷ q ∷ ps) = omega (arith, pieces_few strip (q ∷ ps))

module _ (right : List ℕ → Bool) (fields_of : List ℕ → List (List ℕ)) where
  some_left : (ps : List (List ℕ)) → some_refused right fields_of ps ≡ true → length (first_taken right fields_of ps) < length ps
  unfolding first_taken some_refused
  some_left [] e = absurd (true≢false (sym e))
  some_left (p ∷ ps) e = go (right p && record_taken (fields_of p)) (some_left ps) e
    where
      go : (x : Bool) → (some_refused right fields_of ps ≡ true → length (first_taken right fields_of ps) < length ps) →
          cond x (some_refused right fields_of ps) true ≡ true → length (cond x (fields_of p ∷ first_taken right fields_of ps) []) < suc (length ps)
      go true h q = omega (arith, h q)
      go false h q = omega arith

  none_left : (ps : List (List ℕ)) → some_refused right fields_of ps ≡ false → length (first_taken right fields_of ps) ≡ length ps
  unfolding first_taken some_refused
  none_left [] e = refl
  none_left (p ∷ ps) e = go (right p && record_taken (fields_of p)) (none_left ps) e
    where
      go : (x : Bool) → (some_refused right fields_of ps ≡ false → length (first_taken right fields_of ps) ≡ length ps) →
          cond x (some_refused right fields_of ps) true ≡ false → length (cond x (fields_of p ∷ first_taken right fields_of ps) []) ≡ suc (length ps)
      go true h q = ap suc (h q)
      go false h q = absurd (true≢false q)

  none_read : (n : ℕ) (ps : List (List ℕ)) → some_refused right fields_of ps ≡ false → read_all right fields_of n ps ≡ good (first_taken right fields_of ps)
  unfolding first_taken some_refused read_all with_record
  none_read n [] e = refl
  none_read n (p ∷ ps) e = go (right p && record_taken (fields_of p)) (none_read (n + 1) ps) e
    where
      go : (x : Bool) → (some_refused right fields_of ps ≡ false → read_all right fields_of (n + 1) ps ≡ good (first_taken right fields_of ps)) →
          cond x (some_refused right fields_of ps) true ≡ false →
          cond x (with_record (fields_of p) (read_all right fields_of (n + 1) ps)) (bad n) ≡ good (cond x (fields_of p ∷ first_taken right fields_of ps) [])
      go true h q = rw (h q)
      go false h q = absurd (true≢false q)

  -- as many as are taken, and more behind them: those are taken
  front_read : (a b : List (List ℕ)) → length a ≡ length (first_taken right fields_of (a ++ b)) →
      read_all right fields_of 1 a ≡ good (first_taken right fields_of (a ++ b))
  front_read a b e = go (some_refused right fields_of a) refl
    where
      nil : (rs : List (List (List ℕ))) → length rs ≡ 0 → rs ≡ []
      nil [] q = refl
      nil (r ∷ rs) q = absurd (omega arith)

      go : (x : Bool) → some_refused right fields_of a ≡ x → read_all right fields_of 1 a ≡ good (first_taken right fields_of (a ++ b))
      go true q =
          let f : first_taken right fields_of (a ++ b) ≡ first_taken right fields_of a = first_append right fields_of a b ∙ rw q in
          absurd (omega (arith, e, ap length f, some_left a q))
      go false q =
          let f : first_taken right fields_of (a ++ b) ≡ first_taken right fields_of a ++ first_taken right fields_of b = first_append right fields_of a b ∙ rw q in
          let z : first_taken right fields_of b ≡ [] =
          nil (first_taken right fields_of b)
          (omega (arith, e, ap length f, length-append (first_taken right fields_of a) (first_taken right fields_of b), none_left a q)) in
          none_read 1 a q ∙ ap good (sym (f ∙ rw (z, append-nil (first_taken right fields_of a))))

  module _ (turns : Bool → ℕ → Bool) (quiet : turns false LF ≡ false) (strip : List ℕ → List ℕ) (t : List ℕ) (m : ℕ)
      (e : read_all right fields_of 1 (pieces strip (cut turns LF false t)) ≡ bad (suc m)) where
    abbrev part : Part
    part = part_from turns m false 0 nothing t

    abbrev front : List (List ℕ)
    front = pieces strip (cut turns LF false (take part.length t))

    abbrev behind : List (List ℕ)
    behind = pieces strip (cut turns LF false (drop part.length t))

    both : pieces strip (cut turns LF false t) ≡ front ++ behind
    both =
        ap (λ (u : List ℕ). pieces strip (cut turns LF false u)) (sym (take-append-drop part.length t))
        ∙ ends_pieces turns quiet strip (take part.length t) (drop part.length t) (part_ended turns quiet t m)

    taken_many : length (first_taken right fields_of (pieces strip (cut turns LF false t))) ≡ m
    taken_many = omega (arith, (stopped right fields_of 1 (pieces strip (cut turns LF false t)) (suc m) e).number)

    pub part_many : part.count ≡ m
    part_many = go (ltb part.count m) refl
      where
        go : (x : Bool) → ltb part.count m ≡ x → part.count ≡ m
        go true q =
            let one : length behind ≤ length (cut turns LF false (drop part.length t)) = pieces_few strip (cut turns LF false (drop part.length t)) in
            let few : length (cut turns LF false (drop part.length t)) ≡ 1 = part_rest_unended turns quiet t m (ltb-true part.count m q) in
            let left : length (first_taken right fields_of (pieces strip (cut turns LF false t))) < length (pieces strip (cut turns LF false t)) =
            some_left (pieces strip (cut turns LF false t)) (stopped right fields_of 1 (pieces strip (cut turns LF false t)) (suc m) e).some in
            absurd
            (omega
            (arith, one, few, left, taken_many, ap length both, length-append front behind, part_counted turns quiet t m strip, ltb-true part.count m q))
        go false q = omega (arith, ltb-false part.count m q, part_few turns quiet t m)

    pub part_read : read_all right fields_of 1 front ≡ good (first_taken right fields_of (pieces strip (cut turns LF false t)))
    part_read =
        front_read front behind (part_counted turns quiet t m strip ∙ part_many ∙ sym taken_many ∙ ap (λ (ps : List (List ℕ)). length (first_taken right fields_of ps)) both)
        ∙ ap (λ (ps : List (List ℕ)). good (first_taken right fields_of ps)) (sym both)
