-- A text has no more records or lines than bytes, so the number of one that is not taken is at most the number of its bytes.
use Prim.Native.Nat.{ℕ, suc, ◌+◌, ◌≤◌}
use Rattle.std.specs.Prelude.{Bool, cond, ◌&&◌, eqb}
use Rattle.std.proofs.Math.Bool.{true, false, not}
use mathlib.Core.List.{List, [], ◌∷◌}
use native.Mathlib.Omega.{arith}
use Rattle.std.proofs.Math.ListN.{length}
use Rattle.text.specs.Fields.{LF, in_front}
use Rattle.delivery_csv.specs.Fields.{record_taken, cut, unless_empty, pieces, Outcome, bad, good, with_record, read_all}
use Rattle.delivery_csv.specs.Records.{turned, without_cr, records_in, record_right, record_fields, records_read}
use Rattle.delivery_csv.specs.Lines.{unturned, whole_line, lines_in, line_right, line_fields, lines_read}
use Rattle.delivery_csv.specs.Converting.{text_of, drill_of_csv, csv_of_drill}
use Rattle.delivery_csv.specs.laws.Cuts.{pieces_next, cut_some}

-- ---- each piece has a byte or an end of its own

module _ (strip : List ℕ → List ℕ) where
  in_front_few : (b : ℕ) (ps : List (List ℕ)) → length (pieces strip (in_front b ps)) ≤ suc (length (pieces strip ps))
  unfolding pieces unless_empty in_front
  in_front_few b [] = omega arith
  in_front_few b (p ∷ []) = omega arith
  in_front_few b (p ∷ q ∷ ps) = omega arith

  pieces_few : (turns : Bool → ℕ → Bool) (i : Bool) (t : List ℕ) → length (pieces strip (cut turns LF i t)) ≤ length t
  unfolding cut pieces unless_empty
  pieces_few turns i [] = omega arith
  pieces_few turns i (b ∷ t) = go (eqb b LF && not i) (pieces_few turns i t) (pieces_few turns (turns i b) t)
    where
      go : (x : Bool) → length (pieces strip (cut turns LF i t)) ≤ length t → length (pieces strip (cut turns LF (turns i b) t)) ≤ length t →
          length (pieces strip (cond x ([] ∷ cut turns LF i t) (in_front b (cut turns LF (turns i b) t)))) ≤ suc (length t)
      go true h k = rw (pieces_next strip [] (cut turns LF i t) (cut_some turns LF i t)) (omega arith)
      go false h k = omega (arith, in_front_few b (cut turns LF (turns i b) t))

-- ---- what is not taken is one of the first m

unfoldable pub Among : {A : Type 0} → ℕ → Outcome A → Type 0
Among m (bad k) = k ≤ m
Among m (good x) = Unit {0}

with_among : (m : ℕ) (r : List (List ℕ)) (x : Outcome (List (List (List ℕ)))) → Among m x → Among m (with_record r x)
unfolding Among with_record
with_among m r (bad k) a = a
with_among m r (good rs) a = tt

text_among : (m : ℕ) (write : List (List (List ℕ)) → List ℕ) (x : Outcome (List (List (List ℕ)))) → Among m x → Among m (text_of write x)
unfolding Among text_of
text_among m write (bad k) a = a
text_among m write (good rs) a = tt

read_among : (right : List ℕ → Bool) (fields_of : List ℕ → List (List ℕ)) (m n : ℕ) (ps : List (List ℕ)) → n + length ps ≤ m + 1 →
    Among m (read_all right fields_of n ps)
unfolding Among read_all
read_among right fields_of m n [] h = tt
read_among right fields_of m n (p ∷ ps) h = go (right p && record_taken (fields_of p)) (read_among right fields_of m (n + 1) ps (omega arith))
  where
    go : (x : Bool) → Among m (read_all right fields_of (n + 1) ps) → Among m (cond x (with_record (fields_of p) (read_all right fields_of (n + 1) ps)) (bad n))
    go true a = with_among m (fields_of p) (read_all right fields_of (n + 1) ps) a
    go false a = omega arith

pub record_among : (t : List ℕ) → Among (length t) (drill_of_csv t)
unfolding drill_of_csv records_read records_in
record_among t = text_among (length t) _ _ (read_among record_right record_fields (length t) 1 _ (omega (arith, pieces_few without_cr turned false t)))

pub line_among : (t : List ℕ) → Among (length t) (csv_of_drill t)
unfolding csv_of_drill lines_read lines_in
line_among t = text_among (length t) _ _ (read_among line_right line_fields (length t) 1 _ (omega (arith, pieces_few whole_line unturned false t)))
