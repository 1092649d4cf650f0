-- Parts of the memory as the code takes them.
use Rattle.std.specs.Prelude.{ℕ, ◌+◌, ◌-◌, ◌≤◌, Bool, ◌≡◌, length}
use Rattle.std.proofs.Math.Bool.{cond, true, false}
use mathlib.Core.List.{List, [], ◌++◌, ◌∷◌}
use Rattle.std.proofs.Math.Path.{refl}
use Rattle.std.proofs.Common.{◌∙◌, arith, drop-drop}
use Rattle.std.proofs.Math.ListN.{take, drop}
use Rattle.std.proofs.Math.Dec.{leb}
use Rattle.std.specs.declared.ops.Range.{Range}
use Rattle.drill_feeder.specs.Parts.{part, with_part}
use borrow.Rule.Slice.PartMut.{put_mid}

-- the bounds of a part
pub record PartOf (n a k : ℕ) (r : Range ℕ) : Type 0 where
  pub first : r.start ≡ cond (leb (a + k) n) a 0
  pub last : r.end ≡ cond (leb (a + k) n) (a + k) 0
  pub ordered : r.start ≤ r.end
  pub within : r.end ≤ n

empty : (l : List ℕ) → length l ≡ 0 → l ≡ []
empty [] e = refl
empty (x ∷ l) e = absurd (omega arith)

-- a part that is lent is the part, and what comes back stands in its place
module _ (l : List ℕ) (a k : ℕ) (r : Range ℕ) (h : PartOf (length l) a k r) where
  there : leb (a + k) (length l) ≡ true → (r.start ≡ a) × (r.end - r.start ≡ k)
  there t =
      let s : r.start ≡ a = h.first ∙ rw t in
      let e : r.end ≡ a + k = h.last ∙ rw t in
      (s, omega arith)

  nowhere : leb (a + k) (length l) ≡ false → (r.start ≡ 0) × (r.end - r.start ≡ 0)
  nowhere t =
      let s : r.start ≡ 0 = h.first ∙ rw t in
      let e : r.end ≡ 0 = h.last ∙ rw t in
      (s, omega arith)

  pub part_lent : take (r.end - r.start) (drop r.start l) ≡ part l a k
  unfolding part
  part_lent = go (leb (a + k) (length l)) refl
    where
      go : (t : Bool) → leb (a + k) (length l) ≡ t → take (r.end - r.start) (drop r.start l) ≡ cond t (take k (drop a l)) []
      go true e = rw ((there e).1, (there e).0)
      go false e = rw (nowhere e).1

  pub part_back : (ys : List ℕ) → length ys ≡ length (take (r.end - r.start) (drop r.start l)) →
      put_mid r.start (r.end - r.start) l ys ≡ with_part l a k ys
  unfolding with_part
  part_back ys q = go (leb (a + k) (length l)) refl
    where
      go : (t : Bool) → leb (a + k) (length l) ≡ t → put_mid r.start (r.end - r.start) l ys ≡ cond t (take a l ++ (ys ++ drop (a + k) l)) l
      go true e = rw ((there e).1, (there e).0, drop-drop)
      go false e =
          let z : ys ≡ [] = empty ys (q ∙ rw (nowhere e).1) in
          rw (z, (nowhere e).1, (nowhere e).0)
