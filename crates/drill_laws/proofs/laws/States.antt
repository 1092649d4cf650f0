-- The states of the sessions stand apart from each other.
use Rattle.std.specs.Prelude.{ℕ, ◌+◌, ◌-◌, ◌≤◌, ◌≢◌, ◌≡◌}
use Rattle.std.proofs.Math.Bool.{true}
use mathlib.Core.List.{List, ◌++◌, append_assoc}
use Rattle.std.proofs.Math.Path.{sym, ap}
use Rattle.std.proofs.Common.{◌∙◌, length-drop, take-append-drop, take_at, length-take-le}
use native.Mathlib.Omega.{arith}
use Rattle.std.proofs.Math.Decide.{dec_le}
use Rattle.std.proofs.Math.ListN.{length, take, drop, length-append}
use Rattle.std.proofs.Math.Seq.{drop_at, drop-drop}
use Rattle.std.proofs.lemmas.List.{take-append-le, drop-append-le}
use Rattle.std.proofs.Math.Dec.{leb}
use borrow.Author.Tests.{le-leb}
use Rattle.drill_feeder.specs.Parts.{part, with_part, state_at, state_of, with_state}

module _ (l : List ℕ) (a k : ℕ) (h : a + k ≤ length l) where
  part_there : part l a k ≡ take k (drop a l)
  unfolding part
  part_there = rw (le-leb (a + k) (length l) h)

  pub length_part : length (part l a k) ≡ k
  length_part = rw part_there (length-take-le k (drop a l) (rw length-drop (omega arith)))

  module _ (new : List ℕ) (e : length new ≡ k) where
    with_there : with_part l a k new ≡ take a l ++ (new ++ drop (a + k) l)
    unfolding with_part
    with_there = rw (le-leb (a + k) (length l) h)

    front : length (take a l) ≡ a
    front = length-take-le a l (omega arith)

    pub length_with_part : length (with_part l a k new) ≡ length l
    length_with_part =
        ap length with_there
        ∙ length-append (take a l) (new ++ drop (a + k) l)
        ∙ omega (arith, front, length-append new (drop (a + k) l), length-drop (a + k) l)

    pub part_same : part (with_part l a k new) a k ≡ new
    unfolding part
    part_same =
        let n : length (with_part l a k new) ≡ length l = length_with_part in
        let t : leb (a + k) (length (with_part l a k new)) ≡ true = le-leb (a + k) (length (with_part l a k new)) (omega arith) in
        rw (t, with_there, drop_at (take a l) (new ++ drop (a + k) l) a front) (take_at new (drop (a + k) l) k e)

    -- a part before it
    below : (x : List ℕ) (b j : ℕ) → b + j ≤ a → take j (drop b (take a l ++ x)) ≡ take j (drop b (take a l))
    below x b j g =
        let m : b ≤ length (take a l) = omega (arith, front) in
        let n : j ≤ length (drop b (take a l)) = rw length-drop (omega (arith, front)) in
        rw (drop-append-le b (take a l) x m) (take-append-le j (drop b (take a l)) x n)

    pub part_below : (b j : ℕ) → b + j ≤ a → part (with_part l a k new) b j ≡ part l b j
    unfolding part
    part_below b j g =
        let n : length (with_part l a k new) ≡ length l = length_with_part in
        let t : leb (b + j) (length (with_part l a k new)) ≡ true = le-leb (b + j) (length (with_part l a k new)) (omega arith) in
        let u : leb (b + j) (length l) ≡ true = le-leb (b + j) (length l) (omega arith) in
        let z : take j (drop b (take a l ++ drop a l)) ≡ take j (drop b l) = ap (λ (y : List ℕ). take j (drop b y)) (take-append-drop a l) in
        rw (t, u, with_there) (below (new ++ drop (a + k) l) b j g ∙ sym (below (drop a l) b j g) ∙ z)

    -- a part after it
    pub part_above : (b j : ℕ) → a + k ≤ b → b + j ≤ length l → part (with_part l a k new) b j ≡ part l b j
    unfolding part
    part_above b j g m =
        let n : length (with_part l a k new) ≡ length l = length_with_part in
        let t : leb (b + j) (length (with_part l a k new)) ≡ true = le-leb (b + j) (length (with_part l a k new)) (omega arith) in
        let u : leb (b + j) (length l) ≡ true = le-leb (b + j) (length l) m in
        let s : length (take a l ++ new) ≡ a + k = length-append (take a l) new ∙ omega (arith, front, e) in
        let d : drop (a + k) (with_part l a k new) ≡ drop (a + k) l = rw (with_there, ← append_assoc) (drop_at (take a l ++ new) (drop (a + k) l) (a + k) s) in
        let v : b ≡ (a + k) + (b - (a + k)) = omega arith in
        rw (t, u) (ap (take j) (ap (λ (y : ℕ). drop y (with_part l a k new)) v ∙ sym (drop-drop (b - (a + k)) (a + k) (with_part l a k new)) ∙ ap (drop (b - (a + k))) d ∙ drop-drop (b - (a + k)) (a + k) l ∙ ap (λ (y : ℕ). drop y l) (sym v)))

-- the four states of a drill
module _ (w : List ℕ) (p : ℕ) (size : length w ≡ 8192) (lo : 1 ≤ p) (hi : p ≤ 4) where
  pub length_state_of : length (state_of w p) ≡ 2048
  unfolding state_of
  length_state_of = length_part w (state_at p) 2048 (omega arith)

  module _ (s : List ℕ) (e : length s ≡ 2048) where
    pub length_with_state : length (with_state w p s) ≡ 8192
    unfolding with_state
    length_with_state = length_with_part w (state_at p) 2048 (omega arith) s e ∙ size

    pub state_same : state_of (with_state w p s) p ≡ s
    unfolding state_of with_state
    state_same = part_same w (state_at p) 2048 (omega arith) s e

    pub state_other : (q : ℕ) → 1 ≤ q → q ≤ 4 → q ≢ p → state_of (with_state w p s) q ≡ state_of w q
    unfolding state_of with_state
    state_other q l h n = elim (dec_le q p) [
      | yes y ↦ part_below w (state_at p) 2048 (omega arith) s e (state_at q) 2048 (omega (arith, n))
      | no y ↦ part_above w (state_at p) 2048 (omega arith) s e (state_at q) 2048 (omega arith) (omega arith)
    ]
