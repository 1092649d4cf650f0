-- The bytes of numbers that were read are the bytes that they were read from.
use Prim.Native.Nat.{ℕ, zero, suc, ◌+◌, ◌*◌, ◌-◌, ◌/◌, ◌%◌, ◌^◌, ◌<◌, ◌≤◌}
use mathlib.Core.Path.{◌≡◌, refl, ap, ap₂, sym, ◌∙◌}
use mathlib.Core.Bool.{Bool, true, false, cond, ◌&&◌}
use mathlib.Core.List.{List, [], ◌∷◌, ◌++◌}
use native.Mathlib.Numerals.{add-one}
use native.Mathlib.Omega.{arith}
use lib.ListN.{length, get_or, take, drop, length-drop, take-append-drop}
use lib.Dec.{leb}
use lib.Seq.{drop-cons, drop-drop, take-add, get_or-drop}
use Rattle.wire.specs.Bytes.{be2, be4, be8, value_at, values, bytes2, bytes4, bytes8, value_bytes}
use Rattle.wire.specs.Message.{front_bytes, header_bytes}
use Rattle.wire.specs.Reading.{header_of}
use Rattle.wire.proofs.Laws.{value_held}
use Rattle.wire_laws.specs.Proper.{AllBytes, Fitting}

-- the bytes of a number put together from two
join2 : (x y : ℕ) → x < 256 → y < 256 → bytes2 (x * 256 + y) ≡ x ∷ y ∷ []
unfolding bytes2
join2 x y p q =
    let a : (x * 256 + y) / 2 ^ 8 % 256 ≡ x = omega arith in
    let b : (x * 256 + y) % 256 ≡ y = omega arith in
    rw (a, b)

join4 : (x y : ℕ) → y < 2 ^ 16 → bytes4 (x * 2 ^ 16 + y) ≡ bytes2 x ++ bytes2 y
unfolding bytes4 bytes2
join4 x y q =
    let a : (x * 2 ^ 16 + y) / 2 ^ 16 ≡ x = omega arith in
    let b : (x * 2 ^ 16 + y) / 2 ^ 8 % 256 ≡ y / 2 ^ 8 % 256 = omega arith in
    let c : (x * 2 ^ 16 + y) % 256 ≡ y % 256 = omega arith in
    rw (a, b, c)

join8 : (x y : ℕ) → y < 2 ^ 32 → bytes8 (x * 2 ^ 32 + y) ≡ bytes4 x ++ bytes4 y
unfolding bytes8 bytes4 bytes2
join8 x y q =
    let a : (x * 2 ^ 32 + y) / 2 ^ 32 ≡ x = omega arith in
    let b : (x * 2 ^ 32 + y) / 2 ^ 16 / 2 ^ 8 % 256 ≡ y / 2 ^ 16 / 2 ^ 8 % 256 = omega arith in
    let c : (x * 2 ^ 32 + y) / 2 ^ 16 % 256 ≡ y / 2 ^ 16 % 256 = omega arith in
    let d : (x * 2 ^ 32 + y) / 2 ^ 8 % 256 ≡ y / 2 ^ 8 % 256 = omega arith in
    let e : (x * 2 ^ 32 + y) % 256 ≡ y % 256 = omega arith in
    rw (a, b, c, d, e)

-- two parts one after the other
seam : (b : List ℕ) (i n m : ℕ) → take n (drop i b) ++ take m (drop (i + n) b) ≡ take (n + m) (drop i b)
seam b i n m = sym (take-add n m (drop i b) ∙ rw drop-drop)

module _ (b : List ℕ) (all : AllBytes b) where
  be2_below : (i : ℕ) → be2 b i < 2 ^ 16
  unfolding be2
  be2_below i = omega (arith, all i, all (i + 1))

  be4_below : (i : ℕ) → be4 b i < 2 ^ 32
  unfolding be4
  be4_below i = omega (arith, be2_below i, be2_below (i + 2))

  be8_below : (i : ℕ) → be8 b i < 2 ^ 64
  unfolding be8
  be8_below i = omega (arith, be4_below i, be4_below (i + 4))

  bytes_be2 : (i : ℕ) → i + 2 ≤ length b → bytes2 (be2 b i) ≡ take 2 (drop i b)
  unfolding be2
  bytes_be2 i h =
      let p : drop i b ≡ get_or b i 0 ∷ drop (suc i) b = drop-cons b i 0 (omega arith) in
      let q : drop (suc i) b ≡ get_or b (suc i) 0 ∷ drop (suc (suc i)) b = drop-cons b (suc i) 0 (omega arith) in
      join2 (get_or b i 0) (get_or b (i + 1) 0) (all i) (all (i + 1)) ∙ rw (p, q, add-one)

  bytes_be4 : (i : ℕ) → i + 4 ≤ length b → bytes4 (be4 b i) ≡ take 4 (drop i b)
  unfolding be4
  bytes_be4 i h =
      join4 (be2 b i) (be2 b (i + 2)) (be2_below (i + 2))
      ∙ ap₂ (λ (x y : List ℕ). x ++ y) (bytes_be2 i (omega arith)) (bytes_be2 (i + 2) (omega arith))
      ∙ seam b i 2 2

  bytes_be8 : (i : ℕ) → i + 8 ≤ length b → bytes8 (be8 b i) ≡ take 8 (drop i b)
  unfolding be8
  bytes_be8 i h =
      join8 (be4 b i) (be4 b (i + 4)) (be4_below (i + 4))
      ∙ ap₂ (λ (x y : List ℕ). x ++ y) (bytes_be4 i (omega arith)) (bytes_be4 (i + 4) (omega arith))
      ∙ seam b i 4 4

  pub value_below : (k : ℕ) → value_at b k < 2 ^ 64
  unfolding value_at
  value_below k = go (leb 1 k && leb (8 * k) (length b)) (be8 b (8 * k - 8)) (be8_below (8 * k - 8))
    where
      go : (t : Bool) (x : ℕ) → x < 2 ^ 64 → cond t x 0 < 2 ^ 64
      go true x h = h
      go false x h = omega arith

pub all_drop : (b : List ℕ) (n : ℕ) → AllBytes b → AllBytes (drop n b)
all_drop b n all i = rw get_or-drop (all (n + i))

pub length_values : (count : ℕ) (v : List ℕ) → length (values count v) ≡ count
unfolding values
length_values zero v = refl
length_values (suc k) v = ap suc (length_values k (drop 8 v))

pub values_fitting : (count : ℕ) (v : List ℕ) → AllBytes v → Fitting (values count v)
unfolding values
values_fitting zero v all = tt
values_fitting (suc k) v all = (value_below v all 1, values_fitting k (drop 8 v) (all_drop v 8 all))

pub bytes_values : (count : ℕ) (v : List ℕ) → AllBytes v → length v ≡ 8 * count → value_bytes (values count v) ≡ v
unfolding values value_bytes
bytes_values zero [] all h = refl
bytes_values zero (x ∷ v) all h = absurd (omega arith)
bytes_values (suc k) v all h =
    ap₂ (λ (x y : List ℕ). x ++ y)
    (ap bytes8 (value_held v 1 (omega arith) (omega arith)) ∙ bytes_be8 v all 0 (omega arith))
    (bytes_values k (drop 8 v) (all_drop v 8 all) (simp length-drop (omega arith)))
    ∙ take-append-drop 8 v

-- the header's bytes
six : (b r : List ℕ) → 6 ≤ length b →
    get_or b 0 0 ∷ get_or b 1 0 ∷ get_or b 2 0 ∷ get_or b 3 0 ∷ get_or b 4 0 ∷ get_or b 5 0 ∷ r ≡ take 6 b ++ r
six [] r h = absurd (omega arith)
six (x ∷ []) r h = absurd (omega arith)
six (x ∷ y ∷ []) r h = absurd (omega arith)
six (x ∷ y ∷ z ∷ []) r h = absurd (omega arith)
six (x ∷ y ∷ z ∷ u ∷ []) r h = absurd (omega arith)
six (x ∷ y ∷ z ∷ u ∷ v ∷ []) r h = absurd (omega arith)
six (x ∷ y ∷ z ∷ u ∷ v ∷ w ∷ b) r h = refl

pub bytes_header : (b : List ℕ) → AllBytes b → 12 ≤ length b → header_bytes (header_of b) ≡ take 12 b
unfolding header_bytes front_bytes header_of
bytes_header b all h =
    six b (bytes2 (be2 b 6) ++ bytes4 (be4 b 8)) (omega arith)
    ∙ ap (λ (r : List ℕ). take 6 b ++ r)
    (ap₂ (λ (x y : List ℕ). x ++ y) (bytes_be2 b all 6 (omega arith)) (bytes_be4 b all 8 (omega arith)) ∙ seam b 6 2 4)
    ∙ sym (take-add 6 6 b)
