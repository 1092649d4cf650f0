-- Numbers in bytes, there and back.
use Prim.Native.Nat.{ℕ, ◌+◌, ◌*◌, ◌/◌, ◌%◌, ◌^◌, ◌<◌}
use mathlib.Core.Path.{◌≡◌, refl, ap, ◌∙◌}
use mathlib.Core.List.{List, [], ◌∷◌, ◌++◌}
use native.Mathlib.Omega.{arith}
use native.Mathlib.Nat.{mod-eq_of_lt}
use lib.Arith.{mod-mul}
use lib.Dec.{lit<}
use lib.ListN.{length, drop, length-append}
use Rattle.wire.specs.Bytes.{be2, be4, be8, value_at, values, bytes2, bytes4, bytes8, value_bytes}
use Rattle.wire.proofs.Laws.{value_held, length_bytes8}
use Rattle.wire_laws.specs.Proper.{Fitting}

pub digits2 : (x : ℕ) → x / 2 ^ 8 % 256 * 256 + x % 256 ≡ x % 2 ^ 16
digits2 x = omega (arith, mod-mul x {m = 256} {c = 2 ^ 8} (lit< tt) (lit< tt))

pub digits4 : (x : ℕ) → (x / 2 ^ 16 / 2 ^ 8 % 256 * 256 + x / 2 ^ 16 % 256) * 2 ^ 16 + (x / 2 ^ 8 % 256 * 256 + x % 256) ≡ x % 2 ^ 32
digits4 x = omega (arith, digits2 x, digits2 (x / 2 ^ 16), mod-mul x {m = 2 ^ 16} {c = 2 ^ 16} (lit< tt) (lit< tt))

-- a number that was written is read back
pub be8_bytes8 : (x : ℕ) (r : List ℕ) → x < 2 ^ 64 → be8 (bytes8 x ++ r) 0 ≡ x
unfolding be8 be4 be2 bytes8 bytes4 bytes2
be8_bytes8 x r h =
    omega (arith, digits4 x, digits4 (x / 2 ^ 32), mod-mul x {m = 2 ^ 32} {c = 2 ^ 32} (lit< tt) (lit< tt), mod-eq_of_lt h)

pub value_bytes8 : (x : ℕ) (r : List ℕ) → x < 2 ^ 64 → value_at (bytes8 x ++ r) 1 ≡ x
value_bytes8 x r h =
    value_held (bytes8 x ++ r) 1 (omega arith) (omega (arith, length-append (bytes8 x) r, length_bytes8 x)) ∙ be8_bytes8 x r h

drop_bytes8 : (x : ℕ) (r : List ℕ) → drop 8 (bytes8 x ++ r) ≡ r
unfolding bytes8 bytes4 bytes2
drop_bytes8 x r = refl

pub values_value_bytes : (xs : List ℕ) → Fitting xs → values (length xs) (value_bytes xs) ≡ xs
unfolding values value_bytes
values_value_bytes [] h = refl
values_value_bytes (x ∷ xs) h =
    rw (value_bytes8 x (value_bytes xs) h.0, drop_bytes8) (ap (λ (r : List ℕ). x ∷ r) (values_value_bytes xs h.1))
