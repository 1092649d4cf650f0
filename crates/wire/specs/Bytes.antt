-- Numbers in bytes, high byte first; the values of a message.
use Rattle.std.specs.Prelude.{ℕ, zero, suc, ◌+◌, ◌*◌, ◌-◌, ◌/◌, ◌%◌, ◌^◌, Bool, true, cond, ◌&&◌, List, [], ◌∷◌, ◌++◌, length, get_or, drop, leb, ltb}

-- the number in the two bytes of b from position i
unfoldable pub be2 : List ℕ → ℕ → ℕ
be2 b i = get_or b i 0 * 256 + get_or b (i + 1) 0

-- the number in the four bytes of b from position i
unfoldable pub be4 : List ℕ → ℕ → ℕ
be4 b i = be2 b i * 2 ^ 16 + be2 b (i + 2)

-- the number in the eight bytes of b from position i
unfoldable pub be8 : List ℕ → ℕ → ℕ
be8 b i = be4 b i * 2 ^ 32 + be4 b (i + 4)

-- value k, from 1, of the part v that starts at byte 12: eight bytes each, the most significant first (PROTOCOL 2.13); 0 where v does not hold it
unfoldable pub value_at : List ℕ → ℕ → ℕ
value_at v k = cond (leb 1 k && leb (8 * k) (length v)) (be8 v (8 * k - 8)) 0

-- the first count values of the part v
unfoldable pub values : ℕ → List ℕ → List ℕ
values zero v = []
values (suc k) v = value_at v 1 ∷ values k (drop 8 v)

-- x and then xs, each above the one before it
unfoldable pub rises_from : ℕ → List ℕ → Bool
rises_from x [] = true
rises_from x (y ∷ ys) = ltb x y && rises_from y ys

-- each value of a COMMIT is above the one before (PROTOCOL 2.6)
unfoldable pub rises : List ℕ → Bool
rises [] = true
rises (x ∷ xs) = rises_from x xs

-- the low two bytes of x
unfoldable pub bytes2 : ℕ → List ℕ
bytes2 x = x / 2 ^ 8 % 256 ∷ x % 256 ∷ []

-- the low four bytes of x
unfoldable pub bytes4 : ℕ → List ℕ
bytes4 x = bytes2 (x / 2 ^ 16) ++ bytes2 x

-- the eight bytes of x
unfoldable pub bytes8 : ℕ → List ℕ
bytes8 x = bytes4 (x / 2 ^ 32) ++ bytes4 x

-- the bytes of values, one after the other: eight each, the most significant first (PROTOCOL 2.13)
unfoldable pub value_bytes : List ℕ → List ℕ
value_bytes [] = []
value_bytes (x ∷ xs) = bytes8 x ++ value_bytes xs
