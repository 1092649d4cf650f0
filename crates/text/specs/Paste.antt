-- Text written into lent bytes from a place on, as far as they go.
use Rattle.std.specs.Prelude.{ℕ, ◌+◌, cond, List, [], ◌∷◌, ◌≡◌, ltb, length, set}

-- the place after a byte at place a of n bytes
unfoldable pub next : (n a : ℕ) → ℕ
next n a = cond (ltb a n) (a + 1) a

-- the place after a text from place a on in n bytes
unfoldable pub ended : List ℕ → (n a : ℕ) → ℕ
ended [] n a = a
ended (b ∷ t) n a = ended t n (next n a)

-- the bytes s with a text from place a on; what would stand past their end is left out
unfoldable pub pasted : List ℕ → List ℕ → ℕ → List ℕ
pasted [] s a = s
pasted (b ∷ t) s a = pasted t (set s a b) (next (length s) a)

-- a text was written into s from place a on: r is the place after it, and s is now after
pub record Wrote (t s : List ℕ) (a r : ℕ) (after : List ℕ) : Type 0 where
  pub answer : r ≡ ended t (length s) a
  pub bytes : after ≡ pasted t s a
