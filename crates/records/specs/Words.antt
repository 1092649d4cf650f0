-- The state as a list of words: one word read, one word put, one mark set, words stored in a row, a front copied.
use Rattle.std.specs.Prelude.{ℕ, ◌+◌, ◌-◌, zero, suc, Bool, List, ◌++◌, eqb, get_or, set, take, drop, replicate}
use Rattle.quorum.specs.Marks.{mark, with_mark}

-- the word at k, and 0 past the end
unfoldable pub word : List ℕ → ℕ → ℕ
word s k = get_or s k 0

-- the state with v at k; past the end nothing changes
unfoldable pub put : List ℕ → ℕ → ℕ → List ℕ
put s k v = set s k v

-- mark p of word k
unfoldable pub marked : List ℕ → ℕ → ℕ → Bool
marked s k p = mark (word s k) p

-- whether the word p − 1 above b is v
unfoldable pub equal_at : List ℕ → ℕ → ℕ → ℕ → Bool
equal_at s b v p = eqb (word s (b + (p - 1))) v

-- the state with mark p of word k set
unfoldable pub set_mark : List ℕ → ℕ → ℕ → List ℕ
set_mark s k p = put s k (with_mark (word s k) p)

-- b with its first k elements those of a
unfoldable pub copied : List ℕ → List ℕ → ℕ → List ℕ
copied a b k = take k a ++ drop k b

-- n words of 0
unfoldable pub blank : ℕ → List ℕ
blank n = replicate n 0

-- s with f k at a + k, for each k of 1 to n
unfoldable pub store_of : (ℕ → ℕ) → ℕ → List ℕ → ℕ → List ℕ
store_of f a s zero = s
store_of f a s (suc n) = put (store_of f a s n) (a + suc n) (f (suc n))
