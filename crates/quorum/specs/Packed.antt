-- Weights given one by one, as one word.
use Rattle.std.specs.Prelude.{ℕ, zero, suc, ◌+◌, Bool, cond, leb}
use Rattle.quorum.specs.Marks.{with_mark}

-- the word with mark k set, where b
unfoldable pub mark_if : Bool → ℕ → ℕ → ℕ
mark_if b w k = cond b (with_mark w k) w

-- the word with the weight x of p: the first x of its four marks
unfoldable pub with_weight : ℕ → ℕ → ℕ → ℕ
with_weight w p x = mark_if (leb 4 x) (mark_if (leb 3 x) (mark_if (leb 2 x) (mark_if (leb 1 x) w (0 + p)) (16 + p)) (32 + p)) (48 + p)

-- the weights f 1 to f n
unfoldable pub packed : (ℕ → ℕ) → ℕ → ℕ
packed f zero = 0
packed f (suc n) = with_weight (packed f n) (suc n) (f (suc n))
