-- Weights 1 to 4 in one word: of the marks p, 16 + p, 32 + p and 48 + p as many are set as concentrator p weighs. Only 1 to 16 weigh.
use Rattle.std.specs.Prelude.{ℕ, ◌+◌, Bool, ◌&&◌, cond, leb}
use Rattle.quorum.specs.Marks.{mark}
use Rattle.quorum.specs.Total.{share, total}

-- how many of the four marks of p are set
abbrev pub marks_set : ℕ → ℕ → ℕ
marks_set w p = share (mark w (0 + p)) 1 + share (mark w (16 + p)) 1 + share (mark w (32 + p)) 1 + share (mark w (48 + p)) 1

-- the weight of p
unfoldable pub weight_of : ℕ → ℕ → ℕ
weight_of w p = cond (leb 1 p && leb p 16) (marks_set w p) 0

-- the weight of the members of M among 1 to n
abbrev pub weigh : ℕ → (ℕ → Bool) → ℕ → ℕ
weigh w M n = total (weight_of w) M n
