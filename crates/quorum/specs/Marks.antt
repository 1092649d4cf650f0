-- A word as a row of 64 marks: mark p, for p from 1, is binary digit p − 1.
use Rattle.std.specs.Prelude.{ℕ, ◌+◌, ◌-◌, ◌/◌, ◌%◌, ◌^◌, Bool, ◌&&◌, cond, eqb, ltb, leb}

unfoldable pub mark : ℕ → ℕ → Bool
mark w p = ltb 0 p && eqb (w / 2 ^ (p - 1) % 2) 1

-- the word with mark p set; a mark that is set stays, and a p outside 1 to 64 changes nothing
unfoldable pub with_mark : ℕ → ℕ → ℕ
with_mark w p = cond (ltb 0 p && leb p 64) (cond (mark w p) w (w + 2 ^ (p - 1))) w
