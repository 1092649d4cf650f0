-- The cases of the code that takes bytes.
use Rattle.std.specs.Prelude.{◌≡◌, ℕ, ◌+◌, ◌<◌, ◌≤◌, List, [], ◌∷◌, ◌++◌, length, drop, slice_index, refl}
use Rattle.std.proofs.Common.{sym, ◌∙◌, arith, add-one, drop_of_length-le, drop-cons}
use Rattle.drill_core.specs.Feeding.{Drilling, fed_byte, fed_bytes}

-- a loop that has taken k bytes
pub record Taking (b : List ℕ) (x₀ x : Drilling) (k : ℕ) : Type 0 where
  pub within : k ≤ length b
  pub rest : fed_bytes x₀ b ≡ fed_bytes x (drop k b)

pub taking_next : (b : List ℕ) (x₀ x y : Drilling) (k : ℕ) → Taking b x₀ x k → k < length b → y ≡ fed_byte x (slice_index b k) → Taking b x₀ y (k + 1)
unfolding fed_bytes
taking_next b x₀ x y k h l e = record { within = omega arith; rest = h.rest ∙ rw (drop-cons b k 0 l, add-one, e) }

pub taking_done : (b : List ℕ) (x₀ x : Drilling) (k : ℕ) → Taking b x₀ x k → length b ≤ k → x ≡ fed_bytes x₀ b
unfolding fed_bytes
taking_done b x₀ x k h l = sym (h.rest ∙ rw (drop_of_length-le b {i = k} l))

pub ruleset taking = (taking_next, taking_done)

-- the bytes may come in any parts
pub fed_parts_lem : (x : Drilling) (a b : List ℕ) → fed_bytes x (a ++ b) ≡ fed_bytes (fed_bytes x a) b
unfolding fed_bytes
fed_parts_lem x [] b = refl
fed_parts_lem x (c ∷ a) b = fed_parts_lem (fed_byte x c) a b
