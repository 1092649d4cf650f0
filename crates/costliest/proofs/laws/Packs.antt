-- The packs that the COMMITs of the costliest session hold: as many as asked for, rising, of 64 bits each.
use Rattle.std.specs.Prelude.{ℕ, zero, suc, ◌≤◌, Bool, true, ◌&&◌, List, [], ◌∷◌, ◌≡◌, refl, ltb, length, take}
use Rattle.std.proofs.Common.{arith, ltb-true}
use Rattle.quorum.specs.laws.Bools.{and_left, and_right}
use Rattle.quorum.specs.Every.{every}
use Rattle.quorum.specs.laws.Every.{every_each}
use Rattle.wire.specs.Bytes.{rises_from, rises}
use Rattle.wire_laws.specs.Proper.{Fitting}
use Rattle.costliest.specs.Calls.{packs}

pub packs_many : length packs ≡ 16
unfolding packs
packs_many = refl

fitting_take : (k : ℕ) (xs : List ℕ) → Fitting xs → Fitting (take k xs)
fitting_take zero xs h = tt
fitting_take (suc k) [] h = tt
fitting_take (suc k) (x ∷ xs) h = (h.0, fitting_take k xs h.1)

-- each is below 256
unfoldable small : List ℕ → Bool
small [] = true
small (x ∷ xs) = ltb x 256 && small xs

small_fit : (xs : List ℕ) → small xs ≡ true → Fitting xs
unfolding small
small_fit [] e = tt
small_fit (x ∷ xs) e = (omega (arith, ltb-true x 256 (and_left (ltb x 256) (small xs) e)), small_fit xs (and_right (ltb x 256) (small xs) e))

all_small : small packs ≡ true
unfolding small packs
all_small = refl

pub packs_fit : (n : ℕ) → Fitting (take n packs)
packs_fit n = fitting_take n packs (small_fit packs all_small)

all_rise : every (λ k. rises (take k packs)) 16 ≡ true
unfolding every rises rises_from packs
all_rise = refl

pub packs_rise : (n : ℕ) → n ≤ 16 → rises (take n packs) ≡ true
unfolding rises
packs_rise zero few = refl
packs_rise (suc n) few = every_each (λ k. rises (take k packs)) 16 all_rise (suc n) (omega arith) few
