-- Laws of tests.
use Rattle.std.specs.Prelude.{Bool, true, false, ◌&&◌, ◌||◌, not, ◌≡◌, refl}
use Rattle.std.proofs.lemmas.Bool.{false≢true}
use Rattle.std.proofs.Common.{sym}

pub and_left : (a b : Bool) → a && b ≡ true → a ≡ true
and_left true b e = refl
and_left false b e = e

pub and_right : (a b : Bool) → a && b ≡ true → b ≡ true
and_right true b e = e
and_right false b e = absurd (false≢true e)

pub and_both : (a b : Bool) → a ≡ true → b ≡ true → a && b ≡ true
and_both true b s t = t
and_both false b s t = s

pub and_cross : (a b c d : Bool) → (a && b) && (c && d) ≡ (a && c) && (b && d)
and_cross false b c d = refl
and_cross true true c d = refl
and_cross true false true d = refl
and_cross true false false d = refl

pub or_left : (a b : Bool) → a ≡ true → a || b ≡ true
or_left true b e = refl
or_left false b e = absurd (false≢true e)

pub or_right : (a b : Bool) → b ≡ true → a || b ≡ true
or_right true b e = refl
or_right false b e = e

-- neither of two refusals
pub or_passed : (a b : Bool) → a || b ≡ false → (a ≡ false) × (b ≡ false)
or_passed true b e = absurd (false≢true (sym e))
or_passed false b e = (refl, e)

pub not_passed : (b : Bool) → not b ≡ false → b ≡ true
not_passed true e = refl
not_passed false e = sym e

pub not_refused : (b : Bool) → not b ≡ true → b ≡ false
not_refused true e = sym e
not_refused false e = refl

-- tests that pass in the same cases
pub same_tests : (a b : Bool) → (a ≡ true → b ≡ true) → (b ≡ true → a ≡ true) → a ≡ b
same_tests true b f g = sym (f refl)
same_tests false true f g = g refl
same_tests false false f g = refl
