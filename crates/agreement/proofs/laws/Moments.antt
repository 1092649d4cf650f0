-- Moments stay in a list that grows, and one of two stands before the other.
use Rattle.std.specs.Prelude.{List, [], ◌∷◌, ◌⊎◌, ◌≡◌, refl}
use Rattle.std.proofs.Common.{inl, inr}
use Rattle.agreement.specs.Moments.{Within, Before, now, after}

module _ {A : Type 0} where
  -- the moment before
  pub within_tail : (c : A) {ds cs : List A} → Within (c ∷ ds) cs → Within ds cs
  within_tail c now = after c now
  within_tail c (after d w) = after d (within_tail c w)

  pub within_trans : {ds cs bs : List A} → Within ds cs → Within cs bs → Within ds bs
  within_trans w now = w
  within_trans w (after c v) = after c (within_trans w v)

  pub before_within : {ds cs : List A} → Before ds cs → Within ds cs
  before_within b = within_tail b.next b.within

  pub before_now : (c : A) (ds : List A) → Before ds (c ∷ ds)
  before_now c ds = record { next = c; within = now }

  pub before_after : (c : A) {ds cs : List A} → Before ds cs → Before ds (c ∷ cs)
  before_after c b = record { next = b.next; within = after c b.within }

  -- the newest moment, or an earlier one
  pub within_cases : (c : A) (cs : List A) {ds : List A} → Within ds (c ∷ cs) → (ds ≡ c ∷ cs) ⊎ Within ds cs
  within_cases c cs now = inl refl
  within_cases c cs (after d w) = inr w

  pub within_none : {d : A} {ds : List A} → Within (d ∷ ds) [] → ⊥
  within_none = elim [ ]
