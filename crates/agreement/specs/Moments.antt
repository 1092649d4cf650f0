-- Moments of a list that grows at its front: of a history, and of a list of calls.
use Rattle.std.specs.Prelude.{List, ◌∷◌}

-- cs is ds, or ds with later ones in front
pub data Within {A : Type 0} (ds : List A) : List A → Type 0 where
  now : Within ds ds
  after : {cs : List A} (c : A) → Within ds cs → Within ds (c ∷ cs)

-- ds is strictly before cs
pub record Before {A : Type 0} (ds cs : List A) : Type 0 where
  pub next : A
  pub within : Within (next ∷ ds) cs
