-- The values of a COMMIT as a list of its words.
use Rattle.std.specs.Prelude.{ℕ, zero, suc, List, ◌∷◌, ◌≡◌, refl, drop}
use Rattle.std.proofs.Common.{ap, ◌∙◌, arith}
use Rattle.commits.specs.laws.Sets.{listed, listed_agree}
use Rattle.wire.specs.Bytes.{value_at, values}
use Rattle.wire.proofs.Laws.{value_drop}

pub values_listed : (k : ℕ) (v : List ℕ) → values k v ≡ listed (value_at v) k
unfolding values listed
values_listed zero v = refl
values_listed (suc k) v =
    ap (λ (xs : List ℕ). value_at v 1 ∷ xs)
    (values_listed k (drop 8 v) ∙ listed_agree (value_at (drop 8 v)) (λ j. value_at v (suc j)) k (λ j low high. value_drop v 1 j low ∙ ap (value_at v) (omega arith)))
