-- The calls of a session and the numbers of its opening, each by its place.
use Rattle.std.specs.Prelude.{ℕ, ◌+◌, ◌-◌, cond, List, [], ◌∷◌, eqb, length, get_or, Option, Some, None}
use Rattle.opening.specs.Arguments.{Arguments}
use Rattle.calls.specs.Machine.{Call}
use Rattle.calls.specs.Engine.{engine}

-- call k of a list of calls, from 1 on, in the order in which they are made: the newest stands first in the list
unfoldable pub call_at : List (Call engine) → ℕ → Option (Call engine)
call_at [] k = None
call_at (c ∷ cs) k = cond (eqb k (length cs + 1)) (Some c) (call_at cs k)

-- the numbers of an opening, in the order of its arguments, up to its coin words
unfoldable pub opening_numbers : Arguments → List ℕ
opening_numbers o = o.n ∷ o.ta ∷ o.ts ∷ o.own ∷ o.session ∷ o.input ∷ o.coins

-- number k of an opening, from 1 on; 0 where there is none
unfoldable pub setting_at : Arguments → ℕ → ℕ
setting_at o k = cond (eqb k 0) 0 (get_or (opening_numbers o) (k - 1) 0)
