-- A value that enough senders hold. The senders are 1 to n of the settings g; `held p` tells whether one is held from sender p, `value p`
-- which. Senders count by their weights (PROTOCOL 3.10).
use Rattle.std.specs.Prelude.{ℕ, Bool, true, false, ◌&&◌, cond, eqb, leb, Option, Some, None}
use Rattle.settings.specs.Settings.{weighed}
use Rattle.settings.specs.declared.Settings.{Settings}
use Rattle.quorum.specs.Lowest.{lowest}

-- the weight of the senders that hold v
unfoldable pub holders : Settings → (ℕ → Bool) → (ℕ → ℕ) → ℕ → ℕ
holders g held value v = weighed g (λ p. held p && eqb (value p) v)

-- sender p holds a value that senders of weight q hold
unfoldable pub leads : Settings → (ℕ → Bool) → (ℕ → ℕ) → ℕ → ℕ → Bool
leads g held value q p = held p && leb q (holders g held value (value p))

-- the value of a sender, and nothing of none
unfoldable pub value_of : (ℕ → ℕ) → ℕ → Option ℕ
value_of value p = cond (eqb p 0) None (Some (value p))

-- a value that senders of weight q hold; among several that of the lowest-numbered sender (PROTOCOL 4.1)
unfoldable pub leading : Settings → (ℕ → Bool) → (ℕ → ℕ) → ℕ → Option ℕ
leading g held value q = value_of value (lowest (leads g held value q) g.n)

-- the first, or else the second
abbrev pub or_output : Option ℕ → Option ℕ → Option ℕ
or_output (Some v) b = Some v
or_output None b = b

abbrev pub present : Option ℕ → Bool
present (Some v) = true
present None = false
