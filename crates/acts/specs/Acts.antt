-- What a turn can do, and the first thing due of several.
use Rattle.std.specs.Prelude.{ℕ, Bool, true, false, cond, eqb}
use Rattle.quorum.specs.Lowest.{lowest}
use Rattle.acts.specs.declared.Act.{Act}
use Rattle.acts.specs.declared.Act.TheVariants.{Idle, InForce, Commit, Send, Echo, Ready, Start, Relay, Aux, Move, Finish}

abbrev pub is_due : Act → Bool
is_due Idle = false
is_due InForce = true
is_due (Commit k) = true
is_due (Send v) = true
is_due (Echo i v) = true
is_due (Ready i v) = true
is_due (Start i b) = true
is_due (Relay i r b) = true
is_due (Aux i r b) = true
is_due (Move i r v) = true
is_due (Finish i b) = true

-- the first, unless that is idle
unfoldable pub or_act : Act → Act → Act
or_act a b = cond (is_due a) a b

-- f at a number, and idle at none
unfoldable pub act_at : (ℕ → Act) → ℕ → Act
act_at f p = cond (eqb p 0) Idle (f p)

-- of f 1 to f n the first that is due, the lowest instance first (PROTOCOL 8.1)
unfoldable pub first_act : (ℕ → Act) → ℕ → Act
first_act f n = act_at f (lowest (λ i. is_due (f i)) n)
