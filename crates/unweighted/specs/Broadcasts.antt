-- Rules 4 and 5 of the turn order, and the output of a broadcast: PROTOCOL, section 4, with counts in place of weights (13.4).
-- The senders are 1 to n; `held p` tells whether a message is held from sender p, `value p` its value.
use Rattle.std.specs.Prelude.{ℕ, Bool, ◌&&◌, cond, List, eqb, leb, Option}
use Rattle.quorum.specs.Total.{count}
use Rattle.quorum.specs.Lowest.{lowest}
use Rattle.records.specs.Records.{ready_sent, echo_held, echo_value, ready_held, ready_value}
use Rattle.acts.specs.Acts.{first_act}
use Rattle.acts.specs.declared.Act.{Act}
use Rattle.acts.specs.declared.Act.TheVariants.{Idle}
use Rattle.broadcasts.specs.Broadcasts.{echo_act, ready_of}
use Rattle.broadcasts.specs.Leading.{value_of, or_output}
use Rattle.unweighted.specs.Settings.{Settings, quorum, repeat}

-- how many senders hold v
unfoldable pub holders : (ℕ → Bool) → (ℕ → ℕ) → ℕ → ℕ → ℕ
holders held value v n = count (λ p. held p && eqb (value p) v) n

-- sender p holds a value that q senders hold
unfoldable pub leads : (ℕ → Bool) → (ℕ → ℕ) → ℕ → ℕ → ℕ → Bool
leads held value n q p = held p && leb q (holders held value (value p) n)

-- a value that q senders hold; among several that of the lowest-numbered sender (PROTOCOL 4.1)
unfoldable pub leading : (ℕ → Bool) → (ℕ → ℕ) → ℕ → ℕ → Option ℕ
leading held value n q = value_of value (lowest (leads held value n q) n)

-- a broadcast has output v where READYs of v are a quorum (PROTOCOL 4.3)
unfoldable pub output : Settings → List ℕ → ℕ → Option ℕ
output g s i = leading (ready_held s i) (ready_value s i) g.n (quorum g)

-- the leading value of the ECHOs at the quorum, or else of the READYs at the repeat threshold (PROTOCOL 4.5)
unfoldable pub ready_due : Settings → List ℕ → ℕ → Option ℕ
ready_due g s i =
    or_output (leading (echo_held s i) (echo_value s i) g.n (quorum g)) (leading (ready_held s i) (ready_value s i) g.n (repeat g))

-- one READY in each instance (PROTOCOL 4.5)
unfoldable pub ready_act : Settings → List ℕ → ℕ → Act
ready_act g s i = cond (ready_sent s i) Idle (ready_of i (ready_due g s i))

-- rule 4, lower instances first
unfoldable pub echo_rule : Settings → List ℕ → Act
echo_rule g s = first_act (echo_act s) g.n

-- rule 5, lower instances first
unfoldable pub ready_rule : Settings → List ℕ → Act
ready_rule g s = first_act (ready_act g s) g.n
