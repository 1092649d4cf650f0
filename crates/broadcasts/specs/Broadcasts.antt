-- Rules 4 and 5 of the turn order, and the output of a broadcast: PROTOCOL, section 4.
use Rattle.std.specs.Prelude.{ℕ, cond, List, Option, Some, None}
use Rattle.settings.specs.Settings.{quorum, repeat}
use Rattle.settings.specs.declared.Settings.{Settings}
use Rattle.records.specs.Records.{echo_sent, ready_sent, send_held, send_value, echo_held, echo_value, ready_held, ready_value}
use Rattle.acts.specs.Acts.{first_act}
use Rattle.acts.specs.declared.Act.{Act}
use Rattle.acts.specs.declared.Act.TheVariants.{Idle, Echo, Ready}
use Rattle.broadcasts.specs.Leading.{leading, or_output}

-- a broadcast has output v where READYs of v weigh the quorum (PROTOCOL 4.3)
unfoldable pub output : Settings → List ℕ → ℕ → Option ℕ
output g s i = leading g (ready_held s i) (ready_value s i) (quorum g)

-- one ECHO in each instance whose SEND is held, with its value (PROTOCOL 4.4)
unfoldable pub echo_act : List ℕ → ℕ → Act
echo_act s i = cond (echo_sent s i) Idle (cond (send_held s i) (Echo i (send_value s i)) Idle)

-- the leading value of the ECHOs at the quorum, or else of the READYs at the repeat threshold (PROTOCOL 4.5)
unfoldable pub ready_due : Settings → List ℕ → ℕ → Option ℕ
ready_due g s i =
    or_output (leading g (echo_held s i) (echo_value s i) (quorum g)) (leading g (ready_held s i) (ready_value s i) (repeat g))

abbrev pub ready_of : ℕ → Option ℕ → Act
ready_of i (Some v) = Ready i v
ready_of i None = Idle

-- one READY in each instance (PROTOCOL 4.5)
unfoldable pub ready_act : Settings → List ℕ → ℕ → Act
ready_act g s i = cond (ready_sent s i) Idle (ready_of i (ready_due g s i))

-- rule 4, lower instances first
unfoldable pub echo_rule : Settings → List ℕ → Act
echo_rule g s = first_act (echo_act s) g.n

-- rule 5, lower instances first
unfoldable pub ready_rule : Settings → List ℕ → Act
ready_rule g s = first_act (ready_act g s) g.n
