-- FINISHes, by which votes wind up early in sessions of version 2 (PROTOCOL 5.14 to 5.17). Senders count by their weights.
use Rattle.std.specs.Prelude.{ℕ, Bool, ◌&&◌, not, cond, List, leb}
use Rattle.settings.specs.Settings.{weighed, relay, accept}
use Rattle.settings.specs.declared.Settings.{Settings}
use Rattle.records.specs.Records.{finish_held, finish_sent, decided_zero, decided_one, decided}
use Rattle.acts.specs.declared.Act.{Act}
use Rattle.acts.specs.declared.Act.TheVariants.{Idle, Finish}

-- the weight of the senders whose FINISHes of b are held in vote i
unfoldable pub finish_count : Settings → List ℕ → ℕ → ℕ → ℕ
finish_count g s i b = weighed g (finish_held s i b)

-- the FINISHes of b reach the relay threshold (PROTOCOL 5.15)
unfoldable pub repeated : Settings → List ℕ → ℕ → ℕ → Bool
repeated g s i b = leb (relay g) (finish_count g s i b)

-- without a decision FINISH carries a value that is repeated, 0 where both are (PROTOCOL 5.15)
unfoldable pub finish_repeated : Settings → List ℕ → ℕ → Act
finish_repeated g s i = cond (repeated g s i 0) (Finish i 0) (cond (repeated g s i 1) (Finish i 1) Idle)

-- where a decision stands FINISH carries it; a vote marked as decided both ways is in S, so that is 1 (PROTOCOL 5.15, 17.18)
unfoldable pub finish_value : Settings → List ℕ → ℕ → Act
finish_value g s i = cond (decided_one s i) (Finish i 1) (cond (decided_zero s i) (Finish i 0) (finish_repeated g s i))

-- one FINISH in each vote, whatever its round (PROTOCOL 5.14)
unfoldable pub finish_act : Settings → List ℕ → ℕ → Act
finish_act g s i = cond (finish_sent s i) Idle (finish_value g s i)

-- the vote has sent its FINISH and has a decision: it does nothing more (PROTOCOL 5.16)
unfoldable pub finished : List ℕ → ℕ → Bool
finished s i = finish_sent s i && decided s i

-- FINISHes of b decide vote i: no decision stands, and they reach the accept threshold (PROTOCOL 5.17)
unfoldable pub finish_decides : Settings → List ℕ → ℕ → ℕ → Bool
finish_decides g s i b = not (decided s i) && leb (accept g) (finish_count g s i b)
