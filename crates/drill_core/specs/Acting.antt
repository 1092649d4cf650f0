-- What the lines of a drill do.
use Rattle.std.specs.Prelude.{ℕ, cond, List, Option, Some, None}
use Rattle.drill_lines.specs.declared.Line.{Line}
use Rattle.drill_feeder.specs.Lines.{message_delivered, lied, Memory, memory, turned, ran}
use Rattle.drill_feeder.specs.declared.Counts.{Counts}
use Rattle.drill_core.specs.Judging.{is_setup, judged}
use Rattle.drill_core.specs.Preparing.{settings_given, coin_given, input_given, opened_all}
use Rattle.drill_core.specs.declared.Phase.{Phase}
use Rattle.drill_core.specs.declared.Phase.TheVariants as phase
use Rattle.drill_core.specs.declared.Given.{Given}
use Rattle.drill_core.specs.declared.State.{State}
use Rattle.drill_core.specs.declared.Call.{Call}
use Rattle.drill_core.specs.declared.Call.TheVariants as call
use Rattle.drill_core.specs.declared.Verdict.{Verdict}
use Rattle.drill_core.specs.declared.Verdict.TheVariants as verdict

-- the words once the C and P lines are over: the sessions are opened then, and only then
unfoldable pub begun : Phase → Given → List ℕ → List ℕ
begun x g w = cond (is_setup x) (opened_all g w) w

-- turns, deliveries of sent messages, liars' messages, and runs (PROTOCOL 15.6 to 15.9)
unfoldable pub called : Given → Call → Memory → Memory
called g (call.Turn p) x = turned p x
called g (call.Deliver k q) (memory w m c) = memory (message_delivered m k q w) m c
called g (call.Lie q l) (memory w m c) = memory (lied g.session q l w) m c
called g call.Run x = ran 401 g.members 1601 x

-- the words of the sessions, the bytes of the messages sent, and what is known beside them
pub data World : Type 0 where
  world : (words store : List ℕ) (state : State) → World

unfoldable pub setup_state : Given → Counts → State
setup_state g c = record { phase = phase.Setup; given = g; counts = c }

unfoldable pub bad_state : Given → Counts → State
bad_state g c = record { phase = phase.Bad; given = g; counts = c }

-- after a call
unfoldable pub running : Given → Memory → World
running g (memory w m c) = world w m (record { phase = phase.Running; given = g; counts = c })

-- after a line that comes to a verdict; nothing follows one that comes to none and cannot be taken
unfoldable pub acted : Option Verdict → World → World
acted None (world w m s) = world w m (bad_state s.given s.counts)
acted (Some (verdict.Settings n ta ts session)) (world w m s) = world w m (setup_state (settings_given n ta ts session) s.counts)
acted (Some (verdict.Coin i word)) (world w m s) = world w m (setup_state (coin_given s.given i word) s.counts)
acted (Some (verdict.Input p value)) (world w m s) = world w m (setup_state (input_given s.given p value) s.counts)
acted (Some (verdict.Call a)) (world w m s) = running s.given (called s.given a (memory (begun s.phase s.given w) m s.counts))

-- after a line
unfoldable pub taken : Option Line → World → World
taken l (world w m s) = acted (judged s l) (world w m s)
