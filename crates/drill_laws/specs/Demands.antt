-- The laws of the drill, each for every input.
use Rattle.std.specs.Prelude.{ℕ, ◌-◌, ◌≤◌, true, List, ◌≡◌, length, Ok}
use Rattle.records.specs.Words.{word}
use Rattle.wire.specs.declared.Message.{Message}
use Rattle.opening.specs.Opening.{open_answer}
use Rattle.turn.specs.Turn.{turn_outcome}
use Rattle.drill_feeder.specs.Parts.{state_of}
use Rattle.drill_feeder.specs.Lines.{Memory, memory, ran}
use Rattle.drill_feeder.specs.declared.Counts.{Counts}
use Rattle.drill_feeder.specs.declared.Members.{Members}
use Rattle.drill_core.specs.Judging.{after_settings}
use Rattle.drill_core.specs.Preparing.{arguments_with}
use Rattle.drill_core.specs.Acting.{begun}
use Rattle.drill_core.specs.Feeding.{Drilling, drilling, fed_bytes, start_drilling}
use Rattle.drill_laws.specs.Sound.{all_turns}
use Rattle.drill_laws.specs.Stored.{Stored}
use Rattle.drill_laws.specs.Inside.{Through}
use Rattle.turn.specs.declared.Outcome.TheVariants as outcome

-- the memory that a call of the next line acts on: the sessions are open
unfoldable pub call_memory : Drilling → Memory
call_memory (drilling w m d) = memory (begun d.state.phase d.state.given w) m d.state.counts

unfoldable pub members_of : Drilling → Members
members_of (drilling w m d) = d.state.given.members

-- the messages sent are no more than the turns that the sessions have counted, which are at most 1,600; and whatever a turn of a session
-- lent 140 bytes would send is stored
pub record NoneLost (w m : List ℕ) (c : Counts) : Type 0 where
  pub counted : c.sent ≤ all_turns w 4
  pub few : all_turns w 4 ≤ 1600
  pub kept : (p : ℕ) → 1 ≤ p → p ≤ 4 → (k : Message) → turn_outcome (state_of w p) 140 ≡ Ok (outcome.Sent k) → Stored w m c p k

abbrev pub NoneLostIn : Memory → Type 0
NoneLostIn (memory w m c) = NoneLost w m c

-- after any input, and then after any turns and deliveries, inside an R too
unfoldable pub MessagesKept : Type 0
MessagesKept = (input : List ℕ) (y : Memory) → Through (call_memory (fed_bytes start_drilling input)) y → NoneLostIn y

-- the numbers of turns and rounds that R is given are never the reason to stop: with more of them it does the same
unfoldable pub RoundsEnd : Type 0
RoundsEnd = (input : List ℕ) (t k : ℕ) → 401 ≤ t → 1601 ≤ k →
    ran t (members_of (fed_bytes start_drilling input)) k (call_memory (fed_bytes start_drilling input))
    ≡ ran 401 (members_of (fed_bytes start_drilling input)) 1601 (call_memory (fed_bytes start_drilling input))

-- the opening of any of 1 to n with what the N, C and P lines gave is accepted
abbrev pub OpensAll : Drilling → Type 0
OpensAll (drilling w m d) =
    after_settings d.state.phase ≡ true → (p : ℕ) → 1 ≤ p → p ≤ d.state.given.members.n →
    open_answer (length (state_of w p)) (arguments_with d.state.given p (word d.state.given.inputs (p - 1)) d.state.given.coins) ≡ Ok tt

unfoldable pub OpeningsAccepted : Type 0
OpeningsAccepted = (input : List ℕ) → OpensAll (fed_bytes start_drilling input)
