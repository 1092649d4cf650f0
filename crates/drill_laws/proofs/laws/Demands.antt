-- The laws of the drill, each for every input.
use Rattle.std.specs.Prelude.{◌≤◌}
use Rattle.drill_feeder.specs.Lines.{Memory, memory}
use Rattle.drill_core.specs.Feeding.{Drilling, drilling, fed_bytes, start_drilling}
use Rattle.drill_laws.proofs.laws.Sound.{sum_le}
use Rattle.drill_laws.proofs.laws.Stored.{stored}
use Rattle.drill_laws.proofs.laws.Turns.{SoundIn}
use Rattle.drill_laws.proofs.laws.Inside.{through_sound, ran_same}
use Rattle.drill_laws.proofs.laws.Whole.{SoundDrill, input_sound, begun_sound, opening_accepted}
use Rattle.drill_laws.specs.Demands.{call_memory, members_of, NoneLostIn, MessagesKept, RoundsEnd, OpensAll, OpeningsAccepted}

none_lost : (x : Memory) → SoundIn x → NoneLostIn x
none_lost (memory w m c) h = record { counted = h.sent; few = sum_le w 4 h.bound; kept = λ p lo hi k e. stored w m c p lo hi h k e }

call_sound : (x : Drilling) → SoundDrill x → SoundIn (call_memory x)
unfolding call_memory
call_sound (drilling w m d) h = begun_sound d.state.phase d.state.given w m d.state.counts h.few h.early h.sound

members_few : (x : Drilling) → SoundDrill x → (members_of x).n ≤ 4
unfolding members_of
members_few (drilling w m d) h = h.few

pub messages_kept : MessagesKept
unfolding MessagesKept
messages_kept input y t = none_lost y (through_sound (call_sound (fed_bytes start_drilling input) (input_sound input)) t)

pub rounds_end : RoundsEnd
unfolding RoundsEnd
rounds_end input t k l g =
    let x : Drilling = fed_bytes start_drilling input in
    let h : SoundDrill x = input_sound input in
    ran_same (members_of x) (members_few x h) t l k (call_memory x) g (call_sound x h)

opens_in : (x : Drilling) → SoundDrill x → OpensAll x
opens_in (drilling w m d) h = λ e p lo hi. opening_accepted w d.state.given p h.sound.words h.few (h.opens e) lo hi

pub openings_accepted : OpeningsAccepted
unfolding OpeningsAccepted
openings_accepted input = opens_in (fed_bytes start_drilling input) (input_sound input)
