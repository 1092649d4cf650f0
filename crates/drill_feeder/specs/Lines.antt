-- What the lines of a drill do: turns, deliveries of sent messages, liars' messages, and runs (PROTOCOL 15.6 to 15.9).
use Rattle.std.specs.Prelude.{ℕ, zero, suc, ◌+◌, ◌-◌, Bool, true, false, cond, List, [], ◌∷◌, length, ltb, Result, Ok, Err}
use Rattle.quorum.specs.Marks.{mark}
use Rattle.wire.specs.Message.{header_with, message_bytes}
use Rattle.opening.specs.Given.{ones_given}
use Rattle.opening.specs.Arguments.{Arguments, arguments}
use Rattle.opening.specs.Opening.{opened}
use Rattle.delivery.specs.Delivery.{delivered}
use Rattle.turn.specs.Turn.{turn_outcome, turn_words, turn_bytes}
use Rattle.turn.specs.declared.Outcome.{Outcome}
use Rattle.turn.specs.declared.Outcome.TheVariants as outcome
use Rattle.drill_feeder.specs.Parts.{state_of, with_state, room_for, with_room, message_at, sender_at}
use Rattle.drill_feeder.specs.Steps.{steps}
use Rattle.drill_feeder.specs.declared.Counts.{Counts}
use Rattle.drill_feeder.specs.declared.Members.{Members}
use Rattle.drill_feeder.specs.declared.Lie.{Lie}
use Rattle.settings.specs.declared.refusal.Refusal.{Refusal}

-- drills are of version 1
abbrev pub DRILL_VERSION : ℕ
DRILL_VERSION = 1

-- the arguments of an opening: the version is 1, weights are 1, and coins are printed (PROTOCOL 15.3)
abbrev pub drill_arguments : (n ta ts p session input : ℕ) → List ℕ → Arguments
drill_arguments n ta ts p session input coins = arguments DRILL_VERSION n ta ts p session input coins (ones_given n) 0

-- the words after the opening of a session, at its own number
unfoldable pub opened_at : List ℕ → Arguments → List ℕ
opened_at w o = with_state w o.own (opened (state_of w o.own) o)

-- the words after bytes b were delivered to q over a link; a refused call changes and prints nothing (PROTOCOL 15.13)
unfoldable pub delivered_to : List ℕ → (q link : ℕ) → List ℕ → List ℕ
delivered_to w q link b = with_state w q (delivered (state_of w q) link b)

-- `D k q`: message k is delivered to q over the link of its sender (PROTOCOL 15.7)
unfoldable pub message_delivered : List ℕ → (k q : ℕ) → List ℕ → List ℕ
message_delivered m k q w = delivered_to w q (sender_at m k) (message_at m k)

-- `L p q kind instance round value`: a message of liar p, with one value, is delivered to q over the link of p; it is no sent message
-- (PROTOCOL 15.8, 15.12, 15.13)
unfoldable pub lied : ℕ → ℕ → Lie → List ℕ → List ℕ
lied session q l w = delivered_to w q l.p (message_bytes (header_with DRILL_VERSION l.kind l.p l.instance l.round 1 session) (l.value ∷ []))

-- the words of the sessions, the messages sent, and the two counts
pub data Memory : Type 0 where
  memory : (words store : List ℕ) (counts : Counts) → Memory

-- the store has 1,600 places
unfoldable pub more : ℕ → ℕ
more sent = cond (ltb sent 1600) (sent + 1) sent

-- a turn that answers sent has sent one message more
unfoldable pub message_counted : Result Outcome Refusal → Counts → Counts
message_counted (Err k) c = c
message_counted (Ok outcome.Idle) c = c
message_counted (Ok (outcome.Sent m)) c = record { sent = more c.sent; offered = c.offered }
message_counted (Ok outcome.MovedOut) c = c
message_counted (Ok outcome.InForce) c = c

-- the outcome of a turn of p
unfoldable pub outcome_at : ℕ → Memory → Result Outcome Refusal
outcome_at p (memory w m c) = turn_outcome (state_of w p) (length (room_for m c.sent))

-- `T p`: a turn, whose message, if it has one, is stored as the next (PROTOCOL 15.6, 15.12)
unfoldable pub turned : ℕ → Memory → Memory
turned p (memory w m c) =
    memory
    (with_state w p (turn_words (state_of w p) (length (room_for m c.sent))))
    (with_room m c.sent (turn_bytes (state_of w p) (room_for m c.sent)))
    (message_counted (turn_outcome (state_of w p) (length (room_for m c.sent))) c)

-- another turn follows unless this one is idle, refused or puts a set in force (PROTOCOL 15.14)
unfoldable pub goes_on : Result Outcome Refusal → Bool
goes_on (Err k) = false
goes_on (Ok outcome.Idle) = false
goes_on (Ok (outcome.Sent m)) = true
goes_on (Ok outcome.MovedOut) = true
goes_on (Ok outcome.InForce) = false

unfoldable pub turn_goes_on : ℕ → Memory → Bool
turn_goes_on p x = goes_on (outcome_at p x)

-- turns until one is idle, refused or puts a set in force, so many at the most (PROTOCOL 15.14)
unfoldable pub sweep : ℕ → ℕ → Memory → Memory
sweep p zero x = x
sweep p (suc k) x = cond (turn_goes_on p x) (sweep p k (turned p x)) (turned p x)

unfoldable pub sweep_if : (turns honest p : ℕ) → Memory → Memory
sweep_if t honest p x = cond (mark honest p) (sweep p t x) x

-- each honest one, the lowest first, takes such turns (PROTOCOL 15.14)
unfoldable pub swept : (turns : ℕ) → Members → Memory → Memory
swept t g x = steps (sweep_if t g.honest) g.n x

-- the lowest message first, for each message the lowest number first (PROTOCOL 15.14): message k to q, to all, and message done + j to all
unfoldable pub offer_to : ℕ → List ℕ → (k q : ℕ) → List ℕ → List ℕ
offer_to honest m k q w = cond (mark honest q) (message_delivered m k q w) w

unfoldable pub offer : Members → List ℕ → ℕ → List ℕ → List ℕ
offer g m k w = steps (offer_to g.honest m k) g.n w

unfoldable pub offer_next : Members → List ℕ → (done j : ℕ) → List ℕ → List ℕ
offer_next g m done j w = offer g m (done + j) w

-- messages that no R has delivered go to all honest ones (PROTOCOL 15.14)
unfoldable pub offered : Members → Memory → Memory
offered g (memory w m c) =
    memory (steps (offer_next g m c.offered) (c.sent - c.offered) w) m (record { sent = c.sent; offered = c.sent })

unfoldable pub any_left : Memory → Bool
any_left (memory w m c) = ltb c.offered c.sent

-- R repeats its two steps until no message is left, so many rounds at the most, with so many turns of each session (PROTOCOL 15.14)
unfoldable pub ran : (turns : ℕ) → Members → (rounds : ℕ) → Memory → Memory
ran t g zero x = x
ran t g (suc k) x = cond (any_left (swept t g x)) (ran t g k (offered g (swept t g x))) (swept t g x)
