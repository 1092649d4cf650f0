-- A turn (PROTOCOL, section 8): its outcome, the words after it, and the lent bytes.
use Rattle.std.specs.Prelude.{ℕ, ◌+◌, Bool, ◌&&◌, not, cond, List, length, ltb, Result, Ok, Err}
use Rattle.settings.specs.declared.refusal.Refusal.TheVariants as refusal
use Rattle.settings.specs.Settings.{round_limit}
use Rattle.records.specs.Records.{turn_count, closed, coin, decided, version}
use Rattle.records.specs.Writing.{with_turn_count, with_round, with_decision, with_closed, with_commit_sent, with_send_sent, with_echo_sent, with_ready_sent, with_est_sent, with_aux_sent, with_finish_sent}
use Rattle.acts.specs.Acts.{is_due}
use Rattle.acts.specs.declared.Act.{Act}
use Rattle.acts.specs.declared.Act.TheVariants.{Idle, InForce, Commit, Send, Echo, Ready, Start, Relay, Aux, Move, Finish}
use Rattle.acts.specs.declared.View.{View}
use Rattle.votes.specs.Votes.{estimate, decides}
use Rattle.session.specs.Session.{is_state, session_of}
use Rattle.session.specs.declared.Session.{Session}
use Rattle.wire.specs.Message.{length_of, encode, at_front}
use Rattle.wire.specs.declared.Message.TheVariants as message
use Rattle.turn.specs.Due.{due, commit_due}
use Rattle.turn.specs.declared.Outcome.{Outcome}
use Rattle.turn.specs.declared.Outcome.TheVariants as outcome
use Rattle.settings.specs.declared.refusal.Refusal.{Refusal}

-- a move goes one round on and sends an EST there, but none in round 33 (PROTOCOL 5.11)
unfoldable pub move_outcome : List ℕ → ℕ → ℕ → View → Outcome
move_outcome s i r v = cond (ltb r round_limit) (outcome.Sent (message.Est i (r + 1) (estimate (coin s i r) v))) outcome.MovedOut

-- The outcome of an act of concentrator own in the state s: idle, sent, moved out of round 32 or in force (PROTOCOL 8.9). Starting and moving
-- send the EST of the round that is entered.
unfoldable pub outcome_of : ℕ → List ℕ → Act → Outcome
outcome_of own s Idle = outcome.Idle
outcome_of own s InForce = outcome.InForce
outcome_of own s (Commit k) = outcome.Sent (message.Commit k)
outcome_of own s (Send v) = outcome.Sent (message.Send own v)
outcome_of own s (Echo i v) = outcome.Sent (message.Echo i v)
outcome_of own s (Ready i v) = outcome.Sent (message.Ready i v)
outcome_of own s (Start i b) = outcome.Sent (message.Est i 1 b)
outcome_of own s (Relay i r b) = outcome.Sent (message.Est i r b)
outcome_of own s (Aux i r b) = outcome.Sent (message.Aux i r b)
outcome_of own s (Move i r v) = move_outcome s i r v
outcome_of own s (Finish i b) = outcome.Sent (message.Finish i b)

-- the length of the message that is sent, in bytes; 0 where none is
abbrev pub sent_length : Result Outcome Refusal → ℕ
sent_length (Err k) = 0
sent_length (Ok outcome.Idle) = 0
sent_length (Ok (outcome.Sent m)) = length_of m
sent_length (Ok outcome.MovedOut) = 0
sent_length (Ok outcome.InForce) = 0

-- the count has every turn since the opening that was neither idle nor refused (PROTOCOL 8.19)
unfoldable pub with_turn_counted : List ℕ → List ℕ
with_turn_counted s = with_turn_count s (turn_count s + 1)

-- round r of vote i is entered, and its EST is sent: round 33 has none
unfoldable pub entered : List ℕ → ℕ → ℕ → ℕ → List ℕ
entered s i r b = cond (ltb round_limit r) (with_round s i r) (with_est_sent (with_round s i r) i r b)

-- a single value seen is decided where it is the coin and nothing was decided before (PROTOCOL 5.9, 5.10)
unfoldable pub new_decision : List ℕ → ℕ → ℕ → View → Bool
new_decision s i r v = not (decided s i) && decides (coin s i r) v

unfoldable pub move_decided : List ℕ → ℕ → ℕ → View → List ℕ
move_decided s i r v = cond (new_decision s i r v) (with_decision s i (estimate (coin s i r) v)) s

-- a move goes one round on and sends an EST there, but none in round 33 (PROTOCOL 8.16, 8.17)
unfoldable pub moved : List ℕ → ℕ → ℕ → View → List ℕ
moved s i r v = entered (move_decided s i r v) i (r + 1) (estimate (coin s i r) v)

-- the state in which an act is marked as done
unfoldable pub done : List ℕ → Act → List ℕ
done s Idle = s
done s InForce = with_closed s
done s (Commit k) = with_commit_sent s
done s (Send v) = with_send_sent s
done s (Echo i v) = with_echo_sent s i
done s (Ready i v) = with_ready_sent s i
done s (Start i b) = entered s i 1 b
done s (Relay i r b) = with_est_sent s i r b
done s (Aux i r b) = with_aux_sent s i r
done s (Move i r v) = moved s i r v
done s (Finish i b) = with_finish_sent s i

-- the state after an act; an idle turn is not counted
unfoldable pub applied : List ℕ → Act → List ℕ
applied s a = cond (is_due a) (done (with_turn_counted s) a) s

-- the refusals of a turn in their order: the first one, or the session. Its message needs 140 bytes (PROTOCOL 9.19, 10.16).
unfoldable pub admits : List ℕ → ℕ → Result Session Refusal
admits s room =
    cond (not (is_state s)) (Err refusal.NoState)
    (cond (closed s) (Err refusal.Closed)
    (cond (ltb room 140) (Err refusal.Short)
    (Ok (session_of s))))

-- the bytes after an outcome: only those of the message are written (PROTOCOL 9.4); the values of a COMMIT are its set
unfoldable pub bytes_after : Session → List ℕ → Outcome → List ℕ → List ℕ
bytes_after x s outcome.Idle out = out
bytes_after x s (outcome.Sent m) out = at_front (encode m (version s) x.own x.number (commit_due x.settings s)) out
bytes_after x s outcome.MovedOut out = out
bytes_after x s outcome.InForce out = out

-- what a refusal gives, or the session's turn
unfoldable pub taking : {A : Type 0} → Result Session Refusal → (Refusal → A) → (Session → A) → A
taking (Err k) refused taken = refused k
taking (Ok x) refused taken = taken x

-- The answer, the words and the bytes of a turn lent the bytes out. A refusal changes no word and no lent byte (PROTOCOL 9.3).
unfoldable pub turn_outcome : List ℕ → ℕ → Result Outcome Refusal
turn_outcome s room = taking (admits s room) Err (λ x. Ok (outcome_of x.own s (due x.settings s)))

unfoldable pub turn_words : List ℕ → ℕ → List ℕ
turn_words s room = taking (admits s room) (λ k. s) (λ x. applied s (due x.settings s))

unfoldable pub turn_bytes : List ℕ → List ℕ → List ℕ
turn_bytes s out = taking (admits s (length out)) (λ k. out) (λ x. bytes_after x s (outcome_of x.own s (due x.settings s)) out)
