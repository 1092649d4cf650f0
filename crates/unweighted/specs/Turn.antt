-- A turn (PROTOCOL, section 8): its outcome, the words after it, and the lent bytes.
use Rattle.std.specs.Prelude.{ℕ, not, cond, List, length, ltb, Result, Ok, Err}
use Rattle.settings.specs.declared.refusal.Refusal.{Refusal}
use Rattle.settings.specs.declared.refusal.Refusal.TheVariants as refusal
use Rattle.records.specs.Layout.{own_at}
use Rattle.records.specs.Words.{word}
use Rattle.records.specs.Records.{closed, version}
use Rattle.acts.specs.declared.Act.{Act}
use Rattle.wire.specs.Message.{encode, at_front}
use Rattle.turn.specs.Turn.{outcome_of, applied}
use Rattle.turn.specs.declared.Outcome.{Outcome}
use Rattle.turn.specs.declared.Outcome.TheVariants.{Idle, Sent, MovedOut, InForce}
use Rattle.unweighted.specs.Session.{settings_of, session_number, is_state}
use Rattle.unweighted.specs.Due.{due, commit_due}

-- what is due in a state, and the outcome of it
unfoldable pub due_in : List ℕ → Act
due_in s = due (settings_of s) s

unfoldable pub outcome_in : List ℕ → Outcome
outcome_in s = outcome_of (word s own_at) s (due_in s)

-- the bytes after an outcome: only those of the message are written (PROTOCOL 9.4); the values of a COMMIT are its set
unfoldable pub bytes_after : List ℕ → Outcome → List ℕ → List ℕ
bytes_after s Idle out = out
bytes_after s (Sent m) out = at_front (encode m (version s) (word s own_at) (session_number s) (commit_due (settings_of s) s)) out
bytes_after s MovedOut out = out
bytes_after s InForce out = out

-- the refusals of a turn in their order (PROTOCOL 9.19, 10.16): what a refusal gives, else what the turn gives. Its message needs 140 bytes.
unfoldable pub taking : {A : Type 0} → List ℕ → ℕ → (Refusal → A) → A → A
taking s room refused done =
    cond (not (is_state s)) (refused refusal.NoState)
    (cond (closed s) (refused refusal.Closed)
    (cond (ltb room 140) (refused refusal.Short)
    done))

-- the answer, the words and the bytes of a turn lent the bytes out; by a refusal words and bytes are untouched
unfoldable pub turn_outcome : List ℕ → ℕ → Result Outcome Refusal
turn_outcome s room = taking s room Err (Ok (outcome_in s))

unfoldable pub turn_words : List ℕ → ℕ → List ℕ
turn_words s room = taking s room (λ k. s) (applied s (due_in s))

unfoldable pub turn_bytes : List ℕ → List ℕ → List ℕ
turn_bytes s out = taking s (length out) (λ k. out) (bytes_after s (outcome_in s) out)
