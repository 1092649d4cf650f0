-- Delivery: the verdict on a message, and the words after it. A delivery records one message that came over a link, and with an EST of 1 whether 1
-- was accepted before 0; a FINISH may decide its vote. It does nothing else (PROTOCOL 3.7, 9.17, 9.18).
use Rattle.std.specs.Prelude.{ℕ, Bool, ◌||◌, ◌&&◌, not, cond, List, eqb, drop, Result, Ok, Err}
use Rattle.settings.specs.declared.refusal.Refusal.TheVariants as refusal
use Rattle.records.specs.Records.{closed, version, send_held, echo_held, ready_held, est_held, aux_held, finish_held}
use Rattle.records.specs.Writing.{with_send, with_echo, with_ready, with_est, with_aux, with_one_first, with_finish, with_commit, with_decision}
use Rattle.commits.specs.Commits.{commit_held}
use Rattle.votes.specs.Votes.{one_alone}
use Rattle.votes.specs.Finishing.{finish_decides}
use Rattle.settings.specs.declared.Settings.{Settings}
use Rattle.session.specs.Session.{is_state, settings_of, session_of}
use Rattle.wire.specs.Bytes.{value_at}
use Rattle.wire.specs.Reading.{read_message}
use Rattle.wire.specs.declared.Message.{Message}
use Rattle.wire.specs.declared.Message.TheVariants.{Send, Echo, Ready, Est, Aux, Commit, Finish}
use Rattle.settings.specs.declared.refusal.Refusal.{Refusal}

-- the place of a message of sender p is taken, as the table of places has it (PROTOCOL 3.1 to 3.5, 3.12)
unfoldable pub place_held : List ℕ → ℕ → Message → Bool
place_held s p (Send i v) = send_held s i
place_held s p (Echo i v) = echo_held s i p
place_held s p (Ready i v) = ready_held s i p
place_held s p (Est i r b) = est_held s i r b p
place_held s p (Aux i r b) = aux_held s i r 0 p || aux_held s i r 1 p
place_held s p (Commit k) = commit_held s p
place_held s p (Finish i b) = finish_held s i 0 p || finish_held s i 1 p

-- the refusals 2 to 7, then 11 where the message's place is taken (PROTOCOL 3.6)
unfoldable pub judged : List ℕ → ℕ → Result Message Refusal → Result Message Refusal
judged s p (Err k) = Err k
judged s p (Ok m) = cond (place_held s p m) (Err refusal.Held) (Ok m)

-- the refusals of a delivery in their order, apart from 8 for its line: the first one, or the message (PROTOCOL 10.15)
unfoldable pub verdict : List ℕ → ℕ → List ℕ → Result Message Refusal
verdict s link b =
    cond (not (is_state s)) (Err refusal.NoState)
    (cond (closed s) (Err refusal.Closed)
    (judged s link (read_message (version s) (session_of s).settings.n (session_of s).number link b)))

-- where an EST of 1 leaves 1 accepted and 0 not, 1 was complete before 0, and the state records it, for any round (PROTOCOL 5.19)
unfoldable pub first_noted : Settings → List ℕ → ℕ → ℕ → ℕ → List ℕ
first_noted g s i r b = cond (eqb b 1 && one_alone g s i r) (with_one_first s i r) s

-- vote i is decided b where the FINISHes of b that are held do so (PROTOCOL 5.17)
unfoldable pub finish_settled : Settings → List ℕ → ℕ → ℕ → List ℕ
finish_settled g s i b = cond (finish_decides g s i b) (with_decision s i b) s

-- the state with a message of sender p recorded, with an EST of 1 whether 1 was accepted before 0, and with a FINISH the decision that it
-- completes; the values of a COMMIT are in the part v that starts at byte 12
unfoldable pub recorded : List ℕ → ℕ → Message → List ℕ → List ℕ
recorded s p (Send i x) v = with_send s i x
recorded s p (Echo i x) v = with_echo s i p x
recorded s p (Ready i x) v = with_ready s i p x
recorded s p (Est i r b) v = first_noted (settings_of s) (with_est s i r b p) i r b
recorded s p (Aux i r b) v = with_aux s i r b p
recorded s p (Commit k) v = with_commit s p (value_at v) k
recorded s p (Finish i b) v = finish_settled (settings_of s) (with_finish s i b p) i b

-- the answer of a verdict
unfoldable pub answer_of : Result Message Refusal → Result (Unit {0}) Refusal
answer_of (Err k) = Err k
answer_of (Ok m) = Ok tt

-- the words after a verdict: a refusal changes none (PROTOCOL 9.3)
unfoldable pub words_after : Result Message Refusal → List ℕ → ℕ → List ℕ → List ℕ
words_after (Err k) s link b = s
words_after (Ok m) s link b = recorded s link m (drop 12 b)

-- the answer and the words of a delivery
unfoldable pub deliver_answer : List ℕ → ℕ → List ℕ → Result (Unit {0}) Refusal
deliver_answer s link b = answer_of (verdict s link b)

unfoldable pub delivered : List ℕ → ℕ → List ℕ → List ℕ
delivered s link b = words_after (verdict s link b) s link b
