-- Delivery: the verdict on a message, and the words after it. A delivery records one message that came over a link, and with an EST of 1 whether 1
-- was accepted before 0; a FINISH may decide its vote. It does nothing else (PROTOCOL 3.7, 9.17, 9.18).
use Rattle.std.specs.Prelude.{ℕ, ◌&&◌, not, cond, List, eqb, drop, Result, Ok, Err}
use Rattle.settings.specs.declared.refusal.Refusal.TheVariants as refusal
use Rattle.records.specs.Layout.{n_at}
use Rattle.records.specs.Words.{word}
use Rattle.records.specs.Records.{closed, version}
use Rattle.records.specs.Writing.{with_est, with_one_first, with_finish, with_decision}
use Rattle.wire.specs.Reading.{read_message}
use Rattle.wire.specs.declared.Message.{Message}
use Rattle.wire.specs.declared.Message.TheVariants.{Send, Echo, Ready, Est, Aux, Commit, Finish}
use Rattle.delivery.specs.Delivery.{judged, answer_of}
use Rattle.delivery.specs.Delivery as weighted
use Rattle.unweighted.specs.Session.{settings_of, session_number, is_state}
use Rattle.unweighted.specs.Votes.{one_alone, finish_decides}
use Rattle.settings.specs.declared.refusal.Refusal.{Refusal}

-- the refusals of a delivery in their order, apart from 8 for its line: the first one, or the message (PROTOCOL 10.15)
unfoldable pub verdict : List ℕ → ℕ → List ℕ → Result Message Refusal
verdict s link b =
    cond (not (is_state s)) (Err refusal.NoState)
    (cond (closed s) (Err refusal.Closed)
    (judged s link (read_message (version s) (word s n_at) (session_number s) link b)))

-- where an EST of 1 leaves 1 accepted and 0 not, 1 was complete before 0, and the state records it, for any round (PROTOCOL 5.19)
unfoldable pub first_noted : List ℕ → List ℕ → ℕ → ℕ → ℕ → List ℕ
first_noted s t i r b = cond (eqb b 1 && one_alone (settings_of s) t i r) (with_one_first t i r) t

-- vote i is decided b where the FINISHes of b that are held do so (PROTOCOL 5.17)
unfoldable pub finish_settled : List ℕ → List ℕ → ℕ → ℕ → List ℕ
finish_settled s t i b = cond (finish_decides (settings_of s) t i b) (with_decision t i b) t

-- the state with a message of sender p recorded, as with weights, with an EST of 1 whether 1 was accepted before 0, and with a FINISH the decision
-- that it completes
unfoldable pub recorded : List ℕ → ℕ → Message → List ℕ → List ℕ
recorded s p (Send i x) v = weighted.recorded s p (Send i x) v
recorded s p (Echo i x) v = weighted.recorded s p (Echo i x) v
recorded s p (Ready i x) v = weighted.recorded s p (Ready i x) v
recorded s p (Est i r b) v = first_noted s (with_est s i r b p) i r b
recorded s p (Aux i r b) v = weighted.recorded s p (Aux i r b) v
recorded s p (Commit k) v = weighted.recorded s p (Commit k) v
recorded s p (Finish i b) v = finish_settled s (with_finish s i b p) i b

-- the words after a verdict: a refusal changes none (PROTOCOL 9.3)
unfoldable pub words_after : Result Message Refusal → List ℕ → ℕ → List ℕ → List ℕ
words_after (Err k) s link b = s
words_after (Ok m) s link b = recorded s link m (drop 12 b)

-- the answer and the words of a delivery
unfoldable pub deliver_answer : List ℕ → ℕ → List ℕ → Result (Unit {0}) Refusal
deliver_answer s link b = answer_of (verdict s link b)

unfoldable pub delivered : List ℕ → ℕ → List ℕ → List ℕ
delivered s link b = words_after (verdict s link b) s link b
