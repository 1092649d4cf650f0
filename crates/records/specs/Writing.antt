-- The state with one record more. Every writer is total: a place past the end of the words takes nothing.
use Rattle.std.specs.Prelude.{ℕ, cond, List, eqb}
use Rattle.records.specs.Layout.{turns_at, flags_at, closed_mark, send_sent_mark, commit_sent_mark, round_at, est_sent_at, est_sent_mark, aux_sent_at, echo_sent_at, ready_sent_at, finish_sent_at, decided_zero_at, decided_one_at}
use Rattle.records.specs.Layout.{send_marks_at, send_value_at, echo_marks_at, echo_value_at, ready_marks_at, ready_value_at, vote_at, est_mark, aux_mark, one_first_at, finish_marks_at, finish_mark, commit_count_at, commit_row_at}
use Rattle.records.specs.Words.{put, set_mark, store_of}

-- ---- messages that are held: p is the sender

-- the SEND of instance i with value v
abbrev pub with_send : List ℕ → ℕ → ℕ → List ℕ
with_send s i v = set_mark (put s (send_value_at i) v) send_marks_at i

abbrev pub with_echo : List ℕ → ℕ → ℕ → ℕ → List ℕ
with_echo s i p v = set_mark (put s (echo_value_at i p) v) (echo_marks_at i) p

abbrev pub with_ready : List ℕ → ℕ → ℕ → ℕ → List ℕ
with_ready s i p v = set_mark (put s (ready_value_at i p) v) (ready_marks_at i) p

-- EST b and AUX b in round r of vote i
abbrev pub with_est : List ℕ → ℕ → ℕ → ℕ → ℕ → List ℕ
with_est s i r b p = set_mark s (vote_at i r) (est_mark b p)

abbrev pub with_aux : List ℕ → ℕ → ℕ → ℕ → ℕ → List ℕ
with_aux s i r b p = set_mark s (vote_at i r) (aux_mark b p)

-- in round r of vote i 1 was accepted before 0
abbrev pub with_one_first : List ℕ → ℕ → ℕ → List ℕ
with_one_first s i r = set_mark s (one_first_at i) r

-- FINISH b in vote i
abbrev pub with_finish : List ℕ → ℕ → ℕ → ℕ → List ℕ
with_finish s i b p = set_mark s (finish_marks_at i) (finish_mark b p)

-- the values f 1 to f n of a COMMIT, and their number
abbrev pub with_commit_values : List ℕ → ℕ → (ℕ → ℕ) → ℕ → List ℕ
with_commit_values s p f n = store_of f (commit_row_at p) s n

abbrev pub with_commit_count : List ℕ → ℕ → ℕ → List ℕ
with_commit_count s p n = put s (commit_count_at p) n

abbrev pub with_commit : List ℕ → ℕ → (ℕ → ℕ) → ℕ → List ℕ
with_commit s p f n = with_commit_count (with_commit_values s p f n) p n

-- ---- what was sent, and how far the session is

abbrev pub with_closed : List ℕ → List ℕ
with_closed s = set_mark s flags_at closed_mark

abbrev pub with_send_sent : List ℕ → List ℕ
with_send_sent s = set_mark s flags_at send_sent_mark

abbrev pub with_commit_sent : List ℕ → List ℕ
with_commit_sent s = set_mark s flags_at commit_sent_mark

abbrev pub with_echo_sent : List ℕ → ℕ → List ℕ
with_echo_sent s i = set_mark s echo_sent_at i

abbrev pub with_ready_sent : List ℕ → ℕ → List ℕ
with_ready_sent s i = set_mark s ready_sent_at i

-- EST b, and an AUX, in round r of vote i
abbrev pub with_est_sent : List ℕ → ℕ → ℕ → ℕ → List ℕ
with_est_sent s i r b = set_mark s (est_sent_at i) (est_sent_mark r b)

abbrev pub with_aux_sent : List ℕ → ℕ → ℕ → List ℕ
with_aux_sent s i r = set_mark s (aux_sent_at i) r

abbrev pub with_finish_sent : List ℕ → ℕ → List ℕ
with_finish_sent s i = set_mark s finish_sent_at i

-- vote i is in round r
abbrev pub with_round : List ℕ → ℕ → ℕ → List ℕ
with_round s i r = put s (round_at i) r

-- vote i is decided b
abbrev pub with_decision : List ℕ → ℕ → ℕ → List ℕ
with_decision s i b = set_mark s (cond (eqb b 0) decided_zero_at decided_one_at) i

abbrev pub with_turn_count : List ℕ → ℕ → List ℕ
with_turn_count s k = put s turns_at k
