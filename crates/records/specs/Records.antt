-- What the state's records hold. Every reader is total: it takes any numbers, and 0 past the end of the words.
use Rattle.std.specs.Prelude.{ℕ, min, Bool, ◌||◌, List, eqb, take, drop}
use Rattle.settings.specs.Settings.{max_concentrators, moved_out_round}
use Rattle.records.specs.Layout.{input_at, turns_at, flags_at, closed_mark, send_sent_mark, commit_sent_mark, version_at, boxed_at, coin_at, zero_mark, round_at, est_sent_at, est_sent_mark, aux_sent_at, send_marks_at, send_value_at, echo_marks_at, echo_value_at, ready_marks_at, ready_value_at, echo_sent_at, ready_sent_at, finish_sent_at, finish_marks_at, one_first_at, decided_zero_at, decided_one_at, commit_count_at, commit_value_at, vote_at, est_mark, aux_mark, finish_mark}
use Rattle.records.specs.Words.{word, marked}

-- the own input, given at the opening
abbrev pub own_input : List ℕ → ℕ
own_input s = word s input_at

-- the turns since the opening that did not answer idle
abbrev pub turn_count : List ℕ → ℕ
turn_count s = word s turns_at

-- delivery and turn after closing are refused
unfoldable pub closed : List ℕ → Bool
closed s = marked s flags_at closed_mark

unfoldable pub send_sent : List ℕ → Bool
send_sent s = marked s flags_at send_sent_mark

unfoldable pub commit_sent : List ℕ → Bool
commit_sent s = marked s flags_at commit_sent_mark

-- whether the ECHO and the READY of an instance, one of each, were sent (PROTOCOL 4.4, 4.5)
unfoldable pub echo_sent : List ℕ → ℕ → Bool
echo_sent s i = marked s echo_sent_at i

unfoldable pub ready_sent : List ℕ → ℕ → Bool
ready_sent s i = marked s ready_sent_at i

-- SENDs, ECHOs and READYs have one place for each sender and instance; a SEND's sender is its instance (PROTOCOL 3.1, 3.2)
unfoldable pub send_held : List ℕ → ℕ → Bool
send_held s i = marked s send_marks_at i

unfoldable pub send_value : List ℕ → ℕ → ℕ
send_value s i = word s (send_value_at i)

unfoldable pub echo_held : List ℕ → ℕ → ℕ → Bool
echo_held s i p = marked s (echo_marks_at i) p

unfoldable pub echo_value : List ℕ → ℕ → ℕ → ℕ
echo_value s i p = word s (echo_value_at i p)

unfoldable pub ready_held : List ℕ → ℕ → ℕ → Bool
ready_held s i p = marked s (ready_marks_at i) p

unfoldable pub ready_value : List ℕ → ℕ → ℕ → ℕ
ready_value s i p = word s (ready_value_at i p)

-- an EST has a place for its sender, vote, round and value (PROTOCOL 3.3)
unfoldable pub est_held : List ℕ → ℕ → ℕ → ℕ → ℕ → Bool
est_held s i r b p = marked s (vote_at i r) (est_mark b p)

-- the AUX of sender p carries b
unfoldable pub aux_held : List ℕ → ℕ → ℕ → ℕ → ℕ → Bool
aux_held s i r b p = marked s (vote_at i r) (aux_mark b p)

-- a delivery recorded that in round r of vote i 1 was accepted before 0 (PROTOCOL 5.19)
unfoldable pub one_first : List ℕ → ℕ → ℕ → Bool
one_first s i r = marked s (one_first_at i) r

-- a FINISH has one place for its sender and vote, whichever value it carries (PROTOCOL 3.12); the FINISH of sender p carries b
unfoldable pub finish_held : List ℕ → ℕ → ℕ → ℕ → Bool
finish_held s i b p = marked s (finish_marks_at i) (finish_mark b p)

-- whether the FINISH of a vote, one in all, was sent (PROTOCOL 5.14)
unfoldable pub finish_sent : List ℕ → ℕ → Bool
finish_sent s i = marked s finish_sent_at i

-- the version of the session (PROTOCOL 1.21)
abbrev pub version : List ℕ → ℕ
version s = word s version_at

-- the coin of round r is mark r of the vote's coin word (PROTOCOL 1.9)
unfoldable pub coin : List ℕ → ℕ → ℕ → Bool
coin s i r = marked s (coin_at i) r

-- whether the coins of the session are printed (PROTOCOL 1.10)
unfoldable pub printed : List ℕ → Bool
printed s = eqb (word s boxed_at) 0

-- .. and where they are boxed, whether the host has recorded a bit for round r of vote i: a 1 is the coin itself
unfoldable pub coin_recorded : List ℕ → ℕ → ℕ → Bool
coin_recorded s i r = coin s i r || marked s (coin_at i) (zero_mark r)

-- the coin of round r of vote i stands in the state
unfoldable pub coin_known : List ℕ → ℕ → ℕ → Bool
coin_known s i r = printed s || coin_recorded s i r

-- the round is 0 until the start (PROTOCOL 5.1); 33 means moved out of round 32, and a higher one is no state
unfoldable pub round : List ℕ → ℕ → ℕ
round s i = min (word s (round_at i)) moved_out_round

unfoldable pub est_sent : List ℕ → ℕ → ℕ → ℕ → Bool
est_sent s i r b = marked s (est_sent_at i) (est_sent_mark r b)

unfoldable pub aux_sent : List ℕ → ℕ → ℕ → Bool
aux_sent s i r = marked s (aux_sent_at i) r

unfoldable pub decided_zero : List ℕ → ℕ → Bool
decided_zero s i = marked s decided_zero_at i

unfoldable pub decided_one : List ℕ → ℕ → Bool
decided_one s i = marked s decided_one_at i

unfoldable pub decided : List ℕ → ℕ → Bool
decided s i = decided_zero s i || decided_one s i

-- the number of values in the COMMIT of sender p, 0 where none is held; one above n is no state, and 16 is all that has room
unfoldable pub commit_count : List ℕ → ℕ → ℕ
commit_count s p = min (word s (commit_count_at p)) max_concentrators

unfoldable pub commit_value : List ℕ → ℕ → ℕ → ℕ
commit_value s p k = word s (commit_value_at p k)

-- the set in the COMMIT of sender p
unfoldable pub commit_set : List ℕ → ℕ → List ℕ
commit_set s p = take (commit_count s p) (drop (commit_value_at p 1) s)
