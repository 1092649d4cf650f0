-- Where each record of the state stands: PROTOCOL, section 17. Concentrators, instances and votes count from 1 to 16, rounds from 1 to 32.
--
--     0            n
--     1            ta
--     2            ts
--     3            the own number
--     4            the session number
--     5            the own input
--     6            turns taken that did not answer idle
--     7            flags: mark 1 closed, mark 2 SEND sent, mark 3 COMMIT sent
--     8 to 23      coin word of each vote: mark r is the coin of round r; where coins are boxed, mark 32 + r a recorded 0
--     24 to 39     round of each vote: 0 before its start, 33 after round 32
--     40 to 55     ESTs sent in each vote: mark r for 0 in round r, mark 32 + r for 1
--     56 to 71     AUXs sent in each vote: mark r for round r
--     72 to 87     value of each instance's SEND
--     88 to 103    ECHOs held of each instance: mark p for sender p
--     104 to 119   READYs held of each instance: mark p for sender p
--     120 to 135   number of values in each sender's COMMIT, 0 where none is held
--     136          ECHOs sent: mark i for instance i
--     137          READYs sent: mark i for instance i
--     138          votes decided 0: mark i for vote i
--     139          votes decided 1: mark i for vote i
--     140          SENDs held: mark i for instance i
--     141          weights: of the marks p, 16 + p, 32 + p and 48 + p as many are set as p weighs
--     142          0 where coins are printed, 1 where they are boxed
--     143          the version
--     144          FINISHes sent: mark i for vote i
--     145 to 160   FINISHes held of each vote: marks p and 16 + p for FINISH 0 and FINISH 1 of sender p
--     161 to 176   values accepted first in each vote: mark r where in round r 1 was accepted before 0
--     177 to 255   free
--     256 to 511   values of the ECHOs held, 16 for each instance, by sender
--     512 to 767   values of the READYs held, 16 for each instance, by sender
--     768 to 1023  values of the COMMITs held, 16 for each sender, in rising order
--     1024 to 1535 ESTs and AUXs held, 32 words for each vote, by round:
--                  marks p, 16 + p, 32 + p and 48 + p for EST 0, EST 1, AUX 0 and AUX 1 of sender p
--     1536 to 2047 free
use Rattle.std.specs.Prelude.{ℕ, ◌+◌, ◌*◌}

abbrev pub state_words : ℕ
state_words = 2048

abbrev pub n_at : ℕ
n_at = 0

abbrev pub ta_at : ℕ
ta_at = 1

abbrev pub ts_at : ℕ
ts_at = 2

abbrev pub own_at : ℕ
own_at = 3

abbrev pub session_at : ℕ
session_at = 4

abbrev pub input_at : ℕ
input_at = 5

abbrev pub turns_at : ℕ
turns_at = 6

abbrev pub flags_at : ℕ
flags_at = 7

abbrev pub echo_sent_at : ℕ
echo_sent_at = 136

abbrev pub ready_sent_at : ℕ
ready_sent_at = 137

abbrev pub decided_zero_at : ℕ
decided_zero_at = 138

abbrev pub decided_one_at : ℕ
decided_one_at = 139

abbrev pub send_marks_at : ℕ
send_marks_at = 140

abbrev pub weights_at : ℕ
weights_at = 141

abbrev pub boxed_at : ℕ
boxed_at = 142

abbrev pub version_at : ℕ
version_at = 143

abbrev pub finish_sent_at : ℕ
finish_sent_at = 144

abbrev pub coin_at : ℕ → ℕ
coin_at i = 7 + i

abbrev pub round_at : ℕ → ℕ
round_at i = 23 + i

abbrev pub est_sent_at : ℕ → ℕ
est_sent_at i = 39 + i

abbrev pub aux_sent_at : ℕ → ℕ
aux_sent_at i = 55 + i

abbrev pub send_value_at : ℕ → ℕ
send_value_at i = 71 + i

abbrev pub echo_marks_at : ℕ → ℕ
echo_marks_at i = 87 + i

abbrev pub ready_marks_at : ℕ → ℕ
ready_marks_at i = 103 + i

abbrev pub finish_marks_at : ℕ → ℕ
finish_marks_at i = 144 + i

abbrev pub one_first_at : ℕ → ℕ
one_first_at i = 160 + i

abbrev pub commit_count_at : ℕ → ℕ
commit_count_at p = 119 + p

abbrev pub echo_value_at : ℕ → ℕ → ℕ
echo_value_at i p = 239 + 16 * i + p

abbrev pub ready_value_at : ℕ → ℕ → ℕ
ready_value_at i p = 495 + 16 * i + p

-- the word before the first value of the COMMIT of sender p
abbrev pub commit_row_at : ℕ → ℕ
commit_row_at p = 751 + 16 * p

abbrev pub commit_value_at : ℕ → ℕ → ℕ
commit_value_at p k = commit_row_at p + k

abbrev pub vote_at : ℕ → ℕ → ℕ
vote_at i r = 991 + 32 * i + r

-- the marks of the flags
abbrev pub closed_mark : ℕ
closed_mark = 1

abbrev pub send_sent_mark : ℕ
send_sent_mark = 2

abbrev pub commit_sent_mark : ℕ
commit_sent_mark = 3

-- the mark of a bit 0 that is recorded for round r; that of a bit 1 is the coin's own, r
abbrev pub zero_mark : ℕ → ℕ
zero_mark r = 32 + r

-- the mark of EST b sent in round r
abbrev pub est_sent_mark : ℕ → ℕ → ℕ
est_sent_mark r b = 32 * b + r

-- a round's word has 16 marks for EST b, one for each sender, and 16 for AUX b: so many marks stand below them
abbrev pub est_group : ℕ → ℕ
est_group b = 16 * b

abbrev pub aux_group : ℕ → ℕ
aux_group b = 32 + 16 * b

-- .. and a vote's word of FINISHes 16 for FINISH b
abbrev pub finish_group : ℕ → ℕ
finish_group b = 16 * b

-- the marks of EST b, AUX b and FINISH b held from sender p
abbrev pub est_mark : ℕ → ℕ → ℕ
est_mark b p = est_group b + p

abbrev pub aux_mark : ℕ → ℕ → ℕ
aux_mark b p = aux_group b + p

abbrev pub finish_mark : ℕ → ℕ → ℕ
finish_mark b p = finish_group b + p
