-- The rules on a session's settings, and the thresholds worked out from them: PROTOCOL, section 1. W is the sum of all weights, and what is
-- compared with a threshold a sum of weights; n is the number of concentrators. w are the weights as one word.
use Rattle.std.specs.Prelude.{ℕ, ◌+◌, ◌*◌, ◌-◌, min, Bool, ◌&&◌, cond, eqb, ltb, leb}
use Rattle.quorum.specs.Weights.{weigh}
use Rattle.quorum.specs.Whole.{whole_of, weights_right}
use Rattle.settings.specs.declared.Settings.{Settings}

-- the most concentrators of a session
abbrev pub max_concentrators : ℕ
max_concentrators = 16

-- n is 1 to 16, each weight 1 to 4, ta ≤ ts, and 2·ts + ta < W (PROTOCOL 1.1, 1.5, 1.6)
unfoldable pub valid_settings : ℕ → ℕ → ℕ → ℕ → Bool
valid_settings n ta ts w = leb 1 n && leb n max_concentrators && weights_right w n && leb ta ts && ltb (2 * ts + ta) (whole_of w n)

-- 255 stands for an unnamed ta (PROTOCOL 1.7)
abbrev pub UNNAMED : ℕ
UNNAMED = 255

-- the largest ta that the rules allow (PROTOCOL 1.7). Where 2·ts ≥ W there is none: the difference is 0, and `valid_settings` refuses that ta
-- too, since 2·ts + 0 < W does not hold.
unfoldable pub largest_ta : ℕ → ℕ → ℕ
largest_ta whole ts = min ts (whole - 1 - 2 * ts)

-- the ta that is meant by the one given: the largest, where it is unnamed (PROTOCOL 1.7)
unfoldable pub named_ta : ℕ → ℕ → ℕ → ℕ → ℕ
named_ta n ta ts w = cond (eqb ta UNNAMED) (largest_ta (whole_of w n) ts) ta

-- the settings of numbers and weights
abbrev pub settings_from : ℕ → ℕ → ℕ → ℕ → Settings
settings_from n ta ts w = record { n = n; ta = ta; ts = ts; whole = whole_of w n; weights = w }

-- .. where ta is the one given
abbrev pub settings_named : ℕ → ℕ → ℕ → ℕ → Settings
settings_named n ta ts w = settings_from n (named_ta n ta ts w) ts w

-- the weight of those of the concentrators 1 to n for which x holds (PROTOCOL 13.1)
abbrev pub weighed : Settings → (ℕ → Bool) → ℕ
weighed g x = weigh g.weights x g.n

-- the quorum: ECHOs behind a READY, READYs behind an output, outputs behind Exit 1, COMMITs behind a set in force (PROTOCOL 1.14)
unfoldable pub quorum : Settings → ℕ
quorum g = g.whole - g.ts

-- the repeat threshold: READYs behind a READY, COMMITs behind a COMMIT (PROTOCOL 1.15)
unfoldable pub repeat : Settings → ℕ
repeat g = g.ts + 1

-- the vote quorum: AUXs behind a move, votes decided 1 behind a start with 0 and behind Exits 2 and 3 (PROTOCOL 1.16)
unfoldable pub vote_quorum : Settings → ℕ
vote_quorum g = g.whole - g.ta

-- the relay threshold: ESTs behind a relay, FINISHes behind a FINISH (PROTOCOL 1.17)
unfoldable pub relay : Settings → ℕ
relay g = g.ta + 1

-- the accept threshold: ESTs behind an accepted value, FINISHes behind a decision (PROTOCOL 1.18)
unfoldable pub accept : Settings → ℕ
accept g = 2 * g.ta + 1

-- the last round (PROTOCOL 1.20)
abbrev pub round_limit : ℕ
round_limit = 32

-- the round of a vote that has moved out of round 32 (PROTOCOL 5.1)
abbrev pub moved_out_round : ℕ
moved_out_round = 33
