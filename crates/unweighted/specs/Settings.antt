-- The rules on a session's settings, and the thresholds worked out from them: PROTOCOL, section 1, with counts in place of weights (13.4).
use Rattle.std.specs.Prelude.{ℕ, ◌+◌, ◌*◌, ◌-◌, Bool, ◌&&◌, cond, eqb, ltb, leb}
use Rattle.settings.specs.Settings.{UNNAMED, largest_ta}
use Rattle.settings.specs.Versions.{finishing}

-- the settings of a session, from which its thresholds come (PROTOCOL 1.14 to 1.18)
pub record Settings : Type 0 where
  pub n : ℕ
  pub ta : ℕ
  pub ts : ℕ

-- n is 1 to 16, ta ≤ ts, and 2·ts + ta < n (PROTOCOL 1.1, 1.6)
unfoldable pub valid_settings : ℕ → ℕ → ℕ → Bool
valid_settings n ta ts = leb 1 n && leb n 16 && leb ta ts && ltb (2 * ts + ta) n

-- the ta that is meant by the one given: the largest that the rules allow, where it is unnamed (PROTOCOL 1.7)
unfoldable pub named_ta : ℕ → ℕ → ℕ → ℕ
named_ta n ta ts = cond (eqb ta UNNAMED) (largest_ta n ts) ta

-- the quorum: ECHOs behind a READY, READYs behind an output, outputs behind Exit 1, COMMITs behind a set in force (PROTOCOL 1.14)
unfoldable pub quorum : Settings → ℕ
quorum g = g.n - g.ts

-- the repeat threshold: READYs behind a READY, COMMITs behind a COMMIT (PROTOCOL 1.15)
unfoldable pub repeat : Settings → ℕ
repeat g = g.ts + 1

-- the vote quorum: AUXs behind a move, votes decided 1 behind a start with 0 and behind Exits 2 and 3 (PROTOCOL 1.16)
unfoldable pub vote_quorum : Settings → ℕ
vote_quorum g = g.n - g.ta

-- the relay threshold: ESTs behind a relay, FINISHes behind a FINISH (PROTOCOL 1.17)
unfoldable pub relay : Settings → ℕ
relay g = g.ta + 1

-- the accept threshold: ESTs behind an accepted value, FINISHes behind a decision (PROTOCOL 1.18)
unfoldable pub accept : Settings → ℕ
accept g = 2 * g.ta + 1

-- the turn bound: the most counted turns of a session at one concentrator; a FINISH for each vote is one more (PROTOCOL 8.20)
unfoldable pub turn_bound : ℕ → Settings → ℕ
turn_bound version g = cond (finishing version) (100 * g.n + 3) (99 * g.n + 3)
