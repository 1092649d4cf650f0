-- The version of a session: 1, or 2, in which votes wind up early with FINISHes (PROTOCOL 1.21). The thresholds are the same in both.
use Rattle.std.specs.Prelude.{ℕ, ◌+◌, ◌*◌, Bool, ◌&&◌, cond, eqb, leb}
use Rattle.settings.specs.declared.Settings.{Settings}

abbrev pub FIRST_VERSION : ℕ
FIRST_VERSION = 1

abbrev pub FINISH_VERSION : ℕ
FINISH_VERSION = 2

-- the version is 1 or 2
unfoldable pub version_known : ℕ → Bool
version_known version = leb FIRST_VERSION version && leb version FINISH_VERSION

-- sessions of this version have FINISHes
unfoldable pub finishing : ℕ → Bool
finishing version = eqb version FINISH_VERSION

-- the turn bound: the most counted turns of a session at one concentrator; a FINISH for each vote is one more (PROTOCOL 8.20)
unfoldable pub turn_bound : ℕ → Settings → ℕ
turn_bound version g = cond (finishing version) (100 * g.n + 3) (99 * g.n + 3)
