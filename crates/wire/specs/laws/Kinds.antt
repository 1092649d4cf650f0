-- The kinds of each version.
use Rattle.std.specs.Prelude.{ℕ, ◌≤◌, Bool, true, false, cond, ◌≡◌, refl}
use Rattle.std.proofs.Common.{arith}
use Rattle.settings.specs.Versions.{FIRST_VERSION, finishing}
use Rattle.wire.specs.Message.{COMMIT, FINISH, last_kind}

-- version 1 has the kinds up to COMMIT, version 2 FINISH too
pub first_last : last_kind FIRST_VERSION ≡ COMMIT
unfolding last_kind finishing
first_last = refl

pub finish_last : (version : ℕ) → finishing version ≡ true → last_kind version ≡ FINISH
unfolding last_kind
finish_last version e = rw e

-- where there are no FINISHes no message is one
pub plain_last : (version : ℕ) → finishing version ≡ false → last_kind version ≡ COMMIT
unfolding last_kind
plain_last version e = rw e

pub last_low : (version : ℕ) → COMMIT ≤ last_kind version
unfolding last_kind
last_low version = by (finishing version)
  where
    by : (b : Bool) → COMMIT ≤ cond b FINISH COMMIT
    by true = omega arith
    by false = omega arith

pub last_high : (version : ℕ) → last_kind version ≤ FINISH
unfolding last_kind
last_high version = by (finishing version)
  where
    by : (b : Bool) → cond b FINISH COMMIT ≤ FINISH
    by true = omega arith
    by false = omega arith
