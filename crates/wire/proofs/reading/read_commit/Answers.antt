-- `read_commit` takes a COMMIT whose values rise.
use Rattle.std.specs.Prelude.{Ok, Err}
use Prim.Native.Nat.{ℕ}
use mathlib.Core.Bool.{Bool, true, false}
use mathlib.Core.List.{List}
use mathlib.Core.Path.{◌≡◌}
use Rattle.settings.specs.declared.refusal.Refusal.TheVariants as refusal
use Rattle.wire.specs.Bytes.{values, rises}
use Rattle.wire.specs.Reading.{taken_if}
use Rattle.wire.specs.declared.Message.TheVariants.{Commit}
use Rattle.wire.proofs.reading.read_commit.Goals as goal

module _ (count : ℕ) (v : List ℕ) (r : Bool) (e : r ≡ rises (values count v)) where
  rise : r ≡ true → Ok (Commit count) ≡ taken_if (rises (values count v)) (Commit count)
  unfolding taken_if
  rise t = rw (← e, t)

  fall : r ≡ false → Err refusal.Value ≡ taken_if (rises (values count v)) (Commit count)
  unfolding taken_if
  fall t = rw (← e, t)

pub returns-then-rising : goal.returns-then-rising
returns-then-rising c = search rise

pub returns : goal.returns
returns c = search fall
