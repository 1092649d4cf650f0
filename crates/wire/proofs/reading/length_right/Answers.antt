-- `length_right` is the test of the definition: the test that led to a return says whether there are twelve bytes.
use Prim.Native.Nat.{ℕ, ◌<◌, ◌≤◌, ◌+◌, ◌*◌}
use mathlib.Core.Path.{◌≡◌}
use mathlib.Core.Bool.{false}
use mathlib.Core.List.{List}
use lib.ListN.{length, get_or}
use lib.Dec.{eqb}
use borrow.Author.Tests.{le-leb, lt-leb}
use Rattle.wire.specs.Reading.{length_right}
use Rattle.wire.proofs.reading.length_right.Goals as goal

module _ (b : List ℕ) where
  short : length b < 12 → false ≡ length_right b
  unfolding length_right
  short h = simp (lt-leb _ _ h)

  long : (count : ℕ) → 12 ≤ length b → count ≡ get_or b 5 0 → eqb (length b) (12 + 8 * count) ≡ length_right b
  unfolding length_right
  long count h q = simp (le-leb _ _ h, q)

pub returns-then-bytes-lt12 : goal.returns-then-bytes-lt12
returns-then-bytes-lt12 c = search short

pub returns : goal.returns
returns c = search long
