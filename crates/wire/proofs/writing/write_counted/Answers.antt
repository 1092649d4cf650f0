-- `write_counted` writes the values that the header counts, or nothing.
use Prim.Native.Nat.{ℕ, ◌<◌, ◌≤◌}
use mathlib.Core.Path.{◌≡◌, sym}
use mathlib.Core.List.{List}
use native.Mathlib.Omega.{arith}
use lib.ListN.{length, take}
use lib.Seq.{length-take-le}
use borrow.Author.Tests.{le-leb, lt-leb}
use Rattle.wire.specs.declared.Header.{Header}
use Rattle.wire.specs.Message.{message_bytes}
use Rattle.wire.specs.Writing.{fitting, Wrote}
use Rattle.wire.specs.laws.Message.{counted_values}
use Rattle.wire.proofs.Laws.{wrote_nothing}
use Rattle.wire.proofs.writing.write_counted.Goals as goal

module _ (h : Header) (xs o : List ℕ) (n : ℕ) where
  fewer : n ≡ h.count → length xs < n → Wrote (counted_values h xs o) o 0 o
  unfolding counted_values
  fewer e l = wrote_nothing (counted_values h xs o) o (simp (lt-leb h.count (length xs) (omega arith)))

  held : n ≤ length xs → n ≡ length (take n xs)
  held l = sym (length-take-le n xs l)

  enough : (r : ℕ) (after : List ℕ) → n ≡ h.count → n ≤ length xs → Wrote (fitting (message_bytes h (take n xs)) o) o r after → Wrote (counted_values h xs o) o r after
  unfolding counted_values
  enough r after e l w = simp (le-leb h.count (length xs) (omega arith)) (rw e at w)

pub returns-then-values-count : goal.returns-then-values-count
returns-then-values-count c = search fewer

pub slice_bounds-write_values-end : goal.slice_bounds-write_values-end
slice_bounds-write_values-end c = search held

pub returns : goal.returns
returns c = search enough
