-- `read_message` answers as the definition; the part from byte 12 is what is left of the bytes.
use Rattle.std.specs.Prelude.{Result, Err}
use Prim.Native.Nat.{ℕ, ◌≤◌, ◌-◌}
use mathlib.Core.Path.{◌≡◌, sym, ◌∙◌}
use mathlib.Core.Bool.{Bool, true, false, not}
use mathlib.Core.List.{List}
use native.Mathlib.Omega.{arith}
use lib.ListN.{length, take, drop, length-drop}
use lib.Seq.{take_all}
use lib.Dec.{leb}
use borrow.Author.Tests.{leb-true, not-true, not-false}
use Rattle.wire.specs.declared.Header.{Header}
use Rattle.settings.specs.declared.refusal.Refusal.TheVariants as refusal
use Rattle.wire.specs.Reading.{length_right, header_of, read_checked, read_message}
use Rattle.quorum.specs.laws.Bools.{and_left}
use Rattle.wire.proofs.reading.read_message.Goals as goal
use Rattle.wire.specs.declared.Message.{Message}
use Rattle.settings.specs.declared.refusal.Refusal.{Refusal}

part : (b : List ℕ) → take (length b - 12) (drop 12 b) ≡ drop 12 b
part b = take_all (length b - 12) (drop 12 b) (omega (arith, length-drop 12 b))

module _ (b : List ℕ) (t : Bool) (q : t ≡ length_right b) where
  length-wrong : (v n session link : ℕ) → not t ≡ true → Err refusal.Length ≡ read_message v n session link b
  unfolding read_message
  length-wrong v n session link e = simp (← q, not-true t e)

  long : not t ≡ false → 12 ≤ length b
  unfolding length_right
  long e = leb-true 12 (length b) (and_left (leb 12 (length b)) _ (sym q ∙ not-false t e))

  checked : (v n session link : ℕ) → not t ≡ false → (h : Header) → h ≡ header_of b → (r : Result Message Refusal) →
      r ≡ read_checked v n session link h (take (length b - 12) (drop 12 b)) → r ≡ read_message v n session link b
  unfolding read_message
  checked v n session link e h p r k = k ∙ rw (part b, p) (simp (← q, not-false t e))

pub returns-then-not-length_right : goal.returns-then-not-length_right
returns-then-not-length_right c = search length-wrong

pub header_of-requires : goal.header_of-requires
header_of-requires c = search long

pub slice_bounds-read_checked-count : goal.slice_bounds-read_checked-count
slice_bounds-read_checked-count c = search long

pub slice_bounds-read_checked-start : goal.slice_bounds-read_checked-start
slice_bounds-read_checked-start c = search long

pub returns : goal.returns
returns c = search checked
