-- A state has the set of a COMMIT, and the copy is that set.
use Prim.Native.Nat.{ℕ, ◌+◌, ◌*◌, ◌-◌, ◌≤◌}
use mathlib.Core.List.{List}
use Rattle.std.specs.Prelude.{◌≡◌}
use Rattle.std.proofs.Common.{◌∙◌, arith, length-take}
use Rattle.std.proofs.Math.Nat.{min-le_right}
use Rattle.std.proofs.Math.ListN.{length, take, drop, length-drop}
use Rattle.std.proofs.Math.Seq.{take_all, length-take-le}
use Rattle.records.specs.Layout.{commit_value_at}
use Rattle.records.specs.Words.{copied}
use Rattle.records.specs.Sets.{SetRoom, SetCopied}
use Rattle.records.specs.Records.{commit_count, commit_set}

module _ (s : List ℕ) (p : ℕ) (out : List ℕ) (h : SetRoom s p out) (k : ℕ) (e : k ≡ commit_count s p) where
  count_few : k ≤ 16
  unfolding commit_count
  count_few = rw e (min-le_right _ 16)

  pub row_holds : k ≤ length (take (length s - (751 + 16 * p + 1)) (drop (751 + 16 * p + 1) s))
  row_holds = simp (length-take, length-drop) (omega (arith, count_few, h.size, h.sender))

  pub out_holds : k ≤ length out
  out_holds = omega (arith, count_few, h.room)

  pub set_copied : (new : List ℕ) → new ≡ copied (take (length s - (751 + 16 * p + 1)) (drop (751 + 16 * p + 1) s)) out k → SetCopied s p out new k
  unfolding commit_set copied
  set_copied new f =
      let row : List ℕ = drop (commit_value_at p 1) s in
      let whole : take (length s - (751 + 16 * p + 1)) row ≡ row = take_all (length s - (751 + 16 * p + 1)) row (simp length-drop (omega arith)) in
      let sized : length (take k row) ≡ k = length-take-le k row (rw whole at row_holds) in
      record { words = f ∙ rw (whole, ← e); counted = e; sized = rw (← e) sized }

pub ruleset copies = (row_holds, out_holds, set_copied)
