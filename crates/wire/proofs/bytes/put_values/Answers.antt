use Prim.Native.Nat.{ℕ, ◌≤◌, ◌<◌, ◌-◌, ◌*◌, ◌+◌}
use mathlib.Core.Path.{◌≡◌, refl, ap, ◌∙◌}
use mathlib.Core.List.{List, [], ◌++◌}
use native.Mathlib.Omega.{arith}
use lib.ListN.{length, take, drop, get_or, length-append, length-drop}
use lib.Seq.{length-take-le, take_all}
use borrow.Rule.Slice.PartMut.{put_mid}
use Rattle.wire.specs.Bytes.{bytes8, value_bytes}
use Rattle.wire.proofs.Laws.{patch, length_value_bytes, length_bytes8, value_bytes_more}
use borrow.Author.Rules.{rules}
use Rattle.wire.proofs.bytes.put_values.Goals as goal

module _ (xs o : List ℕ) (room : 8 * length xs ≤ length o) where
  front : (k : ℕ) → k ≤ length xs → length (value_bytes (take k xs)) ≡ 8 * k
  front k h = length_value_bytes (take k xs) ∙ ap (λ (n : ℕ). 8 * n) (length-take-le k xs h)

  long : (out : List ℕ) (k : ℕ) → k ≤ length xs → out ≡ value_bytes (take k xs) ++ drop (8 * k) o → length out ≡ length o
  long out k h e = omega (arith, front k h, simp length-append at (ap length e), length-drop (8 * k) o)

  module _ (out ys : List ℕ) (k : ℕ) (h : k < length xs) (e : out ≡ value_bytes (take k xs) ++ drop (8 * k) o)
      (f : ys ≡ bytes8 (get_or xs k 0) ++ drop 8 (take (length out - 8 * k) (drop (8 * k) out))) where
    turn : put_mid (8 * k) (length out - 8 * k) out ys ≡ value_bytes (take (k + 1) xs) ++ drop (8 * (k + 1)) o
    turn =
        patch (value_bytes (take k xs)) (bytes8 (get_or xs k 0)) (value_bytes (take (k + 1) xs)) o out ys (8 * k) 8 (8 * (k + 1))
        (omega arith) e f (value_bytes_more xs k h) (front k (omega arith)) (length_bytes8 _) (omega arith)

    kept : length (put_mid (8 * k) (length out - 8 * k) out ys) ≡ length o
    kept = long _ (k + 1) (omega arith) turn

  done : (out : List ℕ) (k : ℕ) → k ≤ length xs → length xs ≤ k → out ≡ value_bytes (take k xs) ++ drop (8 * k) o →
      out ≡ value_bytes xs ++ drop (8 * length xs) o
  done out k h l e =
      let n : k ≡ length xs = omega arith in
      e ∙ rw (take_all k xs l, n)

start : (o : List ℕ) → o ≡ value_bytes [] ++ o
unfolding value_bytes
start o = refl

pub loop-k-init : goal.loop-k-init
loop-k-init c = (search rules, refl, start _)

pub loop-k-preserved : goal.loop-k-preserved
loop-k-preserved c = (search rules, search kept, search turn)

pub returns : goal.returns
returns c = search done
