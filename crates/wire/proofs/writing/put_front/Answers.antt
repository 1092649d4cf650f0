-- `put_front` leaves the eight bytes and then what was there.
use Prim.Native.Nat.{ℕ, ◌≤◌, ◌/◌, ◌%◌}
use mathlib.Core.Path.{◌≡◌, ap}
use mathlib.Core.List.{List, [], ◌∷◌, ◌++◌}
use native.Mathlib.Omega.{arith}
use lib.ListN.{get_or, length, set, drop, length-set}
use lib.Seq.{sets-eq}
use Rattle.wire.specs.declared.Header.{Header}
use Rattle.wire.specs.Bytes.{bytes2}
use Rattle.wire.specs.Message.{front_bytes}
use Rattle.wire.proofs.writing.put_front.Goals as goal

stored : (l : List ℕ) (h : Header) (a b : ℕ) → 8 ≤ length l → a ≡ h.reserved / 256 % 256 → b ≡ h.reserved % 256 →
    set (set (set (set (set (set (set (set l 0 h.version) 1 h.kind) 2 h.sender) 3 h.instance) 4 h.round) 5 h.count) 6 a) 7 b
    ≡ front_bytes h ++ drop 8 l
unfolding front_bytes bytes2
stored l h a b k p q =
    rw (← p, ← q) (sets-eq (h.version ∷ h.kind ∷ h.sender ∷ h.instance ∷ h.round ∷ h.count ∷ a ∷ b ∷ []) l 0 k)

pub bounds-out-1 : goal.bounds-out-1
bounds-out-1 c = simp length-set (omega arith)

pub bounds-out-2 : goal.bounds-out-2
bounds-out-2 c = simp length-set (omega arith)

pub bounds-out-3 : goal.bounds-out-3
bounds-out-3 c = simp length-set (omega arith)

pub bounds-out-4 : goal.bounds-out-4
bounds-out-4 c = simp length-set (omega arith)

pub bounds-out-5 : goal.bounds-out-5
bounds-out-5 c = simp length-set (omega arith)

pub bounds-out-6 : goal.bounds-out-6
bounds-out-6 c = simp length-set (omega arith)

pub bounds-out-7 : goal.bounds-out-7
bounds-out-7 c = simp length-set (omega arith)

pub returns : goal.returns
returns c =
    stored _ _ _ _ c.requires
    (ap (λ (b : List ℕ). get_or b 0 0) c.to_be_bytes-reserved.ensures)
    (ap (λ (b : List ℕ). get_or b 1 0) c.to_be_bytes-reserved.ensures)
