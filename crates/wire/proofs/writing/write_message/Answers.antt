-- `write_message` writes what the definition says, kind by kind.
use Prim.Native.Nat.{ℕ}
use mathlib.Core.Path.{◌≡◌, ap}
use mathlib.Core.Logic.{◌⊎◌, inl, inr}
use mathlib.Core.List.{List, [], ◌∷◌}
use native.Mathlib.Omega.{arith}
use lib.ListN.{length}
use borrow.Author.Tests.{le-leb}
use Rattle.wire.specs.declared.Message.{Message}
use Rattle.wire.specs.declared.Message.TheVariants.{Send, Echo, Ready, Est, Aux, Commit, Finish}
use Rattle.wire.specs.declared.Header.{Header}
use Rattle.wire.specs.Message.{besides, values_of, header_for, message_bytes, encode}
use Rattle.wire.specs.Writing.{fitting, written, Wrote}
use Rattle.wire.specs.laws.Message.{counted_values}
use Rattle.wire.proofs.writing.write_message.Goals as goal

module _ (m : Message) (u s t a : ℕ) (xs o after : List ℕ) (h : Header) (q : h ≡ header_for m u s t) where
  one : (v : ℕ) → besides m ≡ 0 → values_of m xs ≡ v ∷ [] → Wrote (fitting (message_bytes h (v ∷ [])) o) o a after → Wrote (written m u s t xs o) o a after
  unfolding written encode
  one v b e w = simp (le-leb (besides m) (length xs) (omega arith), e, ← q) w

  word : (v : ℕ) → ((i : ℕ) × m ≡ Send i v) ⊎ (((i : ℕ) × m ≡ Echo i v) ⊎ ((i : ℕ) × m ≡ Ready i v)) →
      Wrote (fitting (message_bytes h (v ∷ [])) o) o a after → Wrote (written m u s t xs o) o a after
  word v (inl (i, e)) w = one v (ap besides e) (ap (λ n. values_of n xs) e) w
  word v (inr (inl (i, e))) w = one v (ap besides e) (ap (λ n. values_of n xs) e) w
  word v (inr (inr (i, e))) w = one v (ap besides e) (ap (λ n. values_of n xs) e) w

  bit : (v x : ℕ) → x ≡ v → ((i : ℕ) × (r : ℕ) × m ≡ Est i r v) ⊎ (((i : ℕ) × (r : ℕ) × m ≡ Aux i r v) ⊎ ((i : ℕ) × m ≡ Finish i v)) →
      Wrote (fitting (message_bytes h (x ∷ [])) o) o a after → Wrote (written m u s t xs o) o a after
  bit v x q (inl (i, r, e)) w = one x (ap besides e) (rw (q, e)) w
  bit v x q (inr (inl (i, r, e))) w = one x (ap besides e) (rw (q, e)) w
  bit v x q (inr (inr (i, e))) w = one x (ap besides e) (rw (q, e)) w

  commit : (k : ℕ) → m ≡ Commit k → Wrote (counted_values h xs o) o a after → Wrote (written m u s t xs o) o a after
  unfolding written encode counted_values header_for
  commit k e w =
      let z : written m u s t xs o ≡ counted_values h xs o = rw (q, e) in
      rw z w

pub returns-in-Send : goal.returns-in-Send
returns-in-Send c = search word

pub returns-in-Est : goal.returns-in-Est
returns-in-Est c = search bit

pub returns-in-Commit : goal.returns-in-Commit
returns-in-Commit c = search commit
