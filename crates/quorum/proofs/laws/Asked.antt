-- `every` is what the library's `all` asks of one number after another.
use denote.Param.Members.{Mut, Called}
use Rattle.std.specs.Prelude.{ℕ, zero, suc, ◌+◌, Bool, true, false, ◌&&◌, List, ◌≡◌, refl}
use Rattle.std.proofs.Common.{sym, ap, ◌∙◌, arith, add-one}
use Rattle.std.proofs.Math.Bool.{and-true, and_assoc}
use Rattle.std.specs.declared.option.Option.{Option}
use Rattle.std.specs.declared.ops.Range.{Range}
use Rattle.std.specs.Iterator.{YieldsThen}
use Rattle.std.specs.List.{FoldsTo, list_all, range_with_len}
use Rattle.std.specs.Option.{MatchOption}
use Rattle.std.proofs.iter.Yields.{nat_range_steps}
use Rattle.std.proofs.lemmas.Iterator.{YieldsList-from_range}
use Rattle.std.proofs.lemmas.Iterator.Search.{all_from_yields_List}
use Rattle.quorum.specs.Every.{every}

every_next : (f : ℕ → Bool) (a : ℕ) → every f (a + 1) ≡ every f a && f (a + 1)
unfolding every
every_next f a = rw (add-one a) refl

every_after : (f : ℕ → Bool) (a n m : ℕ) → m ≡ a + n → every f m ≡ every f a && list_all (λ k. f (k + 1)) (range_with_len a n)
every_after f a zero m e = let s : m ≡ a = omega arith in rw s (sym (and-true (every f a)))
every_after f a (suc n) m e =
    let rest : Bool = list_all (λ k. f (k + 1)) (range_with_len (a + 1) n) in
    every_after f (a + 1) n m (omega arith) ∙ ap (λ b. b && rest) (every_next f a) ∙ and_assoc (every f a) (f (a + 1)) rest

-- `(0..n).all(|k| test(k + 1))`
module _ {F : Type 0} {g : Mut F (ℕ × Unit {0}) Bool} {n : ℕ} {u : Range ℕ} {c : F} where
  pub every_asked : (f : ℕ → Bool) (r : Bool)
      → (xs : List ℕ) × (o : Option ℕ) × (j : F) × YieldsThen nat_range_steps (record { start = 0; end = n }) xs o u × FoldsTo (λ p x q. Called g p (x, tt) true q) c xs j × MatchOption o (r ≡ true) (λ x. (r ≡ false) × ((h : F) × Called g j (x, tt) false h))
      → ((x : ℕ) (b : Bool) (q : F) → Called g c (x, tt) b q → (q ≡ c) × (b ≡ f (x + 1))) → r ≡ every f n
  unfolding every
  every_asked f r ran asks =
      all_from_yields_List (λ k. f (k + 1)) u c r ran (YieldsList-from_range 0 n n refl (omega arith)) asks ∙ sym (every_after f 0 n n (omega arith))
