-- The calls of the session have small links and fields.
use Rattle.std.specs.Prelude.{ℕ, ◌+◌, ◌*◌, ◌-◌, ◌%◌, ◌<◌, Bool, true, false, cond, ◌≡◌, refl, eqb, ltb, Option, IfSome}
use native.Mathlib.Omega.{arith}
use Rattle.std.proofs.Common.{ltb-true}
use Rattle.costliest_calls.specs.laws.Sections.{Few, Small, joined, send_call, ready_call, est_call, aux_call, first_commit, turn_call, commit_call, no_call, later_call, call_of_many, call_of_one, call_of}
use Rattle.costliest_calls.specs.laws.Places.{sender_small, instance_small, voter_small, round_small}
use Rattle.costliest_calls.specs.declared.Call.{Call}

joined_small : (m : ℕ) (g h : ℕ → Option Call) → ((j : ℕ) → j < m → IfSome (g j) Small) → ((j : ℕ) → IfSome (h j) Small) → (j : ℕ) → IfSome (joined m g h j) Small
unfolding joined
joined_small m g h a b j = go (ltb j m) refl
  where
    go : (t : Bool) → ltb j m ≡ t → IfSome (cond t (g j) (h (j - m))) Small
    go true l = a j (ltb-true j m l)
    go false l = b (j - m)

module _ (n : ℕ) (f : Few n) where
  later_small : (j : ℕ) → IfSome (later_call n j) Small
  unfolding later_call Small
  later_small =
      joined_small 1 (first_commit n) _ (λ j l. (omega arith, omega arith, omega arith, f.most))
      (joined_small (99 * n + 2) turn_call _ (λ j l. tt)
      (joined_small (n - 1) (commit_call n) _ (λ j l. (omega (arith, f.most), omega arith, omega arith, f.most))
      (joined_small 1 turn_call no_call (λ j l. tt) (λ j. tt))))

  many_small : (j : ℕ) → IfSome (call_of_many n j) Small
  unfolding call_of_many Small
  many_small =
      joined_small n send_call _ (λ j l. (omega (arith, f.most), omega (arith, f.most), omega arith, omega arith))
      (joined_small (n * n) (ready_call n) _ (λ j l. (sender_small n j f, instance_small n j f l, omega arith, omega arith))
      (joined_small (64 * n) est_call _ (λ j l. (omega arith, omega (arith, f.most), omega arith, omega arith))
      (joined_small (32 * (n * n)) (aux_call n) _ (λ j l. (sender_small n (j % (32 * n)) f, voter_small n j f l, round_small n j f, omega arith))
      later_small)))

cond_small : (t : Bool) (a b : Option Call) → IfSome a Small → IfSome b Small → IfSome (cond t a b) Small
cond_small true a b x y = x
cond_small false a b x y = y

one_small : (k : ℕ) → IfSome (call_of_one k) Small
unfolding call_of_one Small
one_small k =
    cond_small (eqb k 2) _ _ (omega arith, omega arith, omega arith, omega arith)
    (cond_small (eqb k 4) _ _ (omega arith, omega arith, omega arith, omega arith)
    (cond_small (eqb k 6) _ _ (omega arith, omega arith, omega arith, omega arith)
    (cond_small (eqb k 8) _ _ (omega arith, omega arith, omega arith, omega arith)
    (cond_small (ltb k 10) _ _ tt tt))))

pub call_small : (n : ℕ) → Few n → (k : ℕ) → IfSome (call_of n k) Small
unfolding call_of Small
call_small n f k = cond_small (eqb k 0) _ _ tt (cond_small (eqb n 1) _ _ (one_small k) (many_small n f (k - 1)))
