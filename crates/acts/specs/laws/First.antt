-- The first act due of several, and what a loop keeps that looks for it.
use Rattle.std.specs.Prelude.{ℕ, ◌+◌, ◌≤◌, ◌<◌, Bool, true, false, cond, ◌≡◌, refl, eqb}
use Rattle.std.proofs.Common.{ap, ◌∙◌, arith}
use borrow.Author.Tests.{ne_eqb, eqb-false}
use Rattle.quorum.specs.Lowest.{lowest}
use Rattle.quorum.specs.laws.Lowest.{lowest_agree, lowest_le, Passed, passed_start, passed_next, passed_found, passed_missing}
use Rattle.acts.specs.Acts.{is_due, act_at, first_act}
use Rattle.acts.specs.declared.Act.{Act}
use Rattle.acts.specs.declared.Act.TheVariants.{Idle}

-- a loop `for k in 0..n { let a = f(k + 1); if is_due(a) { return a; } }` that has passed 1 to k
abbrev pub Quiet : (ℕ → Act) → ℕ → ℕ → Type 0
Quiet f n k = Passed (λ i. is_due (f i)) n k

pub quiet_start : (f : ℕ → Act) (n : ℕ) → Quiet f n 0
quiet_start f n = passed_start (λ i. is_due (f i)) n

module _ (f : ℕ → Act) (n k : ℕ) (a : Act) (b : Bool) (q : Quiet f n k) (l : k < n) (e : a ≡ f (k + 1)) (d : b ≡ is_due a) where
  due_here : b ≡ is_due (f (k + 1))
  due_here = d ∙ ap is_due e

  pub quiet_next : b ≡ false → Quiet f n (k + 1)
  quiet_next t = passed_next (λ i. is_due (f i)) n k b q l due_here t

  pub quiet_found : b ≡ true → a ≡ first_act f n
  unfolding first_act act_at
  quiet_found t =
      let p : k + 1 ≡ lowest (λ i. is_due (f i)) n = passed_found (λ i. is_due (f i)) n k b q l due_here t in
      rw (← p, ne_eqb (k + 1) 0 (λ z. omega arith)) e

pub quiet_done : (f : ℕ → Act) (n k : ℕ) → Quiet f n k → n ≤ k → Idle ≡ first_act f n
unfolding first_act act_at
quiet_done f n k q l =
    let p : 0 ≡ lowest (λ i. is_due (f i)) n = passed_missing (λ i. is_due (f i)) n k q l in
    rw (← p)

pub ruleset firsts = (quiet_start, quiet_next, quiet_found, quiet_done)

-- acts that agree on 1 to n have the same first
pub first_agree : (f h : ℕ → Act) (n : ℕ) → ((i : ℕ) → 1 ≤ i → i ≤ n → f i ≡ h i) → first_act f n ≡ first_act h n
unfolding first_act act_at
first_agree f h n e = rw (lowest_agree (λ i. is_due (f i)) (λ i. is_due (h i)) n (λ i a b. ap is_due (e i a b))) (at (eqb k 0) refl)
  where
    k : ℕ
    k = lowest (λ i. is_due (h i)) n

    at : (b : Bool) → eqb k 0 ≡ b → cond b Idle (f k) ≡ cond b Idle (h k)
    at true z = refl
    at false z = e k (omega (arith, eqb-false k 0 z)) (lowest_le (λ i. is_due (h i)) n)
