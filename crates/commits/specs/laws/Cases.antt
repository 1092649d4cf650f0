-- The cases of the code.
use Rattle.std.specs.Prelude.{ℕ, zero, suc, ◌+◌, ◌-◌, ◌^◌, min, ◌≤◌, ◌<◌, Bool, true, false, ◌&&◌, not, List, ◌≡◌, refl, eqb, leb, ltb}
use Rattle.std.proofs.Math.Bool.{and-false}
use Rattle.std.proofs.Common.{sym, ◌∙◌, arith}
use borrow.Author.Tests.{eq-eqb, ne_eqb, lt-leb, lt-ltb}
use Rattle.settings.specs.Settings.{weighed}
use Rattle.settings.specs.declared.Settings.{Settings}
use Rattle.settings.specs.laws.Counting.{counting}
use Rattle.quorum.specs.laws.Bools.{and_left}
use Rattle.quorum.specs.Marks.{mark}
use Rattle.quorum.specs.Marking.{MarksOf}
use Rattle.quorum.specs.laws.Marking.{others_weighed}
use Rattle.quorum.specs.Weights.{weight_of}
use Rattle.quorum.specs.laws.Total.{total_mono, total_agree}
use Rattle.quorum.specs.Lowest.{lowest}
use Rattle.quorum.specs.laws.Lowest.{none_lowest}
use Rattle.quorum.specs.Every.{every}
use Rattle.records.specs.Words.{word, equal_at}
use Rattle.records.specs.Records.{commit_count, commit_value}
use Rattle.commits.specs.Commits.{commit_held, same_set, set_holders, set_leads, set_leader}
use Rattle.commits.specs.laws.Commits.{commits_held}

module _ (s : List ℕ) (p q : ℕ) where
  pub counts_differ : (n m : ℕ) → n ≡ commit_count s p → m ≡ commit_count s q → (n ≡ m → ⊥) → false ≡ same_set s p q
  unfolding same_set
  counts_differ n m e f h = rw (← e, ← f, ne_eqb n m h)

  pub sets_compared : (n m : ℕ) (b : Bool) → n ≡ commit_count s p → m ≡ commit_count s q → n ≡ m → b ≡ every (λ k. eqb (commit_value s p k) (commit_value s q k)) n → b ≡ same_set s p q
  unfolding same_set
  sets_compared n m b e f h g = rw (← e, ← f, eq-eqb n m h) g

  pub set_compared : (b c : Bool) → b ≡ commit_held s q → b ≡ true → c ≡ same_set s p q → c ≡ (commit_held s q && same_set s p q)
  set_compared b c e t f = rw (← e, t) f

  pub set_missing : (b : Bool) → b ≡ commit_held s q → b ≡ false → false ≡ (commit_held s q && same_set s p q)
  set_missing b e t = rw (← e, t)

pub holders_counted : (g : Settings) (s : List ℕ) (p c : ℕ) → c ≡ weighed g (λ q. commit_held s q && same_set s p q) → c ≡ set_holders g s p
unfolding set_holders
holders_counted g s p c e = e

module _ (g : Settings) (s : List ℕ) (k p : ℕ) where
  pub leads_compared : (b : Bool) (c : ℕ) → b ≡ commit_held s p → b ≡ true → c ≡ set_holders g s p → leb k c ≡ set_leads g s k p
  unfolding set_leads
  leads_compared b c e t f = rw (← e, t, ← f)

  pub leads_missing : (b : Bool) → b ≡ commit_held s p → b ≡ false → false ≡ set_leads g s k p
  unfolding set_leads
  leads_missing b e t = rw (← e, t)

pub leader_found : (g : Settings) (s : List ℕ) (k p : ℕ) → p ≡ lowest (λ q. set_leads g s k q) g.n → p ≡ set_leader g s k
unfolding set_leader
leader_found g s k p e = e

-- of the settings only n and the weights are read
pub leader_counted : (g : Settings) (s : List ℕ) (k p : ℕ) → p ≡ set_leader (counting g.n g.weights) s k → p ≡ set_leader g s k
unfolding set_leader set_leads set_holders
leader_counted g s k p e = e

-- a sender of whom no COMMIT is held has the count 0
counts_none : (x : ℕ) → not (eqb x 0) ≡ ltb 0 (min x 16)
counts_none zero = refl
counts_none (suc x) = rw (ne_eqb (suc x) 0 (λ e. omega arith), lt-ltb 0 (min (suc x) 16) (omega arith))

pub commits_counted : (g : Settings) (s : List ℕ) (m c : ℕ) → MarksOf (equal_at s 120 0) g.n m → m < 2 ^ 64 → g.weights < 2 ^ 64 → c ≡ weighed g (λ p. mark (18446744073709551615 - m) (0 + p)) → c ≡ commits_held g s
unfolding commits_held commit_held commit_count equal_at
commits_counted g s m c i f h e =
    e ∙ others_weighed (equal_at s 120 0) g.n m g.weights i f h
    ∙ total_agree (weight_of g.weights) (λ p. not (equal_at s 120 0 p)) (λ p. commit_held s p) g.n (λ p lo hi. let at : 120 + (p - 1) ≡ 119 + p = omega arith in rw at (counts_none (word s (119 + p))))

-- fewer than k COMMITs are held
pub leader_none : (g : Settings) (s : List ℕ) (k c : ℕ) → c ≡ commits_held g s → c < k → 0 ≡ set_leader g s k
unfolding commits_held set_leader set_leads set_holders
leader_none g s k c e l = sym (none_lowest (set_leads g s k) g.n none)
  where
    fewer : (p : ℕ) → weighed g (λ q. commit_held s q && same_set s p q) ≤ weighed g (λ q. commit_held s q)
    fewer p = total_mono (weight_of g.weights) (λ q. commit_held s q && same_set s p q) (λ q. commit_held s q) g.n (λ q a b h. and_left (commit_held s q) (same_set s p q) h)

    none : (p : ℕ) → 1 ≤ p → p ≤ g.n → set_leads g s k p ≡ false
    none p a b = rw (lt-leb k (weighed g (λ q. commit_held s q && same_set s p q)) (omega (arith, fewer p))) (and-false (commit_held s p))

pub ruleset commit_cases = (counts_differ, sets_compared, set_compared, set_missing, holders_counted, leads_compared, leads_missing, leader_found, commits_counted, leader_none)
