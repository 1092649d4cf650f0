-- What the layers above use of the exits.
use Rattle.std.specs.Prelude.{ℕ, ◌*◌, ◌≤◌, Bool, ◌&&◌, ◌||◌, ◌≡◌, Option, Some, None}
use Rattle.std.proofs.Math.Bool.{true, false, not, cond}
use Rattle.std.proofs.lemmas.Bool.{false≢true}
use mathlib.Core.List.{[], ◌∷◌}
use Rattle.std.proofs.Math.Path.{refl}
use Rattle.std.proofs.Common.{ap, arith}
use Rattle.std.proofs.Math.Dec.{eqb, leb, ltb}
use Rattle.std.proofs.Math.ListN.{length}
use borrow.Author.Tests.{eqb-false}
use Rattle.settings.specs.Settings.{quorum}
use Rattle.settings.specs.declared.Settings.{Settings}
use Rattle.quorum.specs.Weights.{weight_of}
use Rattle.quorum.specs.laws.Total.{total_agree}
use Rattle.quorum.specs.laws.Lowest.{lowest_agree, lowest_le}
use Rattle.quorum.specs.Every.{every}
use Rattle.quorum.specs.laws.Every.{every_agree}
use Rattle.broadcasts.specs.Leading.{present}
use Rattle.exits.specs.Exits.{Exit, no_exit, naming, has_value, value_in, every_broadcast, with_output, size_s, exit1_at, exit2_at, exit3_full, exit3, exit_of, votes_done}
use Rattle.exits.specs.laws.Stated.{single_exit, outputs_exit}
use Rattle.exits.specs.laws.Rising.{Rising, outputs_rising, outputs_few, outputs_agree}
use Rattle.exits.proofs.laws.Ways.{Way, first, second, third, none, way}

pub number_clash : (x y : Exit) → x ≡ y → (x.number ≡ y.number → ⊥) → ⊥
number_clash x y e f = f (ap (λ (z : Exit). z.number) e)

-- a broadcast that has to have output has one
pub given : (b : Bool) (x : Option ℕ) → not b || present x ≡ true → b ≡ true → x ≡ Some (value_in x)
given true (Some v) e t = refl
given true None e t = absurd (false≢true e)
given false x e t = absurd (false≢true t)

module _ (g : Settings) (o : ℕ → Option ℕ) (as0 as1 : ℕ → Bool) where
  abbrev answer : Exit
  answer = exit_of g o as0 as1

  -- every named set rises strictly
  pub names_rising : Rising answer.names
  unfolding single_exit outputs_exit no_exit
  names_rising = go answer (way g o as0 as1)
    where
      go : (x : Exit) → Way g o as0 as1 x → Rising x.names
      go x (first v ne f e) = rw e tt
      go x (second v a d s e) = rw e tt
      go x (third a d z f e) = rw e (outputs_rising o as1 g.n)
      go x (none a e) = rw e tt

  -- and has at most n values
  pub names_few : length answer.names ≤ g.n
  unfolding single_exit outputs_exit no_exit
  names_few = go answer (way g o as0 as1)
    where
      go : (x : Exit) → Way g o as0 as1 x → length x.names ≤ g.n
      go x (first v ne f e) = rw e (omega (arith, f.low, f.high))
      go x (second v a d s e) = rw e (omega (arith, s.low, s.high))
      go x (third a d z f e) = rw e (outputs_few o as1 g.n)
      go x (none a e) = rw e (omega arith)

exit1_le : (g : Settings) (o : ℕ → Option ℕ) → exit1_at g o ≤ g.n
unfolding exit1_at
exit1_le g o = lowest_le _ g.n

exit2_le : (g : Settings) (o : ℕ → Option ℕ) (as1 : ℕ → Bool) → exit2_at g o as1 ≤ g.n
unfolding exit2_at
exit2_le g o as1 = lowest_le _ g.n

-- outputs and decisions that agree on 1 to n give the same exit
module _ (g : Settings) (o p : ℕ → Option ℕ) (as0 as1 bs0 bs1 : ℕ → Bool) (same : (i : ℕ) → 1 ≤ i → i ≤ g.n → o i ≡ p i) (same1 : (i : ℕ) → 1 ≤ i → i ≤ g.n → as1 i ≡ bs1 i) where
  with_agree : (test rest : ℕ → Bool) (v : ℕ) → ((i : ℕ) → 1 ≤ i → i ≤ g.n → test i ≡ rest i) → with_output g o test v ≡ with_output g p rest v
  unfolding with_output
  with_agree test rest v h = total_agree (weight_of g.weights) (λ i. test i && has_value (o i) v) (λ i. rest i && has_value (p i) v) g.n (λ i a b. rw (same i a b, h i a b))

  size_agree : size_s g as1 ≡ size_s g bs1
  unfolding size_s
  size_agree = total_agree (weight_of g.weights) as1 bs1 g.n same1

  pub exit1_agree : exit1_at g o ≡ exit1_at g p
  unfolding exit1_at
  exit1_agree =
      lowest_agree (λ i. present (o i) && leb (quorum g) (with_output g o every_broadcast (value_in (o i)))) (λ i. present (p i) && leb (quorum g) (with_output g p every_broadcast (value_in (p i)))) g.n
      (λ i a b. rw (same i a b, with_agree every_broadcast every_broadcast (value_in (p i)) (λ k c d. refl)))

  exit2_agree : exit2_at g o as1 ≡ exit2_at g p bs1
  unfolding exit2_at
  exit2_agree =
      lowest_agree (λ i. as1 i && (present (o i) && ltb (size_s g as1) (2 * with_output g o as1 (value_in (o i))))) (λ i. bs1 i && (present (p i) && ltb (size_s g bs1) (2 * with_output g p bs1 (value_in (p i))))) g.n
      (λ i a b. rw (same i a b, same1 i a b, size_agree, with_agree as1 bs1 (value_in (p i)) same1))

  full_agree : exit3_full g o as1 ≡ exit3_full g p bs1
  unfolding exit3_full
  full_agree = every_agree (λ i. not (as1 i) || present (o i)) (λ i. not (bs1 i) || present (p i)) g.n (λ i a b. rw (same i a b, same1 i a b))

  third_agree : exit3 g o as1 ≡ exit3 g p bs1
  unfolding exit3
  third_agree = rw (full_agree, outputs_agree o p as1 bs1 g.n (λ i a b xs. rw (same i a b, same1 i a b)))

  naming_agree : (k i j : ℕ) (x y : Exit) → i ≡ j → i ≤ g.n → x ≡ y → naming k o i x ≡ naming k p j y
  unfolding naming
  naming_agree k i j x y e h z = rw (← e, z) (go (eqb i 0) refl)
    where
      go : (b : Bool) → eqb i 0 ≡ b → cond b y (record { number = k; names = value_in (o i) ∷ [] }) ≡ cond b y (record { number = k; names = value_in (p i) ∷ [] })
      go true q = refl
      go false q = rw (same i (omega (arith, eqb-false i 0 q)) h)

  pub exit_agree : ((i : ℕ) → 1 ≤ i → i ≤ g.n → as0 i ≡ bs0 i) → exit_of g o as0 as1 ≡ exit_of g p bs0 bs1
  unfolding exit_of votes_done
  exit_agree same0 =
      let decided : every (λ i. as0 i || as1 i) g.n ≡ every (λ i. bs0 i || bs1 i) g.n = every_agree (λ i. as0 i || as1 i) (λ i. bs0 i || bs1 i) g.n (λ i a b. rw (same0 i a b, same1 i a b)) in
      let done : votes_done g as0 as1 ≡ votes_done g bs0 bs1 = rw (size_agree, decided) in
      let later : naming 2 o (exit2_at g o as1) (exit3 g o as1) ≡ naming 2 p (exit2_at g p bs1) (exit3 g p bs1) = naming_agree 2 _ _ _ _ exit2_agree (exit2_le g o as1) third_agree in
      naming_agree 1 _ _ _ _ exit1_agree (exit1_le g o) (rw (done, later))
