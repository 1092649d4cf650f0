-- What a named set has to do with the outputs of good broadcasts, where all but ts are good, whatever the votes.
use Rattle.std.specs.Prelude.{ℕ, ◌+◌, ◌<◌, ◌≤◌, Bool, true, not, ◌&&◌, ◌≡◌, refl, Some}
use mathlib.Core.List.{List, [], ◌∷◌, Memᴰ}
use Rattle.std.proofs.Math.Path.{sym}
use Rattle.std.proofs.Common.{ap, ◌∙◌, arith}
use Rattle.quorum.specs.laws.Bools.{and_left, and_right, and_both}
use Rattle.settings.specs.Rules.{Ruled}
use Rattle.settings.specs.Settings.{weighed}
use Rattle.settings.specs.declared.Settings.{Settings}
use Rattle.quorum.specs.Total.{everyone}
use Rattle.quorum.specs.Weights.{weight_of}
use Rattle.quorum.specs.Whole.{whole_of}
use Rattle.quorum.specs.laws.Total.{Member, total_member, total_meet, total_mono, total_not}
use Rattle.exits.specs.laws.Rising.{outputs_has}
use Rattle.exits.proofs.laws.Ways.{First, Second}
use Rattle.exits.specs.Exits.{value_in, outputs_of_s}
use Rattle.exits.specs.Standing.{Standing, exit_at}
use Rattle.exits.proofs.laws.Agree.{holding, both, Done, Full, Naming, by1, by2, by3, naming_of, has_value_lem, value_has, first_many, second_more, done_size, full_given, no_majority}

-- a good broadcast with output v
pub record Fair (g : Settings) (good : ℕ → Bool) (s : Standing) (v : ℕ) : Type 0 where
  pub at : ℕ
  pub low : 1 ≤ at
  pub high : at ≤ g.n
  pub fair : good at ≡ true
  pub output : s.out at ≡ Some v

-- a set that has the output of a good broadcast
pub record FairIn (g : Settings) (good : ℕ → Bool) (s : Standing) (X : List ℕ) : Type 0 where
  pub value : ℕ
  pub fair : Fair g good s value
  pub member : Memᴰ value X

module _ (g : Settings) (r : Ruled g) (good : ℕ → Bool) (few : weighed g (λ i. not (good i)) ≤ g.ts) (s : Standing) where
  whole : weighed g everyone ≡ g.whole
  unfolding whole_of
  whole = sym r.sum

  heavy : g.whole ≤ weighed g good + g.ts
  heavy = omega (arith, total_not (weight_of g.weights) good g.n, whole)

  -- broadcasts of more than ts have a good one among them
  good_member : (M : ℕ → Bool) → g.ts < weighed g M → Member g.n (λ i. M i && good i)
  good_member M l = total_member (weight_of g.weights) (λ i. M i && good i) g.n (omega (arith, total_meet (weight_of g.weights) M good g.n, heavy, whole))

  fair_holder : (v : ℕ) (M : ℕ → Bool) → ((i : ℕ) → M i ≡ true → holding s v i ≡ true) → g.ts < weighed g M → Fair g good s v
  fair_holder v M f l = at (good_member M l)
    where
      at : Member g.n (λ i. M i && good i) → Fair g good s v
      at m =
          record {
            at = m.at;
            low = m.low;
            high = m.high;
            fair = and_right (M m.at) (good m.at) m.holds;
            output = has_value_lem (s.out m.at) v (f m.at (and_left (M m.at) (good m.at) m.holds));
          }

  fair1 : (v : ℕ) → First g s.out v → Fair g good s v
  fair1 v x = fair_holder v (holding s v) (λ i k. k) (omega (arith, r.margin, first_many g s v x))

  fair2 : (v : ℕ) → Done g s → Second g s.out s.as1 v → Fair g good s v
  fair2 v d x = fair_holder v (both s v) (λ i k. and_right (s.as1 i) (holding s v i) k) (omega (arith, r.margin, second_more g s v x, done_size g s d))

  -- S has a good broadcast, and Exit 3 names its output
  fair3 : (X : List ℕ) → Done g s → Full g s → X ≡ outputs_of_s s.out s.as1 g.n → FairIn g good s X
  fair3 X d f e = at (good_member s.as1 (omega (arith, r.margin, done_size g s d)))
    where
      at : Member g.n (λ i. s.as1 i && good i) → FairIn g good s X
      at m =
          let chosen : s.as1 m.at ≡ true = and_left (s.as1 m.at) (good m.at) m.holds in
          let output : s.out m.at ≡ Some (value_in (s.out m.at)) = full_given g s f m.at m.low m.high chosen in
          record {
            value = value_in (s.out m.at);
            fair = record { at = m.at; low = m.low; high = m.high; fair = and_right (s.as1 m.at) (good m.at) m.holds; output = output };
            member = rw e (outputs_has s.out s.as1 g.n m.at (value_in (s.out m.at)) m.low m.high chosen output);
          }

  fair_one : (X : List ℕ) (v : ℕ) → Fair g good s v → X ≡ v ∷ [] → FairIn g good s X
  fair_one X v x e = record { value = v; fair = x; member = rw e (Memᴰ.head refl) }

  naming_fair : (X : List ℕ) → Naming g s X → FairIn g good s X
  naming_fair X (by1 v x e) = fair_one X v (fair1 v x) e
  naming_fair X (by2 v d x e) = fair_one X v (fair2 v d x) e
  naming_fair X (by3 d z f e) = fair3 X d f e

  -- a named set has the output of a good broadcast
  pub named_fair : ((exit_at g s).number ≡ 0 → ⊥) → FairIn g good s (exit_at g s).names
  named_fair ne = naming_fair (exit_at g s).names (naming_of g s ne)

  module _ (v : ℕ) (same : (i u : ℕ) → 1 ≤ i → i ≤ g.n → good i ≡ true → s.out i ≡ Some u → u ≡ v) where
    fair_same : (u : ℕ) → Fair g good s u → u ≡ v
    fair_same u x = same x.at u x.low x.high x.fair x.output

    good_holds : Full g s → (i : ℕ) → 1 ≤ i → i ≤ g.n → s.as1 i && good i ≡ true → both s v i ≡ true
    good_holds f i a b k =
        let chosen : s.as1 i ≡ true = and_left (s.as1 i) (good i) k in
        let there : s.out i ≡ Some (value_in (s.out i)) = full_given g s f i a b chosen in
        let e : value_in (s.out i) ≡ v = same i (value_in (s.out i)) a b (and_right (s.as1 i) (good i) k) there in
        and_both (s.as1 i) (holding s v i) chosen (value_has (s.out i) v (there ∙ ap Some e))

    naming_only : (X : List ℕ) → Naming g s X → X ≡ v ∷ []
    naming_only X (by1 u x e) = let q : u ≡ v = fair_same u (fair1 u x) in cc
    naming_only X (by2 u d x e) = let q : u ≡ v = fair_same u (fair2 u d x) in cc
    naming_only X (by3 d z f e) =
        absurd (no_majority g s z v
        (omega (
          arith,
          r.margin,
          total_meet (weight_of g.weights) s.as1 good g.n,
          total_mono (weight_of g.weights) (λ i. s.as1 i && good i) (both s v) g.n (good_holds f),
          heavy,
          whole,
          done_size g s d,
        )))

    -- where all outputs of good broadcasts are v, only v is named
    pub named_only : ((exit_at g s).number ≡ 0 → ⊥) → (exit_at g s).names ≡ v ∷ []
    named_only ne = naming_only (exit_at g s).names (naming_of g s ne)
