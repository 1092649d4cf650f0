-- What the view of a move shows: its values are accepted, and where it is one value, AUXs of weight W − ta carry that.
use Rattle.std.specs.Prelude.{ℕ, ◌≤◌, Bool, ◌&&◌, ◌||◌, List, ◌⊎◌, ◌≡◌, ltb}
use Rattle.std.proofs.Math.Bool.{true, false}
use Rattle.std.proofs.lemmas.Bool.{false≢true}
use Rattle.std.proofs.Common.{inl, inr, sym, ◌∙◌, arith}
use Rattle.std.proofs.Math.Path.{refl}
use borrow.Author.Tests.{lt-ltb, ltb-true}
use Rattle.quorum.specs.laws.Bools.{and_left, and_right, and_both}
use Rattle.settings.specs.Settings.{weighed, vote_quorum}
use Rattle.settings.specs.declared.Settings.{Settings}
use Rattle.quorum.specs.Weights.{weight_of}
use Rattle.quorum.specs.Whole.{weights_right}
use Rattle.quorum.specs.laws.Whole.{weight_low}
use Rattle.quorum.specs.laws.Total.{Member, total_mono, total_member, member_total}
use Rattle.records.specs.Records.{aux_held}
use Rattle.acts.specs.declared.View.{View}
use Rattle.acts.specs.declared.View.TheVariants.{Only, Both}
use Rattle.votes.specs.Votes.{accepted, carries, carriers, aux_count, carried, view_of, view, estimate}
use Rattle.votes.specs.laws.Told.{OnlyShown, Shown}

either_of : (a b : Bool) → a || b ≡ true → (a ≡ true) ⊎ (b ≡ true)
either_of true b e = inl refl
either_of false b e = inr e

module _ (g : Settings) (s : List ℕ) (i r : ℕ) where
  -- p's AUX carries b, which is accepted
  abbrev By : ℕ → ℕ → Type 0
  By b p = accepted g s i r b && aux_held s i r b p ≡ true

  -- a carrier's AUX carries 0 or 1, and that value is accepted
  pub carries_held : (p : ℕ) → carries g s i r p ≡ true → By 0 p ⊎ By 1 p
  unfolding carries
  carries_held p e = either_of (accepted g s i r 0 && aux_held s i r 0 p) (accepted g s i r 1 && aux_held s i r 1 p) e

module _ (g : Settings) (s : List ℕ) (i r : ℕ) (right : weights_right g.weights g.n ≡ true) where
  shows : (b p : ℕ) → 1 ≤ p → p ≤ g.n → By g s i r b p → carried g s i r b ≡ true
  unfolding carried aux_count
  shows b p low high e =
      let some : 1 ≤ weighed g (aux_held s i r b) =
      omega (arith, weight_low g.weights g.n right p low high, member_total (weight_of g.weights) (aux_held s i r b) g.n p low high (and_right (accepted g s i r b) (aux_held s i r b p) e)) in
      and_both (accepted g s i r b) (ltb 0 (weighed g (aux_held s i r b))) (and_left (accepted g s i r b) (aux_held s i r b p) e) (lt-ltb 0 (weighed g (aux_held s i r b)) (omega arith))

  carried_accepted : (b : ℕ) → carried g s i r b ≡ true → accepted g s i r b ≡ true
  unfolding carried
  carried_accepted b e = and_left (accepted g s i r b) (ltb 0 (aux_count g s i r b)) e

  carried_some : (b : ℕ) → carried g s i r b ≡ true → 1 ≤ aux_count g s i r b
  unfolding carried
  carried_some b e = ltb-true 0 (aux_count g s i r b) (and_right (accepted g s i r b) (ltb 0 (aux_count g s i r b)) e)

  module _ (some : 1 ≤ vote_quorum g) (enough : vote_quorum g ≤ carriers g s i r) where
    -- where each carrier carries b, b shows alone
    only_shown : (b : ℕ) → b ≤ 1 → ((p : ℕ) → 1 ≤ p → p ≤ g.n → By g s i r 0 p ⊎ By g s i r 1 p → By g s i r b p) → OnlyShown g s i r b
    unfolding carriers aux_count
    only_shown b bit each =
        let by : (p : ℕ) → 1 ≤ p → p ≤ g.n → carries g s i r p ≡ true → By g s i r b p = λ p low high c. each p low high (carries_held g s i r p c) in
        let most : weighed g (carries g s i r) ≤ weighed g (aux_held s i r b) =
        total_mono (weight_of g.weights) (carries g s i r) (aux_held s i r b) g.n (λ p low high c. and_right (accepted g s i r b) (aux_held s i r b p) (by p low high c)) in
        let m : Member g.n (carries g s i r) = total_member (weight_of g.weights) (carries g s i r) g.n (omega arith) in
        record {
          bit = bit;
          is_accepted = and_left (accepted g s i r b) (aux_held s i r b m.at) (by m.at m.low m.high m.holds);
          carried = omega arith;
        }

    pub view_shown : Shown g s i r (view g s i r)
    unfolding view
    view_shown = go (carried g s i r 0) refl (carried g s i r 1) refl
      where
        zero_carries : carried g s i r 1 ≡ false → (p : ℕ) → 1 ≤ p → p ≤ g.n → By g s i r 0 p ⊎ By g s i r 1 p → By g s i r 0 p
        zero_carries clear p low high (inl e) = e
        zero_carries clear p low high (inr e) = absurd (false≢true (sym clear ∙ shows 1 p low high e))

        one_carries : carried g s i r 0 ≡ false → (p : ℕ) → 1 ≤ p → p ≤ g.n → By g s i r 0 p ⊎ By g s i r 1 p → By g s i r 1 p
        one_carries clear p low high (inl e) = absurd (false≢true (sym clear ∙ shows 0 p low high e))
        one_carries clear p low high (inr e) = e

        go : (z : Bool) → carried g s i r 0 ≡ z → (o : Bool) → carried g s i r 1 ≡ o → Shown g s i r (view_of z o)
        go true e true f =
            record {
              zero_accepted = carried_accepted 0 e;
              one_accepted = carried_accepted 1 f;
              zero_carried = carried_some 0 e;
              one_carried = carried_some 1 f;
            }
        go true e false f = only_shown 0 (omega arith) (zero_carries f)
        go false e o f = only_shown 1 (omega arith) (one_carries e)

  -- a move's estimate is 0 or 1
  pub estimate_bit : (coin : Bool) (v : View) → Shown g s i r v → estimate coin v ≤ 1
  estimate_bit coin (Only b) x = x.bit
  estimate_bit true Both x = omega arith
  estimate_bit false Both x = omega arith
