-- Which of two values was accepted first, as facts about truth values: z and o tell whether 0 and 1 are accepted now, m whether the mark stands,
-- a and b whether at some moment so far 0 and 1 were accepted alone.
use Rattle.std.specs.Prelude.{Bool, true, false, ◌&&◌, ◌||◌, not, ◌⊎◌, ◌≡◌, refl}
use Rattle.std.proofs.Math.Bool.{or-false}
use Rattle.std.proofs.Common.{true≢false, inl, inr, sym, ◌∙◌}
use Rattle.std.proofs.lemmas.Bool.{false≢true}
use Rattle.quorum.specs.laws.Bools.{or_right}

pub record Facts (z o m a b : Bool) : Type 0 where
  pub marked : m ≡ b
  pub zero_stays : a ≡ true → z ≡ true
  pub one_stays : b ≡ true → o ≡ true
  pub zero_first_known : z ≡ true → (a ≡ true) ⊎ (b ≡ true)
  pub one_first_known : o ≡ true → (a ≡ true) ⊎ (b ≡ true)
  pub apart : a ≡ true → b ≡ true → ⊥

pub none_yet : Facts false false false false false
none_yet =
    record {
      marked = refl;
      zero_stays = λ e. e;
      one_stays = λ e. e;
      zero_first_known = λ e. absurd (false≢true e);
      one_first_known = λ e. absurd (false≢true e);
      apart = λ e f. false≢true e;
    }

-- what a call may change: no accepted value goes; 1 and the mark stay, or 0 stays and the mark is set where 1 is alone
pub record Change (z o m z' o' m' : Bool) : Type 0 where
  pub zero : z ≡ true → z' ≡ true
  pub one : o ≡ true → o' ≡ true
  pub single : ((o' ≡ o) × (m' ≡ m)) ⊎ ((z' ≡ z) × (m' ≡ (m || (o' && not z'))))

module _ (z o m m' a b : Bool) (f : Facts z o m a b) where
  -- one of the values was accepted before: one of the two was first
  first_known : (z' o' : Bool) → Change z o m z' o' m' → z' ≡ true → o' ≡ true → (a ≡ true) ⊎ (b ≡ true)
  first_known z' o' c p q = of c.single
    where
      of : ((o' ≡ o) × (m' ≡ m)) ⊎ ((z' ≡ z) × (m' ≡ (m || (o' && not z')))) → (a ≡ true) ⊎ (b ≡ true)
      of (inl s) = f.one_first_known (sym s.0 ∙ q)
      of (inr s) = f.zero_first_known (sym s.0 ∙ p)

  -- 1 is not alone: the mark stays
  unmoved : (z' o' : Bool) → Change z o m z' o' m' → (o' && not z') ≡ false → m' ≡ b
  unmoved z' o' c p = of c.single
    where
      of : ((o' ≡ o) × (m' ≡ m)) ⊎ ((z' ≡ z) × (m' ≡ (m || (o' && not z')))) → m' ≡ b
      of (inl s) = s.1 ∙ f.marked
      of (inr s) = s.1 ∙ rw p (or-false m) ∙ f.marked

  -- 1 is alone: it is marked
  moved : Change z o m false true m' → m' ≡ true
  moved c = of c.single
    where
      was : (a ≡ true) ⊎ (b ≡ true) → b ≡ true
      was (inl e) = absurd (false≢true (c.zero (f.zero_stays e)))
      was (inr e) = e

      of : ((true ≡ o) × (m' ≡ m)) ⊎ ((false ≡ z) × (m' ≡ (m || (true && not false)))) → m' ≡ true
      of (inl s) = s.1 ∙ f.marked ∙ was (f.one_first_known (sym s.0))
      of (inr s) = s.1 ∙ or_right m true refl

  -- the facts one moment later
  pub facts_next : (z' o' : Bool) → Change z o m z' o' m' → Facts z' o' m' ((z' && not o') || a) ((o' && not z') || b)
  facts_next true true c =
      record {
        marked = unmoved true true c refl;
        zero_stays = λ e. refl;
        one_stays = λ e. refl;
        zero_first_known = λ e. first_known true true c refl refl;
        one_first_known = λ e. first_known true true c refl refl;
        apart = f.apart;
      }
  facts_next true false c =
      record {
        marked = unmoved true false c refl;
        zero_stays = λ e. refl;
        one_stays = λ e. c.one (f.one_stays e);
        zero_first_known = λ e. inl refl;
        one_first_known = λ e. inl refl;
        apart = λ e g. false≢true (c.one (f.one_stays g));
      }
  facts_next false true c =
      record {
        marked = moved c;
        zero_stays = λ e. c.zero (f.zero_stays e);
        one_stays = λ e. refl;
        zero_first_known = λ e. inr refl;
        one_first_known = λ e. inr refl;
        apart = λ e g. false≢true (c.zero (f.zero_stays e));
      }
  facts_next false false c =
      record {
        marked = unmoved false false c refl;
        zero_stays = λ e. c.zero (f.zero_stays e);
        one_stays = λ e. c.one (f.one_stays e);
        zero_first_known = λ e. absurd (false≢true e);
        one_first_known = λ e. absurd (false≢true e);
        apart = f.apart;
      }

module _ (z o m a b : Bool) (f : Facts z o m a b) where
  -- 0 is accepted, and where 1 is so too there is no mark: 0 was first
  pub zero_first : z ≡ true → (o ≡ true → m ≡ false) → (a ≡ true) × (b ≡ false)
  zero_first p q = of b refl
    where
      of : (c : Bool) → b ≡ c → (a ≡ true) × (b ≡ false)
      of true e = absurd (true≢false (sym e ∙ sym f.marked ∙ q (f.one_stays e)))
      of false e = (by (f.zero_first_known p), e)
        where
          by : (a ≡ true) ⊎ (b ≡ true) → a ≡ true
          by (inl g) = g
          by (inr g) = absurd (false≢true (sym e ∙ g))

  -- 1 is accepted, and where 0 is so too there is a mark: 1 was first
  pub one_first_lem : o ≡ true → (z ≡ true → m ≡ true) → (b ≡ true) × (a ≡ false)
  one_first_lem p q = of a refl
    where
      of : (c : Bool) → a ≡ c → (b ≡ true) × (a ≡ false)
      of true e = absurd (f.apart e (sym f.marked ∙ q (f.zero_stays e)))
      of false e = (by (f.one_first_known p), e)
        where
          by : (a ≡ true) ⊎ (b ≡ true) → b ≡ true
          by (inl g) = absurd (false≢true (sym e ∙ g))
          by (inr g) = g
