-- What deliveries mark beside their messages, and what that leaves: which value was accepted first, and the decision that FINISHes make.
use Rattle.std.specs.Prelude.{ℕ, ◌≤◌, Bool, ◌&&◌, not, cond, List, ◌⊎◌, ◌≢◌, ◌≡◌, eqb, leb, length}
use Rattle.std.proofs.Math.Bool.{true, false}
use Rattle.std.proofs.Math.Logic.{inl, inr}
use Rattle.std.proofs.Math.Path.{refl}
use Rattle.std.proofs.Common.{leb-true}
use Rattle.std.proofs.lemmas.Bool.{not-true}
use Rattle.quorum.specs.laws.Bools.{and_left, and_right}
use Rattle.settings.specs.Settings.{accept}
use Rattle.settings.specs.declared.Settings.{Settings}
use Rattle.records.specs.Layout.{one_first_at, decided_zero_at, decided_one_at}
use Rattle.records.specs.Records.{decided}
use Rattle.records.specs.Words.{word, marked, set_mark}
use Rattle.records.specs.laws.Words.{length_set_mark, word_set_mark_other, marked_kept}
use Rattle.records.specs.laws.Bounds.{Fit, fit_set_mark}
use Rattle.records.specs.Writing.{with_decision}
use Rattle.votes.specs.Votes.{one_alone}
use Rattle.votes.specs.Finishing.{finish_count, finish_decides}
use Rattle.delivery.specs.Delivery.{first_noted, finish_settled}

-- mark q of word k, set where d holds
module _ (d : Bool) (s : List ℕ) (k q : ℕ) where
  given_word : (a : ℕ) → a ≢ k → word (cond d (set_mark s k q) s) a ≡ word s a
  given_word a n = by d
    where
      by : (c : Bool) → word (cond c (set_mark s k q) s) a ≡ word s a
      by true = word_set_mark_other s k q a n
      by false = refl

  given_length : length (cond d (set_mark s k q) s) ≡ length s
  given_length = by d
    where
      by : (c : Bool) → length (cond c (set_mark s k q) s) ≡ length s
      by true = length_set_mark s k q
      by false = refl

  given_fit : Fit s → Fit (cond d (set_mark s k q) s)
  given_fit f = by d
    where
      by : (c : Bool) → Fit (cond c (set_mark s k q) s)
      by true = fit_set_mark s k q f
      by false = f

  given_kept : (a j : ℕ) → marked s a j ≡ true → marked (cond d (set_mark s k q) s) a j ≡ true
  given_kept a j e = by d
    where
      by : (c : Bool) → marked (cond c (set_mark s k q) s) a j ≡ true
      by true = marked_kept s k q a j e
      by false = e

-- the mark of the value accepted first
module _ (g : Settings) (s : List ℕ) (i r b : ℕ) where
  abbrev noted : Bool
  noted = eqb b 1 && one_alone g s i r

  pub noted_word : (a : ℕ) → a ≢ one_first_at i → word (first_noted g s i r b) a ≡ word s a
  unfolding first_noted
  noted_word a n = given_word noted s (one_first_at i) r a n

  pub noted_length : length (first_noted g s i r b) ≡ length s
  unfolding first_noted
  noted_length = given_length noted s (one_first_at i) r

  pub noted_fit : Fit s → Fit (first_noted g s i r b)
  unfolding first_noted
  noted_fit f = given_fit noted s (one_first_at i) r f

  -- no mark goes
  pub noted_kept : (a j : ℕ) → marked s a j ≡ true → marked (first_noted g s i r b) a j ≡ true
  unfolding first_noted
  noted_kept a j e = given_kept noted s (one_first_at i) r a j e

-- vote i is decided b by the FINISHes of b that are held in s
pub record FinishDecided (g : Settings) (s : List ℕ) (i b : ℕ) : Type 0 where
  pub open_vote : decided s i ≡ false
  pub enough : accept g ≤ finish_count g s i b

pub finish_decided_told : (g : Settings) (s : List ℕ) (i b : ℕ) → finish_decides g s i b ≡ true → FinishDecided g s i b
unfolding finish_decides
finish_decided_told g s i b e =
    record {
      open_vote = not-true (decided s i) (and_left (not (decided s i)) (leb (accept g) (finish_count g s i b)) e);
      enough = leb-true (accept g) (finish_count g s i b) (and_right (not (decided s i)) (leb (accept g) (finish_count g s i b)) e);
    }

module _ (g : Settings) (s : List ℕ) (i b : ℕ) where
  -- nothing is done, or the vote is decided
  pub settled_either : (finish_settled g s i b ≡ s) ⊎ ((finish_settled g s i b ≡ with_decision s i b) × FinishDecided g s i b)
  unfolding finish_settled
  settled_either = by (finish_decides g s i b) refl
    where
      by : (d : Bool) → finish_decides g s i b ≡ d → (cond (finish_decides g s i b) (with_decision s i b) s ≡ s) ⊎ ((cond (finish_decides g s i b) (with_decision s i b) s ≡ with_decision s i b) × FinishDecided g s i b)
      by true e = inr (rw e, finish_decided_told g s i b e)
      by false e = inl (rw e)

  abbrev decision : ℕ
  decision = cond (eqb b 0) decided_zero_at decided_one_at

  not_decision : (a : ℕ) → a ≢ decided_zero_at → a ≢ decided_one_at → a ≢ decision
  not_decision a z o = by (eqb b 0)
    where
      by : (t : Bool) → a ≢ cond t decided_zero_at decided_one_at
      by true = z
      by false = o

  pub settled_word : (a : ℕ) → a ≢ decided_zero_at → a ≢ decided_one_at → word (finish_settled g s i b) a ≡ word s a
  unfolding finish_settled
  settled_word a z o = given_word (finish_decides g s i b) s decision i a (not_decision a z o)

  pub settled_length : length (finish_settled g s i b) ≡ length s
  unfolding finish_settled
  settled_length = given_length (finish_decides g s i b) s decision i

  pub settled_fit : Fit s → Fit (finish_settled g s i b)
  unfolding finish_settled
  settled_fit f = given_fit (finish_decides g s i b) s decision i f

  -- no mark goes
  pub settled_kept : (k q : ℕ) → marked s k q ≡ true → marked (finish_settled g s i b) k q ≡ true
  unfolding finish_settled
  settled_kept k q e = given_kept (finish_decides g s i b) s decision i k q e
