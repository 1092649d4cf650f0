-- The cases of the code.
use Rattle.std.specs.Prelude.{ℕ, ◌+◌, ◌<◌, Bool, not, List, Option, Some, None, Result, Ok, Err, eqb}
use Rattle.settings.specs.declared.refusal.Refusal.{Refusal}
use Rattle.settings.specs.laws.Answers.{taken_true, refused_false}
use mir.Val.{bool_byte}
use Rattle.std.proofs.Math.Bool.{true, false, cond}
use Rattle.std.proofs.Math.Path.{◌≡◌, refl, ap}
use Rattle.std.proofs.Common.{sym, ◌∙◌, arith, Fits}
use borrow.Author.Tests.{eq-eqb, ne_eqb, not-true, not-false}
use Rattle.std.specs.Int.{w8}
use Rattle.settings.specs.declared.refusal.Refusal.TheVariants as refusal
use Rattle.records.specs.Words.{word, marked}
use Rattle.records.specs.Layout.{n_at}
use Rattle.records.specs.Records.{closed}
use Rattle.session.specs.Session.{is_state, stored, session_of, session_with, settings_of}
use Rattle.session.specs.laws.Session.{state_is, held_read}
use Rattle.session.specs.declared.Session.{Session}
use Rattle.recording.specs.Recording.{bit_mark, other_mark, in_layout, unopposed, recordable, record_answer, with_bit, recorded_words}
use Rattle.recording.specs.laws.Recording.{Within, within, accepted}

-- the answer where the words are a state of n concentrators
unfoldable pub running_answer : List ℕ → ℕ → ℕ → ℕ → ℕ → Result (Unit {0}) Refusal
running_answer s n i r b = cond (closed s) (Err refusal.Closed) (cond (not (recordable s n i r b)) (Err refusal.Coin) (Ok tt))

module _ (r b : ℕ) where
  pub bit_one : b ≡ 1 → r ≡ bit_mark r b
  unfolding bit_mark
  bit_one e = rw (eq-eqb b 1 e)

  pub bit_zero : (b ≡ 1 → ⊥) → 32 + r ≡ bit_mark r b
  unfolding bit_mark
  bit_zero e = rw (ne_eqb b 1 e)

pub ruleset mark_cases = (bit_one, bit_zero)

-- the other bit of b is 1 where b is not
pub other_bit : (r b x m : ℕ) → x ≡ bool_byte (not (eqb b 1)) → m ≡ bit_mark r x → m ≡ other_mark r b
unfolding bit_mark other_mark
other_bit r b x m e h = h ∙ rw e (go (eqb b 1))
  where
    go : (t : Bool) → cond (eqb (bool_byte (not t)) 1) r (32 + r) ≡ cond t (32 + r) r
    go true = refl
    go false = refl

pub other_unmarked : (s : List ℕ) (i r b m : ℕ) (x : Bool) → m ≡ other_mark r b → x ≡ marked s (7 + i) m → not x ≡ unopposed s i r b
unfolding unopposed
other_unmarked s i r b m x e f = rw (f, e)

module _ (s : List ℕ) (n i r b : ℕ) (x : Bool) (e : x ≡ in_layout s n i r b) where
  pub outside : not x ≡ true → false ≡ recordable s n i r b
  unfolding recordable
  outside t = rw (← e, not-true x t)

  module _ (t : not x ≡ false) where
    told : Within s n i r b
    told = within s n i r b (sym e ∙ not-false x t)

    pub vote_fits : n < 256 → Fits w8 i
    vote_fits h = record { fits = omega (arith, told.vote_high) }

    pub round_fits : Fits w8 r
    round_fits = record { fits = omega (arith, told.round_high) }

    pub bit_fits : Fits w8 b
    bit_fits = record { fits = omega (arith, told.bit) }

    pub opposed_or_not : (u : Bool) → u ≡ unopposed s i r b → u ≡ recordable s n i r b
    unfolding recordable
    opposed_or_not u f = f ∙ rw (← e, not-false x t)

pub ruleset recordable_cases = (outside, vote_fits, round_fits, bit_fits, opposed_or_not)

module _ (s : List ℕ) (n i r b : ℕ) (x : Bool) (e : x ≡ closed s) where
  pub after_closing : x ≡ true → Err refusal.Closed ≡ running_answer s n i r b
  unfolding running_answer
  after_closing t = rw (← e, t)

  module _ (t : x ≡ false) (y : Bool) (f : y ≡ recordable s n i r b) where
    pub not_recordable : not y ≡ true → Err refusal.Coin ≡ running_answer s n i r b
    unfolding running_answer
    not_recordable h = rw (← e, t, ← f, not-true y h)

    pub is_recordable : not y ≡ false → Ok tt ≡ running_answer s n i r b
    unfolding running_answer
    is_recordable h = rw (← e, t, ← f, not-false y h)

pub ruleset running_cases = (after_closing, not_recordable, is_recordable)

module _ (s : List ℕ) (i r b : ℕ) (y : Option Session) (e : y ≡ stored s) where
  pub no_state : y ≡ None → Err refusal.NoState ≡ record_answer s i r b
  unfolding record_answer stored
  no_state f = at (is_state s) (sym f ∙ e)
    where
      at : (x : Bool) → None ≡ cond x (Some (session_of s)) None → ◌≡◌ {A = Result (Unit {0}) Refusal} (Err refusal.NoState) (cond (not x) (Err refusal.NoState) (cond (closed s) (Err refusal.Closed) (cond (not (recordable s (word s n_at) i r b)) (Err refusal.Coin) (Ok tt))))
      at false g = refl
      at true g = absurd (let z : ◌≡◌ {A = ℕ} 0 1 = cc in omega arith)

  pub has_state : (x : Session) (a : Result (Unit {0}) Refusal) → y ≡ Some x → a ≡ running_answer s x.settings.n i r b → a ≡ record_answer s i r b
  unfolding record_answer running_answer session_of session_with settings_of
  has_state x a f g =
      let k = held_read s x (sym e ∙ f) in
      g ∙ ap (λ (z : Session). running_answer s z.settings.n i r b) k.same ∙ rw (state_is s k.state)

pub ruleset answer_cases = (no_state, has_state)

module _ (s : List ℕ) (i r b : ℕ) (a : Result (Unit {0}) Refusal) (e : a ≡ record_answer s i r b) where
  pub taken_vote : a ≡ Ok tt → Fits w8 i
  unfolding settings_of
  taken_vote t = let k = accepted s i r b (sym e ∙ t) in record { fits = omega (arith, k.vote_high, k.state.ruled.few) }

  pub taken_round : a ≡ Ok tt → Fits w8 r
  taken_round t = let k = accepted s i r b (sym e ∙ t) in record { fits = omega (arith, k.round_high) }

  pub taken_bit : a ≡ Ok tt → Fits w8 b
  taken_bit t = let k = accepted s i r b (sym e ∙ t) in record { fits = omega (arith, k.bit) }

  pub record_done : (t : List ℕ) → a ≡ Ok tt → t ≡ with_bit s i r b → t ≡ recorded_words s i r b
  unfolding recorded_words
  record_done t z f = rw (← e, taken_true a z) f

  pub record_refused : (k : Refusal) → a ≡ Err k → s ≡ recorded_words s i r b
  unfolding recorded_words
  record_refused k z = rw (← e, refused_false a k z)

pub ruleset record_cases = (taken_vote, taken_round, taken_bit, record_done, record_refused)
