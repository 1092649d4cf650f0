-- The cases of the code.
use Rattle.std.specs.Prelude.{ℕ, ◌+◌, min, Bool, true, false, not, List, ◌≡◌, length, ltb, Option, Some, None, Result, Ok, Err}
use Rattle.std.proofs.Common.{sym, ap, ◌∙◌, arith, zero-add, Fits}
use borrow.Author.Tests.{eq-eqb, ne_eqb, not-true, not-false}
use Rattle.std.specs.Int.{w8}
use Rattle.settings.specs.Settings.{valid_settings, named_ta}
use Rattle.settings.specs.Check.{check_settings}
use Rattle.settings.specs.declared.Settings.{Settings}
use Rattle.quorum.specs.Marks.{mark}
use Rattle.quorum.specs.laws.Total.{total_agree}
use Rattle.quorum.specs.Weights.{weight_of, weigh}
use Rattle.quorum.specs.laws.Weights.{weigh_capped}
use Rattle.records.specs.Layout.{n_at, ta_at, ts_at}
use Rattle.records.specs.Words.{word, marked, set_mark}
use Rattle.records.specs.Records.{coin}
use Rattle.records.specs.Words.{blank}
use Rattle.opening.specs.Given.{weights_word}
use Rattle.opening.specs.Opening.{with_coins}
use Rattle.opening.specs.laws.Cases.{checked_valid}
use Rattle.std.specs.Option.{is_some}
use Rattle.settings.specs.declared.refusal.Refusal.{Refusal}
use Rattle.settings.specs.declared.refusal.Refusal.TheVariants as refusal
use Rattle.settings.specs.laws.Answers.{taken_true, refused_false}
use Rattle.coin_box.specs.Box.{box_weights_at, requests_at, box_open_answer, box_settings, box_open_words, box_opened, is_box, asks, requested, unsealed, request_words, request_reply}
use Rattle.coin_box.proofs.laws.Opened.{accepted, accepted_few}
use Rattle.coin_box.proofs.laws.Box.{asked, noted, refused_kept}

-- ---- opening

module _ (words n ta ts w coins : ℕ) where
  pub answer_words : (words ≡ 552 → ⊥) → Err refusal.NoState ≡ box_open_answer words n ta ts w coins
  unfolding box_open_answer
  answer_words h = rw (ne_eqb words 552 h)

  module _ (ew : words ≡ 552) (v : Bool) (ev : v ≡ valid_settings n (named_ta n ta ts w) ts w) where
    pub answer_settings : not v ≡ true → Err refusal.Settings ≡ box_open_answer words n ta ts w coins
    unfolding box_open_answer
    answer_settings t = rw (eq-eqb words 552 ew, ← ev, not-true v t)

    pub answer_coins : not v ≡ false → (coins ≡ n → ⊥) → Err refusal.Settings ≡ box_open_answer words n ta ts w coins
    unfolding box_open_answer
    answer_coins t h = rw (eq-eqb words 552 ew, ← ev, not-false v t, ne_eqb coins n h)

    pub answer_accepted : not v ≡ false → coins ≡ n → Ok tt ≡ box_open_answer words n ta ts w coins
    unfolding box_open_answer
    answer_accepted t h = rw (eq-eqb words 552 ew, ← ev, not-false v t, eq-eqb coins n h)

pub number_fits : (words n ta ts w coins : ℕ) (a : Result (Unit {0}) Refusal) → a ≡ box_open_answer words n ta ts w coins → a ≡ Ok tt → Fits w8 n
number_fits words n ta ts w coins a e z = record { fits = omega (arith, accepted_few words n ta ts w coins (sym e ∙ z)) }

module _ (s coins : List ℕ) (n ta ts w : ℕ) (a : Result (Unit {0}) Refusal) (e : a ≡ box_open_answer (length s) n ta ts w (length coins)) where
  pub open_done : (m : ℕ) (s0 s1 s2 : List ℕ) → a ≡ Ok tt → m ≡ named_ta n ta ts w → s0 ≡ blank (length s) → s1 ≡ box_settings s0 n m ts w → s2 ≡ with_coins s1 coins n → s2 ≡ box_opened s n ta ts w coins
  unfolding box_opened box_open_words
  open_done m s0 s1 s2 z em f g h = rw (← e, taken_true a z, h, g, f, em, (accepted (length s) n ta ts w (length coins) (sym e ∙ z)).size)

  pub open_refused : (k : Refusal) → a ≡ Err k → s ≡ box_opened s n ta ts w coins
  unfolding box_opened
  open_refused k z = rw (← e, refused_false a k z)

-- the word of the weights that are given, in place of the word
pub given_answer : (words n ta ts w coins : ℕ) (a : Result (Unit {0}) Refusal) (ws : List ℕ) → w ≡ weights_word n ws → a ≡ box_open_answer words n ta ts w coins → a ≡ box_open_answer words n ta ts (weights_word n ws) coins
given_answer words n ta ts w coins a ws e f = f ∙ ap (λ (x : ℕ). box_open_answer words n ta ts x coins) e

pub given_words : (s t coins : List ℕ) (n ta ts w : ℕ) (ws : List ℕ) → w ≡ weights_word n ws → t ≡ box_opened s n ta ts w coins → t ≡ box_opened s n ta ts (weights_word n ws) coins
given_words s t coins n ta ts w ws e f = f ∙ ap (λ (x : ℕ). box_opened s n ta ts x coins) e

pub ruleset box_open_cases = (answer_words, answer_settings, answer_coins, answer_accepted, number_fits, open_done, open_refused, given_answer, given_words)

-- ---- requests

pub size_wrong : (s : List ℕ) → (length s ≡ 552 → ⊥) → false ≡ is_box s
unfolding is_box
size_wrong s h = rw (ne_eqb (length s) 552 h)

module _ (s : List ℕ) (size : length s ≡ 552) (n ta ts w : ℕ) (en : n ≡ word s n_at) (ea : ta ≡ word s ta_at) (es : ts ≡ word s ts_at) (ew : w ≡ word s box_weights_at) (c : Option Settings) (ec : c ≡ check_settings n ta ts w) where
  pub settings_checked : is_some c ≡ is_box s
  unfolding is_box
  settings_checked = ap is_some ec ∙ checked_valid n ta ts w ∙ rw (eq-eqb (length s) 552 size, ← en, ← ea, ← es, ← ew)

pub ruleset box_cases = (size_wrong, settings_checked)

pub marks_weighed : (s : List ℕ) (i r m x n w c : ℕ) → m ≡ word s (requests_at i r) → x ≡ word s n_at → n ≡ min x 16 → w ≡ word s box_weights_at → c ≡ weigh w (λ p. mark m (0 + p)) n → c ≡ requested s i r
unfolding requested marked
marks_weighed s i r m x n w c em ex en ew ec =
    ec
    ∙ total_agree (weight_of w) (λ p. mark m (0 + p)) (λ p. mark (word s (requests_at i r)) p) n (λ p a b. rw (em, zero-add))
    ∙ ap (weigh w (λ p. mark (word s (requests_at i r)) p)) (rw (← ex) en)
    ∙ weigh_capped w (λ p. mark (word s (requests_at i r)) p) (word s n_at)
    ∙ ap (λ (x : ℕ). weigh x (λ p. mark (word s (requests_at i r)) p) (word s n_at)) ew

pub weight_compared : (s : List ℕ) (i r ta c : ℕ) → ta ≡ word s ta_at → c ≡ requested s i r → ltb ta c ≡ unsealed s i r
unfolding unsealed
weight_compared s i r ta c et ec = rw (et, ec)

module _ (s : List ℕ) (p i r : ℕ) (b : Bool) (e : b ≡ asks s p i r) where
  pub request_refused : not b ≡ true → Err refusal.Coin ≡ request_reply s p i r
  unfolding request_reply
  request_refused t = rw (← e, not-true b t)

  pub request_kept : not b ≡ true → s ≡ request_words s p i r
  request_kept t = sym (refused_kept s p i r (sym e ∙ not-true b t))

  module _ (t : not b ≡ false) where
    pub request_noted : (u : List ℕ) → u ≡ set_mark s (requests_at i r) p → u ≡ request_words s p i r
    request_noted u f = f ∙ sym (noted s p i r (sym e ∙ not-false b t))

    pub vote_fits : Fits w8 i
    vote_fits = let k = asked s p i r (sym e ∙ not-false b t) in record { fits = omega (arith, k.few, k.vote_high) }

    pub round_fits : Fits w8 r
    round_fits = let k = asked s p i r (sym e ∙ not-false b t) in record { fits = omega (arith, k.round_high) }

    module _ (u : List ℕ) (note : u ≡ set_mark s (requests_at i r) p) (c : Bool) (ec : c ≡ unsealed u i r) where
      pub request_bit : c ≡ true → (x : Bool) → x ≡ coin s i r → Ok (Some x) ≡ request_reply s p i r
      unfolding request_reply
      request_bit y x ex = rw (← e, not-false b t, ← request_noted u note, ← ec, y, ex)

      pub request_sealed : c ≡ false → Ok None ≡ request_reply s p i r
      unfolding request_reply
      request_sealed y = rw (← e, not-false b t, ← request_noted u note, ← ec, y)

pub ruleset request_cases = (request_refused, request_kept, request_noted, vote_fits, round_fits, request_bit, request_sealed)
