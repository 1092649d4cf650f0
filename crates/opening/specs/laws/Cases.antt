-- The cases of the code.
use Rattle.std.specs.Prelude.{ℕ, ◌-◌, ◌≤◌, ◌<◌, Bool, true, false, not, List, cond, ◌≡◌, refl, length, get_or, eqb, Some, None, Result, Ok, Err}
use Rattle.std.specs.Option.{is_some}
use Rattle.settings.specs.declared.refusal.Refusal.{Refusal}
use Rattle.settings.specs.declared.refusal.Refusal.TheVariants as refusal
use Rattle.settings.specs.laws.Answers.{err_passed, taken_true, refused_false}
use Rattle.std.proofs.Common.{sym, ap, ◌∙◌, arith, Fits}
use borrow.Author.Tests.{eq-eqb, ne_eqb, not-true, not-false, eqb-true}
use Rattle.std.specs.Int.{w8}
use Rattle.quorum.specs.laws.Bools.{not_passed}
use Rattle.settings.specs.Settings.{valid_settings, settings_from, named_ta}
use Rattle.settings.specs.Versions.{version_known}
use Rattle.settings.specs.Check.{check_settings}
use Rattle.settings.specs.laws.Rules.{valid_rules}
use Rattle.records.specs.laws.Words.{word_within, word_past_end}
use Rattle.records.specs.Words.{blank, store_of}
use Rattle.session.specs.Session.{numbered}
use Rattle.opening.specs.Given.{item, coins_given}
use Rattle.opening.specs.Arguments.{Arguments, weights_by, ta_by}
use Rattle.opening.specs.Opening.{open_answer, with_coins, open_words, opened}
use Rattle.opening.specs.laws.WeightsWord.{answer_with, settings_with, answer_with_lem, settings_with_lem}

-- whether settings are given
pub checked_valid : (n ta ts w : ℕ) → is_some (check_settings n ta ts w) ≡ valid_settings n ta ts w
unfolding check_settings
checked_valid n ta ts w = go (valid_settings n ta ts w)
  where
    go : (b : Bool) → is_some (cond b (Some (settings_from n ta ts w)) None) ≡ b
    go true = refl
    go false = refl

-- the refusals of the code, with the word of weights
module _ (words : ℕ) (o : Arguments) (w : ℕ) where
  pub answer_words : (words ≡ 2048 → ⊥) → Err refusal.NoState ≡ answer_with words o w
  unfolding answer_with
  answer_words h = rw (ne_eqb words 2048 h)

  module _ (ew : words ≡ 2048) (k : Bool) (ek : k ≡ version_known o.version) where
    pub answer_version : not k ≡ true → Err refusal.Settings ≡ answer_with words o w
    unfolding answer_with
    answer_version t = rw (eq-eqb words 2048 ew, ← ek, not-true k t)

    module _ (tk : not k ≡ false) (v : Bool) (ev : v ≡ valid_settings o.n (named_ta o.n o.ta o.ts w) o.ts w) where
      pub answer_settings : not v ≡ true → Err refusal.Settings ≡ answer_with words o w
      unfolding answer_with
      answer_settings t = rw (eq-eqb words 2048 ew, ← ek, not-false k tk, ← ev, not-true v t)

      module _ (tv : not v ≡ false) (b : Bool) (eb : b ≡ numbered o.n o.own) where
        pub answer_own : not b ≡ true → Err refusal.Settings ≡ answer_with words o w
        unfolding answer_with
        answer_own t = rw (eq-eqb words 2048 ew, ← ek, not-false k tk, ← ev, not-false v tv, ← eb, not-true b t)

        pub answer_coins : not b ≡ false → (g : Bool) → g ≡ coins_given o.n o.coins o.boxed → not g ≡ true → Err refusal.Settings ≡ answer_with words o w
        unfolding answer_with
        answer_coins t g eg h = rw (eq-eqb words 2048 ew, ← ek, not-false k tk, ← ev, not-false v tv, ← eb, not-false b t, ← eg, not-true g h)

        pub answer_accepted : not b ≡ false → (g : Bool) → g ≡ coins_given o.n o.coins o.boxed → not g ≡ false → Ok tt ≡ answer_with words o w
        unfolding answer_with
        answer_accepted t g eg h = rw (eq-eqb words 2048 ew, ← ek, not-false k tk, ← ev, not-false v tv, ← eb, not-false b t, ← eg, not-false g h)

-- what an accepted opening tells
pub record Accepted (words : ℕ) (o : Arguments) : Type 0 where
  pub size : words ≡ 2048
  pub known : version_known o.version ≡ true
  pub valid : valid_settings o.n (ta_by o) o.ts (weights_by o) ≡ true
  pub own_number : numbered o.n o.own ≡ true
  pub given : coins_given o.n o.coins o.boxed ≡ true

pub accepted : (words : ℕ) (o : Arguments) → open_answer words o ≡ Ok tt → Accepted words o
unfolding open_answer
accepted words o e =
    let a = err_passed (not (eqb words 2048)) refusal.NoState _ tt e in
    let v = err_passed (not (version_known o.version)) refusal.Settings _ tt a.1 in
    let b = err_passed (not (valid_settings o.n (ta_by o) o.ts (weights_by o))) refusal.Settings _ tt v.1 in
    let c = err_passed (not (numbered o.n o.own)) refusal.Settings _ tt b.1 in
    let d = err_passed (not (coins_given o.n o.coins o.boxed)) refusal.Settings _ tt c.1 in
    record {
      size = eqb-true words 2048 (not_passed (eqb words 2048) a.0);
      known = not_passed (version_known o.version) v.0;
      valid = not_passed (valid_settings o.n (ta_by o) o.ts (weights_by o)) b.0;
      own_number = not_passed (numbered o.n o.own) c.0;
      given = not_passed (coins_given o.n o.coins o.boxed) d.0;
    }

pub accepted_answer : (words : ℕ) (o : Arguments) → Accepted words o → open_answer words o ≡ Ok tt
unfolding open_answer
accepted_answer words o a = rw (eq-eqb words 2048 a.size, a.known, a.valid, a.own_number, a.given)

pub coin_none : (coins : List ℕ) (i : ℕ) → i < 1 → 0 ≡ item coins i
unfolding item
coin_none coins i h = rw (eq-eqb i 0 (omega arith))

module _ (coins : List ℕ) (i : ℕ) (lo : 1 ≤ i) where
  pub coin_within : (w : ℕ) → w ≡ get_or coins (i - 1) 0 → w ≡ item coins i
  unfolding item
  coin_within w e = rw (ne_eqb i 0 (λ z. omega arith)) (e ∙ word_within coins (i - 1))

  pub coin_past_end : length coins ≤ i - 1 → 0 ≡ item coins i
  unfolding item
  coin_past_end h = rw (ne_eqb i 0 (λ z. omega arith)) (word_past_end coins (i - 1) h)

pub coins_stored : (s t coins : List ℕ) (n : ℕ) → t ≡ store_of (λ i. item coins i) 7 s n → t ≡ with_coins s coins n
unfolding with_coins
coins_stored s t coins n e = e

-- an opening that is not refused has few concentrators, whatever the word of weights
module _ (words : ℕ) (o : Arguments) (w : ℕ) (a : Result (Unit {0}) Refusal) (f : a ≡ answer_with words o w) where
  pub accepted_few : a ≡ Ok tt → Fits w8 o.n
  unfolding answer_with
  accepted_few z =
      let b = err_passed (not (eqb words 2048)) refusal.NoState _ tt (sym f ∙ z) in
      let v = err_passed (not (version_known o.version)) refusal.Settings _ tt b.1 in
      let c = err_passed (not (valid_settings o.n (named_ta o.n o.ta o.ts w) o.ts w)) refusal.Settings _ tt v.1 in
      let k = valid_rules o.n (named_ta o.n o.ta o.ts w) o.ts w (not_passed (valid_settings o.n (named_ta o.n o.ta o.ts w) o.ts w) c.0) in
      record { fits = omega (arith, k.few) }

-- the word of the weights that are given, in place of the word
module _ (words : ℕ) (o : Arguments) (w : ℕ) (e : w ≡ weights_by o) (a : Result (Unit {0}) Refusal) (f : a ≡ answer_with words o w) where
  pub given_answer : a ≡ open_answer words o
  given_answer = f ∙ ap (answer_with words o) e ∙ answer_with_lem o words

  pub given_taken : a ≡ Ok tt → Ok tt ≡ open_answer words o
  given_taken z = sym z ∙ given_answer

  pub given_refused : (k : Refusal) → a ≡ Err k → Err k ≡ open_answer words o
  given_refused k z = sym z ∙ given_answer

module _ (s : List ℕ) (o : Arguments) (w : ℕ) (e : w ≡ weights_by o) (a : Result (Unit {0}) Refusal) (f : a ≡ answer_with (length s) o w) where
  pub open_done : (m : ℕ) (s0 s1 s2 : List ℕ) → a ≡ Ok tt → m ≡ named_ta o.n o.ta o.ts w → s0 ≡ blank (length s) → s1 ≡ settings_with s0 o m w → s2 ≡ with_coins s1 o.coins o.n → s2 ≡ opened s o
  unfolding opened open_words
  open_done m s0 s1 s2 z em g h k =
      let done = given_answer (length s) o w e a f in
      rw (← done, taken_true a z, k, h, g, em, e, settings_with_lem o (blank (length s)), (accepted (length s) o (sym done ∙ z)).size)

  pub open_refused : (k : Refusal) → a ≡ Err k → s ≡ opened s o
  unfolding opened
  open_refused k z = rw (← given_answer (length s) o w e a f, refused_false a k z)

pub ruleset open_cases = (checked_valid, answer_words, answer_version, answer_settings, answer_own, answer_coins, answer_accepted, coin_none, coin_within, coin_past_end, coins_stored, open_done, open_refused, given_answer, given_taken, given_refused)
