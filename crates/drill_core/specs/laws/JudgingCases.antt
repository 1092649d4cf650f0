-- The cases of the code: numbers that were judged fit the bytes that hold them, and a line goes by its letter.
use Rattle.std.specs.Prelude.{◌≡◌, ℕ, zero, suc, ◌-◌, ◌*◌, ◌%◌, ◌^◌, ◌<◌, ◌≤◌, true, false, leb, length, nat_eq, refl, Option, Some, None, Ok}
use Rattle.std.proofs.Math.Path.{sym}
use Rattle.std.proofs.Common.{arith}
use borrow.Author.Tests.{le-leb, eq-eqb}
use Rattle.settings.specs.Settings.{valid_settings, named_ta}
use Rattle.settings.specs.Versions.{version_known}
use Rattle.std.specs.Option.{is_some}
use Rattle.settings.specs.Check.{check_settings}
use Rattle.settings.specs.laws.Rules.{check_taken, check_refused, valid_rules}
use Rattle.settings.specs.declared.Settings.{Settings}
use Rattle.quorum.specs.Every.{every}
use Rattle.quorum.specs.laws.Ones.{machine_power}
use Rattle.quorum.specs.Packed.{packed}
use Rattle.records.specs.Words.{blank}
use Rattle.records.specs.laws.Fill.{length_blank}
use Rattle.session.specs.Session.{numbered}
use Rattle.opening.specs.laws.Cases.{accepted_answer}
use Rattle.opening.specs.Given.{coins_given, weights_given, weights_word}
use Rattle.opening.specs.laws.GivenCases.{weights_many}
use Rattle.opening.specs.Given.{ones_given}
use Rattle.opening.specs.laws.Ones.{ones_word_lem}
use Rattle.opening.specs.Arguments.{Arguments, weights_by, ta_by}
use Rattle.opening.specs.Opening.{open_answer}
use Rattle.drill_feeder.specs.Lines.{drill_arguments}
use Rattle.drill_core.specs.Judging.{settings_open}
use Rattle.std.specs.Result.{is_ok}

-- the word of n weights of 1
pub ones_few : (n : ℕ) → n ≤ 16 → (1 * 2 ^ n) % 2 ^ 64 - 1 ≡ weights_word n (ones_given n)
unfolding weights_word weights_given ones_given every packed
ones_few zero h = refl
ones_few (suc n) h = rw (machine_power (suc n) (omega arith)) (sym (ones_word_lem (suc n) (omega arith) h))

pub ones_many : (n : ℕ) → 16 < n → 0 ≡ weights_word n (ones_given n)
unfolding weights_word
ones_many n h = rw (← weights_many n (ones_given n) h)

pub ruleset ones_cases = (ones_few, ones_many)

-- settings within the rules are taken by opening, and no others
module _ (n ta ts : ℕ) where
  abbrev given : Arguments
  given = drill_arguments n ta ts 1 0 0 (blank n)

  opens : valid_settings n (ta_by given) ts (weights_by given) ≡ true → open_answer 2048 given ≡ Ok tt
  unfolding version_known numbered coins_given
  opens e =
      let k = valid_rules n (ta_by given) ts (weights_by given) e in
      let low : leb 1 n ≡ true = le-leb 1 n k.some in
      let few : leb n 16 ≡ true = le-leb n 16 k.few in
      let size : nat_eq (length (blank n)) n ≡ true = eq-eqb (length (blank n)) n (length_blank n) in
      accepted_answer 2048 given (record { size = refl; known = refl; valid = e; own_number = rw low; given = rw (few, size) })

  refused : valid_settings n (ta_by given) ts (weights_by given) ≡ false → is_ok (open_answer 2048 given) ≡ false
  unfolding open_answer version_known
  refused e = rw e

  module _ (w : ℕ) (c : Option Settings) (o : w ≡ weights_word n (ones_given n)) (e : c ≡ check_settings n (named_ta n ta ts w) ts w) where
    pub opened_if_valid : is_some c ≡ settings_open n ta ts
    unfolding settings_open
    opened_if_valid = go c e
      where
        go : (x : Option Settings) → x ≡ check_settings n (named_ta n ta ts w) ts w → is_some x ≡ settings_open n ta ts
        go (Some g) f = rw (opens (rw o at (check_taken n (named_ta n ta ts w) ts w g (sym f)).valid))
        go None f = rw (refused (rw o at (check_refused n (named_ta n ta ts w) ts w (sym f))))

pub ruleset open_cases = (opened_if_valid)
