-- An opening line as the code takes it: what is asked of its numbers, and what it comes to.
use Rattle.std.specs.Prelude.{ℕ, ◌+◌, ◌^◌, ◌≤◌, ◌<◌, Bool, cond, not, List, ◌≡◌, refl, ltb, length, get_or, take, drop, replicate, Option, None, Result}
use Rattle.std.proofs.Math.Bool.{true, false}
use Rattle.std.proofs.Common.{sym, ◌∙◌, arith, length-take-le, get_or-take, Fits, lt-ltb, le-ltb}
use Rattle.std.specs.Int.{w32}
use Rattle.std.proofs.lemmas.Bool.{not-true, not-false}
use Rattle.opening.specs.Arguments.{Arguments, arguments}
use Rattle.opening.specs.laws.Given.{accepted_given}
use Rattle.opening.specs.Opening.{open_answer, opened}
use Rattle.restore.specs.laws.Truth.{no_truth}
use Rattle.restore.specs.Reading.{weights_from, boxed_from}
use Rattle.restore.specs.Restoring.{Point, opened_from, opening_from}
use Rattle.restore.specs.laws.Forms.{count_right}
use Rattle.restore.specs.laws.Opened.{CoinsFit, Copied, WeightsRead, WeightsAsked, part_front}
use Rattle.restore.specs.laws.Applying.{Tried, applies, words_or}
use Rattle.std.specs.Result.{is_ok}
use Rattle.settings.specs.declared.refusal.Refusal.{Refusal}
use Rattle.settings.specs.laws.Answers.{true_taken}

-- a line that cannot be applied
pub refused : (p : Option Point) (w : List ℕ) → p ≡ None → Tried p w false w
unfolding applies words_or
refused p w e = rw e (record { answer = refl; words = refl })

-- the arguments of the numbers of a line, but for lists and kind of coins that are given
abbrev pub arguments_with : (n : ℕ) (xs coins weights : List ℕ) (boxed : ℕ) → Arguments
arguments_with n xs coins weights boxed = arguments (get_or xs 0 0) n (get_or xs 2 0) (get_or xs 3 0) (get_or xs 4 0) (get_or xs 5 0) (get_or xs 6 0) coins weights boxed

-- the opening
pub open_tried : (w t : List ℕ) (o : Arguments) (a : Result (Unit {0}) Refusal) → length w ≡ 2048 → a ≡ open_answer (length w) o → t ≡ opened w o → Tried (opened_from o) w (is_ok a) t
unfolding opened_from opened applies words_or
open_tried w t o a s e f = go (is_ok (open_answer 2048 o)) refl
  where
    go : (b : Bool) → is_ok (open_answer 2048 o) ≡ b → Tried (opened_from o) w (is_ok a) t
    go true u = record { answer = rw (e, s, u); words = f ∙ rw (s, u) }
    go false u = record { answer = rw (e, s, u); words = f ∙ rw (s, u) }

-- what is asked of the numbers of an opening line, and of the words that it is tried on
pub record OpenGiven (n count : ℕ) (xs w : List ℕ) : Type 0 where
  pub few : n ≤ 16
  pub long : 7 + n + n < length xs
  pub within : count ≤ length xs
  pub number : count_right n count ≡ true
  pub least : 7 + n ≤ count
  pub coins : CoinsFit n xs
  pub size : length w ≡ 2048

module _ (n count : ℕ) (xs w : List ℕ) (g : OpenGiven n count xs w) where
  front : (i : ℕ) → i < 7 → get_or (take count xs) i 0 ≡ get_or xs i 0
  front i h = get_or-take count xs i 0 (omega (arith, g.least))

  abbrev line : Arguments
  line = arguments_with n xs (take n (drop 7 xs)) (weights_from n (take count xs)) (boxed_from n (take count xs))

  opening_is : opening_from n (take count xs) ≡ cond (ltb (get_or xs 5 0) (2 ^ 32)) (opened_from line) None
  unfolding opening_from
  opening_is =
      rw (front 0 (omega arith), front 2 (omega arith), front 3 (omega arith), front 4 (omega arith), front 5 (omega arith), front 6 (omega arith), part_front 7 n count xs g.least (omega (arith, g.long)))

  pub session_wide : 4294967295 < get_or xs 5 0 → Tried (opening_from n (take count xs)) w false w
  session_wide e = refused _ w (opening_is ∙ rw (le-ltb (get_or xs 5 0) (2 ^ 32) (omega arith)))

  module _ (s : get_or xs 5 0 ≤ 4294967295) (r : Bool) (weights : List ℕ) (h : WeightsRead n (take count xs) r weights) where
    told : opening_from n (take count xs) ≡ opened_from line
    told = opening_is ∙ rw (lt-ltb (get_or xs 5 0) (2 ^ 32) (omega arith))

    pub weights_wrong : not r ≡ true → Tried (opening_from n (take count xs)) w false w
    unfolding opened_from
    weights_wrong e = refused _ w (told ∙ go _ refl)
      where
        go : (b : Bool) → is_ok (open_answer 2048 line) ≡ b → opened_from line ≡ None
        go false u = rw u
        go true u = no_truth (sym (accepted_given 2048 line (true_taken _ u)) ∙ h.wrong (not-true r e))

    pub values_opened : (q : Bool) (coins after : List ℕ) (boxed : ℕ) → not r ≡ false → Copied xs 7 n 16 coins → boxed ≡ boxed_from n (take count xs) →
        Tried (opened_from (arguments_with n xs (take n coins) (take n weights) boxed)) w q after → Tried (opening_from n (take count xs)) w q after
    values_opened q coins after boxed e c f y = rw (told, ← c.front, ← h.front (not-false r e), ← f) y

  pub coins_prefix : (coins : List ℕ) → Copied xs 7 n 16 coins → n ≡ length (take n coins)
  coins_prefix coins c = sym (length-take-le n coins (omega (arith, c.size, g.few)))

  pub weights_prefix : (r : Bool) (weights : List ℕ) → WeightsRead n (take count xs) r weights → n ≡ length (take n weights)
  weights_prefix r weights h = sym (length-take-le n weights (omega (arith, h.size, g.few)))

  pub weights_asked : (to : List ℕ) → length to ≡ 16 → to ≡ replicate 16 1 → WeightsAsked n count xs to
  weights_asked to s o = record { few = g.few; long = omega (arith, g.long); within = g.within; number = g.number; size = s; ones = o }

pub session_fits : (x : ℕ) → x ≤ 4294967295 → Fits w32 x
session_fits x h = record { fits = omega arith }

pub ruleset open_cases = (open_tried, session_wide, weights_wrong, values_opened, coins_prefix, weights_prefix, weights_asked, session_fits)
