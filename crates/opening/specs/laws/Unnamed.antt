-- An opening that leaves ta unnamed is one that names the largest ta which an opening with the other arguments takes (PROTOCOL 1.7).
use Rattle.std.specs.Prelude.{ℕ, ◌*◌, ◌≤◌, true, List, ◌≡◌, length, Ok, Err}
use Rattle.settings.specs.laws.Answers.{taken_true}
use Rattle.std.proofs.Common.{ap, arith}
use borrow.Author.Tests.{eq-eqb}
use Rattle.quorum.specs.Whole.{whole_of}
use Rattle.settings.specs.Settings.{UNNAMED, settings_from}
use Rattle.settings.specs.laws.Rules.{valid_rules, whole_few}
use Rattle.settings.specs.laws.Cases.{named}
use Rattle.settings.specs.laws.Unnamed.{unnamed_ta, Largest, unnamed_largest, none_allowed}
use Rattle.settings.specs.Versions.{version_known}
use Rattle.settings.specs.declared.refusal.Refusal.TheVariants as refusal
use Rattle.records.specs.Words.{blank}
use Rattle.records.specs.Layout.{state_words}
use Rattle.opening.specs.Arguments.{Arguments, weights_by, ta_by}
use Rattle.opening.specs.Opening.{open_answer, with_settings, with_coins, open_words, opened}
use Rattle.opening.specs.laws.WeightsWord.{settings_with}
use Rattle.opening.specs.laws.Cases.{Accepted, accepted, accepted_answer}

module _ (s : List ℕ) (o : Arguments) where
  -- the same arguments with another ta
  abbrev naming : ℕ → Arguments
  naming ta = record { version = o.version; n = o.n; ta = ta; ts = o.ts; own = o.own; session = o.session; input = o.input; coins = o.coins; weights = o.weights; boxed = o.boxed }

  abbrev largest_ta_lem : ℕ
  largest_ta_lem = unnamed_ta o.n o.ts (weights_by o)

  -- whether an opening with this ta is accepted, and the words after it
  abbrev Opens : ℕ → Type 0
  Opens ta = open_answer (length s) (naming ta) ≡ Ok tt

  abbrev after : ℕ → List ℕ
  after ta = opened s (naming ta)

  -- 255 opens a session wherever some ta does
  pub unnamed_opens : (ta : ℕ) → Opens ta → Opens UNNAMED
  unnamed_opens ta e =
      let a = accepted (length s) (naming ta) e in
      accepted_answer (length s) (naming UNNAMED)
      (record {
        size = a.size;
        known = a.known;
        valid = (unnamed_largest o.n o.ts (weights_by o) (ta_by (naming ta)) a.valid).allowed;
        own_number = a.own_number;
        given = a.given;
      })

  -- and then it is the largest ta, and opens as that number does
  pub record NamesLargest : Type 0 where
    pub largest : Largest o.n o.ts (weights_by o) largest_ta_lem
    pub opens : Opens largest_ta_lem
    pub words : after UNNAMED ≡ after largest_ta_lem

  module _ (e : Opens UNNAMED) where
    told : Accepted (length s) (naming UNNAMED)
    told = accepted (length s) (naming UNNAMED) e

    -- it is not 255 itself
    same : largest_ta_lem ≡ ta_by (naming largest_ta_lem)
    same =
        let r = valid_rules o.n largest_ta_lem o.ts (weights_by o) told.valid in
        named o.n largest_ta_lem o.ts (weights_by o)
        (λ z. omega (arith, z, r.ordered, r.margin, whole_few (settings_from o.n largest_ta_lem o.ts (weights_by o)) r))

    opens_named : Opens largest_ta_lem
    unfolding open_answer
    opens_named = rw (← same) e

    same_words_lem : after UNNAMED ≡ after largest_ta_lem
    unfolding opened open_words with_settings settings_with
    same_words_lem =
        rw (taken_true (open_answer (length s) (naming UNNAMED)) e, taken_true (open_answer (length s) (naming largest_ta_lem)) opens_named)
        (ap (λ (m : ℕ). with_coins (settings_with (blank state_words) o m (weights_by o)) o.coins o.n) same)

    pub unnamed_named : NamesLargest
    unnamed_named = record { largest = unnamed_largest o.n o.ts (weights_by o) largest_ta_lem told.valid; opens = opens_named; words = same_words_lem }

  -- where no ta is allowed, an unnamed one is refused (PROTOCOL 1.7)
  pub unnamed_refused : length s ≡ state_words → version_known o.version ≡ true → whole_of (weights_by o) o.n ≤ 2 * o.ts → open_answer (length s) (naming UNNAMED) ≡ Err refusal.Settings
  unfolding open_answer
  unnamed_refused size k h = rw (eq-eqb (length s) state_words size, k, none_allowed o.n o.ts (weights_by o) h largest_ta_lem)
