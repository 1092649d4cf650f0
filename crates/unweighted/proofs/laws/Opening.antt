-- An opening that is given n weights of 1.
use Rattle.std.specs.Prelude.{ℕ, zero, suc, ◌+◌, ◌-◌, ◌^◌, ◌≤◌, ◌≢◌, ◌≡◌, refl, length, Ok}
use mathlib.Core.List.{List}
use Rattle.std.proofs.Math.Path.{ap}
use Rattle.std.proofs.Common.{◌∙◌, arith}
use Rattle.std.proofs.Math.Decide.{dec_le}
use Rattle.std.proofs.lemmas.List.{set_comm}
use borrow.Author.Tests.{le-leb, lt-leb}
use Rattle.quorum.specs.Weights.{weight_of}
use Rattle.quorum.specs.laws.Whole.{ones_weight}
use Rattle.settings.specs.laws.Answers.{taken_true, not_taken}
use Rattle.settings.specs.laws.Rules.{valid_rules}
use Rattle.settings.specs.Settings as weighted_settings
use Rattle.records.specs.Layout.{weights_at, boxed_at, version_at, coin_at}
use Rattle.records.specs.Words.{put}
use Rattle.records.specs.Words.{store_of}
use Rattle.opening.specs.Given.{item, weights_word}
use Rattle.opening.specs.Given.{ones_given}
use Rattle.opening.specs.Arguments.{Arguments, weights_by, ta_by}
use Rattle.opening.specs.laws.Ones.{ones_word_lem}
use Rattle.opening.specs.Opening.{with_coins}
use Rattle.opening.specs.Opening as weighted
use Rattle.opening.specs.laws.Cases as weighted_cases
use Rattle.unweighted.specs.Settings.{valid_settings, named_ta}
use Rattle.unweighted.specs.Opening.{open_answer, with_settings, open_words, opened}
use Rattle.unweighted.specs.Statement.{GivenOnes, OpensAlike}
use Rattle.unweighted.proofs.laws.Counts.{valid_same, named_same}

-- the n weights of 1 as one word
abbrev pub ones_word : ℕ → ℕ
ones_word n = weights_word n (ones_given n)

pub each_one : (n : ℕ) → 1 ≤ n → n ≤ 16 → (p : ℕ) → 1 ≤ p → p ≤ n → weight_of (ones_word n) p ≡ 1
each_one n some few p lo hi = ap (λ (w : ℕ). weight_of w p) (ones_word_lem n some few) ∙ ones_weight n p lo hi few

-- the same ta is meant
ones_named : (n ta ts : ℕ) → 1 ≤ n → n ≤ 16 → weighted_settings.named_ta n ta ts (ones_word n) ≡ named_ta n ta ts
ones_named n ta ts some few = named_same (ones_word n) n (each_one n some few) ta ts

-- n = 0 and n > 16 are refused by both
ones_valid : (n ta ts : ℕ) → weighted_settings.valid_settings n (weighted_settings.named_ta n ta ts (ones_word n)) ts (ones_word n) ≡ valid_settings n (named_ta n ta ts) ts
unfolding weighted_settings.valid_settings valid_settings
ones_valid n ta ts = at (dec_le 1 n) (dec_le n 16)
  where
    at : Dec (1 ≤ n) → Dec (n ≤ 16) → weighted_settings.valid_settings n (weighted_settings.named_ta n ta ts (ones_word n)) ts (ones_word n) ≡ valid_settings n (named_ta n ta ts) ts
    at (yes some) (yes few) = rw (ones_named n ta ts some few) (valid_same (ones_word n) n (each_one n some few) (named_ta n ta ts) ts)
    at (yes some) (no few) = rw (lt-leb n 16 (omega arith), le-leb 1 n some)
    at (no some) d = rw (lt-leb 1 n (omega arith))

pub answer_same : (words : ℕ) (o : Arguments) → GivenOnes o → weighted.open_answer words o ≡ open_answer words o
unfolding weighted.open_answer open_answer GivenOnes
answer_same words o ones = rw (ones, ones_valid o.n o.ta o.ts)

pub put_swap : (s : List ℕ) (k j v w : ℕ) → k ≢ j → put (put s k v) j w ≡ put (put s j w) k v
unfolding put
put_swap s k j v w ne = set_comm s k j v w ne

-- a run of stores beside a word that is put
pub store_put : (f : ℕ → ℕ) (a : ℕ) (s : List ℕ) (k v n : ℕ) → ((j : ℕ) → 1 ≤ j → j ≤ n → k ≢ a + j) → store_of f a (put s k v) n ≡ put (store_of f a s n) k v
unfolding store_of
store_put f a s k v zero h = refl
store_put f a s k v (suc n) h =
    ap (λ (t : List ℕ). put t (a + suc n) (f (suc n))) (store_put f a s k v n (λ j lo hi. h j lo (omega arith)))
    ∙ put_swap (store_of f a s n) k (a + suc n) v (f (suc n)) (h (suc n) (omega arith) (omega arith))

module _ (o : Arguments) (ones : GivenOnes o) where
  words_same : 1 ≤ o.n → o.n ≤ 16 → weighted.open_words o ≡ put (open_words o) weights_at (ones_word o.n)
  unfolding weighted.open_words weighted.with_settings with_coins open_words with_settings GivenOnes
  words_same some few =
      rw (ones, ones_named o.n o.ta o.ts some few)
      (ap (λ (t : List ℕ). store_of (item o.coins) (coin_at 0) t o.n)
      (ap (λ (t : List ℕ). put t version_at o.version) (put_swap _ weights_at boxed_at (ones_word o.n) o.boxed (λ z. omega arith))
      ∙ put_swap _ weights_at version_at (ones_word o.n) o.version (λ z. omega arith))
      ∙ store_put (item o.coins) (coin_at 0) _ weights_at (ones_word o.n) o.n (λ j lo hi z. omega arith))

  module _ (s : List ℕ) where
    pub accepted_few : open_answer (length s) o ≡ Ok tt → (1 ≤ o.n) × (o.n ≤ 16)
    accepted_few e =
        let r = valid_rules o.n (ta_by o) o.ts (weights_by o) (weighted_cases.accepted (length s) o (answer_same (length s) o ones ∙ e)).valid in
        (r.some, r.few)

    opened_accepted : open_answer (length s) o ≡ Ok tt → weighted.opened s o ≡ put (opened s o) weights_at (2 ^ o.n - 1)
    unfolding weighted.opened opened
    opened_accepted e =
        let few = accepted_few e in
        rw (answer_same (length s) o ones, taken_true (open_answer (length s) o) e)
        (words_same few.0 few.1 ∙ ap (put (open_words o) weights_at) (ones_word_lem o.n few.0 few.1))

    opened_refused : open_answer (length s) o ≢ Ok tt → weighted.opened s o ≡ s
    unfolding weighted.opened
    opened_refused ne = rw (answer_same (length s) o ones, not_taken (open_answer (length s) o) ne)

    both_refused : open_answer (length s) o ≢ Ok tt → opened s o ≡ s
    unfolding opened
    both_refused ne = rw (not_taken (open_answer (length s) o) ne)

    pub opens_same : OpensAlike s o
    opens_same = record { accepted = opened_accepted; refused = opened_refused; unweighted_refused = both_refused }
