-- What an accepted opening tells: the words are a box, with the coins that are given, and nobody has requested one.
use Rattle.std.specs.Prelude.{ℕ, ◌+◌, ◌≤◌, ◌<◌, true, not, List, ◌≢◌, ◌≡◌, length, eqb, Ok}
use Rattle.std.proofs.Math.Path.{sym, ap}
use Rattle.std.proofs.Common.{◌∙◌, arith}
use Rattle.std.proofs.Math.Decide.{dec_lt}
use borrow.Author.Tests.{eq-eqb, eqb-true}
use Rattle.settings.specs.Settings.{valid_settings, named_ta}
use Rattle.settings.specs.laws.Rules.{valid_rules}
use Rattle.quorum.specs.laws.Bools.{not_passed}
use Rattle.settings.specs.declared.refusal.Refusal.TheVariants as refusal
use Rattle.settings.specs.laws.Answers.{err_passed}
use Rattle.quorum.specs.Marks.{mark}
use Rattle.quorum.specs.laws.Marks.{mark_zero}
use Rattle.quorum.specs.laws.Total.{total_none}
use Rattle.quorum.specs.Weights.{weight_of}
use Rattle.records.specs.Layout.{n_at, ta_at, ts_at, coin_at}
use Rattle.records.specs.Words.{word, marked}
use Rattle.records.specs.laws.Words.{length_put, word_put_same, word_put_other, word_past_end}
use Rattle.records.specs.Words.{blank}
use Rattle.records.specs.laws.Fill.{length_blank, word_blank, length_store_of, store_other, store_same}
use Rattle.records.specs.Records.{coin}
use Rattle.opening.specs.Given.{item}
use Rattle.opening.specs.Opening.{with_coins}
use Rattle.coin_box.specs.Box.{box_words, box_weights_at, requests_at, box_open_answer, box_settings, box_open_words, box_opened, is_box, requested, coin_of}

-- ---- the words of a new box

module _ (n ta ts w : ℕ) where
  abbrev meant : ℕ
  meant = named_ta n ta ts w

  abbrev base : List ℕ
  base = box_settings (blank box_words) n meant ts w

  length_base : length base ≡ box_words
  unfolding box_settings
  length_base = length_put _ _ _ ∙ length_put _ _ _ ∙ length_put _ _ _ ∙ length_put _ _ _ ∙ length_blank box_words

  room : 3 < length (blank box_words)
  room = rw length_blank (omega arith)

  base_n : word base n_at ≡ n
  unfolding box_settings
  base_n =
      word_put_other _ box_weights_at w n_at (λ z. omega arith)
      ∙ word_put_other _ ts_at ts n_at (λ z. omega arith)
      ∙ word_put_other _ ta_at meant n_at (λ z. omega arith)
      ∙ word_put_same (blank box_words) n_at n (omega (arith, room))

  base_ta : word base ta_at ≡ meant
  unfolding box_settings
  base_ta =
      word_put_other _ box_weights_at w ta_at (λ z. omega arith)
      ∙ word_put_other _ ts_at ts ta_at (λ z. omega arith)
      ∙ word_put_same _ ta_at meant (simp length_put (omega (arith, room)))

  base_ts : word base ts_at ≡ ts
  unfolding box_settings
  base_ts = word_put_other _ box_weights_at w ts_at (λ z. omega arith) ∙ word_put_same _ ts_at ts (simp length_put (omega (arith, room)))

  base_weights : word base box_weights_at ≡ w
  unfolding box_settings
  base_weights = word_put_same _ box_weights_at w (simp length_put (omega (arith, room)))

  -- the rest is 0
  base_zero : (k : ℕ) → 4 ≤ k → word base k ≡ 0
  unfolding box_settings
  base_zero k l =
      word_put_other _ box_weights_at w k (λ z. omega arith)
      ∙ word_put_other _ ts_at ts k (λ z. omega arith)
      ∙ word_put_other _ ta_at meant k (λ z. omega arith)
      ∙ word_put_other _ n_at n k (λ z. omega arith)
      ∙ empty (dec_lt k box_words)
    where
      empty : Dec (k < box_words) → word (blank box_words) k ≡ 0
      empty (yes h) = word_blank box_words k h
      empty (no h) = sym (word_past_end (blank box_words) k (rw length_blank (omega arith)))

  module _ (coins : List ℕ) where
    abbrev first : List ℕ
    first = box_open_words n ta ts w coins

    pub first_length : length first ≡ box_words
    unfolding box_open_words with_coins
    first_length = length_store_of (item coins) (coin_at 0) base n ∙ length_base

    -- no coin word stands at k
    pub first_other : (k : ℕ) → ((j : ℕ) → 1 ≤ j → j ≤ n → k ≢ coin_at 0 + j) → word first k ≡ word base k
    unfolding box_open_words with_coins
    first_other k h = store_other (item coins) (coin_at 0) base n k h

  module _ (few : n ≤ 16) (coins : List ℕ) where
    pub first_coin : (i r : ℕ) → 1 ≤ i → i ≤ n → coin (first coins) i r ≡ coin_of coins i r
    unfolding box_open_words with_coins coin marked
    first_coin i r lo hi = ap (λ (z : ℕ). mark z r) (store_same (item coins) (coin_at 0) base n i lo hi (omega (arith, length_base)))

    first_valid : valid_settings n meant ts w ≡ true → is_box (first coins) ≡ true
    unfolding is_box
    first_valid v =
        rw (
          eq-eqb (length (first coins)) box_words (first_length coins),
          first_other coins n_at (λ j lo hi z. omega arith) ∙ base_n,
          first_other coins ta_at (λ j lo hi z. omega arith) ∙ base_ta,
          first_other coins ts_at (λ j lo hi z. omega arith) ∙ base_ts,
          first_other coins box_weights_at (λ j lo hi z. omega arith) ∙ base_weights,
          v,
        )

    first_requested : (i r : ℕ) → 1 ≤ i → requested (first coins) i r ≡ 0
    unfolding requested marked
    first_requested i r lo =
        let none : word (first coins) (requests_at i r) ≡ 0 = first_other coins (requests_at i r) (λ j a b z. omega arith) ∙ base_zero (requests_at i r) (omega arith) in
        total_none (weight_of (word (first coins) box_weights_at)) (λ p. mark (word (first coins) (requests_at i r)) p) (word (first coins) n_at)
        (λ p a b. ap (λ (x : ℕ). mark x p) none ∙ mark_zero p)

-- ---- an accepted opening

-- what an accepted opening tells
pub record Accepted (words n ta ts w : ℕ) : Type 0 where
  pub size : words ≡ box_words
  pub valid : valid_settings n (named_ta n ta ts w) ts w ≡ true

pub accepted : (words n ta ts w coins : ℕ) → box_open_answer words n ta ts w coins ≡ Ok tt → Accepted words n ta ts w
unfolding box_open_answer
accepted words n ta ts w coins e =
    let a = err_passed (not (eqb words 552)) refusal.NoState _ tt e in
    let b = err_passed (not (valid_settings n (named_ta n ta ts w) ts w)) refusal.Settings _ tt a.1 in
    record { size = eqb-true words 552 (not_passed (eqb words 552) a.0); valid = not_passed (valid_settings n (named_ta n ta ts w) ts w) b.0 }

pub accepted_few : (words n ta ts w coins : ℕ) → box_open_answer words n ta ts w coins ≡ Ok tt → n ≤ 16
accepted_few words n ta ts w coins e = (valid_rules n (named_ta n ta ts w) ts w (accepted words n ta ts w coins e).valid).few

module _ (s : List ℕ) (n ta ts w : ℕ) (coins : List ℕ) (e : box_open_answer (length s) n ta ts w (length coins) ≡ Ok tt) where
  abbrev opened : List ℕ
  opened = box_opened s n ta ts w coins

  few : n ≤ 16
  few = accepted_few (length s) n ta ts w (length coins) e

  pub opened_words_lem : opened ≡ box_open_words n ta ts w coins
  unfolding box_opened
  opened_words_lem = rw e

  pub opened_box : is_box opened ≡ true
  opened_box = rw opened_words_lem (first_valid n ta ts w few coins (accepted (length s) n ta ts w (length coins) e).valid)

  pub opened_coin : (i r : ℕ) → 1 ≤ i → i ≤ n → coin opened i r ≡ coin_of coins i r
  opened_coin i r lo hi = rw opened_words_lem (first_coin n ta ts w few coins i r lo hi)

  pub opened_requested : (i r : ℕ) → 1 ≤ i → requested opened i r ≡ 0
  opened_requested i r lo = rw opened_words_lem (first_requested n ta ts w few coins i r lo)
