-- What the words of a new state hold.
use Rattle.std.specs.Prelude.{ℕ, ◌+◌, ◌-◌, ◌≤◌, ◌<◌, ◌^◌, Bool, true, false, cond, List, ◌≡◌, eqb, length}
use Rattle.std.proofs.Common.{sym, ◌∙◌, arith}
use Rattle.std.proofs.Math.Decide.{dec_lt}
use Rattle.records.specs.laws.Bounds.{Fit, fit_put, fit_store_of, fit_blank}
use Rattle.records.specs.Words.{blank}
use Rattle.records.specs.laws.Fill.{length_blank, word_blank, length_store_of, store_other, store_same}
use Rattle.records.specs.Layout.{state_words, n_at, ta_at, ts_at, own_at, session_at, input_at, weights_at, boxed_at, version_at, turns_at, flags_at, coin_at}
use Rattle.records.specs.Words.{word}
use Rattle.records.specs.laws.Words.{length_put, word_put_same, word_put_other, word_past_end}
use Rattle.opening.specs.Opening.{with_settings, with_coins, open_words}
use Rattle.opening.specs.Given.{item}
use Rattle.opening.specs.Arguments.{Arguments, weights_by, ta_by}

module _ (s : List ℕ) (o : Arguments) where
  abbrev settled : List ℕ
  settled = with_settings s o

  length_settled : length settled ≡ length s
  unfolding with_settings
  length_settled = simp length_put

  settled_other : (a : ℕ) → 6 ≤ a → (a ≤ 143 → a < 141) → word settled a ≡ word s a
  unfolding with_settings
  settled_other a h ne =
      word_put_other _ version_at o.version a (λ z. omega (arith, ne (omega arith)))
      ∙ word_put_other _ boxed_at o.boxed a (λ z. omega (arith, ne (omega arith)))
      ∙ word_put_other _ weights_at (weights_by o) a (λ z. omega (arith, ne (omega arith)))
      ∙ word_put_other _ input_at o.input a (λ z. omega arith)
      ∙ word_put_other _ session_at o.session a (λ z. omega arith)
      ∙ word_put_other _ own_at o.own a (λ z. omega arith)
      ∙ word_put_other _ ts_at o.ts a (λ z. omega arith)
      ∙ word_put_other _ ta_at (ta_by o) a (λ z. omega arith)
      ∙ word_put_other s n_at o.n a (λ z. omega arith)

  fit_settled : Fit s → o.n < 2 ^ 64 → ta_by o < 2 ^ 64 → o.ts < 2 ^ 64 → o.own < 2 ^ 64 → o.session < 2 ^ 64 → o.input < 2 ^ 64 → weights_by o < 2 ^ 64 → o.boxed < 2 ^ 64 → o.version < 2 ^ 64 → Fit settled
  unfolding with_settings
  fit_settled f a b c d e g k x y =
      let first = fit_put _ ts_at o.ts (fit_put _ ta_at (ta_by o) (fit_put s n_at o.n f a) b) c in
      let second = fit_put _ input_at o.input (fit_put _ session_at o.session (fit_put _ own_at o.own first d) e) g in
      fit_put _ version_at o.version (fit_put _ boxed_at o.boxed (fit_put _ weights_at (weights_by o) second k) x) y

  module _ (long : 6 ≤ length s) where
    settled_n : word settled n_at ≡ o.n
    unfolding with_settings
    settled_n =
        word_put_other _ version_at o.version n_at (λ z. omega arith)
        ∙ word_put_other _ boxed_at o.boxed n_at (λ z. omega arith)
        ∙ word_put_other _ weights_at (weights_by o) n_at (λ z. omega arith)
        ∙ word_put_other _ input_at o.input n_at (λ z. omega arith)
        ∙ word_put_other _ session_at o.session n_at (λ z. omega arith)
        ∙ word_put_other _ own_at o.own n_at (λ z. omega arith)
        ∙ word_put_other _ ts_at o.ts n_at (λ z. omega arith)
        ∙ word_put_other _ ta_at (ta_by o) n_at (λ z. omega arith)
        ∙ word_put_same s n_at o.n (omega arith)

    settled_ta : word settled ta_at ≡ ta_by o
    unfolding with_settings
    settled_ta =
        word_put_other _ version_at o.version ta_at (λ z. omega arith)
        ∙ word_put_other _ boxed_at o.boxed ta_at (λ z. omega arith)
        ∙ word_put_other _ weights_at (weights_by o) ta_at (λ z. omega arith)
        ∙ word_put_other _ input_at o.input ta_at (λ z. omega arith)
        ∙ word_put_other _ session_at o.session ta_at (λ z. omega arith)
        ∙ word_put_other _ own_at o.own ta_at (λ z. omega arith)
        ∙ word_put_other _ ts_at o.ts ta_at (λ z. omega arith)
        ∙ word_put_same _ ta_at (ta_by o) (simp length_put (omega arith))

    settled_ts : word settled ts_at ≡ o.ts
    unfolding with_settings
    settled_ts =
        word_put_other _ version_at o.version ts_at (λ z. omega arith)
        ∙ word_put_other _ boxed_at o.boxed ts_at (λ z. omega arith)
        ∙ word_put_other _ weights_at (weights_by o) ts_at (λ z. omega arith)
        ∙ word_put_other _ input_at o.input ts_at (λ z. omega arith)
        ∙ word_put_other _ session_at o.session ts_at (λ z. omega arith)
        ∙ word_put_other _ own_at o.own ts_at (λ z. omega arith)
        ∙ word_put_same _ ts_at o.ts (simp length_put (omega arith))

    settled_own : word settled own_at ≡ o.own
    unfolding with_settings
    settled_own =
        word_put_other _ version_at o.version own_at (λ z. omega arith)
        ∙ word_put_other _ boxed_at o.boxed own_at (λ z. omega arith)
        ∙ word_put_other _ weights_at (weights_by o) own_at (λ z. omega arith)
        ∙ word_put_other _ input_at o.input own_at (λ z. omega arith)
        ∙ word_put_other _ session_at o.session own_at (λ z. omega arith)
        ∙ word_put_same _ own_at o.own (simp length_put (omega arith))

    settled_session : word settled session_at ≡ o.session
    unfolding with_settings
    settled_session =
        word_put_other _ version_at o.version session_at (λ z. omega arith)
        ∙ word_put_other _ boxed_at o.boxed session_at (λ z. omega arith)
        ∙ word_put_other _ weights_at (weights_by o) session_at (λ z. omega arith)
        ∙ word_put_other _ input_at o.input session_at (λ z. omega arith)
        ∙ word_put_same _ session_at o.session (simp length_put (omega arith))

    settled_input : word settled input_at ≡ o.input
    unfolding with_settings
    settled_input =
        word_put_other _ version_at o.version input_at (λ z. omega arith)
        ∙ word_put_other _ boxed_at o.boxed input_at (λ z. omega arith)
        ∙ word_put_other _ weights_at (weights_by o) input_at (λ z. omega arith)
        ∙ word_put_same _ input_at o.input (simp length_put (omega arith))

-- coin words of 32 bits
pub coin_below : (coins : List ℕ) (i : ℕ) → ((j : ℕ) → word coins j < 2 ^ 32) → item coins i < 2 ^ 64
unfolding item
coin_below coins i h = go (eqb i 0) (word coins (i - 1)) (h (i - 1))
  where
    go : (b : Bool) (x : ℕ) → x < 2 ^ 32 → cond b 0 x < 2 ^ 64
    go true x l = omega arith
    go false x l = omega arith

module _ (o : Arguments) where
  -- the words of a new state
  abbrev first : List ℕ
  first = open_words o

  abbrev base : List ℕ
  base = with_settings (blank state_words) o

  room : 6 ≤ length (blank state_words)
  room = rw length_blank (omega arith)

  pub length_first : length first ≡ 2048
  unfolding open_words with_coins
  length_first = length_store_of (item o.coins) (coin_at 0) base o.n ∙ length_settled (blank state_words) o ∙ length_blank state_words

  -- no coin word stands at a
  first_base : (a : ℕ) → ((j : ℕ) → 1 ≤ j → j ≤ o.n → a ≡ coin_at 0 + j → ⊥) → word first a ≡ word base a
  unfolding open_words with_coins
  first_base a h = store_other (item o.coins) (coin_at 0) base o.n a h

  pub first_n : word first n_at ≡ o.n
  first_n = first_base n_at (λ j lo hi z. omega arith) ∙ settled_n (blank state_words) o room

  pub first_ta : word first ta_at ≡ ta_by o
  first_ta = first_base ta_at (λ j lo hi z. omega arith) ∙ settled_ta (blank state_words) o room

  pub first_ts : word first ts_at ≡ o.ts
  first_ts = first_base ts_at (λ j lo hi z. omega arith) ∙ settled_ts (blank state_words) o room

  pub first_own : word first own_at ≡ o.own
  first_own = first_base own_at (λ j lo hi z. omega arith) ∙ settled_own (blank state_words) o room

  pub first_session : word first session_at ≡ o.session
  first_session = first_base session_at (λ j lo hi z. omega arith) ∙ settled_session (blank state_words) o room

  pub first_input : word first input_at ≡ o.input
  first_input = first_base input_at (λ j lo hi z. omega arith) ∙ settled_input (blank state_words) o room

  pub first_turns : word first turns_at ≡ 0
  first_turns =
      first_base turns_at (λ j lo hi z. omega arith)
      ∙ settled_other (blank state_words) o turns_at (omega arith) (λ z. omega arith)
      ∙ word_blank state_words turns_at (omega arith)

  pub first_flags : word first flags_at ≡ 0
  first_flags =
      first_base flags_at (λ j lo hi z. omega arith)
      ∙ settled_other (blank state_words) o flags_at (omega arith) (λ z. omega arith)
      ∙ word_blank state_words flags_at (omega arith)

  module _ (few : o.n ≤ 16) where
    pub first_coin : (i : ℕ) → 1 ≤ i → i ≤ o.n → word first (coin_at i) ≡ item o.coins i
    unfolding open_words with_coins
    first_coin i lo hi =
        store_same (item o.coins) (coin_at 0) base o.n i lo hi
        (omega (arith, length_settled (blank state_words) o, length_blank state_words))

    pub first_weights : word first weights_at ≡ weights_by o
    unfolding with_settings
    first_weights =
        first_base weights_at (λ j lo hi z. omega arith)
        ∙ word_put_other _ version_at o.version weights_at (λ z. omega arith)
        ∙ word_put_other _ boxed_at o.boxed weights_at (λ z. omega arith)
        ∙ word_put_same _ weights_at (weights_by o) (simp length_put (rw length_blank (omega arith)))

    pub first_boxed : word first boxed_at ≡ o.boxed
    unfolding with_settings
    first_boxed =
        first_base boxed_at (λ j lo hi z. omega arith)
        ∙ word_put_other _ version_at o.version boxed_at (λ z. omega arith)
        ∙ word_put_same _ boxed_at o.boxed (simp length_put (rw length_blank (omega arith)))

    pub first_version : word first version_at ≡ o.version
    unfolding with_settings
    first_version = first_base version_at (λ j lo hi z. omega arith) ∙ word_put_same _ version_at o.version (simp length_put (rw length_blank (omega arith)))

    -- nothing is recorded
    pub first_zero : (a : ℕ) → 24 ≤ a → (a ≤ 143 → a < 141) → word first a ≡ 0
    first_zero a h ne = first_base a (λ j lo hi z. omega arith) ∙ settled_other (blank state_words) o a (omega arith) ne ∙ empty (dec_lt a state_words)
      where
        empty : Dec (a < state_words) → word (blank state_words) a ≡ 0
        empty (yes l) = word_blank state_words a l
        empty (no l) = sym (word_past_end (blank state_words) a (rw length_blank (omega arith)))

  pub fit_first : o.n < 2 ^ 64 → ta_by o < 2 ^ 64 → o.ts < 2 ^ 64 → o.own < 2 ^ 64 → o.session < 2 ^ 64 → o.input < 2 ^ 64 → weights_by o < 2 ^ 64 → o.boxed < 2 ^ 64 → o.version < 2 ^ 64 →
      ((i : ℕ) → item o.coins i < 2 ^ 64) → Fit first
  unfolding open_words with_coins
  fit_first a b c d e g v x y h =
      fit_store_of (item o.coins) (coin_at 0) base o.n
      (fit_settled (blank state_words) o (fit_blank state_words) a b c d e g v x y)
      (λ k lo hi. h k)
