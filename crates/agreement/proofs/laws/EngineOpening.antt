-- The engine keeps the laws of opening: an accepted one has settings within the rules, its words belong to the session and show nothing,
-- and a refused one leaves the words.
use Rattle.std.specs.Prelude.{ℕ, ◌≤◌, ◌<◌, Bool, true, false, List, ◌≡◌, eqb, length, Ok}
use Rattle.std.proofs.Math.Bool.{true≢false}
use Rattle.std.proofs.Common.{sym, subst, ◌∙◌, arith}
use Rattle.std.proofs.Math.Path.{ap}
use Rattle.std.proofs.Math.Decide.{ℕ_discrete}
use Rattle.std.proofs.Math.Dec.{leb}
use borrow.Author.Tests.{ne_eqb, leb-true}
use Rattle.quorum.specs.laws.Bools.{and_left, and_right}
use Rattle.settings.specs.Rules.{Ruled}
use Rattle.settings.specs.laws.Rules.{valid_rules, whole_few}
use Rattle.settings.specs.laws.Versions.{Known, version_known_lem}
use Rattle.quorum.specs.Marks.{mark}
use Rattle.quorum.specs.laws.Marks.{mark_zero}
use Rattle.records.specs.Layout.{boxed_at, coin_at, zero_mark, commit_count_at}
use Rattle.records.specs.Records.{printed, coin, coin_recorded, coin_known, send_held, echo_held, ready_held, est_held, aux_held, finish_held, decided_zero, decided_one, commit_count, commit_set}
use Rattle.records.specs.Words.{word, marked}
use Rattle.commits.specs.Commits.{commit_held}
use Rattle.session.specs.Session.{numbered}
use Rattle.wire.specs.Bytes.{rises}
use Rattle.opening.specs.Arguments.{weights_by, ta_by, settings_by}
use Rattle.opening.specs.laws.Cases.{Accepted, accepted}
use Rattle.opening.specs.Given.{item}
use Rattle.opening.specs.laws.Given.{weights_fit, CoinsGiven, coins_given_lem}
use Rattle.opening.specs.laws.Opening.{coin_below, length_first, first_n, first_ta, first_ts, first_own, first_session, first_input, first_coin, first_weights, first_boxed, first_version, first_zero, fit_first}
use Rattle.opening.specs.Opening.{open_answer, open_words, opened}
use Rattle.journal.specs.Journal.{LINE_BYTES, open_line_answer, opened_words}
use Rattle.journal.specs.laws.Journal.{line_taken, line_words_lem, line_stays}
use Rattle.agreement.specs.History.{Decision, zero, one}
use Rattle.held.specs.laws.Held.{Message, SEND, ECHO, READY, EST, AUX, COMMIT, FINISH, holds}
use Rattle.agreement.proofs.laws.Runs.{Blank}
use Rattle.calls.specs.Engine.{OpeningGiven, agreed, engine}
use Rattle.agreement.proofs.laws.Machine.{at}
use Rattle.agreement.proofs.laws.EngineSeen.{CoinShown, engine_seen}
use Rattle.agreement.proofs.laws.EngineReading.{Belongs, Sets, Belonging, engine_reading}
use Rattle.settings.specs.laws.Answers.{true_taken}

module _ (w : List ℕ) (o : OpeningGiven) (e : engine.opens w o ≡ true) where
  pub without_line : (open_answer (length w) o.given ≡ Ok tt) × (LINE_BYTES ≤ o.line)
  unfolding open_line_answer
  without_line = line_taken _ o.line (true_taken _ e)

  pub told : Accepted (length w) o.given
  told = accepted (length w) o.given without_line.0

  pub own_within : (1 ≤ o.given.own) × (o.given.own ≤ o.given.n)
  unfolding numbered
  own_within =
      let low = leb 1 o.given.own in
      let high = leb o.given.own o.given.n in
      (leb-true 1 o.given.own (and_left low high told.own_number), leb-true o.given.own o.given.n (and_right low high told.own_number))

  pub coins_told : CoinsGiven o.given.n o.given.coins o.given.boxed
  coins_told = coins_given_lem o.given.n o.given.coins o.given.boxed told.given

  pub opened_first : engine.opened w o ≡ open_words o.given
  unfolding opened_words opened
  opened_first = line_words_lem o.line w _ without_line.1 ∙ rw without_line.0

  pub open_ruled : Ruled (settings_by o.given)
  open_ruled = valid_rules o.given.n (ta_by o.given) o.given.ts (weights_by o.given) told.valid

first_belongs : (o : OpeningGiven) → Known o.given.version → Ruled (settings_by o.given) → 1 ≤ o.given.own → o.given.own ≤ o.given.n → o.given.boxed ≤ 1 → Belongs o (open_words o.given)
first_belongs o known r lo hi kind =
    record {
      known = known;
      ruled = r;
      own_low = lo;
      own_high = hi;
      kind = kind;
      size = length_first o.given;
      is_n = first_n o.given;
      is_ta = first_ta o.given;
      is_ts = first_ts o.given;
      is_weights = first_weights o.given r.few;
      is_boxed = first_boxed o.given r.few;
      is_version = first_version o.given r.few;
      is_own = first_own o.given;
      is_session = first_session o.given;
      is_input = first_input o.given;
      fits =
          fit_first o.given
          (omega (arith, r.few))
          (omega (arith, r.few, r.ordered, r.margin, whole_few (settings_by o.given) r))
          (omega (arith, r.few, r.margin, whole_few (settings_by o.given) r))
          (omega (arith, r.few))
          (omega (arith, o.session_fits))
          o.input_fits
          (weights_fit o.given.n o.given.weights)
          (omega (arith, kind))
          (omega (arith, known.high))
          (λ i. coin_below o.given.coins i o.coins_fit);
    }

module _ (o : OpeningGiven) (few : o.given.n ≤ 16) where
  zero_at : (a : ℕ) → 24 ≤ a → (a ≤ 143 → a < 141) → word (open_words o.given) a ≡ 0
  zero_at = first_zero o.given few

  no_mark : (a j : ℕ) → 24 ≤ a → (a ≤ 143 → a < 141) → marked (open_words o.given) a j ≡ true → ⊥
  unfolding marked
  no_mark a j h ne e = true≢false (sym e ∙ ap (λ (x : ℕ). mark x j) (zero_at a h ne) ∙ mark_zero j)

  no_set : (m : ℕ) → m ≤ 16 → commit_held (open_words o.given) m ≡ true → ⊥
  unfolding commit_held commit_count
  no_set m hi e = true≢false (sym e ∙ rw (zero_at (commit_count_at m) (omega arith) (λ z. omega arith)))

  first_sets : Sets o (open_words o.given)
  unfolding commit_count commit_set rises
  first_sets =
      record {
        rising = λ p lo hi. rw (zero_at (commit_count_at p) (omega arith) (λ z. omega arith));
        few = λ p lo hi. rw (zero_at (commit_count_at p) (omega arith) (λ z. omega arith)) (omega arith);
      }

  none_held : (m : ℕ) (x : Message) → m ≤ 16 → holds (open_words o.given) m x → ⊥
  unfolding send_held echo_held ready_held est_held aux_held finish_held
  none_held m (SEND v) hi h = no_mark _ m (omega arith) (λ z. omega arith) h.there
  none_held m (ECHO i v) hi h = no_mark _ m (omega arith) (λ z. omega (arith, h.instance.high)) h.there
  none_held m (READY i v) hi h = no_mark _ m (omega arith) (λ z. omega (arith, h.instance.high)) h.there
  none_held m (EST i r b) hi h = no_mark _ _ (omega arith) (λ z. omega arith) h.there
  none_held m (AUX i r b) hi h = no_mark _ _ (omega arith) (λ z. omega arith) h.there
  none_held m (COMMIT X) hi h = no_set m hi h.there
  none_held m (FINISH i b) hi h = no_mark _ _ (omega arith) (λ z. omega (arith, h.instance.low)) h.there

  none_decided : (i b : ℕ) → Decision (engine_seen.standing (open_words o.given)) i b → ⊥
  unfolding decided_zero decided_one
  none_decided i b (zero e) = no_mark _ i (omega arith) (λ z. omega arith) e
  none_decided i b (one e) = no_mark _ i (omega arith) (λ z. omega arith) e

  -- where coins are printed they stand there; where they are boxed none does
  first_coins : CoinsGiven o.given.n o.given.coins o.given.boxed → (i r : ℕ) (c : Bool) → CoinShown (open_words o.given) i r c →
      (eqb o.given.boxed 1 ≡ false) × (c ≡ mark (item o.given.coins i) r)
  unfolding coin_known printed coin_recorded coin marked
  first_coins given i r c k = go (ℕ_discrete o.given.boxed 0)
    where
      kind : word (open_words o.given) boxed_at ≡ o.given.boxed
      kind = first_boxed o.given few

      high : i ≤ o.given.n
      high = omega (arith, k.high, first_n o.given)

      coin_word : word (open_words o.given) (coin_at i) ≡ item o.given.coins i
      coin_word = first_coin o.given few i k.low high

      none : (o.given.boxed ≡ 0 → ⊥) → coin_known (open_words o.given) i r ≡ false
      none z = rw (kind, ne_eqb o.given.boxed 0 z, coin_word, given.zero z i k.low high, mark_zero r, mark_zero (zero_mark r))

      go : Dec (o.given.boxed ≡ 0) → (eqb o.given.boxed 1 ≡ false) × (c ≡ mark (item o.given.coins i) r)
      go (yes z) = (rw z, sym k.same ∙ ap (λ (x : ℕ). mark x r) coin_word)
      go (no z) = absurd (true≢false (sym k.known ∙ none z))

pub open_belongs : (w : List ℕ) (o : OpeningGiven) → engine.opens w o ≡ true → Belonging o (engine.opened w o)
open_belongs w o e =
    let r = open_ruled w o e in
    subst (Belonging o) (sym (opened_first w o e))
    (record { words = first_belongs o (version_known_lem o.given.version (told w o e).known) r (own_within w o e).0 (own_within w o e).1 (coins_told w o e).kind; sets = first_sets o r.few })

pub open_blank : (H : ℕ → Bool) (κ : ℕ → ℕ → Bool) (w : List ℕ) (o : OpeningGiven) → engine.opens w o ≡ true → Blank (at engine engine_reading H κ o) engine_seen (engine.opened w o)
open_blank H κ w o e =
    let few = (open_ruled w o e).few in
    subst (Blank (at engine engine_reading H κ o) engine_seen) (sym (opened_first w o e))
    (record { held = λ m x lo hi h. none_held o few m x (omega (arith, few)) h; decs = λ i b lo hi d. none_decided o few i b d })

pub open_coins : (w : List ℕ) (o : OpeningGiven) → engine.opens w o ≡ true → (i r : ℕ) (c : Bool) → CoinShown (engine.opened w o) i r c →
    (engine.boxed (agreed o.given) ≡ false) × (c ≡ engine.coin (agreed o.given) i r)
open_coins w o e i r c k = first_coins o (open_ruled w o e).few (coins_told w o e) i r c (rw (opened_first w o e) at k)

pub open_refused : (w : List ℕ) (o : OpeningGiven) → engine.opens w o ≡ false → engine.opened w o ≡ w
unfolding open_line_answer opened_words opened
open_refused w o e = line_stays _ o.line w _ e (λ f. rw f)
