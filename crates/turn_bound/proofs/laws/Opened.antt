-- The words after an accepted opening are sound.
use Prim.Native.Nat.{ℕ, zero, suc, ◌≤◌, ◌<◌}
use Rattle.std.specs.Prelude.{true, List, ◌≡◌, length, leb, Ok}
use Rattle.std.proofs.lemmas.Bool.{false≢true}
use Rattle.std.proofs.Math.Path.{refl}
use Rattle.std.proofs.Common.{sym, ap, ◌∙◌, arith}
use borrow.Author.Tests.{leb-true}
use Rattle.quorum.specs.laws.Bools.{and_left, and_right}
use Rattle.settings.specs.Rules.{Ruled}
use Rattle.settings.specs.laws.Rules.{valid_rules}
use Rattle.settings.specs.laws.Versions.{Known, version_known_lem}
use Rattle.settings.specs.declared.Settings.{Settings}
use Rattle.quorum.specs.Marks.{mark}
use Rattle.quorum.specs.laws.Marks.{mark_zero}
use Rattle.quorum.specs.Total.{total, everyone}
use Rattle.records.specs.Layout.{turns_at, flags_at, finish_sent_at, round_at, est_sent_at, est_sent_mark, aux_sent_at, commit_count_at}
use Rattle.records.specs.Words.{word}
use Rattle.session.specs.Session.{numbered, settings_of}
use Rattle.opening.specs.Arguments.{Arguments, weights_by, ta_by, settings_by}
use Rattle.opening.specs.Opening.{open_answer, open_words, opened}
use Rattle.opening.specs.laws.Cases.{Accepted, accepted}
use Rattle.opening.specs.laws.Given.{coins_given_lem}
use Rattle.opening.specs.laws.Opening.{length_first, first_n, first_ta, first_ts, first_own, first_turns, first_flags, first_weights, first_boxed, first_version, first_zero}
use Rattle.turn_bound.proofs.laws.Sums.{zero_count}
use Rattle.turn_bound.proofs.laws.Potential.{instance_part, potential}
use Rattle.turn_bound.specs.TurnBound.{terms_by, terms_of}
use Rattle.turn_bound.proofs.laws.Finishes.{measure}
use Rattle.turn_bound.proofs.laws.Sound.{Sound}
use Rattle.settings.specs.laws.Answers.{taken_true}

-- the words of a new state
module _ (o : Arguments) (few : o.n ≤ 16) where
  abbrev new : List ℕ
  new = open_words o

  new_terms : terms_of new ≡ terms_by o
  unfolding settings_of
  new_terms = rw (first_n o, first_ta o, first_ts o, first_weights o few, first_version o few)

  new_zero : (k : ℕ) → 24 ≤ k → (k ≤ 143 → k < 141) → word new k ≡ 0
  new_zero = first_zero o few

  no_est : (j p : ℕ) → 1 ≤ j → j ≤ o.n → mark (word new (est_sent_at j)) p ≡ true → ⊥
  no_est j p lo hi e = false≢true (sym (mark_zero p) ∙ ap (λ (x : ℕ). mark x p) (sym (new_zero (est_sent_at j) (omega arith) (λ z. omega arith))) ∙ e)

  part_zero : (i : ℕ) → 1 ≤ i → i ≤ o.n → instance_part new i ≡ 0
  unfolding instance_part
  part_zero i lo hi =
      rw (
        new_zero 136 (omega arith) (λ z. omega arith),
        new_zero 137 (omega arith) (λ z. omega arith),
        mark_zero i,
        zero_count (word new (est_sent_at i)) 64 (new_zero (est_sent_at i) (omega arith) (λ z. omega arith)),
        zero_count (word new (aux_sent_at i)) 32 (new_zero (aux_sent_at i) (omega arith) (λ z. omega arith)),
        new_zero (round_at i) (omega arith) (λ z. omega arith),
      )

  parts_zero : (k : ℕ) → k ≤ o.n → total (instance_part new) everyone k ≡ 0
  unfolding total
  parts_zero zero h = refl
  parts_zero (suc k) h = omega (arith, part_zero (suc k) (omega arith) h, parts_zero k (omega arith))

  new_potential : potential o.n new ≡ 0
  unfolding potential
  new_potential = omega (arith, zero_count (word new flags_at) 3 (first_flags o), parts_zero o.n (omega arith))

  new_measure : measure o.n new ≡ 0
  unfolding measure
  new_measure = omega (arith, new_potential, zero_count (word new finish_sent_at) o.n (new_zero finish_sent_at (omega arith) (λ z. omega arith)))

  new_sound : Known o.version → 1 ≤ o.own → o.own ≤ o.n → o.boxed ≤ 1 → Sound (terms_by o) new
  new_sound known low high kind =
      record {
        size = length_first o;
        terms = new_terms;
        known = known;
        own_low = rw (first_own o) low;
        own_high = rw (first_own o) high;
        kind = rw (first_boxed o few) kind;
        counts = λ p lo hi. omega (arith, new_zero (commit_count_at p) (omega arith) (λ z. omega arith));
        orderly =
            record {
              rounds = λ j lo hi. omega (arith, new_zero (round_at j) (omega arith) (λ z. omega arith));
              reached = λ j r b lo hi rl rh bb e. absurd (no_est j (est_sent_mark r b) lo hi e);
              passed = λ j r lo hi l e. absurd (omega (arith, new_zero (round_at j) (omega arith) (λ z. omega arith)));
            };
        sent = λ i lo hi e. absurd (false≢true (sym (mark_zero i) ∙ ap (λ (x : ℕ). mark x i) (sym (new_zero finish_sent_at (omega arith) (λ z. omega arith))) ∙ e));
        turns = first_turns o ∙ sym new_measure;
      }

module _ (s : List ℕ) (o : Arguments) (e : open_answer (length s) o ≡ Ok tt) where
  abbrev g : Settings
  g = settings_by o

  is_accepted : Accepted (length s) o
  is_accepted = accepted (length s) o e

  pub opened_ruled : Ruled g
  opened_ruled = valid_rules o.n (ta_by o) o.ts (weights_by o) is_accepted.valid

  pub opened_new : opened s o ≡ open_words o
  unfolding opened
  opened_new = rw (taken_true (open_answer (length s) o) e)

  own_low : 1 ≤ o.own
  unfolding numbered
  own_low = leb-true 1 o.own (and_left (leb 1 o.own) (leb o.own o.n) is_accepted.own_number)

  own_high : o.own ≤ o.n
  unfolding numbered
  own_high = leb-true o.own o.n (and_right (leb 1 o.own) (leb o.own o.n) is_accepted.own_number)

  kind : o.boxed ≤ 1
  kind = (coins_given_lem o.n o.coins o.boxed is_accepted.given).kind

  pub opened_sound : Sound (terms_by o) (opened s o)
  opened_sound = rw opened_new (new_sound o opened_ruled.few (version_known_lem o.version is_accepted.known) own_low own_high kind)

  pub opened_turns : word (opened s o) turns_at ≡ 0
  opened_turns = rw opened_new (first_turns o)
