-- Whether the words hold a state is the same whatever x stands in the word of the weights.
use Rattle.std.specs.Prelude.{ℕ, ◌-◌, ◌+◌, ◌*◌, ◌^◌, ◌≤◌, true, false, ◌&&◌, List, ◌≡◌, refl, ltb, length}
use Rattle.std.proofs.Math.Bool.{Bool}
use Rattle.std.proofs.Math.Path.{ap}
use Rattle.std.proofs.Common.{subst, ◌∙◌, arith, le-leb, leb-true, eqb-true}
use Rattle.std.proofs.Math.Decide.{dec_le}
use Rattle.std.proofs.Math.Dec.{eqb, leb}
use Rattle.std.proofs.lemmas.Bool.{lt-leb}
use Rattle.quorum.specs.laws.Bools.{and_left, and_right}
use Rattle.quorum.specs.laws.Every.{every_agree}
use Rattle.quorum.specs.Weights.{weight_of}
use Rattle.quorum.specs.laws.Whole.{ones_weight}
use Rattle.records.specs.Layout.{state_words, n_at, ta_at, ts_at, own_at, session_at, turns_at, weights_at, boxed_at, round_at, commit_count_at}
use Rattle.records.specs.Words.{word, put}
use Rattle.records.specs.laws.Words.{length_put, word_put_same}
use Rattle.session.specs.Session.{rounds_right, commits_right}
use Rattle.session.specs.Session as weighted_session
use Rattle.session.specs.laws.Session.{is_state_lem}
use Rattle.acts.specs.declared.Act.{Act}
use Rattle.turn.specs.Due as weighted_due
use Rattle.turn.specs.laws.Due.{due_told}
use Rattle.turn.proofs.laws.Frame.{Placed, told_placed}
use Rattle.unweighted.specs.Settings.{Settings, valid_settings}
use Rattle.unweighted.specs.Session.{settings_of, session_number, numbers_right, is_state}
use Rattle.unweighted.specs.Due.{due}
use Rattle.unweighted.specs.Turn.{due_in}
use Rattle.unweighted.specs.Statement.{AllOne}
use Rattle.unweighted.proofs.laws.Session.{state_same, stored_due}
use Rattle.unweighted.proofs.laws.apart.Records.{word_apart, version_apart}
use Rattle.unweighted.proofs.laws.apart.Rules.{due_apart}

module _ (s : List ℕ) (x : ℕ) where
  abbrev t : List ℕ
  t = put s weights_at x

  pub settings_apart : settings_of t ≡ settings_of s
  unfolding settings_of
  settings_apart = rw (word_apart s x n_at (λ e. omega arith), word_apart s x ta_at (λ e. omega arith), word_apart s x ts_at (λ e. omega arith))

  pub number_apart : session_number t ≡ session_number s
  unfolding session_number
  number_apart = rw (word_apart s x session_at (λ e. omega arith))

  numbers_apart : (g : Settings) → g.n ≤ 16 → numbers_right g t ≡ numbers_right g s
  unfolding numbers_right rounds_right commits_right
  numbers_apart g few =
      rw (
        word_apart s x own_at (λ e. omega arith),
        word_apart s x boxed_at (λ e. omega arith),
        version_apart s x,
        word_apart s x turns_at (λ e. omega arith),
        every_agree (λ i. leb (word t (round_at i)) 33) (λ i. leb (word s (round_at i)) 33) g.n (λ i lo hi. rw (word_apart s x (round_at i) (λ e. omega arith))),
        every_agree (λ p. leb (word t (commit_count_at p)) g.n) (λ p. leb (word s (commit_count_at p)) g.n) g.n (λ p lo hi. rw (word_apart s x (commit_count_at p) (λ e. omega arith))),
      )

  pub state_apart : is_state t ≡ is_state s
  unfolding is_state valid_settings settings_of
  state_apart =
      rw (length_put s weights_at x, word_apart s x n_at (λ e. omega arith), word_apart s x ta_at (λ e. omega arith), word_apart s x ts_at (λ e. omega arith))
      (by (dec_le (word s n_at) 16))
    where
      valid : Bool
      valid = eqb (length s) state_words && valid_settings (word s n_at) (word s ta_at) (word s ts_at)

      past : (b : Bool) → (b && false) && numbers_right (settings_of s) t ≡ (b && false) && numbers_right (settings_of s) s
      past true = refl
      past false = refl

      by : Dec (word s n_at ≤ 16) → valid && numbers_right (settings_of s) t ≡ valid && numbers_right (settings_of s) s
      by (yes few) = ap (λ (b : Bool). valid && b) (numbers_apart (settings_of s) few)
      by (no many) = rw (le-leb 1 (word s n_at) (omega arith), lt-leb (word s n_at) 16 (omega arith)) (past (eqb (length s) state_words))

-- a state has 2,048 words, and at most 16 concentrators
pub record Held (s : List ℕ) : Type 0 where
  pub size : length s ≡ 2048
  pub few : (settings_of s).n ≤ 16

pub state_held : (s : List ℕ) → is_state s ≡ true → Held s
unfolding is_state settings_of valid_settings
state_held s e =
    let n = word s n_at in
    let sized = eqb (length s) state_words in
    let low = leb 1 n in
    let high = leb n 16 in
    let order = leb (word s ta_at) (word s ts_at) in
    let margin = ltb (2 * word s ts_at + word s ta_at) n in
    let whole = and_left (sized && (low && high && order && margin)) (numbers_right (settings_of s) s) e in
    let rules = and_right sized (low && high && order && margin) whole in
    record {
      size = eqb-true (length s) state_words (and_left sized (low && high && order && margin) whole);
      few = leb-true n 16 (and_right low high (and_left (low && high) order (and_left (low && high && order) margin rules)));
    }

-- what is due in a state is of one of its votes: it is due as well where each of 1 to n weighs 1
module _ (s : List ℕ) (e : is_state s ≡ true) where
  abbrev ones : List ℕ
  ones = put s weights_at (2 ^ word s n_at - 1)

  h : Held s
  h = state_held s e

  pub few_held : word s n_at ≤ 16
  unfolding settings_of
  few_held = h.few

  ones_all : AllOne ones
  unfolding AllOne
  ones_all p lo hi =
      let n : word ones n_at ≡ word s n_at = word_apart s _ n_at (λ z. omega arith) in
      ap (λ (w : ℕ). weight_of w p) (word_put_same s weights_at (2 ^ word s n_at - 1) (omega (arith, h.size)))
      ∙ ones_weight (word s n_at) p lo (omega arith) few_held

  due_ones : weighted_due.due (weighted_session.settings_of ones) ones ≡ due_in s
  unfolding due_in
  due_ones = stored_due ones ones_all ∙ ap (λ (g : Settings). due g ones) (settings_apart s _) ∙ due_apart (settings_of s) h.few s _

  pub due_placed : Placed (due_in s)
  due_placed =
      let ruled = (is_state_lem ones (state_same ones ones_all ∙ state_apart s _ ∙ e)).ruled in
      subst (λ (a : Act). Placed a) due_ones
      (told_placed (weighted_session.settings_of ones) ones ruled (weighted_due.due (weighted_session.settings_of ones) ones) (due_told (weighted_session.settings_of ones) ones ruled))
