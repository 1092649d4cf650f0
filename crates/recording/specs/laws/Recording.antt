-- What an accepted recording leaves: the coin of its vote and round is known and is its bit; every other coin, and every word but the vote's
-- coin word, is as before; in a printed session none is accepted.
use Rattle.std.specs.Prelude.{ℕ, ◌+◌, ◌≤◌, Bool, ◌&&◌, ◌||◌, not, List, ◌⊎◌, ◌≢◌, ◌≡◌, leb, Ok}
use Rattle.std.proofs.Math.Bool.{true, false, cond}
use Rattle.std.proofs.lemmas.Bool.{false≢true}
use Rattle.std.proofs.Common.{inl, inr, sym, ◌∙◌, arith, leb-true}
use Rattle.std.proofs.Math.Path.{refl, ap}
use Rattle.std.proofs.Math.Decide.{ℕ_discrete}
use Rattle.std.proofs.Math.Dec.{eqb}
use Rattle.quorum.specs.laws.Bools.{and_left, and_right, not_passed}
use Rattle.std.specs.Result.{is_ok}
use Rattle.settings.specs.declared.refusal.Refusal.TheVariants as refusal
use Rattle.settings.specs.laws.Answers.{err_passed}
use Rattle.settings.specs.Settings.{round_limit}
use Rattle.quorum.specs.Marks.{mark, with_mark}
use Rattle.quorum.specs.laws.Marks.{mark_same, mark_other}
use Rattle.records.specs.Layout.{n_at, coin_at}
use Rattle.records.specs.Words.{word, marked}
use Rattle.records.specs.laws.Words.{word_set_mark_same, word_set_mark_other}
use Rattle.records.specs.Records.{closed, coin, printed, coin_recorded}
use Rattle.session.specs.Session.{is_state, numbered, settings_of}
use Rattle.session.specs.laws.Session.{State, is_state_lem}
use Rattle.recording.specs.Recording.{bit_mark, other_mark, in_layout, unopposed, recordable, record_answer, with_bit, recorded_words}

not_false_is : (b : Bool) → not b ≡ true → b ≡ false
not_false_is true e = absurd (false≢true e)
not_false_is false e = refl

-- within the layout of a boxed session of n
pub record Within (s : List ℕ) (n i r b : ℕ) : Type 0 where
  pub boxed : printed s ≡ false
  pub vote_low : 1 ≤ i
  pub vote_high : i ≤ n
  pub round_low : 1 ≤ r
  pub round_high : r ≤ 32
  pub bit : b ≤ 1

pub within : (s : List ℕ) (n i r b : ℕ) → in_layout s n i r b ≡ true → Within s n i r b
unfolding in_layout numbered
within s n i r b all =
    let boxed = not (printed s) in
    let vote = leb 1 i && leb i n in
    let round = leb 1 r && leb r round_limit in
    let bit = leb b 1 in
    let a = and_right boxed (vote && (round && bit)) all in
    let c = and_right vote (round && bit) a in
    let v = and_left vote (round && bit) a in
    let q = and_left round bit c in
    record {
      boxed = not_false_is (printed s) (and_left boxed (vote && (round && bit)) all);
      vote_low = leb-true 1 i (and_left (leb 1 i) (leb i n) v);
      vote_high = leb-true i n (and_right (leb 1 i) (leb i n) v);
      round_low = leb-true 1 r (and_left (leb 1 r) (leb r round_limit) q);
      round_high = leb-true r 32 (and_right (leb 1 r) (leb r round_limit) q);
      bit = leb-true b 1 (and_right round bit c);
    }

-- what an accepted recording tells
pub record Recordable (s : List ℕ) (i r b : ℕ) : Type 0 where
  pub state : State s
  pub running : closed s ≡ false
  pub boxed : printed s ≡ false
  pub vote_low : 1 ≤ i
  pub vote_high : i ≤ word s n_at
  pub round_low : 1 ≤ r
  pub round_high : r ≤ 32
  pub bit : b ≤ 1
  pub free : marked s (coin_at i) (other_mark r b) ≡ false

pub accepted : (s : List ℕ) (i r b : ℕ) → record_answer s i r b ≡ Ok tt → Recordable s i r b
unfolding record_answer recordable unopposed
accepted s i r b e =
    let against = marked s (coin_at i) (other_mark r b) in
    let x = err_passed (not (is_state s)) refusal.NoState _ tt e in
    let y = err_passed (closed s) refusal.Closed _ tt x.1 in
    let z = err_passed (not (in_layout s (word s n_at) i r b && not against)) refusal.Coin (Ok tt) tt y.1 in
    let both = not_passed (in_layout s (word s n_at) i r b && not against) z.0 in
    let k = within s (word s n_at) i r b (and_left (in_layout s (word s n_at) i r b) (not against) both) in
    record {
      state = is_state_lem s (not_passed (is_state s) x.0);
      running = y.0;
      boxed = k.boxed;
      vote_low = k.vote_low;
      vote_high = k.vote_high;
      round_low = k.round_low;
      round_high = k.round_high;
      bit = k.bit;
      free = not_false_is against (and_right (in_layout s (word s n_at) i r b) (not against) both);
    }

-- a refused one changes nothing, an accepted one marks its bit
pub refused_same : (s : List ℕ) (i r b : ℕ) → is_ok (record_answer s i r b) ≡ false → recorded_words s i r b ≡ s
unfolding recorded_words
refused_same s i r b e = rw e

pub accepted_marks : (s : List ℕ) (i r b : ℕ) → is_ok (record_answer s i r b) ≡ true → recorded_words s i r b ≡ with_bit s i r b
unfolding recorded_words
accepted_marks s i r b e = rw e

module _ (s : List ℕ) (i r b : ℕ) (x : Recordable s i r b) where
  abbrev t : List ℕ
  t = with_bit s i r b

  here : word t (coin_at i) ≡ with_mark (word s (coin_at i)) (bit_mark r b)
  unfolding with_bit settings_of
  here = word_set_mark_same s (coin_at i) (bit_mark r b) (omega (arith, x.state.size, x.vote_high, x.state.ruled.few))

  -- every other word stays
  pub other_word : (k : ℕ) → k ≢ coin_at i → word t k ≡ word s k
  unfolding with_bit
  other_word k ne = word_set_mark_other s (coin_at i) (bit_mark r b) k ne

  mark_within : (1 ≤ bit_mark r b) × (bit_mark r b ≤ 64)
  unfolding bit_mark
  mark_within = at (eqb b 1)
    where
      at : (c : Bool) → (1 ≤ cond c r (32 + r)) × (cond c r (32 + r) ≤ 64)
      at true = (x.round_low, omega (arith, x.round_high))
      at false = (omega (arith, x.round_low), omega (arith, x.round_high))

  abbrev w : ℕ
  w = word s (coin_at i)

  one_mark : eqb b 1 ≡ true → bit_mark r b ≡ r
  unfolding bit_mark
  one_mark e = rw e

  zero_mark_lem : eqb b 1 ≡ false → bit_mark r b ≡ 32 + r
  unfolding bit_mark
  zero_mark_lem e = rw e

  set : (m : ℕ) → bit_mark r b ≡ m → mark (with_mark w (bit_mark r b)) m ≡ true
  set m e = ap (λ (k : ℕ). mark (with_mark w (bit_mark r b)) k) (sym e) ∙ mark_same w (bit_mark r b) mark_within.0 mark_within.1

  -- the coin is the bit
  pub coin_here : coin t i r ≡ eqb b 1
  unfolding coin marked other_mark
  coin_here = ap (λ (k : ℕ). mark k r) here ∙ at (eqb b 1) refl
    where
      at : (c : Bool) → eqb b 1 ≡ c → mark (with_mark w (bit_mark r b)) r ≡ c
      at true e = set r (one_mark e)
      at false e = mark_other w (bit_mark r b) r (λ z. omega (arith, zero_mark_lem e, z)) ∙ rw e at x.free

  -- other coins stay as they are, known or not
  pub coin_elsewhere : (j q : ℕ) → 1 ≤ q → q ≤ 32 → (j ≢ i) ⊎ (q ≢ r) → (coin t j q ≡ coin s j q) × (coin_recorded t j q ≡ coin_recorded s j q)
  unfolding coin_recorded coin marked
  coin_elsewhere j q lo hi (inl ne) =
      let e = other_word (coin_at j) (λ z. ne (omega arith)) in
      (ap (λ (k : ℕ). mark k q) e, ap (λ (k : ℕ). mark k q || mark k (32 + q)) e)
  coin_elsewhere j q lo hi (inr ne) = at (ℕ_discrete j i)
    where
      apart : (c : Bool) → eqb b 1 ≡ c → (q ≡ bit_mark r b → ⊥) × (32 + q ≡ bit_mark r b → ⊥)
      apart true e = (λ z. ne (z ∙ one_mark e), λ z. omega (arith, one_mark e, z, x.round_high))
      apart false e = (λ z. omega (arith, zero_mark_lem e, z, hi, x.round_low), λ z. ne (omega (arith, zero_mark_lem e, z)))

      two : (a b c d : Bool) → a ≡ c → b ≡ d → (a || b) ≡ (c || d)
      two a b c d e f = rw (e, f)

      at : Dec (j ≡ i) → (mark (word t (coin_at j)) q ≡ mark (word s (coin_at j)) q) × ((mark (word t (coin_at j)) q || mark (word t (coin_at j)) (32 + q)) ≡ (mark (word s (coin_at j)) q || mark (word s (coin_at j)) (32 + q)))
      at (yes e) =
          let k = apart (eqb b 1) refl in
          let one = ap (λ (m : ℕ). mark m q) here ∙ mark_other w (bit_mark r b) q k.0 in
          let two' = ap (λ (m : ℕ). mark m (32 + q)) here ∙ mark_other w (bit_mark r b) (32 + q) k.1 in
          rw e (one, two _ _ _ _ one two')
      at (no n) =
          let e = other_word (coin_at j) (λ z. n (omega arith)) in
          (ap (λ (k : ℕ). mark k q) e, ap (λ (k : ℕ). mark k q || mark k (32 + q)) e)
