-- A recording neither reads nor writes the word of the weights: on any words s, whatever x stands there.
use Rattle.std.specs.Prelude.{ℕ, ◌≤◌, Bool, ◌&&◌, not, List, ◌≡◌, Result, Ok, Err}
use Rattle.std.specs.Result.{is_ok}
use Rattle.std.proofs.Math.Bool.{true, false, cond}
use Rattle.std.proofs.Math.Path.{refl}
use Rattle.std.proofs.Common.{arith}
use Rattle.quorum.specs.laws.Bools.{and_left, not_passed}
use Rattle.settings.specs.declared.refusal.Refusal.{Refusal}
use Rattle.settings.specs.declared.refusal.Refusal.TheVariants as refusal
use Rattle.settings.specs.laws.Answers.{err_passed, true_taken}
use Rattle.records.specs.Layout.{n_at, weights_at, coin_at}
use Rattle.records.specs.Words.{word, put}
use Rattle.records.specs.Records.{closed}
use Rattle.recording.specs.Recording.{bit_mark, other_mark, in_layout, unopposed, recordable, with_bit}
use Rattle.recording.specs.laws.Recording.{within}
use Rattle.unweighted.specs.Session.{is_state}
use Rattle.unweighted.specs.Recording.{record_answer, recorded_words}
use Rattle.unweighted.proofs.laws.apart.Records.{word_apart, closed_apart, printed_apart, coin_mark_apart}
use Rattle.unweighted.proofs.laws.apart.Stores.{mark_apart}
use Rattle.unweighted.proofs.laws.apart.Session.{state_apart, few_held}

module _ (s : List ℕ) (x i r b : ℕ) where
  abbrev t : List ℕ
  t = put s weights_at x

  layout_apart : (n : ℕ) → in_layout t n i r b ≡ in_layout s n i r b
  unfolding in_layout
  layout_apart n = rw (printed_apart s x)

  recordable_apart : (n : ℕ) → n ≤ 16 → recordable t n i r b ≡ recordable s n i r b
  unfolding recordable unopposed
  recordable_apart n few = rw (layout_apart n) (at (in_layout s n i r b) refl)
    where
      at : (c : Bool) → in_layout s n i r b ≡ c → c && unopposed t i r b ≡ c && unopposed s i r b
      at true e = rw (coin_mark_apart s x i (omega (arith, few, (within s n i r b e).vote_high)) (other_mark r b))
      at false e = refl

  pub record_answer_apart : record_answer t i r b ≡ record_answer s i r b
  unfolding record_answer
  record_answer_apart = rw (state_apart s x, closed_apart s x, word_apart s x n_at (λ e. omega arith)) (at (is_state s) refl)
    where
      judge : Bool → Bool → Result (Unit {0}) Refusal
      judge c d = cond (not c) (Err refusal.NoState) (cond (closed s) (Err refusal.Closed) (cond (not d) (Err refusal.Coin) (Ok tt)))

      at : (c : Bool) → is_state s ≡ c → judge c (recordable t (word s n_at) i r b) ≡ judge c (recordable s (word s n_at) i r b)
      at true e = rw (recordable_apart (word s n_at) (few_held s e))
      at false e = refl

  -- an accepted one is of one of the votes 1 to 16
  accepted_few : record_answer s i r b ≡ Ok tt → i ≤ 16
  unfolding record_answer recordable
  accepted_few e =
      let n = word s n_at in
      let y = err_passed (not (is_state s)) refusal.NoState _ tt e in
      let z = err_passed (closed s) refusal.Closed _ tt y.1 in
      let q = err_passed (not (recordable s n i r b)) refusal.Coin (Ok tt) tt z.1 in
      let both = not_passed (recordable s n i r b) q.0 in
      omega (arith, (within s n i r b (and_left (in_layout s n i r b) (unopposed s i r b) both)).vote_high, few_held s (not_passed (is_state s) y.0))

  pub recorded_apart : recorded_words t i r b ≡ put (recorded_words s i r b) weights_at x
  unfolding recorded_words with_bit
  recorded_apart = rw record_answer_apart (at (is_ok (record_answer s i r b)) refl)
    where
      at : (c : Bool) → is_ok (record_answer s i r b) ≡ c → cond c (with_bit t i r b) t ≡ put (cond c (with_bit s i r b) s) weights_at x
      at true e = let few = accepted_few (true_taken (record_answer s i r b) e) in mark_apart x s (coin_at i) (bit_mark r b) (λ z. omega arith)
      at false e = refl
