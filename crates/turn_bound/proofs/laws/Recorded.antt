-- A recording keeps the words sound: it sets a mark in a coin word, which no bound reads, and does not count as a turn.
use Rattle.std.specs.Prelude.{ℕ, ◌≤◌, Bool, true, false, List, ◌≡◌, refl}
use Rattle.std.proofs.Common.{arith}
use Rattle.settings.specs.Rules.{Ruled}
use Rattle.records.specs.Layout.{turns_at, commit_count_at}
use Rattle.records.specs.Words.{word}
use Rattle.records.specs.laws.Words.{length_set_mark}
use Rattle.session.specs.Session.{settings_of}
use Rattle.recording.specs.Recording.{record_answer, with_bit, recorded_words}
use Rattle.recording.specs.laws.Recording.{Recordable, accepted, refused_same, accepted_marks, other_word}
use Rattle.turn_bound.specs.TurnBound.{Terms}
use Rattle.turn_bound.proofs.laws.Delivering.{same_sound}
use Rattle.turn_bound.proofs.laws.Sound.{Sound}
use Rattle.std.specs.Result.{is_ok}
use Rattle.settings.specs.laws.Answers.{true_taken}

-- what a recording leaves: every word but the coins'
pub record Recorded (k : Terms) (s t : List ℕ) : Type 0 where
  pub sound : Sound k t
  pub count : word t turns_at ≡ word s turns_at
  pub same : (a : ℕ) → (8 ≤ a → 24 ≤ a) → word t a ≡ word s a

module _ (k : Terms) (ruled : Ruled k.settings) (s : List ℕ) (h : Sound k s) (i r b : ℕ) where
  accepted_sound : Recordable s i r b → Recorded k s (with_bit s i r b)
  unfolding with_bit settings_of
  accepted_sound x =
      record {
        sound =
            same_sound k ruled s (with_bit s i r b) (λ a u. same a) (λ a lo hi. same a (λ z. omega arith)) h (length_set_mark _ _ _)
            (λ p low high. omega (arith, same (commit_count_at p) (λ z. omega arith), h.counts p low high));
        count = same turns_at (λ z. omega arith);
        same = same;
      }
    where
      same : (a : ℕ) → (8 ≤ a → 24 ≤ a) → word (with_bit s i r b) a ≡ word s a
      same a off = other_word s i r b x a (λ z. omega (arith, off (omega (arith, x.vote_low)), x.vote_high, x.state.ruled.few))

  pub recording_sound : Recorded k s (recorded_words s i r b)
  recording_sound = at (is_ok (record_answer s i r b)) refl
    where
      at : (c : Bool) → is_ok (record_answer s i r b) ≡ c → Recorded k s (recorded_words s i r b)
      at true e = rw (accepted_marks s i r b e) (accepted_sound (accepted s i r b (true_taken (record_answer s i r b) e)))
      at false e = rw (refused_same s i r b e) (record { sound = h; count = refl; same = λ a off. refl })
