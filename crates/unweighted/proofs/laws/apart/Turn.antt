-- A turn neither reads nor writes the word of the weights: on any words s, whatever x stands there.
use Rattle.std.specs.Prelude.{ℕ, Bool, not, List, ◌≡◌, ltb, length, Ok, Err}
use Rattle.std.proofs.Math.Bool.{true, false, cond}
use Rattle.std.proofs.Math.Path.{refl, ap}
use Rattle.std.proofs.Common.{◌∙◌, arith}
use Rattle.settings.specs.declared.refusal.Refusal.{Refusal}
use Rattle.settings.specs.declared.refusal.Refusal.TheVariants as refusal
use Rattle.records.specs.Layout.{own_at, weights_at}
use Rattle.records.specs.Words.{word, put}
use Rattle.records.specs.Records.{closed}
use Rattle.acts.specs.declared.Act.{Act}
use Rattle.acts.specs.declared.Act.TheVariants as act
use Rattle.turn.specs.Turn.{move_outcome, outcome_of, applied}
use Rattle.turn.proofs.laws.Frame.{Placed}
use Rattle.turn.specs.declared.Outcome.{Outcome}
use Rattle.turn.specs.declared.Outcome.TheVariants as outcome
use Rattle.unweighted.specs.Settings.{Settings}
use Rattle.unweighted.specs.Session.{settings_of, is_state}
use Rattle.unweighted.specs.Due.{due}
use Rattle.unweighted.specs.Turn.{due_in, outcome_in, bytes_after, taking, turn_outcome, turn_words, turn_bytes}
use Rattle.unweighted.proofs.laws.apart.Records.{version_apart, word_apart, closed_apart, coin_apart}
use Rattle.unweighted.proofs.laws.apart.Rules.{commit_due_apart, due_apart}
use Rattle.unweighted.proofs.laws.apart.Stores.{applied_apart}
use Rattle.unweighted.proofs.laws.apart.Session.{settings_apart, number_apart, state_apart, state_held, due_placed}

module _ (s : List ℕ) (x : ℕ) where
  abbrev t : List ℕ
  t = put s weights_at x

  module _ {A : Type 0} (F : A → A) (room : ℕ) (refused : Refusal → A) (a b : A) (same : is_state s ≡ true → a ≡ F b) where
    taking_apart : taking t room (λ k. F (refused k)) a ≡ F (taking s room refused b)
    unfolding taking
    taking_apart = rw (state_apart s x, closed_apart s x) (at (is_state s) refl (closed s) (ltb room 140))
      where
        at : (c : Bool) → is_state s ≡ c → (d l : Bool) → cond (not c) (F (refused refusal.NoState)) (cond d (F (refused refusal.Closed)) (cond l (F (refused refusal.Short)) a)) ≡ F (cond (not c) (refused refusal.NoState) (cond d (refused refusal.Closed) (cond l (refused refusal.Short) b)))
        at true e true l = refl
        at true e false true = refl
        at true e false false = same e
        at false e d l = refl

  due_in_apart : is_state s ≡ true → due_in t ≡ due_in s
  unfolding due_in
  due_in_apart e = ap (λ (g : Settings). due g t) (settings_apart s x) ∙ due_apart (settings_of s) (state_held s e).few s x

  outcome_of_apart : (own : ℕ) (a : Act) → Placed a → outcome_of own t a ≡ outcome_of own s a
  unfolding outcome_of move_outcome
  outcome_of_apart own act.Idle l = refl
  outcome_of_apart own act.InForce l = refl
  outcome_of_apart own (act.Commit k) l = refl
  outcome_of_apart own (act.Send v) l = refl
  outcome_of_apart own (act.Echo i v) l = refl
  outcome_of_apart own (act.Ready i v) l = refl
  outcome_of_apart own (act.Start i b) l = refl
  outcome_of_apart own (act.Relay i r b) l = refl
  outcome_of_apart own (act.Aux i r b) l = refl
  outcome_of_apart own (act.Move i r v) l = rw (coin_apart s x i l.1 r)
  outcome_of_apart own (act.Finish i b) l = refl

  outcome_in_apart : is_state s ≡ true → outcome_in t ≡ outcome_in s
  unfolding outcome_in
  outcome_in_apart e = rw (word_apart s x own_at (λ z. omega arith), due_in_apart e) (outcome_of_apart (word s own_at) (due_in s) (due_placed s e))

  after_apart : is_state s ≡ true → (o : Outcome) (out : List ℕ) → bytes_after t o out ≡ bytes_after s o out
  unfolding bytes_after
  after_apart e outcome.Idle out = refl
  after_apart e (outcome.Sent m) out =
      rw (word_apart s x own_at (λ z. omega arith), version_apart s x, number_apart s x, settings_apart s x, commit_due_apart (settings_of s) (state_held s e).few s x)
  after_apart e outcome.MovedOut out = refl
  after_apart e outcome.InForce out = refl

  pub turn_outcome_apart : (room : ℕ) → turn_outcome t room ≡ turn_outcome s room
  unfolding turn_outcome
  turn_outcome_apart room = taking_apart (λ o. o) room (λ k. Err k) (Ok (outcome_in t)) (Ok (outcome_in s)) (λ e. ap Ok (outcome_in_apart e))

  pub turn_words_apart : (room : ℕ) → turn_words t room ≡ put (turn_words s room) weights_at x
  unfolding turn_words
  turn_words_apart room =
      taking_apart (λ u. put u weights_at x) room (λ k. s) (applied t (due_in t)) (applied s (due_in s))
      (λ e. ap (applied t) (due_in_apart e) ∙ applied_apart x s (due_in s) (due_placed s e))

  pub turn_bytes_apart : (out : List ℕ) → turn_bytes t out ≡ turn_bytes s out
  unfolding turn_bytes
  turn_bytes_apart out =
      taking_apart (λ u. u) (length out) (λ k. out) (bytes_after t (outcome_in t) out) (bytes_after s (outcome_in s) out)
      (λ e. after_apart e (outcome_in t) out ∙ ap (λ (o : Outcome). bytes_after s o out) (outcome_in_apart e))
