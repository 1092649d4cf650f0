-- A turn on words in which all weights are 1.
use Rattle.std.specs.Prelude.{ℕ, Bool, not, cond, ◌≡◌, ltb, length, Ok, Err}
use Rattle.std.proofs.Math.Bool.{true, false}
use mathlib.Core.List.{List}
use Rattle.std.proofs.Math.Path.{refl, ap}
use Rattle.std.proofs.Common.{◌∙◌}
use Rattle.settings.specs.declared.refusal.Refusal.{Refusal}
use Rattle.settings.specs.declared.refusal.Refusal.TheVariants as refusal
use Rattle.records.specs.Layout.{own_at}
use Rattle.records.specs.Words.{word}
use Rattle.records.specs.Records.{closed, version}
use Rattle.acts.specs.declared.Act.{Act}
use Rattle.session.specs.Session.{session_with, session_of}
use Rattle.session.specs.Session as weighted_session
use Rattle.session.specs.declared.Session.{Session}
use Rattle.wire.specs.Message.{encode, at_front}
use Rattle.turn.specs.Due.{due}
use Rattle.turn.specs.Turn.{outcome_of, applied}
use Rattle.turn.specs.Turn as weighted
use Rattle.turn.specs.declared.Outcome.{Outcome}
use Rattle.turn.specs.declared.Outcome.TheVariants as outcome
use Rattle.unweighted.specs.Session.{session_number}
use Rattle.unweighted.specs.Turn.{due_in, outcome_in, bytes_after, taking, turn_outcome, turn_words, turn_bytes}
use Rattle.unweighted.specs.Statement.{AllOne}
use Rattle.unweighted.proofs.laws.Session.{state_same, stored_commit, stored_due}

module _ (s : List ℕ) (all : AllOne s) where
  -- what the refusals give in their order, or the session
  module _ {A : Type 0} (refused : Refusal → A) (done : Session → A) (room : ℕ) where
    abbrev made : Bool → Bool → Bool → A
    made t c l = cond (not t) (refused refusal.NoState) (cond c (refused refusal.Closed) (cond l (refused refusal.Short) (done (session_of s))))

    by_tests : (t c l : Bool) → weighted.taking (cond (not t) (Err refusal.NoState) (cond c (Err refusal.Closed) (cond l (Err refusal.Short) (Ok (session_of s))))) refused done ≡ made t c l
    unfolding weighted.taking
    by_tests false c l = refl
    by_tests true true l = refl
    by_tests true false true = refl
    by_tests true false false = refl

    taken : weighted.taking (weighted.admits s room) refused done ≡ taking s room refused (done (session_of s))
    unfolding weighted.admits taking
    taken = by_tests (weighted_session.is_state s) (closed s) (ltb room 140) ∙ ap (λ (t : Bool). made t (closed s) (ltb room 140)) (state_same s all)

  outcome_same : outcome_of (session_of s).own s (due (session_of s).settings s) ≡ outcome_in s
  unfolding session_of session_with outcome_in due_in
  outcome_same = ap (λ (a : Act). outcome_of (word s own_at) s a) (stored_due s all)

  words_same : applied s (due (session_of s).settings s) ≡ applied s (due_in s)
  unfolding session_of session_with due_in
  words_same = ap (λ (a : Act). applied s a) (stored_due s all)

  after_same : (o : Outcome) (out : List ℕ) → weighted.bytes_after (session_of s) s o out ≡ bytes_after s o out
  unfolding weighted.bytes_after session_of session_with bytes_after session_number
  after_same outcome.Idle out = refl
  after_same (outcome.Sent m) out = ap (λ (set : List ℕ). at_front (encode m (version s) (word s own_at) (session_number s) set) out) (stored_commit s all)
  after_same outcome.MovedOut out = refl
  after_same outcome.InForce out = refl

  bytes_same : (out : List ℕ) → weighted.bytes_after (session_of s) s (outcome_of (session_of s).own s (due (session_of s).settings s)) out ≡ bytes_after s (outcome_in s) out
  bytes_same out = ap (λ (o : Outcome). weighted.bytes_after (session_of s) s o out) outcome_same ∙ after_same (outcome_in s) out

  pub turn_outcome_same : (room : ℕ) → weighted.turn_outcome s room ≡ turn_outcome s room
  unfolding weighted.turn_outcome turn_outcome
  turn_outcome_same room = taken Err _ room ∙ ap (λ (o : Outcome). taking s room Err (Ok o)) outcome_same

  pub turn_words_same : (room : ℕ) → weighted.turn_words s room ≡ turn_words s room
  unfolding weighted.turn_words turn_words
  turn_words_same room = taken (λ k. s) _ room ∙ ap (taking s room (λ k. s)) words_same

  pub turn_bytes_same : (out : List ℕ) → weighted.turn_bytes s out ≡ turn_bytes s out
  unfolding weighted.turn_bytes turn_bytes
  turn_bytes_same out = taken (λ k. out) _ (length out) ∙ ap (taking s (length out) (λ k. out)) (bytes_same out)
