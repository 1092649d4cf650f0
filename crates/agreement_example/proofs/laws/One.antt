-- The list of specs/One.antt passes the test; its refusals, and one more, are computed.
use Rattle.std.specs.Prelude.{ℕ, Bool, true, false, cond, not, List, [], ◌∷◌, ◌≡◌, refl, Result, Err}
use Rattle.settings.specs.declared.refusal.Refusal.TheVariants as refusal
use Rattle.records.specs.Records.{closed, version}
use Rattle.session.specs.Session.{is_state, session_of}
use Rattle.wire.specs.Reading.{length_right, read_message}
use Rattle.delivery.specs.Delivery.{judged, verdict, answer_of, deliver_answer}
use Rattle.agreement_check.proofs.laws.Example.{passes, passes_example}
use Rattle.agreement_check.proofs.laws.Refusals.{refusals}
use Rattle.agreement_check.proofs.laws.Tracking.{AllSized}
use Rattle.agreement_example.specs.Messages.{input_five}
use Rattle.turn_bound.proofs.laws.Computing.{calls}
use Rattle.agreement_example.proofs.laws.Computing.{checks}
use Rattle.agreement_example.specs.One.{session, everyone, one_calls, OneMeets}
use Rattle.wire.specs.declared.Message.{Message}
use Rattle.settings.specs.declared.refusal.Refusal.{Refusal}
use Rattle.std.specs.Result.{is_ok}

one_passes : passes session everyone input_five 1 (5 ∷ []) one_calls ≡ true
unfolding calls checks one_calls
one_passes = refl

one_sized : AllSized one_calls
unfolding checks one_calls
one_sized = tt

pub one_meets : OneMeets
one_meets start room = passes_example start session everyone input_five one_calls room one_sized 1 (5 ∷ []) one_passes

-- the refusals from the opening on, the last first
pub one_refusals : (refusals session everyone input_five one_calls).list ≡ refusal.Settings ∷ refusal.Held ∷ []
unfolding calls checks one_calls
one_refusals = refl

-- the delivery before the opening is refused whatever the buffer holds: by 9, 10 or 2
pub short_refused : (s : List ℕ) → is_ok (deliver_answer s 1 (1 ∷ 1 ∷ 1 ∷ [])) ≡ false
unfolding deliver_answer verdict judged answer_of read_message length_right
short_refused s = go (is_state s) (closed s)
  where
    parsed : Result Message Refusal
    parsed = read_message (version s) (session_of s).settings.n (session_of s).number 1 (1 ∷ 1 ∷ 1 ∷ [])

    go : (t c : Bool) → is_ok (answer_of (cond (not t) (Err refusal.NoState) (cond c (Err refusal.Closed) (judged s 1 parsed)))) ≡ false
    go false c = refl
    go true true = refl
    go true false = refl
