-- The verdict as the code works it out, from what is stored.
use Rattle.std.specs.Prelude.{ℕ, Bool, true, false, not, cond, List, ◌≡◌, refl, Option, Some, None, Result, Err}
use Rattle.settings.specs.declared.refusal.Refusal.TheVariants as refusal
use Rattle.records.specs.Records.{closed, version}
use Rattle.session.specs.Session.{is_state, session_of, stored}
use Rattle.wire.specs.Reading.{read_message}
use Rattle.delivery.specs.Delivery.{judged, verdict}
use Rattle.session.specs.declared.Session.{Session}
use Rattle.wire.specs.declared.Message.{Message}
use Rattle.settings.specs.declared.refusal.Refusal.{Refusal}

unfoldable pub verdict_for : Option Session → List ℕ → ℕ → List ℕ → Result Message Refusal
verdict_for None s link b = Err refusal.NoState
verdict_for (Some x) s link b = cond (closed s) (Err refusal.Closed) (judged s link (read_message (version s) x.settings.n x.number link b))

pub verdict_stored : (s : List ℕ) (link : ℕ) (b : List ℕ) → verdict s link b ≡ verdict_for (stored s) s link b
unfolding verdict verdict_for stored
verdict_stored s link b = go (is_state s)
  where
    open_verdict : Result Message Refusal
    open_verdict = cond (closed s) (Err refusal.Closed) (judged s link (read_message (version s) (session_of s).settings.n (session_of s).number link b))

    go : (t : Bool) → cond (not t) (Err refusal.NoState) open_verdict ≡ verdict_for (cond t (Some (session_of s)) None) s link b
    go true = refl
    go false = refl
