-- Whether a turn is taken, as the code works it out from what is stored.
use Rattle.std.specs.Prelude.{ℕ, ◌≤◌, Bool, true, false, not, cond, List, ◌≡◌, refl, ltb, Option, Some, None, Result, Ok, Err}
use Rattle.std.proofs.Common.{le-ltb}
use Rattle.settings.specs.declared.refusal.Refusal.TheVariants as refusal
use Rattle.records.specs.Records.{closed}
use Rattle.session.specs.Session.{is_state, session_of, stored}
use Rattle.turn.specs.Turn.{admits}
use Rattle.session.specs.declared.Session.{Session}
use Rattle.settings.specs.declared.refusal.Refusal.{Refusal}

unfoldable pub admitted_for : Option Session → List ℕ → ℕ → Result Session Refusal
admitted_for None s room = Err refusal.NoState
admitted_for (Some x) s room = cond (closed s) (Err refusal.Closed) (cond (ltb room 140) (Err refusal.Short) (Ok x))

pub admits_stored : (s : List ℕ) (room : ℕ) → admits s room ≡ admitted_for (stored s) s room
unfolding admits admitted_for stored
admits_stored s room = go (is_state s)
  where
    go : (t : Bool) → cond (not t) (Err refusal.NoState) (cond (closed s) (Err refusal.Closed) (cond (ltb room 140) (Err refusal.Short) (Ok (session_of s)))) ≡ admitted_for (cond t (Some (session_of s)) None) s room
    go true = refl
    go false = refl

-- a turn lent enough for a message is admitted as with 140 bytes
pub room_enough : (s : List ℕ) (room : ℕ) → 140 ≤ room → admits s room ≡ admits s 140
unfolding admits
room_enough s room l = rw (le-ltb room 140 l)
