-- What an admitted turn tells.
use Rattle.std.specs.Prelude.{ℕ, ◌≤◌, Bool, true, false, cond, List, ◌≡◌, refl, ltb, length, Option, Some, None, Ok, Err}
use Rattle.std.proofs.Math.Path.{ap}
use Rattle.std.proofs.Common.{◌∙◌, sym, arith, ltb-false}
use Rattle.settings.specs.Rules.{Ruled}
use Rattle.settings.specs.laws.Versions.{bound_few}
use Rattle.records.specs.Records.{version}
use Rattle.records.specs.Layout.{turns_at}
use Rattle.records.specs.Words.{word}
use Rattle.records.specs.Records.{closed}
use Rattle.session.specs.Session.{stored, settings_of, session_with, session_of}
use Rattle.session.specs.laws.Session.{State, Read, held_read}
use Rattle.session.specs.declared.Session.{Session}
use Rattle.turn.specs.Turn.{admits}
use Rattle.turn.specs.laws.Choosing.{Readable}
use Rattle.turn.specs.laws.Stored.{admitted_for, admits_stored}
use Rattle.settings.specs.declared.refusal.Refusal.TheVariants as refusal

-- a turn of session x is taken, with room bytes lent
pub record Admitting (s : List ℕ) (room : ℕ) (x : Session) : Type 0 where
  pub state : State s
  pub same : x ≡ session_of s
  pub unclosed : closed s ≡ false
  pub long : 140 ≤ room

pub admitting : (s : List ℕ) (room : ℕ) (x : Session) → admits s room ≡ Ok x → Admitting s room x
unfolding admitted_for
admitting s room x e = of (stored s) refl (sym (admits_stored s room) ∙ e)
  where
    in_room : (y : Session) → Read s y → closed s ≡ false → (b : Bool) → ltb room 140 ≡ b → cond b (Err refusal.Short) (Ok y) ≡ Ok x → Admitting s room x
    in_room y r c true l f = absurd (let z : ◌≡◌ {A = ℕ} 0 1 = cc in omega arith)
    in_room y r c false l f =
        let q : x ≡ y = cc in
        record { state = r.state; same = q ∙ r.same; unclosed = c; long = ltb-false room 140 l }

    open_session : (y : Session) → Read s y → (c : Bool) → closed s ≡ c → cond c (Err refusal.Closed) (cond (ltb room 140) (Err refusal.Short) (Ok y)) ≡ Ok x → Admitting s room x
    open_session y r true c f = absurd (let z : ◌≡◌ {A = ℕ} 0 1 = cc in omega arith)
    open_session y r false c f = in_room y r c (ltb room 140) refl f

    of : (y : Option Session) → stored s ≡ y → admitted_for y s room ≡ Ok x → Admitting s room x
    of None t f = absurd (let z : ◌≡◌ {A = ℕ} 0 1 = cc in omega arith)
    of (Some y) t f = open_session y (held_read s y t) (closed s) refl f

module _ (s : List ℕ) (room : ℕ) (x : Session) (h : Admitting s room x) where
  -- its settings are those stored, and within the rules
  pub admitted_settings : x.settings ≡ settings_of s
  unfolding session_of session_with
  admitted_settings = ap (λ (y : Session). y.settings) h.same

  pub admitted_ruled : Ruled x.settings
  admitted_ruled = rw admitted_settings h.state.ruled

  pub admitted_readable : (set : List ℕ) → length set ≡ 16 → Readable x.settings s set
  admitted_readable set l = record { size = h.state.size; ruled = admitted_ruled; room = l }

  -- the stored count has room for one more turn
  pub admitted_turns : word s turns_at ≤ 65535
  admitted_turns = omega (arith, h.state.turns, bound_few (version s) (settings_of s) h.state.ruled)
