-- The cases of the code.
use Rattle.std.specs.Prelude.{ℕ, Bool, true, false, ◌||◌, List, ◌≡◌, refl, length, Option, Some, None, Result, Ok, Err}
use Rattle.std.proofs.Common.{ne_eqb}
use Rattle.records.specs.Records.{closed, version, send_held, echo_held, ready_held, est_held, aux_held, finish_held}
use Rattle.records.specs.Writing.{with_send, with_echo, with_ready, with_est, with_aux, with_one_first, with_finish, with_commit, with_decision}
use Rattle.commits.specs.Commits.{commit_held}
use Rattle.session.specs.laws.Cases.{size_wrong}
use Rattle.votes.specs.Votes.{one_alone}
use Rattle.votes.specs.Finishing.{finish_decides}
use Rattle.settings.specs.declared.Settings.{Settings}
use Rattle.session.specs.Session.{settings_of, stored}
use Rattle.session.specs.declared.Session.{Session}
use Rattle.wire.specs.Bytes.{value_at}
use Rattle.wire.specs.Reading.{read_message}
use Rattle.wire.specs.declared.Message.{Message}
use Rattle.wire.specs.declared.Message.TheVariants.{Send, Echo, Ready, Est, Aux, Commit, Finish}
use Rattle.delivery.specs.Delivery.{place_held, judged, verdict, first_noted, finish_settled, recorded}
use Rattle.delivery.specs.laws.Stored.{verdict_for, verdict_stored}
use Rattle.settings.specs.declared.refusal.Refusal.{Refusal}
use Rattle.settings.specs.declared.refusal.Refusal.TheVariants as refusal

module _ (s : List ℕ) (p : ℕ) (m : Message) (c : Bool) where
  pub place_send : (i v : ℕ) → m ≡ Send i v → c ≡ send_held s i → c ≡ place_held s p m
  unfolding place_held
  place_send i v e f = rw e f

  pub place_echo : (i v : ℕ) → m ≡ Echo i v → c ≡ echo_held s i p → c ≡ place_held s p m
  unfolding place_held
  place_echo i v e f = rw e f

  pub place_ready : (i v : ℕ) → m ≡ Ready i v → c ≡ ready_held s i p → c ≡ place_held s p m
  unfolding place_held
  place_ready i v e f = rw e f

  pub place_est : (i r b : ℕ) → m ≡ Est i r b → c ≡ est_held s i r b p → c ≡ place_held s p m
  unfolding place_held
  place_est i r b e f = rw e f

  pub place_aux : (i r b : ℕ) → m ≡ Aux i r b → c ≡ (aux_held s i r 0 p || aux_held s i r 1 p) → c ≡ place_held s p m
  unfolding place_held
  place_aux i r b e f = rw e f

  pub place_commit : (k : ℕ) → m ≡ Commit k → c ≡ commit_held s p → c ≡ place_held s p m
  unfolding place_held
  place_commit k e f = rw e f

  pub place_finish : (i b : ℕ) → m ≡ Finish i b → c ≡ (finish_held s i 0 p || finish_held s i 1 p) → c ≡ place_held s p m
  unfolding place_held
  place_finish i b e f = rw e f

pub ruleset place_cases = (place_send, place_echo, place_ready, place_est, place_aux, place_commit, place_finish)

module _ (x : Session) (s : List ℕ) (link : ℕ) (b : List ℕ) (c : Bool) (ec : c ≡ closed s) where
  pub in_closed : c ≡ true → Err refusal.Closed ≡ verdict_for (Some x) s link b
  unfolding verdict_for
  in_closed t = rw (← ec, t)

  module _ (tc : c ≡ false) (w : ℕ) (ew : w ≡ version s) (y : Result Message Refusal) (ey : y ≡ read_message w x.settings.n x.number link b) where
    pub in_refused : (k : Refusal) → y ≡ Err k → Err k ≡ verdict_for (Some x) s link b
    unfolding verdict_for judged
    in_refused k t = rw (← ec, tc, ← ew, ← ey, t)

    pub in_held : (m : Message) (h : Bool) → y ≡ Ok m → h ≡ place_held s link m → h ≡ true → Err refusal.Held ≡ verdict_for (Some x) s link b
    unfolding verdict_for judged
    in_held m h t eh th = rw (← ec, tc, ← ew, ← ey, t, ← eh, th)

    pub in_accepted : (m : Message) (h : Bool) → y ≡ Ok m → h ≡ place_held s link m → h ≡ false → Ok m ≡ verdict_for (Some x) s link b
    unfolding verdict_for judged
    in_accepted m h t eh th = rw (← ec, tc, ← ew, ← ey, t, ← eh, th)

pub no_state : (s : List ℕ) (link : ℕ) (b : List ℕ) (y : Option Session) → y ≡ stored s → y ≡ None → Err refusal.NoState ≡ verdict s link b
unfolding verdict_for
no_state s link b y e t = rw (verdict_stored s link b, ← e, t)

pub a_state : (s : List ℕ) (link : ℕ) (b : List ℕ) (y : Option Session) (x : Session) (v : Result Message Refusal) → y ≡ stored s → y ≡ Some x → v ≡ verdict_for (Some x) s link b → v ≡ verdict s link b
a_state s link b y x v e t f = rw (verdict_stored s link b, ← e, t) f

pub no_size : (s : List ℕ) (link : ℕ) (b : List ℕ) → (length s ≡ 2048 → ⊥) → Err refusal.NoState ≡ verdict s link b
no_size s link b h = no_state s link b None (size_wrong s h) refl

pub ruleset verdict_cases = (in_closed, in_refused, in_held, in_accepted, no_size, no_state, a_state)

-- the decision of FINISHes
module _ (g : Settings) (s s1 t : List ℕ) (p i b : ℕ) (e : s1 ≡ with_finish s i b p) (d : Bool) (f : d ≡ finish_decides g s1 i b) where
  pub finish_decided : d ≡ true → t ≡ with_decision s1 i b → t ≡ finish_settled g (with_finish s i b p) i b
  unfolding finish_settled
  finish_decided h q = rw (← e, ← f, h) q

  pub finish_open : d ≡ false → s1 ≡ finish_settled g (with_finish s i b p) i b
  unfolding finish_settled
  finish_open h = rw (← e, ← f, h)

pub ruleset settle_cases = (finish_decided, finish_open)

pub finish_here : (s t : List ℕ) (p i b : ℕ) (g : Settings) → g ≡ settings_of s → t ≡ finish_settled g (with_finish s i b p) i b → t ≡ finish_settled (settings_of s) (with_finish s i b p) i b
finish_here s t p i b g e q = rw (← e) q

-- the value accepted first
module _ (g : Settings) (s s1 t : List ℕ) (p i r : ℕ) (e : s1 ≡ with_est s i r 1 p) (d : Bool) (f : d ≡ one_alone g s1 i r) where
  pub one_noted : d ≡ true → t ≡ with_one_first s1 i r → t ≡ first_noted g (with_est s i r 1 p) i r 1
  unfolding first_noted
  one_noted h q = rw (← e, ← f, h) q

  pub one_passed : d ≡ false → s1 ≡ first_noted g (with_est s i r 1 p) i r 1
  unfolding first_noted
  one_passed h = rw (← e, ← f, h)

pub ruleset one_cases = (one_noted, one_passed)

module _ (s t : List ℕ) (p i r b : ℕ) where
  pub est_one : (g : Settings) → b ≡ 1 → g ≡ settings_of s → t ≡ first_noted g (with_est s i r 1 p) i r 1 → t ≡ first_noted (settings_of s) (with_est s i r b p) i r b
  est_one g z e q = rw (← e, z) q

  pub est_other : (b ≡ 1 → ⊥) → t ≡ with_est s i r b p → t ≡ first_noted (settings_of s) (with_est s i r b p) i r b
  unfolding first_noted
  est_other z q = rw (ne_eqb b 1 z) q

pub ruleset est_cases = (est_one, est_other)

module _ (s t v : List ℕ) (p : ℕ) (m : Message) where
  pub record_send : (i x : ℕ) → m ≡ Send i x → t ≡ with_send s i x → t ≡ recorded s p m v
  unfolding recorded
  record_send i x e f = rw e f

  pub record_echo : (i x : ℕ) → m ≡ Echo i x → t ≡ with_echo s i p x → t ≡ recorded s p m v
  unfolding recorded
  record_echo i x e f = rw e f

  pub record_ready : (i x : ℕ) → m ≡ Ready i x → t ≡ with_ready s i p x → t ≡ recorded s p m v
  unfolding recorded
  record_ready i x e f = rw e f

  pub record_est : (i r b : ℕ) → m ≡ Est i r b → t ≡ first_noted (settings_of s) (with_est s i r b p) i r b → t ≡ recorded s p m v
  unfolding recorded
  record_est i r b e f = rw e f

  pub record_aux : (i r b : ℕ) → m ≡ Aux i r b → t ≡ with_aux s i r b p → t ≡ recorded s p m v
  unfolding recorded
  record_aux i r b e f = rw e f

  pub record_commit : (k : ℕ) → m ≡ Commit k → t ≡ with_commit s p (value_at v) k → t ≡ recorded s p m v
  unfolding recorded
  record_commit k e f = rw e f

  pub record_finish : (i b : ℕ) → m ≡ Finish i b → t ≡ finish_settled (settings_of s) (with_finish s i b p) i b → t ≡ recorded s p m v
  unfolding recorded
  record_finish i b e f = rw e f

pub ruleset record_cases = (record_send, record_echo, record_ready, record_est, record_aux, record_commit, record_finish)
