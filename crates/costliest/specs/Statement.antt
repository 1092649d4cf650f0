-- The costliest session, as claims about lists of calls: PROTOCOL, section 14.
use Rattle.std.specs.Prelude.{ℕ, ◌+◌, ◌*◌, ◌≤◌, true, cond, List, [], ◌∷◌, ◌++◌, ◌≡◌, length, Some, Result, Ok, Err}
use Rattle.settings.specs.Versions.{FIRST_VERSION, finishing}
use Rattle.settings.specs.declared.refusal.Refusal.{Refusal}
use Rattle.turn.specs.Turn.{sent_length}
use Rattle.turn.specs.declared.Outcome.{Outcome}
use Rattle.turn.specs.declared.Outcome.TheVariants.{Idle, Sent, MovedOut, InForce}
use Rattle.journal.specs.Journal.{turned_outcome}
use Rattle.calls.specs.Machine.{Call, opening, delivery, turn, report, restore, recording, traced}
use Rattle.calls.specs.Engine.{engine}
use Rattle.calls.specs.Given.{opening_of}
use Rattle.turn_bound.specs.TurnBound.{Terms, terms_by, Begun, session_at}
use Rattle.costliest.specs.Calls.{Calls, opens, costliest_calls}

-- the opening and the calls after it
unfoldable pub whole_session : ℕ → Calls
whole_session n = costliest_calls n ++ (opening 1 (opening_of (opens n)) ∷ [])

-- the opening is accepted, and of the calls after it exactly k are turns that act
pub record Takes (n k : ℕ) (start : ℕ → List ℕ) : Type 0 where
  pub is_opened_lem : engine.opens (start 1) (opening_of (opens n)) ≡ true
  pub exactly : session_at start (whole_session n) 1 ≡ Some (record { terms = terms_by (opens n); turns = k })

-- for n from 2 to 16 the session takes 99·n+3 turns, whatever its buffer held; that no calls bring more is the bound on turns, `TurnCount`
unfoldable pub Costliest : Type 0
Costliest = (n : ℕ) → 2 ≤ n → n ≤ 16 → (start : ℕ → List ℕ) → length (start 1) ≡ 2048 → Takes n (99 * n + 3) start

-- for n = 1 it takes 5
unfoldable pub FiveTurns : Type 0
FiveTurns = (start : ℕ → List ℕ) → length (start 1) ≡ 2048 → Takes 1 5 start

-- and there no calls bring more: after every list of calls, further openings, restores and recordings among them, at most 5 turns count where
-- the last accepted opening or restore is of version 1 and has n = 1 and the weight 1, its coins printed or boxed
unfoldable pub AtMostFive : Type 0
AtMostFive =
    (start : ℕ → List ℕ) (cs : Calls) (q : ℕ) (x : Begun) → session_at start cs q ≡ Some x → x.terms.version ≡ FIRST_VERSION → x.terms.settings.n ≡ 1 → x.terms.settings.weights ≡ 1 →
    x.turns ≤ 5

-- a turn whose outcome is sent (PROTOCOL 8.9)
abbrev pub sent_one : Result Outcome Refusal → ℕ
sent_one (Err k) = 0
sent_one (Ok Idle) = 0
sent_one (Ok (Sent m)) = 1
sent_one (Ok MovedOut) = 0
sent_one (Ok InForce) = 0

-- what f makes of the turns since the last accepted opening or restore, summed up: k before a call on the words w
abbrev pub sent_after : (Result Outcome Refusal → ℕ) → Call engine → List ℕ → ℕ → ℕ
sent_after f (opening p o) w k = cond (engine.opens w o) 0 k
sent_after f (delivery p m b) w k = k
sent_after f (turn p l) w k = f (turned_outcome w (length l.message) l.line) + k
sent_after f (report p r) w k = k
sent_after f (restore p v r) w k = cond (engine.restores v r) 0 k
sent_after f (recording p b) w k = k

-- .. at q after a list of calls
unfoldable pub sent_at : (Result Outcome Refusal → ℕ) → (ℕ → List ℕ) → Calls → ℕ → ℕ
sent_at f start cs q = traced engine start (sent_after f) 0 cs q

-- the most FINISHes of a session: one for each vote, in version 2
unfoldable pub most_finishes : Terms → ℕ
most_finishes k = cond (finishing k.version) k.settings.n 0

-- messages, and bytes, in a session of n; FINISHes come to n more, of 20 bytes
pub record Sends (k : Terms) (start : ℕ → List ℕ) (cs : Calls) (q : ℕ) : Type 0 where
  pub messages : sent_at sent_one start cs q ≤ 98 * k.settings.n + 2 + most_finishes k
  pub bytes : sent_at sent_length start cs q ≤ 1968 * k.settings.n + 32 + 20 * most_finishes k

-- no calls make a concentrator send more
unfoldable pub AtMostSent : Type 0
AtMostSent = (start : ℕ → List ℕ) (cs : Calls) (q : ℕ) (x : Begun) → session_at start cs q ≡ Some x → Sends x.terms start cs q
