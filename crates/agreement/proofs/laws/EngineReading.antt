-- The engine's words as a state of its session, the act of a turn, and what the bytes of a message say.
use Rattle.std.specs.Prelude.{ℕ, ◌≤◌, ◌<◌, ◌^◌, true, List, ◌≡◌, length, drop, Result, Ok, Err, Option, Some, None}
use Rattle.settings.specs.Rules.{Ruled}
use Rattle.settings.specs.laws.Versions.{Known}
use Rattle.settings.specs.declared.Settings.{Settings}
use Rattle.records.specs.Layout.{n_at, ta_at, ts_at, own_at, session_at, input_at, weights_at, boxed_at, version_at}
use Rattle.records.specs.Words.{word}
use Rattle.records.specs.Records.{commit_count, commit_set}
use Rattle.acts.specs.declared.Act as acts
use Rattle.acts.specs.declared.Act.TheVariants as act
use Rattle.session.specs.Session.{settings_of}
use Rattle.wire.specs.Bytes.{values, rises}
use Rattle.wire.specs.Message.{count_of}
use Rattle.wire.specs.Reading.{read_message}
use Rattle.wire.specs.declared.Message as wire
use Rattle.opening.specs.Arguments.{weights_by, ta_by, settings_by}
use Rattle.turn.specs.Due.{due, commit_due}
use Rattle.turn.specs.Turn.{admits}
use Rattle.held.specs.laws.Held.{Message, meaning}
use Rattle.agreement.specs.History.{Act, send, echo, ready, start, relay, aux, move, commit, finish}
use Rattle.calls.specs.Engine.{OpeningGiven, Agreed, Bytes, TurnLent, engine}
use Rattle.agreement.proofs.laws.Machine.{Reading}
use Rattle.agreement.proofs.laws.EngineSeen.{engine_seen}
use Rattle.agreement.proofs.laws.EngineLent.{for_message}
use Rattle.session.specs.declared.Session.{Session}
use Rattle.settings.specs.declared.refusal.Refusal.{Refusal}

-- the words hold the session of an accepted opening
pub record Belongs (o : OpeningGiven) (w : List ℕ) : Type 0 where
  pub known : Known o.given.version
  pub ruled : Ruled (settings_by o.given)
  pub own_low : 1 ≤ o.given.own
  pub own_high : o.given.own ≤ o.given.n
  pub kind : o.given.boxed ≤ 1
  pub size : length w ≡ 2048
  pub is_n : word w n_at ≡ o.given.n
  pub is_ta : word w ta_at ≡ ta_by o.given
  pub is_ts : word w ts_at ≡ o.given.ts
  pub is_weights : word w weights_at ≡ weights_by o.given
  pub is_boxed : word w boxed_at ≡ o.given.boxed
  pub is_version : word w version_at ≡ o.given.version
  pub is_own : word w own_at ≡ o.given.own
  pub is_session : word w session_at ≡ o.given.session
  pub is_input : word w input_at ≡ o.given.input
  pub fits : (j : ℕ) → word w j < 2 ^ 64

pub settings_same : (o : OpeningGiven) (w : List ℕ) → Belongs o w → settings_of w ≡ settings_by o.given
unfolding settings_of
settings_same o w x = rw (x.is_n, x.is_ta, x.is_ts, x.is_weights)

-- the COMMITs that are held are as messages have them
pub record Sets (o : OpeningGiven) (w : List ℕ) : Type 0 where
  pub rising : (p : ℕ) → 1 ≤ p → p ≤ o.given.n → rises (commit_set w p) ≡ true
  pub few : (p : ℕ) → 1 ≤ p → p ≤ o.given.n → commit_count w p ≤ o.given.n

pub record Belonging (o : OpeningGiven) (w : List ℕ) : Type 0 where
  pub words : Belongs o w
  pub sets : Sets o w

-- the act that is due, and none where nothing shows
abbrev pub shown_act : Settings → List ℕ → acts.Act → Option Act
shown_act g s act.Idle = None
shown_act g s act.InForce = None
shown_act g s (act.Commit k) = Some (commit (commit_due g s))
shown_act g s (act.Send v) = Some (send v)
shown_act g s (act.Echo i v) = Some (echo i v)
shown_act g s (act.Ready i v) = Some (ready i v)
shown_act g s (act.Start i b) = Some (start i b)
shown_act g s (act.Relay i r b) = Some (relay i r b)
shown_act g s (act.Aux i r b) = Some (aux i r b)
shown_act g s (act.Move i r v) = Some (move i r v)
shown_act g s (act.Finish i b) = Some (finish i b)

unfoldable pub admitted_act : Result Session Refusal → List ℕ → Option Act
admitted_act (Err k) s = None
admitted_act (Ok x) s = shown_act x.settings s (due x.settings s)

unfoldable pub act_of : List ℕ → TurnLent → Option Act
act_of w l = admitted_act (admits w (length (for_message l))) w

-- the bytes b from the link of concentrator m say x
pub record Says (S : Agreed) (m : ℕ) (b : Bytes) (x : Message) : Type 0 where
  pub message : wire.Message
  pub taken : read_message S.version S.settings.n S.number m b.list ≡ Ok message
  pub means : x ≡ meaning message (values (count_of message) (drop 12 b.list))

abbrev pub engine_reading : Reading engine
engine_reading = record { seen = engine_seen; act = act_of; Belongs = Belonging; Says = Says }
