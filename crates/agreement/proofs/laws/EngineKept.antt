-- The words after a turn belong to the session that they belonged to, and show no new coin.
use Rattle.std.specs.Prelude.{ℕ, ◌+◌, ◌≤◌, Bool, true, false, cond, List, eqb, ltb}
use Rattle.std.proofs.Common.{◌∙◌, arith}
use Rattle.settings.specs.Settings.{round_limit}
use Rattle.settings.specs.Rules.{Ruled}
use Rattle.settings.specs.declared.Settings.{Settings}
use Rattle.records.specs.Layout.{turns_at, round_at, est_sent_at, est_sent_mark, decided_zero_at, decided_one_at}
use Rattle.records.specs.Words.{word, put, set_mark}
use Rattle.records.specs.Records.{coin}
use Rattle.records.specs.laws.Bounds.{Fit, fit_put, fit_set_mark}
use Rattle.acts.specs.Acts.{is_due}
use Rattle.acts.specs.declared.Act as acts
use Rattle.acts.specs.declared.Act.TheVariants.{Idle, InForce, Commit, Send, Echo, Ready, Start, Relay, Aux, Move, Finish}
use Rattle.acts.specs.declared.View.{View}
use Rattle.votes.specs.Votes.{estimate}
use Rattle.turn.specs.Turn.{with_turn_counted, entered, new_decision, move_decided, moved, applied}
use Rattle.turn.specs.Turn as turn
use Rattle.turn.specs.laws.Told.{ActTold}
use Rattle.turn.proofs.laws.Frame.{Placed, told_placed, setting, coins, between, length_applied, applied_kept}
use Rattle.calls.specs.Engine.{OpeningGiven}
use Rattle.agreement.proofs.laws.Runs.{CoinsStay}
use Rattle.agreement.proofs.laws.EngineSeen.{engine_seen, coins_stay}
use Rattle.agreement.proofs.laws.EngineReading.{Belongs}

fit_entered : (s : List ℕ) (i r b : ℕ) → Fit s → r ≤ 33 → Fit (entered s i r b)
unfolding entered
fit_entered s i r b f h = go (ltb round_limit r)
  where
    at_round : Fit (put s (round_at i) r)
    at_round = fit_put s (round_at i) r f (omega arith)

    go : (t : Bool) → Fit (cond t (put s (round_at i) r) (set_mark (put s (round_at i) r) (est_sent_at i) (est_sent_mark r b)))
    go true = at_round
    go false = fit_set_mark (put s (round_at i) r) (est_sent_at i) (est_sent_mark r b) at_round

fit_decided : (s : List ℕ) (i r : ℕ) (v : View) → Fit s → Fit (move_decided s i r v)
unfolding move_decided
fit_decided s i r v f = go (new_decision s i r v)
  where
    go : (t : Bool) → Fit (cond t (set_mark s (cond (eqb (estimate (coin s i r) v) 0) decided_zero_at decided_one_at) i) s)
    go true = fit_set_mark s (cond (eqb (estimate (coin s i r) v) 0) decided_zero_at decided_one_at) i f
    go false = f

-- rounds end at 33
abbrev Ended : acts.Act → Type 0
Ended Idle = Unit {0}
Ended InForce = Unit {0}
Ended (Commit k) = Unit {0}
Ended (Send v) = Unit {0}
Ended (Echo i v) = Unit {0}
Ended (Ready i v) = Unit {0}
Ended (Start i b) = Unit {0}
Ended (Relay i r b) = Unit {0}
Ended (Aux i r b) = Unit {0}
Ended (Move i r v) = r ≤ 32
Ended (Finish i b) = Unit {0}

told_ended : (g : Settings) (s : List ℕ) (a : acts.Act) → ActTold g s a → Ended a
told_ended g s Idle x = tt
told_ended g s InForce x = tt
told_ended g s (Commit k) x = tt
told_ended g s (Send v) x = tt
told_ended g s (Echo i v) x = tt
told_ended g s (Ready i v) x = tt
told_ended g s (Start i b) x = tt
told_ended g s (Relay i r b) x = tt
told_ended g s (Aux i r b) x = tt
told_ended g s (Move i r v) x = x.1.high
told_ended g s (Finish i b) x = tt

fit_done : (s : List ℕ) (a : acts.Act) → Ended a → Fit s → Fit (turn.done s a)
unfolding turn.done moved
fit_done s Idle e f = f
fit_done s InForce e f = fit_set_mark s _ _ f
fit_done s (Commit k) e f = fit_set_mark s _ _ f
fit_done s (Send v) e f = fit_set_mark s _ _ f
fit_done s (Echo i v) e f = fit_set_mark s _ _ f
fit_done s (Ready i v) e f = fit_set_mark s _ _ f
fit_done s (Start i b) e f = fit_entered s i 1 b f (omega arith)
fit_done s (Relay i r b) e f = fit_set_mark s _ _ f
fit_done s (Aux i r b) e f = fit_set_mark s _ _ f
fit_done s (Move i r v) e f = fit_entered (move_decided s i r v) i (r + 1) (estimate (coin s i r) v) (fit_decided s i r v f) (omega arith)
fit_done s (Finish i b) e f = fit_set_mark s _ _ f

fit_applied : (s : List ℕ) (a : acts.Act) → Ended a → word s turns_at ≤ 65535 → Fit s → Fit (applied s a)
unfolding applied with_turn_counted
fit_applied s a e few f = go (is_due a)
  where
    go : (b : Bool) → Fit (cond b (turn.done (put s turns_at (word s turns_at + 1)) a) s)
    go true = fit_done (put s turns_at (word s turns_at + 1)) a e (fit_put s turns_at (word s turns_at + 1) f (omega arith))
    go false = f

pub belongs_applied : (o : OpeningGiven) (g : Settings) (w : List ℕ) → Belongs o w → Ruled g → (a : acts.Act) → ActTold g w a → word w turns_at ≤ 65535 → Belongs o (applied w a)
belongs_applied o g w x ruled a told few = of (told_placed g w ruled a told)
  where
    of : Placed a → Belongs o (applied w a)
    of p =
        record {
          known = x.known;
          ruled = x.ruled;
          own_low = x.own_low;
          own_high = x.own_high;
          kind = x.kind;
          size = length_applied w a ∙ x.size;
          is_n = applied_kept w a p 0 (setting (omega arith)) ∙ x.is_n;
          is_ta = applied_kept w a p 1 (setting (omega arith)) ∙ x.is_ta;
          is_ts = applied_kept w a p 2 (setting (omega arith)) ∙ x.is_ts;
          is_weights = applied_kept w a p 141 (between (omega arith) (omega arith)) ∙ x.is_weights;
          is_boxed = applied_kept w a p 142 (between (omega arith) (omega arith)) ∙ x.is_boxed;
          is_version = applied_kept w a p 143 (between (omega arith) (omega arith)) ∙ x.is_version;
          is_own = applied_kept w a p 3 (setting (omega arith)) ∙ x.is_own;
          is_session = applied_kept w a p 4 (setting (omega arith)) ∙ x.is_session;
          is_input = applied_kept w a p 5 (setting (omega arith)) ∙ x.is_input;
          fits = fit_applied w a (told_ended g w a told) few x.fits;
        }

pub coins_applied : (o : OpeningGiven) (w : List ℕ) → Belongs o w → (a : acts.Act) → Placed a → CoinsStay engine_seen w (applied w a)
coins_applied o w x a p =
    coins_stay w (applied w a) (omega (arith, x.is_n, x.ruled.few)) (applied_kept w a p 0 (setting (omega arith))) (applied_kept w a p 142 (between (omega arith) (omega arith)))
    (λ i low high. applied_kept w a p (7 + i) (coins (omega arith) (omega arith)))
