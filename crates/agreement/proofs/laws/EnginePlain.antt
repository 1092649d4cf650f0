-- In a session with printed coins, conditions that ask nothing of recordings, and in lists without restores nothing of journals, give those of
-- specs/DemandThree.antt.
use Rattle.std.specs.Prelude.{ℕ, true, List, ◌≡◌}
use Rattle.std.proofs.Common.{ap}
use Rattle.journal.specs.Journal.{acts}
use Rattle.calls.specs.Engine.{engine, Bytes, TurnLent, SendsBytes}
use Rattle.agreement.proofs.laws.Plain.{printed_conditions, plain_conditions}
use Rattle.agreement.specs.Plain.{PrintedMeets, PlainMeets}

pub printed_meets : PrintedMeets
unfolding PrintedMeets
printed_meets start S H cs = printed_conditions engine start S H cs

-- a turn that sends acts
sends_act : (w : List ℕ) (l : TurnLent) (b : Bytes) → SendsBytes w l b → engine.acts w l ≡ true
sends_act w l b x = ap acts x.outcome

pub plain_meets : PlainMeets
unfolding PlainMeets
plain_meets start S H cs = plain_conditions engine start sends_act S H cs
