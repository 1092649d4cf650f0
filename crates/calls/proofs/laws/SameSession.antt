-- The statement of specs/SameSession.antt.
use Rattle.std.proofs.Common.{ap}
use Rattle.calls.specs.Engine.{Agreed}
use Rattle.calls.specs.SameSession.{SameSession}

pub same_session_lem : SameSession
unfolding SameSession
same_session_lem o p e =
    record {
      version = ap (λ (a : Agreed). a.version) e;
      n = ap (λ (a : Agreed). a.settings.n) e;
      ta = ap (λ (a : Agreed). a.settings.ta) e;
      ts = ap (λ (a : Agreed). a.settings.ts) e;
      weights = ap (λ (a : Agreed). a.settings.weights) e;
      number = ap (λ (a : Agreed). a.number) e;
      coins = ap (λ (a : Agreed). a.coins) e;
      boxed = ap (λ (a : Agreed). a.boxed) e;
    }
