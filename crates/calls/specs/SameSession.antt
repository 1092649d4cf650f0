-- What openings agree in where they are of one session, said field by field.
use Rattle.std.specs.Prelude.{◌≡◌}
use Rattle.opening.specs.Arguments.{Arguments, weights_by, ta_by}
use Rattle.calls.specs.Engine.{agreed}

-- version, n, ta as it is read, ts, weights, session number, coin words and kind of coins (PROTOCOL 1.11)
pub record Alike (o p : Arguments) : Type 0 where
  pub version : o.version ≡ p.version
  pub n : o.n ≡ p.n
  pub ta : ta_by o ≡ ta_by p
  pub ts : o.ts ≡ p.ts
  pub weights : weights_by o ≡ weights_by p
  pub number : o.session ≡ p.session
  pub coins : o.coins ≡ p.coins
  pub boxed : o.boxed ≡ p.boxed

unfoldable pub SameSession : Type 0
SameSession = (o p : Arguments) → agreed o ≡ agreed p → Alike o p
