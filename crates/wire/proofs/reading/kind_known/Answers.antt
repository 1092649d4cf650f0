-- `kind_known` asks what the definition asks: every version has the kinds up to COMMIT.
use Rattle.std.proofs.Common.{ℕ, Bool, true, false, ◌≡◌, refl, ◌≤◌, ◌&&◌, nat_eq, cond, leb, arith}
use borrow.Author.Tests.{le-leb}
use Rattle.settings.specs.Versions.{finishing}
use Rattle.wire.specs.Kinds.{byte_of}
use Rattle.wire.specs.Message.{COMMIT, last_kind}
use Rattle.wire.specs.Reading.{kind_known}
use Rattle.wire.specs.laws.Kinds.{last_low}
use Rattle.wire.specs.declared.kind.Kind.{Kind}
use Rattle.wire.specs.declared.kind.Kind.TheVariants as kind
use Rattle.wire.proofs.reading.kind_known.Goals as goal

bounds : (k : Kind) → (k ≡ kind.Finish → ⊥) → (1 ≤ byte_of k) × (byte_of k ≤ COMMIT)
bounds kind.Send e = (omega arith, omega arith)
bounds kind.Echo e = (omega arith, omega arith)
bounds kind.Ready e = (omega arith, omega arith)
bounds kind.Est e = (omega arith, omega arith)
bounds kind.Aux e = (omega arith, omega arith)
bounds kind.Commit e = (omega arith, omega arith)
bounds kind.Finish e = absurd (e refl)

and_true : (b : Bool) → b ≡ (b && true)
and_true true = refl
and_true false = refl

module _ (own version u : ℕ) (v : u ≡ version) (k : Kind) where
  finish : (f : Bool) → k ≡ kind.Finish → f ≡ finishing own → (nat_eq u own && f) ≡ kind_known own version (byte_of k)
  unfolding last_kind
  finish f e q = rw (e, v, ← q) (by f (nat_eq version own))
    where
      by : (f r : Bool) → (r && f) ≡ (r && leb 7 (cond f 7 6))
      by true r = refl
      by false r = refl

  plain : (k ≡ kind.Finish → ⊥) → nat_eq u own ≡ kind_known own version (byte_of k)
  plain e =
      let z : (leb 1 (byte_of k) && leb (byte_of k) (last_kind own)) ≡ true =
      simp (le-leb 1 (byte_of k) (bounds k e).0, le-leb (byte_of k) (last_kind own) (omega (arith, (bounds k e).1, last_low own))) in
      rw (v, z) (and_true _)

pub returns-in-Finish : goal.returns-in-Finish
returns-in-Finish c = search finish

pub returns-in_default : goal.returns-in_default
returns-in_default c = search plain
