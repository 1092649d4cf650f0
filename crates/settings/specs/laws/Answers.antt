-- What an answer tells of a call: that it is taken, or why it is refused.
use Rattle.std.specs.Prelude.{ℕ, Bool, true, false, cond, ◌≡◌, refl, Result, Ok, Err}
use Rattle.std.specs.Result.{is_ok, IsErrAnd}
use Rattle.std.proofs.Common.{true≢false, sym, ap, arith}
use Rattle.settings.specs.declared.refusal.Refusal.{Refusal}

-- a chain of refusals gives something only where each test is false
pub err_passed : {T : Type 0} (b : Bool) (k : Refusal) (x : Result T Refusal) (y : T) → cond b (Err k) x ≡ Ok y → (b ≡ false) × (x ≡ Ok y)
err_passed true k x y e = absurd (let z : ◌≡◌ {A = ℕ} 0 1 = cc in omega arith)
err_passed false k x y e = (refl, e)

-- a call that gives nothing else is taken, or is refused
pub taken_true : (x : Result (Unit {0}) Refusal) → x ≡ Ok tt → is_ok x ≡ true
taken_true x e = ap is_ok e

pub true_taken : (x : Result (Unit {0}) Refusal) → is_ok x ≡ true → x ≡ Ok tt
true_taken (Ok tt) e = refl
true_taken (Err k) e = absurd (true≢false (sym e))

pub refused_false : (x : Result (Unit {0}) Refusal) (k : Refusal) → x ≡ Err k → is_ok x ≡ false
refused_false x k e = ap is_ok e

pub not_taken : (x : Result (Unit {0}) Refusal) → (x ≡ Ok tt → ⊥) → is_ok x ≡ false
not_taken (Ok tt) h = absurd (h refl)
not_taken (Err k) h = refl

-- what `?` hands on is the error that it found
pub handed_on : {T E : Type 0} (r : Result T E) (k : E) → IsErrAnd r (λ e. e ≡ k) → r ≡ Err k
handed_on (Err e) k h = ap Err h
handed_on (Ok x) k h = absurd h
