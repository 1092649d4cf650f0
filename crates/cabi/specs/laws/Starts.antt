-- The number of the calendar's answer: its minute has 32 bits.
use Rattle.std.specs.Prelude.{ℕ, ◌*◌, ◌<◌, Bool, true, false, cond, List, ◌≡◌, refl, Result, Ok, Err}
use Rattle.std.proofs.Common.{ap, ◌∙◌, subst, arith, Fits}
use Rattle.std.specs.Int.{w64}
use Rattle.settings.specs.declared.refusal.Refusal.TheVariants as refusal
use Rattle.calendar.specs.Calendar.{taken, start_minute, start_of}
use Rattle.calendar.specs.laws.First.{start_below}
use Rattle.cabi.specs.Starts.{start_number}
use Rattle.settings.specs.declared.refusal.Refusal.{Refusal}

abbrev pub minute_of : Result ℕ Refusal → ℕ
minute_of (Err k) = 0
minute_of (Ok m) = m

-- what the calendar answers
pub minute_small : (ws : List ℕ) (c l : ℕ) (x : Result ℕ Refusal) → x ≡ start_of ws c l → minute_of x < 4294967296
unfolding start_of
minute_small ws c l x e = go (taken ws c l) refl e
  where
    go : (b : Bool) → taken ws c l ≡ b → x ≡ cond (taken ws c l) (Ok (start_minute ws c l)) (Err refusal.Windows) → minute_of x < 4294967296
    go true t h = rw (h, t) (start_below ws c l t)
    go false t h = rw (h, t) (omega arith)

-- the number of a minute
module _ (x : Result ℕ Refusal) (m : ℕ) (e : x ≡ Ok m) (l : minute_of x < 4294967296) where
  pub number_fits : Fits w64 (4294967296 * m)
  number_fits = let k : m < 4294967296 = subst (λ (y : Result ℕ Refusal). minute_of y < 4294967296) e l in omega arith

  pub number_minute : 4294967296 * m ≡ start_number x
  number_minute = rw e

pub ruleset minutes = (number_fits, number_minute)

pub start_number_lem : (ws : List ℕ) (c l : ℕ) (x : Result ℕ Refusal) (r : ℕ) → x ≡ start_of ws c l → r ≡ start_number x → r ≡ start_number (start_of ws c l)
start_number_lem ws c l x r e f = f ∙ ap start_number e
