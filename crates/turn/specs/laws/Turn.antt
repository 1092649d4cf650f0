-- What the layers above use of a turn. The evidence of an act is in Told and DueLaws, what changes in Frame and Marks.
use Rattle.std.specs.Prelude.{ℕ, List, ◌≡◌, refl, length, Result, Ok, Err}
use Rattle.session.specs.declared.Session.{Session}
use Rattle.turn.specs.Due.{due}
use Rattle.turn.specs.Turn.{outcome_of, applied, admits, bytes_after, taking, turn_outcome, turn_words, turn_bytes}
use Rattle.turn.specs.laws.Told.{ActTold}
use Rattle.turn.specs.laws.Due.{due_told}
use Rattle.turn.specs.laws.Admitting.{Admitting, admitting, admitted_ruled}
use Rattle.settings.specs.declared.refusal.Refusal.{Refusal}
use Rattle.turn.specs.declared.Outcome.{Outcome}

-- a turn of session x that is taken
pub record Taken (s out : List ℕ) (x : Session) : Type 0 where
  pub admits : Admitting s (length out) x
  pub told : ActTold x.settings s (due x.settings s)
  pub answer : turn_outcome s (length out) ≡ Ok (outcome_of x.own s (due x.settings s))
  pub words : turn_words s (length out) ≡ applied s (due x.settings s)
  pub bytes : turn_bytes s out ≡ bytes_after x s (outcome_of x.own s (due x.settings s)) out

-- a refusal changes no word and no lent byte (PROTOCOL 9.3)
pub record Refused (s out : List ℕ) (k : Refusal) : Type 0 where
  pub answer : turn_outcome s (length out) ≡ Err k
  pub words : turn_words s (length out) ≡ s
  pub bytes : turn_bytes s out ≡ out

-- a turn is refused or taken
pub data Way (s out : List ℕ) : Type 0 where
  refused : (k : Refusal) → Refused s out k → Way s out
  taken : (x : Session) → Taken s out x → Way s out

pub way : (s out : List ℕ) → Way s out
unfolding taking turn_outcome turn_words turn_bytes
way s out = go (admits s (length out)) refl
  where
    go : (v : Result Session Refusal) → admits s (length out) ≡ v → Way s out
    go (Err k) e = refused k (record { answer = rw e; words = rw e; bytes = rw e })
    go (Ok x) e =
        let h : Admitting s (length out) x = admitting s (length out) x e in
        taken x (record { admits = h; told = due_told x.settings s (admitted_ruled s (length out) x h); answer = rw e; words = rw e; bytes = rw e })

pub same_outcome : (a b : Outcome) → ◌≡◌ {A = Result Outcome Refusal} (Ok a) (Ok b) → a ≡ b
same_outcome a b e = cc
