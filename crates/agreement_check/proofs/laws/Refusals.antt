-- The refusals among the calls of a list at those that are opened, and of openings.
use Rattle.std.specs.Prelude.{ℕ, Bool, cond, List, [], ◌∷◌, length, Option, Some, None}
use Rattle.records.specs.Layout.{state_words}
use Rattle.std.specs.Result.{result_err}
use Rattle.journal.specs.Journal.{open_line_answer, deliver_line_answer, record_line_answer, turned_outcome}
use Rattle.calls.specs.Machine.{Call, opening, delivery, turn, report, restore, recording}
use Rattle.calls.specs.Engine.{engine, Agreed}
use Rattle.agreement_check.specs.Checking.{Entry, Run, is_opened, words_of, step, run}
use Rattle.settings.specs.declared.refusal.Refusal.{Refusal}

-- why a call is refused, if it is; a call at one that is not opened is passed over, and the test takes no restore that is refused
unfoldable pub refusal : Call engine → List Entry → Option Refusal
refusal (opening p o) xs = result_err (open_line_answer state_words o.given o.line)
refusal (delivery p m b) xs = cond (is_opened xs p) (result_err (deliver_line_answer (words_of xs p) m b.list b.line)) None
refusal (turn p l) xs = cond (is_opened xs p) (result_err (turned_outcome (words_of xs p) (length l.message) l.line)) None
refusal (report p r) xs = None
refusal (restore p v r) xs = None
refusal (recording p y) xs = cond (is_opened xs p) (result_err (record_line_answer (words_of xs p) y.vote y.round y.bit y.line)) None

pub record Refusals : Type 0 where
  pub run : Run
  pub list : List Refusal

unfoldable pub with_refusal : Option Refusal → List Refusal → List Refusal
with_refusal None ks = ks
with_refusal (Some k) ks = k ∷ ks

module _ (S : Agreed) (H : ℕ → Bool) (v : ℕ → ℕ) where
  unfoldable pub after_call : Call engine → Refusals → Refusals
  after_call c r = record { run = step S H v c r.run; list = with_refusal (refusal c r.run.states) r.list }

  -- the last refusal first
  unfoldable pub refusals : List (Call engine) → Refusals
  refusals [] = record { run = run S H v []; list = [] }
  refusals (c ∷ cs) = after_call c (refusals cs)
