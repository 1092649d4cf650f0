-- Whether a report is given, as the code works it out from what is stored.
use Rattle.std.specs.Prelude.{ℕ, Bool, true, false, ◌||◌, not, cond, List, ◌≡◌, refl, ltb, Option, Some, None, Result, Ok, Err}
use Rattle.settings.specs.declared.refusal.Refusal.TheVariants as refusal
use Rattle.settings.specs.declared.Settings.{Settings}
use Rattle.session.specs.Session.{is_state, settings_of, session_with, session_of, stored}
use Rattle.report.specs.Report.{admits}
use Rattle.settings.specs.declared.refusal.Refusal.{Refusal}
use Rattle.session.specs.declared.Session.{Session}

-- whether there is room for both sets
unfoldable pub admitted_in : Settings → ℕ → ℕ → Result Settings Refusal
admitted_in g a b = cond (ltb a 16 || ltb b 16) (Err refusal.Short) (Ok g)

unfoldable pub admitted_for : Option Session → ℕ → ℕ → Result Settings Refusal
admitted_for None a b = Err refusal.NoState
admitted_for (Some x) a b = admitted_in x.settings a b

pub admits_stored : (s : List ℕ) (a b : ℕ) → admits s a b ≡ admitted_for (stored s) a b
unfolding admits admitted_for admitted_in stored session_of session_with
admits_stored s a b = go (is_state s)
  where
    go : (t : Bool) → cond (not t) (Err refusal.NoState) (cond (ltb a 16 || ltb b 16) (Err refusal.Short) (Ok (settings_of s))) ≡ admitted_for (cond t (Some (session_of s)) None) a b
    go true = refl
    go false = refl
