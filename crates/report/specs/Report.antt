-- The report gives the exit with its set, the count of turns and the set in force (PROTOCOL 9.25).
use Rattle.std.specs.Prelude.{ℕ, ◌||◌, not, cond, List, [], length, ltb, Result, Ok, Err}
use Rattle.settings.specs.declared.refusal.Refusal.TheVariants as refusal
use Rattle.settings.specs.Settings.{max_concentrators, quorum}
use Rattle.settings.specs.declared.Settings.{Settings}
use Rattle.records.specs.Records.{turn_count, closed}
use Rattle.commits.specs.Commits.{leading_set}
use Rattle.exits.specs.Exits.{exit_now}
use Rattle.session.specs.Session.{is_state, settings_of}
use Rattle.wire.specs.Message.{at_front}
use Rattle.report.specs.declared.Figures.{Figures}
use Rattle.settings.specs.declared.refusal.Refusal.{Refusal}

-- on a closed state, the set whose COMMITs weigh the quorum, read anew from the COMMITs held (PROTOCOL 7.7); [] is none: before closing, and
-- where a state closed by other means has no such set
unfoldable pub in_force_set : Settings → List ℕ → List ℕ
in_force_set g s = cond (closed s) (leading_set g s (quorum g)) []

-- the exit, 0 for none; how many values it names and how many are in force; the count of turns (PROTOCOL 8.19, 9.9)
unfoldable pub figures_of : Settings → List ℕ → Figures
figures_of g s =
    record {
      exit = (exit_now g s).number;
      named = length (exit_now g s).names;
      in_force = length (in_force_set g s);
      turns = turn_count s;
    }

-- the words lent for a set, which has at most one pack of each concentrator
abbrev pub set_words : ℕ
set_words = max_concentrators

-- the refusals of a report in their order: the first one, or the settings. Each of the two sets needs 16 words (PROTOCOL 9.24, 10.18).
unfoldable pub admits : List ℕ → ℕ → ℕ → Result Settings Refusal
admits s named_words in_force_words =
    cond (not (is_state s)) (Err refusal.NoState)
    (cond (ltb named_words set_words || ltb in_force_words set_words) (Err refusal.Short)
    (Ok (settings_of s)))

-- what a refusal gives, or the report under the settings
unfoldable pub giving : {A : Type 0} → Result Settings Refusal → (Refusal → A) → (Settings → A) → A
giving (Err k) refused given = refused k
giving (Ok g) refused given = given g

-- the answer of a report that is lent so many words for each set (PROTOCOL 9.9)
unfoldable pub report_answer : List ℕ → ℕ → ℕ → Result Figures Refusal
report_answer s named_words in_force_words = giving (admits s named_words in_force_words) Err (λ g. Ok (figures_of g s))

-- the words lent for the set that the exits name, after the call: only those of the set are written, by a refusal none (PROTOCOL 9.3, 9.4)
unfoldable pub report_named : List ℕ → List ℕ → ℕ → List ℕ
report_named s named in_force_words = giving (admits s (length named) in_force_words) (λ k. named) (λ g. at_front (exit_now g s).names named)

-- the words lent for the set in force, after the call
unfoldable pub report_in_force : List ℕ → ℕ → List ℕ → List ℕ
report_in_force s named_words set_in_force = giving (admits s named_words (length set_in_force)) (λ k. set_in_force) (λ g. at_front (in_force_set g s) set_in_force)
