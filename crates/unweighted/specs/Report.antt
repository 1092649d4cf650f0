-- The report gives the exit with its set, the count of turns and the set in force (PROTOCOL 9.25).
use Rattle.std.specs.Prelude.{ℕ, ◌||◌, not, cond, List, [], length, ltb, Result, Ok, Err}
use Rattle.settings.specs.declared.refusal.Refusal.TheVariants as refusal
use Rattle.records.specs.Layout.{turns_at}
use Rattle.records.specs.Words.{word}
use Rattle.records.specs.Records.{closed}
use Rattle.report.specs.declared.Figures.{Figures}
use Rattle.unweighted.specs.Settings.{Settings, quorum}
use Rattle.unweighted.specs.Session.{settings_of, is_state}
use Rattle.unweighted.specs.Exits.{exit_now}
use Rattle.unweighted.specs.Commits.{leading_set}
use Rattle.wire.specs.Message.{at_front}
use Rattle.settings.specs.declared.refusal.Refusal.{Refusal}

-- on a closed state, the set whose COMMITs are a quorum (PROTOCOL 7.7); [] is none
unfoldable pub in_force_set : Settings → List ℕ → List ℕ
in_force_set g s = cond (closed s) (leading_set s g.n (quorum g)) []

-- the exit, 0 for none; how many values it names and how many are in force; the stored count of turns
unfoldable pub figures_of : Settings → List ℕ → Figures
figures_of g s =
    record {
      exit = (exit_now g s).number;
      named = length (exit_now g s).names;
      in_force = length (in_force_set g s);
      turns = word s turns_at;
    }

-- the refusals of a report in their order (PROTOCOL 9.24, 10.18): what a refusal gives, else what the report gives. Each of the two
-- sets needs 16 words.
unfoldable pub giving : {A : Type 0} → List ℕ → ℕ → ℕ → (Refusal → A) → A → A
giving s named_words in_force_words refused done =
    cond (not (is_state s)) (refused refusal.NoState)
    (cond (ltb named_words 16 || ltb in_force_words 16) (refused refusal.Short)
    done)

-- the answer of a report that is lent so many words for each set
unfoldable pub report_answer : List ℕ → ℕ → ℕ → Result Figures Refusal
report_answer s named_words in_force_words = giving s named_words in_force_words Err (Ok (figures_of (settings_of s) s))

-- the words lent for the set that the exits name, after the call
unfoldable pub report_named : List ℕ → List ℕ → ℕ → List ℕ
report_named s named in_force_words =
    giving s (length named) in_force_words (λ k. named) (at_front (exit_now (settings_of s) s).names named)

-- the words lent for the set in force, after the call
unfoldable pub report_in_force : List ℕ → ℕ → List ℕ → List ℕ
report_in_force s named_words set_in_force =
    giving s named_words (length set_in_force) (λ k. set_in_force) (at_front (in_force_set (settings_of s) s) set_in_force)
