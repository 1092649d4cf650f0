-- The paths of `due` in src/due.rt.
use Rattle.std.specs.Prelude.{ℕ, Bool, true, false, List, ◌≡◌, eqb}
use Rattle.std.proofs.Common.{sym, ap, ◌∙◌}
use Rattle.settings.specs.Rules.{Ruled}
use Rattle.settings.specs.declared.Settings.{Settings}
use Rattle.acts.specs.Acts.{is_due, or_act}
use Rattle.acts.specs.declared.Act.{Act}
use Rattle.broadcasts.specs.Broadcasts.{echo_rule, ready_rule}
use Rattle.broadcasts.specs.Outputs.{Outputs}
use Rattle.exits.specs.Stated.{Stated}
use Rattle.exits.specs.declared.Named.{Named}
use Rattle.turn.specs.Due.{in_force_rule, commit_due, commit_rule, send_rule, votes_rule, due}
use Rattle.exits.specs.Exits.{number_or_none, exit_now}
use Rattle.turn.specs.laws.Choosing.{Chosen, later_rules, later_same}
use Rattle.turn.specs.laws.Due.{in_force_no_commit, later_no_commit}

rest_last : (a b rest c : Act) (d e : Bool) → d ≡ is_due a → d ≡ false → e ≡ is_due b → e ≡ false → c ≡ rest → c ≡ or_act a (or_act b rest)
unfolding or_act
rest_last a b rest c d e ed td ee te h = rw (← ed, td, ← ee, te) h

module _ (g : Settings) (s : List ℕ) (a : Act) (d : Bool) (ea : a ≡ in_force_rule g s) (ed : d ≡ is_due a) where
  pub first_in_force : (set : List ℕ) → d ≡ true → Chosen (due g s) (commit_due g s) a set
  unfolding due or_act
  first_in_force set td = record { same = rw (← ea, ← ed, td); front = λ k e. absurd (in_force_no_commit g s k (sym ea ∙ e)) }

  module _ (td : d ≡ false) (set : List ℕ) (b : Act) (e : Bool) (h : Chosen (commit_rule g s) (commit_due g s) b set) (ee : e ≡ is_due b) where
    pub first_commit_lem : e ≡ true → Chosen (due g s) (commit_due g s) b set
    unfolding due or_act
    first_commit_lem te = let eb : b ≡ commit_rule g s = h.same in record { same = rw (← ea, ← ed, td, ← eb, ← ee, te); front = h.front }

    pub first_later : (outputs : ℕ) (values : List ℕ) (y : Named) (first : Bool) (c : Act) → e ≡ false → Ruled g → Outputs g s g.n outputs values → Stated y (exit_now g s) → first ≡ eqb (number_or_none y.exit) 1 → c ≡ later_rules g s outputs first → Chosen (due g s) (commit_due g s) c set
    unfolding due
    first_later outputs values y first c te r x st ef ec =
        let eb : b ≡ commit_rule g s = h.same in
        let is : c ≡ or_act (send_rule s) (or_act (echo_rule g s) (or_act (ready_rule g s) (votes_rule g s))) = ec ∙ ap (later_rules g s outputs) ef ∙ later_same g s outputs values r x y st in
        record {
          same = rw (← ea, ← eb) (rest_last a b _ c d e ed td ee te is);
          front = λ k f. absurd (later_no_commit g s r c k is f);
        }

pub ruleset due_cases = (first_in_force, first_commit_lem, first_later)
