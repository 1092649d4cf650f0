-- The figures of a report fit into their bits.
use Rattle.std.specs.Prelude.{ℕ, ◌≤◌, Bool, true, false, cond, List, [], eqb, length, drop, Option}
use Rattle.std.proofs.Common.{arith, length-take}
use Rattle.settings.specs.Settings.{quorum}
use Rattle.settings.specs.declared.Settings.{Settings}
use Rattle.records.specs.Layout.{commit_value_at}
use Rattle.records.specs.Records.{closed, decided_zero, decided_one, commit_count, commit_set}
use Rattle.broadcasts.specs.Broadcasts.{output}
use Rattle.exits.specs.Exits.{Exit, no_exit, exit_of}
use Rattle.exits.specs.laws.Stated.{single_exit, outputs_exit}
use Rattle.exits.proofs.laws.Exits.{names_few}
use Rattle.exits.specs.Exits.{exit_now}
use Rattle.exits.proofs.laws.Ways.{Way, first, second, third, none, way}
use Rattle.commits.specs.Commits.{set_leader, set_of, leading_set}
use Rattle.session.specs.Session.{settings_of}
use Rattle.report.specs.laws.Report.{Reported, turns_few}
use Rattle.report.specs.Report.{in_force_set, figures_of}
use Rattle.report.specs.declared.Figures.{Figures}

-- an exit has number 1, 2 or 3, or 0 for none
number_few : (g : Settings) (o : ℕ → Option ℕ) (as0 as1 : ℕ → Bool) → (exit_of g o as0 as1).number ≤ 3
unfolding single_exit outputs_exit no_exit
number_few g o as0 as1 = go (exit_of g o as0 as1) (way g o as0 as1)
  where
    go : (x : Exit) → Way g o as0 as1 x → x.number ≤ 3
    go x (first v ne f e) = rw e (omega arith)
    go x (second v a d s e) = rw e (omega arith)
    go x (third a d z f e) = rw e (omega arith)
    go x (none a e) = rw e (omega arith)

set_few : (s : List ℕ) (p : ℕ) → length (set_of s p) ≤ 16
unfolding set_of commit_set commit_count
set_few s p = go (eqb p 0)
  where
    row : length (commit_set s p) ≤ 16
    row = rw (length-take (commit_count s p) (drop (commit_value_at p 1) s)) (omega arith)

    go : (b : Bool) → length (cond b [] (commit_set s p)) ≤ 16
    go true = omega arith
    go false = row

in_force_few : (g : Settings) (s : List ℕ) → length (in_force_set g s) ≤ 16
unfolding in_force_set leading_set
in_force_few g s = go (closed s)
  where
    go : (b : Bool) → length (cond b (set_of s (set_leader g s (quorum g))) []) ≤ 16
    go true = set_few s (set_leader g s (quorum g))
    go false = omega arith

pub record Small (f : Figures) : Type 0 where
  pub exit : f.exit ≤ 3
  pub named : f.named ≤ 16
  pub by_in_force : f.in_force ≤ 16
  pub turns : f.turns ≤ 1603

pub figures_small : (s : List ℕ) (f : Figures) → Reported s f → Small f
unfolding figures_of exit_now
figures_small s f r =
    let g = settings_of s in
    record {
      exit = rw r.same (number_few g _ _ _);
      named = rw r.same (omega (arith, names_few g (output g s) (decided_zero s) (decided_one s), r.state.ruled.few));
      by_in_force = rw r.same (in_force_few g s);
      turns = turns_few s f r;
    }
