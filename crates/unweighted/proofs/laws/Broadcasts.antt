-- With all weights 1: the output of a broadcast, and rules 4 and 5.
use Prim.Native.Nat.{ℕ}
use Rattle.std.specs.Prelude.{Bool, ◌&&◌, List, ◌≡◌, Option}
use Rattle.std.proofs.Math.Bool.{cond}
use Rattle.std.proofs.Math.Path.{refl, ap, ap₂, fun_ext}
use Rattle.std.proofs.Common.{◌∙◌}
use Rattle.std.proofs.Math.Dec.{eqb, leb}
use Rattle.quorum.specs.laws.Lowest.{lowest_agree}
use Rattle.records.specs.Records.{ready_sent, echo_held, echo_value, ready_held, ready_value}
use Rattle.acts.specs.Acts.{first_act}
use Rattle.acts.specs.declared.Act.{Act}
use Rattle.acts.specs.declared.Act.TheVariants.{Idle}
use Rattle.broadcasts.specs.Broadcasts.{ready_of}
use Rattle.broadcasts.specs.Broadcasts as weighted
use Rattle.broadcasts.specs.Leading.{value_of, or_output}
use Rattle.broadcasts.specs.Leading as weighted_leading
use Rattle.settings.specs.declared.Settings as weighted_settings
use Rattle.unweighted.specs.Broadcasts.{holders, leads, leading, output, ready_due, ready_act, echo_rule, ready_rule}
use Rattle.unweighted.proofs.laws.Counts.{Ones, plain, counts, quorum_same, repeat_same}

module _ (g : weighted_settings.Settings) (one : Ones g) where
  holders_same : (held : ℕ → Bool) (value : ℕ → ℕ) (v : ℕ) → weighted_leading.holders g held value v ≡ holders held value v g.n
  unfolding weighted_leading.holders holders
  holders_same held value v = counts g one (λ p. held p && eqb (value p) v)

  leads_same : (held : ℕ → Bool) (value : ℕ → ℕ) (q p : ℕ) → weighted_leading.leads g held value q p ≡ leads held value g.n q p
  unfolding weighted_leading.leads leads
  leads_same held value q p = ap (λ (c : ℕ). held p && leb q c) (holders_same held value (value p))

  pub leading_same : (held : ℕ → Bool) (value : ℕ → ℕ) (q k : ℕ) → q ≡ k → weighted_leading.leading g held value q ≡ leading held value g.n k
  unfolding weighted_leading.leading leading
  leading_same held value q k e =
      ap (value_of value) (lowest_agree _ _ g.n (λ p lo hi. leads_same held value q p ∙ ap (λ (m : ℕ). leads held value g.n m p) e))

  module _ (s : List ℕ) where
    pub output_same : (i : ℕ) → weighted.output g s i ≡ output (plain g) s i
    unfolding weighted.output output
    output_same i = leading_same (ready_held s i) (ready_value s i) _ _ (quorum_same g one)

    due_same : (i : ℕ) → weighted.ready_due g s i ≡ ready_due (plain g) s i
    unfolding weighted.ready_due ready_due
    due_same i =
        ap₂ or_output
        (leading_same (echo_held s i) (echo_value s i) _ _ (quorum_same g one))
        (leading_same (ready_held s i) (ready_value s i) _ _ (repeat_same g))

    act_same : (i : ℕ) → weighted.ready_act g s i ≡ ready_act (plain g) s i
    unfolding weighted.ready_act ready_act
    act_same i = ap (λ (o : Option ℕ). cond (ready_sent s i) Idle (ready_of i o)) (due_same i)

    pub echo_rule_same : weighted.echo_rule g s ≡ echo_rule (plain g) s
    unfolding weighted.echo_rule echo_rule
    echo_rule_same = refl

    pub ready_rule_same : weighted.ready_rule g s ≡ ready_rule (plain g) s
    unfolding weighted.ready_rule ready_rule
    ready_rule_same = ap (λ (f : ℕ → Act). first_act f g.n) (fun_ext act_same)
