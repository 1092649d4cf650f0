-- What rules 4 and 5 can answer: a property of acts holds of the answer where it holds of idle and of each act that may be due.
use Rattle.std.specs.Prelude.{ℕ, ◌≤◌, Bool, cond, List, ◌≡◌, Option, Some, None}
use Rattle.std.proofs.Math.Bool.{true, false}
use Rattle.std.proofs.Math.Path.{refl}
use Rattle.settings.specs.declared.Settings.{Settings}
use Rattle.records.specs.Records.{echo_sent, ready_sent, send_held, send_value}
use Rattle.acts.specs.laws.Choices.{all_first}
use Rattle.acts.specs.declared.Act.{Act}
use Rattle.acts.specs.declared.Act.TheVariants.{Idle, Echo, Ready}
use Rattle.broadcasts.specs.Broadcasts.{echo_act, ready_due, ready_of, ready_act, echo_rule, ready_rule}

module _ (P : Act → Type 0) where
  module _ (s : List ℕ) (i : ℕ) (idle : P Idle) where
    pub echo_holds : (echo_sent s i ≡ false → send_held s i ≡ true → P (Echo i (send_value s i))) → P (echo_act s i)
    unfolding echo_act
    echo_holds due = go (echo_sent s i) refl (send_held s i) refl
      where
        go : (a : Bool) → echo_sent s i ≡ a → (b : Bool) → send_held s i ≡ b → P (cond a Idle (cond b (Echo i (send_value s i)) Idle))
        go true e b f = idle
        go false e true f = due e f
        go false e false f = idle

    pub ready_holds : (g : Settings) → ((v : ℕ) → ready_sent s i ≡ false → ready_due g s i ≡ Some v → P (Ready i v)) → P (ready_act g s i)
    unfolding ready_act
    ready_holds g due = go (ready_sent s i) refl (ready_due g s i) refl
      where
        go : (a : Bool) → ready_sent s i ≡ a → (o : Option ℕ) → ready_due g s i ≡ o → P (cond a Idle (ready_of i o))
        go true e o f = idle
        go false e (Some v) f = due v e f
        go false e None f = idle

  module _ (g : Settings) (s : List ℕ) (idle : P Idle) where
    pub echo_rule_holds : ((i : ℕ) → 1 ≤ i → i ≤ g.n → echo_sent s i ≡ false → send_held s i ≡ true → P (Echo i (send_value s i))) → P (echo_rule g s)
    unfolding echo_rule
    echo_rule_holds due = all_first P (echo_act s) g.n idle (λ i a b. echo_holds s i idle (due i a b))

    pub ready_rule_holds : ((i v : ℕ) → 1 ≤ i → i ≤ g.n → ready_sent s i ≡ false → ready_due g s i ≡ Some v → P (Ready i v)) → P (ready_rule g s)
    unfolding ready_rule
    ready_rule_holds due = all_first P (ready_act g s) g.n idle (λ i a b. ready_holds s i idle g (λ v. due i v a b))
