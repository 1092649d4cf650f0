-- `read_values` is the message of the definition, kind by kind.
use Rattle.std.proofs.Common.{ℕ, Bool, true, false, ◌≡◌, ◌∙◌, sym, List, arith, Result, Ok, Err, cond, leb}
use Rattle.settings.specs.laws.Answers.{handed_on}
use Rattle.settings.specs.declared.refusal.Refusal.{Refusal}
use Rattle.settings.specs.declared.refusal.Refusal.TheVariants as refusal
use Rattle.wire.specs.Bytes.{value_at, values, rises}
use Rattle.wire.specs.Kinds.{byte_of}
use Rattle.wire.specs.Message.{by_kind}
use Rattle.wire.specs.Reading.{taken_if, read_values}
use Rattle.wire.specs.declared.Header.{Header}
use Rattle.wire.specs.declared.Message.{Message}
use Rattle.wire.specs.declared.Message.TheVariants.{Send, Echo, Ready, Est, Aux, Commit, Finish}
use Rattle.wire.specs.declared.kind.Kind.{Kind}
use Rattle.wire.specs.declared.kind.Kind.TheVariants as kind
use Rattle.wire.proofs.reading.read_values.Goals as goal

-- a message with a value that is a bit
bit_taken : (b : Bool) (x y : ℕ) (m : ℕ → Message) → ◌≡◌ {A = Result ℕ Refusal} (Ok y) (cond b (Ok x) (Err refusal.Value)) → Ok (m y) ≡ taken_if b (m x)
unfolding taken_if
bit_taken true x y m e = cc
bit_taken false x y m e = absurd (let z : ◌≡◌ {A = ℕ} 0 1 = cc in omega arith)

bit_refused : (b : Bool) (x : ℕ) (k : Refusal) (m : Message) → ◌≡◌ {A = Result ℕ Refusal} (Err k) (cond b (Ok x) (Err refusal.Value)) → Err k ≡ taken_if b m
unfolding taken_if
bit_refused true x k m e = absurd (let z : ◌≡◌ {A = ℕ} 0 1 = cc in omega arith)
bit_refused false x k m e = cc

module _ (h : Header) (v : List ℕ) (k : Kind) (p : h.kind ≡ byte_of k) where
  module _ (x : ℕ) (q : x ≡ value_at v 1) where
    send : k ≡ kind.Send → Ok (Send h.instance x) ≡ read_values h v
    unfolding read_values by_kind
    send e = simp (p, e, q)

    echo : k ≡ kind.Echo → Ok (Echo h.instance x) ≡ read_values h v
    unfolding read_values by_kind
    echo e = simp (p, e, q)

    ready : k ≡ kind.Ready → Ok (Ready h.instance x) ≡ read_values h v
    unfolding read_values by_kind
    ready e = simp (p, e, q)

    module _ (r : Result ℕ Refusal) (b : r ≡ cond (leb x 1) (Ok x) (Err refusal.Value)) where
      bit : (m : ℕ → Message) (y : ℕ) → r ≡ Ok y → Ok (m y) ≡ taken_if (leb (value_at v 1) 1) (m (value_at v 1))
      bit m y e = rw (← q) (bit_taken (leb x 1) x y m (sym e ∙ b))

      above : (m : Message) (i : Refusal) → r ≡ Err i → Err i ≡ taken_if (leb (value_at v 1) 1) m
      above m i e = rw (← q) (bit_refused (leb x 1) x i m (sym e ∙ b))

      est : (y : ℕ) → k ≡ kind.Est → r ≡ Ok y → Ok (Est h.instance h.round y) ≡ read_values h v
      unfolding read_values by_kind
      est y e f = simp (p, e) (bit (Est h.instance h.round) y f)

      aux : (y : ℕ) → k ≡ kind.Aux → r ≡ Ok y → Ok (Aux h.instance h.round y) ≡ read_values h v
      unfolding read_values by_kind
      aux y e f = simp (p, e) (bit (Aux h.instance h.round) y f)

      finish : (y : ℕ) → k ≡ kind.Finish → r ≡ Ok y → Ok (Finish h.instance y) ≡ read_values h v
      unfolding read_values by_kind
      finish y e f = simp (p, e) (bit (Finish h.instance) y f)

      est-above : (i : Refusal) → k ≡ kind.Est → r ≡ Err i → Err i ≡ read_values h v
      unfolding read_values by_kind
      est-above i e f = simp (p, e) (above _ i f)

      aux-above : (i : Refusal) → k ≡ kind.Aux → r ≡ Err i → Err i ≡ read_values h v
      unfolding read_values by_kind
      aux-above i e f = simp (p, e) (above _ i f)

      finish-above : (i : Refusal) → k ≡ kind.Finish → r ≡ Err i → Err i ≡ read_values h v
      unfolding read_values by_kind
      finish-above i e f = simp (p, e) (above _ i f)

  commit : k ≡ kind.Commit → (r : Result Message Refusal) → r ≡ taken_if (rises (values h.count v)) (Commit h.count) → r ≡ read_values h v
  unfolding read_values by_kind
  commit e r q = simp (p, e) q

pub returns-in_err-value-in-Est : goal.returns-in_err-value-in-Est
returns-in_err-value-in-Est c = handed_on _ _ c.from_residual.ensures.1 ∙ search (est-above, c.in_err-value-in-Est.was)

pub returns-in_err-value-in-Aux : goal.returns-in_err-value-in-Aux
returns-in_err-value-in-Aux c = handed_on _ _ c.from_residual-in_err-value-in-Aux.ensures.1 ∙ search (aux-above, c.in_err-value-in-Aux.was)

pub returns-in_err-value-in-Finish : goal.returns-in_err-value-in-Finish
returns-in_err-value-in-Finish c = handed_on _ _ c.from_residual-in_err-value-in-Finish.ensures.1 ∙ search (finish-above, c.in_err-value-in-Finish.was)

pub returns-in-Send : goal.returns-in-Send
returns-in-Send c = search send

pub returns-in-Echo : goal.returns-in-Echo
returns-in-Echo c = search echo

pub returns-in-Ready : goal.returns-in-Ready
returns-in-Ready c = search ready

pub returns-in_ok-value-in-Est : goal.returns-in_ok-value-in-Est
returns-in_ok-value-in-Est c = search (est, c.in_ok-value-in-Est.was)

pub returns-in_ok-value-in-Aux : goal.returns-in_ok-value-in-Aux
returns-in_ok-value-in-Aux c = search (aux, c.in_ok-value-in-Aux.was)

pub returns-in-Commit : goal.returns-in-Commit
returns-in-Commit c = search commit

pub returns-in_ok-value-in-Finish : goal.returns-in_ok-value-in-Finish
returns-in_ok-value-in-Finish c = search (finish, c.in_ok-value-in-Finish.was)
