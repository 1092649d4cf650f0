-- What a delivery decides: a vote whose FINISHes, with the one that it records, reach the accept threshold (PROTOCOL 5.17).
use Prim.Native.Nat.{ℕ, ◌≤◌, ◌<◌}
use Rattle.std.specs.Prelude.{Bool, true, false, cond, ◌⊎◌, ◌≡◌, refl, eqb, length}
use mathlib.Core.List.{List}
use Rattle.std.proofs.Math.Logic.{inl}
use Rattle.std.proofs.Common.{inr, sym, ap, ◌∙◌, arith, eqb-true}
use Rattle.std.proofs.lemmas.Bool.{eqb-false}
use Rattle.quorum.specs.Marks.{mark}
use Rattle.settings.specs.Settings.{weighed, accept}
use Rattle.settings.specs.declared.Settings.{Settings}
use Rattle.records.specs.Layout.{finish_marks_at, finish_mark, decided_zero_at, decided_one_at}
use Rattle.records.specs.Records.{finish_held}
use Rattle.records.specs.Words.{marked, set_mark}
use Rattle.records.specs.Writing.{with_finish}
use Rattle.records.specs.laws.Words.{length_set_mark, word_set_mark_other, marked_came}
use Rattle.votes.specs.Finishing.{finish_count}
use Rattle.session.specs.Session.{settings_of}
use Rattle.wire.specs.declared.Message as wire_message
use Rattle.wire.specs.declared.Message.TheVariants as wire
use Rattle.delivery.specs.Delivery.{finish_settled, recorded}
use Rattle.delivery.specs.laws.Frame.{InLayout, Changed, word_recorded}
use Rattle.delivery.specs.laws.Settling.{FinishDecided, settled_either, settled_kept}
use Rattle.turn.proofs.laws.Decisions.{decided_at}
use Rattle.held.specs.laws.Held.{FINISH, holds}

-- FINISHes of b that are held in t reach the accept threshold
pub record Finishes (g : Settings) (t : List ℕ) (i b : ℕ) : Type 0 where
  pub senders : ℕ → Bool
  pub enough : accept g ≤ weighed g senders
  pub held : (m : ℕ) → senders m ≡ true → holds t m (FINISH i b)

-- the value of the votes decided 0, and of those decided 1
abbrev pub value_of : Bool → ℕ
value_of true = 0
value_of false = 1

decided_value : (z : Bool) (c : ℕ) → c ≤ 1 → decided_at z ≡ cond (eqb c 0) decided_zero_at decided_one_at → c ≡ value_of z
decided_value z c bit e = go z (eqb c 0) refl e
  where
    go : (z t : Bool) → eqb c 0 ≡ t → decided_at z ≡ cond t decided_zero_at decided_one_at → c ≡ value_of z
    go true true f h = eqb-true c 0 f
    go true false f h = absurd (omega arith)
    go false true f h = absurd (omega arith)
    go false false f h = omega (arith, bit, eqb-false c 0 f)

low : (z : Bool) → (decided_zero_at ≤ decided_at z) × (decided_at z ≤ decided_one_at)
low true = (omega arith, omega arith)
low false = (omega arith, omega arith)

module _ (s v : List ℕ) (p : ℕ) (size : length s ≡ 2048) (i : ℕ) (z : Bool) where
  abbrev Came : wire_message.Message → Type 0
  Came m = (marked s (decided_at z) i ≡ true) ⊎ Finishes (settings_of s) (recorded s p m v) i (value_of z)

  -- other messages decide nothing
  stood : (m : wire_message.Message) → (Changed p m (decided_at z) → ⊥) → marked (recorded s p m v) (decided_at z) i ≡ true → Came m
  unfolding marked
  stood m out e = inl (ap (λ (x : ℕ). mark x i) (sym (word_recorded s v p m (decided_at z) out)) ∙ e)

  finish_came : (j c : ℕ) → InLayout p (wire.Finish j c) → marked (recorded s p (wire.Finish j c) v) (decided_at z) i ≡ true → Came (wire.Finish j c)
  unfolding recorded finish_count finish_held marked
  finish_came j c h e = of (settled_either (settings_of s) held j c)
    where
      held : List ℕ
      held = with_finish s j c p

      before : marked held (decided_at z) i ≡ true → marked s (decided_at z) i ≡ true
      before f = ap (λ (x : ℕ). mark x i) (sym (word_set_mark_other s (finish_marks_at j) (finish_mark c p) (decided_at z) (λ y. omega (arith, (low z).1)))) ∙ f

      finishes : FinishDecided (settings_of s) held j c → Finishes (settings_of s) (finish_settled (settings_of s) held j c) j c
      finishes d =
          record {
            senders = finish_held held j c;
            enough = d.enough;
            held = λ m t. record {
              instance = record { low = h.2; high = h.3 };
              bit = h.4;
              there = settled_kept (settings_of s) held j c (finish_marks_at j) (finish_mark c m) t;
            };
          }

      now : FinishDecided (settings_of s) held j c → (marked held (decided_at z) i ≡ true) ⊎ ((decided_at z ≡ cond (eqb c 0) decided_zero_at decided_one_at) × (i ≡ j)) → Came (wire.Finish j c)
      now d (inl f) = inl (before f)
      now d (inr f) = inr (rw (f.1, ← decided_value z c h.4 f.0) (finishes d))

      within : (t : Bool) → cond t decided_zero_at decided_one_at < length held
      within true = omega (arith, size, length_set_mark s (finish_marks_at j) (finish_mark c p))
      within false = omega (arith, size, length_set_mark s (finish_marks_at j) (finish_mark c p))

      of : (finish_settled (settings_of s) held j c ≡ held) ⊎ ((finish_settled (settings_of s) held j c ≡ set_mark held (cond (eqb c 0) decided_zero_at decided_one_at) j) × FinishDecided (settings_of s) held j c) → Came (wire.Finish j c)
      of (inl same) = inl (before (ap (λ (t : List ℕ). marked t (decided_at z) i) (sym same) ∙ e))
      of (inr d) = now d.1 (marked_came held (cond (eqb c 0) decided_zero_at decided_one_at) j (decided_at z) i (within (eqb c 0)) (ap (λ (t : List ℕ). marked t (decided_at z) i) (sym d.0) ∙ e))

  -- a vote that is decided after a message was recorded was so before, or its FINISHes decide it
  pub decided_came : (m : wire_message.Message) → InLayout p m → marked (recorded s p m v) (decided_at z) i ≡ true → Came m
  decided_came (wire.Send j x) h = stood (wire.Send j x) out
    where
      out : Changed p (wire.Send j x) (decided_at z) → ⊥
      out (inl e) = omega (arith, (low z).0, (low z).1)
      out (inr e) = omega (arith, (low z).0, (low z).1)
  decided_came (wire.Echo j x) h = stood (wire.Echo j x) out
    where
      out : Changed p (wire.Echo j x) (decided_at z) → ⊥
      out (inl e) = omega (arith, (low z).0, (low z).1)
      out (inr e) = omega (arith, (low z).0, (low z).1)
  decided_came (wire.Ready j x) h = stood (wire.Ready j x) out
    where
      out : Changed p (wire.Ready j x) (decided_at z) → ⊥
      out (inl e) = omega (arith, (low z).0, (low z).1)
      out (inr e) = omega (arith, (low z).0, (low z).1)
  decided_came (wire.Est j r b) h = stood (wire.Est j r b) out
    where
      out : Changed p (wire.Est j r b) (decided_at z) → ⊥
      out (inl e) = omega (arith, (low z).0, (low z).1)
      out (inr e) = omega (arith, (low z).0, (low z).1)
  decided_came (wire.Aux j r b) h = stood (wire.Aux j r b) (λ e. omega (arith, (low z).0, (low z).1))
  decided_came (wire.Commit k) h = stood (wire.Commit k) out
    where
      out : Changed p (wire.Commit k) (decided_at z) → ⊥
      out (inl e) = omega (arith, (low z).0, (low z).1)
      out (inr e) = omega (arith, (low z).0, (low z).1)
  decided_came (wire.Finish j c) h = finish_came j c h
