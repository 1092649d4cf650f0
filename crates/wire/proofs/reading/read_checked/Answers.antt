-- `read_checked` answers as the definition: the tests that led to a return say which case of it holds.
use Rattle.std.specs.Prelude.{Result, Err}
use Prim.Native.Nat.{ℕ, ◌<◌}
use mathlib.Core.Path.{◌≡◌, refl, ◌∙◌}
use mathlib.Core.Logic.{◌⊎◌, inl, inr}
use mathlib.Core.Bool.{Bool, true, false, not, ◌&&◌}
use mathlib.Core.List.{List}
use native.Mathlib.Omega.{arith}
use lib.Dec.{eqb}
use borrow.Author.Tests.{eq-eqb, ne_eqb, lt-leb, not-true, not-false}
use Rattle.wire.specs.declared.Header.{Header}
use Rattle.settings.specs.declared.refusal.Refusal.TheVariants as refusal
use Rattle.wire.specs.Reading.{within, kind_known, sender_right, fields_right, read_values, read_checked}
use Rattle.wire.specs.Kinds.{byte_of}
use Rattle.wire.specs.Message.{SEND, FINISH, last_kind}
use Rattle.wire.specs.laws.Kinds.{last_high}
use Rattle.wire.specs.declared.kind.Kind.{Kind}
use Rattle.wire.proofs.reading.read_checked.Goals as goal
use Rattle.wire.specs.declared.Message.{Message}
use Rattle.settings.specs.declared.refusal.Refusal.{Refusal}

and_false : (b : Bool) → (b && false) ≡ false
and_false true = refl
and_false false = refl

no_kind : (own k : ℕ) → (k ≡ 0) ⊎ (FINISH < k) → within SEND (last_kind own) k ≡ false
no_kind own k (inl e) = rw e
no_kind own k (inr l) = rw (lt-leb k (last_kind own) (omega (arith, l, last_high own))) (and_false _)

kind-none : (own n session link : ℕ) (h : Header) (v : List ℕ) → (h.kind ≡ 0) ⊎ (FINISH < h.kind) → Err refusal.Kind ≡ read_checked own n session link h v
unfolding read_checked
kind-none own n session link h v e = rw (no_kind own h.kind e, and_false (eqb h.version own))

module _ (own n session link : ℕ) (h : Header) (v : List ℕ) (number : Kind) (named : byte_of number ≡ h.kind) (k : Bool)
    (right : k ≡ kind_known own h.version (byte_of number)) where
  kind : k ≡ kind_known own h.version h.kind
  kind = right ∙ rw named

  kind-unknown : not k ≡ true → Err refusal.Kind ≡ read_checked own n session link h v
  unfolding read_checked
  kind-unknown e = simp (← kind, not-true k e)

  module _ (e : not k ≡ false) where
    session-other : (h.session ≡ session → ⊥) → Err refusal.Session ≡ read_checked own n session link h v
    unfolding read_checked
    session-other p = simp (← kind, not-false k e, ne_eqb _ _ p)

    module _ (p : h.session ≡ session) (s : Bool) (sender : s ≡ sender_right n link h.sender) where
      sender-wrong : not s ≡ true → Err refusal.Sender ≡ read_checked own n session link h v
      unfolding read_checked
      sender-wrong f = simp (← kind, not-false k e, eq-eqb _ _ p, ← sender, not-true s f)

      module _ (f : not s ≡ false) (t : Bool) (fields : t ≡ fields_right n h) where
        fields-wrong : not t ≡ true → Err refusal.Field ≡ read_checked own n session link h v
        unfolding read_checked
        fields-wrong g = simp (← kind, not-false k e, eq-eqb _ _ p, ← sender, not-false s f, ← fields, not-true t g)

        all_right : not t ≡ false → (r : Result Message Refusal) → r ≡ read_values h v → r ≡ read_checked own n session link h v
        unfolding read_checked
        all_right g r q = simp (← kind, not-false k e, eq-eqb _ _ p, ← sender, not-false s f, ← fields, not-false t g) q

pub returns-in_default : goal.returns-in_default
returns-in_default c = search (kind-none, c.in_default.ensures)

pub returns-then-not-kind_known : goal.returns-then-not-kind_known
returns-then-not-kind_known c = search (kind-unknown, c.in-Ok.ensures)

pub returns-then-h-session : goal.returns-then-h-session
returns-then-h-session c = search (session-other, c.in-Ok.ensures)

pub returns-then-not-sender_right : goal.returns-then-not-sender_right
returns-then-not-sender_right c = search (sender-wrong, c.in-Ok.ensures)

pub returns-then-not-fields_right : goal.returns-then-not-fields_right
returns-then-not-fields_right c = search (fields-wrong, c.in-Ok.ensures)

pub returns : goal.returns
returns c = search (all_right, c.in-Ok.ensures)
