-- `fields_right` is the test of the definition, kind by kind.
use Rattle.std.proofs.Common.{ℕ, Bool, false, ◌≡◌, ◌⊎◌, inl, inr, ◌&&◌, nat_eq}
use borrow.Author.Tests.{eq-eqb, ne_eqb}
use Rattle.wire.specs.Kinds.{byte_of}
use Rattle.wire.specs.Message.{by_kind}
use Rattle.wire.specs.Reading.{broadcast_fields, vote_fields, commit_fields, fields_right}
use Rattle.wire.specs.declared.Header.{Header}
use Rattle.wire.specs.declared.kind.Kind.{Kind}
use Rattle.wire.specs.declared.kind.Kind.TheVariants as kind
use Rattle.wire.proofs.reading.fields_right.Goals as goal

module _ (n : ℕ) (h : Header) where
  reserved : (h.reserved ≡ 0 → ⊥) → false ≡ fields_right n h
  unfolding fields_right
  reserved z = simp (ne_eqb _ _ z)

  module _ (k : Kind) (p : h.kind ≡ byte_of k) (z : h.reserved ≡ 0) (r : Bool) where
    send : k ≡ kind.Send → r ≡ broadcast_fields n h → (r && nat_eq h.instance h.sender) ≡ fields_right n h
    unfolding fields_right by_kind
    send e q = simp (eq-eqb _ _ z, p, e, q)

    broadcast : (k ≡ kind.Echo) ⊎ ((k ≡ kind.Ready) ⊎ (k ≡ kind.Finish)) → r ≡ broadcast_fields n h → r ≡ fields_right n h
    unfolding fields_right by_kind
    broadcast (inl e) q = simp (eq-eqb _ _ z, p, e, q)
    broadcast (inr (inl e)) q = simp (eq-eqb _ _ z, p, e, q)
    broadcast (inr (inr e)) q = simp (eq-eqb _ _ z, p, e, q)

    vote : (k ≡ kind.Est) ⊎ (k ≡ kind.Aux) → r ≡ vote_fields n h → r ≡ fields_right n h
    unfolding fields_right by_kind
    vote (inl e) q = simp (eq-eqb _ _ z, p, e, q)
    vote (inr e) q = simp (eq-eqb _ _ z, p, e, q)

    commit : k ≡ kind.Commit → r ≡ commit_fields n h → r ≡ fields_right n h
    unfolding fields_right by_kind
    commit e q = simp (eq-eqb _ _ z, p, e, q)

pub returns-then-h-ne0 : goal.returns-then-h-ne0
returns-then-h-ne0 c = search reserved

pub returns-in-Send : goal.returns-in-Send
returns-in-Send c = search send

pub returns-in-Echo : goal.returns-in-Echo
returns-in-Echo c = search broadcast

pub returns-in-Est : goal.returns-in-Est
returns-in-Est c = search vote

pub returns-in-Commit : goal.returns-in-Commit
returns-in-Commit c = search commit
