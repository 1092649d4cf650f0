-- `header_for` is the header of the definition.
use Rattle.std.proofs.Common.{ℕ, ◌≡◌}
use Rattle.wire.specs.Message.{kind_of, instance_of, round_of, count_of, header_with, header_for}
use Rattle.wire.specs.declared.Message.{Message}
use Rattle.wire.proofs.writing.header_for.Goals as goal

fields : (m : Message) (w s t x k i r n : ℕ) → k ≡ x → x ≡ kind_of m → i ≡ instance_of m → r ≡ round_of m → n ≡ count_of m →
    header_with w k s i r n t ≡ header_for m w s t
unfolding header_for
fields m w s t x k i r n p q a b d = rw (p, q, a, b, d)

pub returns : goal.returns
returns c = search fields
