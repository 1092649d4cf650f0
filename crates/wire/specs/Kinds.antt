-- Byte 1 of each kind, and the kind of a byte (PROTOCOL 2.1 to 2.6, 2.20).
use Rattle.std.specs.Prelude.{ℕ, ◌≡◌, ◌<◌, ◌⊎◌, Result, MatchResult}
use Rattle.wire.specs.declared.kind.Kind.{Kind}
use Rattle.wire.specs.declared.kind.Kind.TheVariants as kind
use Rattle.wire.specs.declared.kind.UnknownKind.{UnknownKind}
use Rattle.wire.specs.Message.{SEND, ECHO, READY, EST, AUX, COMMIT, FINISH}

abbrev pub byte_of : Kind → ℕ
byte_of kind.Send = SEND
byte_of kind.Echo = ECHO
byte_of kind.Ready = READY
byte_of kind.Est = EST
byte_of kind.Aux = AUX
byte_of kind.Commit = COMMIT
byte_of kind.Finish = FINISH

-- the result is the kind with this byte, or the byte, which no kind has
abbrev pub Decodes : ℕ → Result Kind UnknownKind → Type 0
Decodes n r = MatchResult r (λ k. byte_of k ≡ n) (λ e. (e.0 ≡ n) × (n ≡ 0 ⊎ FINISH < n))
