-- What the writer of a message answers and leaves.
use Rattle.std.specs.Prelude.{ℕ, cond, ◌≡◌, List, [], length, leb}
use Rattle.wire.specs.declared.Message.{Message}
use Rattle.wire.specs.Message.{besides, encode, at_front}

-- what is written of bytes w into the lent bytes out: all of it, or nothing where out is too short
unfoldable pub fitting : List ℕ → List ℕ → List ℕ
fitting w out = cond (leb (length w) (length out)) w []

-- what is written of a message: nothing where out is too short, or xs are fewer than a COMMIT counts
unfoldable pub written : Message → (version sender session : ℕ) → List ℕ → List ℕ → List ℕ
written m version sender session xs out = cond (leb (besides m) (length xs)) (fitting (encode m version sender session xs) out) []

-- the bytes w were written at the front of out, which is now after, and the answer r is their number
pub record Wrote (w out : List ℕ) (r : ℕ) (after : List ℕ) : Type 0 where
  pub answer : r ≡ length w
  pub bytes : after ≡ at_front w out
