-- A place takes one message. `delivered s p b` are the words after bytes b came over the link of concentrator p.
use Rattle.std.specs.Prelude.{ℕ, List, ◌≡◌, Ok, Err}
use Rattle.settings.specs.declared.refusal.Refusal.TheVariants as refusal
use Rattle.wire.specs.declared.Message.{Message}
use Rattle.wire.specs.declared.Message.TheVariants as message
use Rattle.delivery.specs.Delivery.{verdict, deliver_answer, delivered}

-- a message that was accepted is refused when it comes again
abbrev pub HeldAgain : Type 0
HeldAgain = (s : List ℕ) (p : ℕ) (b : List ℕ) → deliver_answer s p b ≡ Ok tt → deliver_answer (delivered s p b) p b ≡ Err refusal.Held

-- the place of a message among those of its sender, by instance, round and value; that of a SEND is its sender's own
-- instance. FINISH is for version 2: no message of version 1 has it.
pub data Place : Type 0 where
  SEND COMMIT : Place
  ECHO READY FINISH : ℕ → Place
  AUX : ℕ → ℕ → Place
  EST : ℕ → ℕ → ℕ → Place

abbrev pub place_of : Message → Place
place_of (message.Send i v) = SEND
place_of (message.Echo i v) = ECHO i
place_of (message.Ready i v) = READY i
place_of (message.Est i r v) = EST i r v
place_of (message.Aux i r v) = AUX i r
place_of (message.Commit k) = COMMIT
place_of (message.Finish i v) = FINISH i

-- message y in bytes c from q, once x in bytes b from p was accepted
pub record Afterwards (s : List ℕ) (p : ℕ) (b : List ℕ) (x : Message) (q : ℕ) (c : List ℕ) (y : Message) : Type 0 where
  pub same_place : p ≡ q → place_of x ≡ place_of y → deliver_answer (delivered s p b) q c ≡ Err refusal.Held
  pub other_place : ((p ≡ q) × (place_of x ≡ place_of y) → ⊥) → deliver_answer (delivered s p b) q c ≡ Ok tt

-- of two messages that a state would accept, it accepts the second after the first exactly where the place is another
abbrev pub HeldOnce : Type 0
HeldOnce =
    (s : List ℕ) (p q : ℕ) (b c : List ℕ) (x y : Message) → verdict s p b ≡ Ok x → verdict s q c ≡ Ok y →
    Afterwards s p b x q c y
