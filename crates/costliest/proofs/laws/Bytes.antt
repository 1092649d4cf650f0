-- Calls made of plain numbers (calls/Given) are as they stand here: the bytes of a message, and the arguments of the opening, fit their widths.
use Rattle.std.specs.Prelude.{ℕ, zero, suc, ◌/◌, ◌%◌, ◌^◌, ◌<◌, List, [], ◌∷◌, ◌++◌, ◌≡◌, refl}
use Rattle.std.proofs.Common.{ap, ap₂, ◌∙◌, arith}
use Rattle.wire.specs.Bytes.{bytes2, bytes4, bytes8, value_bytes}
use Rattle.wire.specs.Message.{kind_of, instance_of, round_of, count_of, values_of, header_for, front_bytes, header_bytes, message_bytes, encode}
use Rattle.wire.specs.declared.Message.{Message}
use Rattle.wire.specs.declared.Message.TheVariants.{Send, Echo, Ready, Est, Aux, Commit, Finish}
use Rattle.calls.specs.Given.{low_bytes, coins_of, opening_of}
use Rattle.costliest.specs.Calls.{coin_words, opens}

-- a list of bytes
abbrev Low : List ℕ → Type 0
Low b = low_bytes b ≡ b

low_append : (a b : List ℕ) → Low a → Low b → Low (a ++ b)
unfolding low_bytes
low_append a b e f = both a b ∙ ap₂ (λ (x y : List ℕ). x ++ y) e f
  where
    both : (x y : List ℕ) → low_bytes (x ++ y) ≡ low_bytes x ++ low_bytes y
    both [] y = refl
    both (z ∷ x) y = ap (λ (u : List ℕ). z % 256 ∷ u) (both x y)

low_front : (x : ℕ) (b : List ℕ) → x < 256 → Low b → Low (x ∷ b)
unfolding low_bytes
low_front x b l e = ap₂ (λ (y : ℕ) (u : List ℕ). y ∷ u) (omega arith) e

low_two : (x : ℕ) → Low (bytes2 x)
unfolding bytes2 low_bytes
low_two x = low_front (x / 2 ^ 8 % 256) (x % 256 ∷ []) (omega arith) (low_front (x % 256) [] (omega arith) refl)

low_four : (x : ℕ) → Low (bytes4 x)
unfolding bytes4
low_four x = low_append (bytes2 (x / 2 ^ 16)) (bytes2 x) (low_two (x / 2 ^ 16)) (low_two x)

low_values : (xs : List ℕ) → Low (value_bytes xs)
unfolding value_bytes bytes8 low_bytes
low_values [] = refl
low_values (x ∷ xs) =
    low_append (bytes8 x) (value_bytes xs) (low_append (bytes4 (x / 2 ^ 32)) (bytes4 x) (low_four (x / 2 ^ 32)) (low_four x)) (low_values xs)

kind_low : (m : Message) → kind_of m < 256
kind_low (Send i v) = omega arith
kind_low (Echo i v) = omega arith
kind_low (Ready i v) = omega arith
kind_low (Est i r v) = omega arith
kind_low (Aux i r v) = omega arith
kind_low (Commit k) = omega arith
kind_low (Finish i v) = omega arith

-- the bytes of a message whose fields each fit one
pub encode_low : (m : Message) (version p session : ℕ) (xs : List ℕ) → version < 256 → p < 256 → instance_of m < 256 → round_of m < 256 → count_of m < 256 → low_bytes (encode m version p session xs) ≡ encode m version p session xs
unfolding encode message_bytes header_bytes front_bytes header_for
encode_low m version p session xs v a b c d =
    low_append _ _
    (low_append _ _
    (low_front version _ v
    (low_front (kind_of m) _ (kind_low m)
    (low_front p _ a
    (low_front (instance_of m) _ b
    (low_front (round_of m) _ c
    (low_front (count_of m) _ d
    (low_two 0)))))))
    (low_four session))
    (low_values (values_of m xs))

coins_low : (n : ℕ) → coins_of (coin_words n) ≡ coin_words n
unfolding coins_of coin_words
coins_low zero = refl
coins_low (suc n) = ap (λ (xs : List ℕ). 0 ∷ xs) (coins_low n)

pub opening_low : (n : ℕ) → (opening_of (opens n)).given ≡ opens n
unfolding opening_of opens
opening_low n = rw (coins_low n)
