-- The messages that keep to the layout.
use Rattle.std.specs.Prelude.{ℕ, ◌≤◌, ◌<◌, ◌^◌, ◌≡◌, true, List, [], ◌∷◌, length, get_or}
use Rattle.wire.specs.Bytes.{rises}
use Rattle.settings.specs.Settings.{round_limit}
use Rattle.wire.specs.Message.{kind_of, last_kind, besides, values_of}
use Rattle.wire.specs.declared.Message.{Message}
use Rattle.wire.specs.declared.Message.TheVariants.{Send, Echo, Ready, Est, Aux, Commit, Finish}

-- a list of bytes
abbrev pub AllBytes : List ℕ → Type 0
AllBytes b = (i : ℕ) → get_or b i 0 < 256

-- a value has eight bytes: each fits (PROTOCOL 2.13)
abbrev pub Fitting : List ℕ → Type 0
Fitting [] = Unit
Fitting (x ∷ xs) = (x < 2 ^ 64) × Fitting xs

-- the fields of a message from a sender among n, by kind (PROTOCOL 2.1 to 2.6, 2.20)
abbrev pub Layout : (n sender : ℕ) → Message → Type 0
Layout n sender (Send i v) = i ≡ sender
Layout n sender (Echo i v) = (1 ≤ i) × (i ≤ n)
Layout n sender (Ready i v) = (1 ≤ i) × (i ≤ n)
Layout n sender (Est i r v) = (1 ≤ i) × (i ≤ n) × (1 ≤ r) × (r ≤ round_limit) × (v ≤ 1)
Layout n sender (Aux i r v) = (1 ≤ i) × (i ≤ n) × (1 ≤ r) × (r ≤ round_limit) × (v ≤ 1)
Layout n sender (Commit k) = (1 ≤ k) × (k ≤ n)
Layout n sender (Finish i v) = (1 ≤ i) × (i ≤ n) × (v ≤ 1)

-- a message of a kind of the version that keeps to the layout, with the values xs beside a COMMIT, which rise, as a single value does (PROTOCOL 2.6)
pub record Proper (version n sender : ℕ) (m : Message) (xs : List ℕ) : Type 0 where
  pub kind : kind_of m ≤ last_kind version
  pub layout : Layout n sender m
  pub held : besides m ≤ length xs
  pub fits : Fitting (values_of m xs)
  pub rising : rises (values_of m xs) ≡ true
