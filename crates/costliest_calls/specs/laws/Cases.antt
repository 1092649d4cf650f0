-- The paths of src/lib.rt.
use Prim.Native.Nat.{ℕ, zero, suc, ◌+◌, ◌*◌, ◌-◌, ◌<◌, ◌≤◌}
use mathlib.Core.List.{List, [], ◌∷◌}
use Rattle.std.specs.Prelude.{◌≡◌, refl, length, get_or, Some, None}
use Rattle.std.proofs.Common.{sym, ◌∙◌, Fits}
use Rattle.std.proofs.Math.Path.{ap}
use native.Mathlib.Omega.{arith}
use Rattle.std.proofs.Math.Decide.{dec_le, ℕ_discrete}
use Rattle.std.specs.Int.{w64}
use Rattle.std.specs.Option.{option_map}
use borrow.Author.Tests.{ne_eqb}
use Rattle.settings.specs.Versions.{FIRST_VERSION}
use Rattle.wire.specs.Message.{instance_of, round_of, count_of, length_of, besides, encode, at_front}
use Rattle.wire.specs.Writing.{written, Wrote}
use Rattle.wire.specs.declared.Message.{Message}
use Rattle.wire.specs.declared.Message.TheVariants.{Send, Echo, Ready, Est, Aux, Commit, Finish}
use Rattle.wire.proofs.Laws.{length_encode, written_whole}
use Rattle.calls.specs.Given.{low_bytes, bytes_of}
use Rattle.costliest.specs.Calls.{coin_words, opens, packs, costliest_calls}
use Rattle.costliest.proofs.laws.Bytes.{encode_low}
use Rattle.costliest_calls.specs.Numbered.{call_at, opening_numbers, setting_at}
use Rattle.costliest_calls.specs.Answers.{call_number, call_bytes}
use Rattle.costliest_calls.specs.laws.Sections.{Few, engine_call, Small, call_of}
use Rattle.costliest_calls.specs.laws.Numbering.{call_at_lem}
use Rattle.costliest_calls.specs.laws.Small.{call_small}
use Rattle.costliest_calls.specs.declared.Call.{Call}
use Rattle.costliest_calls.specs.declared.Call.TheVariants.{Delivery}

-- ---- `write_call`

besides_count : (m : Message) → besides m ≤ count_of m
besides_count (Send i v) = omega arith
besides_count (Echo i v) = omega arith
besides_count (Ready i v) = omega arith
besides_count (Est i r v) = omega arith
besides_count (Aux i r v) = omega arith
besides_count (Commit k) = omega arith
besides_count (Finish i v) = omega arith

module _ (c : Call) (link : ℕ) (m : Message) (e : c ≡ Delivery link m) (few : Small c)
    (out : List ℕ) (room : 140 ≤ length out) (r : ℕ) (after : List ℕ) (w : Wrote (written m FIRST_VERSION link 7 (1 ∷ 2 ∷ 3 ∷ 4 ∷ 5 ∷ 6 ∷ 7 ∷ 8 ∷ 9 ∷ 10 ∷ 11 ∷ 12 ∷ 13 ∷ 14 ∷ 15 ∷ 16 ∷ []) out) out r after) where
  is_small : (link ≤ 32) × (instance_of m ≤ 32) × (round_of m ≤ 32) × (count_of m ≤ 16)
  unfolding Small
  is_small = rw e at few

  -- 140 bytes at most
  few_bytes : length_of m ≤ 140
  few_bytes = omega (arith, is_small.3)

  enough : besides m ≤ length packs
  unfolding packs
  enough = omega (arith, besides_count m, is_small.3)

  is_wrote : Wrote (written m FIRST_VERSION link 7 packs out) out r after
  unfolding packs
  is_wrote = w

  whole : written m FIRST_VERSION link 7 packs out ≡ encode m FIRST_VERSION link 7 packs
  whole = written_whole m FIRST_VERSION link 7 packs out enough (omega (arith, few_bytes))

  size_few : r ≤ 140
  size_few = omega (arith, is_wrote.answer ∙ ap length whole, length_encode m FIRST_VERSION link 7 packs enough, few_bytes)

  pub size_fits : Fits w64 (65536 * r)
  size_fits = record { fits = omega (arith, size_few) }

  pub sized_fits : Fits w64 (256 + 65536 * r)
  sized_fits = record { fits = omega (arith, size_few) }

  pub linked_fits : (l : ℕ) → l ≡ link → link < 256 → Fits w64 (256 + 65536 * r + 4294967296 * l)
  linked_fits l f h = record { fits = omega (arith, size_few) }

  -- the bytes as they are delivered
  bytes_are : written m FIRST_VERSION link 7 packs out ≡ low_bytes (encode m FIRST_VERSION link 7 packs)
  bytes_are =
      whole ∙ sym (encode_low m FIRST_VERSION link 7 packs (omega arith) (omega (arith, is_small.0)) (omega (arith, is_small.1)) (omega (arith, is_small.2)) (omega (arith, is_small.3)))

  size_is : r ≡ length (low_bytes (encode m FIRST_VERSION link 7 packs))
  size_is = is_wrote.answer ∙ ap length bytes_are

  pub delivery_number : (l : ℕ) → l ≡ link → 256 + 65536 * r + 4294967296 * l ≡ call_number (Some (engine_call c))
  unfolding call_number engine_call bytes_of
  delivery_number l f = rw (f, e, ← size_is)

  pub delivery_bytes : after ≡ call_bytes (Some (engine_call c)) out
  unfolding call_bytes engine_call bytes_of
  delivery_bytes = is_wrote.bytes ∙ ap (λ (b : List ℕ). at_front b out) bytes_are ∙ rw e

pub ruleset write_cases = (size_fits, sized_fits, linked_fits, delivery_number, delivery_bytes)

-- ---- `pack_costliest_call`

module _ (n k : ℕ) (few : Few n) where
  pub none_at : call_of n k ≡ None → call_at (costliest_calls n) k ≡ None
  none_at e = sym (call_at_lem n k) ∙ ap (option_map engine_call) e

  module _ (c : Call) (e : call_of n k ≡ Some c) where
    pub some_at : call_at (costliest_calls n) k ≡ Some (engine_call c)
    some_at = sym (call_at_lem n k) ∙ ap (option_map engine_call) e

    pub some_small : Small c
    some_small = rw e at (call_small n few k)

pub ruleset pack_cases = (none_at, some_at, some_small)

-- ---- `pack_costliest_setting`

coins_zero : (n i : ℕ) → get_or (coin_words n) i 0 ≡ 0
unfolding coin_words
coins_zero zero i = refl
coins_zero (suc n) zero = refl
coins_zero (suc n) (suc i) = coins_zero n i

module _ (n k : ℕ) where
  -- ta, ts and the coin words
  pub setting_zero : (k ≡ 1 → ⊥) → (k ≡ 4 → ⊥) → (k ≡ 5 → ⊥) → (k ≡ 6 → ⊥) → 0 ≡ setting_at (opens n) k
  unfolding setting_at opening_numbers opens
  setting_zero a b c d = at (dec_le 7 k) (ℕ_discrete k 0) (ℕ_discrete k 2)
    where
      at : Dec (7 ≤ k) → Dec (k ≡ 0) → Dec (k ≡ 2) → 0 ≡ setting_at (opens n) k
      at (yes l) x y =
          let e : k - 1 ≡ suc (suc (suc (suc (suc (suc (k - 7)))))) = omega arith in
          rw (ne_eqb k 0 (λ z. omega arith), e) (sym (coins_zero n (k - 7)))
      at (no l) (yes x) y = rw x
      at (no l) (no x) (yes y) = rw y
      at (no l) (no x) (no y) = let e : k ≡ 3 = omega arith in rw e
