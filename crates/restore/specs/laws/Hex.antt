-- A field of hexadecimal digits that is read as bytes.
use Prim.Native.Nat.{ℕ, suc, ◌+◌, ◌*◌, ◌≤◌, ◌<◌}
use Rattle.std.specs.Prelude.{Bool, true, false, cond, ◌&&◌, ◌≡◌, refl, leb, ltb, set, Option, Some, None}
use mathlib.Core.List.{List, [], ◌∷◌, ◌++◌, append-nil, append_assoc}
use Rattle.std.proofs.Common.{sym, ◌∙◌, arith, length-append}
use Rattle.std.proofs.Math.Path.{ap}
use Rattle.std.proofs.Math.Numerals.{add-one}
use Rattle.std.proofs.Math.ListN.{length, get_or, take, drop, length-set, drop_of_length-le}
use Rattle.std.proofs.Math.Seq.{drop-cons, take-suc-set, length-take-le}
use borrow.Author.Tests.{lt-ltb, le-ltb, le-leb, lt-leb, ltb-true}
use Rattle.text.specs.Numbers.{digit_of}
use Rattle.restore.specs.laws.Truth.{and_none}
use Rattle.restore.specs.Reading.{hex_right, bytes_of}

-- the byte of two digits, and 256 where one is none
unfoldable pub byte_of : ℕ → ℕ → ℕ
byte_of a b = cond (ltb (digit_of a) 16) (cond (ltb (digit_of b) 16) (digit_of a * 16 + digit_of b) 256) 256

-- the number of bytes of a field, where it is right and there is room for them
unfoldable pub hex_of : List ℕ → ℕ → Option ℕ
hex_of f room = cond (hex_right f && leb (length (bytes_of f)) room) (Some (length (bytes_of f))) None

-- the field f was read into lent bytes that are now after
pub record HexRead (f : List ℕ) (room : ℕ) (r : Option ℕ) (after : List ℕ) : Type 0 where
  pub size : length after ≡ room
  pub answer : r ≡ hex_of f room
  pub bytes : (n : ℕ) → r ≡ Some n → take n after ≡ bytes_of f

-- two digits that are a byte
record Byte (a b x : ℕ) : Type 0 where
  first : ltb (digit_of a) 16 ≡ true
  second : ltb (digit_of b) 16 ≡ true
  value : x ≡ digit_of a * 16 + digit_of b

a_byte : (a b x : ℕ) → x ≡ byte_of a b → x ≤ 255 → Byte a b x
unfolding byte_of
a_byte a b x p n = go (ltb (digit_of a) 16) (ltb (digit_of b) 16) refl refl p
  where
    go : (s t : Bool) → ltb (digit_of a) 16 ≡ s → ltb (digit_of b) 16 ≡ t → x ≡ cond s (cond t (digit_of a * 16 + digit_of b) 256) 256 → Byte a b x
    go true true u v e = record { first = u; second = v; value = e }
    go true false u v e = absurd (omega arith)
    go false t u v e = absurd (omega arith)

no_byte : (a b : ℕ) (f : List ℕ) → 255 < byte_of a b → hex_right (a ∷ b ∷ f) ≡ false
unfolding byte_of hex_right
no_byte a b f n = go (ltb (digit_of a) 16) (ltb (digit_of b) 16) refl refl n
  where
    go : (s t : Bool) → ltb (digit_of a) 16 ≡ s → ltb (digit_of b) 16 ≡ t → 255 < cond s (cond t (digit_of a * 16 + digit_of b) 256) 256 → s && (t && hex_right f) ≡ false
    go true true u v e = absurd (omega (arith, ltb-true (digit_of a) 16 u, ltb-true (digit_of b) 16 v))
    go true false u v e = refl
    go false t u v e = refl

-- the cases of two digits
module _ (a b d : ℕ) (p : d ≡ digit_of a) where
  pub byte_first : 16 ≤ d → 256 ≡ byte_of a b
  unfolding byte_of
  byte_first n = rw (← p, le-ltb d 16 n)

  module _ (m : d < 16) (e : ℕ) (q : e ≡ digit_of b) where
    pub byte_second : 16 ≤ e → 256 ≡ byte_of a b
    unfolding byte_of
    byte_second n = rw (← p, ← q, lt-ltb d 16 m, le-ltb e 16 n)

    pub byte_both : e < 16 → 16 * d + e ≡ byte_of a b
    unfolding byte_of
    byte_both n = rw (← p, ← q, lt-ltb d 16 m, lt-ltb e 16 n) (omega arith)

pub ruleset byte_cases = (byte_first, byte_second, byte_both)

wrong_read : (f after : List ℕ) (room : ℕ) → length after ≡ room → hex_right f && leb (length (bytes_of f)) room ≡ false → HexRead f room None after
unfolding hex_of
wrong_read f after room s e = record { size = s; answer = rw e; bytes = λ n z. absurd (let y : ◌≡◌ {A = ℕ} 0 1 = cc in omega arith) }

-- a loop that has read the first k bytes
pub record Hexing (f out : List ℕ) (room k : ℕ) : Type 0 where
  pub within : 2 * k ≤ length f
  pub size : length out ≡ room
  pub fits : k ≤ room
  pub right : hex_right f ≡ hex_right (drop (2 * k) f)
  pub bytes : bytes_of f ≡ take k out ++ bytes_of (drop (2 * k) f)

pub hexing_start : (f out : List ℕ) → Hexing f out (length out) 0
hexing_start f out = record { within = omega arith; size = refl; fits = omega arith; right = refl; bytes = refl }

module _ (f out : List ℕ) (room k : ℕ) (h : Hexing f out room k) where
  long : length (bytes_of f) ≡ k + length (bytes_of (drop (2 * k) f))
  long = ap length h.bytes ∙ length-append (take k out) (bytes_of (drop (2 * k) f)) ∙ ap (λ (m : ℕ). m + length (bytes_of (drop (2 * k) f))) (length-take-le k out (omega (arith, h.size, h.fits)))

  module _ (l : 2 * k + 1 < length f) where
    pair : drop (2 * k) f ≡ get_or f (2 * k) 0 ∷ get_or f (2 * k + 1) 0 ∷ drop (2 * (k + 1)) f
    pair =
        let first : 2 * k < length f = omega arith in
        let second : suc (2 * k) ≡ 2 * k + 1 = omega arith in
        let third : suc (2 * k + 1) ≡ 2 * (k + 1) = omega arith in
        drop-cons f (2 * k) 0 first
        ∙ ap (λ (m : ℕ). get_or f (2 * k) 0 ∷ drop m f) second
        ∙ ap (λ (t : List ℕ). get_or f (2 * k) 0 ∷ t) (drop-cons f (2 * k + 1) 0 l ∙ ap (λ (m : ℕ). get_or f (2 * k + 1) 0 ∷ drop m f) third)

    pub hexing_long : length out ≤ k → HexRead f room None out
    unfolding bytes_of
    hexing_long r =
        let more : length (bytes_of (drop (2 * k) f)) ≡ suc (length (bytes_of (drop (2 * (k + 1)) f))) = ap (λ (g : List ℕ). length (bytes_of g)) pair in
        wrong_read f out room h.size (rw (lt-leb (length (bytes_of f)) room (omega (arith, long, h.size))) (and_none (hex_right f)))

    module _ (x : ℕ) (p : x ≡ byte_of (get_or f (2 * k) 0) (get_or f (2 * k + 1) 0)) where
      pub hexing_wrong : 255 < x → HexRead f room None out
      hexing_wrong n = wrong_read f out room h.size (rw (h.right ∙ ap hex_right pair ∙ no_byte (get_or f (2 * k) 0) (get_or f (2 * k + 1) 0) (drop (2 * (k + 1)) f) (rw p at n)))

      pub hexing_next : x ≤ 255 → k < length out → Hexing f (set out k x) room (k + 1)
      unfolding hex_right bytes_of
      hexing_next n r =
          let b : Byte (get_or f (2 * k) 0) (get_or f (2 * k + 1) 0) x = a_byte (get_or f (2 * k) 0) (get_or f (2 * k + 1) 0) x p n in
          record {
            within = omega arith;
            size = length-set out k x ∙ h.size;
            fits = omega (arith, h.size);
            right = h.right ∙ ap hex_right pair ∙ rw (b.first, b.second);
            bytes = h.bytes ∙ ap (λ (g : List ℕ). take k out ++ bytes_of g) pair ∙ rw (← b.value, add-one k, take-suc-set out k x r) (sym (append_assoc (take k out) (x ∷ []) _));
          }

  pub hexing_odd : length f ≤ 2 * k + 1 → 2 * k < length f → HexRead f room None out
  unfolding hex_right
  hexing_odd l n =
      let last : drop (2 * k) f ≡ get_or f (2 * k) 0 ∷ [] = drop-cons f (2 * k) 0 n ∙ ap (λ (g : List ℕ). get_or f (2 * k) 0 ∷ g) (drop_of_length-le f {i = suc (2 * k)} (omega arith)) in
      wrong_read f out room h.size (rw (h.right ∙ ap hex_right last))

  pub hexing_done : length f ≤ 2 * k → HexRead f room (Some k) out
  unfolding hex_of hex_right bytes_of
  hexing_done l =
      let none : drop (2 * k) f ≡ [] = drop_of_length-le f l in
      let all : bytes_of f ≡ take k out = h.bytes ∙ ap (λ (g : List ℕ). take k out ++ bytes_of g) none ∙ append-nil (take k out) in
      let size : length (bytes_of f) ≡ k = ap length all ∙ length-take-le k out (omega (arith, h.size, h.fits)) in
      record {
        size = h.size;
        answer = rw (h.right ∙ ap hex_right none, size, le-leb k room h.fits);
        bytes = λ n e. let s : k ≡ n = cc in rw (← s) (sym all);
      }

pub ruleset hexing = (hexing_start, hexing_wrong, hexing_long, hexing_next, hexing_odd, hexing_done)
