-- The digits that the `io` library gives are the text of the definition.
use Rattle.std.specs.Prelude.{ℕ, zero, suc, ◌+◌, ◌*◌, ◌-◌, ◌/◌, ◌%◌, ◌^◌, ◌≤◌, ◌<◌, Bool, true, false, ◌≡◌, leb, min, max, length, get_or, take, set}
use mathlib.Core.List.{List, [], ◌∷◌, ◌++◌}
use Rattle.std.proofs.Common.{sym, ◌∙◌, arith, le-div_iff_mul-le, div-lt_iff_lt-mul, mod-eq_of_lt, mod-lt, pow-suc, length-set, Fits}
use Rattle.std.proofs.Math.Path.{ap, subst}
use Rattle.std.proofs.Math.Decide.{dec_le}
use Rattle.std.proofs.Math.Nat.{one-le-pow, pow-le-pow_right}
use borrow.Author.Tests.{lt-ltb, le-ltb, le-leb, lt-leb, leb-true}
use Rattle.std.specs.Int.{w64}
use Rattle.io.specs.Digits.{last_digits, hex_digit_ascii, IsDigitCount}
use Rattle.text.specs.Numbers.{decimal_in, decimal_text, byte_text}
use Rattle.text.specs.Paste.{Wrote}
use Rattle.text.specs.laws.Paste.{wrote_both, wrote_within}
use Rattle.text.specs.Fields.{each_text}
use Rattle.text.specs.laws.Each.{Each, each_start, each_next, each_done, each_length}

less_one : (j : ℕ) → suc j - 1 ≡ j
less_one j = omega arith

-- a digit below 10
figure : (n : ℕ) → n < 10 → hex_digit_ascii n ≡ 48 + n
figure n h = rw (lt-ltb n 10 h)

tenth_below : (n f : ℕ) → n < 10 ^ suc f → n / 10 < 10 ^ f
tenth_below n f h = (div-lt_iff_lt-mul {k = 10} (omega arith)).1 (rw (pow-suc 10 f) at h)

tenth_least : (n f : ℕ) → 10 ^ suc f ≤ n → 10 ^ f ≤ n / 10
tenth_least n f h = (le-div_iff_mul-le {k = 10} (omega arith)).1 (rw (pow-suc 10 f) at h)

decimal_digits : (f k n : ℕ) → n < 10 ^ suc f → IsDigitCount 10 1 n k → last_digits 10 k n ≡ decimal_in (suc f) n
unfolding decimal_in
decimal_digits f zero n h w = absurd (omega (arith, w.0))
decimal_digits f (suc zero) n h w =
    let l : n < 10 = omega (arith, w.1) in
    rw (lt-ltb n 10 l, mod-eq_of_lt l, lt-ltb n 10 l)
decimal_digits zero (suc (suc j)) n h w =
    let p : 10 ^ suc j ≤ n = rw (less_one (suc j)) at (w.2 (omega arith)) in
    absurd (omega (arith, pow-suc 10 j, one-le-pow j 10 (omega arith)))
decimal_digits (suc f) (suc (suc j)) n h w =
    let p : 10 ^ suc j ≤ n = rw (less_one (suc j)) at (w.2 (omega arith)) in
    let big : 10 ≤ n = omega (arith, pow-suc 10 j, one-le-pow j 10 (omega arith)) in
    let few : IsDigitCount 10 1 (n / 10) (suc j) = (omega arith, tenth_below n (suc j) w.1, λ q. rw (less_one j) (tenth_least n j p)) in
    rw (le-ltb n 10 big, figure (n % 10) (mod-lt n (omega arith)))
    (ap (λ (t : List ℕ). t ++ ((48 + n % 10) ∷ []))
    (decimal_digits f (suc j) (n / 10) (tenth_below n (suc f) h) few))

pub decimal_text_lem : (n k : ℕ) → n < 2 ^ 64 → IsDigitCount 10 1 n k → last_digits 10 k n ≡ decimal_text n
unfolding decimal_text
decimal_text_lem n k h w = decimal_digits 19 k n (omega arith) w

-- a number that so many digits hold has exactly so many
exactly : (least n k : ℕ) → n < 16 ^ least → IsDigitCount 16 least n k → k ≡ least
exactly least n k h w = go (dec_le k least)
  where
    go : Dec (k ≤ least) → k ≡ least
    go (yes l) = omega (arith, w.0)
    go (no l) =
        let p : 16 ^ (k - 1) ≤ n = w.2 (omega arith) in
        let q : 16 ^ least ≤ 16 ^ (k - 1) = pow-le-pow_right {n = 16} (omega arith) {i = least} {j = k - 1} (omega arith) in
        absurd (omega arith)

module _ (n k : ℕ) (t s after : List ℕ) (a r : ℕ) (h : n < 2 ^ 64) (w : Wrote (take k t) s a r after) where
  pub wrote_decimal : IsDigitCount 10 1 n k → take k t ≡ last_digits 10 k n → Wrote (decimal_text n) s a r after
  wrote_decimal f e = subst (λ (u : List ℕ). Wrote u s a r after) (e ∙ decimal_text_lem n k h f) w

pub wrote_width : (n k width : ℕ) (t s after : List ℕ) (a r : ℕ) → 0 < width → width ≤ 16 → n < 16 ^ width → Wrote (take k t) s a r after →
    IsDigitCount 16 (min (max width 1) 16) n k → take k t ≡ last_digits 16 k n → Wrote (last_digits 16 width n) s a r after
wrote_width n k width t s after a r p q h w f e =
    let m : min (max width 1) 16 ≡ width = omega arith in
    subst (λ (u : List ℕ). Wrote u s a r after) (e ∙ ap (λ (d : ℕ). last_digits 16 d n) (exactly width n k h (rw m at f))) w

-- two digits are a byte's text
pub wrote_byte : (b c d a r q : ℕ) (s s' s'' : List ℕ) → c ≡ hex_digit_ascii (b / 16) → d ≡ hex_digit_ascii (b % 16) →
    Wrote (c ∷ []) s a r s' → Wrote (d ∷ []) s' r q s'' → Wrote (byte_text b) s a q s''
unfolding byte_text
wrote_byte b c d a r q s s' s'' e f h l =
    wrote_both (hex_digit_ascii (b / 16) ∷ []) (hex_digit_ascii (b % 16) ∷ []) s s' s'' a r q
    (subst (λ (x : ℕ). Wrote (x ∷ []) s a r s') e h) (subst (λ (x : ℕ). Wrote (x ∷ []) s' r q s'') f l)

-- where there is room for both
pub wrote_byte_within : (b c d a : ℕ) (s : List ℕ) → c ≡ hex_digit_ascii (b / 16) → d ≡ hex_digit_ascii (b % 16) → a + 1 < length s → Wrote (byte_text b) s a (a + 2) (set (set s a c) (a + 1) d)
wrote_byte_within b c d a s e f h =
    let l : a + 1 < length (set s a c) = rw length-set h in
    let n : a + 1 + 1 ≡ a + 2 = omega arith in
    wrote_byte b c d a (a + 1) (a + 2) s (set s a c) (set (set s a c) (a + 1) d) e f (wrote_within c a s (omega arith)) (rw n at (wrote_within d (a + 1) (set s a c) l))

-- a loop that has written the first k bytes, for all of which there is room
pub record Within (bs s : List ℕ) (a k : ℕ) (after : List ℕ) : Type 0 where
  pub room : a + 2 * length bs ≤ length s
  pub each : Each byte_text bs s a k (a + 2 * k) after

pub within_start : (bs s : List ℕ) (a : ℕ) → a + 2 * length bs ≤ length s → Within bs s a 0 s
within_start bs s a h = let e : a + 2 * 0 ≡ a = omega arith in record { room = h; each = rw e (each_start byte_text bs s a) }

pub within_next : (bs s s' s'' : List ℕ) (a k : ℕ) → Within bs s a k s' → k < length bs → Wrote (byte_text (get_or bs k 0)) s' (a + 2 * k) (a + 2 * k + 2) s'' → Within bs s a (k + 1) s''
within_next bs s s' s'' a k h l w =
    let e : a + 2 * k + 2 ≡ a + 2 * (k + 1) = omega arith in
    record { room = h.room; each = rw e at (each_next byte_text bs s s' s'' a k (a + 2 * k) (a + 2 * k + 2) h.each l w) }

pub within_done : (bs s after : List ℕ) (a k : ℕ) → Within bs s a k after → length bs ≤ k → Wrote (each_text byte_text bs) s a (a + 2 * length bs) after
within_done bs s after a k h l =
    let e : k ≡ length bs = omega (arith, h.each.within) in
    rw e at (each_done byte_text bs s after a k (a + 2 * k) h.each l)

pub within_length : (bs s after : List ℕ) (a k : ℕ) → Within bs s a k after → length after ≡ length s
within_length bs s after a k h = each_length byte_text bs s after a k (a + 2 * k) h.each

pub within_room : (bs s after : List ℕ) (a k : ℕ) → Within bs s a k after → k < length bs → a + 2 * k + 1 < length after
within_room bs s after a k h l = omega (arith, h.room, within_length bs s after a k h)

pub ruleset within = (within_start, within_next, within_done, within_length, within_room)

-- numbers of one and two digits
module _ (n : ℕ) (s s' s'' : List ℕ) (a r q : ℕ) where
  pub wrote_one : n < 10 → Wrote ((48 + n) ∷ []) s a r s' → Wrote (decimal_text n) s a r s'
  unfolding decimal_text decimal_in
  wrote_one h w = rw (lt-ltb n 10 h) w

  pub wrote_two : 10 ≤ n → n < 100 → Wrote ((48 + n / 10) ∷ []) s a r s' → Wrote ((48 + n % 10) ∷ []) s' r q s'' → Wrote (decimal_text n) s a q s''
  unfolding decimal_text decimal_in
  wrote_two l h w v = rw (le-ltb n 10 l, lt-ltb (n / 10) 10 (omega arith)) (wrote_both ((48 + n / 10) ∷ []) ((48 + n % 10) ∷ []) s s' s'' a r q w v)

pub ruleset small_cases = (wrote_one, wrote_two)

-- the test of the code, which nothing can wrap
pub fits_past : (room a k : ℕ) → room < a → false ≡ leb (a + 2 * k) room
fits_past room a k h = rw (lt-leb (a + 2 * k) room (omega arith))

pub fits_half : (room a k : ℕ) → a ≤ room → leb k ((room - a) / 2) ≡ leb (a + 2 * k) room
fits_half room a k h =
    elim (dec_le k ((room - a) / 2)) [
      | yes q ↦ rw (le-leb _ _ q, le-leb (a + 2 * k) room (omega arith))
      | no q ↦ rw (lt-leb k ((room - a) / 2) (omega arith), lt-leb (a + 2 * k) room (omega arith))
    ]

pub ruleset room_cases = (fits_past, fits_half)

module _ (b : Bool) (a k room : ℕ) (e : b ≡ leb (a + 2 * k) room) (t : b ≡ true) where
  pub room_there : a + 2 * k ≤ room
  room_there = leb-true (a + 2 * k) room (sym e ∙ t)

  pub place_fits : Fits w64 room → Fits w64 (a + 2 * k)
  place_fits h = record { fits = omega (arith, room_there, h.fits) }

pub ruleset room_given = (room_there, place_fits)
