-- What a loop keeps that collects marks: `m = 0; for k in (0..n).rev() { m = 2 * m + u64::from(test(k + 1)); }`, from an n of at most 64.
use Rattle.std.specs.Prelude.{ℕ, suc, ◌+◌, ◌-◌, ◌*◌, ◌/◌, ◌%◌, ◌^◌, min, ◌<◌, ◌≤◌, Bool, true, false, ◌&&◌, not, ◌≡◌, refl, eqb}
use Rattle.std.proofs.Common.{sym, ap, ◌∙◌, arith, lt_of_lt_of_le, pow-suc, pow_pos, pow_mono, shr-shr}
use Rattle.std.proofs.Math.Decide.{dec_le}
use Rattle.std.proofs.Math.Nat.{div-eq_of_lt}
use Rattle.std.specs.Int.Bits.{bit_and}
use mir.Val.{Fits, bool_byte}
use Rattle.std.specs.Int.{w64}
use Rattle.quorum.specs.Marks.{mark}
use Rattle.quorum.specs.laws.Marks.{mark_digit}
use Rattle.quorum.specs.laws.MarkMasks.{mark_and, mark_not}
use Rattle.quorum.specs.Total.{share}
use Rattle.quorum.specs.laws.Total.{total_shares}
use Rattle.quorum.specs.Weights.{weight_of, weigh}
use Rattle.quorum.specs.laws.Weights.{weight_above}
use Rattle.quorum.specs.Marking.{MarksOf}

-- m has the marks of k + 1 to n, each k places down
pub record Marking (M : ℕ → Bool) (n k m : ℕ) : Type 0 where
  pub within : k ≤ n
  pub few : n ≤ 64
  pub small : m < 2 ^ (n - k)
  pub each : (p : ℕ) → 1 ≤ p → p ≤ n - k → mark m p ≡ M (k + p)

byte_le : (b : Bool) → bool_byte b ≤ 1
byte_le true = omega arith
byte_le false = omega arith

byte_digit : (b : Bool) → eqb (bool_byte b) 1 ≡ b
byte_digit true = refl
byte_digit false = refl

first_mark : (m : ℕ) (b : Bool) → mark (2 * m + bool_byte b) 1 ≡ b
first_mark m b =
    let e : (2 * m + bool_byte b) / 2 ^ (1 - 1) % 2 ≡ bool_byte b = omega (arith, byte_le b) in
    mark_digit (2 * m + bool_byte b) 1 (omega arith) ∙ ap (λ (d : ℕ). eqb d 1) e ∙ byte_digit b

next_mark : (m p : ℕ) (b : Bool) → 1 ≤ p → mark (2 * m + bool_byte b) (p + 1) ≡ mark m p
next_mark m p b lo =
    let s : p + 1 - 1 ≡ 1 + (p - 1) = omega arith in
    let half : (2 * m + bool_byte b) / 2 ^ 1 ≡ m = omega (arith, byte_le b) in
    mark_digit (2 * m + bool_byte b) (p + 1) (omega arith)
    ∙ rw (s, ← shr-shr (2 * m + bool_byte b) 1 (p - 1), half) (sym (mark_digit m p lo))

-- a word below 2 ^ n has no mark above n
pub mark_none : (m n p : ℕ) → m < 2 ^ n → n < p → mark m p ≡ false
mark_none m n p h l =
    let k : n ≤ p - 1 = omega arith in
    mark_digit m p (omega arith) ∙ rw (div-eq_of_lt (lt_of_lt_of_le h (pow_mono k)))

pub marking_start : (M : ℕ → Bool) (n : ℕ) → n ≤ 64 → Marking M n n 0
marking_start M n h =
    record {
      within = omega arith;
      few = h;
      small = pow_pos (n - n);
      each = λ p a b. absurd (omega arith);
    }

module _ (M : ℕ → Bool) (n k m : ℕ) (b : Bool) (i : Marking M n k m) (l : 0 < k) where
  longer : 2 ^ (n - (k - 1)) ≡ 2 * 2 ^ (n - k)
  longer =
      let e : n - (k - 1) ≡ suc (n - k) = omega (arith, i.within) in
      rw (e, pow-suc 2 (n - k)) (omega arith)

  grown : 2 * m + bool_byte b < 2 ^ (n - (k - 1))
  grown = omega (arith, longer, i.small, byte_le b)

  pub marking_next : b ≡ M k → Marking M n (k - 1) (2 * m + bool_byte b)
  marking_next e =
      record {
        within = omega (arith, i.within);
        few = i.few;
        small = grown;
        each = λ p lo hi. go p lo hi (dec_le p 1);
      }
    where
      go : (p : ℕ) → 1 ≤ p → p ≤ n - (k - 1) → Dec (p ≤ 1) → mark (2 * m + bool_byte b) p ≡ M (k - 1 + p)
      go p lo hi (yes h) =
          let s : p ≡ 1 = omega arith in
          let t : k - 1 + 1 ≡ k = omega arith in
          rw (s, t) (first_mark m b ∙ e)
      go p lo hi (no h) =
          let s : p - 1 + 1 ≡ p = omega arith in
          let t : k + (p - 1) ≡ k - 1 + p = omega arith in
          ap (mark (2 * m + bool_byte b)) (sym s) ∙ next_mark m (p - 1) b (omega arith) ∙ i.each (p - 1) (omega arith) (omega arith) ∙ ap M t

  bound : 2 * m + bool_byte b < 2 ^ 64
  bound = let up : n - (k - 1) ≤ 64 = omega (arith, i.few) in lt_of_lt_of_le grown (pow_mono up)

  pub marking_fits : Fits w64 (2 * m + bool_byte b)
  marking_fits = record { fits = bound }

pub marking_doubles : (M : ℕ → Bool) (n k m : ℕ) → Marking M n k m → 0 < k → Fits w64 (2 * m)
marking_doubles M n k m i l = omega (arith, bound M n k m false i l)

pub marking_done : (M : ℕ → Bool) (n t k m : ℕ) → Marking M t k m → k ≤ 0 → t ≡ min n 64 → MarksOf M n m
marking_done M n t k m i h e =
    let z : k ≡ 0 = omega arith in
    record {
      each = λ p lo hi few. i.each p lo (omega (arith, e)) ∙ ap (λ (x : ℕ). M (x + p)) z ∙ ap M (omega arith);
      none = λ p l. mark_none m (t - k) p i.small (omega (arith, e));
    }

pub marking_all : (M : ℕ → Bool) (n k m : ℕ) → Marking M n k m → k ≤ 0 → MarksOf M n m
marking_all M n k m i h = marking_done M n n k m i h (omega (arith, i.few))

-- words whose marks agree with M weigh what M weighs
word_weighed : (M : ℕ → Bool) (n m w : ℕ) → ((p : ℕ) → 1 ≤ p → p ≤ n → p ≤ 64 → mark m p ≡ M p) → w < 2 ^ 64 → weigh w (λ p. mark m (0 + p)) n ≡ weigh w M n
word_weighed M n m w each h = total_shares (weight_of w) (λ p. mark m (0 + p)) M n (λ p lo hi. at p lo hi (dec_le p 64))
  where
    nothing : (a b : Bool) (x : ℕ) → x ≡ 0 → share a x ≡ share b x
    nothing true true x e = refl
    nothing true false x e = e
    nothing false true x e = sym e
    nothing false false x e = refl

    at : (p : ℕ) → 1 ≤ p → p ≤ n → Dec (p ≤ 64) → share (mark m (0 + p)) (weight_of w p) ≡ share (M p) (weight_of w p)
    at p lo hi (yes few) = let z : 0 + p ≡ p = omega arith in rw (z, each p lo hi few)
    at p lo hi (no many) = nothing (mark m (0 + p)) (M p) (weight_of w p) (sym (weight_above w p lo (omega arith)))

pub marks_weighed : (M : ℕ → Bool) (n m w : ℕ) → MarksOf M n m → w < 2 ^ 64 → weigh w (λ p. mark m (0 + p)) n ≡ weigh w M n
marks_weighed M n m w x h = word_weighed M n m w x.each h

-- those that are not in M
pub others_weighed : (M : ℕ → Bool) (n m w : ℕ) → MarksOf M n m → m < 2 ^ 64 → w < 2 ^ 64 → weigh w (λ p. mark (2 ^ 64 - 1 - m) (0 + p)) n ≡ weigh w (λ p. not (M p)) n
others_weighed M n m w x f h =
    word_weighed (λ p. not (M p)) n (2 ^ 64 - 1 - m) w (λ p lo hi few. mark_not m p f lo few ∙ ap not (x.each p lo hi few)) h

-- the marks that another word has too
pub marks_both : (M : ℕ → Bool) (n m x : ℕ) → MarksOf M n m → MarksOf (λ p. M p && mark x p) n (bit_and m x)
marks_both M n m x i =
    record {
      each = λ p lo hi few. mark_and m x p ∙ ap (λ (b : Bool). b && mark x p) (i.each p lo hi few);
      none = λ p l. mark_and m x p ∙ ap (λ (b : Bool). b && mark x p) (i.none p l);
    }

pub marks_agree : (M K : ℕ → Bool) (n m : ℕ) → MarksOf M n m → ((p : ℕ) → 1 ≤ p → p ≤ n → M p ≡ K p) → MarksOf K n m
marks_agree M K n m i h = record { each = λ p lo hi few. i.each p lo hi few ∙ h p lo hi; none = i.none }

pub marking_weighed : (M : ℕ → Bool) (n t k m w c : ℕ) → Marking M t k m → k ≤ 0 → t ≡ min n 64 → w < 2 ^ 64 → c ≡ weigh w (λ p. mark m (0 + p)) n → c ≡ weigh w M n
marking_weighed M n t k m w c i l e h f = f ∙ marks_weighed M n m w (marking_done M n t k m i l e) h

pub end_few : (n t : ℕ) → t ≡ min n 64 → t ≤ 64
end_few n t e = omega arith

pub ruleset marking = (end_few, marking_start, marking_next, marking_fits, marking_doubles, marking_done, marking_all, marking_weighed)
