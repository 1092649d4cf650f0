-- The numbers of an opening line given to the opening.
use Rattle.std.specs.Prelude.{ℕ, zero, suc, ◌+◌, ◌*◌, ◌-◌, ◌^◌, ◌≤◌, ◌<◌, Bool, ◌&&◌, ◌||◌, List, [], ◌∷◌, ◌++◌, ◌≡◌, ltb, take, drop, set, replicate}
use Rattle.std.proofs.Math.Bool.{true, false}
use Rattle.std.proofs.Math.Path.{refl, sym}
use Rattle.std.proofs.Common.{ap, ◌∙◌, add-one, pow-suc, mul-le-mul_right, length-set, length-drop, take-add, take-take, drop_at, take-suc, take-suc-set, Fits}
use native.Mathlib.Omega.{arith}
use Rattle.std.proofs.Math.Dec.{eqb}
use Rattle.std.proofs.Math.ListN.{length, get_or}
use Rattle.std.proofs.Math.Seq.{length-take-le, get_or-take, get_or-drop}
use Rattle.std.specs.Int.{w32}
use borrow.Author.Tests.{eq-eqb, ne_eqb, eqb-true, ltb-true}
use Rattle.quorum.specs.laws.Bools.{and_left, and_right}
use Rattle.text.specs.Numbers.{digit_of, base_of, all_digits, value_from, value_of, complete, right}
use Rattle.opening.specs.Given.{item, weights_given}
use Rattle.opening.specs.laws.Given.{are_given}
use Rattle.records.specs.Words.{word}
use Rattle.restore.specs.laws.Truth.{no_truth}
use Rattle.restore.specs.Reading.{proper, weights_from, boxed_from}
use Rattle.restore.specs.laws.Forms.{form_at, proper_all, values_all, form_coin, count_right}

-- a word of eight hexadecimal digits has 32 bits
digits_below : (v : ℕ) (f : List ℕ) → all_digits 16 f ≡ true → value_from 16 v f < (v + 1) * 16 ^ length f
unfolding all_digits value_from
digits_below v [] h = omega arith
digits_below v (c ∷ f) h =
    let d : digit_of c < 16 = ltb-true (digit_of c) 16 (and_left (ltb (digit_of c) 16) (all_digits 16 f) h) in
    let tail : value_from 16 (v * 16 + digit_of c) f < (v * 16 + digit_of c + 1) * 16 ^ length f = digits_below (v * 16 + digit_of c) f (and_right (ltb (digit_of c) 16) (all_digits 16 f) h) in
    let up : (v * 16 + digit_of c + 1) * 16 ^ length f ≤ ((v + 1) * 16) * 16 ^ length f = mul-le-mul_right (16 ^ length f) (omega arith) in
    rw (pow-suc 16 (length f)) (omega arith)

word_below : (f : List ℕ) → proper 8 f ≡ true → value_of 8 f < 2 ^ 32
unfolding proper right complete base_of value_of
word_below f h =
    let r = and_left (eqb (length f) 8 && (all_digits 16 f && ltb (value_from 16 0 f) (2 ^ 64))) true h in
    let e : length f ≡ 8 = eqb-true _ _ (and_left (eqb (length f) 8) (all_digits 16 f && ltb (value_from 16 0 f) (2 ^ 64)) r) in
    let d : all_digits 16 f ≡ true = and_left (all_digits 16 f) (ltb (value_from 16 0 f) (2 ^ 64)) (and_right (eqb (length f) 8) (all_digits 16 f && ltb (value_from 16 0 f) (2 ^ 64)) r) in
    let b : value_from 16 0 f < (0 + 1) * 16 ^ 8 = rw e at (digits_below 0 f d) in
    omega arith

pub coins_below : (n k : ℕ) (fs : List (List ℕ)) → proper_all n k fs ≡ true → (j : ℕ) → 7 ≤ k + j → k + j < 7 + n → get_or (values_all n k fs) j 0 < 2 ^ 32
unfolding proper_all values_all
coins_below n k [] h j lo hi = omega arith
coins_below n k (f ∷ fs) h zero lo hi =
    let e : 8 ≡ form_at n k = form_coin n k (omega arith) (λ z. omega arith) (omega arith) in
    rw (← e) (word_below f (rw (← e) at (and_left (proper (form_at n k) f) (proper_all n (k + 1) fs) h)))
coins_below n k (f ∷ fs) h (suc j) lo hi = coins_below n (k + 1) fs (and_right (proper (form_at n k) f) (proper_all n (k + 1) fs) h) j (omega arith) (omega arith)

-- the coin words in an array of numbers have 32 bits
pub record CoinsFit (n : ℕ) (xs : List ℕ) : Type 0 where
  pub each : (j : ℕ) → j < n → get_or xs (7 + j) 0 < 2 ^ 32

pub coin_fits : (n j : ℕ) (xs : List ℕ) → CoinsFit n xs → j < n → Fits w32 (get_or xs (7 + j) 0)
coin_fits n j xs h l = record { fits = h.each j l }

-- a loop that has copied k of n numbers from a base on
pub record Copying (xs : List ℕ) (base n room k : ℕ) (to : List ℕ) : Type 0 where
  pub within : k ≤ n
  pub source : base + n ≤ length xs
  pub fits : n ≤ room
  pub size : length to ≡ room
  pub front : take k to ≡ take k (drop base xs)

pub copying_start : (xs : List ℕ) (base n : ℕ) (to : List ℕ) → base + n ≤ length xs → n ≤ length to → Copying xs base n (length to) 0 to
copying_start xs base n to s f = record { within = omega arith; source = s; fits = f; size = refl; front = refl }

pub copying_next : (xs : List ℕ) (base n room k : ℕ) (to : List ℕ) → Copying xs base n room k to → k < n → Copying xs base n room (k + 1) (set to k (get_or xs (base + k) 0))
copying_next xs base n room k to h l =
    let s : k < length (drop base xs) = rw length-drop (omega (arith, h.source)) in
    record {
      within = omega arith;
      source = h.source;
      fits = h.fits;
      size = length-set to k (get_or xs (base + k) 0) ∙ h.size;
      front = rw (add-one k, take-suc-set to k (get_or xs (base + k) 0) (omega (arith, h.size, h.fits)), take-suc (drop base xs) k 0 s, get_or-drop base xs k 0, h.front);
    }

copying_all : (xs : List ℕ) (base n room k : ℕ) (to : List ℕ) → Copying xs base n room k to → n ≤ k → take n to ≡ take n (drop base xs)
copying_all xs base n room k to h l = let e : k ≡ n = omega (arith, h.within) in rw (← e) h.front

-- n numbers were copied from a base on
pub record Copied (xs : List ℕ) (base n room : ℕ) (to : List ℕ) : Type 0 where
  pub size : length to ≡ room
  pub front : take n to ≡ take n (drop base xs)

pub copying_done : (xs : List ℕ) (base n room k : ℕ) (to : List ℕ) → Copying xs base n room k to → n ≤ k → Copied xs base n room to
copying_done xs base n room k to h l = record { size = h.size; front = copying_all xs base n room k to h l }

pub ruleset copying = (coin_fits, copying_start, copying_next, copying_done)

-- one of n numbers from a base on is no byte
pub record Heavy (xs : List ℕ) (base n : ℕ) : Type 0 where
  pub place : ℕ
  pub low : place < n
  pub heavy : 255 < get_or xs (base + place) 0

-- n numbers were copied as bytes, or one of them is none
pub record Weighed (xs : List ℕ) (base n room : ℕ) (r : Bool) (to : List ℕ) : Type 0 where
  pub size : length to ≡ room
  pub front : r ≡ true → take n to ≡ take n (drop base xs)
  pub wrong : r ≡ false → Heavy xs base n

pub weighing_heavy : (xs : List ℕ) (base n room k : ℕ) (to : List ℕ) → Copying xs base n room k to → k < n → 255 < get_or xs (base + k) 0 → Weighed xs base n room false to
weighing_heavy xs base n room k to h l m = record { size = h.size; front = λ e. no_truth (sym e); wrong = λ e. record { place = k; low = l; heavy = m } }

pub weighing_done : (xs : List ℕ) (base n room k : ℕ) (to : List ℕ) → Copying xs base n room k to → n ≤ k → Weighed xs base n room true to
weighing_done xs base n room k to h l = record { size = h.size; front = λ z. copying_all xs base n room k to h l; wrong = λ z. no_truth z }

pub ruleset weighing = (weighing_heavy, weighing_done, copying_start, copying_next)

-- the weights of an opening line were read: as they are given, or one is no byte
pub record WeightsRead (n : ℕ) (xs : List ℕ) (r : Bool) (to : List ℕ) : Type 0 where
  pub size : length to ≡ 16
  pub front : r ≡ true → take n to ≡ weights_from n xs
  pub wrong : r ≡ false → weights_given n (weights_from n xs) ≡ false

-- what the weights are read into: all 1 before, for a line without them
pub record WeightsAsked (n count : ℕ) (xs to : List ℕ) : Type 0 where
  pub few : n ≤ 16
  pub long : 7 + n + n ≤ length xs
  pub within : count ≤ length xs
  pub number : count_right n count ≡ true
  pub size : length to ≡ 16
  pub ones : to ≡ replicate 16 1

-- n numbers from a base on, among so many
pub part_front : (base n count : ℕ) (xs : List ℕ) → base + n ≤ count → base ≤ length xs → take n (drop base (take count xs)) ≡ take n (drop base xs)
part_front base n count xs h l =
    let c : count ≡ base + (count - base) = omega arith in
    let t : take count xs ≡ take base xs ++ take (count - base) (drop base xs) = ap (λ (m : ℕ). take m xs) c ∙ take-add base (count - base) xs in
    let d : drop base (take count xs) ≡ take (count - base) (drop base xs) = ap (drop base) t ∙ drop_at (take base xs) (take (count - base) (drop base xs)) base (length-take-le base xs l) in
    ap (take n) d ∙ take-take n (count - base) (drop base xs) (omega arith)

ones_front : (n m : ℕ) → n ≤ m → take {A = ℕ} n (replicate m 1) ≡ replicate n 1
ones_front zero m h = refl
ones_front (suc n) zero h = absurd (omega arith)
ones_front (suc n) (suc m) h = ap (λ (xs : List ℕ). 1 ∷ xs) (ones_front n m (omega arith))

module _ (n count : ℕ) (xs was : List ℕ) (asked : WeightsAsked n count xs was) where
  pub weights_absent : count ≡ 7 + n → WeightsRead n (take count xs) true was
  unfolding weights_from
  weights_absent e =
      let s : length (take count xs) ≡ 7 + n = length-take-le count xs (omega (arith, asked.long)) ∙ e in
      record { size = asked.size; front = λ z. rw (asked.ones, eq-eqb (length (take count xs)) (7 + n) s) (ones_front n 16 asked.few); wrong = λ z. no_truth z }

  module _ (r : Bool) (to : List ℕ) (e : count ≡ 7 + n → ⊥) (h : Weighed xs (7 + n) n (length was) r to) where
    both : 7 + n + n ≤ count
    unfolding count_right
    both = go (eqb count (7 + n + n)) refl (rw (ne_eqb count (7 + n) e) at asked.number)
      where
        go : (b : Bool) → eqb count (7 + n + n) ≡ b → b || eqb count (7 + n + n + 1) ≡ true → 7 + n + n ≤ count
        go true u v = omega (arith, eqb-true count (7 + n + n) u)
        go false u v = omega (arith, eqb-true count (7 + n + n + 1) v)

    given : weights_from n (take count xs) ≡ take n (drop (7 + n) xs)
    unfolding weights_from
    given =
        let s : length (take count xs) ≡ count = length-take-le count xs asked.within in
        rw (ne_eqb (length (take count xs)) (7 + n) (λ z. e (sym s ∙ z))) (part_front (7 + n) n count xs (omega (arith, both)) (omega (arith, asked.long)))

    pub weights_present : WeightsRead n (take count xs) r to
    unfolding item word
    weights_present = record { size = h.size ∙ asked.size; front = λ z. h.front z ∙ sym given; wrong = λ z. go (weights_given n (weights_from n (take count xs))) refl (h.wrong z) }
      where
        go : (b : Bool) → weights_given n (weights_from n (take count xs)) ≡ b → Heavy xs (7 + n) n → b ≡ false
        go false u v = refl
        go true u v =
            let a : item (weights_from n (take count xs)) (v.place + 1) ≤ 4 = (are_given n (weights_from n (take count xs)) u).high (v.place + 1) (omega arith) (omega (arith, v.low)) in
            let p : v.place + 1 - 1 ≡ v.place = omega arith in
            let q : get_or (take n (drop (7 + n) xs)) v.place 0 ≡ get_or xs (7 + n + v.place) 0 = get_or-take n (drop (7 + n) xs) v.place 0 v.low ∙ get_or-drop (7 + n) xs v.place 0 in
            let s : get_or (take n (drop (7 + n) xs)) v.place 0 ≤ 4 = rw (ne_eqb (v.place + 1) 0 (λ z. omega arith), p, given) at a in
            absurd (omega (arith, v.heavy))

pub ruleset weights_cases = (weights_absent, weights_present)

get_d_past : (xs : List ℕ) (k : ℕ) → length xs ≤ k → get_or xs k 0 ≡ 0
get_d_past [] k h = refl
get_d_past (x ∷ xs) zero h = absurd (omega arith)
get_d_past (x ∷ xs) (suc k) h = get_d_past xs k (omega arith)

-- whether coins are boxed, among so many numbers
module _ (n count : ℕ) (xs : List ℕ) where
  pub boxed_told : 7 + n + n < count → get_or xs (7 + n + n) 0 ≡ boxed_from n (take count xs)
  unfolding boxed_from
  boxed_told h = sym (get_or-take count xs (7 + n + n) 0 h)

  pub boxed_untold : count ≤ length xs → count ≤ 7 + n + n → 0 ≡ boxed_from n (take count xs)
  unfolding boxed_from
  boxed_untold l h = sym (get_d_past (take count xs) (7 + n + n) (omega (arith, length-take-le count xs l)))

pub ruleset boxed_cases = (boxed_told, boxed_untold)
