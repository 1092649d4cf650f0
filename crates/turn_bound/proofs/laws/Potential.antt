-- A measure of the state that each act but FINISH raises and that is at most 99·n+3: the marks of what was sent, and the votes that have moved out
-- of round 32. FINISHes are counted beside it (Finishes).
use Rattle.std.specs.Prelude.{ℕ, ◌+◌, ◌*◌, ◌≤◌, ◌<◌, true, false, List, ◌≢◌, ◌≡◌, eqb}
use native.Mathlib.Omega.{arith}
use Rattle.std.proofs.Common.{eq-eqb, ne_eqb, eqb-true}
use Rattle.quorum.specs.Marks.{mark}
use Rattle.quorum.specs.Total.{share, total, count, everyone}
use Rattle.quorum.specs.laws.Total.{total_mono, count_le}
use Rattle.records.specs.Layout.{flags_at, echo_sent_at, ready_sent_at, round_at, est_sent_at, aux_sent_at}
use Rattle.records.specs.Words.{word}
use Rattle.turn.proofs.laws.Marks.{Keeps}
use Rattle.turn_bound.proofs.laws.Sums.{share_few, share_grows, share_rises, sum_few, sum_grows, sum_rises, count_rises}

-- instance i: ECHO sent, READY sent, the ESTs sent of 0 and 1 in 32 rounds, the AUXs sent in 32 rounds, and whether the vote has moved out of round 32
unfoldable pub instance_part : List ℕ → ℕ → ℕ
instance_part s i =
    share (mark (word s echo_sent_at) i) 1
    + share (mark (word s ready_sent_at) i) 1
    + count (mark (word s (est_sent_at i))) 64
    + count (mark (word s (aux_sent_at i))) 32
    + share (eqb (word s (round_at i)) 33) 1

-- with the three flags: closed, SEND sent, COMMIT sent
unfoldable pub potential : ℕ → List ℕ → ℕ
potential n s = count (mark (word s flags_at)) 3 + total (instance_part s) everyone n

part_few : (s : List ℕ) (i : ℕ) → instance_part s i ≤ 99
unfolding instance_part
part_few s i =
    omega (
      arith,
      share_few (mark (word s echo_sent_at) i),
      share_few (mark (word s ready_sent_at) i),
      count_le (mark (word s (est_sent_at i))) 64,
      count_le (mark (word s (aux_sent_at i))) 32,
      share_few (eqb (word s (round_at i)) 33),
    )

pub potential_few : (n : ℕ) (s : List ℕ) → potential n s ≤ 99 * n + 3
unfolding potential
potential_few n s = omega (arith, count_le (mark (word s flags_at)) 3, sum_few (instance_part s) n (λ i a b. part_few s i))

-- t has all the marks of s, and the votes that have moved out of round 32 in s have so in t
pub record Grows (n : ℕ) (s t : List ℕ) : Type 0 where
  pub flags : Keeps flags_at s t
  pub echoes : Keeps echo_sent_at s t
  pub readies : Keeps ready_sent_at s t
  pub ests : (i : ℕ) → 1 ≤ i → i ≤ n → Keeps (est_sent_at i) s t
  pub auxs : (i : ℕ) → 1 ≤ i → i ≤ n → Keeps (aux_sent_at i) s t
  pub moved_out : (i : ℕ) → 1 ≤ i → i ≤ n → word s (round_at i) ≡ 33 → word t (round_at i) ≡ 33

-- mark p of word k is new in t
pub record New (k p : ℕ) (s t : List ℕ) : Type 0 where
  pub clear : mark (word s k) p ≡ false
  pub set : mark (word t k) p ≡ true

-- what is new in t of instance i
pub data PartGain (i : ℕ) (s t : List ℕ) : Type 0 where
  echo : New echo_sent_at i s t → PartGain i s t
  ready : New ready_sent_at i s t → PartGain i s t
  est : (p : ℕ) → 1 ≤ p → p ≤ 64 → New (est_sent_at i) p s t → PartGain i s t
  aux : (r : ℕ) → 1 ≤ r → r ≤ 32 → New (aux_sent_at i) r s t → PartGain i s t
  moves_out : word s (round_at i) ≢ 33 → word t (round_at i) ≡ 33 → PartGain i s t

pub data Gain (n : ℕ) (s t : List ℕ) : Type 0 where
  flag : (p : ℕ) → 1 ≤ p → p ≤ 3 → New flags_at p s t → Gain n s t
  of_instance : (i : ℕ) → 1 ≤ i → i ≤ n → PartGain i s t → Gain n s t

count_grows : (k m : ℕ) (s t : List ℕ) → Keeps k s t → count (mark (word s k)) m ≤ count (mark (word t k)) m
count_grows k m s t h = total_mono (λ p. 1) (mark (word s k)) (mark (word t k)) m (λ p a b. h p)

new_rises : (k m p : ℕ) (s t : List ℕ) → 1 ≤ p → p ≤ m → Keeps k s t → New k p s t → count (mark (word s k)) m < count (mark (word t k)) m
new_rises k m p s t low high h x = count_rises (mark (word s k)) (mark (word t k)) m p low high (λ q a b. h q) x.clear x.set

module _ (n : ℕ) (s t : List ℕ) (g : Grows n s t) where
  module _ (i : ℕ) (low : 1 ≤ i) (high : i ≤ n) where
    echo_grows : share (mark (word s echo_sent_at) i) 1 ≤ share (mark (word t echo_sent_at) i) 1
    echo_grows = share_grows (mark (word s echo_sent_at) i) (mark (word t echo_sent_at) i) (g.echoes i)

    ready_grows : share (mark (word s ready_sent_at) i) 1 ≤ share (mark (word t ready_sent_at) i) 1
    ready_grows = share_grows (mark (word s ready_sent_at) i) (mark (word t ready_sent_at) i) (g.readies i)

    est_grows : count (mark (word s (est_sent_at i))) 64 ≤ count (mark (word t (est_sent_at i))) 64
    est_grows = count_grows (est_sent_at i) 64 s t (g.ests i low high)

    aux_grows : count (mark (word s (aux_sent_at i))) 32 ≤ count (mark (word t (aux_sent_at i))) 32
    aux_grows = count_grows (aux_sent_at i) 32 s t (g.auxs i low high)

    moved_out_grows : share (eqb (word s (round_at i)) 33) 1 ≤ share (eqb (word t (round_at i)) 33) 1
    moved_out_grows =
        share_grows (eqb (word s (round_at i)) 33) (eqb (word t (round_at i)) 33)
        (λ e. eq-eqb (word t (round_at i)) 33 (g.moved_out i low high (eqb-true (word s (round_at i)) 33 e)))

    part_grows : instance_part s i ≤ instance_part t i
    unfolding instance_part
    part_grows = omega (arith, echo_grows, ready_grows, est_grows, aux_grows, moved_out_grows)

    part_rises : PartGain i s t → instance_part s i < instance_part t i
    unfolding instance_part
    part_rises (echo x) =
        omega (arith, share_rises (mark (word s echo_sent_at) i) (mark (word t echo_sent_at) i) x.clear x.set, ready_grows, est_grows, aux_grows, moved_out_grows)
    part_rises (ready x) =
        omega (arith, echo_grows, share_rises (mark (word s ready_sent_at) i) (mark (word t ready_sent_at) i) x.clear x.set, est_grows, aux_grows, moved_out_grows)
    part_rises (est p a b x) =
        omega (arith, echo_grows, ready_grows, new_rises (est_sent_at i) 64 p s t a b (g.ests i low high) x, aux_grows, moved_out_grows)
    part_rises (aux r a b x) =
        omega (arith, echo_grows, ready_grows, est_grows, new_rises (aux_sent_at i) 32 r s t a b (g.auxs i low high) x, moved_out_grows)
    part_rises (moves_out x y) =
        omega (
          arith,
          echo_grows,
          ready_grows,
          est_grows,
          aux_grows,
          share_rises (eqb (word s (round_at i)) 33) (eqb (word t (round_at i)) 33) (ne_eqb (word s (round_at i)) 33 x) (eq-eqb (word t (round_at i)) 33 y),
        )

  flags_grow : count (mark (word s flags_at)) 3 ≤ count (mark (word t flags_at)) 3
  flags_grow = count_grows flags_at 3 s t g.flags

  pub potential_grows : potential n s ≤ potential n t
  unfolding potential
  potential_grows = omega (arith, flags_grow, sum_grows (instance_part s) (instance_part t) n part_grows)

  pub potential_rises : Gain n s t → potential n s < potential n t
  unfolding potential
  potential_rises (flag p a b x) =
      omega (arith, new_rises flags_at 3 p s t a b g.flags x, sum_grows (instance_part s) (instance_part t) n part_grows)
  potential_rises (of_instance i a b x) =
      omega (arith, flags_grow, sum_rises (instance_part s) (instance_part t) n i a b part_grows (part_rises i a b x))
