-- The rounds of the votes, the ESTs and AUXs sent: how a step may change them, and what every such change keeps.
use Rattle.std.specs.Prelude.{ℕ, ◌+◌, ◌≤◌, ◌<◌, Bool, true, false, List, ◌≢◌, ◌⊎◌, ◌≡◌, refl}
use Rattle.std.proofs.Common.{inl, inr, sym, ap, ◌∙◌, arith}
use Rattle.std.proofs.Math.Decide.{dec_lt, ℕ_discrete}
use Rattle.quorum.specs.Marks.{mark, with_mark}
use Rattle.quorum.specs.laws.Marks.{mark_same, mark_came}
use Rattle.records.specs.Layout.{round_at, est_sent_at, est_sent_mark, aux_sent_at}
use Rattle.records.specs.Words.{word}
use Rattle.turn.proofs.laws.Marks.{Keeps}
use Rattle.turn_bound.proofs.laws.Potential.{PartGain, est, moves_out}

-- no round and no EST changes
pub record Still (s t : List ℕ) : Type 0 where
  pub rounds : (j : ℕ) → 1 ≤ j → j ≤ 16 → word t (round_at j) ≡ word s (round_at j)
  pub ests : (j : ℕ) → 1 ≤ j → j ≤ 16 → word t (est_sent_at j) ≡ word s (est_sent_at j)

-- EST b of vote i is marked as sent in round r, one of the rounds from 1 to the vote's own (PROTOCOL 5.4)
pub record Relayed (i r b : ℕ) (s t : List ℕ) : Type 0 where
  pub low : 1 ≤ r
  pub high : r ≤ 32
  pub bit : b ≤ 1
  pub reached : r ≤ word s (round_at i)
  pub rounds : (j : ℕ) → 1 ≤ j → j ≤ 16 → word t (round_at j) ≡ word s (round_at j)
  pub ests : (j : ℕ) → 1 ≤ j → j ≤ 16 → j ≢ i → word t (est_sent_at j) ≡ word s (est_sent_at j)
  pub marks : word t (est_sent_at i) ≡ with_mark (word s (est_sent_at i)) (est_sent_mark r b)

-- vote i enters the round after r with EST b, its AUX of round r sent; the round after 32 has no EST
pub record Entry (i r b : ℕ) (s t : List ℕ) : Type 0 where
  pub high : r ≤ 32
  pub bit : b ≤ 1
  pub before : word s (round_at i) ≡ r
  pub voted : 1 ≤ r → mark (word s (aux_sent_at i)) r ≡ true
  pub enters : word t (round_at i) ≡ r + 1
  pub rounds : (j : ℕ) → 1 ≤ j → j ≤ 16 → j ≢ i → word t (round_at j) ≡ word s (round_at j)
  pub ests : (j : ℕ) → 1 ≤ j → j ≤ 16 → j ≢ i → word t (est_sent_at j) ≡ word s (est_sent_at j)
  pub marks : r < 32 → word t (est_sent_at i) ≡ with_mark (word s (est_sent_at i)) (est_sent_mark (r + 1) b)
  pub leaves : 32 ≤ r → word t (est_sent_at i) ≡ word s (est_sent_at i)

pub data Change (s t : List ℕ) : Type 0 where
  still : Still s t → Change s t
  relayed : (i r b : ℕ) → Relayed i r b s t → Change s t
  entry : (i r b : ℕ) → Entry i r b s t → Change s t

-- of the votes 1 to n: no round is above 33, no EST is marked as sent in a round above the current one, and an AUX in every round that was left
pub record Orderly (n : ℕ) (s : List ℕ) : Type 0 where
  pub rounds : (j : ℕ) → 1 ≤ j → j ≤ n → word s (round_at j) ≤ 33
  pub reached : (j r b : ℕ) → 1 ≤ j → j ≤ n → 1 ≤ r → r ≤ 32 → b ≤ 1 → mark (word s (est_sent_at j)) (est_sent_mark r b) ≡ true → r ≤ word s (round_at j)
  pub passed : (j r : ℕ) → 1 ≤ j → j ≤ n → 1 ≤ r → r < word s (round_at j) → mark (word s (aux_sent_at j)) r ≡ true

-- a mark of a word that did not change
mark_before : (v w p : ℕ) → w ≡ v → mark w p ≡ true → mark v p ≡ true
mark_before v w p e h = sym (ap (λ (x : ℕ). mark x p) e) ∙ h

-- a mark of a word in which EST b of round r was marked
est_came : (v w r b q c : ℕ) → w ≡ with_mark v (est_sent_mark r b) → r ≤ 32 → 1 ≤ q → 1 ≤ r → q ≤ 32 → b ≤ 1 → c ≤ 1 → mark w (est_sent_mark q c) ≡ true → (mark v (est_sent_mark q c) ≡ true) ⊎ (q ≡ r)
est_came v w r b q c e rh ql rl qh bb cb h = of (mark_came v (est_sent_mark r b) (est_sent_mark q c) (mark_before (with_mark v (est_sent_mark r b)) w (est_sent_mark q c) e h))
  where
    of : (mark v (est_sent_mark q c) ≡ true) ⊎ (est_sent_mark q c ≡ est_sent_mark r b) → (mark v (est_sent_mark q c) ≡ true) ⊎ (q ≡ r)
    of (inl x) = inl x
    of (inr x) = inr (omega arith)

module _ (n : ℕ) (few : n ≤ 16) (s t : List ℕ) (o : Orderly n s) where
  -- vote j, which did not change
  same_reached : (j : ℕ) → 1 ≤ j → j ≤ n → word t (round_at j) ≡ word s (round_at j) → word t (est_sent_at j) ≡ word s (est_sent_at j) → (r b : ℕ) → 1 ≤ r → r ≤ 32 → b ≤ 1 → mark (word t (est_sent_at j)) (est_sent_mark r b) ≡ true → r ≤ word t (round_at j)
  same_reached j low high e f r b rl rh bb h =
      let k : r ≤ word s (round_at j) = o.reached j r b low high rl rh bb (mark_before (word s (est_sent_at j)) (word t (est_sent_at j)) (est_sent_mark r b) f h) in
      omega arith

  -- of each round that is left in t the AUX was sent in s
  left : Change s t → (j r : ℕ) → 1 ≤ j → j ≤ n → 1 ≤ r → r < word t (round_at j) → mark (word s (aux_sent_at j)) r ≡ true
  left (still x) j r low high l e = o.passed j r low high l (omega (arith, x.rounds j low (omega arith)))
  left (relayed i q b x) j r low high l e = o.passed j r low high l (omega (arith, x.rounds j low (omega arith)))
  left (entry i q b x) j r low high l e = at (ℕ_discrete j i) (ℕ_discrete r q)
    where
      at : Dec (j ≡ i) → Dec (r ≡ q) → mark (word s (aux_sent_at j)) r ≡ true
      at (no ne) d = o.passed j r low high l (omega (arith, x.rounds j low (omega arith) ne))
      at (yes z) (yes y) = rw (z, y) (x.voted (omega arith))
      at (yes z) (no ne) =
          let before : word s (round_at j) ≡ q = rw z x.before in
          let enters : word t (round_at j) ≡ q + 1 = rw z x.enters in
          o.passed j r low high l (omega arith)

  passed_kept : Change s t → ((j : ℕ) → 1 ≤ j → j ≤ n → Keeps (aux_sent_at j) s t) → (j r : ℕ) → 1 ≤ j → j ≤ n → 1 ≤ r → r < word t (round_at j) → mark (word t (aux_sent_at j)) r ≡ true
  passed_kept c auxs j r low high l e = auxs j low high r (left c j r low high l e)

  pub orderly_kept : Change s t → ((j : ℕ) → 1 ≤ j → j ≤ n → Keeps (aux_sent_at j) s t) → Orderly n t
  orderly_kept (still x) auxs =
      record {
        passed = passed_kept (still x) auxs;
        rounds = λ j low high. omega (arith, x.rounds j low (omega arith), o.rounds j low high);
        reached = λ j r b low high. same_reached j low high (x.rounds j low (omega arith)) (x.ests j low (omega arith)) r b;
      }
  orderly_kept (relayed i r b x) auxs =
      record {
        passed = passed_kept (relayed i r b x) auxs;
        rounds = λ j low high. omega (arith, x.rounds j low (omega arith), o.rounds j low high);
        reached = λ j q c low high ql qh cb h. at j q c low high ql qh cb h (ℕ_discrete j i);
      }
    where
      at : (j q c : ℕ) → 1 ≤ j → j ≤ n → 1 ≤ q → q ≤ 32 → c ≤ 1 → mark (word t (est_sent_at j)) (est_sent_mark q c) ≡ true → Dec (j ≡ i) → q ≤ word t (round_at j)
      at j q c low high ql qh cb h (no ne) = same_reached j low high (x.rounds j low (omega arith)) (x.ests j low (omega arith) ne) q c ql qh cb h
      at j q c low high ql qh cb h (yes e) = of (est_came (word s (est_sent_at j)) (word t (est_sent_at j)) r b q c (rw e x.marks) x.high ql x.low qh x.bit cb h)
        where
          here : word t (round_at j) ≡ word s (round_at j)
          here = x.rounds j low (omega arith)

          current : r ≤ word s (round_at j)
          current = rw e x.reached

          of : (mark (word s (est_sent_at j)) (est_sent_mark q c) ≡ true) ⊎ (q ≡ r) → q ≤ word t (round_at j)
          of (inl m) = omega (arith, here, o.reached j q c low high ql qh cb m)
          of (inr m) = omega (arith, here, current)
  orderly_kept (entry i r b x) auxs =
      record {
        passed = passed_kept (entry i r b x) auxs;
        rounds = λ j low high. round j low high (ℕ_discrete j i);
        reached = λ j q c low high ql qh cb h. at j q c low high ql qh cb h (ℕ_discrete j i) (dec_lt r 32);
      }
    where
      round : (j : ℕ) → 1 ≤ j → j ≤ n → Dec (j ≡ i) → word t (round_at j) ≤ 33
      round j low high (no ne) = omega (arith, x.rounds j low (omega arith) ne, o.rounds j low high)
      round j low high (yes e) = rw (e, x.enters) (omega (arith, x.high))

      at : (j q c : ℕ) → 1 ≤ j → j ≤ n → 1 ≤ q → q ≤ 32 → c ≤ 1 → mark (word t (est_sent_at j)) (est_sent_mark q c) ≡ true → Dec (j ≡ i) → Dec (r < 32) → q ≤ word t (round_at j)
      at j q c low high ql qh cb h (no ne) d = same_reached j low high (x.rounds j low (omega arith) ne) (x.ests j low (omega arith) ne) q c ql qh cb h
      at j q c low high ql qh cb h (yes e) (yes l) = of (est_came (word s (est_sent_at j)) (word t (est_sent_at j)) (r + 1) b q c (rw e (x.marks l)) (omega arith) ql (omega arith) qh x.bit cb h)
        where
          enters : word t (round_at j) ≡ r + 1
          enters = rw e x.enters

          before : word s (round_at j) ≡ r
          before = rw e x.before

          of : (mark (word s (est_sent_at j)) (est_sent_mark q c) ≡ true) ⊎ (q ≡ r + 1) → q ≤ word t (round_at j)
          of (inl m) = omega (arith, enters, before, o.reached j q c low high ql qh cb m)
          of (inr m) = omega (arith, enters)
      at j q c low high ql qh cb h (yes e) (no l) =
          let enters : word t (round_at j) ≡ r + 1 = rw e x.enters in
          omega arith

  -- a vote that has moved out of round 32 stays so
  pub moved_out_kept : Change s t → (j : ℕ) → 1 ≤ j → j ≤ n → word s (round_at j) ≡ 33 → word t (round_at j) ≡ 33
  moved_out_kept (still x) j low high h = x.rounds j low (omega arith) ∙ h
  moved_out_kept (relayed i r b x) j low high h = x.rounds j low (omega arith) ∙ h
  moved_out_kept (entry i r b x) j low high h = at (ℕ_discrete j i)
    where
      at : Dec (j ≡ i) → word t (round_at j) ≡ 33
      at (no ne) = x.rounds j low (omega arith) ne ∙ h
      at (yes e) =
          let before : word s (round_at j) ≡ r = rw e x.before in
          absurd (omega (arith, x.high))

  -- entering a round marks a new EST, or the vote moves out of round 32
  pub entry_gain : (i r b : ℕ) → 1 ≤ i → i ≤ n → Entry i r b s t → PartGain i s t
  entry_gain i r b low high x = at (dec_lt r 32)
    where
      unsent : r < 32 → (v : Bool) → mark (word s (est_sent_at i)) (est_sent_mark (r + 1) b) ≡ v → v ≡ false
      unsent l true e = absurd (omega (arith, x.before, o.reached i (r + 1) b low high (omega arith) (omega arith) x.bit e))
      unsent l false e = refl

      at : Dec (r < 32) → PartGain i s t
      at (yes l) =
          est (est_sent_mark (r + 1) b) (omega arith) (omega (arith, x.bit))
          (record {
            clear = unsent l (mark (word s (est_sent_at i)) (est_sent_mark (r + 1) b)) refl;
            set = ap (λ (w : ℕ). mark w (est_sent_mark (r + 1) b)) (x.marks l) ∙ mark_same (word s (est_sent_at i)) (est_sent_mark (r + 1) b) (omega arith) (omega (arith, x.bit));
          })
      at (no l) = moves_out (λ e. omega (arith, x.before, x.high)) (omega (arith, x.enters, x.high))
