-- Each act but FINISH raises the potential by one at most.
use Prim.Native.Nat.{ℕ, ◌+◌, ◌*◌, ◌≤◌, ◌<◌}
use mathlib.Core.List.{List}
use Rattle.std.specs.Prelude.{◌≢◌, ◌≡◌, eqb, length}
use Rattle.std.proofs.Math.Path.{ap}
use Rattle.std.proofs.Common.{◌∙◌, ne_eqb}
use native.Mathlib.Omega.{arith}
use Rattle.std.proofs.Math.Decide.{dec_lt}
use Rattle.settings.specs.Rules.{Ruled}
use Rattle.settings.specs.declared.Settings.{Settings}
use Rattle.quorum.specs.Marks.{mark, with_mark}
use Rattle.quorum.specs.laws.Marks.{mark_other}
use Rattle.quorum.specs.Total.{share, count}
use Rattle.records.specs.Layout.{round_at, est_sent_at, aux_sent_at}
use Rattle.records.specs.Words.{word}
use Rattle.acts.specs.declared.Act.{Act}
use Rattle.acts.specs.declared.Act.TheVariants.{Idle, InForce, Commit, Send, Echo, Ready, Start, Relay, Aux, Move, Finish}
use Rattle.turn.specs.laws.Told.{ActTold}
use Rattle.turn.specs.Turn.{applied}
use Rattle.turn.specs.Turn as turn
use Rattle.turn.proofs.laws.Frame.{Spared, applied_other}
use Rattle.turn_bound.proofs.laws.Sums.{share_few, sum_grows, marks_add, sum_one}
use Rattle.turn_bound.proofs.laws.Potential.{instance_part, potential}
use Rattle.turn_bound.proofs.laws.Rounds.{Entry}
use Rattle.turn_bound.proofs.laws.Raising.{Plain, counted_mark, relay_marks, start_entry, move_entry, move_bit}

module _ (s t : List ℕ) where
  part_marks : (j : ℕ) → mark (word t 136) j ≡ mark (word s 136) j → mark (word t 137) j ≡ mark (word s 137) j → word t (est_sent_at j) ≡ word s (est_sent_at j) → word t (aux_sent_at j) ≡ word s (aux_sent_at j) → word t (round_at j) ≡ word s (round_at j) → instance_part t j ≤ instance_part s j
  unfolding instance_part
  part_marks j e r b a o = rw (e, r, b, a, o) (omega arith)

  part_same : (j : ℕ) → word t 136 ≡ word s 136 → word t 137 ≡ word s 137 → word t (est_sent_at j) ≡ word s (est_sent_at j) → word t (aux_sent_at j) ≡ word s (aux_sent_at j) → word t (round_at j) ≡ word s (round_at j) → instance_part t j ≤ instance_part s j
  unfolding instance_part
  part_same j e r b a o = rw (e, r, b, a, o) (omega arith)

  flag_one : (n p : ℕ) → word t 7 ≡ with_mark (word s 7) p → ((j : ℕ) → 1 ≤ j → j ≤ n → instance_part t j ≤ instance_part s j) → potential n t ≤ potential n s + 1
  unfolding potential
  flag_one n p e h = omega (arith, marks_add (word s 7) (word t 7) p 3 e, sum_grows (instance_part t) (instance_part s) n h)

  part_one : (n i : ℕ) → word t 7 ≡ word s 7 → ((j : ℕ) → 1 ≤ j → j ≤ n → j ≢ i → instance_part t j ≤ instance_part s j) → (1 ≤ i → i ≤ n → instance_part t i ≤ instance_part s i + 1) → potential n t ≤ potential n s + 1
  unfolding potential
  part_one n i e h l =
      let same : count (mark (word t 7)) 3 ≡ count (mark (word s 7)) 3 = ap (λ (w : ℕ). count (mark w) 3) e in
      omega (arith, sum_one (instance_part s) (instance_part t) n i h l)

  -- instance i gains at most one
  echo_one : (i : ℕ) → word t 137 ≡ word s 137 → word t (est_sent_at i) ≡ word s (est_sent_at i) → word t (aux_sent_at i) ≡ word s (aux_sent_at i) → word t (round_at i) ≡ word s (round_at i) → instance_part t i ≤ instance_part s i + 1
  unfolding instance_part
  echo_one i r b a o = rw (r, b, a, o) (omega (arith, share_few (mark (word t 136) i)))

  ready_one : (i : ℕ) → word t 136 ≡ word s 136 → word t (est_sent_at i) ≡ word s (est_sent_at i) → word t (aux_sent_at i) ≡ word s (aux_sent_at i) → word t (round_at i) ≡ word s (round_at i) → instance_part t i ≤ instance_part s i + 1
  unfolding instance_part
  ready_one i r b a o = rw (r, b, a, o) (omega (arith, share_few (mark (word t 137) i)))

  est_one : (i p : ℕ) → word t 136 ≡ word s 136 → word t 137 ≡ word s 137 → word t (est_sent_at i) ≡ with_mark (word s (est_sent_at i)) p → word t (aux_sent_at i) ≡ word s (aux_sent_at i) → share (eqb (word t (round_at i)) 33) 1 ≤ share (eqb (word s (round_at i)) 33) 1 → instance_part t i ≤ instance_part s i + 1
  unfolding instance_part
  est_one i p e r b a o = rw (e, r, a) (omega (arith, marks_add (word s (est_sent_at i)) (word t (est_sent_at i)) p 64 b))

  aux_one : (i p : ℕ) → word t 136 ≡ word s 136 → word t 137 ≡ word s 137 → word t (est_sent_at i) ≡ word s (est_sent_at i) → word t (aux_sent_at i) ≡ with_mark (word s (aux_sent_at i)) p → word t (round_at i) ≡ word s (round_at i) → instance_part t i ≤ instance_part s i + 1
  unfolding instance_part
  aux_one i p e r b a o = rw (e, r, b, o) (omega (arith, marks_add (word s (aux_sent_at i)) (word t (aux_sent_at i)) p 32 a))

  out_one : (i : ℕ) → word t 136 ≡ word s 136 → word t 137 ≡ word s 137 → word t (est_sent_at i) ≡ word s (est_sent_at i) → word t (aux_sent_at i) ≡ word s (aux_sent_at i) → instance_part t i ≤ instance_part s i + 1
  unfolding instance_part
  out_one i e r b a = rw (e, r, b, a) (omega (arith, share_few (eqb (word t (round_at i)) 33)))

  -- vote i enters a round
  entry_one : (n i r b : ℕ) → n ≤ 16 → Entry i r b s t → 1 ≤ i → i ≤ n → word t 7 ≡ word s 7 → word t 136 ≡ word s 136 → word t 137 ≡ word s 137 → ((j : ℕ) → 1 ≤ j → j ≤ n → word t (aux_sent_at j) ≡ word s (aux_sent_at j)) → potential n t ≤ potential n s + 1
  entry_one n i r b few x low high f e d a =
      part_one n i f
      (λ j lo hi ne. part_same j e d (x.ests j lo (omega arith) ne) (a j lo hi) (x.rounds j lo (omega arith) ne))
      (λ lo hi. at (dec_lt r 32))
    where
      at : Dec (r < 32) → instance_part t i ≤ instance_part s i + 1
      at (yes l) =
          est_one i _ e d (x.marks l) (a i low high)
          (rw (ne_eqb (word t (round_at i)) 33 (λ z. omega (arith, x.enters))) (omega arith))
      at (no l) = out_one i e d (x.leaves (omega arith)) (a i low high)

module _ (s : List ℕ) (size : length s ≡ 2048) (g : Settings) (ruled : Ruled g) where
  -- the words of a part that an act spares
  spared_part : (a : Act) (j : ℕ) → 1 ≤ j → j ≤ 16 → Spared a 136 → Spared a 137 → Spared a (est_sent_at j) → Spared a (aux_sent_at j) → Spared a (round_at j) → instance_part (applied s a) j ≤ instance_part s j
  spared_part a j lo hi e r b x o =
      part_same s (applied s a) j
      (applied_other s a 136 (λ z. omega arith) e)
      (applied_other s a 137 (λ z. omega arith) r)
      (applied_other s a (est_sent_at j) (λ z. omega arith) b)
      (applied_other s a (aux_sent_at j) (λ z. omega arith) x)
      (applied_other s a (round_at j) (λ z. omega arith) o)

  flags_part : (a : Act) → ((j : ℕ) → j ≢ 7 → Spared a j) → (j : ℕ) → 1 ≤ j → j ≤ g.n → instance_part (applied s a) j ≤ instance_part s j
  flags_part a h j lo hi =
      spared_part a j lo (omega (arith, ruled.few)) (h 136 (λ z. omega arith)) (h 137 (λ z. omega arith)) (h (est_sent_at j) (λ z. omega arith)) (h (aux_sent_at j) (λ z. omega arith)) (h (round_at j) (λ z. omega arith))

  -- the words of votes that ECHO and READY spare
  record Votes (a : Act) (j : ℕ) : Type 0 where
    est : word (applied s a) (est_sent_at j) ≡ word s (est_sent_at j)
    aux : word (applied s a) (aux_sent_at j) ≡ word s (aux_sent_at j)
    round : word (applied s a) (round_at j) ≡ word s (round_at j)

  votes_spared : (a : Act) (j : ℕ) → 1 ≤ j → j ≤ 16 → Spared a (est_sent_at j) → Spared a (aux_sent_at j) → Spared a (round_at j) → Votes a j
  votes_spared a j lo hi b x o =
      record {
        est = applied_other s a (est_sent_at j) (λ z. omega arith) b;
        aux = applied_other s a (aux_sent_at j) (λ z. omega arith) x;
        round = applied_other s a (round_at j) (λ z. omega arith) o;
      }

  echo_act_lem : (i v : ℕ) → potential g.n (applied s (Echo i v)) ≤ potential g.n s + 1
  unfolding applied turn.done
  echo_act_lem i v =
      part_one s t g.n i (applied_other s a 7 (λ z. omega arith) (λ z. omega arith))
      (λ j lo hi ne. other j ne (votes j lo hi))
      (λ lo hi. here (votes i lo hi))
    where
      a : Act
      a = Echo i v

      t : List ℕ
      t = applied s (Echo i v)

      ready : word t 137 ≡ word s 137
      ready = applied_other s (Echo i v) 137 (λ z. omega arith) (λ z. omega arith)

      votes : (j : ℕ) → 1 ≤ j → j ≤ g.n → Votes (Echo i v) j
      votes j lo hi = votes_spared (Echo i v) j lo (omega (arith, ruled.few)) (λ z. omega (arith, ruled.few)) (λ z. omega (arith, ruled.few)) (λ z. omega (arith, ruled.few))

      other : (j : ℕ) → j ≢ i → Votes (Echo i v) j → instance_part t j ≤ instance_part s j
      other j ne x =
          part_marks s t j (ap (λ (w : ℕ). mark w j) (counted_mark s size 136 i (omega arith) (λ z. omega arith)) ∙ mark_other (word s 136) i j ne)
          (ap (λ (w : ℕ). mark w j) ready) x.est x.aux x.round

      here : Votes (Echo i v) i → instance_part t i ≤ instance_part s i + 1
      here x = echo_one s t i ready x.est x.aux x.round

  ready_act_lem : (i v : ℕ) → potential g.n (applied s (Ready i v)) ≤ potential g.n s + 1
  unfolding applied turn.done
  ready_act_lem i v =
      part_one s t g.n i (applied_other s (Ready i v) 7 (λ z. omega arith) (λ z. omega arith))
      (λ j lo hi ne. other j ne (votes j lo hi))
      (λ lo hi. here (votes i lo hi))
    where
      t : List ℕ
      t = applied s (Ready i v)

      echo : word t 136 ≡ word s 136
      echo = applied_other s (Ready i v) 136 (λ z. omega arith) (λ z. omega arith)

      votes : (j : ℕ) → 1 ≤ j → j ≤ g.n → Votes (Ready i v) j
      votes j lo hi = votes_spared (Ready i v) j lo (omega (arith, ruled.few)) (λ z. omega (arith, ruled.few)) (λ z. omega (arith, ruled.few)) (λ z. omega (arith, ruled.few))

      other : (j : ℕ) → j ≢ i → Votes (Ready i v) j → instance_part t j ≤ instance_part s j
      other j ne x =
          part_marks s t j (ap (λ (w : ℕ). mark w j) echo)
          (ap (λ (w : ℕ). mark w j) (counted_mark s size 137 i (omega arith) (λ z. omega arith)) ∙ mark_other (word s 137) i j ne)
          x.est x.aux x.round

      here : Votes (Ready i v) i → instance_part t i ≤ instance_part s i + 1
      here x = ready_one s t i echo x.est x.aux x.round

  pub act_by_one : (a : Act) → Plain a → ActTold g s a → potential g.n (applied s a) ≤ potential g.n s + 1
  unfolding applied turn.done
  act_by_one Idle x h = omega arith
  act_by_one InForce x h = flag_one s _ g.n 1 (counted_mark s size 7 1 (omega arith) (λ z. omega arith)) (flags_part InForce (λ j z. z))
  act_by_one (Commit k) x h = flag_one s _ g.n 3 (counted_mark s size 7 3 (omega arith) (λ z. omega arith)) (flags_part (Commit k) (λ j z. z))
  act_by_one (Send v) x h = flag_one s _ g.n 2 (counted_mark s size 7 2 (omega arith) (λ z. omega arith)) (flags_part (Send v) (λ j z. z))
  act_by_one (Echo i v) x h = echo_act_lem i v
  act_by_one (Ready i v) x h = ready_act_lem i v
  act_by_one (Start i b) x h =
      let a = Start i b in
      entry_one s _ g.n i 0 b ruled.few (start_entry s size g ruled i b h) h.0.low h.0.high
      (applied_other s a 7 (λ z. omega arith) (λ z. omega arith, λ z. omega arith))
      (applied_other s a 136 (λ z. omega arith) (λ z. omega (arith, h.0.high, ruled.few), λ z. omega (arith, h.0.high, ruled.few)))
      (applied_other s a 137 (λ z. omega arith) (λ z. omega (arith, h.0.high, ruled.few), λ z. omega (arith, h.0.high, ruled.few)))
      (λ j lo hi. applied_other s a (aux_sent_at j) (λ z. omega arith) (λ z. omega (arith, h.0.high, ruled.few), λ z. omega (arith, h.0.high, ruled.few)))
  act_by_one (Relay i r b) x h =
      let few : i ≤ 16 = omega (arith, h.0.high, ruled.few) in
      let a = Relay i r b in
      let echo = applied_other s a 136 (λ z. omega arith) (λ z. omega (arith, few)) in
      let ready = applied_other s a 137 (λ z. omega arith) (λ z. omega (arith, few)) in
      part_one s _ g.n i (applied_other s a 7 (λ z. omega arith) (λ z. omega arith))
      (λ j lo hi ne. spared_part a j lo (omega (arith, ruled.few)) (λ z. omega (arith, few)) (λ z. omega (arith, few)) (λ z. ne (omega arith)) (λ z. omega (arith, few)) (λ z. omega (arith, ruled.few, h.0.low)))
      (λ lo hi. est_one s _ i (32 * b + r) echo ready (relay_marks s size i r b few)
      (applied_other s a (aux_sent_at i) (λ z. omega arith) (λ z. omega arith))
      (rw (applied_other s a (round_at i) (λ z. omega arith) (λ z. omega arith)) (omega arith)))
  act_by_one (Aux i r b) x h =
      let few : i ≤ 16 = omega (arith, h.0.high, ruled.few) in
      let a = Aux i r b in
      let echo = applied_other s a 136 (λ z. omega arith) (λ z. omega (arith, few)) in
      let ready = applied_other s a 137 (λ z. omega arith) (λ z. omega (arith, few)) in
      part_one s _ g.n i (applied_other s a 7 (λ z. omega arith) (λ z. omega arith))
      (λ j lo hi ne. spared_part a j lo (omega (arith, ruled.few)) (λ z. omega (arith, few)) (λ z. omega (arith, few)) (λ z. omega (arith, ruled.few, h.0.low)) (λ z. ne (omega arith)) (λ z. omega (arith, ruled.few, h.0.low)))
      (λ lo hi. aux_one s _ i r echo ready
      (applied_other s a (est_sent_at i) (λ z. omega arith) (λ z. omega arith))
      (counted_mark s size (aux_sent_at i) r (omega arith) (λ z. omega arith))
      (applied_other s a (round_at i) (λ z. omega arith) (λ z. omega arith)))
  act_by_one (Finish i b) x h = absurd x
  act_by_one (Move i r v) x h =
      let few : i ≤ 16 = omega (arith, h.0.high, ruled.few) in
      let low : 1 ≤ i = h.0.low in
      let a = Move i r v in
      entry_one s _ g.n i r (move_bit s size g ruled i r v) ruled.few (move_entry s size g ruled i r v h (dec_lt r 32)) h.0.low h.0.high
      (applied_other s a 7 (λ z. omega arith) (λ z. omega arith, λ z. omega arith, λ z. omega arith, λ z. omega arith))
      (applied_other s a 136 (λ z. omega arith) (λ z. omega (arith, few), λ z. omega (arith, few), λ z. omega arith, λ z. omega arith))
      (applied_other s a 137 (λ z. omega arith) (λ z. omega (arith, few), λ z. omega (arith, few), λ z. omega arith, λ z. omega arith))
      (λ j lo hi. applied_other s a (aux_sent_at j) (λ z. omega arith) (λ z. omega (arith, few), λ z. omega (arith, few), λ z. omega (arith, ruled.few), λ z. omega (arith, ruled.few)))
