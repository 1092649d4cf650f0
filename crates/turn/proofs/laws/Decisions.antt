-- A new decision comes from a move.
use Prim.Native.Nat.{ℕ, ◌+◌, ◌<◌}
use Rattle.std.specs.Prelude.{Bool, cond, List, ◌≢◌, ◌⊎◌, ◌≡◌, length}
use Rattle.std.proofs.Math.Bool.{true, false}
use Rattle.std.proofs.Math.Logic.{inl, inr}
use Rattle.std.proofs.Math.Path.{refl, ap}
use Rattle.std.proofs.Common.{sym, ◌∙◌, arith}
use Rattle.std.proofs.Math.Dec.{eqb}
use Rattle.quorum.specs.Marks.{mark, with_mark}
use Rattle.quorum.specs.laws.Marks.{mark_came}
use Rattle.records.specs.Layout.{decided_zero_at, decided_one_at}
use Rattle.records.specs.Words.{word, marked, set_mark}
use Rattle.records.specs.laws.Words.{word_set_mark_same, word_set_mark_other}
use Rattle.records.specs.Records.{coin, decided_zero, decided_one, decided}
use Rattle.acts.specs.declared.Act.{Act}
use Rattle.acts.specs.declared.Act.TheVariants.{Idle, InForce, Commit, Send, Echo, Ready, Start, Relay, Aux, Move, Finish}
use Rattle.acts.specs.declared.View.{View}
use Rattle.votes.specs.Votes.{estimate}
use Rattle.turn.specs.Turn.{with_turn_counted, entered, new_decision, move_decided, moved, applied}
use Rattle.turn.specs.Turn as turn
use Rattle.turn.proofs.laws.Frame.{Placed, Spared, length_counted, word_counted_other, word_entered_other, applied_other}

-- the word of the votes decided 0, or of those decided 1
abbrev pub decided_at : Bool → ℕ
decided_at true = decided_zero_at
decided_at false = decided_one_at

-- act a is the move that decides vote i; is_zero tells whether its value is 0
pub record DecidedBy (s : List ℕ) (a : Act) (i : ℕ) (is_zero : Bool) : Type 0 where
  pub round : ℕ
  pub view : View
  pub is_move : a ≡ Move i round view
  pub new : new_decision s i round view ≡ true
  pub value : eqb (estimate (coin s i round) view) 0 ≡ is_zero

-- what a move marks
record Came (s : List ℕ) (j r : ℕ) (v : View) (z : Bool) (i : ℕ) : Type 0 where
  vote : i ≡ j
  new : new_decision s j r v ≡ true
  value : eqb (estimate (coin s j r) v) 0 ≡ z

-- counting changes neither coins nor decisions
module _ (s : List ℕ) (j r : ℕ) (v : View) where
  coin_counted : coin (with_turn_counted s) j r ≡ coin s j r
  unfolding coin marked
  coin_counted = ap (λ (w : ℕ). mark w r) (word_counted_other s (7 + j) (λ e. omega arith))

  new_counted : new_decision (with_turn_counted s) j r v ≡ new_decision s j r v
  unfolding new_decision decided decided_zero decided_one marked
  new_counted = rw (word_counted_other s 138 (λ e. omega arith), word_counted_other s 139 (λ e. omega arith), coin_counted)

-- neither word of decisions is one of those below
away : (z : Bool) (k : ℕ) → k < 138 → decided_at z ≡ k → ⊥
away true k l e = omega arith
away false k l e = omega arith

above : (z : Bool) → decided_at z ≡ 144 → ⊥
above true e = omega arith
above false e = omega arith

module _ (s : List ℕ) (size : length s ≡ 2048) where
  kept : (t : List ℕ) (k i : ℕ) → word t k ≡ word s k → mark (word t k) i ≡ true → mark (word s k) i ≡ true
  kept t k i e h = sym (ap (λ (w : ℕ). mark w i) e) ∙ h

  set_here : (k j i : ℕ) → k < 2048 → k ≢ 6 → mark (word (set_mark (with_turn_counted s) k j) k) i ≡ true → (mark (word s k) i ≡ true) ⊎ (i ≡ j)
  set_here k j i l ne h =
      let is : word (set_mark (with_turn_counted s) k j) k ≡ with_mark (word s k) j = word_set_mark_same (with_turn_counted s) k j (omega (arith, size, length_counted s)) ∙ ap (λ (w : ℕ). with_mark w j) (word_counted_other s k ne) in
      mark_came (word s k) j i (sym (ap (λ (w : ℕ). mark w i) is) ∙ h)

  set_elsewhere : (k m j i : ℕ) → k ≢ m → k ≢ 6 → mark (word (set_mark (with_turn_counted s) m j) k) i ≡ true → mark (word s k) i ≡ true
  set_elsewhere k m j i ne away h = kept (set_mark (with_turn_counted s) m j) k i (word_set_mark_other (with_turn_counted s) m j k ne ∙ word_counted_other s k away) h

  move_came : (j r : ℕ) (v : View) (z : Bool) (i : ℕ) → mark (word (move_decided (with_turn_counted s) j r v) (decided_at z)) i ≡ true → (mark (word s (decided_at z)) i ≡ true) ⊎ Came s j r v z i
  unfolding move_decided
  move_came j r v z i h = go (new_decision s j r v) refl (eqb (estimate (coin s j r) v) 0) refl z (rw (new_counted s j r v, coin_counted s j r v) at h)
    where
      of : (w : Bool) → new_decision s j r v ≡ true → eqb (estimate (coin s j r) v) 0 ≡ w → (mark (word s (decided_at w)) i ≡ true) ⊎ (i ≡ j) → (mark (word s (decided_at w)) i ≡ true) ⊎ Came s j r v w i
      of w e f (inl x) = inl x
      of w e f (inr x) = inr (record { vote = x; new = e; value = f })

      go : (n : Bool) → new_decision s j r v ≡ n → (w : Bool) → eqb (estimate (coin s j r) v) 0 ≡ w → (z : Bool) → mark (word (cond n (set_mark (with_turn_counted s) (cond w decided_zero_at decided_one_at) j) (with_turn_counted s)) (decided_at z)) i ≡ true → (mark (word s (decided_at z)) i ≡ true) ⊎ Came s j r v z i
      go true e true f true g = of true e f (set_here 138 j i (omega arith) (λ q. omega arith) g)
      go true e true f false g = inl (set_elsewhere 139 138 j i (λ q. omega arith) (λ q. omega arith) g)
      go true e false f true g = inl (set_elsewhere 138 139 j i (λ q. omega arith) (λ q. omega arith) g)
      go true e false f false g = of false e f (set_here 139 j i (omega arith) (λ q. omega arith) g)
      go false e w f z g = inl (kept (with_turn_counted s) (decided_at z) i (word_counted_other s (decided_at z) (away z 6 (omega arith))) g)

  module _ (z : Bool) (i : ℕ) where
    other : (a : Act) → Spared a (decided_at z) → mark (word (applied s a) (decided_at z)) i ≡ true → (mark (word s (decided_at z)) i ≡ true) ⊎ DecidedBy s a i z
    other a p h = inl (kept (applied s a) (decided_at z) i (applied_other s a (decided_at z) (away z 6 (omega arith)) p) h)

    decided_came : (a : Act) → Placed a → mark (word (applied s a) (decided_at z)) i ≡ true → (mark (word s (decided_at z)) i ≡ true) ⊎ DecidedBy s a i z
    unfolding applied turn.done moved
    decided_came Idle p h = inl h
    decided_came InForce p h = other InForce (away z 7 (omega arith)) h
    decided_came (Commit k) p h = other (Commit k) (away z 7 (omega arith)) h
    decided_came (Send v) p h = other (Send v) (away z 7 (omega arith)) h
    decided_came (Echo j v) p h = other (Echo j v) (away z 136 (omega arith)) h
    decided_came (Ready j v) p h = other (Ready j v) (away z 137 (omega arith)) h
    decided_came (Start j b) p h = other (Start j b) (away z (23 + j) (omega arith), away z (39 + j) (omega arith)) h
    decided_came (Relay j r b) p h = other (Relay j r b) (away z (39 + j) (omega arith)) h
    decided_came (Aux j r b) p h = other (Aux j r b) (away z (55 + j) (omega arith)) h
    decided_came (Finish j b) p h = other (Finish j b) (above z) h
    decided_came (Move j r v) p h = of (move_came j r v z i (before h))
      where
        b : ℕ
        b = estimate (coin (with_turn_counted s) j r) v

        before : mark (word (entered (move_decided (with_turn_counted s) j r v) j (r + 1) b) (decided_at z)) i ≡ true → mark (word (move_decided (with_turn_counted s) j r v) (decided_at z)) i ≡ true
        before g = sym (ap (λ (w : ℕ). mark w i) (word_entered_other (move_decided (with_turn_counted s) j r v) j (r + 1) b (decided_at z) (away z (23 + j) (omega arith)) (away z (39 + j) (omega arith)))) ∙ g

        of : (mark (word s (decided_at z)) i ≡ true) ⊎ Came s j r v z i → (mark (word s (decided_at z)) i ≡ true) ⊎ DecidedBy s (Move j r v) i z
        of (inl x) = inl x
        of (inr x) =
            inr (
            record {
              round = r;
              view = v;
              is_move = ap (λ (k : ℕ). Move k r v) (sym x.vote);
              new = rw x.vote x.new;
              value = rw x.vote x.value;
            }
            )

  -- a vote that is decided 1 after an act was so before, or the act is the move that decides it
  pub decided_one_came : (a : Act) (i : ℕ) → Placed a → decided_one (applied s a) i ≡ true → (decided_one s i ≡ true) ⊎ DecidedBy s a i false
  unfolding decided_one marked
  decided_one_came a i p h = decided_came false i a p h

  pub decided_zero_came : (a : Act) (i : ℕ) → Placed a → decided_zero (applied s a) i ≡ true → (decided_zero s i ≡ true) ⊎ DecidedBy s a i true
  unfolding decided_zero marked
  decided_zero_came a i p h = decided_came true i a p h
