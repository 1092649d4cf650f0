-- FINISHes that were sent, beside the potential: each act that is due raises the two together by one, so that the stored count is their sum.
use Rattle.std.specs.Prelude.{ℕ, ◌+◌, ◌≤◌, Bool, true, false, cond, List, ◌≡◌, refl, length}
use Rattle.std.proofs.lemmas.Bool.{false≢true}
use Rattle.std.proofs.Math.Path.{sym, ap}
use Rattle.std.proofs.Common.{◌∙◌}
use native.Mathlib.Omega.{arith}
use Rattle.settings.specs.Rules.{Ruled}
use Rattle.settings.specs.Versions.{finishing}
use Rattle.settings.specs.declared.Settings.{Settings}
use Rattle.quorum.specs.Marks.{mark, with_mark}
use Rattle.quorum.specs.Total.{count}
use Rattle.quorum.specs.laws.Total.{count_le, total_none}
use Rattle.records.specs.Layout.{finish_sent_at, round_at, est_sent_at, aux_sent_at}
use Rattle.records.specs.Records.{closed, finish_sent, version}
use Rattle.records.specs.Words.{word, marked}
use Rattle.acts.specs.Acts.{is_due}
use Rattle.acts.specs.declared.Act.{Act}
use Rattle.acts.specs.declared.Act.TheVariants.{Idle, InForce, Commit, Send, Echo, Ready, Start, Relay, Aux, Move, Finish}
use Rattle.turn.specs.laws.Told.{ActTold}
use Rattle.turn.specs.Turn.{applied}
use Rattle.turn.specs.Turn as turn
use Rattle.turn.proofs.laws.Frame.{Spared, Placed, told_placed, applied_other}
use Rattle.turn.proofs.laws.Marks.{Keeps, MarkWord, keeps_applied, finish_marked}
use Rattle.turn_bound.proofs.laws.Sums.{count_rises, marks_add}
use Rattle.turn_bound.proofs.laws.Potential.{potential, Grows, potential_grows}
use Rattle.turn_bound.proofs.laws.Rounds.{Orderly}
use Rattle.turn_bound.proofs.laws.Raising.{Plain, counted_mark, act_raises}
use Rattle.turn_bound.proofs.laws.ByOne.{act_by_one}

-- how many FINISHes were sent
abbrev pub finishes : ℕ → List ℕ → ℕ
finishes n s = count (mark (word s finish_sent_at)) n

-- what each act raises by one
unfoldable pub measure : ℕ → List ℕ → ℕ
measure n s = potential n s + finishes n s

-- only sessions with FINISHes have sent any
abbrev pub Sent : ℕ → ℕ → List ℕ → Type 0
Sent v n s = (i : ℕ) → 1 ≤ i → i ≤ n → mark (word s finish_sent_at) i ≡ true → finishing v ≡ true

pub finishes_few : (v n : ℕ) (s : List ℕ) → Sent v n s → finishes n s ≤ cond (finishing v) n 0
finishes_few v n s h = by (finishing v) refl
  where
    no : finishing v ≡ false → (i : ℕ) → 1 ≤ i → i ≤ n → (b : Bool) → mark (word s finish_sent_at) i ≡ b → mark (word s finish_sent_at) i ≡ false
    no e i lo hi true f = absurd (false≢true (sym e ∙ h i lo hi f))
    no e i lo hi false f = f

    by : (b : Bool) → finishing v ≡ b → finishes n s ≤ cond b n 0
    by true e = count_le (mark (word s finish_sent_at)) n
    by false e = omega (arith, total_none (λ p. 1) (mark (word s finish_sent_at)) n (λ i lo hi. no e i lo hi (mark (word s finish_sent_at) i) refl))

-- FINISH, or an act that the potential measures
data Which (a : Act) : Type 0 where
  plain : Plain a → Spared a finish_sent_at → Which a
  finish : (i b : ℕ) → a ≡ Finish i b → Which a

which : (a : Act) → Placed a → Which a
which Idle p = plain tt tt
which InForce p = plain tt (λ e. omega arith)
which (Commit k) p = plain tt (λ e. omega arith)
which (Send v) p = plain tt (λ e. omega arith)
which (Echo i v) p = plain tt (λ e. omega arith)
which (Ready i v) p = plain tt (λ e. omega arith)
which (Start i b) p = plain tt (λ e. omega arith, λ e. omega arith)
which (Relay i r b) p = plain tt (λ e. omega arith)
which (Aux i r b) p = plain tt (λ e. omega arith)
which (Move i r v) p = plain tt (λ e. omega arith, λ e. omega arith, λ e. omega arith, λ e. omega arith)
which (Finish i b) p = finish i b refl

module _ (s : List ℕ) (size : length s ≡ 2048) (g : Settings) (ruled : Ruled g) (o : Orderly g.n s) (unclosed : closed s ≡ false) where
  -- an act that leaves the word of FINISHes
  plain_measured : (a : Act) → is_due a ≡ true → Plain a → Spared a finish_sent_at → ActTold g s a → measure g.n (applied s a) ≡ measure g.n s + 1
  unfolding measure
  plain_measured a d x p h =
      let same : finishes g.n (applied s a) ≡ finishes g.n s = ap (λ (w : ℕ). count (mark w) g.n) (applied_other s a finish_sent_at (λ e. omega arith) p) in
      omega (arith, same, act_raises s size g ruled o unclosed a d x h, act_by_one s size g ruled a x h)

  module _ (i b : ℕ) (h : ActTold g s (Finish i b)) where
    abbrev t : List ℕ
    t = applied s (Finish i b)

    few : i ≤ 16
    few = omega (arith, h.0.high, ruled.few)

    other : (k : ℕ) → (k ≡ 6 → ⊥) → (k ≡ 144 → ⊥) → word t k ≡ word s k
    other k a c = applied_other s (Finish i b) k a c

    keeps : (k : ℕ) → (u v : List ℕ) → word v k ≡ word u k → Keeps k u v
    keeps k u v e p m = ap (λ (w : ℕ). mark w p) e ∙ m

    grows : (u v : List ℕ) → ((k : ℕ) → (k ≡ 6 → ⊥) → (k ≡ 144 → ⊥) → word v k ≡ word u k) → Grows g.n u v
    grows u v same =
        record {
          flags = keeps 7 u v (same 7 (λ e. omega arith) (λ e. omega arith));
          echoes = keeps 136 u v (same 136 (λ e. omega arith) (λ e. omega arith));
          readies = keeps 137 u v (same 137 (λ e. omega arith) (λ e. omega arith));
          ests = λ j lo hi. keeps (est_sent_at j) u v (same (est_sent_at j) (λ e. omega arith) (λ e. omega (arith, ruled.few)));
          auxs = λ j lo hi. keeps (aux_sent_at j) u v (same (aux_sent_at j) (λ e. omega arith) (λ e. omega (arith, ruled.few)));
          moved_out = λ j lo hi e. same (round_at j) (λ z. omega arith) (λ z. omega (arith, ruled.few)) ∙ e;
        }

    finish_word : MarkWord 144
    finish_word = record { not_turns = λ e. omega arith; not_round = λ j lo hi e. omega arith }

    marks : word t finish_sent_at ≡ with_mark (word s finish_sent_at) i
    unfolding applied turn.done
    marks = counted_mark s size finish_sent_at i (omega arith) (λ e. omega arith)

    new : mark (word t finish_sent_at) i ≡ true
    unfolding finish_sent marked
    new = finish_marked s size i b h.0.low few

    clear : mark (word s finish_sent_at) i ≡ false
    unfolding finish_sent marked
    clear = h.1.unsent

    finish_measured : measure g.n t ≡ measure g.n s + 1
    unfolding measure
    finish_measured =
        omega (
          arith,
          potential_grows g.n s t (grows s t other),
          potential_grows g.n t s (grows t s (λ k a c. sym (other k a c))),
          marks_add (word s finish_sent_at) (word t finish_sent_at) i g.n marks,
          count_rises (mark (word s finish_sent_at)) (mark (word t finish_sent_at)) g.n i h.0.low h.0.high
              (λ q lo hi. keeps_applied 144 finish_word s (Finish i b) (h.0.low, few) q) clear new,
        )

  pub act_measured : (a : Act) → is_due a ≡ true → ActTold g s a → measure g.n (applied s a) ≡ measure g.n s + 1
  act_measured a d h = by (which a (told_placed g s ruled a h))
    where
      by : Which a → measure g.n (applied s a) ≡ measure g.n s + 1
      by (plain x p) = plain_measured a d x p h
      by (finish i b e) = rw e (finish_measured i b (rw e at h))

  -- a FINISH is sent only where there are FINISHes
  pub act_sent : (v : ℕ) → version s ≡ v → Sent v g.n s → (a : Act) → ActTold g s a → Sent v g.n (applied s a)
  act_sent v e x a h j lo hi m = by (which a (told_placed g s ruled a h))
    where
      by : Which a → finishing v ≡ true
      by (plain y p) = x j lo hi (ap (λ (w : ℕ). mark w j) (sym (applied_other s a finish_sent_at (λ z. omega arith) p)) ∙ m)
      by (finish i b q) = let t : ActTold g s (Finish i b) = rw q at h in ap finishing (sym e) ∙ t.1.allowed
