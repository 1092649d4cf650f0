-- The array of outputs: what is read of it, and what the loop keeps that fills it.
use Rattle.std.specs.Prelude.{ℕ, ◌+◌, ◌-◌, ◌≤◌, ◌<◌, Bool, ◌&&◌, List, ◌≢◌, ◌≡◌, leb, length, Option, Some, None}
use Rattle.std.proofs.Math.Bool.{true, false, cond}
use Rattle.std.proofs.Math.Path.{refl}
use Rattle.std.proofs.Common.{sym, ap, subst, ◌∙◌, arith, le-leb}
use Rattle.std.proofs.Math.Decide.{dec_le}
use Rattle.std.proofs.lemmas.Bool.{lt-leb}
use Rattle.settings.specs.declared.Settings.{Settings}
use Rattle.quorum.specs.Marks.{mark, with_mark}
use Rattle.quorum.specs.laws.Marks.{mark_zero, mark_low, mark_same, mark_other}
use Rattle.records.specs.Words.{word, put}
use Rattle.records.specs.laws.Words.{length_put, word_put_same, word_put_other}
use Rattle.broadcasts.specs.Leading.{present}
use Rattle.broadcasts.specs.Broadcasts.{output}
use Rattle.broadcasts.specs.Outputs.{output_at, Outputs}
use Rattle.broadcasts.specs.laws.Outputs.{stored_marks, stored_values, Stored}

module _ (outputs : ℕ) (values : List ℕ) (i : ℕ) where
  pub at_marked : i ≤ 16 → mark outputs i ≡ true → output_at outputs values i ≡ Some (word values (i - 1))
  unfolding output_at
  at_marked l e = rw (le-leb i 16 l, e)

  pub at_clear : mark outputs i ≡ false → output_at outputs values i ≡ None
  unfolding output_at
  at_clear e = go (leb i 16)
    where
      go : (b : Bool) → cond (b && mark outputs i) (Some (word values (i - 1))) None ≡ None
      go true = rw e
      go false = refl

  pub at_above : 16 < i → output_at outputs values i ≡ None
  unfolding output_at
  at_above l = rw (lt-leb i 16 l)

  pub at_present : i ≤ 16 → present (output_at outputs values i) ≡ mark outputs i
  at_present l = go (mark outputs i) refl
    where
      go : (b : Bool) → mark outputs i ≡ b → present (output_at outputs values i) ≡ b
      go true e = ap present (at_marked l e)
      go false e = ap present (at_clear e)

  -- the paths of `output_at`
  pub read_none : i < 1 → None ≡ output_at outputs values i
  read_none l = sym (at_clear (mark_low outputs i l))

  pub read_above : 16 < i → None ≡ output_at outputs values i
  read_above l = sym (at_above l)

  pub read_marked : (b : Bool) (v : ℕ) → i ≤ 16 → b ≡ mark outputs i → b ≡ true → v ≡ word values (i - 1) → Some v ≡ output_at outputs values i
  read_marked b v l e t w = sym (at_marked l (sym e ∙ t) ∙ ap Some (sym w))

  pub read_clear : (b : Bool) → b ≡ mark outputs i → b ≡ false → None ≡ output_at outputs values i
  read_clear b e t = sym (at_clear (sym e ∙ t))

pub ruleset output_reads = (read_none, read_above, read_marked, read_clear)

-- the path of `store_output`
pub stored_value : (outputs : ℕ) (values : List ℕ) (i v : ℕ) (o : Option ℕ) (outputs' : ℕ) (values' : List ℕ) → o ≡ Some v → outputs' ≡ with_mark outputs i → values' ≡ put values (i - 1) v → Stored outputs values i o outputs' values'
stored_value outputs values i v o outputs' values' e f h = rw e (record { new_marks = f; new_values = h })

-- another broadcast's output stays
kept : (outputs : ℕ) (values : List ℕ) (i j v : ℕ) → 1 ≤ i → 1 ≤ j → j ≢ i → output_at (with_mark outputs i) (put values (i - 1) v) j ≡ output_at outputs values j
unfolding output_at
kept outputs values i j v a b ne =
    let apart : j - 1 ≢ i - 1 = λ e. ne (omega arith) in
    rw (mark_other outputs i j ne, word_put_other values (i - 1) v (j - 1) apart)

-- the one that was stored is read back
same : (outputs : ℕ) (values : List ℕ) (i v : ℕ) → 1 ≤ i → i ≤ 16 → length values ≡ 16 → output_at (with_mark outputs i) (put values (i - 1) v) i ≡ Some v
same outputs values i v a b e =
    at_marked (with_mark outputs i) (put values (i - 1) v) i b (mark_same outputs i a (omega arith))
    ∙ ap Some (word_put_same values (i - 1) v (omega arith))

module _ (g : Settings) (s : List ℕ) where
  pub outputs_start : (values : List ℕ) → length values ≡ 16 → Outputs g s 0 0 values
  outputs_start values e =
      record { within = omega arith; size = e; each = λ i a b l. absurd (omega arith); none = λ i l. mark_zero i }

  step : (k outputs : ℕ) (values : List ℕ) → Outputs g s k outputs values → k < g.n → (o : Option ℕ) → o ≡ output g s (k + 1) → Outputs g s (k + 1) (stored_marks outputs (k + 1) o) (stored_values values (k + 1) o)
  step k outputs values x l (Some v) e =
      record {
        within = omega arith;
        size = length_put values (k + 1 - 1) v ∙ x.size;
        each = λ i a b h. go i a b h (dec_le i k);
        none = λ i h. mark_other outputs (k + 1) i (λ z. omega arith) ∙ x.none i (omega arith);
      }
    where
      go : (i : ℕ) → 1 ≤ i → i ≤ k + 1 → i ≤ 16 → Dec (i ≤ k) → output_at (with_mark outputs (k + 1)) (put values (k + 1 - 1) v) i ≡ output g s i
      go i a b h (yes d) = kept outputs values (k + 1) i v (omega arith) a (λ z. omega arith) ∙ x.each i a d h
      go i a b h (no d) =
          let z : k + 1 ≡ i = omega arith in
          let here : output_at (with_mark outputs (k + 1)) (put values (k + 1 - 1) v) (k + 1) ≡ output g s (k + 1) = same outputs values (k + 1) v (omega arith) (omega arith) x.size ∙ e in
          subst (λ (m : ℕ). output_at (with_mark outputs (k + 1)) (put values (k + 1 - 1) v) m ≡ output g s m) z here
  step k outputs values x l None e =
      record { within = omega arith; size = x.size; each = λ i a b h. go i a b h (dec_le i k); none = λ i h. x.none i (omega arith) }
    where
      go : (i : ℕ) → 1 ≤ i → i ≤ k + 1 → i ≤ 16 → Dec (i ≤ k) → output_at outputs values i ≡ output g s i
      go i a b h (yes d) = x.each i a d h
      go i a b h (no d) =
          let z : k + 1 ≡ i = omega arith in
          let here : output_at outputs values (k + 1) ≡ output g s (k + 1) = at_clear outputs values (k + 1) (x.none (k + 1) (omega arith)) ∙ e in
          subst (λ (m : ℕ). output_at outputs values m ≡ output g s m) z here

  pub outputs_next : (k outputs : ℕ) (values : List ℕ) (o : Option ℕ) (outputs' : ℕ) (values' : List ℕ) → Outputs g s k outputs values → k < g.n → o ≡ output g s (k + 1) → Stored outputs values (k + 1) o outputs' values' → Outputs g s (k + 1) outputs' values'
  outputs_next k outputs values o outputs' values' x l e t = rw (t.new_marks, t.new_values) (step k outputs values x l o e)

  pub outputs_done : (k outputs : ℕ) (values : List ℕ) → Outputs g s k outputs values → g.n ≤ k → Outputs g s g.n outputs values
  outputs_done k outputs values x l = let e : k ≡ g.n = omega arith in subst (λ (m : ℕ). Outputs g s m outputs values) e x

pub ruleset storing = (outputs_next, outputs_done)
