-- The groups of marks in a round's word, and in a vote's word of FINISHes.
use Rattle.std.specs.Prelude.{ℕ, ◌+◌, ◌*◌, Bool, ◌||◌, List, ◌≡◌}
use Rattle.std.proofs.Math.Path.{ap}
use Rattle.std.proofs.Common.{◌∙◌}
use native.Mathlib.Omega.{arith}
use Rattle.quorum.specs.Marks.{mark}
use Rattle.quorum.specs.Weights.{weigh}
use Rattle.records.specs.Words.{marked}
use Rattle.records.specs.MarkWords.{vote_marks, finish_marks}
use Rattle.records.specs.Records.{est_held, aux_held, finish_held}

module _ (s : List ℕ) (i r w : ℕ) (e : w ≡ vote_marks s i r) where
  pub est_mark_lem : (b p : ℕ) (c : Bool) → c ≡ mark w (16 * b + p) → c ≡ est_held s i r b p
  unfolding est_held marked
  est_mark_lem b p c f = cc

  pub aux_mark_lem : (p : ℕ) (a b : Bool) → a ≡ mark w (32 + p) → b ≡ mark w (48 + p) → (a || b) ≡ (aux_held s i r 0 p || aux_held s i r 1 p)
  unfolding aux_held marked
  aux_mark_lem p a b f g = rw (f, g, e)

  pub est_weighed : (b n c ws : ℕ) → c ≡ weigh ws (λ p. mark w (16 * b + p)) n → c ≡ weigh ws (est_held s i r b) n
  unfolding est_held marked
  est_weighed b n c ws h = h ∙ ap (λ (x : ℕ). weigh ws (λ p. mark x (16 * b + p)) n) e

  pub aux_weighed : (b n c ws : ℕ) → c ≡ weigh ws (λ p. mark w (32 + 16 * b + p)) n → c ≡ weigh ws (aux_held s i r b) n
  unfolding aux_held marked
  aux_weighed b n c ws h = h ∙ ap (λ (x : ℕ). weigh ws (λ p. mark x (32 + 16 * b + p)) n) e

module _ (s : List ℕ) (i w : ℕ) (e : w ≡ finish_marks s i) where
  pub finish_mark_lem : (p : ℕ) (a b : Bool) → a ≡ mark w p → b ≡ mark w (16 + p) → (a || b) ≡ (finish_held s i 0 p || finish_held s i 1 p)
  unfolding finish_held marked
  finish_mark_lem p a b f g =
      let z : 0 + p ≡ p = omega arith in
      rw (f, g, e, z)

  pub finish_weighed : (b n c ws : ℕ) → c ≡ weigh ws (λ p. mark w (16 * b + p)) n → c ≡ weigh ws (finish_held s i b) n
  unfolding finish_held marked
  finish_weighed b n c ws h = h ∙ ap (λ (x : ℕ). weigh ws (λ p. mark x (16 * b + p)) n) e

pub ruleset groups = (est_mark_lem, aux_mark_lem, est_weighed, aux_weighed, finish_mark_lem, finish_weighed)
