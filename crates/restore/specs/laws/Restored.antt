-- The cases of a restore.
use Rattle.std.specs.Prelude.{ℕ, ◌≤◌, ◌<◌, List, length, Result, Ok, Err}
use Rattle.std.proofs.Math.Path.{◌≡◌, refl, sym}
use Rattle.std.proofs.Common.{◌∙◌, arith}
use borrow.Author.Tests.{eq-eqb, ne_eqb, lt-ltb, le-ltb}
use Rattle.restore.specs.Complete.{lines_of, joined}
use Rattle.restore.specs.Restoring.{Replay, wrong, right, replay, replay_answer, replay_words, replay_bytes, lent_answer, restore_answer, restored_words, restored_bytes}
use Rattle.restore.specs.laws.Replaying.{Replays}
use Rattle.restore.specs.declared.Restored.{Restored}
use Rattle.restore.specs.declared.RestoreError.{RestoreError}
use Rattle.restore.specs.declared.RestoreError.TheVariants as failed
use Rattle.settings.specs.declared.refusal.Refusal.{Refusal}
use Rattle.settings.specs.declared.refusal.Refusal.TheVariants as refusal

-- lines that come to x were restored onto the words v
pub record Restores (x : Replay) (bytes : ℕ) (v lent : List ℕ) (r : Result Restored RestoreError) (after message : List ℕ) : Type 0 where
  pub answer : r ≡ replay_answer x bytes
  pub words : after ≡ replay_words x v
  pub kept : message ≡ replay_bytes x lent

module _ (x : Replay) (bytes : ℕ) (v lent copy message : List ℕ) (r : Result Restored RestoreError) (h : Replays x bytes lent r copy message) where
  pub onto_failed : (k : RestoreError) → r ≡ Err k → Restores x bytes v lent (Err k) v message
  unfolding replay_answer replay_words
  onto_failed k e = record { answer = sym e ∙ h.answer; words = go x (sym h.answer ∙ e); kept = h.kept }
    where
      go : (y : Replay) → replay_answer y bytes ≡ Err k → v ≡ replay_words y v
      go (wrong j) z = refl
      go (right p) z = absurd (let o : ◌≡◌ {A = ℕ} 0 1 = cc in omega arith)

  pub onto_restored : (g : Restored) (after : List ℕ) → r ≡ Ok g → after ≡ copy → Restores x bytes v lent (Ok g) after message
  unfolding replay_answer replay_words
  onto_restored g after e f = record { answer = sym e ∙ h.answer; words = go x (sym h.answer ∙ e) h.words; kept = h.kept }
    where
      go : (y : Replay) → replay_answer y bytes ≡ Ok g → copy ≡ replay_words y copy → after ≡ replay_words y v
      go (wrong j) z w = absurd (let o : ◌≡◌ {A = ℕ} 0 1 = cc in omega arith)
      go (right p) z w = f ∙ w

pub ruleset onto_cases = (onto_failed, onto_restored)

-- too few words or bytes
lent_words : (words room : ℕ) → (words ≡ 2048 → ⊥) → lent_answer words room ≡ Err refusal.NoState
unfolding lent_answer
lent_words words room n = rw (ne_eqb words 2048 n)

lent_short : (words room : ℕ) → words ≡ 2048 → room < 140 → lent_answer words room ≡ Err refusal.Short
unfolding lent_answer
lent_short words room s l = rw (eq-eqb words 2048 s, lt-ltb room 140 l)

lent_enough : (words room : ℕ) → words ≡ 2048 → 140 ≤ room → lent_answer words room ≡ Ok tt
unfolding lent_answer
lent_enough words room s l = rw (eq-eqb words 2048 s, le-ltb room 140 l)

module _ (v journal lent : List ℕ) where
  module _ (k : Refusal) (e : lent_answer (length v) (length lent) ≡ Err k) where
    refused_answer : Err (failed.Lent k) ≡ restore_answer v journal (length lent)
    unfolding restore_answer
    refused_answer = rw e

    refused_words : v ≡ restored_words v journal (length lent)
    unfolding restored_words
    refused_words = rw e

    refused_bytes : lent ≡ restored_bytes (length v) journal lent
    unfolding restored_bytes
    refused_bytes = rw e

  module _ (n : length v ≡ 2048 → ⊥) where
    pub no_state_answer : Err (failed.Lent refusal.NoState) ≡ restore_answer v journal (length lent)
    no_state_answer = refused_answer refusal.NoState (lent_words (length v) (length lent) n)

    pub no_state_words : v ≡ restored_words v journal (length lent)
    no_state_words = refused_words refusal.NoState (lent_words (length v) (length lent) n)

    pub no_state_bytes : lent ≡ restored_bytes (length v) journal lent
    no_state_bytes = refused_bytes refusal.NoState (lent_words (length v) (length lent) n)

  module _ (s : length v ≡ 2048) where
    module _ (l : length lent < 140) where
      pub short_answer : Err (failed.Lent refusal.Short) ≡ restore_answer v journal (length lent)
      short_answer = refused_answer refusal.Short (lent_short (length v) (length lent) s l)

      pub short_words : v ≡ restored_words v journal (length lent)
      short_words = refused_words refusal.Short (lent_short (length v) (length lent) s l)

      pub short_bytes : lent ≡ restored_bytes (length v) journal lent
      short_bytes = refused_bytes refusal.Short (lent_short (length v) (length lent) s l)

    module _ (r : Result Restored RestoreError) (after message : List ℕ) (l : 140 ≤ length lent) (h : Restores (replay (lines_of journal)) (length (joined (lines_of journal))) v lent r after message) where
      pub restored_answer : r ≡ restore_answer v journal (length lent)
      unfolding restore_answer
      restored_answer = h.answer ∙ rw (lent_enough (length v) (length lent) s l)

      pub restored_words_lem : after ≡ restored_words v journal (length lent)
      unfolding restored_words
      restored_words_lem = h.words ∙ rw (lent_enough (length v) (length lent) s l)

      pub restored_bytes_lem : message ≡ restored_bytes (length v) journal lent
      unfolding restored_bytes
      restored_bytes_lem = h.kept ∙ rw (lent_enough (length v) (length lent) s l)

pub ruleset restore_cases = (no_state_answer, no_state_words, no_state_bytes, short_answer, short_words, short_bytes, restored_answer, restored_words_lem, restored_bytes_lem)
