-- Turns after all messages are held: each acts, until nothing is due.
use Prim.Native.Nat.{ℕ, zero, suc, ◌+◌, ◌≤◌}
use Rattle.std.specs.Prelude.{Bool, false, ◌&&◌, List, ◌⊎◌, ◌≡◌, length, Some}
use Rattle.std.proofs.Math.Bool.{true}
use Rattle.std.proofs.Common.{true≢false, inr, sym, ◌∙◌}
use Rattle.std.proofs.Math.Logic.{inl}
use Rattle.std.proofs.Math.Path.{refl, ap}
use native.Mathlib.Omega.{arith}
use Rattle.quorum.specs.laws.Bools.{and_left}
use Rattle.settings.specs.Settings.{quorum}
use Rattle.quorum.specs.Marks.{mark}
use Rattle.quorum.specs.laws.Marks.{mark_other}
use Rattle.quorum.specs.Total.{count}
use Rattle.quorum.specs.laws.Total.{count_all, count_le}
use Rattle.quorum.specs.laws.Whole.{ones_count, ones_whole}
use Rattle.records.specs.Layout.{turns_at, session_at, boxed_at}
use Rattle.records.specs.Words.{word, marked}
use Rattle.records.specs.Words.{blank}
use Rattle.records.specs.laws.Fill.{length_blank}
use Rattle.records.specs.Records.{closed, commit_set}
use Rattle.commits.specs.Commits.{commit_held, same_set, set_holders}
use Rattle.acts.specs.Acts.{is_due}
use Rattle.acts.specs.declared.Act.{Act}
use Rattle.acts.specs.declared.Act.TheVariants.{Idle, InForce, Commit, Send, Echo, Ready, Start, Relay, Aux, Move, Finish}
use Rattle.session.specs.Session.{session_of, session_with, stored}
use Rattle.turn.specs.laws.Told.{ActTold}
use Rattle.turn.specs.Due.{due}
use Rattle.turn.specs.laws.Due.{due_told}
use Rattle.turn.specs.Turn.{applied, admits, taking, turn_words}
use Rattle.turn.specs.Turn as turn_specs
use Rattle.turn.proofs.laws.Frame.{Placed, told_placed, Kept, setting, between, length_applied, applied_idle, applied_other, applied_kept, applied_turns}
use Rattle.turn_bound.proofs.laws.Raising.{counted_mark}
use Rattle.turn_bound.proofs.laws.Sound.{same_settings, sound_state}
use Rattle.turn_bound.proofs.laws.Turning.{turn_sound}
use Rattle.held.specs.laws.Held.{COMMIT}
use Rattle.held.specs.laws.Keeping.{kept_holding, held_back}
use Rattle.held.specs.laws.Staying.{Stays, stays_kept}
use Rattle.costliest.specs.Calls.{Calls, each, turns}
use Rattle.costliest.proofs.laws.Words.{after, turn_after}
use Rattle.costliest.proofs.laws.Saying.{settings, terms, Good, ruled}
use Rattle.costliest.proofs.laws.Hearing.{Prepared, heard_stable}

-- ---- a turn of the session

module _ (n c : ℕ) (low : 1 ≤ n) (few : n ≤ 16) (s : List ℕ) (x : Good n c s) where
  abbrev a : Act
  a = due (settings n) s

  pub told : ActTold (settings n) s a
  told = due_told (settings n) s (ruled n c low few)

  placed : Placed a
  placed = told_placed (settings n) s (ruled n c low few) a told

  is_stored : stored s ≡ Some (session_of s)
  unfolding stored
  is_stored = rw (sound_state (terms n) (ruled n c low few) s x.sound)

  pub turn_words_lem : turn_words s (length (blank 140)) ≡ applied s a
  unfolding taking turn_words admits session_of session_with
  turn_words_lem = rw (sound_state (terms n) (ruled n c low few) s x.sound, x.unclosed, length_blank 140, same_settings (terms n) (ruled n c low few) s x.sound)

  same : (j : ℕ) → Kept j → word (applied s a) j ≡ word s j
  same j k = applied_kept s a placed j k

  pub turn_stays : Stays s (applied s a)
  turn_stays = stays_kept s (applied s a) x.sound.size (length_applied s a) same

  pub turn_good : closed (applied s a) ≡ false → Good n c (applied s a)
  turn_good unclosed =
      record {
        sound = rw turn_words_lem at (turn_sound (terms n) (ruled n c low few) s x.sound (blank 140)).sound;
        session = same session_at (setting (omega arith)) ∙ x.session;
        printed = same boxed_at (between (omega arith) (omega arith)) ∙ x.printed;
        unclosed = unclosed;
        allowed = λ k y num h. x.allowed k y num (held_back s (applied s a) x.sound.size (length_applied s a) (kept_holding s (applied s a) same) k y num.low num.high h);
      }

  pub turn_acts : is_due a ≡ true → word (applied s a) turns_at ≡ word s turns_at + 1
  turn_acts d = applied_turns s a placed (omega (arith, x.sound.size)) d

-- ---- no set is in force while only one COMMIT is held

module _ (n : ℕ) (two : 2 ≤ n) (low : 1 ≤ n) (few : n ≤ 16) (s : List ℕ) (x : Good n 1 s) where
  not_in_force : ActTold (settings n) s InForce → ⊥
  unfolding set_holders quorum
  not_in_force h =
      let p = h.sender in
      let same : set_holders (settings n) s p ≡ count (λ q. commit_held s q && same_set s p q) n = ones_count n (λ q. commit_held s q && same_set s p q) few in
      let all : set_holders (settings n) s p ≡ n = omega (arith, h.holds.enough, count_le (λ q. commit_held s q && same_set s p q) n, ones_whole n few) in
      let there : commit_held s 2 ≡ true = and_left (commit_held s 2) (same_set s p 2) (count_all (λ q. commit_held s q && same_set s p q) n 2 (sym same ∙ all) (omega arith) two) in
      let one = x.allowed 2 (COMMIT (commit_set s 2)) (record { low = omega arith; high = omega arith }) (record { there = there; same = refl }) in
      omega (arith, one.1)

  still_open : (a : Act) → ActTold (settings n) s a → closed (applied s a) ≡ false
  unfolding closed marked applied turn_specs.done
  still_open Idle h = x.unclosed
  still_open InForce h = absurd (not_in_force h)
  still_open (Commit k) h = ap (λ (w : ℕ). mark w 1) (counted_mark s x.sound.size 7 3 (omega arith) (λ z. omega arith)) ∙ mark_other (word s 7) 3 1 (λ z. omega arith) ∙ x.unclosed
  still_open (Send v) h = ap (λ (w : ℕ). mark w 1) (counted_mark s x.sound.size 7 2 (omega arith) (λ z. omega arith)) ∙ mark_other (word s 7) 2 1 (λ z. omega arith) ∙ x.unclosed
  still_open (Echo i v) h = ap (λ (w : ℕ). mark w 1) (applied_other s (Echo i v) 7 (λ z. omega arith) (λ z. omega arith)) ∙ x.unclosed
  still_open (Ready i v) h = ap (λ (w : ℕ). mark w 1) (applied_other s (Ready i v) 7 (λ z. omega arith) (λ z. omega arith)) ∙ x.unclosed
  still_open (Start i b) h = ap (λ (w : ℕ). mark w 1) (applied_other s (Start i b) 7 (λ z. omega arith) (λ z. omega arith, λ z. omega arith)) ∙ x.unclosed
  still_open (Relay i r b) h = ap (λ (w : ℕ). mark w 1) (applied_other s (Relay i r b) 7 (λ z. omega arith) (λ z. omega arith)) ∙ x.unclosed
  still_open (Finish i b) h = ap (λ (w : ℕ). mark w 1) (applied_other s (Finish i b) 7 (λ z. omega arith) (λ z. omega arith)) ∙ x.unclosed
  still_open (Aux i r b) h = ap (λ (w : ℕ). mark w 1) (applied_other s (Aux i r b) 7 (λ z. omega arith) (λ z. omega arith)) ∙ x.unclosed
  still_open (Move i r v) h = ap (λ (w : ℕ). mark w 1) (applied_other s (Move i r v) 7 (λ z. omega arith) (λ z. omega arith, λ z. omega arith, λ z. omega arith, λ z. omega arith)) ∙ x.unclosed

-- ---- k turns

module _ (n : ℕ) (two : 2 ≤ n) (low : 1 ≤ n) (few : n ≤ 16) (begin : List ℕ) where
  -- after k turns from a count of m: all of them acted, or nothing is due
  pub record Turning (m k : ℕ) (s : List ℕ) : Type 0 where
    pub ready : Prepared n low few begin s
    pub acted : (word s turns_at ≡ m + k) ⊎ (is_due (due (settings n) s) ≡ false)

  next_ready : (s : List ℕ) → Prepared n low few begin s → Prepared n low few begin (applied s (due (settings n) s))
  next_ready s y =
      record {
        good = turn_good n 1 low few s y.good (still_open n two low few s y.good (due (settings n) s) (told n 1 low few s y.good));
        all = heard_stable n low few begin s _ (turn_stays n 1 low few s y.good) y.all;
      }

  next_turn : (m k : ℕ) (s : List ℕ) → Turning m k s → Turning m (suc k) (applied s (due (settings n) s))
  next_turn m k s y = at (is_due (due (settings n) s)) refl y.acted
    where
      a : Act
      a = due (settings n) s

      at : (b : Bool) → is_due (due (settings n) s) ≡ b → (word s turns_at ≡ m + k) ⊎ (is_due (due (settings n) s) ≡ false) → Turning m (suc k) (applied s (due (settings n) s))
      at true d (inl e) = record { ready = next_ready s y.ready; acted = inl (omega (arith, turn_acts n 1 low few s y.ready.good d)) }
      at true d (inr e) = absurd (true≢false (sym d ∙ e))
      at false d e = record { ready = next_ready s y.ready; acted = inr (rw (applied_idle s (due (settings n) s) d) d) }

  pub turns_turning : (k : ℕ) (cs : Calls) → Prepared n low few begin (after begin cs) → Turning (word (after begin cs) turns_at) k (after begin (turns k cs))
  unfolding turns each
  turns_turning zero cs y = record { ready = y; acted = inl (omega arith) }
  turns_turning (suc k) cs y = of (turns_turning k cs y)
    where
      of : Turning (word (after begin cs) turns_at) k (after begin (turns k cs)) → Turning (word (after begin cs) turns_at) (suc k) (after begin (turns (suc k) cs))
      of z = rw (turn_after begin (blank 140) (turns k cs), turn_words_lem n 1 low few (after begin (turns k cs)) z.ready.good) (next_turn (word (after begin cs) turns_at) k (after begin (turns k cs)) z)
