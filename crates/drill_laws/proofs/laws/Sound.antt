-- No message is lost: those sent are no more than the turns that the sessions have counted, and these are at most 1,600.
use Rattle.std.specs.Prelude.{ℕ, zero, suc, ◌+◌, ◌*◌, ◌≤◌, ◌<◌, ◌≢◌, ◌≡◌, refl, length, drop, Result, Ok, Err}
use mathlib.Core.List.{List}
use Rattle.std.proofs.Common.{inl, inr, sym, subst, ◌∙◌, arith}
use Rattle.std.proofs.Math.Path.{ap}
use Rattle.std.proofs.Math.Decide.{ℕ_discrete}
use Rattle.records.specs.Layout.{n_at, turns_at, version_at}
use Rattle.records.specs.Words.{word}
use Rattle.wire.specs.declared.Message.{Message}
use Rattle.delivery.specs.Delivery.{verdict, words_after, delivered}
use Rattle.delivery.specs.laws.Frame.{Changed, word_recorded, length_recorded}
use Rattle.session.specs.Session.{settings_of, session_with, session_of}
use Rattle.wire_laws.proofs.laws.Forms.{Form}
use Rattle.wire_laws.proofs.Converse.{taken_form}
use Rattle.delivery.specs.laws.Accepting.{accepting}
use Rattle.delivery.specs.laws.Kept.{in_layout_lem, word_free}
use Rattle.drill_feeder.specs.Parts.{state_of, with_state}
use Rattle.drill_feeder.specs.Lines.{delivered_to, more}
use Rattle.drill_feeder.specs.declared.Counts.{Counts}
use Rattle.drill_laws.proofs.laws.States.{length_state_of, length_with_state, state_same, state_other}
use Rattle.drill_laws.specs.Sound.{turns_of, all_turns}
use Rattle.wire.specs.declared.Message.TheVariants as message
use Rattle.settings.specs.declared.refusal.Refusal.{Refusal}

-- a session of a drill has at most 4 concentrators, and is of version 1
pub record Drilled (s : List ℕ) : Type 0 where
  pub small : word s n_at ≤ 4
  pub first : word s version_at ≤ 1

-- what holds of the memory of a drill at all times
pub record Sound (w m : List ℕ) (c : Counts) : Type 0 where
  pub words : length w ≡ 8192
  pub store : length m ≡ 70496
  pub few : (p : ℕ) → 1 ≤ p → p ≤ 4 → Drilled (state_of w p)
  pub bound : (p : ℕ) → 1 ≤ p → p ≤ 4 → turns_of w p ≤ 400
  pub sent : c.sent ≤ all_turns w 4
  pub offered : c.offered ≤ c.sent

-- a sum of which one part changes, and of which one part is smaller
sum_same : (w v : List ℕ) (n : ℕ) → ((q : ℕ) → 1 ≤ q → q ≤ n → turns_of v q ≡ turns_of w q) → all_turns v n ≡ all_turns w n
unfolding all_turns
sum_same w v zero h = refl
sum_same w v (suc n) h = omega (arith, sum_same w v n (λ q l k. h q l (omega arith)), h (suc n) (omega arith) (omega arith))

sum_one : (w v : List ℕ) (p d n : ℕ) → 1 ≤ p → p ≤ n → ((q : ℕ) → 1 ≤ q → q ≤ n → q ≢ p → turns_of v q ≡ turns_of w q) → turns_of v p ≡ turns_of w p + d → all_turns v n ≡ all_turns w n + d
unfolding all_turns
sum_one w v p d zero lo hi h e = absurd (omega arith)
sum_one w v p d (suc n) lo hi h e =
    elim (ℕ_discrete p (suc n)) [
      | yes y ↦
          omega
          (arith, sum_same w v n (λ q l k. h q l (omega arith) (λ z. omega arith)), subst (λ (k : ℕ). turns_of v k ≡ turns_of w k + d) y e)
      | no y ↦
          omega
          (arith, sum_one w v p d n lo (omega (arith, y)) (λ q l k z. h q l (omega arith) z) e, h (suc n) (omega arith) (omega arith) (λ z. y (sym z)))
    ]

pub sum_le : (w : List ℕ) (n : ℕ) → ((q : ℕ) → 1 ≤ q → q ≤ n → turns_of w q ≤ 400) → all_turns w n ≤ 400 * n
unfolding all_turns
sum_le w zero h = omega arith
sum_le w (suc n) h = omega (arith, sum_le w n (λ q l k. h q l (omega arith)), h (suc n) (omega arith) (omega arith))

pub sum_lt : (w : List ℕ) (p n : ℕ) → 1 ≤ p → p ≤ n → ((q : ℕ) → 1 ≤ q → q ≤ n → turns_of w q ≤ 400) → turns_of w p < 400 → all_turns w n < 400 * n
unfolding all_turns
sum_lt w p zero lo hi h l = absurd (omega arith)
sum_lt w p (suc n) lo hi h l =
    elim (ℕ_discrete p (suc n)) [
      | yes y ↦ omega (arith, sum_le w n (λ q a b. h q a (omega arith)), subst (λ (k : ℕ). turns_of w k < 400) y l)
      | no y ↦ omega (arith, sum_lt w p n lo (omega (arith, y)) (λ q a b. h q a (omega arith)) l, h (suc n) (omega arith) (omega arith))
    ]

-- a session's state is replaced by one that has counted d turns more
module _ (w m m' : List ℕ) (c c' : Counts) (p d : ℕ) (lo : 1 ≤ p) (hi : p ≤ 4) (h : Sound w m c) (s : List ℕ) where
  pub replaced : length s ≡ 2048 → length m' ≡ length m → Drilled s → word s turns_at ≡ turns_of w p + d → word s turns_at ≤ 400 → c'.sent ≤ c.sent + d →
      c'.offered ≤ c'.sent → Sound (with_state w p s) m' c'
  unfolding turns_of
  replaced size kept n turns bound more left =
      let same : state_of (with_state w p s) p ≡ s = state_same w p h.words lo hi s size in
      let grown : all_turns (with_state w p s) 4 ≡ all_turns w 4 + d =
      sum_one w (with_state w p s) p d 4 lo hi (λ q l k z. ap (λ (t : List ℕ). word t turns_at) (state_other w p h.words lo hi s size q l k z)) (ap (λ (t : List ℕ). word t turns_at) same ∙ turns) in
      record {
        words = length_with_state w p h.words lo hi s size;
        store = kept ∙ h.store;
        few = λ q l k. elim (ℕ_discrete q p) [
          | yes z ↦ rw (z, same) n
          | no z ↦ rw (state_other w p h.words lo hi s size q l k z) (h.few q l k)
        ];
        bound = λ q l k. elim (ℕ_discrete q p) [
          | yes z ↦ rw (z, same) bound
          | no z ↦ rw (state_other w p h.words lo hi s size q l k z) (h.bound q l k)
        ];
        sent = omega (arith, h.sent, grown);
        offered = left;
      }

-- a delivery counts no turn
spared : (p : ℕ) (k : Message) (a : ℕ) → a ≤ 6 → Changed p k a → ⊥
spared p (message.Send i x) a l (inl e) = omega arith
spared p (message.Send i x) a l (inr e) = omega arith
spared p (message.Echo i x) a l (inl e) = omega arith
spared p (message.Echo i x) a l (inr e) = omega arith
spared p (message.Ready i x) a l (inl e) = omega arith
spared p (message.Ready i x) a l (inr e) = omega arith
spared p (message.Est i r b) a l (inl e) = omega arith
spared p (message.Est i r b) a l (inr e) = omega arith
spared p (message.Aux i r b) a l e = omega arith
spared p (message.Commit k) a l (inl e) = omega arith
spared p (message.Commit k) a l (inr e) = omega arith
spared p (message.Finish i b) a l (inl e) = omega arith
spared p (message.Finish i b) a l (inr e) = omega arith

after_word : (v : Result Message Refusal) (s b : List ℕ) (link a : ℕ) → a ≤ 6 → word (words_after v s link b) a ≡ word s a
unfolding words_after
after_word (Err k) s b link a l = refl
after_word (Ok k) s b link a l = word_recorded s (drop 12 b) link k a (spared link k a l)

-- .. nor changes the version
after_version : (v : Result Message Refusal) (s b : List ℕ) (link : ℕ) → verdict s link b ≡ v → word (words_after v s link b) version_at ≡ word s version_at
unfolding words_after session_of session_with settings_of
after_version (Err k) s b link e = refl
after_version (Ok k) s b link e =
    let x = accepting s link b k e in
    let f : Form (word s version_at) (word s n_at) (session_of s).number link b k = taken_form _ _ _ link b k x.taken in
    word_free s (drop 12 b) link k version_at (in_layout_lem (word s n_at) link k x.state.ruled.few f.link_low f.link_high f.layout) (omega arith) (omega arith)

after_length : (v : Result Message Refusal) (s b : List ℕ) (link : ℕ) → length (words_after v s link b) ≡ length s
unfolding words_after
after_length (Err k) s b link = refl
after_length (Ok k) s b link = length_recorded s (drop 12 b) link k

pub deliver_sound : (w m b : List ℕ) (c : Counts) (q link : ℕ) → 1 ≤ q → q ≤ 4 → Sound w m c → Sound (delivered_to w q link b) m c
unfolding delivered_to delivered turns_of
deliver_sound w m b c q link lo hi h =
    let s : List ℕ = state_of w q in
    let v : Result Message Refusal = verdict s link b in
    replaced w m m c c q 0 lo hi h (words_after v s link b)
    (after_length v s b link ∙ length_state_of w q h.words lo hi)
    refl
    (record {
      small = rw (after_word v s b link 0 (omega arith)) (h.few q lo hi).small;
      first = rw (after_version v s b link refl) (h.few q lo hi).first;
    })
    (after_word v s b link 6 (omega arith) ∙ omega arith)
    (rw (after_word v s b link 6 (omega arith)) (h.bound q lo hi))
    (omega arith)
    h.offered
