-- R keeps the memory sound, and neither of its loops ends for want of turns or rounds.
use Prim.Native.Nat.{ℕ, zero, suc, ◌+◌, ◌-◌, ◌≤◌, ◌<◌}
use Rattle.std.specs.Prelude.{Bool, ◌≡◌, Ok}
use Rattle.std.proofs.Math.Bool.{true, false, cond}
use Rattle.std.proofs.lemmas.Bool.{false≢true}
use mathlib.Core.List.{List}
use Rattle.std.proofs.Math.Path.{refl, ap}
use Rattle.std.proofs.Common.{sym, ◌∙◌, arith}
use Rattle.std.proofs.Math.ListN.{length}
use borrow.Author.Tests.{ltb-true}
use Rattle.quorum.specs.Marks.{mark}
use Rattle.acts.specs.Acts.{is_due}
use Rattle.acts.specs.declared.Act.{Act}
use Rattle.acts.specs.declared.Act.TheVariants.{Idle, InForce, Commit, Send, Echo, Ready, Start, Relay, Aux, Move, Finish}
use Rattle.turn.specs.Due.{due}
use Rattle.turn.specs.Turn.{outcome_of, applied, turn_outcome}
use Rattle.turn.specs.laws.Admitting.{admitted_ruled}
use Rattle.turn.proofs.laws.Frame.{told_placed, length_applied, applied_turns}
use Rattle.turn.specs.laws.Turn.{Way, refused, taken, way}
use Rattle.drill_feeder.specs.Parts.{state_of, room_for, message_at, sender_at}
use Rattle.drill_feeder.specs.Steps.{steps}
use Rattle.drill_feeder.specs.Lines.{message_delivered, Memory, memory, outcome_at, turned, goes_on, turn_goes_on, sweep, sweep_if, swept, offer_to, offer, offer_next, offered, any_left, ran}
use Rattle.drill_feeder.specs.declared.Counts.{Counts}
use Rattle.drill_feeder.specs.declared.Members.{Members}
use Rattle.drill_laws.proofs.laws.States.{length_state_of, state_same}
use Rattle.drill_laws.specs.Sound.{turns_of}
use Rattle.drill_laws.proofs.laws.Sound.{Sound, sum_le, deliver_sound}
use Rattle.drill_laws.proofs.laws.Turns.{SoundIn, turned_sound, counted_more}

-- what each of the steps 1 to n keeps, all of them keep
pub steps_keep : {A : Type 0} (P : A → Type 0) (f : ℕ → A → A) (n : ℕ) → ((k : ℕ) → 1 ≤ k → k ≤ n → (x : A) → P x → P (f k x)) → (x : A) → P x → P (steps f n x)
unfolding steps
steps_keep P f zero h x e = e
steps_keep P f (suc n) h x e = h (suc n) (omega arith) (omega arith) (steps f n x) (steps_keep P f n (λ k l m. h k l (omega arith)) x e)

pub if_keep : {A : Type 0} (P : A → Type 0) (b : Bool) (x y : A) → P x → P y → P (cond b x y)
if_keep P true x y p q = p
if_keep P false x y p q = q

unfoldable pub offered_of : Memory → ℕ
offered_of (memory w m c) = c.offered

unfoldable pub turns_in : ℕ → Memory → ℕ
turns_in p (memory w m c) = turns_of w p

-- sound, with so many messages delivered by an R
pub record Kept (o : ℕ) (x : Memory) : Type 0 where
  pub sound : SoundIn x
  pub same : offered_of x ≡ o

module _ (o p : ℕ) (lo : 1 ≤ p) (hi : p ≤ 4) where
  pub turned_kept : (x : Memory) → Kept o x → Kept o (turned p x)
  unfolding turned offered_of
  turned_kept (memory w m c) h = record { sound = turned_sound (memory w m c) p lo hi h.sound; same = (counted_more _ c).2 ∙ h.same }

  pub sweep_kept : (k : ℕ) (x : Memory) → Kept o x → Kept o (sweep p k x)
  unfolding sweep
  sweep_kept zero x h = h
  sweep_kept (suc k) x h = if_keep (Kept o) (turn_goes_on p x) _ _ (sweep_kept k (turned p x) (turned_kept x h)) (turned_kept x h)

-- a turn that goes on is counted
module _ (p : ℕ) (lo : 1 ≤ p) (hi : p ≤ 4) where
  due_goes : (own : ℕ) (s : List ℕ) (a : Act) → goes_on (Ok (outcome_of own s a)) ≡ true → is_due a ≡ true
  unfolding goes_on outcome_of
  due_goes own s Idle e = e
  due_goes own s InForce e = refl
  due_goes own s (Commit k) e = refl
  due_goes own s (Send v) e = refl
  due_goes own s (Echo i v) e = refl
  due_goes own s (Ready i v) e = refl
  due_goes own s (Start i b) e = refl
  due_goes own s (Relay i r b) e = refl
  due_goes own s (Aux i r b) e = refl
  due_goes own s (Move i r v) e = refl
  due_goes own s (Finish i b) e = refl

  goes_way : (w m : List ℕ) (c : Counts) → Sound w m c → goes_on (turn_outcome (state_of w p) (length (room_for m c.sent))) ≡ true → Way (state_of w p) (room_for m c.sent) →
      turns_in p (turned p (memory w m c)) ≡ turns_of w p + 1
  unfolding goes_on turned turns_in turns_of
  goes_way w m c h e (refused k r) = absurd (false≢true (ap goes_on (sym r.answer) ∙ e))
  goes_way w m c h e (taken x t) =
      let s : List ℕ = state_of w p in
      let out : List ℕ = room_for m c.sent in
      let a : Act = due x.settings s in
      let size : length s ≡ 2048 = length_state_of w p h.words lo hi in
      let goes : goes_on (Ok (outcome_of x.own s a)) ≡ true = ap goes_on (sym t.answer) ∙ e in
      rw (t.words, state_same w p h.words lo hi (applied s a) (length_applied s a ∙ size))
      (applied_turns s a (told_placed x.settings s (admitted_ruled s (length out) x t.admits) a t.told) (omega (arith, size)) (due_goes x.own s a goes))

  goes_counted : (x : Memory) → SoundIn x → turn_goes_on p x ≡ true → turns_in p (turned p x) ≡ turns_in p x + 1
  unfolding turn_goes_on outcome_at turns_in
  goes_counted (memory w m c) h e = goes_way w m c h e (way (state_of w p) (room_for m c.sent))

  turns_bound : (x : Memory) → SoundIn x → turns_in p x ≤ 400
  unfolding turns_in
  turns_bound (memory w m c) h = h.bound p lo hi

  -- more turns than are left change nothing
  pub sweep_ends : (k l : ℕ) (x : Memory) → k ≤ l → SoundIn x → 401 ≤ k + turns_in p x → sweep p l x ≡ sweep p k x
  unfolding sweep
  sweep_ends zero l x le h f = absurd (omega (arith, turns_bound x h))
  sweep_ends (suc k) zero x le h f = absurd (omega arith)
  sweep_ends (suc k) (suc l) x le h f = go (λ y e n. sweep_ends k l y (omega arith) e n) (turn_goes_on p x) refl
    where
      go : ((y : Memory) → SoundIn y → 401 ≤ k + turns_in p y → sweep p l y ≡ sweep p k y) → (b : Bool) → turn_goes_on p x ≡ b →
          cond b (sweep p l (turned p x)) (turned p x) ≡ cond b (sweep p k (turned p x)) (turned p x)
      go r true e = r (turned p x) (turned_sound x p lo hi h) (omega (arith, goes_counted x h e))
      go r false e = refl

-- each honest one, the lowest first, takes turns until one is idle, refused or puts a set in force (PROTOCOL 15.14)
module _ (g : Members) (few : g.n ≤ 4) where
  pub swept_kept : (o : ℕ) (x : Memory) → Kept o x → Kept o (swept 401 g x)
  unfolding swept sweep_if
  swept_kept o x h =
      steps_keep (Kept o) (sweep_if 401 g.honest) g.n
      (λ p lo hi y e. if_keep (Kept o) (mark g.honest p) (sweep p 401 y) y (sweep_kept o p lo (omega arith) 401 y e) e)
      x h

  -- messages that no R has delivered go to all honest ones (PROTOCOL 15.14)
  offer_sound : (w m : List ℕ) (c : Counts) (k : ℕ) → Sound w m c → Sound (offer g m k w) m c
  unfolding offer offer_to message_delivered
  offer_sound w m c k h =
      steps_keep (λ (v : List ℕ). Sound v m c) (offer_to g.honest m k) g.n
      (λ q lo hi v e. if_keep (λ (u : List ℕ). Sound u m c) (mark g.honest q) (message_delivered m k q v) v (deliver_sound v m (message_at m k) c q (sender_at m k) lo (omega arith) e) e)
      w h

  offers_sound : (w m : List ℕ) (c : Counts) (done n : ℕ) → Sound w m c → Sound (steps (offer_next g m done) n w) m c
  unfolding offer_next
  offers_sound w m c done n h = steps_keep (λ (v : List ℕ). Sound v m c) (offer_next g m done) n (λ j lo hi v e. offer_sound v m c (done + j) e) w h

  all_offered : (w m : List ℕ) (c : Counts) → Sound w m c → Sound w m (record { sent = c.sent; offered = c.sent })
  all_offered w m c h = record { words = h.words; store = h.store; few = h.few; bound = h.bound; sent = h.sent; offered = omega arith }

  pub offered_sound : (x : Memory) → SoundIn x → SoundIn (offered g x)
  unfolding offered
  offered_sound (memory w m c) h = all_offered _ m c (offers_sound w m c c.offered (c.sent - c.offered) h)

  pub ran_sound : (k : ℕ) (x : Memory) → SoundIn x → SoundIn (ran 401 g k x)
  unfolding ran
  ran_sound zero x h = h
  ran_sound (suc k) x h =
      let y : SoundIn (swept 401 g x) = (swept_kept (offered_of x) x (record { sound = h; same = refl })).sound in
      if_keep SoundIn (any_left (swept 401 g x)) _ _ (ran_sound k (offered g (swept 401 g x)) (offered_sound (swept 401 g x) y)) y

  -- a round that is not the last delivers a message
  sent_bound : (x : Memory) → SoundIn x → offered_of x ≤ 1600
  unfolding offered_of
  sent_bound (memory w m c) h = omega (arith, h.sent, h.offered, sum_le w 4 h.bound)

  offers_more : (x : Memory) → any_left x ≡ true → offered_of x < offered_of (offered g x)
  unfolding any_left offered_of offered
  offers_more (memory w m c) e = ltb-true c.offered c.sent e

  -- more rounds than are left change nothing
  pub ran_ends : (k l : ℕ) (x : Memory) → k ≤ l → SoundIn x → 1601 ≤ k + offered_of x → ran 401 g l x ≡ ran 401 g k x
  unfolding ran
  ran_ends zero l x le h f = absurd (omega (arith, sent_bound x h))
  ran_ends (suc k) zero x le h f = absurd (omega arith)
  ran_ends (suc k) (suc l) x le h f = go (λ y e n. ran_ends k l y (omega arith) e n) (swept_kept (offered_of x) x (record { sound = h; same = refl })) (any_left (swept 401 g x)) refl
    where
      go : ((y : Memory) → SoundIn y → 1601 ≤ k + offered_of y → ran 401 g l y ≡ ran 401 g k y) → Kept (offered_of x) (swept 401 g x) → (b : Bool) → any_left (swept 401 g x) ≡ b →
          cond b (ran 401 g l (offered g (swept 401 g x))) (swept 401 g x) ≡ cond b (ran 401 g k (offered g (swept 401 g x))) (swept 401 g x)
      go r s true e = r (offered g (swept 401 g x)) (offered_sound (swept 401 g x) s.sound) (omega (arith, offers_more (swept 401 g x) e, s.same))
      go r s false e = refl
