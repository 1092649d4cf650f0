-- Inside an R: the memories that turns and deliveries lead to, and R with other numbers of turns and rounds.
use Prim.Native.Nat.{ℕ, zero, suc, ◌+◌, ◌-◌, ◌≤◌}
use Rattle.std.specs.Prelude.{Bool, true, false, cond, ◌≡◌}
use mathlib.Core.List.{List}
use Rattle.std.proofs.Math.Path.{refl}
use Rattle.std.proofs.Common.{ap, ◌∙◌, arith}
use Rattle.quorum.specs.Marks.{mark}
use Rattle.drill_feeder.specs.Parts.{message_at, sender_at}
use Rattle.drill_feeder.specs.Steps.{steps}
use Rattle.drill_feeder.specs.Lines.{message_delivered, Memory, memory, turned, turn_goes_on, sweep, sweep_if, swept, offer_to, offer, offer_next, offered, any_left, ran}
use Rattle.drill_feeder.specs.declared.Counts.{Counts}
use Rattle.drill_feeder.specs.declared.Members.{Members}
use Rattle.drill_laws.proofs.laws.Sound.{Sound, deliver_sound}
use Rattle.drill_laws.proofs.laws.Turns.{SoundIn, turned_sound}
use Rattle.drill_laws.proofs.laws.Runs.{steps_keep, if_keep, offered_of, sweep_kept, swept_kept, offered_sound, sweep_ends, ran_ends}
use Rattle.drill_laws.specs.Inside.{Through, here, turn, delivery, noted}

pub through_sound : {x y : Memory} → SoundIn x → Through x y → SoundIn y
through_sound h here = h
through_sound h (turn p y lo hi t) = turned_sound y p lo hi (through_sound h t)
through_sound h (delivery q link b w m c lo hi t) = deliver_sound w m b c q link lo hi (through_sound h t)
through_sound h (noted w m c t) =
    let s : Sound w m c = through_sound h t in
    record { words = s.words; store = s.store; few = s.few; bound = s.bound; sent = s.sent; offered = omega arith }

-- R takes no other steps
module _ (x : Memory) (g : Members) (few : g.n ≤ 4) where
  sweep_through : (p k : ℕ) (y : Memory) → 1 ≤ p → p ≤ 4 → Through x y → Through x (sweep p k y)
  unfolding sweep
  sweep_through p zero y lo hi t = t
  sweep_through p (suc k) y lo hi t =
      if_keep (Through x) (turn_goes_on p y) _ _ (sweep_through p k (turned p y) lo hi (turn p y lo hi t)) (turn p y lo hi t)

  swept_through : (y : Memory) → Through x y → Through x (swept 401 g y)
  unfolding swept sweep_if
  swept_through y t =
      steps_keep (Through x) (sweep_if 401 g.honest) g.n
      (λ p lo hi z e. if_keep (Through x) (mark g.honest p) (sweep p 401 z) z (sweep_through p 401 z lo (omega arith) e) e)
      y t

  offer_through : (w m : List ℕ) (c : Counts) (k : ℕ) → Through x (memory w m c) → Through x (memory (offer g m k w) m c)
  unfolding offer offer_to message_delivered
  offer_through w m c k t =
      steps_keep (λ (v : List ℕ). Through x (memory v m c)) (offer_to g.honest m k) g.n
      (λ q lo hi v e. if_keep (λ (u : List ℕ). Through x (memory u m c)) (mark g.honest q) (message_delivered m k q v) v (delivery q (sender_at m k) (message_at m k) v m c lo (omega arith) e) e)
      w t

  offered_through : (y : Memory) → Through x y → Through x (offered g y)
  unfolding offered offer_next
  offered_through (memory w m c) t =
      noted _ m c
      (steps_keep (λ (v : List ℕ). Through x (memory v m c)) (offer_next g m c.offered) (c.sent - c.offered) (λ j lo hi v e. offer_through v m c (c.offered + j) e) w t)

  pub ran_through : (k : ℕ) (y : Memory) → Through x y → Through x (ran 401 g k y)
  unfolding ran
  ran_through zero y t = t
  ran_through (suc k) y t =
      if_keep (Through x) (any_left (swept 401 g y)) _ _ (ran_through k (offered g (swept 401 g y)) (offered_through (swept 401 g y) (swept_through y t))) (swept_through y t)

-- steps that agree where P holds, which they keep
steps_agree : {A : Type 0} (P : A → Type 0) (f h : ℕ → A → A) (n : ℕ) → ((k : ℕ) → 1 ≤ k → k ≤ n → (x : A) → P x → f k x ≡ h k x) →
    ((k : ℕ) → 1 ≤ k → k ≤ n → (x : A) → P x → P (h k x)) → (x : A) → P x → steps f n x ≡ steps h n x
unfolding steps
steps_agree P f h zero e p x q = refl
steps_agree P f h (suc n) e p x q =
    ap (f (suc n)) (steps_agree P f h n (λ k l m. e k l (omega arith)) (λ k l m. p k l (omega arith)) x q)
    ∙ e (suc n) (omega arith) (omega arith) (steps h n x) (steps_keep P h n (λ k l m. p k l (omega arith)) x q)

module _ (g : Members) (few : g.n ≤ 4) (t : ℕ) (enough : 401 ≤ t) where
  one_agrees : (b : Bool) (p : ℕ) (x : Memory) → 1 ≤ p → p ≤ 4 → SoundIn x → cond b (sweep p t x) x ≡ cond b (sweep p 401 x) x
  one_agrees true p x lo hi h = sweep_ends p lo hi 401 t x enough h (omega arith)
  one_agrees false p x lo hi h = refl

  swept_agrees : (x : Memory) → SoundIn x → swept t g x ≡ swept 401 g x
  unfolding swept sweep_if
  swept_agrees x h =
      steps_agree SoundIn (sweep_if t g.honest) (sweep_if 401 g.honest) g.n
      (λ p lo hi y e. one_agrees (mark g.honest p) p y lo (omega arith) e)
      (λ p lo hi y e. if_keep SoundIn (mark g.honest p) (sweep p 401 y) y (sweep_kept (offered_of y) p lo (omega arith) 401 y (record { sound = e; same = refl })).sound e)
      x h

  rounds_agree : (k : ℕ) (x : Memory) → SoundIn x → ran t g k x ≡ ran 401 g k x
  unfolding ran
  rounds_agree zero x h = refl
  rounds_agree (suc k) x h =
      let y : SoundIn (swept 401 g x) = (swept_kept g few (offered_of x) x (record { sound = h; same = refl })).sound in
      rw (swept_agrees x h, rounds_agree k (offered g (swept 401 g x)) (offered_sound g few (swept 401 g x) y))

  -- with more turns and more rounds R does the same
  pub ran_same : (k : ℕ) (x : Memory) → 1601 ≤ k → SoundIn x → ran t g k x ≡ ran 401 g 1601 x
  ran_same k x l h = rounds_agree k x h ∙ ran_ends g few 1601 k x l h (omega arith)
