-- The cases of the code of the lines.
use Prim.Native.Nat.{ℕ, suc, ◌+◌, ◌-◌, ◌≤◌, ◌<◌}
use Rattle.std.specs.Prelude.{Bool, true, false, not, cond, List, [], ◌∷◌, ◌≡◌, refl, length, leb, ltb}
use Rattle.std.proofs.Common.{append-nil, ◌∙◌, drop_of_length-le}
use Rattle.std.proofs.Math.Path.{sym, ap}
use native.Mathlib.Omega.{arith}
use borrow.Author.Tests.{lt-ltb, le-ltb, le-leb}
use Rattle.quorum.specs.laws.Bools.{not_passed, not_refused}
use Rattle.wire.specs.Bytes.{bytes2, bytes4, bytes8, value_bytes}
use Rattle.wire.specs.Message.{header_with, front_bytes, header_bytes, message_bytes, at_front}
use Rattle.wire.specs.Writing.{fitting, Wrote}
use Rattle.wire.specs.declared.Header.{Header}
use Rattle.drill_feeder.specs.laws.Steps.{Stepping, stepping_start, stepping_next, stepping_done}
use Rattle.drill_feeder.specs.Lines.{delivered_to, lied, Memory, memory, turned, turn_goes_on, sweep, swept, offer, offer_next, offered, any_left, ran}
use Rattle.drill_feeder.specs.declared.Counts.{Counts}
use Rattle.drill_feeder.specs.declared.Members.{Members}
use Rattle.drill_feeder.specs.declared.Lie.{Lie}

-- 20 bytes hold a one-value message and nothing else
whole : (w o : List ℕ) → length w ≡ length o → at_front (fitting w o) o ≡ w
unfolding fitting at_front
whole w o e =
    let z : leb (length w) (length o) ≡ true = le-leb (length w) (length o) (omega arith) in
    rw (z, drop_of_length-le o {i = length w} (omega arith), append-nil)

twenty : (h : Header) (v : ℕ) → length (message_bytes h (v ∷ [])) ≡ 20
unfolding message_bytes header_bytes front_bytes value_bytes bytes2 bytes4 bytes8
twenty h v = refl

pub lie_delivered : (w x o bytes : List ℕ) (session q r : ℕ) (l : Lie) → length o ≡ 20 →
    Wrote (fitting (message_bytes (header_with 1 l.kind l.p l.instance l.round 1 session) (l.value ∷ [])) o) o r bytes →
    x ≡ delivered_to w q l.p bytes → x ≡ lied session q l w
unfolding lied
lie_delivered w x o bytes session q r l e h f =
    let m = header_with 1 l.kind l.p l.instance l.round 1 session in
    f ∙ ap (delivered_to w q l.p) (h.bytes ∙ whole (message_bytes m (l.value ∷ [])) o (twenty m l.value ∙ sym e))

-- a loop that has taken k of a number of turns
pub record Sweeping (p total k : ℕ) (x₀ x : Memory) : Type 0 where
  pub rest : sweep p total x₀ ≡ sweep p (total - k) x

module _ (p total k : ℕ) (x₀ x : Memory) (h : Sweeping p total k x₀ x) where
  module _ (y : Memory) (b : Bool) (l : k < total) (e : y ≡ turned p x) (f : b ≡ turn_goes_on p x) where
    one_turn : sweep p total x₀ ≡ cond b (sweep p (total - (k + 1)) y) y
    unfolding sweep
    one_turn = rw (e, f) (h.rest ∙ ap (λ (j : ℕ). sweep p j x) (let e : total - k ≡ suc (total - (k + 1)) = omega arith in e))

    pub sweeping_next : not b ≡ false → Sweeping p total (k + 1) x₀ y
    sweeping_next t = record { rest = one_turn ∙ rw (not_passed b t) }

    pub sweeping_stop : not b ≡ true → y ≡ sweep p total x₀
    sweeping_stop t = sym (one_turn ∙ rw (not_refused b t))

  pub sweeping_done : total ≤ k → x ≡ sweep p total x₀
  unfolding sweep
  sweeping_done l = sym (h.rest ∙ ap (λ (j : ℕ). sweep p j x) (let e : total - k ≡ 0 = omega arith in e))

pub ruleset sweeping = (sweeping_next, sweeping_stop, sweeping_done)

-- a loop that has delivered the messages up to k
module _ (g : Members) (m w : List ℕ) (c : Counts) where
  abbrev pub Offering : List ℕ → ℕ → Type 0
  Offering x k = Stepping (offer_next g m c.offered) (c.sent - c.offered) w x (k - c.offered)

  pub offering_start : Offering w c.offered
  offering_start = let e : c.offered - c.offered ≡ 0 = omega arith in rw e (stepping_start _ _ w)

  pub offering_next : (x y : List ℕ) (k : ℕ) → Offering x k → c.offered ≤ k → k < c.sent → y ≡ offer g m (k + 1) x → Offering y (k + 1)
  unfolding offer_next
  offering_next x y k h l t e =
      let d : k + 1 - c.offered ≡ k - c.offered + 1 = omega arith in
      let i : c.offered + (k - c.offered + 1) ≡ k + 1 = omega arith in
      rw d (stepping_next _ _ (k - c.offered) w x y h (omega arith) (e ∙ rw i))

  pub offering_done : (x : List ℕ) (k : ℕ) → Offering x k → c.sent ≤ k → memory x m (record { sent = c.sent; offered = c.sent }) ≡ offered g (memory w m c)
  unfolding offered
  offering_done x k h t = rw (stepping_done _ (c.sent - c.offered) (k - c.offered) w x h (omega arith))

pub ruleset offering = (offering_start, offering_next, offering_done)

-- a loop of R that has gone through k of a number of rounds
pub record Running (g : Members) (total k : ℕ) (x₀ x : Memory) : Type 0 where
  pub rest : ran 401 g total x₀ ≡ ran 401 g (total - k) x

module _ (g : Members) (total k : ℕ) (x₀ x : Memory) (h : Running g total k x₀ x) where
  module _ (w m : List ℕ) (c : Counts) (l : k < total) (e : memory w m c ≡ swept 401 g x) where
    one_round : ran 401 g total x₀ ≡ cond (ltb c.offered c.sent) (ran 401 g (total - (k + 1)) (offered g (memory w m c))) (memory w m c)
    unfolding ran any_left
    one_round = rw e (h.rest ∙ ap (λ (j : ℕ). ran 401 g j x) (let e : total - k ≡ suc (total - (k + 1)) = omega arith in e) ∙ rw (← e))

    pub running_next : (y : Memory) → c.offered < c.sent → y ≡ offered g (memory w m c) → Running g total (k + 1) x₀ y
    running_next y t f = record { rest = one_round ∙ rw (lt-ltb c.offered c.sent t, ← f) }

    pub running_stop : c.sent ≤ c.offered → memory w m c ≡ ran 401 g total x₀
    running_stop t = sym (one_round ∙ rw (le-ltb c.offered c.sent t))

  pub running_done : total ≤ k → x ≡ ran 401 g total x₀
  unfolding ran
  running_done l = sym (h.rest ∙ ap (λ (j : ℕ). ran 401 g j x) (let e : total - k ≡ 0 = omega arith in e))

pub ruleset running = (running_next, running_stop, running_done)
