-- Recording a message, seen at all that is held: nothing is held after it that was not, but what the message says.
use Rattle.std.specs.Prelude.{ℕ, ◌≤◌, true, false, List, ◌⊎◌, ◌≡◌, length}
use Rattle.std.proofs.Math.Logic.{inl, inr}
use Rattle.std.proofs.Math.Path.{refl, sym, ap}
use Rattle.std.proofs.Common.{◌∙◌, arith}
use Rattle.records.specs.Layout.{vote_at, est_mark, aux_mark, finish_marks_at, finish_mark}
use Rattle.records.specs.Records.{send_held, send_value, echo_held, echo_value, ready_held, ready_value, est_held, aux_held, finish_held}
use Rattle.records.specs.Words.{marked}
use Rattle.wire.specs.Bytes.{values}
use Rattle.wire.specs.Message.{count_of}
use Rattle.wire.specs.declared.Message as wire_message
use Rattle.wire.specs.declared.Message.TheVariants as wire
use Rattle.delivery.specs.Delivery.{place_held, recorded}
use Rattle.delivery.specs.laws.Frame.{InLayout, mark_word_of, mark_of, mark_recorded}
use Rattle.delivery.specs.laws.Kept.{SetAfter, before, now, set_after}
use Rattle.held.specs.laws.Held.{Message, SEND, ECHO, READY, EST, AUX, COMMIT, FINISH, meaning, Numbered, Voting, holds}
use Rattle.held.specs.laws.Columns.{After, column_after, send_column, echo_column, ready_column}
use Rattle.held.specs.laws.Columns as columns

-- ---- the marks of votes tell kind, value and sender

pub est_place : (p : ℕ) (m : wire_message.Message) (i r b k : ℕ) → InLayout p m → Voting i r b → Numbered k → vote_at i r ≡ mark_word_of p m → est_mark b k ≡ mark_of p m → (m ≡ wire.Est i r b) × (k ≡ p)
est_place p (wire.Send j x) i r b k h g n w q = absurd (omega (arith, g.instance.low, g.first))
est_place p (wire.Echo j x) i r b k h g n w q = absurd (omega (arith, g.instance.low, g.first))
est_place p (wire.Ready j x) i r b k h g n w q = absurd (omega (arith, g.instance.low, g.first))
est_place p (wire.Est j s c) i r b k h g n w q =
    let instance : j ≡ i = omega (arith, g.first, g.last) in
    let round : s ≡ r = omega (arith, g.first, g.last) in
    let bit : c ≡ b = omega (arith, g.bit, n.low, n.high) in
    (cc, omega (arith, g.bit, n.low, n.high))
est_place p (wire.Aux j s c) i r b k h g n w q = absurd (omega (arith, g.bit, n.high))
est_place p (wire.Commit c) i r b k h g n w q = absurd (omega arith)
est_place p (wire.Finish j c) i r b k h g n w q = absurd (omega (arith, g.instance.low, g.first))

aux_place : (p : ℕ) (m : wire_message.Message) (i r b k : ℕ) → InLayout p m → Voting i r b → Numbered k → vote_at i r ≡ mark_word_of p m → aux_mark b k ≡ mark_of p m → (m ≡ wire.Aux i r b) × (k ≡ p)
aux_place p (wire.Send j x) i r b k h g n w q = absurd (omega (arith, g.instance.low, g.first))
aux_place p (wire.Echo j x) i r b k h g n w q = absurd (omega (arith, g.instance.low, g.first))
aux_place p (wire.Ready j x) i r b k h g n w q = absurd (omega (arith, g.instance.low, g.first))
aux_place p (wire.Est j s c) i r b k h g n w q = absurd (omega (arith, n.low))
aux_place p (wire.Aux j s c) i r b k h g n w q =
    let instance : j ≡ i = omega (arith, g.first, g.last) in
    let round : s ≡ r = omega (arith, g.first, g.last) in
    let bit : c ≡ b = omega (arith, g.bit, n.low, n.high) in
    (cc, omega (arith, g.bit, n.low, n.high))
aux_place p (wire.Commit c) i r b k h g n w q = absurd (omega arith)
aux_place p (wire.Finish j c) i r b k h g n w q = absurd (omega (arith, g.instance.low, g.first))

-- .. and those of FINISHes value and sender
finish_place : (p : ℕ) (m : wire_message.Message) (i b k : ℕ) → InLayout p m → Numbered i → b ≤ 1 → Numbered k → finish_marks_at i ≡ mark_word_of p m → finish_mark b k ≡ mark_of p m → (m ≡ wire.Finish i b) × (k ≡ p)
finish_place p (wire.Send j x) i b k h g bit n w q = absurd (omega (arith, g.low, g.high))
finish_place p (wire.Echo j x) i b k h g bit n w q = absurd (omega (arith, g.low, g.high))
finish_place p (wire.Ready j x) i b k h g bit n w q = absurd (omega (arith, g.low, g.high))
finish_place p (wire.Est j s c) i b k h g bit n w q = absurd (omega (arith, g.low, g.high))
finish_place p (wire.Aux j s c) i b k h g bit n w q = absurd (omega (arith, g.low, g.high))
finish_place p (wire.Commit c) i b k h g bit n w q = absurd (omega arith)
finish_place p (wire.Finish j c) i b k h g bit n w q =
    let instance : j ≡ i = omega arith in
    let same : c ≡ b = omega (arith, n.low, n.high) in
    (cc, omega (arith, n.low, n.high))

-- ---- what is held after recording

module _ (s v : List ℕ) (p : ℕ) (m : wire_message.Message) (size : length s ≡ 2048) (h : InLayout p m) (free : place_held s p m ≡ false) where
  -- what the message says
  abbrev said : wire_message.Message → Message
  said x = meaning x (values (count_of x) v)

  -- y of sender k was held, or is the message
  abbrev Either : ℕ → Message → Type 0
  Either k y = holds s k y ⊎ ((k ≡ p) × (y ≡ said m))

  module _ (k : ℕ) (n : Numbered k) where
    vote_mark : (i r b j : ℕ) → Voting i r b → marked (recorded s p m v) (vote_at i r) j ≡ true → (marked s (vote_at i r) j ≡ true) ⊎ ((vote_at i r ≡ mark_word_of p m) × (j ≡ mark_of p m))
    vote_mark i r b j g e =
        mark_recorded s v p m (vote_at i r) j size h
        (inr (inr (inl (omega (arith, g.instance.low, g.first), omega (arith, g.instance.high, g.last)))))
        e

    sent : (u : ℕ) → holds (recorded s p m v) k (SEND u) → Either k (SEND u)
    unfolding send_held send_value send_column
    sent u x = of (column_after send_column s v p m size h free k k n n refl x.there)
      where
        of : After send_column s v p m size h free k k → Either k (SEND u)
        of (columns.before old same) = inl (record { instance = n; there = old; same = sym same ∙ x.same })
        of (columns.now e q) = inr (e, sym (ap said q ∙ ap SEND x.same))

    echoed : (i u : ℕ) → holds (recorded s p m v) k (ECHO i u) → Either k (ECHO i u)
    unfolding echo_held echo_value echo_column
    echoed i u x = of (column_after echo_column s v p m size h free i k x.instance n tt x.there)
      where
        of : After echo_column s v p m size h free i k → Either k (ECHO i u)
        of (columns.before old same) = inl (record { instance = x.instance; there = old; same = sym same ∙ x.same })
        of (columns.now e q) = inr (e, sym (ap said q ∙ ap (ECHO i) x.same))

    readied : (i u : ℕ) → holds (recorded s p m v) k (READY i u) → Either k (READY i u)
    unfolding ready_held ready_value ready_column
    readied i u x = of (column_after ready_column s v p m size h free i k x.instance n tt x.there)
      where
        of : After ready_column s v p m size h free i k → Either k (READY i u)
        of (columns.before old same) = inl (record { instance = x.instance; there = old; same = sym same ∙ x.same })
        of (columns.now e q) = inr (e, sym (ap said q ∙ ap (READY i) x.same))

    estimated : (i r b : ℕ) → holds (recorded s p m v) k (EST i r b) → Either k (EST i r b)
    unfolding est_held
    estimated i r b x = of (vote_mark i r b (est_mark b k) x.vote x.there)
      where
        made : (m ≡ wire.Est i r b) × (k ≡ p) → Either k (EST i r b)
        made y = inr (y.1, sym (ap said y.0))

        of : (marked s (vote_at i r) (est_mark b k) ≡ true) ⊎ ((vote_at i r ≡ mark_word_of p m) × (est_mark b k ≡ mark_of p m)) → Either k (EST i r b)
        of (inl old) = inl (record { vote = x.vote; there = old })
        of (inr y) = made (est_place p m i r b k h x.vote n y.0 y.1)

    voted : (i r b : ℕ) → holds (recorded s p m v) k (AUX i r b) → Either k (AUX i r b)
    unfolding aux_held
    voted i r b x = of (vote_mark i r b (aux_mark b k) x.vote x.there)
      where
        made : (m ≡ wire.Aux i r b) × (k ≡ p) → Either k (AUX i r b)
        made y = inr (y.1, sym (ap said y.0))

        of : (marked s (vote_at i r) (aux_mark b k) ≡ true) ⊎ ((vote_at i r ≡ mark_word_of p m) × (aux_mark b k ≡ mark_of p m)) → Either k (AUX i r b)
        of (inl old) = inl (record { vote = x.vote; there = old })
        of (inr y) = made (aux_place p m i r b k h x.vote n y.0 y.1)

    finishing : (i b : ℕ) → holds (recorded s p m v) k (FINISH i b) → Either k (FINISH i b)
    unfolding finish_held
    finishing i b x =
        of
        (mark_recorded s v p m (finish_marks_at i) (finish_mark b k) size h
        (inr (inr (inr (omega (arith, x.instance.low), omega (arith, x.instance.high)))))
        x.there)
      where
        made : (m ≡ wire.Finish i b) × (k ≡ p) → Either k (FINISH i b)
        made y = inr (y.1, sym (ap said y.0))

        of : (marked s (finish_marks_at i) (finish_mark b k) ≡ true) ⊎ ((finish_marks_at i ≡ mark_word_of p m) × (finish_mark b k ≡ mark_of p m)) → Either k (FINISH i b)
        of (inl old) = inl (record { instance = x.instance; bit = x.bit; there = old })
        of (inr y) = made (finish_place p m i b k h x.instance x.bit n y.0 y.1)

    committed : (X : List ℕ) → holds (recorded s p m v) k (COMMIT X) → Either k (COMMIT X)
    committed X x = of (set_after s v p m k size h n.low n.high)
      where
        of : SetAfter s v p m k → Either k (COMMIT X)
        of (before e f) = inl (record { there = sym e ∙ x.there; same = sym f ∙ x.same })
        of (now c e q f) = inr (e, sym (ap said q ∙ ap COMMIT (sym f ∙ x.same)))

    pub held_recorded : (y : Message) → holds (recorded s p m v) k y → holds s k y ⊎ ((k ≡ p) × (y ≡ meaning m (values (count_of m) v)))
    held_recorded (SEND u) x = sent u x
    held_recorded (ECHO i u) x = echoed i u x
    held_recorded (READY i u) x = readied i u x
    held_recorded (EST i r b) x = estimated i r b x
    held_recorded (AUX i r b) x = voted i r b x
    held_recorded (COMMIT X) x = committed X x
    held_recorded (FINISH i b) x = finishing i b x
