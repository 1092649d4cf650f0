-- Recording a message, seen at the SENDs, ECHOs and READYs: none is held after it that was not, but the message itself, and values stay.
use Rattle.std.specs.Prelude.{ℕ, ◌<◌, true, false, List, ◌⊎◌, ◌≡◌, refl, length}
use Rattle.std.proofs.Common.{true≢false, inl, inr, sym, ap, subst, ◌∙◌, arith}
use Rattle.records.specs.Layout.{send_marks_at, send_value_at, echo_marks_at, echo_value_at, ready_marks_at, ready_value_at}
use Rattle.records.specs.Words.{word, put, marked, set_mark}
use Rattle.records.specs.laws.Words.{word_put_same, word_set_mark_other}
use Rattle.records.specs.Records.{send_held, echo_held, ready_held}
use Rattle.wire.specs.declared.Message as wire_message
use Rattle.wire.specs.declared.Message.TheVariants as wire
use Rattle.delivery.specs.Delivery.{place_held, recorded}
use Rattle.delivery.specs.laws.Frame.{InLayout, MarkWord, mark_word_of, mark_of, mark_recorded, Changed, word_recorded}
use Rattle.held.specs.laws.Held.{Numbered}

-- the message is `con i` of a value
pub record Made (con : ℕ → ℕ → wire_message.Message) (i : ℕ) (m : wire_message.Message) : Type 0 where
  pub value : ℕ
  pub same : m ≡ con i value

-- one mark and one value for each instance and sender that may stand together
pub record Column : Type 1 where
  pub Entry : ℕ → ℕ → Type 0
  pub marks_at : ℕ → ℕ
  pub value_at : ℕ → ℕ → ℕ
  pub con : ℕ → ℕ → wire_message.Message
  pub in_marks : (i : ℕ) → Numbered i → MarkWord (marks_at i)
  -- only messages of the column set its marks and change its values
  pub marks_of : (p i k : ℕ) (m : wire_message.Message) → InLayout p m → Numbered i → Entry i k → marks_at i ≡ mark_word_of p m → k ≡ mark_of p m → Made con i m × (k ≡ p)
  pub value_of : (p i k : ℕ) (m : wire_message.Message) → InLayout p m → Numbered i → Numbered k → Entry i k → Changed p m (value_at i k) → Made con i m × (k ≡ p)
  pub place_of : (s : List ℕ) (p i x : ℕ) → Entry i p → place_held s p (con i x) ≡ marked s (marks_at i) p
  pub read_back : (s v : List ℕ) (p i x : ℕ) → length s ≡ 2048 → Entry i p → InLayout p (con i x) → word (recorded s p (con i x) v) (value_at i p) ≡ x

module _ (C : Column) (s v : List ℕ) (p : ℕ) (m : wire_message.Message) (size : length s ≡ 2048) (h : InLayout p m) (free : place_held s p m ≡ false) where
  -- what the mark of instance i and sender k tells after recording
  pub data After (i k : ℕ) : Type 0 where
    before : marked s (C.marks_at i) k ≡ true → word (recorded s p m v) (C.value_at i k) ≡ word s (C.value_at i k) → After i k
    now : k ≡ p → m ≡ C.con i (word (recorded s p m v) (C.value_at i k)) → After i k

  module _ (i k : ℕ) (a : Numbered i) (b : Numbered k) (entry : C.Entry i k) where
    -- a place that was held is not that of the message
    kept : marked s (C.marks_at i) k ≡ true → Changed p m (C.value_at i k) → ⊥
    kept old c =
        let o = C.value_of p i k m h a b entry c in
        true≢false
        (sym old
        ∙ ap (λ (x : ℕ). marked s (C.marks_at i) x) o.1
        ∙ sym (C.place_of s p i o.0.value (subst (C.Entry i) o.1 entry))
        ∙ ap (λ (y : wire_message.Message). place_held s p y) (sym o.0.same)
        ∙ free)

    pub column_after : marked (recorded s p m v) (C.marks_at i) k ≡ true → After i k
    column_after e = of (mark_recorded s v p m (C.marks_at i) k size h (C.in_marks i a) e)
      where
        new : Made C.con i m × (k ≡ p) → After i k
        new o =
            let kp : k ≡ p = o.1 in
            let q : m ≡ C.con i o.0.value = o.0.same in
            let back : word (recorded s p m v) (C.value_at i k) ≡ o.0.value = rw (q, kp) (C.read_back s v p i o.0.value size (subst (C.Entry i) kp entry) (rw q at h)) in
            now kp (q ∙ ap (C.con i) (sym back))

        of : (marked s (C.marks_at i) k ≡ true) ⊎ ((C.marks_at i ≡ mark_word_of p m) × (k ≡ mark_of p m)) → After i k
        of (inl old) = before old (word_recorded s v p m (C.value_at i k) (kept old))
        of (inr x) = new (C.marks_of p i k m h a entry x.0 x.1)

-- ---- the three columns

-- a value that was put is read back after a mark was set elsewhere
pub value_back : (s : List ℕ) (a x w j : ℕ) → a < length s → (a ≡ w → ⊥) → word (set_mark (put s a x) w j) a ≡ x
value_back s a x w j l ne = word_set_mark_other (put s a x) w j a ne ∙ word_put_same s a x l

-- a SEND's instance is its sender (PROTOCOL 2.1)
unfoldable pub send_column : Column
unfolding place_held send_held recorded
send_column =
    record {
      Entry = λ i k. i ≡ k;
      marks_at = λ i. send_marks_at;
      value_at = λ i k. send_value_at k;
      con = wire.Send;
      in_marks = λ i a. inr (inl refl);
      marks_of = marks;
      value_of = value;
      place_of = λ s p i x e. ap (λ (j : ℕ). marked s send_marks_at j) e;
      read_back = λ s v p i x size e h. rw (← e) (value_back s (send_value_at i) x send_marks_at i (omega arith) (λ z. omega arith));
    }
  where
    marks : (p i k : ℕ) (m : wire_message.Message) → InLayout p m → Numbered i → i ≡ k → send_marks_at ≡ mark_word_of p m → k ≡ mark_of p m → Made wire.Send i m × (k ≡ p)
    marks p i k (wire.Send j x) h a e w q = (record { value = x; same = ap (λ (y : ℕ). wire.Send y x) (sym q ∙ sym e) }, q ∙ h.2)
    marks p i k (wire.Echo j x) h a e w q = absurd (omega arith)
    marks p i k (wire.Ready j x) h a e w q = absurd (omega arith)
    marks p i k (wire.Est j r b) h a e w q = absurd (omega arith)
    marks p i k (wire.Aux j r b) h a e w q = absurd (omega arith)
    marks p i k (wire.Commit c) h a e w q = absurd (omega arith)
    marks p i k (wire.Finish j b) h a e w q = absurd (omega arith)

    value : (p i k : ℕ) (m : wire_message.Message) → InLayout p m → Numbered i → Numbered k → i ≡ k → Changed p m (send_value_at k) → Made wire.Send i m × (k ≡ p)
    value p i k (wire.Send j x) h a b e (inl c) =
        let q : j ≡ i = omega arith in
        (record { value = x; same = ap (λ (y : ℕ). wire.Send y x) q }, omega arith)
    value p i k (wire.Send j x) h a b e (inr c) = absurd (omega (arith, b.low, b.high))
    value p i k (wire.Echo j x) h a b e (inl c) = absurd (omega (arith, b.low, b.high))
    value p i k (wire.Echo j x) h a b e (inr c) = absurd (omega (arith, b.low, b.high))
    value p i k (wire.Ready j x) h a b e (inl c) = absurd (omega (arith, b.low, b.high))
    value p i k (wire.Ready j x) h a b e (inr c) = absurd (omega (arith, b.low, b.high))
    value p i k (wire.Est j r z) h a b e (inl c) = absurd (omega (arith, b.low, b.high))
    value p i k (wire.Est j r z) h a b e (inr c) = absurd (omega (arith, b.low, b.high))
    value p i k (wire.Aux j r z) h a b e c = absurd (omega (arith, b.low, b.high))
    value p i k (wire.Commit n) h a b e (inl c) = absurd (omega (arith, b.low, b.high))
    value p i k (wire.Commit n) h a b e (inr c) = absurd (omega (arith, b.low, b.high))
    value p i k (wire.Finish j z) h a b e (inl c) = absurd (omega (arith, b.low, b.high))
    value p i k (wire.Finish j z) h a b e (inr c) = absurd (omega (arith, b.low, b.high))

unfoldable pub echo_column : Column
unfolding place_held echo_held recorded
echo_column =
    record {
      Entry = λ i k. Unit {0};
      marks_at = echo_marks_at;
      value_at = echo_value_at;
      con = wire.Echo;
      in_marks = λ i a. inl (omega (arith, a.low, a.high), omega (arith, a.low, a.high));
      marks_of = marks;
      value_of = value;
      place_of = λ s p i x e. refl;
      read_back = λ s v p i x size e h. value_back s (echo_value_at i p) x (echo_marks_at i) p (omega arith) (λ z. omega arith);
    }
  where
    marks : (p i k : ℕ) (m : wire_message.Message) → InLayout p m → Numbered i → Unit {0} → echo_marks_at i ≡ mark_word_of p m → k ≡ mark_of p m → Made wire.Echo i m × (k ≡ p)
    marks p i k (wire.Send j x) h a e w q = absurd (omega (arith, a.low, a.high))
    marks p i k (wire.Echo j x) h a e w q =
        let same : j ≡ i = omega arith in
        (record { value = x; same = ap (λ (y : ℕ). wire.Echo y x) same }, q)
    marks p i k (wire.Ready j x) h a e w q = absurd (omega (arith, a.low, a.high))
    marks p i k (wire.Est j r b) h a e w q = absurd (omega (arith, a.low, a.high))
    marks p i k (wire.Aux j r b) h a e w q = absurd (omega (arith, a.low, a.high))
    marks p i k (wire.Commit c) h a e w q = absurd (omega (arith, a.low, a.high))
    marks p i k (wire.Finish j b) h a e w q = absurd (omega (arith, a.low, a.high))

    value : (p i k : ℕ) (m : wire_message.Message) → InLayout p m → Numbered i → Numbered k → Unit {0} → Changed p m (echo_value_at i k) → Made wire.Echo i m × (k ≡ p)
    value p i k (wire.Send j x) h a b e (inl c) = absurd (omega (arith, a.low, a.high, b.low, b.high))
    value p i k (wire.Send j x) h a b e (inr c) = absurd (omega (arith, a.low, a.high, b.low, b.high))
    value p i k (wire.Echo j x) h a b e (inl c) =
        let same : j ≡ i = omega (arith, a.low, a.high, b.low, b.high) in
        (record { value = x; same = ap (λ (y : ℕ). wire.Echo y x) same }, omega (arith, a.low, a.high, b.low, b.high))
    value p i k (wire.Echo j x) h a b e (inr c) = absurd (omega (arith, a.low, a.high, b.low, b.high))
    value p i k (wire.Ready j x) h a b e (inl c) = absurd (omega (arith, a.low, a.high, b.low, b.high))
    value p i k (wire.Ready j x) h a b e (inr c) = absurd (omega (arith, a.low, a.high, b.low, b.high))
    value p i k (wire.Est j r z) h a b e (inl c) = absurd (omega (arith, a.low, a.high, b.low, b.high))
    value p i k (wire.Est j r z) h a b e (inr c) = absurd (omega (arith, a.low, a.high, b.low, b.high))
    value p i k (wire.Aux j r z) h a b e c = absurd (omega (arith, a.low, a.high, b.low, b.high))
    value p i k (wire.Commit n) h a b e (inl c) = absurd (omega (arith, a.low, a.high, b.low, b.high))
    value p i k (wire.Commit n) h a b e (inr c) = absurd (omega (arith, a.low, a.high, b.low, b.high))
    value p i k (wire.Finish j z) h a b e (inl c) = absurd (omega (arith, a.low, a.high, b.low, b.high))
    value p i k (wire.Finish j z) h a b e (inr c) = absurd (omega (arith, a.low, a.high, b.low, b.high))

unfoldable pub ready_column : Column
unfolding place_held ready_held recorded
ready_column =
    record {
      Entry = λ i k. Unit {0};
      marks_at = ready_marks_at;
      value_at = ready_value_at;
      con = wire.Ready;
      in_marks = λ i a. inl (omega (arith, a.low, a.high), omega (arith, a.low, a.high));
      marks_of = marks;
      value_of = value;
      place_of = λ s p i x e. refl;
      read_back = λ s v p i x size e h. value_back s (ready_value_at i p) x (ready_marks_at i) p (omega arith) (λ z. omega arith);
    }
  where
    marks : (p i k : ℕ) (m : wire_message.Message) → InLayout p m → Numbered i → Unit {0} → ready_marks_at i ≡ mark_word_of p m → k ≡ mark_of p m → Made wire.Ready i m × (k ≡ p)
    marks p i k (wire.Send j x) h a e w q = absurd (omega (arith, a.low, a.high))
    marks p i k (wire.Echo j x) h a e w q = absurd (omega (arith, a.low, a.high))
    marks p i k (wire.Ready j x) h a e w q =
        let same : j ≡ i = omega arith in
        (record { value = x; same = ap (λ (y : ℕ). wire.Ready y x) same }, q)
    marks p i k (wire.Est j r b) h a e w q = absurd (omega (arith, a.low, a.high))
    marks p i k (wire.Aux j r b) h a e w q = absurd (omega (arith, a.low, a.high))
    marks p i k (wire.Commit c) h a e w q = absurd (omega (arith, a.low, a.high))
    marks p i k (wire.Finish j b) h a e w q = absurd (omega (arith, a.low, a.high))

    value : (p i k : ℕ) (m : wire_message.Message) → InLayout p m → Numbered i → Numbered k → Unit {0} → Changed p m (ready_value_at i k) → Made wire.Ready i m × (k ≡ p)
    value p i k (wire.Send j x) h a b e (inl c) = absurd (omega (arith, a.low, a.high, b.low, b.high))
    value p i k (wire.Send j x) h a b e (inr c) = absurd (omega (arith, a.low, a.high, b.low, b.high))
    value p i k (wire.Echo j x) h a b e (inl c) = absurd (omega (arith, a.low, a.high, b.low, b.high))
    value p i k (wire.Echo j x) h a b e (inr c) = absurd (omega (arith, a.low, a.high, b.low, b.high))
    value p i k (wire.Ready j x) h a b e (inl c) =
        let same : j ≡ i = omega (arith, a.low, a.high, b.low, b.high) in
        (record { value = x; same = ap (λ (y : ℕ). wire.Ready y x) same }, omega (arith, a.low, a.high, b.low, b.high))
    value p i k (wire.Ready j x) h a b e (inr c) = absurd (omega (arith, a.low, a.high, b.low, b.high))
    value p i k (wire.Est j r z) h a b e (inl c) = absurd (omega (arith, a.low, a.high, b.low, b.high))
    value p i k (wire.Est j r z) h a b e (inr c) = absurd (omega (arith, a.low, a.high, b.low, b.high))
    value p i k (wire.Aux j r z) h a b e c = absurd (omega (arith, a.low, a.high, b.low, b.high))
    value p i k (wire.Commit n) h a b e (inl c) = absurd (omega (arith, a.low, a.high, b.low, b.high))
    value p i k (wire.Commit n) h a b e (inr c) = absurd (omega (arith, a.low, a.high, b.low, b.high))
    value p i k (wire.Finish j z) h a b e (inl c) = absurd (omega (arith, a.low, a.high, b.low, b.high))
    value p i k (wire.Finish j z) h a b e (inr c) = absurd (omega (arith, a.low, a.high, b.low, b.high))
