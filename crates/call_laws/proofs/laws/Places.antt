-- A place takes one message: the recorded one is held in its own place, and no other place is taken by it.
use Rattle.std.specs.Prelude.{ℕ, ◌≤◌, Bool, true, false, ◌||◌, cond, List, ◌≡◌, length, drop, Ok, Err}
use Rattle.std.proofs.Common.{true≢false, inl, inr, sym, ◌∙◌, arith}
use Rattle.std.proofs.Math.Path.{refl, ap}
use Rattle.std.proofs.Math.Decide.{ℕ_discrete}
use Rattle.quorum.specs.laws.Bools.{or_left, or_right, or_passed}
use Rattle.settings.specs.declared.refusal.Refusal.TheVariants as refusal
use Rattle.records.specs.Layout.{n_at}
use Rattle.records.specs.Records.{closed, version, send_held, send_value, echo_held, echo_value, ready_held, ready_value, est_held, aux_held, finish_held, commit_set}
use Rattle.records.specs.Words.{word}
use Rattle.commits.specs.Commits.{commit_held}
use Rattle.session.specs.laws.Session.{State, state_is}
use Rattle.session.specs.Session.{settings_of, session_with, session_of}
use Rattle.wire.specs.Bytes.{values}
use Rattle.wire.specs.Message.{count_of}
use Rattle.wire.specs.Reading.{read_message}
use Rattle.wire.specs.declared.Message as wire
use Rattle.wire.specs.declared.Message.TheVariants.{Send, Echo, Ready, Est, Aux, Commit, Finish}
use Rattle.wire_laws.proofs.laws.Forms.{Form}
use Rattle.wire_laws.specs.Proper.{Layout}
use Rattle.wire_laws.proofs.Converse.{taken_form}
use Rattle.delivery.specs.laws.Accepting.{Accepting, accepting}
use Rattle.delivery.specs.laws.Answers.{answer_accepted}
use Rattle.delivery.specs.Delivery.{place_held, judged, verdict, recorded, answer_of, words_after, deliver_answer, delivered}
use Rattle.delivery.specs.laws.Frame.{InLayout}
use Rattle.delivery.specs.laws.Held.{new_recorded, commit_recorded}
use Rattle.held.specs.laws.Held as held
use Rattle.held.specs.laws.Recording.{held_recorded}
use Rattle.call_laws.specs.Places.{HeldAgain, Place, SEND, COMMIT, ECHO, READY, FINISH, AUX, EST, place_of, HeldOnce}
use Rattle.call_laws.proofs.laws.Recorded.{layout_of, session_recorded, version_recorded, closed_recorded, state_recorded}

-- a place of sender p is taken
unfoldable held_at : List ℕ → ℕ → Place → Bool
held_at s p SEND = send_held s p
held_at s p COMMIT = commit_held s p
held_at s p (ECHO i) = echo_held s i p
held_at s p (READY i) = ready_held s i p
held_at s p (AUX i r) = aux_held s i r 0 p || aux_held s i r 1 p
held_at s p (EST i r b) = est_held s i r b p
held_at s p (FINISH i) = finish_held s i 0 p || finish_held s i 1 p

by_place : (s : List ℕ) (p : ℕ) (m : wire.Message) → InLayout p m → place_held s p m ≡ held_at s p (place_of m)
unfolding held_at place_held
by_place s p (Send i v) l = ap (send_held s) l.2
by_place s p (Echo i v) l = refl
by_place s p (Ready i v) l = refl
by_place s p (Est i r b) l = refl
by_place s p (Aux i r b) l = refl
by_place s p (Commit k) l = refl
by_place s p (Finish i b) l = refl

-- ---- the place of a message that was recorded

either_aux : (s : List ℕ) (i r p b : ℕ) → b ≤ 1 → aux_held s i r b p ≡ true → aux_held s i r 0 p || aux_held s i r 1 p ≡ true
either_aux s i r p b h e = elim (ℕ_discrete b 0) [
  | yes z ↦ or_left _ (aux_held s i r 1 p) (rw z at e)
  | no ne ↦ let z : b ≡ 1 = omega arith in or_right (aux_held s i r 0 p) _ (rw z at e)
]

either_finish : (s : List ℕ) (i p b : ℕ) → b ≤ 1 → finish_held s i b p ≡ true → finish_held s i 0 p || finish_held s i 1 p ≡ true
either_finish s i p b h e = elim (ℕ_discrete b 0) [
  | yes z ↦ or_left _ (finish_held s i 1 p) (rw z at e)
  | no ne ↦ let z : b ≡ 1 = omega arith in or_right (finish_held s i 0 p) _ (rw z at e)
]

own_place : (s v : List ℕ) (n p : ℕ) (m : wire.Message) → length s ≡ 2048 → InLayout p m → Layout n p m → place_held (recorded s p m v) p m ≡ true
unfolding place_held send_held echo_held ready_held est_held aux_held finish_held
own_place s v n p (Send i x) size h l = new_recorded s v size p (Send i x) h tt
own_place s v n p (Echo i x) size h l = new_recorded s v size p (Echo i x) h tt
own_place s v n p (Ready i x) size h l = new_recorded s v size p (Ready i x) h tt
own_place s v n p (Est i r b) size h l = new_recorded s v size p (Est i r b) h tt
own_place s v n p (Aux i r b) size h l = either_aux _ i r p b l.4 (new_recorded s v size p (Aux i r b) h tt)
own_place s v n p (Commit k) size h l = commit_recorded s v size p k l.0 h.1
own_place s v n p (Finish i b) size h l = either_finish _ i p b l.2 (new_recorded s v size p (Finish i b) h tt)

-- ---- no other place

-- what is held, by its place
abbrev place : held.Message → Place
place (held.SEND v) = SEND
place (held.ECHO i v) = ECHO i
place (held.READY i v) = READY i
place (held.EST i r b) = EST i r b
place (held.AUX i r b) = AUX i r
place (held.COMMIT X) = COMMIT
place (held.FINISH i b) = FINISH i

place_meaning : (m : wire.Message) (X : List ℕ) → place (held.meaning m X) ≡ place_of m
place_meaning (Send i v) X = refl
place_meaning (Echo i v) X = refl
place_meaning (Ready i v) X = refl
place_meaning (Est i r b) X = refl
place_meaning (Aux i r b) X = refl
place_meaning (Commit k) X = refl
place_meaning (Finish i b) X = refl

clash : {b : Bool} → b ≡ true → b ≡ false → ⊥
clash e f = true≢false (sym e ∙ f)

module _ (s v : List ℕ) (size : length s ≡ 2048) (p : ℕ) (x : wire.Message) (h : InLayout p x) (free : place_held s p x ≡ false) (q : ℕ) (number : held.Numbered q) where
  abbrev after : List ℕ
  after = recorded s p x v

  -- the place is that of the recorded message
  abbrev Same : Place → Type 0
  Same y = (p ≡ q) × (place_of x ≡ y)

  came : (y : held.Message) → (held.holds s q y → ⊥) → held.holds after q y → Same (place y)
  came y not_before now = elim (held_recorded s v p x size h free q number y now) [
    | inl z ↦ absurd (not_before z)
    | inr z ↦ (sym z.0, sym (ap place z.1 ∙ place_meaning x (values (count_of x) v)))
  ]

  aux_came : (i r b : ℕ) → held.Voting i r b → aux_held s i r b q ≡ false → aux_held after i r b q ≡ true → Same (AUX i r)
  aux_came i r b vote f e = came (held.AUX i r b) (λ z. clash z.there f) (record { vote = vote; there = e })

  finish_came : (i b : ℕ) → held.Numbered i → b ≤ 1 → finish_held s i b q ≡ false → finish_held after i b q ≡ true → Same (FINISH i)
  finish_came i b vote bit f e = came (held.FINISH i b) (λ z. clash z.there f) (record { instance = vote; bit = bit; there = e })

  numbered : (i : ℕ) → 1 ≤ i → i ≤ 16 → held.Numbered i
  numbered i lo hi = record { low = lo; high = hi }

  newly_held : (y : wire.Message) → InLayout q y → place_held s q y ≡ false → place_held after q y ≡ true → Same (place_of y)
  unfolding place_held
  newly_held (Send i u) l f e =
      came (held.SEND (send_value after q)) (λ z. clash z.there (ap (send_held s) (sym l.2) ∙ f))
      (record { instance = number; there = ap (send_held after) (sym l.2) ∙ e; same = refl })
  newly_held (Echo i u) l f e =
      came (held.ECHO i (echo_value after i q)) (λ z. clash z.there f) (record { instance = numbered i l.2 l.3; there = e; same = refl })
  newly_held (Ready i u) l f e =
      came (held.READY i (ready_value after i q)) (λ z. clash z.there f) (record { instance = numbered i l.2 l.3; there = e; same = refl })
  newly_held (Est i r b) l f e =
      came (held.EST i r b) (λ z. clash z.there f)
      (record { vote = record { instance = numbered i l.2 l.3; first = l.4; last = l.5; bit = l.6 }; there = e })
  newly_held (Aux i r b) l f e = go (aux_held after i r 0 q) refl
    where
      vote : (c : ℕ) → c ≤ 1 → held.Voting i r c
      vote c h = record { instance = numbered i l.2 l.3; first = l.4; last = l.5; bit = h }

      neither : (aux_held s i r 0 q ≡ false) × (aux_held s i r 1 q ≡ false)
      neither = or_passed (aux_held s i r 0 q) (aux_held s i r 1 q) f

      go : (b : Bool) → aux_held after i r 0 q ≡ b → Same (AUX i r)
      go true a = aux_came i r 0 (vote 0 (omega arith)) neither.0 a
      go false a = aux_came i r 1 (vote 1 (omega arith)) neither.1 (rw a at e)
  newly_held (Commit k) l f e = came (held.COMMIT (commit_set after q)) (λ z. clash z.there f) (record { there = e; same = refl })
  newly_held (Finish i b) l f e = go (finish_held after i 0 q) refl
    where
      neither : (finish_held s i 0 q ≡ false) × (finish_held s i 1 q ≡ false)
      neither = or_passed (finish_held s i 0 q) (finish_held s i 1 q) f

      go : (c : Bool) → finish_held after i 0 q ≡ c → Same (FINISH i)
      go true a = finish_came i 0 (numbered i l.2 l.3) (omega arith) neither.0 a
      go false a = finish_came i 1 (numbered i l.2 l.3) (omega arith) neither.1 (rw a at e)

-- ---- the second of two messages

-- the answer to a message that an open session takes
answer_taken : (s : List ℕ) (q : ℕ) (c : List ℕ) (y : wire.Message) → State s → closed s ≡ false → read_message (version s) (session_of s).settings.n (session_of s).number q c ≡ Ok y →
    deliver_answer s q c ≡ cond (place_held s q y) (Err refusal.Held) (Ok tt)
unfolding deliver_answer verdict judged answer_of
answer_taken s q c y S running read = rw (state_is s S, running, read) (go (place_held s q y))
  where
    go : (b : Bool) → answer_of (cond b (Err refusal.Held) (Ok y)) ≡ cond b (Err refusal.Held) (Ok tt)
    go true = refl
    go false = refl

module _ (s : List ℕ) (p q : ℕ) (b c : List ℕ) (x y : wire.Message) (X : Accepting s p b x) (Y : Accepting s q c y) where
  form_of : (r : ℕ) (d : List ℕ) (m : wire.Message) → Accepting s r d m → Form (version s) (word s n_at) (session_of s).number r d m
  unfolding session_of session_with settings_of
  form_of r d m A = taken_form (version s) (word s n_at) (session_of s).number r d m A.taken

  first : Form (version s) (word s n_at) (session_of s).number p b x
  first = form_of p b x X

  second : Form (version s) (word s n_at) (session_of s).number q c y
  second = form_of q c y Y

  abbrev now : List ℕ
  now = recorded s p x (drop 12 b)

  second_answer : deliver_answer now q c ≡ cond (place_held now q y) (Err refusal.Held) (Ok tt)
  second_answer =
      let v = drop 12 b in
      let F = first in
      answer_taken now q c y (state_recorded s v X.state p x F.link_low F.link_high F.layout)
      (closed_recorded s v X.state p x F.link_low F.link_high F.layout ∙ X.unclosed)
      (rw (session_recorded s v X.state p x F.link_low F.link_high F.layout, version_recorded s v X.state p x F.link_low F.link_high F.layout) Y.taken)

  few : word s n_at ≤ 16
  unfolding settings_of
  few = X.state.ruled.few

  layout_first : InLayout p x
  layout_first = layout_of s (drop 12 b) X.state p x first.link_low first.link_high first.layout

  layout_second : InLayout q y
  layout_second = layout_of s (drop 12 b) X.state q y second.link_low second.link_high second.layout

  same_held : p ≡ q → place_of x ≡ place_of y → place_held now q y ≡ true
  same_held e f =
      by_place now q y layout_second
      ∙ ap (held_at now q) (sym f)
      ∙ ap (λ (r : ℕ). held_at now r (place_of x)) (sym e)
      ∙ sym (by_place now p x layout_first)
      ∙ own_place s (drop 12 b) (word s n_at) p x X.state.size layout_first first.layout

  other_free : ((p ≡ q) × (place_of x ≡ place_of y) → ⊥) → place_held now q y ≡ false
  other_free apart = go (place_held now q y) refl
    where
      go : (a : Bool) → place_held now q y ≡ a → a ≡ false
      go false e = refl
      go true e =
          absurd
          (apart
          (newly_held s (drop 12 b) X.state.size p x layout_first X.free q (record { low = second.link_low; high = omega (arith, second.link_high, few) }) y layout_second Y.free e))

pub held_once : HeldOnce
unfolding delivered words_after
held_once s p q b c x y e f =
    let X = accepting s p b x e in
    let Y = accepting s q c y f in
    record {
      same_place = λ i j. rw e (second_answer s p q b c x y X Y ∙ ap (λ (h : Bool). cond h (Err refusal.Held) (Ok tt)) (same_held s p q b c x y X Y i j));
      other_place = λ apart. rw e (second_answer s p q b c x y X Y ∙ ap (λ (h : Bool). cond h (Err refusal.Held) (Ok tt)) (other_free s p q b c x y X Y apart));
    }

pub held_again : HeldAgain
held_again s p b e =
    let t = answer_accepted s p b e in
    (held_once s p p b b t.message t.message t.accepted t.accepted).same_place refl refl
