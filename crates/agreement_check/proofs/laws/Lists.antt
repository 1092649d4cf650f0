-- The conditions of agreement, call by call: a list meets them if each call of it does after the calls before it.
use Rattle.std.specs.Prelude.{ℕ, Bool, true, false, List, [], ◌∷◌, ◌⊎◌, ◌≡◌, refl}
use Rattle.std.proofs.Common.{inl, inr, sym, ◌∙◌}
use Rattle.agreement.specs.Evidence.{Honest}
use Rattle.agreement.specs.Moments.{Within, now, after}
use Rattle.agreement.proofs.laws.Moments.{within_none}
use Rattle.calls.specs.Machine.{Machine, Call, opening, delivery, turn, report, restore, recording, place, words}
use Rattle.agreement.proofs.laws.Worlds.{world}
use Rattle.agreement.specs.DemandThree.{Opened, Sent, Departed, FallsBack, Conditions}
use Rattle.agreement_check.specs.Bits.{box_bit}

module _ (M : Machine) (start : ℕ → M.Words) where
  module _ {cs : List (Call M)} (c : Call M) where
    -- who was opened stays so
    pub opened_later : {p : ℕ} → Opened M start cs p → Opened M start (c ∷ cs) p
    opened_later x =
        record { given = x.given; past = x.past; within = after c x.within; numbered = x.numbered; accepted = x.accepted }

  pub not_opened : {p : ℕ} → Opened M start [] p → ⊥
  not_opened x = within_none x.within

  pub not_departed : {m : ℕ} {b : M.Bytes} → Departed M start [] m b → ⊥
  not_departed x = within_none x.within

  abbrev pub NoOpening : Call M → Type 0
  NoOpening (opening p o) = ⊥
  NoOpening (delivery p m b) = Unit
  NoOpening (turn p l) = Unit
  NoOpening (report p r) = Unit
  NoOpening (restore p v r) = Unit
  NoOpening (recording p y) = Unit

  within_before : {p : ℕ} {o : M.Opening} {ds : List (Call M)} {c : Call M} {cs : List (Call M)} → NoOpening c → Within (opening p o ∷ ds) (c ∷ cs) → Within (opening p o ∷ ds) cs
  within_before n now = absurd n
  within_before n (after c w) = w

  -- no other call opens
  pub opened_before : {c : Call M} {cs : List (Call M)} {p : ℕ} → NoOpening c → Opened M start (c ∷ cs) p → Opened M start cs p
  opened_before n x =
      record { given = x.given; past = x.past; within = within_before n x.within; numbered = x.numbered; accepted = x.accepted }

  cases_within : {p q : ℕ} {o g : M.Opening} {ds cs : List (Call M)} → Within (opening q g ∷ ds) (opening p o ∷ cs) → M.own g ≡ q → M.opens (words M start ds q) g ≡ true → ((q ≡ p) × (M.own o ≡ p) × (M.opens (words M start cs p) o ≡ true)) ⊎ Opened M start cs q
  cases_within now n a = inl (refl, n, a)
  cases_within (after c w) n a = inr (record { given = _; past = _; within = w; numbered = n; accepted = a })

  -- one opened after an opening is the one that it opened, or was opened before
  pub opened_cases : {p q : ℕ} {o : M.Opening} {cs : List (Call M)} → Opened M start (opening p o ∷ cs) q → ((q ≡ p) × (M.own o ≡ p) × (M.opens (words M start cs p) o ≡ true)) ⊎ Opened M start cs q
  opened_cases x = cases_within x.within x.numbered x.accepted

  abbrev pub NoDelivery : Call M → Type 0
  NoDelivery (opening p o) = Unit
  NoDelivery (delivery p m b) = ⊥
  NoDelivery (turn p l) = Unit
  NoDelivery (report p r) = Unit
  NoDelivery (restore p v r) = Unit
  NoDelivery (recording p y) = Unit

  got_before : {q m : ℕ} {b : M.Bytes} {ds : List (Call M)} {c : Call M} {cs : List (Call M)} → NoDelivery c → Within (delivery q m b ∷ ds) (c ∷ cs) → Within (delivery q m b ∷ ds) cs
  got_before n now = absurd n
  got_before n (after c w) = w

  -- with no other call a message leaves
  pub departed_before : {c : Call M} {cs : List (Call M)} {m : ℕ} {b : M.Bytes} → NoDelivery c → Departed M start (c ∷ cs) m b → Departed M start cs m b
  departed_before n x = record { who = x.who; past = x.past; within = got_before n x.within; opened = x.opened; accepted = x.accepted }

  -- the delivery of a from k to p is accepted, and it is the message b of m
  pub record Leaves (cs : List (Call M)) (p k : ℕ) (a : M.Bytes) (m : ℕ) (b : M.Bytes) : Type 0 where
    pub from : m ≡ k
    pub bytes : b ≡ a
    pub opened : Opened M start cs p
    pub accepted : M.accepts (words M start cs p) k a ≡ true

  got_cases : {p k q m : ℕ} {a b : M.Bytes} {ds cs : List (Call M)} → Within (delivery q m b ∷ ds) (delivery p k a ∷ cs) → Opened M start ds q → M.accepts (words M start ds q) m b ≡ true → Leaves cs p k a m b ⊎ Departed M start cs m b
  got_cases now o t = inl (record { from = refl; bytes = refl; opened = o; accepted = t })
  got_cases (after c w) o t = inr (record { who = _; past = _; within = w; opened = o; accepted = t })

  pub departed_cases : {p k m : ℕ} {a b : M.Bytes} {cs : List (Call M)} → Departed M start (delivery p k a ∷ cs) m b → Leaves cs p k a m b ⊎ Departed M start cs m b
  departed_cases x = got_cases x.within x.opened x.accepted

  module _ (S : M.Session) (H : ℕ → Bool) (v : ℕ → ℕ) where
    -- what `agree`, `once` and PutIn ask of an opening after the calls ds
    pub record OpeningMeets (p : ℕ) (o : M.Opening) (ds : List (Call M)) : Type 0 where
      pub agree : M.own o ≡ p → M.opens (words M start ds p) o ≡ true → M.session o ≡ S
      pub once : Opened M start ds p → M.opens (words M start ds p) o ≡ false
      pub put_in : M.own o ≡ p → M.opens (words M start ds p) o ≡ true → M.input o ≡ v p

    -- what `credited` asks of a delivery after the calls ds
    pub record DeliveryMeets (p m : ℕ) (b : M.Bytes) (ds : List (Call M)) : Type 0 where
      pub credited : Opened M start ds p → M.accepts (words M start ds p) m b ≡ true → Honest (world M S H) m → Sent M start ds m b

    -- what `falls-back` and `not-lost` ask of a restore after the calls ds
    pub record RestoreMeets (p : ℕ) (u : M.Words) (r : M.Restore) (ds : List (Call M)) : Type 0 where
      pub falls_back : Opened M start ds p → M.restores u r ≡ true → FallsBack M start ds p u r
      pub not_lost : Opened M start ds p → M.restores u r ≡ false → u ≡ words M start ds p

    -- what makes `coins` hold: a bit that is recorded after the calls ds is the box's
    pub record RecordingMeets (p : ℕ) (y : M.Recording) (ds : List (Call M)) : Type 0 where
      pub told : Opened M start ds p → M.records (words M start ds p) y ≡ true → M.bit y ≡ box_bit (M.vote y) (M.round y)

    abbrev pub Meets : Call M → List (Call M) → Type 0
    Meets (opening p o) ds = OpeningMeets p o ds
    Meets (delivery p m b) ds = DeliveryMeets p m b ds
    Meets (turn p l) ds = Unit
    Meets (report p r) ds = Unit
    Meets (restore p u r) ds = RestoreMeets p u r ds
    Meets (recording p y) ds = RecordingMeets p y ds

    abbrev pub AllMeet : List (Call M) → Type 0
    AllMeet [] = Unit
    AllMeet (c ∷ ds) = Honest (world M S H) (place M c) × Meets c ds × AllMeet ds

    honest_within : {c : Call M} {ds cs : List (Call M)} → Within (c ∷ ds) cs → AllMeet cs → Honest (world M S H) (place M c)
    honest_within now x = x.0
    honest_within (after d w) x = honest_within w x.2

    meets_within : {c : Call M} {ds cs : List (Call M)} → Within (c ∷ ds) cs → AllMeet cs → Meets c ds
    meets_within now x = x.1
    meets_within (after d w) x = meets_within w x.2

    pub conditions_met : (cs : List (Call M)) → AllMeet cs → Conditions M start S H cs
    conditions_met cs x =
        record {
          honest = λ c ds w. honest_within w x;
          agree = λ p o ds w. (meets_within w x).agree;
          once = λ p o ds w. (meets_within w x).once;
          credited = λ p m b ds w. (meets_within w x).credited;
          falls_back = λ p u r ds w. (meets_within w x).falls_back;
          not_lost = λ p u r ds w. (meets_within w x).not_lost;
          coins = λ e p q y z a b i j. (meets_within a.within x).told a.opened a.accepted ∙ rw (i, j) (sym ((meets_within b.within x).told b.opened b.accepted));
        }

    pub put_in_met : (cs : List (Call M)) → AllMeet cs → (p : ℕ) (o : M.Opening) (ds : List (Call M)) → Within (opening p o ∷ ds) cs → M.own o ≡ p → M.opens (words M start ds p) o ≡ true → M.input o ≡ v p
    put_in_met cs x p o ds w = (meets_within w x).put_in
