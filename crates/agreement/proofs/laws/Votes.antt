-- Votes over lawful histories, with up to ta liars: all decisions of a vote, in whatever rounds and at whichever honest concentrators, are
-- one value, and some honest one started with it. The lock: once a move decides b in a round, every move of that round and of each later one
-- takes b with it. FINISHes, and what they decide, go back to a deciding move.
use Rattle.std.specs.Prelude.{ℕ, zero, suc, ◌≤◌, Bool, true, false, ◌∷◌, ◌≡◌, refl}
use Rattle.std.proofs.Common.{inl, inr, sym, subst, ◌∙◌, arith}
use Rattle.std.proofs.Math.Decide.{dec_le, le_ind}
use Rattle.acts.specs.declared.View.{View}
use Rattle.acts.specs.declared.View.TheVariants.{Only, Both}
use Rattle.votes.specs.Votes.{estimate, coin_value}
use Rattle.agreement.specs.Evidence.{World, Sound}
use Rattle.agreement.proofs.laws.Evidence.{Somebody, backed_map, one_of, two_of}
use Rattle.agreement.specs.History.{Act, start, relay, move, finish, History, Did, Event, Single, Occurs, Own, started, moved, Est, own, relayed, Accepted, Moving, Deciding, Decided, by_move, by_finish, Guard, Lawful}
use Rattle.agreement.proofs.laws.History.{by_history}

-- what is in a history stays
module _ (W : World) (e : Event) (h : History) where
  own_keep : (i r b m : ℕ) → Own W h i r b m → Own W (e ∷ h) i r b m
  own_keep i r b m (started x d) = started x (inr d)
  own_keep i r b m (moved q v x y d) = moved q v x y (inr d)

  pub est_keep : (i r b m : ℕ) → Est W h i r b m → Est W (e ∷ h) i r b m
  est_keep i r b m (own x) = own (own_keep i r b m x)
  est_keep i r b m (relayed d) = relayed (inr d)

  moving_keep : (G : ℕ → Act → Type 0) (i r : ℕ) (v : View) → Moving W G h i r v → Moving W G (e ∷ h) i r v
  moving_keep G i r v x =
      record {
        round = x.round;
        quorum = backed_map W (λ m hm o. record { value = o.value; occurs = o.occurs; sent = record { done = inr o.sent.done; gone = o.sent.gone } }) x.quorum;
        accepted = λ c t. backed_map W (λ m hm o. est_keep i r c m o) (x.accepted c t);
      }

  deciding_keep : (i b m : ℕ) → Deciding W h i b m → Deciding W (e ∷ h) i b m
  deciding_keep i b m x = record { round = x.round; coin = x.coin; move = inr x.move }

  pub decided_keep : (p i b : ℕ) → Decided W h p i b → Decided W (e ∷ h) p i b
  decided_keep p i b (by_move x) = by_move (deciding_keep i b p x)
  decided_keep p i b (by_finish x) = by_finish (backed_map W (λ m hm d. inr d) x)

-- the estimate of a move is a value that it sees
estimate_seen : (c : Bool) (v : View) (b : ℕ) → estimate c v ≡ b → Occurs b v
estimate_seen c (Only x) b e = sym e
estimate_seen true Both b e = inr (sym e)
estimate_seen false Both b e = inl (sym e)

module _ (W : World) (G : ℕ → Act → Type 0) (so : Sound W W.settings.ta) where
  -- ---- where an EST comes from

  -- a relayed value was some honest one's own
  relay_own : (i r b : ℕ) (h : History) → Lawful W G h → (p : ℕ) → Did h p (relay i r b) → Somebody (Own W h i r b)
  relay_own i r b = by_history W G (relay i r b) (λ h. Somebody (Own W h i r b)) (λ e h o. record { who = o.who; has = own_keep W e h i r b o.who o.has }) step
    where
      from : (h : History) → ((m : ℕ) → Did h m (relay i r b) → Somebody (Own W h i r b)) → (m : ℕ) → Est W h i r b m → Somebody (Own W h i r b)
      from h rest m (own x) = record { who = m; has = x }
      from h rest m (relayed d) = rest m d

      step : (h : History) (p : ℕ) → Guard W G h p (relay i r b) → ((m : ℕ) → Did h m (relay i r b) → Somebody (Own W h i r b)) → Somebody (Own W h i r b)
      step h p g rest = let o = one_of W so (omega arith) g in from h rest o.who o.has

  -- an accepted value was some honest one's own
  accepted_own : (h : History) → Lawful W G h → (i r b : ℕ) → Accepted W h i r b → Somebody (Own W h i r b)
  accepted_own h law i r b x = let o = one_of W so (omega arith) x in from o.who o.has
    where
      from : (m : ℕ) → Est W h i r b m → Somebody (Own W h i r b)
      from m (own y) = record { who = m; has = y }
      from m (relayed d) = relay_own i r b h law m d

  -- a move has its evidence
  move_moving : (i r : ℕ) (v : View) (h : History) → Lawful W G h → (p : ℕ) → Did h p (move i r v) → Moving W G h i r v
  move_moving i r v = by_history W G (move i r v) (λ h. Moving W G h i r v) (λ e h x. moving_keep W e h G i r v x) (λ h p g rest. g)

  -- ---- the lock: p decides b in round r

  module _ (one : Single G) (h : History) (law : Lawful W G h) (i r b : ℕ) (coin : b ≡ coin_value (W.coin i r)) (p : ℕ) (decides : Did h p (move i r (Only b))) where
    -- all that move in round m take b with them
    abbrev Locked : ℕ → Type 0
    Locked m = (q : ℕ) (v : View) → Did h q (move i m v) → estimate (W.coin i m) v ≡ b

    takes : (v : View) → Occurs b v → estimate (W.coin i r) v ≡ b
    takes (Only x) o = sym o
    takes Both o = sym coin

    -- an honest AUX that both moves counted carries b
    locked_here : Locked r
    locked_here q v d =
        let o = two_of W so (omega arith) (move_moving i r (Only b) h law p decides).quorum (move_moving i r v h law q d).quorum in
        let x = o.has.0 in
        let y = o.has.1 in
        let e = one.aux_one o.who i r y.value x.value y.sent.gone x.sent.gone in
        takes v (subst (λ (c : ℕ). Occurs c v) (e ∙ x.occurs) y.occurs)

    -- only b can be accepted in the next round
    locked_next : (m : ℕ) → r ≤ m → Locked m → Locked (suc m)
    locked_next m le l q v d = all_b v (move_moving i (suc m) v h law q d).accepted
      where
        first : 1 ≤ r
        first = (move_moving i r (Only b) h law p decides).round

        earlier : (c k s : ℕ) (v : View) → suc m ≡ suc s → Did h k (move i s v) → estimate (W.coin i s) v ≡ b
        earlier c k s v x z = let e : m ≡ s = omega arith in rw (← e) (l k v (rw (← e) at z))

        own_b : (c k : ℕ) → Own W h i (suc m) c k → c ≡ b
        own_b c k (started x y) = absurd (let f = first in omega arith)
        own_b c k (moved s w x y z) = sym y ∙ earlier c k s w x z

        value_b : (c : ℕ) → Accepted W h i (suc m) c → c ≡ b
        value_b c x = let o = accepted_own h law i (suc m) c x in own_b c o.who o.has

        all_b : (v : View) → ((c : ℕ) → Occurs c v → Accepted W h i (suc m) c) → estimate (W.coin i (suc m)) v ≡ b
        all_b (Only x) f = value_b x (f x refl)
        all_b Both f = absurd (omega (arith, value_b 0 (f 0 (inl refl)), value_b 1 (f 1 (inr refl))))

    locked : (m : ℕ) → r ≤ m → Locked m
    locked m le = le_ind Locked locked_here locked_next m le

  -- ---- decisions agree

  -- a FINISH goes back to a deciding move
  finish_deciding : (i b : ℕ) (h : History) → Lawful W G h → (p : ℕ) → Did h p (finish i b) → Somebody (Deciding W h i b)
  finish_deciding i b = by_history W G (finish i b) (λ h. Somebody (Deciding W h i b)) (λ e h o. record { who = o.who; has = deciding_keep W e h i b o.who o.has }) step
    where
      step : (h : History) (p : ℕ) → Guard W G h p (finish i b) → ((m : ℕ) → Did h m (finish i b) → Somebody (Deciding W h i b)) → Somebody (Deciding W h i b)
      step h p (inl (by_move x)) rest = record { who = p; has = x }
      step h p (inl (by_finish x)) rest = let o = one_of W so (omega arith) x in rest o.who o.has
      step h p (inr x) rest = let o = one_of W so (omega arith) x in rest o.who o.has

  -- and so does a decision, maybe to another's move
  decided_deciding : (h : History) → Lawful W G h → (p i b : ℕ) → Decided W h p i b → Somebody (Deciding W h i b)
  decided_deciding h law p i b (by_move x) = record { who = p; has = x }
  decided_deciding h law p i b (by_finish x) = let o = one_of W so (omega arith) x in finish_deciding i b h law o.who o.has

  module _ (one : Single G) (h : History) (law : Lawful W G h) (i : ℕ) where
    -- the later of two deciding moves decides as the earlier
    later_agrees : (b c p q : ℕ) (x : Deciding W h i b p) (y : Deciding W h i c q) → x.round ≤ y.round → c ≡ b
    later_agrees b c p q x y le = locked one h law i x.round b x.coin p x.move y.round le q (Only c) y.move

    pub decided_agree : (p q b c : ℕ) → Decided W h p i b → Decided W h q i c → b ≡ c
    decided_agree p q b c x y = go (decided_deciding h law p i b x) (decided_deciding h law q i c y)
      where
        go : Somebody (Deciding W h i b) → Somebody (Deciding W h i c) → b ≡ c
        go u v =
            elim (dec_le u.has.round v.has.round) [ yes le ↦ sym (later_agrees b c u.who v.who u.has v.has le) | no l ↦ later_agrees c b v.who u.who v.has u.has (omega arith) ]

  -- ---- a decided value was started with

  module _ (h : History) (law : Lawful W G h) (i b : ℕ) where
    abbrev Started : Type 0
    Started = Somebody (λ m. Did h m (start i b))

    -- an own EST goes back, round by round, to a start: a move sees what it takes with it, and what it sees was some honest one's own there
    own_started : (r m : ℕ) → Own W h i r b m → Started
    own_started zero m (started x d) = absurd (omega arith)
    own_started zero m (moved q v x e d) = absurd (omega arith)
    own_started (suc r) m (started x d) = record { who = m; has = d }
    own_started (suc r) m (moved q v x e d) = back (λ k y. own_started r k y)
      where
        same : q ≡ r
        same = omega arith

        back : ((k : ℕ) → Own W h i r b k → Started) → Started
        back rest =
            let o = accepted_own h law i q b ((move_moving i q v h law m d).accepted b (estimate_seen (W.coin i q) v b e)) in
            rest o.who (subst (λ (n : ℕ). Own W h i n b o.who) same o.has)

    pub decided_started : (p : ℕ) → Decided W h p i b → Started
    decided_started p x =
        let d = decided_deciding h law p i b x in
        let o = accepted_own h law i d.has.round b ((move_moving i d.has.round (Only b) h law d.who d.has.move).accepted b refl) in
        own_started d.has.round o.who o.has
