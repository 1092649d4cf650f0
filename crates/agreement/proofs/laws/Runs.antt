-- From states to lawful histories: what a state shows, when an act is due in it, and what a delivery and a turn may change. All laws go in
-- one direction: nothing is held that was not delivered, no mark of an ECHO or AUX vanishes, a new decision is that of the move, or has its
-- FINISHes. Marks tell of the acts that are on record at the concentrator; the history may have more of its acts.
use Rattle.std.specs.Prelude.{ℕ, suc, ◌+◌, ◌*◌, ◌≤◌, Bool, List, ◌∷◌, ◌⊎◌, ◌≡◌, refl, Some}
use Rattle.std.proofs.Common.{inl, inr, sym, subst, arith}
use Rattle.acts.specs.declared.View.{View}
use Rattle.acts.specs.declared.View.TheVariants.{Only}
use Rattle.votes.specs.Votes.{estimate, coin_value}
use Rattle.exits.specs.Standing.{Standing}
use Rattle.held.specs.laws.Held.{Message, SEND, ECHO, READY, EST, AUX, COMMIT, FINISH}
use Rattle.agreement.specs.Evidence.{World, whole, Honest, Backed}
use Rattle.agreement.proofs.laws.Evidence.{backed_map}
use Rattle.agreement.specs.History.{Act, send, echo, ready, start, relay, aux, move, commit, finish, Event, by, History, Did, Single, Heard, Occurs, Decision, Names, started, moved, Est, own, relayed, Decided, by_move, by_finish, Stands, Guard}
use Rattle.agreement.proofs.laws.Votes.{est_keep, decided_keep}
use Rattle.agreement.specs.Agreement.{Shown, by_exits, by_in_force}

-- what the states of a machine show
pub record Seen (St : Type 0) : Type 1 where
  -- a message of a sender is held
  pub holds : St → ℕ → Message → Type 0
  -- the own ECHO of an instance, the own AUX of a vote and a round, is marked as sent
  pub echoed : St → ℕ → Type 0
  pub auxed : St → ℕ → ℕ → Type 0
  -- outputs and decisions
  pub standing : St → Standing
  -- the coin of a vote and a round stands there, printed or recorded
  pub coin : St → ℕ → ℕ → Bool → Type 0

module _ (W : World) where
  -- m has said x
  abbrev pub Said : History → ℕ → Message → Type 0
  Said h m (SEND v) = Did h m (send v)
  Said h m (ECHO i v) = Did h m (echo i v)
  Said h m (READY i v) = Did h m (ready i v)
  Said h m (EST i r b) = Est W h i r b m
  Said h m (AUX i r b) = Did h m (aux i r b)
  Said h m (COMMIT X) = Did h m (commit X)
  Said h m (FINISH i b) = Did h m (finish i b)

  -- the message that an act sends; the move out of round 32 sends none
  abbrev pub message : Act → Message
  message (send v) = SEND v
  message (echo i v) = ECHO i v
  message (ready i v) = READY i v
  message (start i b) = EST i 1 b
  message (relay i r b) = EST i r b
  message (aux i r b) = AUX i r b
  message (move i r v) = EST i (suc r) (estimate (W.coin i r) v)
  message (commit X) = COMMIT X
  message (finish i b) = FINISH i b

  -- which act an ECHO, an AUX tells of
  pub echo_of : (a : Act) (i v : ℕ) → ECHO i v ≡ message a → a ≡ echo i v
  echo_of (send u) i v e = absurd (let z : ◌≡◌ {A = ℕ} 0 1 = cc in omega arith)
  echo_of (echo j u) i v e = cc
  echo_of (ready j u) i v e = absurd (let z : ◌≡◌ {A = ℕ} 0 1 = cc in omega arith)
  echo_of (start j b) i v e = absurd (let z : ◌≡◌ {A = ℕ} 0 1 = cc in omega arith)
  echo_of (relay j r b) i v e = absurd (let z : ◌≡◌ {A = ℕ} 0 1 = cc in omega arith)
  echo_of (aux j r b) i v e = absurd (let z : ◌≡◌ {A = ℕ} 0 1 = cc in omega arith)
  echo_of (move j r b) i v e = absurd (let z : ◌≡◌ {A = ℕ} 0 1 = cc in omega arith)
  echo_of (commit X) i v e = absurd (let z : ◌≡◌ {A = ℕ} 0 1 = cc in omega arith)
  echo_of (finish j b) i v e = absurd (let z : ◌≡◌ {A = ℕ} 0 1 = cc in omega arith)

  pub aux_of : (a : Act) (i r v : ℕ) → AUX i r v ≡ message a → a ≡ aux i r v
  aux_of (send u) i r v e = absurd (let z : ◌≡◌ {A = ℕ} 0 1 = cc in omega arith)
  aux_of (echo j u) i r v e = absurd (let z : ◌≡◌ {A = ℕ} 0 1 = cc in omega arith)
  aux_of (ready j u) i r v e = absurd (let z : ◌≡◌ {A = ℕ} 0 1 = cc in omega arith)
  aux_of (start j b) i r v e = absurd (let z : ◌≡◌ {A = ℕ} 0 1 = cc in omega arith)
  aux_of (relay j q b) i r v e = absurd (let z : ◌≡◌ {A = ℕ} 0 1 = cc in omega arith)
  aux_of (aux j q b) i r v e = cc
  aux_of (move j q b) i r v e = absurd (let z : ◌≡◌ {A = ℕ} 0 1 = cc in omega arith)
  aux_of (commit X) i r v e = absurd (let z : ◌≡◌ {A = ℕ} 0 1 = cc in omega arith)
  aux_of (finish j b) i r v e = absurd (let z : ◌≡◌ {A = ℕ} 0 1 = cc in omega arith)

  -- what was done has been said
  pub said_of : (h : History) (m : ℕ) (a : Act) → Did h m a → Said h m (message a)
  said_of h m (send v) d = d
  said_of h m (echo i v) d = d
  said_of h m (ready i v) d = d
  said_of h m (start i b) d = own (started refl d)
  said_of h m (relay i r b) d = relayed d
  said_of h m (aux i r b) d = d
  said_of h m (move i r v) d = own (moved r v refl refl d)
  said_of h m (commit X) d = d
  said_of h m (finish i b) d = d

  said_keep : (e : Event) (h : History) (m : ℕ) (x : Message) → Said h m x → Said (e ∷ h) m x
  said_keep e h m (SEND v) d = inr d
  said_keep e h m (ECHO i v) d = inr d
  said_keep e h m (READY i v) d = inr d
  said_keep e h m (EST i r b) d = est_keep W e h i r b m d
  said_keep e h m (AUX i r b) d = inr d
  said_keep e h m (COMMIT X) d = inr d
  said_keep e h m (FINISH i b) d = inr d

  -- a decides vote i as b
  pub record Decides (a : Act) (i b : ℕ) : Type 0 where
    pub round : ℕ
    pub moves : a ≡ move i round (Only b)
    pub coin : b ≡ coin_value (W.coin i round)

module _ (W : World) {St : Type 0} (S : Seen St) where
  -- ---- when an act is due in a state

  -- x is held from senders of weight k, up to the slack
  abbrev pub HeldFrom : St → ℕ → ℕ → Message → Type 0
  HeldFrom s k slack x = Backed W k slack (λ m. S.holds s m x)

  -- an AUX of m is held that carries a value of the view
  pub record Carried (s : St) (i r : ℕ) (v : View) (m : ℕ) : Type 0 where
    pub value : ℕ
    pub occurs : Occurs value v
    pub held : S.holds s m (AUX i r value)

  pub record MoveDue (s : St) (i r : ℕ) (v : View) : Type 0 where
    pub round : 1 ≤ r
    pub quorum : Backed W (whole W) W.settings.ta (Carried s i r v)
    pub accepted : (c : ℕ) → Occurs c v → HeldFrom s (2 * W.settings.ta + 1) 0 (EST i r c)

  abbrev pub Due : St → Act → Type 0
  Due s (send v) = Unit {0}
  Due s (echo i v) = (S.echoed s i → ⊥) × S.holds s i (SEND v)
  Due s (ready i v) = HeldFrom s (whole W) W.settings.ts (ECHO i v) ⊎ HeldFrom s (W.settings.ts + 1) 0 (READY i v)
  Due s (start i b) = b ≡ 1 → (v : ℕ) × ((S.standing s).out i ≡ Some v)
  Due s (relay i r b) = HeldFrom s (W.settings.ta + 1) 0 (EST i r b)
  Due s (aux i r b) = S.auxed s i r → ⊥
  Due s (move i r v) = MoveDue s i r v
  Due s (commit X) = Names W.settings (S.standing s) X ⊎ HeldFrom s (W.settings.ts + 1) 0 (COMMIT X)
  Due s (finish i b) = ((1 ≤ i) × (i ≤ W.settings.n) × Decision (S.standing s) i b) ⊎ HeldFrom s (W.settings.ta + 1) 0 (FINISH i b)

  -- ---- what a state shows by itself, and what calls may change

  -- the coins that stand there are the world's
  abbrev pub CoinsAre : St → Type 0
  CoinsAre s = (i r : ℕ) (c : Bool) → S.coin s i r c → c ≡ W.coin i r

  -- an output has its READYs
  abbrev pub OutputsHeld : St → Type 0
  OutputsHeld s = (i v : ℕ) → 1 ≤ i → i ≤ W.settings.n → (S.standing s).out i ≡ Some v → HeldFrom s (whole W) W.settings.ts (READY i v)

  -- from s to t: what is held was held or is new, marks stay, decisions stood or are new
  pub record Changed (s t : St) (new : ℕ → Message → Type 0) (decision : ℕ → ℕ → Type 0) : Type 0 where
    pub held : (m : ℕ) (x : Message) → 1 ≤ m → m ≤ W.settings.n → S.holds t m x → S.holds s m x ⊎ new m x
    pub echoed : (i : ℕ) → S.echoed s i → S.echoed t i
    pub auxed : (i r : ℕ) → S.auxed s i r → S.auxed t i r
    pub decs : (i b : ℕ) → 1 ≤ i → i ≤ W.settings.n → Decision (S.standing t) i b → Decision (S.standing s) i b ⊎ decision i b

  -- a call that does nothing
  abbrev pub Kept : St → St → Type 0
  Kept s t = Changed s t (λ m x. ⊥) (λ i b. ⊥)

  -- FINISHes of a value that are held decide it
  abbrev pub Finished : St → ℕ → ℕ → Type 0
  Finished t i b = HeldFrom t (2 * W.settings.ta + 1) 0 (FINISH i b)

  -- a delivery of x from m: what it decides has its FINISHes now
  abbrev pub Delivered : St → St → ℕ → Message → Type 0
  Delivered s t m x = Changed s t (λ k y. (k ≡ m) × (y ≡ x)) (Finished t)

  -- a turn that does a
  pub record Acted (s t : St) (a : Act) : Type 0 where
    pub changed : Changed s t (λ m x. ⊥) (Decides W a)
    pub echoes : (i v : ℕ) → a ≡ echo i v → S.echoed t i
    pub auxes : (i r b : ℕ) → a ≡ aux i r b → S.auxed t i r

  -- nothing is held or decided: a state right after its opening
  pub record Blank (s : St) : Type 0 where
    pub held : (m : ℕ) (x : Message) → 1 ≤ m → m ≤ W.settings.n → S.holds s m x → ⊥
    pub decs : (i b : ℕ) → 1 ≤ i → i ≤ W.settings.n → Decision (S.standing s) i b → ⊥

-- no coin is new
abbrev pub CoinsStay : {St : Type 0} → Seen St → St → St → Type 0
CoinsStay S s t = (i r : ℕ) (c : Bool) → S.coin t i r c → S.coin s i r c

-- Left m x: the message x of m was got by an honest one, at some time. J a: the act a is on record at p.
module _ (W : World) {St : Type 0} (S : Seen St) (Left : ℕ → Message → Type 0) where
  -- the acts whose messages left
  abbrev pub Gone : ℕ → Act → Type 0
  Gone m a = Left m (message W a)

  -- m has said x, and it left
  pub record Credit (h : History) (m : ℕ) (x : Message) : Type 0 where
    pub said : Said W h m x
    pub gone : Left m x

  -- ---- what holds of a state of p after h

  pub record Inv (h : History) (J : Act → Type 0) (p : ℕ) (s : St) : Type 0 where
    pub credit : (m : ℕ) (x : Message) → Honest W m → S.holds s m x → Credit h m x
    pub echoes : (i v : ℕ) → J (echo i v) → S.echoed s i
    pub auxes : (i r b : ℕ) → J (aux i r b) → S.auxed s i r
    pub single : Single (λ q. J)
    pub coins : CoinsAre W S s
    pub decs : (i b : ℕ) → 1 ≤ i → i ≤ W.settings.n → Decision (S.standing s) i b → Decided W h p i b

  module _ (h : History) (J : Act → Type 0) (p : ℕ) (s : St) (inv : Inv h J p s) (outs : OutputsHeld W S s) where
    -- what is held was said
    pub backing : {k slack : ℕ} (x : Message) → HeldFrom W S s k slack x → Backed W k slack (λ m. Said W h m x)
    backing x b = backed_map W (λ m hm d. (inv.credit m x hm d).said) b

    stands : Stands W h p (S.standing s)
    stands = record { outs = λ i v lo hi e. backing (READY i v) (outs i v lo hi e); decs = inv.decs }

    heard_aux : (i r c m : ℕ) → Honest W m → S.holds s m (AUX i r c) → Heard Gone h (aux i r c) m
    heard_aux i r c m hm d =
        let x = inv.credit m (AUX i r c) hm d in
        record { done = x.said; gone = x.gone }

    heard_echo : (i v m : ℕ) → Honest W m → S.holds s m (ECHO i v) → Heard Gone h (echo i v) m
    heard_echo i v m hm d =
        let x = inv.credit m (ECHO i v) hm d in
        record { done = x.said; gone = x.gone }

    -- an act that is due is lawful
    pub due_guard : (a : Act) → Due W S s a → Guard W Gone h p a
    due_guard (send v) d = tt
    due_guard (echo i v) d = λ hi. (inv.credit i (SEND v) hi d.1).said
    due_guard (ready i v) (inl x) = inl (backed_map W (λ m hm d. heard_echo i v m hm d) x)
    due_guard (ready i v) (inr x) = inr (backing (READY i v) x)
    due_guard (start i b) d = tt
    due_guard (relay i r b) d = backing (EST i r b) d
    due_guard (aux i r b) d = tt
    due_guard (move i r v) d =
        record {
          round = d.round;
          quorum = backed_map W (λ m hm c. record { value = c.value; occurs = c.occurs; sent = heard_aux i r c.value m hm c.held }) d.quorum;
          accepted = λ c o. backing (EST i r c) (d.accepted c o);
        }
    due_guard (commit X) (inl x) = inl (record { standing = S.standing s; stands = stands; names = x })
    due_guard (commit X) (inr x) = inr (backing (COMMIT X) x)
    due_guard (finish i b) (inl x) = inl (inv.decs i b x.0 x.1 x.2)
    due_guard (finish i b) (inr x) = inr (backing (FINISH i b) x)

    -- what the state shows is shown
    pub shows_named : (X : List ℕ) → Names W.settings (S.standing s) X → Shown W h X
    shows_named X x = by_exits p (record { standing = S.standing s; stands = stands; names = x })

    pub shows_force : (X : List ℕ) → HeldFrom W S s (whole W) W.settings.ts (COMMIT X) → Shown W h X
    shows_force X x = by_in_force (backing (COMMIT X) x)

  -- ---- calls keep what holds

  -- p is opened, and no act is on record
  pub inv_blank : (h : History) (J : Act → Type 0) (p : ℕ) (s : St) → ((a : Act) → J a → ⊥) → Blank W S s → CoinsAre W S s → Inv h J p s
  inv_blank h J p s none b coins =
      record {
        credit = λ m x hm t. absurd (b.held m x hm.low hm.high t);
        echoes = λ i v d. absurd (none (echo i v) d);
        auxes = λ i r c d. absurd (none (aux i r c) d);
        single = record { echo_one = λ q i u v d e. absurd (none (echo i u) d); aux_one = λ q i r b c d e. absurd (none (aux i r b) d) };
        coins = coins;
        decs = λ i c lo hi e. absurd (b.decs i c lo hi e);
      }

  -- whatever is done next, by whomever
  pub inv_keep : (e : Event) (h : History) (J : Act → Type 0) (p : ℕ) (s : St) → Inv h J p s → Inv (e ∷ h) J p s
  inv_keep e h J p s inv =
      record {
        credit = λ m x hm t. let c = inv.credit m x hm t in record { said = said_keep W e h m x c.said; gone = c.gone };
        echoes = inv.echoes;
        auxes = inv.auxes;
        single = inv.single;
        coins = inv.coins;
        decs = λ i b lo hi d. decided_keep W e h p i b (inv.decs i b lo hi d);
      }

  -- a record that has no other acts
  pub inv_fewer : (h : History) (J K : Act → Type 0) (p : ℕ) (s : St) → ((a : Act) → K a → J a) → Inv h J p s → Inv h K p s
  inv_fewer h J K p s f inv =
      record {
        credit = inv.credit;
        echoes = λ i v d. inv.echoes i v (f (echo i v) d);
        auxes = λ i r b d. inv.auxes i r b (f (aux i r b) d);
        single = record { echo_one = λ q i u v d e. inv.single.echo_one q i u v (f (echo i u) d) (f (echo i v) e); aux_one = λ q i r b c d e. inv.single.aux_one q i r b c (f (aux i r b) d) (f (aux i r c) e) };
        coins = inv.coins;
        decs = inv.decs;
      }

  module _ (h : History) (J : Act → Type 0) (p : ℕ) (s t : St) (inv : Inv h J p s) (coins : CoinsAre W S t) where
    -- a call that is no act
    inv_changed : (new : ℕ → Message → Type 0) → ((m : ℕ) (x : Message) → Honest W m → new m x → Credit h m x) → Changed W S s t new (Finished W S t) → Inv h J p t
    inv_changed new said c =
        record {
          credit = λ m x hm u. held m x hm (c.held m x hm.low hm.high u);
          echoes = λ i v d. c.echoed i (inv.echoes i v d);
          auxes = λ i r b d. c.auxed i r (inv.auxes i r b d);
          single = inv.single;
          coins = coins;
          decs = λ i b lo hi e. decs i b lo hi (c.decs i b lo hi e);
        }
      where
        held : (m : ℕ) (x : Message) → Honest W m → S.holds s m x ⊎ new m x → Credit h m x
        held m x hm (inl u) = inv.credit m x hm u
        held m x hm (inr u) = said m x hm u

        decs : (i b : ℕ) → 1 ≤ i → i ≤ W.settings.n → Decision (S.standing s) i b ⊎ Finished W S t i b → Decided W h p i b
        decs i b lo hi (inl e) = inv.decs i b lo hi e
        decs i b lo hi (inr e) = by_finish (backed_map W (λ m hm u. (held m (FINISH i b) hm (c.held m (FINISH i b) hm.low hm.high u)).said) e)

    pub inv_kept : Kept W S s t → Inv h J p t
    inv_kept k = inv_changed (λ m x. ⊥) (λ m x hm u. absurd u) (record { held = k.held; echoed = k.echoed; auxed = k.auxed; decs = λ i b lo hi d. stood i b (k.decs i b lo hi d) })
      where
        stood : (i b : ℕ) → Decision (S.standing s) i b ⊎ ⊥ → Decision (S.standing s) i b ⊎ Finished W S t i b
        stood i b (inl d) = inl d
        stood i b (inr d) = absurd d

    pub inv_delivered : (m : ℕ) (x : Message) → (Honest W m → Credit h m x) → Delivered W S s t m x → Inv h J p t
    inv_delivered m x said d = inv_changed (λ k y. (k ≡ m) × (y ≡ x)) (λ k y hk e. rw (e.0, e.1) (said (rw e.0 at hk))) d

    -- its own act, which is not on record yet
    pub inv_acted : (a : Act) → Due W S s a → Acted W S s t a → (K : Act → Type 0) → ((b : Act) → K b → (b ≡ a) ⊎ J b) → Inv (by p a ∷ h) K p t
    inv_acted a due d K only =
        record {
          credit = λ m x hm u. let c = held m x hm (d.changed.held m x hm.low hm.high u) in record { said = said_keep W (by p a) h m x c.said; gone = c.gone };
          echoes = λ i v k. echoes i v (only (echo i v) k);
          auxes = λ i r b k. auxes i r b (only (aux i r b) k);
          single = record { echo_one = λ q i u v k l. echo_one q i u v (only (echo i u) k) (only (echo i v) l); aux_one = λ q i r b c k l. aux_one q i r b c (only (aux i r b) k) (only (aux i r c) l) };
          coins = coins;
          decs = λ i b lo hi e. decs i b lo hi (d.changed.decs i b lo hi e);
        }
      where
        held : (m : ℕ) (x : Message) → Honest W m → S.holds s m x ⊎ ⊥ → Credit h m x
        held m x hm (inl u) = inv.credit m x hm u
        held m x hm (inr u) = absurd u

        echoes : (i v : ℕ) → (echo i v ≡ a) ⊎ J (echo i v) → S.echoed t i
        echoes i v (inl e) = d.echoes i v (sym e)
        echoes i v (inr x) = d.changed.echoed i (inv.echoes i v x)

        auxes : (i r b : ℕ) → (aux i r b ≡ a) ⊎ J (aux i r b) → S.auxed t i r
        auxes i r b (inl e) = d.auxes i r b (sym e)
        auxes i r b (inr x) = d.changed.auxed i r (inv.auxes i r b x)

        fresh_echo : (i u v : ℕ) → echo i u ≡ a → J (echo i v) → ⊥
        fresh_echo i u v e k = let g : Due W S s (echo i u) = subst (λ (x : Act). Due W S s x) (sym e) due in g.0 (inv.echoes i v k)

        fresh_aux : (i r b c : ℕ) → aux i r b ≡ a → J (aux i r c) → ⊥
        fresh_aux i r b c e k = let g : Due W S s (aux i r b) = subst (λ (x : Act). Due W S s x) (sym e) due in g (inv.auxes i r c k)

        echo_one : (q i u v : ℕ) → (echo i u ≡ a) ⊎ J (echo i u) → (echo i v ≡ a) ⊎ J (echo i v) → u ≡ v
        echo_one q i u v (inl e) (inl f) = cc
        echo_one q i u v (inl e) (inr k) = absurd (fresh_echo i u v e k)
        echo_one q i u v (inr k) (inl f) = absurd (fresh_echo i v u f k)
        echo_one q i u v (inr k) (inr l) = inv.single.echo_one q i u v k l

        aux_one : (q i r b c : ℕ) → (aux i r b ≡ a) ⊎ J (aux i r b) → (aux i r c ≡ a) ⊎ J (aux i r c) → b ≡ c
        aux_one q i r b c (inl e) (inl f) = cc
        aux_one q i r b c (inl e) (inr k) = absurd (fresh_aux i r b c e k)
        aux_one q i r b c (inr k) (inl f) = absurd (fresh_aux i r c b f k)
        aux_one q i r b c (inr k) (inr l) = inv.single.aux_one q i r b c k l

        decs : (i b : ℕ) → 1 ≤ i → i ≤ W.settings.n → Decision (S.standing s) i b ⊎ Decides W a i b → Decided W (by p a ∷ h) p i b
        decs i b lo hi (inl e) = decided_keep W (by p a) h p i b (inv.decs i b lo hi e)
        decs i b lo hi (inr e) = by_move (record { round = e.round; coin = e.coin; move = inl (rw e.moves) })
