-- Histories of what the honest concentrators did, and which of them are lawful: each act has its evidence before it.
-- Only ECHO for each concentrator and instance, and AUX for each concentrator, instance and round, are one value, and only those that left: what
-- no honest one got binds nobody. All acts are in the history.
use Rattle.std.specs.Prelude.{ℕ, suc, ◌+◌, ◌*◌, ◌≤◌, true, List, [], ◌∷◌, ◌⊎◌, ◌≡◌, Some}
use Rattle.acts.specs.declared.View.{View}
use Rattle.acts.specs.declared.View.TheVariants.{Only, Both}
use Rattle.votes.specs.Votes.{estimate, coin_value}
use Rattle.exits.specs.Standing.{Standing, exit_at}
use Rattle.settings.specs.declared.Settings.{Settings}
use Rattle.agreement.specs.Evidence.{World, whole, Honest, Backed}

-- what a turn does: SEND of the input, ECHO and READY of an instance and a value, a start with a value, relay and AUX of a vote, a round
-- and a value, a move out of a round with what its AUXs carry, COMMIT of a set, and, in version 2, FINISH of a vote and a value
pub data Act : Type 0 where
  send : ℕ → Act
  echo ready : ℕ → ℕ → Act
  start : ℕ → ℕ → Act
  relay aux : ℕ → ℕ → ℕ → Act
  move : ℕ → ℕ → View → Act
  commit : List ℕ → Act
  finish : ℕ → ℕ → Act

pub data Event : Type 0 where
  by : ℕ → Act → Event

-- newest first
abbrev pub History : Type 0
History = List Event

abbrev pub Did : History → ℕ → Act → Type 0
Did [] p a = ⊥
Did (e ∷ h) p a = (e ≡ by p a) ⊎ Did h p a

-- the view has the value c
abbrev pub Occurs : ℕ → View → Type 0
Occurs c (Only b) = c ≡ b
Occurs c Both = (c ≡ 0) ⊎ (c ≡ 1)

-- vote i is decided b in a standing
pub data Decision (s : Standing) (i : ℕ) : ℕ → Type 0 where
  zero : s.as0 i ≡ true → Decision s i 0
  one : s.as1 i ≡ true → Decision s i 1

-- the exits of a standing name X
pub record Names (g : Settings) (s : Standing) (X : List ℕ) : Type 0 where
  pub exit : (exit_at g s).number ≡ 0 → ⊥
  pub set : (exit_at g s).names ≡ X

-- which messages left: G m a if the message of m's act a was got by an honest one at some time, before or after. Of these an ECHO is one for
-- its sender and instance, an AUX for its sender, vote and round.
pub record Single (G : ℕ → Act → Type 0) : Type 0 where
  pub echo_one : (p i u v : ℕ) → G p (echo i u) → G p (echo i v) → u ≡ v
  pub aux_one : (p i r b c : ℕ) → G p (aux i r b) → G p (aux i r c) → b ≡ c

-- m did a, and its message left
pub record Heard (G : ℕ → Act → Type 0) (h : History) (a : Act) (m : ℕ) : Type 0 where
  pub done : Did h m a
  pub gone : G m a

module _ (W : World) where
  abbrev ta : ℕ
  ta = W.settings.ta

  abbrev ts : ℕ
  ts = W.settings.ts

  -- m sent the EST of its own accord: a start sends its value in round 1, a move its estimate in the round that it enters (PROTOCOL 5.3, 5.11)
  pub data Own (h : History) (i r b m : ℕ) : Type 0 where
    started : r ≡ 1 → Did h m (start i b) → Own h i r b m
    moved : (q : ℕ) (v : View) → r ≡ suc q → estimate (W.coin i q) v ≡ b → Did h m (move i q v) → Own h i r b m

  -- m sent EST b in round r of vote i
  pub data Est (h : History) (i r b m : ℕ) : Type 0 where
    own : Own h i r b m → Est h i r b m
    relayed : Did h m (relay i r b) → Est h i r b m

  -- a value is accepted in a round once its ESTs there reach the accept threshold (PROTOCOL 5.5)
  abbrev pub Accepted : History → ℕ → ℕ → ℕ → Type 0
  Accepted h i r b = Backed W (2 * ta + 1) 0 (Est h i r b)

  -- a move that sees only b decides b where b is the coin (PROTOCOL 5.9)
  pub record Deciding (h : History) (i b m : ℕ) : Type 0 where
    pub round : ℕ
    pub coin : b ≡ coin_value (W.coin i round)
    pub move : Did h m (move i round (Only b))

  -- vote i is decided b at p: by a move of its own or, in version 2, by FINISHes that reach the accept threshold
  pub data Decided (h : History) (p i b : ℕ) : Type 0 where
    by_move : Deciding h i b p → Decided h p i b
    by_finish : Backed W (2 * ta + 1) 0 (λ m. Did h m (finish i b)) → Decided h p i b

  -- a broadcast has output v where READYs of v are a quorum (PROTOCOL 4.3)
  abbrev pub Delivers : History → ℕ → ℕ → Type 0
  Delivers h i v = Backed W (whole W) ts (λ m. Did h m (ready i v))

  -- what stands at p after the history h: each output and each decision has its cause there
  pub record Stands (h : History) (p : ℕ) (s : Standing) : Type 0 where
    pub outs : (i v : ℕ) → 1 ≤ i → i ≤ W.settings.n → s.out i ≡ Some v → Delivers h i v
    pub decs : (i b : ℕ) → 1 ≤ i → i ≤ W.settings.n → Decision s i b → Decided h p i b

  -- the exits name X at p
  pub record Naming (h : History) (X : List ℕ) (p : ℕ) : Type 0 where
    pub standing : Standing
    pub stands : Stands h p standing
    pub names : Names W.settings standing X

module _ (W : World) (G : ℕ → Act → Type 0) where
  -- an AUX of m of a value of the view left
  pub record Voiced (h : History) (i r : ℕ) (v : View) (m : ℕ) : Type 0 where
    pub value : ℕ
    pub occurs : Occurs value v
    pub sent : Heard G h (aux i r value) m

  -- the AUXs with accepted values reach the vote quorum (PROTOCOL 5.7)
  pub record Moving (h : History) (i r : ℕ) (v : View) : Type 0 where
    pub round : 1 ≤ r
    pub quorum : Backed W (whole W) (ta W) (Voiced h i r v)
    pub accepted : (c : ℕ) → Occurs c v → Accepted W h i r c

  -- what is asked of an act of p after h
  abbrev pub Guard : History → ℕ → Act → Type 0
  Guard h p (send v) = Unit {0}
  -- an ECHO carries the value of the SEND (PROTOCOL 4.4)
  Guard h p (echo i v) = Honest W i → Did h i (send v)
  -- a quorum of ECHOs, or else READYs that reach the repeat threshold (PROTOCOL 4.5)
  Guard h p (ready i v) = Backed W (whole W) (ts W) (Heard G h (echo i v)) ⊎ Backed W (ts W + 1) 0 (λ m. Did h m (ready i v))
  Guard h p (start i b) = Unit {0}
  -- ESTs that reach the relay threshold (PROTOCOL 5.4)
  Guard h p (relay i r b) = Backed W (ta W + 1) 0 (Est W h i r b)
  Guard h p (aux i r b) = Unit {0}
  Guard h p (move i r v) = Moving h i r v
  -- the named set, or else one whose COMMITs reach the repeat threshold (PROTOCOL 7.2)
  Guard h p (commit X) = Naming W h X p ⊎ Backed W (ts W + 1) 0 (λ m. Did h m (commit X))
  -- the decided value where a decision stands, or else one whose FINISHes reach the relay threshold
  Guard h p (finish i b) = Decided W h p i b ⊎ Backed W (ta W + 1) 0 (λ m. Did h m (finish i b))

  abbrev pub Allowed : History → Event → Type 0
  Allowed h (by p a) = Guard h p a

  abbrev pub Lawful : History → Type 0
  Lawful [] = Unit {0}
  Lawful (e ∷ h) = Lawful h × Allowed h e
