-- The laws that a machine must keep so that the claims of specs/DemandThree.antt and specs/HonestPack.antt hold of it. A machine comes with a
-- reading of its words: what they show, what a turn does, which words belong to a session, and what bytes say. The laws ask of words that belong
-- to a session:
--   opening    accepted: the settings are within the rules, the words belong to the session and show nothing held or decided.
--   delivery   refused: the words stay. Accepted: the bytes say one message, and the words hold at most that one more; what is newly decided
--              has FINISHes from the accept threshold.
--   turn       it does nothing that shows, or one act that was due; the bytes that it sends say the message of that act; a SEND carries
--              the own input.
--   restore    refused: the words stay. Accepted, of the lines of calls that were made one after another from an accepted opening on, with at
--              most a part of one more line behind them: the words are those after these calls.
--   recording  refused: the words stay. Accepted: only the coin of its vote and round is new. A printed session accepts none.
--   coins      right after an opening the words show the printed coins, and in a boxed session none; deliveries and turns add none. What a turn
--              does is told for all coins κ that agree with those shown: so a move reads no coin that is not shown.
--   report     an output has its READYs; the set named is the exits'; a set in force has its COMMITs.
--   standing   an output that the words show is one, and what is decided 1 shows.
use Rattle.std.specs.Prelude.{ℕ, ◌≤◌, Bool, true, false, List, [], ◌++◌, ◌⊎◌, ◌≢◌, ◌≡◌, Some, Option, None}
use Rattle.settings.specs.Rules.{Ruled}
use Rattle.votes.specs.Votes.{coin_value}
use Rattle.agreement.specs.Evidence.{World, whole}
use Rattle.agreement.specs.History.{Act, send, Decision, Names}
use Rattle.held.specs.laws.Held.{Message, COMMIT}
use Rattle.agreement.proofs.laws.Runs.{message, Seen, HeldFrom, OutputsHeld, Due, Kept, Delivered, Acted, Blank, CoinsAre, CoinsStay}
use Rattle.calls.specs.Machine.{Machine, Call}
use Rattle.agreement.specs.Journals.{line}
use Rattle.agreement.proofs.laws.Worlds.{world_with}

-- w are the words after calls that wrote the lines t, each accepted, one after another; `last` has those before the last call, and what it was
-- lent, where it is a turn
pub data Ran (M : Machine) : List ℕ → M.Words → Option (M.Words × M.Lent) → Type 0 where
  by_opening : (w : M.Words) (o : M.Opening) → M.opens w o ≡ true → Ran M (M.opening_line_lem o) (M.opened w o) None
  by_delivery : (t : List ℕ) (w : M.Words) (last : Option (M.Words × M.Lent)) (m : ℕ) (b : M.Bytes) → Ran M t w last → M.accepts w m b ≡ true → Ran M (t ++ M.delivery_line_lem m b) (M.delivered w m b) None
  by_turn : (t : List ℕ) (w : M.Words) (last : Option (M.Words × M.Lent)) (l : M.Lent) → Ran M t w last → M.acts w l ≡ true → Ran M (t ++ M.turn_line_lem) (M.turned w l) (Some (w, l))
  by_recording : (t : List ℕ) (w : M.Words) (last : Option (M.Words × M.Lent)) (x : M.Recording) → Ran M t w last → M.records w x ≡ true → Ran M (t ++ M.recording_line_lem x) (M.recorded w x) None

-- what a cut leaves of the line that it falls into: nothing, or a part that is not the whole
pub data Torn (M : Machine) (rest : List ℕ) : Type 0 where
  nothing : rest ≡ [] → Torn M rest
  part : (c : Call M) (more : List ℕ) → rest ++ more ≡ line M c → more ≢ [] → Torn M rest

-- a reading of a machine's words
pub record Reading (M : Machine) : Type 1 where
  pub seen : Seen M.Words
  -- the act of a turn, and none where it is refused, idle or in force
  pub act : M.Words → M.Lent → Option Act
  -- the words are those of an accepted opening after any calls
  pub Belongs : M.Opening → M.Words → Type 0
  -- what bytes from a link say in a session
  pub Says : M.Session → ℕ → M.Bytes → Message → Type 0

module _ (M : Machine) (R : Reading M) (H : ℕ → Bool) (κ : ℕ → ℕ → Bool) where
  -- the world of an opening, with the coins κ
  abbrev pub at : M.Opening → World
  at o = world_with M (M.session o) H κ

  -- an accepted delivery
  pub record Delivery (o : M.Opening) (w : M.Words) (m : ℕ) (b : M.Bytes) : Type 0 where
    pub belongs : R.Belongs o (M.delivered w m b)
    pub said : Message
    pub says : R.Says (M.session o) m b said
    pub holds : Delivered (at o) R.seen w (M.delivered w m b) m said
    pub coins : CoinsStay R.seen w (M.delivered w m b)

  -- an accepted recording: nothing new shows but its bit
  pub record BitRecorded (o : M.Opening) (w : M.Words) (x : M.Recording) : Type 0 where
    pub belongs : R.Belongs o (M.recorded w x)
    pub kept : Kept (at o) R.seen w (M.recorded w x)
    pub coins : (i r : ℕ) (c : Bool) → R.seen.coin (M.recorded w x) i r c → R.seen.coin w i r c ⊎ ((i ≡ M.vote x) × (r ≡ M.round x) × (coin_value c ≡ M.bit x))

  -- a turn that does nothing that shows
  pub record Quiet (o : M.Opening) (w : M.Words) (l : M.Lent) : Type 0 where
    pub kept : Kept (at o) R.seen w (M.turned w l)
    pub coins : CoinsStay R.seen w (M.turned w l)
    pub silent : (b : M.Bytes) → M.Sends w l b → ⊥

  -- a turn that does a
  pub record Active (o : M.Opening) (w : M.Words) (l : M.Lent) (a : Act) : Type 0 where
    pub due : Due (at o) R.seen w a
    pub acted : Acted (at o) R.seen w (M.turned w l) a
    pub coins : CoinsStay R.seen w (M.turned w l)
    pub says : (b : M.Bytes) → M.Sends w l b → R.Says (M.session o) (M.own o) b (message (at o) a)
    pub input : (v : ℕ) → a ≡ send v → v ≡ M.input o

  abbrev pub Turned : M.Opening → M.Words → M.Lent → Option Act → Type 0
  Turned o w l None = Quiet o w l
  Turned o w l (Some a) = Active o w l a

  pub record Laws : Type 0 where
    -- opening
    pub open_ruled : (w : M.Words) (o : M.Opening) → M.opens w o ≡ true → Ruled (M.settings (M.session o))
    pub open_belongs : (w : M.Words) (o : M.Opening) → M.opens w o ≡ true → R.Belongs o (M.opened w o)
    pub open_blank : (w : M.Words) (o : M.Opening) → M.opens w o ≡ true → Blank (at o) R.seen (M.opened w o)
    pub open_coins : (w : M.Words) (o : M.Opening) → M.opens w o ≡ true → (i r : ℕ) (c : Bool) → R.seen.coin (M.opened w o) i r c → (M.boxed (M.session o) ≡ false) × (c ≡ M.coin (M.session o) i r)
    pub open_refused : (w : M.Words) (o : M.Opening) → M.opens w o ≡ false → M.opened w o ≡ w
    -- delivery
    pub deliver_refused : (w : M.Words) (m : ℕ) (b : M.Bytes) → M.accepts w m b ≡ false → M.delivered w m b ≡ w
    pub deliver_accepted : (o : M.Opening) (w : M.Words) → R.Belongs o w → (m : ℕ) (b : M.Bytes) → M.accepts w m b ≡ true → Delivery o w m b
    -- bytes say one message
    pub says_one : (S : M.Session) (m : ℕ) (b : M.Bytes) (x y : Message) → R.Says S m b x → R.Says S m b y → x ≡ y
    -- turn
    pub turn_belongs : (o : M.Opening) (w : M.Words) → R.Belongs o w → (l : M.Lent) → R.Belongs o (M.turned w l)
    pub turn_told : (o : M.Opening) (w : M.Words) → R.Belongs o w → CoinsAre (at o) R.seen w → (l : M.Lent) → Turned o w l (R.act w l)
    pub turn_idle : (o : M.Opening) (w : M.Words) → R.Belongs o w → (l : M.Lent) → M.acts w l ≡ false → M.turned w l ≡ w
    -- recording
    pub record_refused : (w : M.Words) (x : M.Recording) → M.records w x ≡ false → M.recorded w x ≡ w
    pub record_binary : (w : M.Words) (x : M.Recording) → M.records w x ≡ true → M.bit x ≤ 1
    pub record_printed : (o : M.Opening) (w : M.Words) → R.Belongs o w → M.boxed (M.session o) ≡ false → (x : M.Recording) → M.records w x ≡ false
    pub record_accepted : (o : M.Opening) (w : M.Words) → R.Belongs o w → (x : M.Recording) → M.records w x ≡ true → BitRecorded o w x
    -- restore
    pub restore_refused : (w : M.Words) (r : M.Restore) → M.restores w r ≡ false → M.restored w r ≡ w
    pub restore_ran : (v : M.Words) (r : M.Restore) (t rest : List ℕ) (w : M.Words) (last : Option (M.Words × M.Lent)) → Ran M t w last → Torn M rest → M.text r ≡ t ++ rest → M.restores v r ≡ true → M.restored v r ≡ w
    -- report: what is named is what the exits name, and it is reported at least where a turn acts
    pub outputs_held : (o : M.Opening) (w : M.Words) → R.Belongs o w → OutputsHeld (at o) R.seen w
    pub names_exits : (o : M.Opening) (w : M.Words) → R.Belongs o w → (X : List ℕ) → M.Names w X → Names (at o).settings (R.seen.standing w) X
    pub exits_names : (o : M.Opening) (w : M.Words) → R.Belongs o w → (l : M.Lent) (a : Act) → R.act w l ≡ Some a → (X : List ℕ) → Names (at o).settings (R.seen.standing w) X → M.Names w X
    pub force_held : (o : M.Opening) (w : M.Words) → R.Belongs o w → (X : List ℕ) → M.InForce w X → HeldFrom (at o) R.seen w (whole (at o)) (at o).settings.ts (COMMIT X)
    -- outputs and decisions
    pub shown_outputs : (o : M.Opening) (w : M.Words) → R.Belongs o w → (i v : ℕ) → (R.seen.standing w).out i ≡ Some v → M.Outputs w i v
    pub one_decided : (o : M.Opening) (w : M.Words) → R.Belongs o w → (i : ℕ) → M.DecidedOne w i → Decision (R.seen.standing w) i 1
