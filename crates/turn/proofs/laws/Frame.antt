-- Which words an act changes.
use Rattle.std.specs.Prelude.{ℕ, ◌+◌, ◌≤◌, ◌<◌, Bool, cond, ◌≢◌, ◌≡◌, eqb, ltb}
use Rattle.std.proofs.Math.Bool.{true, false}
use mathlib.Core.List.{List}
use Rattle.std.proofs.Math.Path.{refl, ap}
use Rattle.std.proofs.Common.{◌∙◌, arith}
use Rattle.std.proofs.Math.ListN.{length}
use Rattle.settings.specs.Rules.{Ruled}
use Rattle.settings.specs.Settings.{round_limit}
use Rattle.settings.specs.declared.Settings.{Settings}
use Rattle.records.specs.Layout.{turns_at, decided_zero_at, decided_one_at, round_at, est_sent_at, est_sent_mark}
use Rattle.records.specs.Words.{word, put, set_mark}
use Rattle.records.specs.laws.Words.{length_put, word_put_same, word_put_other, length_set_mark, word_set_mark_other}
use Rattle.records.specs.Records.{coin}
use Rattle.records.specs.Writing.{with_decision}
use Rattle.acts.specs.Acts.{is_due}
use Rattle.acts.specs.declared.Act.{Act}
use Rattle.acts.specs.declared.Act.TheVariants.{Idle, InForce, Commit, Send, Echo, Ready, Start, Relay, Aux, Move, Finish}
use Rattle.acts.specs.declared.View.{View}
use Rattle.votes.specs.Votes.{estimate}
use Rattle.turn.specs.laws.Told.{ActTold}
use Rattle.turn.specs.Turn.{with_turn_counted, entered, new_decision, move_decided, moved, done, applied}

-- word j is none of those that an act marks
abbrev pub Spared : Act → ℕ → Type 0
Spared Idle j = Unit {0}
Spared InForce j = j ≢ 7
Spared (Commit k) j = j ≢ 7
Spared (Send v) j = j ≢ 7
Spared (Echo i v) j = j ≢ 136
Spared (Ready i v) j = j ≢ 137
Spared (Start i b) j = (j ≢ 23 + i) × (j ≢ 39 + i)
Spared (Relay i r b) j = j ≢ 39 + i
Spared (Aux i r b) j = j ≢ 55 + i
Spared (Move i r v) j = (j ≢ 23 + i) × (j ≢ 39 + i) × (j ≢ 138) × (j ≢ 139)
Spared (Finish i b) j = j ≢ 144

-- the vote of an act is one of 1 to 16
abbrev pub Placed : Act → Type 0
Placed Idle = Unit {0}
Placed InForce = Unit {0}
Placed (Commit k) = Unit {0}
Placed (Send v) = Unit {0}
Placed (Echo i v) = Unit {0}
Placed (Ready i v) = Unit {0}
Placed (Start i b) = (1 ≤ i) × (i ≤ 16)
Placed (Relay i r b) = (1 ≤ i) × (i ≤ 16)
Placed (Aux i r b) = (1 ≤ i) × (i ≤ 16)
Placed (Move i r v) = (1 ≤ i) × (i ≤ 16)
Placed (Finish i b) = (1 ≤ i) × (i ≤ 16)

-- an act that is due is of one of the votes 1 to n
pub told_placed : (g : Settings) (s : List ℕ) → Ruled g → (a : Act) → ActTold g s a → Placed a
told_placed g s r Idle t = tt
told_placed g s r InForce t = tt
told_placed g s r (Commit k) t = tt
told_placed g s r (Send v) t = tt
told_placed g s r (Echo i v) t = tt
told_placed g s r (Ready i v) t = tt
told_placed g s r (Start i b) t = (t.0.low, omega (arith, t.0.high, r.few))
told_placed g s r (Relay i n b) t = (t.0.low, omega (arith, t.0.high, r.few))
told_placed g s r (Aux i n b) t = (t.0.low, omega (arith, t.0.high, r.few))
told_placed g s r (Move i n v) t = (t.0.low, omega (arith, t.0.high, r.few))
told_placed g s r (Finish i b) t = (t.0.low, omega (arith, t.0.high, r.few))

-- the two steps of a move
module _ (s : List ℕ) (i r b : ℕ) where
  pub length_entered : length (entered s i r b) ≡ length s
  unfolding entered
  length_entered = go (ltb round_limit r)
    where
      go : (t : Bool) → length (cond t (put s (round_at i) r) (set_mark (put s (round_at i) r) (est_sent_at i) (est_sent_mark r b))) ≡ length s
      go true = length_put s (round_at i) r
      go false = length_set_mark (put s (round_at i) r) (est_sent_at i) (est_sent_mark r b) ∙ length_put s (round_at i) r

  pub word_entered_other : (j : ℕ) → j ≢ 23 + i → j ≢ 39 + i → word (entered s i r b) j ≡ word s j
  unfolding entered
  word_entered_other j h k = go (ltb round_limit r)
    where
      go : (t : Bool) → word (cond t (put s (round_at i) r) (set_mark (put s (round_at i) r) (est_sent_at i) (est_sent_mark r b))) j ≡ word s j
      go true = word_put_other s (round_at i) r j h
      go false = word_set_mark_other (put s (round_at i) r) (est_sent_at i) (est_sent_mark r b) j k ∙ word_put_other s (round_at i) r j h

module _ (s : List ℕ) (i r : ℕ) (v : View) where
  pub length_decided : length (move_decided s i r v) ≡ length s
  unfolding move_decided
  length_decided = go (new_decision s i r v) (estimate (coin s i r) v)
    where
      go : (t : Bool) (b : ℕ) → length (cond t (with_decision s i b) s) ≡ length s
      go true b = length_set_mark s (cond (eqb b 0) decided_zero_at decided_one_at) i
      go false b = refl

  pub word_decided_other : (j : ℕ) → j ≢ 138 → j ≢ 139 → word (move_decided s i r v) j ≡ word s j
  unfolding move_decided
  word_decided_other j h k = go (new_decision s i r v) (estimate (coin s i r) v)
    where
      at : (z : Bool) → word (set_mark s (cond z decided_zero_at decided_one_at) i) j ≡ word s j
      at true = word_set_mark_other s decided_zero_at i j h
      at false = word_set_mark_other s decided_one_at i j k

      go : (t : Bool) (b : ℕ) → word (cond t (with_decision s i b) s) j ≡ word s j
      go true b = at (eqb b 0)
      go false b = refl

-- what is marked
pub length_done : (s : List ℕ) (a : Act) → length (done s a) ≡ length s
unfolding done moved
length_done s Idle = refl
length_done s InForce = length_set_mark s _ _
length_done s (Commit k) = length_set_mark s _ _
length_done s (Send v) = length_set_mark s _ _
length_done s (Echo i v) = length_set_mark s _ _
length_done s (Ready i v) = length_set_mark s _ _
length_done s (Start i b) = length_entered s i 1 b
length_done s (Relay i r b) = length_set_mark s _ _
length_done s (Aux i r b) = length_set_mark s _ _
length_done s (Finish i b) = length_set_mark s _ _
length_done s (Move i r v) = length_entered (move_decided s i r v) i (r + 1) _ ∙ length_decided s i r v

pub word_done_other : (s : List ℕ) (a : Act) (j : ℕ) → Spared a j → word (done s a) j ≡ word s j
unfolding done moved
word_done_other s Idle j h = refl
word_done_other s InForce j h = word_set_mark_other s 7 _ j h
word_done_other s (Commit k) j h = word_set_mark_other s 7 _ j h
word_done_other s (Send v) j h = word_set_mark_other s 7 _ j h
word_done_other s (Echo i v) j h = word_set_mark_other s 136 i j h
word_done_other s (Ready i v) j h = word_set_mark_other s 137 i j h
word_done_other s (Start i b) j h = word_entered_other s i 1 b j h.0 h.1
word_done_other s (Relay i r b) j h = word_set_mark_other s (39 + i) _ j h
word_done_other s (Aux i r b) j h = word_set_mark_other s (55 + i) r j h
word_done_other s (Finish i b) j h = word_set_mark_other s 144 i j h
word_done_other s (Move i r v) j h = word_entered_other (move_decided s i r v) i (r + 1) _ j h.0 h.1 ∙ word_decided_other s i r v j h.2 h.3

-- what is counted
pub length_counted : (s : List ℕ) → length (with_turn_counted s) ≡ length s
unfolding with_turn_counted
length_counted s = length_put s turns_at (word s turns_at + 1)

pub word_counted_other : (s : List ℕ) (j : ℕ) → j ≢ 6 → word (with_turn_counted s) j ≡ word s j
unfolding with_turn_counted
word_counted_other s j h = word_put_other s turns_at (word s turns_at + 1) j h

-- no act but the count itself changes the count
spares_turns : (a : Act) → Placed a → Spared a 6
spares_turns Idle p = tt
spares_turns InForce p = λ e. omega arith
spares_turns (Commit k) p = λ e. omega arith
spares_turns (Send v) p = λ e. omega arith
spares_turns (Echo i v) p = λ e. omega arith
spares_turns (Ready i v) p = λ e. omega arith
spares_turns (Start i b) p = (λ e. omega arith, λ e. omega arith)
spares_turns (Relay i r b) p = λ e. omega arith
spares_turns (Aux i r b) p = λ e. omega arith
spares_turns (Finish i b) p = λ e. omega arith
spares_turns (Move i r v) p = (λ e. omega arith, λ e. omega arith, λ e. omega arith, λ e. omega arith)

-- the words that no act changes: the settings, the coins, and what deliveries record
pub data Kept (j : ℕ) : Type 0 where
  setting : j < 6 → Kept j
  coins : 8 ≤ j → j < 24 → Kept j
  held : 72 ≤ j → j < 136 → Kept j
  between : 140 ≤ j → j < 144 → Kept j
  beyond : 145 ≤ j → Kept j

-- between the words that acts write
record Apart (j : ℕ) : Type 0 where
  turns : j ≢ 6
  flags : j ≢ 7
  votes : (i : ℕ) → 1 ≤ i → i ≤ 16 → (j ≢ 23 + i) × (j ≢ 39 + i) × (j ≢ 55 + i)
  echo : j ≢ 136
  ready : j ≢ 137
  zeros : j ≢ 138
  ones : j ≢ 139
  finish : j ≢ 144

apart : (j : ℕ) → Kept j → Apart j
apart j (setting l) =
    record { turns = λ e. omega arith; flags = λ e. omega arith; votes = λ i a b. (λ e. omega arith, λ e. omega arith, λ e. omega arith); echo = λ e. omega arith; ready = λ e. omega arith; zeros = λ e. omega arith; ones = λ e. omega arith; finish = λ e. omega arith }
apart j (coins l m) =
    record { turns = λ e. omega arith; flags = λ e. omega arith; votes = λ i a b. (λ e. omega arith, λ e. omega arith, λ e. omega arith); echo = λ e. omega arith; ready = λ e. omega arith; zeros = λ e. omega arith; ones = λ e. omega arith; finish = λ e. omega arith }
apart j (held l m) =
    record { turns = λ e. omega arith; flags = λ e. omega arith; votes = λ i a b. (λ e. omega arith, λ e. omega arith, λ e. omega arith); echo = λ e. omega arith; ready = λ e. omega arith; zeros = λ e. omega arith; ones = λ e. omega arith; finish = λ e. omega arith }
apart j (between l m) =
    record { turns = λ e. omega arith; flags = λ e. omega arith; votes = λ i a b. (λ e. omega arith, λ e. omega arith, λ e. omega arith); echo = λ e. omega arith; ready = λ e. omega arith; zeros = λ e. omega arith; ones = λ e. omega arith; finish = λ e. omega arith }
apart j (beyond l) =
    record { turns = λ e. omega arith; flags = λ e. omega arith; votes = λ i a b. (λ e. omega arith, λ e. omega arith, λ e. omega arith); echo = λ e. omega arith; ready = λ e. omega arith; zeros = λ e. omega arith; ones = λ e. omega arith; finish = λ e. omega arith }

spares_kept : (a : Act) (j : ℕ) → Placed a → Apart j → Spared a j
spares_kept Idle j p x = tt
spares_kept InForce j p x = x.flags
spares_kept (Commit k) j p x = x.flags
spares_kept (Send v) j p x = x.flags
spares_kept (Echo i v) j p x = x.echo
spares_kept (Ready i v) j p x = x.ready
spares_kept (Start i b) j p x = let y = x.votes i p.0 p.1 in (y.0, y.1)
spares_kept (Relay i r b) j p x = (x.votes i p.0 p.1).1
spares_kept (Aux i r b) j p x = (x.votes i p.0 p.1).2
spares_kept (Finish i b) j p x = x.finish
spares_kept (Move i r v) j p x = let y = x.votes i p.0 p.1 in (y.0, y.1, x.zeros, x.ones)

module _ (s : List ℕ) (a : Act) where
  pub length_applied : length (applied s a) ≡ length s
  unfolding applied
  length_applied = go (is_due a)
    where
      go : (b : Bool) → length (cond b (done (with_turn_counted s) a) s) ≡ length s
      go true = length_done (with_turn_counted s) a ∙ length_counted s
      go false = refl

  pub applied_idle : is_due a ≡ false → applied s a ≡ s
  unfolding applied
  applied_idle e = rw e

  pub applied_due : is_due a ≡ true → applied s a ≡ done (with_turn_counted s) a
  unfolding applied
  applied_due e = rw e

  -- a word that is neither the count nor among those of the act
  pub applied_other : (j : ℕ) → j ≢ 6 → Spared a j → word (applied s a) j ≡ word s j
  unfolding applied
  applied_other j h k = go (is_due a)
    where
      go : (b : Bool) → word (cond b (done (with_turn_counted s) a) s) j ≡ word s j
      go true = word_done_other (with_turn_counted s) a j k ∙ word_counted_other s j h
      go false = refl

  module _ (p : Placed a) where
    pub applied_kept : (j : ℕ) → Kept j → word (applied s a) j ≡ word s j
    applied_kept j k = of (apart j k)
      where
        of : Apart j → word (applied s a) j ≡ word s j
        of x = applied_other j x.turns (spares_kept a j p x)

    -- an act adds 1 to the count of turns (PROTOCOL 8.19)
    pub applied_turns : 6 < length s → is_due a ≡ true → word (applied s a) turns_at ≡ word s turns_at + 1
    unfolding with_turn_counted
    applied_turns l e =
        ap (λ (t : List ℕ). word t 6) (applied_due e)
        ∙ word_done_other (with_turn_counted s) a 6 (spares_turns a p)
        ∙ word_put_same s turns_at (word s turns_at + 1) l
