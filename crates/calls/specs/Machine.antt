-- One model of calls: what a machine takes, answers and leaves, a list of its calls at all concentrators, and the words that they leave at each.
-- The count of turns (PROTOCOL 16.11), agreement (16.8 to 16.10) and what sets hold (16.18, 16.19) are claims about such lists.
use Rattle.std.specs.Prelude.{ℕ, Bool, cond, List, [], ◌∷◌, eqb}
use Rattle.settings.specs.declared.Settings.{Settings}

-- what the six calls of an engine take, answer and leave
pub record Machine : Type 1 where
  -- what a state buffer holds
  pub Words : Type 0
  -- the arguments of an opening: the own number, the own input, and what the openings of a session agree in: version, n, ta as it is read, ts,
  -- weights, session number, coin words and kind of coins (PROTOCOL 1.11)
  pub Opening : Type 0
  pub own : Opening → ℕ
  pub input : Opening → ℕ
  pub Session : Type 0
  pub session : Opening → Session
  pub settings : Session → Settings
  -- the kind of coins, which a session shares (PROTOCOL 1.10, 1.11), and the printed coin of a vote and a round
  pub boxed : Session → Bool
  pub coin : Session → ℕ → ℕ → Bool
  -- whether an opening is accepted, and the words after it
  pub opens : Words → Opening → Bool
  pub opened : Words → Opening → Words
  -- what a delivery is lent, the bytes of a message above all; whether a delivery of them from a link is accepted, and the words after it
  pub Bytes : Type 0
  pub accepts : Words → ℕ → Bytes → Bool
  pub delivered : Words → ℕ → Bytes → Words
  -- what a turn is lent, whether it acts, so is neither idle nor refused, the bytes that it answers as sent, if it sends, and the words after it
  pub Lent : Type 0
  pub acts : Words → Lent → Bool
  pub Sends : Words → Lent → Bytes → Type 0
  pub turned : Words → Lent → Words
  -- what a recording is given and lent: a vote, a round and the bit of their coin; whether it is accepted, and the words after it
  pub Recording : Type 0
  pub vote : Recording → ℕ
  pub round : Recording → ℕ
  pub bit : Recording → ℕ
  pub records : Words → Recording → Bool
  pub recorded : Words → Recording → Words
  -- the bytes of the line that a call writes, where it is accepted or, being a turn, acts
  pub opening_line_lem : Opening → List ℕ
  pub delivery_line_lem : ℕ → Bytes → List ℕ
  pub turn_line_lem : List ℕ
  pub recording_line_lem : Recording → List ℕ
  -- what a restore is lent beside the state buffer, the bytes of a journal among it; whether one onto words is accepted, and the words after it
  pub Restore : Type 0
  pub text : Restore → List ℕ
  pub restores : Words → Restore → Bool
  pub restored : Words → Restore → Words
  -- what a report is lent; it changes no words of the state
  pub LentSets : Type 0
  -- the set that a report, lent 16 words for each set, gives as named, and the one as in force (PROTOCOL 9.25)
  pub Names : Words → List ℕ → Type 0
  pub InForce : Words → List ℕ → Type 0
  -- broadcast i has output v (PROTOCOL 4.3), and vote i is decided 1 (5.9, 5.17): no call answers these, they stand in the words
  pub Outputs : Words → ℕ → ℕ → Type 0
  pub DecidedOne : Words → ℕ → Type 0

-- the calls of all six kinds (PROTOCOL 16.4): the first number is the concentrator's, that of a delivery's link follows. A restore finds any
-- words in the buffer, since power may have been lost.
pub data Call (M : Machine) : Type 0 where
  opening : ℕ → M.Opening → Call M
  delivery : ℕ → ℕ → M.Bytes → Call M
  turn : ℕ → M.Lent → Call M
  report : ℕ → M.LentSets → Call M
  restore : ℕ → M.Words → M.Restore → Call M
  recording : ℕ → M.Recording → Call M

module _ (M : Machine) where
  -- the concentrator of a call
  abbrev pub place : Call M → ℕ
  place (opening p o) = p
  place (delivery p m b) = p
  place (turn p l) = p
  place (report p r) = p
  place (restore p v r) = p
  place (recording p x) = p

  -- the words that a call leaves there
  abbrev pub left : Call M → M.Words → M.Words
  left (opening p o) w = M.opened w o
  left (delivery p m b) w = M.delivered w m b
  left (turn p l) w = M.turned w l
  left (report p r) w = w
  left (restore p v r) w = M.restored v r
  left (recording p x) w = M.recorded w x

-- every concentrator has its own buffer, whatever it first holds (PROTOCOL 16.4)
module _ (M : Machine) (start : ℕ → M.Words) where
  -- the words of q after the calls, newest first: a call finds what the last call there left (PROTOCOL 16.4). Only a restore gets whatever the
  -- buffer then holds: who lost power makes no other call before it.
  unfoldable pub words : List (Call M) → ℕ → M.Words
  words [] q = start q
  words (c ∷ cs) q = cond (eqb q (place M c)) (left M c (words cs q)) (words cs q)

  -- what the calls at q come to: `next` makes it anew at each of them, from the words before it; a is what it is before any
  unfoldable pub traced : {A : Type 0} → (Call M → M.Words → A → A) → A → List (Call M) → ℕ → A
  traced next a [] q = a
  traced next a (c ∷ cs) q = cond (eqb q (place M c)) (next c (words cs q) (traced next a cs q)) (traced next a cs q)
