-- The paths of the code: what each answer is by the results of the calls before it and the tests that led to it.
use Rattle.std.specs.Prelude.{ℕ, ◌+◌, ◌/◌, ◌^◌, min, ◌≤◌, ◌<◌, Bool, true, false, ◌&&◌, ◌||◌, List, ◌≡◌, eqb}
use Rattle.std.proofs.Common.{ap₂, ◌∙◌, arith}
use Rattle.std.specs.Int.Bits.{bit_or}
use borrow.Author.Tests.{le-leb, lt-leb, eq-eqb, ne_eqb}
use Rattle.settings.specs.Settings.{weighed, vote_quorum, relay, round_limit}
use Rattle.settings.specs.declared.Settings.{Settings}
use Rattle.quorum.specs.Marks.{mark}
use Rattle.quorum.specs.laws.Marks.{mark_zero}
use Rattle.quorum.specs.laws.MarkMasks.{mark_or, mark_shifted}
use Rattle.quorum.specs.Total.{share}
use Rattle.quorum.specs.Weights.{weight_of}
use Rattle.quorum.specs.laws.Total.{total_agree}
use Rattle.records.specs.Layout.{aux_group}
use Rattle.records.specs.Words.{marked}
use Rattle.records.specs.MarkWords.{decided_one_marks, vote_marks}
use Rattle.records.specs.Records.{aux_held, decided_one, round, est_sent, aux_sent, one_first, coin_known, finish_sent, decided_zero}
use Rattle.acts.specs.Acts.{is_due, or_act, first_act}
use Rattle.acts.specs.declared.Act.{Act}
use Rattle.acts.specs.declared.Act.TheVariants.{Idle, Start, Relay, Aux, Move, Finish}
use Rattle.acts.specs.declared.View.{View}
use Rattle.acts.specs.declared.View.TheVariants.{Only}
use Rattle.votes.specs.Votes.{est_count, votes_decided_one, start_act, relay_value, relay_round, relay_act, running, accepted, one_accepted_first, aux_value, aux_act}
use Rattle.votes.specs.Votes.{move_act, round_act, vote_act, vote_due, coin_value, decides}
use Rattle.votes.specs.Finishing.{repeated, finish_repeated, finish_value, finish_act, finished}
use Rattle.votes.specs.laws.Given.{carries_given, carriers_given, view_given, move_given, move_given_lem, first_finish, over, due_given}

pub ones_counted : (g : Settings) (s : List ℕ) (w c : ℕ) → w ≡ decided_one_marks s → c ≡ weighed g (λ p. mark w (0 + p)) → c ≡ votes_decided_one g s
unfolding votes_decided_one decided_one marked
ones_counted g s w c e h =
    h ∙ total_agree (weight_of g.weights) (λ p. mark w (0 + p)) (decided_one s) g.n (λ p a b. let z : 0 + p ≡ p = omega arith in rw (e, z))

-- a first act that is due, and a second after a first that is not
pub due_first : (a b x : Act) (t : Bool) → x ≡ a → t ≡ is_due x → t ≡ true → x ≡ or_act a b
unfolding or_act
due_first a b x t e d h = rw (← e, ← d, h)

pub due_second : (a b x y : Act) (t : Bool) → x ≡ a → t ≡ is_due x → t ≡ false → y ≡ b → y ≡ or_act a b
unfolding or_act
due_second a b x y t e d h f = rw (← e, ← d, h) f

pub ruleset either = (due_first, due_second)

-- the start
module _ (g : Settings) (s : List ℕ) (output : Bool) (ones i k : ℕ) (e : k ≡ round s i) where
  pub started : 0 < k → Idle ≡ start_act g s output ones i
  unfolding start_act
  started h = rw (← e, ne_eqb k 0 (λ z. omega arith))

  module _ (h : k ≤ 0) where
    zero_round : eqb (round s i) 0 ≡ true
    zero_round = eq-eqb (round s i) 0 (omega arith)

    pub start_one : output ≡ true → Start i 1 ≡ start_act g s output ones i
    unfolding start_act
    start_one o = rw (zero_round, o)

    module _ (q : ℕ) (f : q ≡ vote_quorum g) (o : output ≡ false) where
      pub start_zero : q ≤ ones → Start i 0 ≡ start_act g s output ones i
      unfolding start_act
      start_zero l = rw (zero_round, o, ← f, le-leb q ones l)

      pub start_waits : ones < q → Idle ≡ start_act g s output ones i
      unfolding start_act
      start_waits l = rw (zero_round, o, ← f, lt-leb q ones l)

pub ruleset starts = (started, start_one, start_zero, start_waits)

-- the relay of a value
module _ (g : Settings) (s : List ℕ) (i r b : ℕ) (t : Bool) (e : t ≡ est_sent s i r b) where
  pub est_was_sent : t ≡ true → Idle ≡ relay_value g s i r b
  unfolding relay_value
  est_was_sent h = rw (← e, h)

  module _ (q c : ℕ) (f : q ≡ relay g) (d : c ≡ est_count g s i r b) (h : t ≡ false) where
    pub relay_due : q ≤ c → Relay i r b ≡ relay_value g s i r b
    unfolding relay_value
    relay_due l = rw (← e, h, ← f, ← d, le-leb q c l)

    pub relay_waits : c < q → Idle ≡ relay_value g s i r b
    unfolding relay_value
    relay_waits l = rw (← e, h, ← f, ← d, lt-leb q c l)

pub ruleset relays = (est_was_sent, relay_due, relay_waits)

pub relay_rounds : (g : Settings) (s : List ℕ) (i r last : ℕ) (x : Act) → r ≡ round s i → last ≡ min r round_limit → x ≡ first_act (relay_round g s i) last → x ≡ relay_act g s i
unfolding relay_act
relay_rounds g s i r last x f e h = rw (← f, ← e) h

-- whether 1 was accepted first
module _ (g : Settings) (s : List ℕ) (i r : ℕ) (m : Bool) (e : m ≡ one_first s i r) where
  pub one_accepted_first_lem : (t : Bool) → m ≡ true → t ≡ accepted g s i r 1 → t ≡ one_accepted_first g s i r
  unfolding one_accepted_first
  one_accepted_first_lem t h f = rw (← e, h) f

  pub one_unmarked : m ≡ false → false ≡ one_accepted_first g s i r
  unfolding one_accepted_first
  one_unmarked h = rw (← e, h)

pub ruleset marked_first = (one_accepted_first_lem, one_unmarked)

-- the AUX
pub aux_one : (g : Settings) (s : List ℕ) (i r : ℕ) (m t u : Bool) → u ≡ true → u ≡ accepted g s i r 1 → t ≡ false → t ≡ accepted g s i r 0 → m ≡ false → m ≡ one_accepted_first g s i r → Aux i r 1 ≡ aux_value g s i r
unfolding aux_value
aux_one g s i r m t u k f h e q d = rw (← d, q, ← e, h, ← f, k)

module _ (g : Settings) (s : List ℕ) (i r : ℕ) (m : Bool) (d : m ≡ one_accepted_first g s i r) where
  pub aux_one_first : m ≡ true → Aux i r 1 ≡ aux_value g s i r
  unfolding aux_value
  aux_one_first q = rw (← d, q)

  module _ (q : m ≡ false) (t : Bool) (e : t ≡ accepted g s i r 0) where
    pub aux_zero : t ≡ true → Aux i r 0 ≡ aux_value g s i r
    unfolding aux_value
    aux_zero h = rw (← d, q, ← e, h)

    pub aux_waits : (u : Bool) → u ≡ accepted g s i r 1 → u ≡ false → t ≡ false → Idle ≡ aux_value g s i r
    unfolding aux_value
    aux_waits u f k h = rw (← d, q, ← e, h, ← f, k)

module _ (g : Settings) (s : List ℕ) (i r : ℕ) (t : Bool) (e : r ≡ round s i) (f : t ≡ aux_sent s i r) where
  pub aux_was_sent : t ≡ true → Idle ≡ aux_act g s i
  unfolding aux_act
  aux_was_sent h = rw (← e, ← f, h)

  pub aux_now : (a : Act) → t ≡ false → a ≡ aux_value g s i r → a ≡ aux_act g s i
  unfolding aux_act
  aux_now a h d = rw (← e, ← f, h) d

  pub move_waits : (k : Bool) → k ≡ coin_known s i r → (t && k) ≡ false → Idle ≡ move_act g s i
  unfolding move_act
  move_waits k q h = rw (← e, ← f, ← q, h)

  pub move_now : (a : Act) (k : Bool) → k ≡ coin_known s i r → (a0 a1 : Bool) → (t && k) ≡ true → a0 ≡ accepted g s i r 0 → a1 ≡ accepted g s i r 1 → a ≡ move_given g s i r a0 a1 → a ≡ move_act g s i
  unfolding move_act
  move_now a k q a0 a1 h z o d = rw (← e, ← f, ← q, h, ← move_given_lem g s i r, ← z, ← o) d

pub ruleset auxes = (aux_one_first, aux_zero, aux_one, aux_waits, aux_was_sent, aux_now)

-- the move

-- the marks of a group, where its value is accepted
group_mark : (a : Bool) (w base p : ℕ) → 1 ≤ p → mark (share a (w / 2 ^ base)) p ≡ a && mark w (base + p)
group_mark true w base p lo = mark_shifted w base p lo
group_mark false w base p lo = mark_zero p

pub carriers_weighed : (g : Settings) (s : List ℕ) (i r : ℕ) (a0 a1 : Bool) (w z o x y c : ℕ) → w ≡ vote_marks s i r → z ≡ w / 2 ^ aux_group 0 → o ≡ w / 2 ^ aux_group 1 → x ≡ share a0 z → y ≡ share a1 o → c ≡ weighed g (λ p. mark (bit_or x y) (0 + p)) → c ≡ carriers_given g s i r a0 a1
unfolding carriers_given carries_given aux_held marked
carriers_weighed g s i r a0 a1 w z o x y c e ez eo ex ey h =
    h ∙ total_agree (weight_of g.weights) (λ p. mark (bit_or x y) (0 + p)) (carries_given s i r a0 a1) g.n (λ p lo hi. at p lo)
  where
    at : (p : ℕ) → 1 ≤ p → mark (bit_or x y) (0 + p) ≡ carries_given s i r a0 a1 p
    at p lo =
        let same : 0 + p ≡ p = omega arith in
        rw (same, ex, ey, ez, eo, ← e)
        (mark_or (share a0 (w / 2 ^ aux_group 0)) (share a1 (w / 2 ^ aux_group 1)) p
        ∙ ap₂ (λ (b d : Bool). b || d) (group_mark a0 w (aux_group 0) p lo) (group_mark a1 w (aux_group 1) p lo))

module _ (g : Settings) (s : List ℕ) (i r : ℕ) (a0 a1 : Bool) (q c : ℕ) (f : q ≡ vote_quorum g) (d : c ≡ carriers_given g s i r a0 a1) where
  pub move_few : c < q → Idle ≡ move_given g s i r a0 a1
  unfolding move_given
  move_few l = rw (← f, ← d, lt-leb q c l)

  pub move_due : (v : View) → q ≤ c → v ≡ view_given g s i r a0 a1 → Move i r v ≡ move_given g s i r a0 a1
  unfolding move_given
  move_due v l e = rw (← f, ← d, le-leb q c l, e)

pub ruleset moves = (move_few, move_due, move_waits, move_now)

-- AUX and move, in a round
module _ (g : Settings) (s : List ℕ) (i : ℕ) (t : Bool) (e : t ≡ running s i) where
  pub in_round_lem : (x : Act) → t ≡ true → x ≡ or_act (aux_act g s i) (move_act g s i) → x ≡ round_act g s i
  unfolding round_act
  in_round_lem x h f = rw (← e, h) f

  pub no_round : t ≡ false → Idle ≡ round_act g s i
  unfolding round_act
  no_round h = rw (← e, h)

pub ruleset rounds = (in_round_lem, no_round, due_first, due_second)

-- the FINISH
pub repeat_one : (g : Settings) (s : List ℕ) (i : ℕ) (t u : Bool) → u ≡ true → u ≡ repeated g s i 1 → t ≡ false → t ≡ repeated g s i 0 → Finish i 1 ≡ finish_repeated g s i
unfolding finish_repeated
repeat_one g s i t u k f h e = rw (← e, h, ← f, k)

module _ (g : Settings) (s : List ℕ) (i : ℕ) (t : Bool) (e : t ≡ repeated g s i 0) where
  pub repeat_zero : t ≡ true → Finish i 0 ≡ finish_repeated g s i
  unfolding finish_repeated
  repeat_zero h = rw (← e, h)

  pub repeat_none : (u : Bool) → t ≡ false → u ≡ repeated g s i 1 → u ≡ false → Idle ≡ finish_repeated g s i
  unfolding finish_repeated
  repeat_none u h f k = rw (← e, h, ← f, k)

module _ (g : Settings) (s : List ℕ) (i : ℕ) (t : Bool) (e : t ≡ decided_one s i) where
  pub finish_one : t ≡ true → Finish i 1 ≡ finish_value g s i
  unfolding finish_value
  finish_one h = rw (← e, h)

  module _ (u : Bool) (f : u ≡ decided_zero s i) (h : t ≡ false) where
    pub finish_zero : u ≡ true → Finish i 0 ≡ finish_value g s i
    unfolding finish_value
    finish_zero k = rw (← e, h, ← f, k)

    pub finish_repeats : (a : Act) → u ≡ false → a ≡ finish_repeated g s i → a ≡ finish_value g s i
    unfolding finish_value
    finish_repeats a k d = rw (← e, h, ← f, k) d

module _ (g : Settings) (s : List ℕ) (i : ℕ) (t : Bool) (e : t ≡ finish_sent s i) where
  pub finish_was_sent : t ≡ true → Idle ≡ finish_act g s i
  unfolding finish_act
  finish_was_sent h = rw (← e, h)

  pub finish_now : (a : Act) → t ≡ false → a ≡ finish_value g s i → a ≡ finish_act g s i
  unfolding finish_act
  finish_now a h d = rw (← e, h) d

pub ruleset finishes = (repeat_zero, repeat_one, repeat_none, finish_one, finish_zero, finish_repeats, finish_was_sent, finish_now)

-- what comes before the steps of a vote
module _ (g : Settings) (s : List ℕ) (finishes : Bool) (i : ℕ) where
  pub first_none : finishes ≡ false → Idle ≡ first_finish g s finishes i
  unfolding first_finish
  first_none h = rw h

  pub first_some : (a : Act) → finishes ≡ true → a ≡ finish_act g s i → a ≡ first_finish g s finishes i
  unfolding first_finish
  first_some a h e = rw h e

  pub over_none : finishes ≡ false → false ≡ over s finishes i
  unfolding over
  over_none h = rw h

  pub over_some : (t : Bool) → finishes ≡ true → t ≡ finished s i → t ≡ over s finishes i
  unfolding over
  over_some t h e = rw h e

pub ruleset befores = (first_none, first_some, over_none, over_some)

module _ (g : Settings) (s : List ℕ) (finishes output : Bool) (ones i : ℕ) (a : Act) (t : Bool) (e : a ≡ first_finish g s finishes i) (d : t ≡ is_due a) where
  pub due_finish : t ≡ true → a ≡ vote_due g s finishes output ones i
  due_finish h = due_first (first_finish g s finishes i) _ a t e d h ∙ due_given g s finishes output ones i

  module _ (h : t ≡ false) (u : Bool) (f : u ≡ over s finishes i) where
    pub due_over : u ≡ true → Idle ≡ vote_due g s finishes output ones i
    due_over k = due_second (first_finish g s finishes i) _ a Idle t e d h (rw (← f, k)) ∙ due_given g s finishes output ones i

    pub due_steps : (x : Act) → u ≡ false → x ≡ vote_act g s output ones i → x ≡ vote_due g s finishes output ones i
    due_steps x k q = due_second (first_finish g s finishes i) _ a x t e d h (rw (← f, k) q) ∙ due_given g s finishes output ones i

pub ruleset dues = (due_finish, due_over, due_steps)

pub decides_only : (coin : Bool) (v : View) (b k : ℕ) → v ≡ Only b → k ≡ coin_value coin → eqb b k ≡ decides coin v
decides_only coin v b k e f = rw (e, f)
