-- Rule 6 of the turn order, what is due in a vote: PROTOCOL, section 5. Votes use ta. Senders and votes count by their weights.
use Rattle.std.specs.Prelude.{ℕ, min, Bool, true, false, ◌&&◌, ◌||◌, not, cond, List, eqb, leb, ltb}
use Rattle.settings.specs.Settings.{weighed, vote_quorum, relay, accept, round_limit}
use Rattle.settings.specs.Versions.{finishing}
use Rattle.settings.specs.declared.Settings.{Settings}
use Rattle.records.specs.Records.{est_held, aux_held, round, est_sent, aux_sent, one_first, decided_one, coin_known, version}
use Rattle.votes.specs.Finishing.{finish_act, finished}
use Rattle.acts.specs.Acts.{or_act, first_act}
use Rattle.acts.specs.declared.Act.{Act}
use Rattle.acts.specs.declared.Act.TheVariants.{Idle, Start, Relay, Aux, Move}
use Rattle.acts.specs.declared.View.{View}
use Rattle.acts.specs.declared.View.TheVariants.{Only, Both}

-- the weight of the senders whose ESTs of b are held in round r of vote i
unfoldable pub est_count : Settings → List ℕ → ℕ → ℕ → ℕ → ℕ
est_count g s i r b = weighed g (est_held s i r b)

-- a value is accepted in a round once its ESTs there reach the accept threshold (PROTOCOL 5.5)
unfoldable pub accepted : Settings → List ℕ → ℕ → ℕ → ℕ → Bool
accepted g s i r b = leb (accept g) (est_count g s i r b)

-- 1 is accepted in round r of vote i, and 0 is not (PROTOCOL 5.19)
unfoldable pub one_alone : Settings → List ℕ → ℕ → ℕ → Bool
one_alone g s i r = accepted g s i r 1 && not (accepted g s i r 0)

-- what the votes decided 1 weigh (PROTOCOL 5.3)
unfoldable pub votes_decided_one : Settings → List ℕ → ℕ
votes_decided_one g s = weighed g (decided_one s)

-- a vote whose round is 0 starts with 1 where its broadcast has output, otherwise with 0 where the votes decided 1 reach the vote quorum
-- (PROTOCOL 5.3)
unfoldable pub start_act : Settings → List ℕ → Bool → ℕ → ℕ → Act
start_act g s has_output decided_ones i =
    cond (eqb (round s i) 0)
    (cond has_output (Start i 1) (cond (leb (vote_quorum g) decided_ones) (Start i 0) Idle))
    Idle

-- a value that was not sent as EST is relayed once its ESTs reach the relay threshold (PROTOCOL 5.4)
unfoldable pub relay_value : Settings → List ℕ → ℕ → ℕ → ℕ → Act
relay_value g s i r b = cond (est_sent s i r b) Idle (cond (leb (relay g) (est_count g s i r b)) (Relay i r b) Idle)

-- in a round 0 goes before 1 (PROTOCOL 5.4)
unfoldable pub relay_round : Settings → List ℕ → ℕ → ℕ → Act
relay_round g s i r = or_act (relay_value g s i r 0) (relay_value g s i r 1)

-- the rounds from 1 to the vote's own, the lowest first; they end at 32 (PROTOCOL 5.4)
unfoldable pub relay_act : Settings → List ℕ → ℕ → Act
relay_act g s i = first_act (relay_round g s i) (min (round s i) round_limit)

-- the vote is in one of its rounds 1 to 32
unfoldable pub running : List ℕ → ℕ → Bool
running s i = leb 1 (round s i) && leb (round s i) round_limit

-- 1 is accepted in round r of vote i, and was so before 0, as the state recorded it at delivery (PROTOCOL 5.6)
unfoldable pub one_accepted_first : Settings → List ℕ → ℕ → ℕ → Bool
one_accepted_first g s i r = one_first s i r && accepted g s i r 1

-- AUX carries the accepted value; with both accepted, the one that was accepted first: 1 where that was recorded, otherwise 0 (PROTOCOL 5.6)
unfoldable pub aux_value : Settings → List ℕ → ℕ → ℕ → Act
aux_value g s i r =
    cond (one_accepted_first g s i r) (Aux i r 1)
    (cond (accepted g s i r 0) (Aux i r 0)
    (cond (accepted g s i r 1) (Aux i r 1)
    Idle))

-- one AUX in each round, once the round has an accepted value (PROTOCOL 5.6)
unfoldable pub aux_act : Settings → List ℕ → ℕ → Act
aux_act g s i = cond (aux_sent s i (round s i)) Idle (aux_value g s i (round s i))

-- the AUX held from sender p carries an accepted value
unfoldable pub carries : Settings → List ℕ → ℕ → ℕ → ℕ → Bool
carries g s i r p = (accepted g s i r 0 && aux_held s i r 0 p) || (accepted g s i r 1 && aux_held s i r 1 p)

-- the weight of the senders whose held AUXs carry accepted values
unfoldable pub carriers : Settings → List ℕ → ℕ → ℕ → ℕ
carriers g s i r = weighed g (carries g s i r)

-- the weight of the senders whose held AUXs carry b
unfoldable pub aux_count : Settings → List ℕ → ℕ → ℕ → ℕ → ℕ
aux_count g s i r b = weighed g (aux_held s i r b)

-- b is carried: it is accepted, and an AUX of b is held
unfoldable pub carried : Settings → List ℕ → ℕ → ℕ → ℕ → Bool
carried g s i r b = accepted g s i r b && ltb 0 (aux_count g s i r b)

-- what a move sees, one value or both: z and o tell whether 0 and 1 are carried (PROTOCOL 5.9)
abbrev pub view_of : Bool → Bool → View
view_of true true = Both
view_of true false = Only 0
view_of false o = Only 1

-- the values that the accepted AUXs of a round carry
unfoldable pub view : Settings → List ℕ → ℕ → ℕ → View
view g s i r = view_of (carried g s i r 0) (carried g s i r 1)

-- the AUXs with accepted values reach the vote quorum (PROTOCOL 5.7)
unfoldable pub move_value : Settings → List ℕ → ℕ → ℕ → Act
move_value g s i r = cond (leb (vote_quorum g) (carriers g s i r)) (Move i r (view g s i r)) Idle

-- a move comes after the AUX of its round was sent, and waits until a boxed coin is recorded (PROTOCOL 5.7, 5.8)
unfoldable pub move_act : Settings → List ℕ → ℕ → Act
move_act g s i =
    cond (aux_sent s i (round s i) && coin_known s i (round s i))
    (move_value g s i (round s i))
    Idle

-- AUX and move of a vote that is in one of its rounds
unfoldable pub round_act : Settings → List ℕ → ℕ → Act
round_act g s i = cond (running s i) (or_act (aux_act g s i) (move_act g s i)) Idle

-- the steps of a vote in their order: start, relay, AUX, move (PROTOCOL 5.2)
unfoldable pub vote_act : Settings → List ℕ → Bool → ℕ → ℕ → Act
vote_act g s has_output decided_ones i = or_act (start_act g s has_output decided_ones i) (or_act (relay_act g s i) (round_act g s i))

-- .. in version 2: FINISH goes before them, and a vote that has finished does nothing more (PROTOCOL 5.14, 5.16)
unfoldable pub winding_act : Settings → List ℕ → Bool → ℕ → ℕ → Act
winding_act g s has_output decided_ones i =
    or_act (finish_act g s i)
    (cond (finished s i) Idle
    (vote_act g s has_output decided_ones i))

-- what is due in a vote, with FINISHes or without
unfoldable pub vote_due : Settings → List ℕ → Bool → Bool → ℕ → ℕ → Act
vote_due g s finishes has_output decided_ones i =
    cond finishes
    (winding_act g s has_output decided_ones i)
    (vote_act g s has_output decided_ones i)

-- rule 6, lower instances first: `has_output i` tells whether broadcast i has output
unfoldable pub vote_rule : Settings → List ℕ → (ℕ → Bool) → Act
vote_rule g s has_output = first_act (λ i. vote_due g s (finishing (version s)) (has_output i) (votes_decided_one g s) i) g.n

-- the coin as a value: 1 where its bit is set
abbrev pub coin_value : Bool → ℕ
coin_value true = 1
coin_value false = 0

-- the estimate is the value seen, and with both seen the coin (PROTOCOL 5.9)
abbrev pub estimate : Bool → View → ℕ
estimate coin (Only b) = b
estimate coin Both = coin_value coin

-- a single value seen is decided where it is the coin: what a move would decide, if no decision stands (PROTOCOL 5.9)
abbrev pub decides : Bool → View → Bool
decides coin (Only b) = eqb b (coin_value coin)
decides coin Both = false
