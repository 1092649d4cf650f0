-- Rule 6 of the turn order, what is due in a vote: PROTOCOL, section 5, with counts in place of weights (13.4). Votes use ta.
use Rattle.std.specs.Prelude.{ℕ, min, Bool, ◌&&◌, ◌||◌, not, cond, List, eqb, leb, ltb}
use Rattle.settings.specs.Settings.{round_limit}
use Rattle.quorum.specs.Total.{count}
use Rattle.records.specs.Records.{est_held, aux_held, round, est_sent, aux_sent, one_first, coin_known, decided_zero, decided_one, decided, finish_held, finish_sent}
use Rattle.acts.specs.Acts.{or_act, first_act}
use Rattle.acts.specs.declared.Act.{Act}
use Rattle.acts.specs.declared.Act.TheVariants.{Idle, Start, Relay, Aux, Move, Finish}
use Rattle.acts.specs.declared.View.{View}
use Rattle.votes.specs.Votes.{running, view_of}
use Rattle.votes.specs.Finishing.{finished}
use Rattle.unweighted.specs.Settings.{Settings, vote_quorum, relay, accept}

-- how many senders' ESTs of b are held in round r of vote i
unfoldable pub est_count : Settings → List ℕ → ℕ → ℕ → ℕ → ℕ
est_count g s i r b = count (est_held s i r b) g.n

-- a value is accepted in a round once its ESTs there reach the accept threshold (PROTOCOL 5.5)
unfoldable pub accepted : Settings → List ℕ → ℕ → ℕ → ℕ → Bool
accepted g s i r b = leb (accept g) (est_count g s i r b)

-- 1 is accepted in round r of vote i, and 0 is not (PROTOCOL 5.19)
unfoldable pub one_alone : Settings → List ℕ → ℕ → ℕ → Bool
one_alone g s i r = accepted g s i r 1 && not (accepted g s i r 0)

-- how many votes are decided 1 (PROTOCOL 5.3)
unfoldable pub votes_decided_one : Settings → List ℕ → ℕ
votes_decided_one g s = count (decided_one s) g.n

-- a vote whose round is 0 starts with 1 where its broadcast has output, otherwise with 0 where the votes decided 1 reach the vote quorum
-- (PROTOCOL 5.3)
unfoldable pub start_act : Settings → List ℕ → Bool → ℕ → ℕ → Act
start_act g s has_output decided_ones i =
    cond (eqb (round s i) 0)
    (cond has_output (Start i 1) (cond (leb (vote_quorum g) decided_ones) (Start i 0) Idle))
    Idle

-- a value that was not sent as EST is relayed once its ESTs reach the relay threshold (PROTOCOL 5.4)
unfoldable pub relay_value : Settings → List ℕ → ℕ → ℕ → ℕ → Act
relay_value g s i r b = cond (est_sent s i r b) Idle (cond (leb (relay g) (est_count g s i r b)) (Relay i r b) Idle)

-- in a round 0 goes before 1 (PROTOCOL 5.4)
unfoldable pub relay_round : Settings → List ℕ → ℕ → ℕ → Act
relay_round g s i r = or_act (relay_value g s i r 0) (relay_value g s i r 1)

-- the rounds from 1 to the vote's own, the lowest first; they end at 32 (PROTOCOL 5.4)
unfoldable pub relay_act : Settings → List ℕ → ℕ → Act
relay_act g s i = first_act (relay_round g s i) (min (round s i) round_limit)

-- 1 is accepted in round r of vote i, and was so before 0, as the state recorded it at delivery (PROTOCOL 5.6)
unfoldable pub one_accepted_first : Settings → List ℕ → ℕ → ℕ → Bool
one_accepted_first g s i r = one_first s i r && accepted g s i r 1

-- AUX carries the accepted value; with both accepted, the one that was accepted first: 1 where that was recorded, otherwise 0 (PROTOCOL 5.6)
unfoldable pub aux_value : Settings → List ℕ → ℕ → ℕ → Act
aux_value g s i r =
    cond (one_accepted_first g s i r) (Aux i r 1)
    (cond (accepted g s i r 0) (Aux i r 0)
    (cond (accepted g s i r 1) (Aux i r 1)
    Idle))

-- one AUX in each round, once the round has an accepted value (PROTOCOL 5.6)
unfoldable pub aux_act : Settings → List ℕ → ℕ → Act
aux_act g s i = cond (aux_sent s i (round s i)) Idle (aux_value g s i (round s i))

-- the AUX held from sender p carries an accepted value
unfoldable pub carries : Settings → List ℕ → ℕ → ℕ → ℕ → Bool
carries g s i r p = (accepted g s i r 0 && aux_held s i r 0 p) || (accepted g s i r 1 && aux_held s i r 1 p)

-- how many held AUXs carry accepted values
unfoldable pub carriers : Settings → List ℕ → ℕ → ℕ → ℕ
carriers g s i r = count (carries g s i r) g.n

-- b is carried: it is accepted, and an AUX of b is held
unfoldable pub carried : Settings → List ℕ → ℕ → ℕ → ℕ → Bool
carried g s i r b = accepted g s i r b && ltb 0 (count (aux_held s i r b) g.n)

-- the values that the accepted AUXs of a round carry
unfoldable pub view : Settings → List ℕ → ℕ → ℕ → View
view g s i r = view_of (carried g s i r 0) (carried g s i r 1)

-- the AUXs with accepted values reach the vote quorum (PROTOCOL 5.7)
unfoldable pub move_value : Settings → List ℕ → ℕ → ℕ → Act
move_value g s i r = cond (leb (vote_quorum g) (carriers g s i r)) (Move i r (view g s i r)) Idle

-- a move comes after the AUX of its round was sent, and waits until a boxed coin is recorded (PROTOCOL 5.7, 5.8)
unfoldable pub move_act : Settings → List ℕ → ℕ → Act
move_act g s i =
    cond (aux_sent s i (round s i) && coin_known s i (round s i))
    (move_value g s i (round s i))
    Idle

-- AUX and move of a vote that is in one of its rounds
unfoldable pub round_act : Settings → List ℕ → ℕ → Act
round_act g s i = cond (running s i) (or_act (aux_act g s i) (move_act g s i)) Idle

-- the steps of a vote in their order: start, relay, AUX, move (PROTOCOL 5.2)
unfoldable pub vote_act : Settings → List ℕ → Bool → ℕ → ℕ → Act
vote_act g s has_output decided_ones i = or_act (start_act g s has_output decided_ones i) (or_act (relay_act g s i) (round_act g s i))

-- how many senders' FINISHes of b are held in vote i
unfoldable pub finish_count : Settings → List ℕ → ℕ → ℕ → ℕ
finish_count g s i b = count (finish_held s i b) g.n

-- the FINISHes of b reach the relay threshold (PROTOCOL 5.15)
unfoldable pub repeated : Settings → List ℕ → ℕ → ℕ → Bool
repeated g s i b = leb (relay g) (finish_count g s i b)

-- without a decision FINISH carries a value that is repeated, 0 where both are; where a decision stands, that (PROTOCOL 5.15)
unfoldable pub finish_value : Settings → List ℕ → ℕ → Act
finish_value g s i =
    cond (decided_one s i) (Finish i 1)
    (cond (decided_zero s i) (Finish i 0)
    (cond (repeated g s i 0) (Finish i 0)
    (cond (repeated g s i 1) (Finish i 1)
    Idle)))

-- one FINISH in each vote, whatever its round (PROTOCOL 5.14)
unfoldable pub finish_act : Settings → List ℕ → ℕ → Act
finish_act g s i = cond (finish_sent s i) Idle (finish_value g s i)

-- FINISHes of b decide vote i: no decision stands, and they reach the accept threshold (PROTOCOL 5.17)
unfoldable pub finish_decides : Settings → List ℕ → ℕ → ℕ → Bool
finish_decides g s i b = not (decided s i) && leb (accept g) (finish_count g s i b)

-- in version 2 FINISH goes before the steps, and a vote that has finished does nothing more (PROTOCOL 5.14, 5.16)
unfoldable pub winding_act : Settings → List ℕ → Bool → ℕ → ℕ → Act
winding_act g s has_output decided_ones i = or_act (finish_act g s i) (cond (finished s i) Idle (vote_act g s has_output decided_ones i))

-- what is due in a vote, with FINISHes or without
unfoldable pub vote_due : Settings → List ℕ → Bool → Bool → ℕ → ℕ → Act
vote_due g s finishes has_output decided_ones i = cond finishes (winding_act g s has_output decided_ones i) (vote_act g s has_output decided_ones i)
