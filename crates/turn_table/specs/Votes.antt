-- What is due in a vote, with ta = 1: its start, ESTs that are relayed, AUX, and whether it moves.
use Rattle.std.specs.Prelude.{ℕ, List, [], ◌∷◌}
use Rattle.acts.specs.declared.Act.TheVariants as act
use Rattle.acts.specs.declared.View.TheVariants.{Only, Both}
use Rattle.wire.specs.declared.Message.TheVariants.{Ready, Est, Aux}
use Rattle.turn_table.specs.Planting.{Fact, two, three, from, did, in_round, one_was_first, output5, decided_three, Row, later_row}

unfoldable pub start_rows : List Row
start_rows =
    -- with 1 where the broadcast has output, though three votes are decided 1
    later_row (act.Start 4 1) (decided_three 1 (output5 4 []))
    -- .. else with 0, where these are
    ∷ later_row (act.Start 4 0) (decided_three 1 [])
    -- .. not with two decided 1 and one decided 0
    ∷ later_row act.Idle (decided_three 0 [])
    -- two READYs are no output
    ∷ later_row act.Idle (from two (Ready 1 5) ∷ did (act.Ready 1 5) ∷ [])
    -- before its start a vote relays nothing
    ∷ later_row act.Idle (from three (Est 1 1 0) ∷ [])
    ∷ []

unfoldable pub relay_rows : List Row
relay_rows =
    -- two ESTs are relayed, one is not
    later_row (act.Relay 1 1 0) (did (act.Start 1 1) ∷ from two (Est 1 1 0) ∷ [])
    ∷ later_row act.Idle (did (act.Start 1 1) ∷ from (2 ∷ []) (Est 1 1 0) ∷ [])
    -- in an earlier round too, and before the AUX of the current one
    ∷ later_row (act.Relay 1 1 0) (did (act.Start 1 1) ∷ in_round 1 3 ∷ did (act.Relay 1 3 1) ∷ from three (Est 1 3 1) ∷ from two (Est 1 1 0) ∷ [])
    -- .. not in a later one
    ∷ later_row act.Idle (did (act.Start 1 1) ∷ from three (Est 1 2 0) ∷ [])
    -- the lowest round first, whatever the values
    ∷ later_row (act.Relay 1 1 1) (in_round 1 2 ∷ from two (Est 1 2 0) ∷ from two (Est 1 1 1) ∷ [])
    -- 0 before 1
    ∷ later_row (act.Relay 1 1 0) (in_round 1 1 ∷ from two (Est 1 1 1) ∷ from (3 ∷ 4 ∷ []) (Est 1 1 0) ∷ [])
    -- .. and 1 where 0 was sent
    ∷ later_row (act.Relay 1 1 1) (did (act.Start 1 0) ∷ from two (Est 1 1 1) ∷ from (3 ∷ 4 ∷ []) (Est 1 1 0) ∷ [])
    ∷ []

-- vote 1 in round 1: both ESTs are sent, and these senders hold 0 and 1
unfoldable pub ests : List ℕ → List ℕ → List Fact → List Fact
ests zeros ones fs = did (act.Start 1 1) ∷ did (act.Relay 1 1 0) ∷ from zeros (Est 1 1 0) ∷ from ones (Est 1 1 1) ∷ fs

unfoldable pub aux_rows : List Row
aux_rows =
    -- a value is accepted from three: neither, 1, and both, of which the one accepted first is sent, here 0 ..
    later_row act.Idle (ests two two [])
    ∷ later_row (act.Aux 1 1 1) (ests two three [])
    ∷ later_row (act.Aux 1 1 0) (ests three (1 ∷ 2 ∷ 3 ∷ []) [])
    -- .. and 1 where its third EST came before the third of 0
    ∷ later_row (act.Aux 1 1 1) (ests two three (from (4 ∷ []) (Est 1 1 0) ∷ []))
    -- .. not where it came after it, though two were there before any of 0
    ∷ later_row (act.Aux 1 1 0) (ests [] two (from three (Est 1 1 0) ∷ from (4 ∷ []) (Est 1 1 1) ∷ []))
    -- .. in a round that was not entered then, too
    ∷ later_row (act.Aux 1 2 1) (did (act.Start 1 1) ∷ from three (Est 1 2 1) ∷ from three (Est 1 2 0) ∷ in_round 1 2 ∷ did (act.Relay 1 2 0) ∷ did (act.Relay 1 2 1) ∷ [])
    -- a planted mark makes no value accepted: 1 goes only where it is
    ∷ later_row (act.Aux 1 1 0) (ests three two (one_was_first 1 1 ∷ []))
    ∷ later_row act.Idle (ests two two (one_was_first 1 1 ∷ []))
    -- once a round
    ∷ later_row act.Idle (ests three [] (did (act.Aux 1 1 0) ∷ []))
    -- before a move
    ∷ later_row (act.Aux 1 1 0) (ests three [] (from three (Aux 1 1 0) ∷ []))
    -- of the current round alone: that of round 1, which was never sent, is due no more
    ∷ later_row act.Idle (ests three [] (in_round 1 2 ∷ []))
    ∷ []

unfoldable pub move_rows : List Row
move_rows =
    -- three AUXs of an accepted value; two are too few
    later_row (act.Move 1 1 (Only 0)) (ests three [] (did (act.Aux 1 1 0) ∷ from three (Aux 1 1 0) ∷ []))
    ∷ later_row act.Idle (ests three [] (did (act.Aux 1 1 0) ∷ from two (Aux 1 1 0) ∷ []))
    -- an AUX that is held does not count where its value is not accepted: for the number ..
    ∷ later_row act.Idle (ests three two (did (act.Aux 1 1 0) ∷ from two (Aux 1 1 0) ∷ from (4 ∷ []) (Aux 1 1 1) ∷ []))
    ∷ later_row act.Idle (ests two three (did (act.Aux 1 1 1) ∷ from two (Aux 1 1 1) ∷ from (4 ∷ []) (Aux 1 1 0) ∷ []))
    -- .. nor for what they carry
    ∷ later_row (act.Move 1 1 (Only 0)) (ests three two (did (act.Aux 1 1 0) ∷ from (1 ∷ 2 ∷ 3 ∷ []) (Aux 1 1 0) ∷ from (4 ∷ []) (Aux 1 1 1) ∷ []))
    -- .. in this round: here it is accepted in the one before
    ∷ later_row act.Idle (ests three [] (in_round 1 2 ∷ did (act.Aux 1 2 0) ∷ from three (Aux 1 2 0) ∷ []))
    -- a value that is accepted and that no AUX carries is none of those carried
    ∷ later_row (act.Move 1 1 (Only 1)) (ests three three (did (act.Aux 1 1 0) ∷ from three (Aux 1 1 1) ∷ []))
    -- both are carried, together by three
    ∷ later_row (act.Move 1 1 Both) (ests three three (did (act.Aux 1 1 0) ∷ from two (Aux 1 1 0) ∷ from (4 ∷ []) (Aux 1 1 1) ∷ []))
    ∷ []

-- three ESTs and AUXs of 0 in round r of vote i
unfoldable pub voted : ℕ → ℕ → List Fact → List Fact
voted i r fs = from three (Est i r 0) ∷ from three (Aux i r 0) ∷ fs

-- vote 1 has moved out of round 32
unfoldable pub last_rows : List Row
last_rows =
    -- it relays
    later_row (act.Relay 1 32 0) (in_round 1 33 ∷ from two (Est 1 32 0) ∷ [])
    -- .. and does nothing else, though ESTs and AUXs of round 32 are held; those of vote 2 stand in the words after these
    ∷ later_row act.Idle (in_round 1 33 ∷ did (act.Relay 1 32 0) ∷ voted 1 32 (voted 2 1 []))
    ∷ []
