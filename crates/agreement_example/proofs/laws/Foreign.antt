-- The list of specs/Foreign.antt, computed.
use Rattle.std.specs.Prelude.{ℕ, Bool, true, cond, ◌≡◌, refl, length}
use mathlib.Core.List.{List, [], ◌∷◌, ◌++◌}
use Rattle.std.proofs.Math.Path.{ap}
use Rattle.std.proofs.Common.{◌∙◌}
use Rattle.records.specs.Layout.{state_words}
use Rattle.records.specs.Words.{blank}
use Rattle.opening.specs.Opening.{open_words}
use Rattle.turn_bound.proofs.laws.Computing.{calls}
use Rattle.agreement.specs.Moments.{Within, now, after}
use Rattle.agreement.proofs.laws.Moments.{within_none}
use Rattle.calls.specs.Machine.{Call, opening, turn, words}
use Rattle.agreement.specs.Journals.{journal}
use Rattle.agreement.specs.DemandThree.{Sent}
use Rattle.calls.specs.Engine.{engine, TurnLent}
use Rattle.calls.specs.Given.{turn_with}
use Rattle.agreement_check.specs.Checking.{opens, listed}
use Rattle.agreement_example.proofs.laws.Computing.{checks}
use Rattle.agreement_check.specs.Example.{Sized}
use Rattle.agreement_check.proofs.laws.Example.{passes, passes_example}
use Rattle.agreement_check.proofs.laws.Tracking.{AllSized}
use Rattle.agreement_check.proofs.laws.Tracks.{words_here, size_next, opens_sized, opened_sized, listed_honest}
use Rattle.agreement_example.specs.Messages.{input_five, turn_of}
use Rattle.agreement_example.specs.Weighted.{session, first_two, openings, turns, to_both, from_both, twice, with_readies, with_auxes, with_last_auxes, with_sets, weighted_calls}
use Rattle.agreement_example.specs.Foreign.{as_fourth, as_second, unsent, foreign, foreign_calls, OpenedAs, Uncredited, ForeignMeet}

foreign_pass : passes session first_two input_five 2 (5 ∷ []) foreign_calls ≡ true
unfolding calls checks openings turns to_both from_both twice with_readies with_auxes with_last_auxes with_sets weighted_calls foreign foreign_calls
foreign_pass = refl

foreign_sized : AllSized foreign_calls
unfolding checks openings turns to_both from_both twice with_readies with_auxes with_last_auxes with_sets weighted_calls foreign foreign_calls
foreign_sized = tt

-- ---- the calls before

abbrev until_fourth : List (Call engine)
until_fourth = opening 1 as_fourth ∷ []

abbrev until_second : List (Call engine)
until_second = opening 1 as_second ∷ until_fourth

abbrev until_turn : List (Call engine)
until_turn = turn_of 1 ∷ until_second

-- a moment of these calls is one of the list that goes on with cs
among : (cs : List (Call engine)) {ds bs : List (Call engine)} → Within ds bs → Within ds (cs ++ bs)
among [] w = w
among (c ∷ cs) w = after c (among cs w)

opens_fourth : opens as_fourth ≡ true
unfolding calls checks
opens_fourth = refl

opens_second : opens as_second ≡ true
unfolding calls checks
opens_second = refl

-- what the turn is lent
abbrev lent : TurnLent
lent = turn_with (blank 140)

taken : engine.accepts (engine.turned (open_words as_second.given) lent) 2 unsent ≡ true
unfolding calls checks
taken = refl

module _ (start : ℕ → List ℕ) (room : Sized start session first_two) where
  size : length (words engine start [] 1) ≡ state_words
  unfolding words listed
  size = room 1 (listed_honest start session first_two input_five 1 refl)

  size_fourth : length (words engine start until_fourth 1) ≡ state_words
  size_fourth = size_next start (opening 1 as_fourth) [] tt 1 size

  as_fourth_lem : OpenedAs start foreign_calls 1 4
  unfolding foreign foreign_calls checks
  as_fourth_lem =
      record {
        given = as_fourth;
        past = [];
        within = among weighted_calls (after _ (after _ (after _ now)));
        numbered = refl;
        accepted = opens_sized start (words engine start [] 1) as_fourth size ∙ opens_fourth;
      }

  as_second_lem : OpenedAs start foreign_calls 1 2
  unfolding foreign foreign_calls checks
  as_second_lem =
      record {
        given = as_second;
        past = until_fourth;
        within = among weighted_calls (after _ (after _ now));
        numbered = refl;
        accepted = opens_sized start (words engine start until_fourth 1) as_second size_fourth ∙ opens_second;
      }

  -- the words of 1 as 2, before and after its turn
  words_second : words engine start until_second 1 ≡ open_words as_second.given
  words_second =
      words_here start (opening 1 as_second) until_fourth
      ∙ opened_sized start (words engine start until_fourth 1) as_second size_fourth
      ∙ ap (λ (b : Bool). cond b (open_words as_second.given) (words engine start until_fourth 1)) opens_second

  words_turned : words engine start until_turn 1 ≡ engine.turned (open_words as_second.given) lent
  unfolding turn_of
  words_turned = words_here start (turn 1 lent) until_second ∙ ap (λ (w : List ℕ). engine.turned w lent) words_second

  not_sent : Sent engine start until_turn 2 unsent → ⊥
  unfolding journal turn_of
  not_sent x = within_none x.stands.within

  uncredited : Uncredited start foreign_calls 1 2
  unfolding foreign foreign_calls
  uncredited =
      record {
        bytes = unsent;
        past = until_turn;
        within = among weighted_calls now;
        accepted = ap (λ (w : List ℕ). engine.accepts w 2 unsent) words_turned ∙ taken;
        not_sent = not_sent;
      }

pub foreign_meet : ForeignMeet
foreign_meet start room =
    record {
      example = passes_example start session first_two input_five foreign_calls room foreign_sized 2 (5 ∷ []) foreign_pass;
      as_fourth_lem = as_fourth_lem start room;
      as_second_lem = as_second_lem start room;
      uncredited = uncredited start room;
    }
