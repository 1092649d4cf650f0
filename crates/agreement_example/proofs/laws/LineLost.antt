-- The list of specs/LineLost.antt meets the conditions for no session and no choice of honest ones.
use Rattle.std.specs.Prelude.{ℕ, Bool, true, ◌&&◌, not, List, [], ◌∷◌, ◌⊎◌, ◌≡◌, length}
use Rattle.std.proofs.lemmas.Bool.{false≢true}
use Rattle.std.proofs.Common.{inl, inr, sym, ap, ◌∙◌}
use Rattle.std.proofs.Math.Path.{refl}
use Rattle.quorum.specs.laws.Bools.{and_left, and_right}
use Rattle.records.specs.Layout.{state_words}
use Rattle.wire.specs.Message.{encode}
use Rattle.wire.specs.declared.Message.TheVariants.{Send}
use Rattle.agreement.specs.Evidence.{Honest}
use Rattle.agreement.specs.Moments.{Within, now}
use Rattle.agreement.proofs.laws.Moments.{within_cases, within_none}
use Rattle.calls.specs.Machine.{Call, restore, turn}
use Rattle.agreement.specs.Journals.{Journal, newest, journal}
use Rattle.agreement.proofs.laws.Worlds.{world}
use Rattle.agreement.specs.DemandThree.{Departed, Conditions}
use Rattle.calls.specs.Engine.{engine, Agreed, Bytes, TurnLent}
use Rattle.calls.specs.Given.{bytes_of}
use Rattle.agreement_example.specs.Messages.{input_five, deliver_in, deliver}
use Rattle.agreement_example.specs.One.{session, everyone}
use Rattle.agreement_example.specs.PowerLost.{first_line, from}
use Rattle.agreement_check.specs.Checking.{Line, Entry, is_opened, words_of, lines_of, same_list, complete_of, restore_right, run}
use Rattle.agreement_check.proofs.laws.Journals.{AllMatch}
use Rattle.agreement_check.proofs.laws.Tracks.{Tracks}
use Rattle.agreement_check.proofs.laws.Restores.{restores_there, restored_lines}
use Rattle.agreement_check.proofs.laws.Tracking.{run_tracks}
use Rattle.turn_bound.proofs.laws.Computing.{calls}
use Rattle.agreement_example.proofs.laws.Computing.{checks}
use Rattle.agreement_example.specs.LineLost.{until_sent, until_got, LineMissed}

-- no line is that of a turn
unfoldable no_turn : List Line → Bool
no_turn [] = true
no_turn (x ∷ ls) = not (same_list engine.turn_line_lem x.text) && no_turn ls

is_turn_lem : same_list engine.turn_line_lem engine.turn_line_lem ≡ true
unfolding checks
is_turn_lem = refl

no_turn_lem : (start : ℕ → List ℕ) (ls : List Line) (js : Journal engine) → AllMatch start 1 ls js → no_turn ls ≡ true → (l : TurnLent) (past : List (Call engine)) (older : Journal engine) → Within ((turn 1 l ∷ past) ∷ older) js → ⊥
unfolding no_turn
no_turn_lem start [] [] h e l past older w = within_none w
no_turn_lem start [] (d ∷ js) h e l past older w = h
no_turn_lem start (x ∷ ls) [] h e l past older w = h
no_turn_lem start (x ∷ ls) (d ∷ js) h e l past older w = at (within_cases d js w) (no_turn_lem start ls js h.1 (and_right (not (same_list engine.turn_line_lem x.text)) _ e) l past older)
  where
    at : ((turn 1 l ∷ past) ∷ older ≡ d ∷ js) ⊎ Within ((turn 1 l ∷ past) ∷ older) js → (Within ((turn 1 l ∷ past) ∷ older) js → ⊥) → ⊥
    at (inl q) rest =
        let same : d ≡ turn 1 l ∷ past = cc in
        let text : engine.turn_line_lem ≡ x.text = ap (newest engine) (sym same) ∙ h.0.text in
        let no : not (same_list engine.turn_line_lem engine.turn_line_lem) ≡ true = rw (← text) at (and_left (not (same_list engine.turn_line_lem x.text)) _ e) in
        false≢true (rw is_turn_lem at no)
    at (inr u) rest = rest u

module _ (start : ℕ → List ℕ) (room : (p : ℕ) → Honest (world engine session everyone) p → length (start p) ≡ state_words) where
  abbrev sent : List Entry
  sent = (run session everyone input_five until_sent).states

  abbrev got : List Entry
  got = (run session everyone input_five until_got).states

  abbrev message : Bytes
  message = bytes_of (encode (Send 1 5) 1 1 7 [])

  sent_tracks : Tracks start session everyone input_five until_sent sent (run session everyone input_five until_sent).gone
  unfolding calls checks until_sent
  sent_tracks = run_tracks start session everyone input_five room until_sent tt refl

  got_tracks : Tracks start session everyone input_five until_got got (run session everyone input_five until_got).gone
  unfolding calls checks until_sent until_got
  got_tracks = run_tracks start session everyone input_five room until_got tt refl

  sent_opened : is_opened sent 1 ≡ true
  unfolding calls checks until_sent
  sent_opened = refl

  got_opened : is_opened got 1 ≡ true
  unfolding calls checks until_sent until_got
  got_opened = refl

  taken : engine.accepts (words_of sent 1) 1 message ≡ true
  unfolding calls checks until_sent
  taken = refl

  -- the SEND left
  departed : Departed engine start until_got 1 message
  unfolding deliver_in deliver until_got
  departed = record { who = 1; past = until_sent; within = now; opened = sent_tracks.some 1 sent_opened; accepted = rw (sent_tracks.equal 1 sent_opened) taken }

  reads : restore_right (from first_line) (lines_of got 1) ≡ true
  unfolding calls checks from until_sent until_got
  reads = refl

  opening_only : no_turn (complete_of (length first_line) (lines_of got 1)) ≡ true
  unfolding calls checks from until_sent until_got no_turn
  opening_only = refl

  pub misses : (v : List ℕ) → length v ≡ state_words → (S : Agreed) (H : ℕ → Bool) → Conditions engine start S H (restore 1 v (from first_line) ∷ until_got) → ⊥
  unfolding from
  misses v size S H k =
      let r = from first_line in
      let falls = k.falls_back 1 v r until_got now (got_tracks.some 1 got_opened) (restores_there start session everyone input_five got_tracks 1 v r size got_opened reads) in
      let s = falls.kept message departed in
      no_turn_lem start (complete_of (length first_line) (lines_of got 1)) (journal engine start (restore 1 v r ∷ until_got) 1) (restored_lines start session everyone input_five got_tracks 1 v r size got_opened reads) opening_only s.lent s.past s.stands.older s.stands.within

pub line_missed : LineMissed
line_missed start room = misses start room
