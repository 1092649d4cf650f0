-- A cut of an honest one's journal gives back its state and its last message, proved of every list of calls that meets the conditions.
use Rattle.std.specs.Prelude.{ℕ, ◌≤◌, true, List, ◌∷◌, ◌++◌, ◌≡◌, refl, length, take, Some, None, Ok}
use Rattle.std.proofs.Common.{ap, ◌∙◌, le-ltb}
use Rattle.records.specs.Layout.{state_words}
use Rattle.turn.specs.Turn.{sent_length}
use Rattle.journal.specs.Journal.{turn_room}
use Rattle.journal.specs.laws.Journal.{acts_outcome}
use Rattle.restore.specs.Restoring.{MESSAGE_BYTES, length_again, bytes_again, replay_answer, replay_words, replay_bytes, lent_answer, restore_answer, restored_words, restored_bytes}
use Rattle.agreement.specs.Moments.{Within, now}
use Rattle.agreement.specs.Journals.{Moment, Journal, bytes, journal}
use Rattle.calls.specs.Machine.{words}
use Rattle.agreement.specs.EngineRestores.{last_turn}
use Rattle.calls.specs.Engine.{engine, OpeningGiven, Bytes, TurnLent}
use Rattle.agreement.proofs.laws.Openings.{opened_known}
use Rattle.agreement.proofs.laws.Coins.{coins_of, agreeing_coined}
use Rattle.agreement.proofs.laws.Journals.{cut_at, complete_within}
use Rattle.agreement.proofs.laws.Machine.{Ran, by_opening, by_delivery, by_turn, by_recording}
use Rattle.agreement.proofs.laws.Chains.{known_live}
use Rattle.agreement.proofs.laws.Lists.{all_good}
use Rattle.agreement.proofs.laws.EngineReading.{Belonging, engine_reading}
use Rattle.agreement.proofs.laws.EngineOpening.{open_belongs}
use Rattle.agreement.proofs.laws.EngineDelivery.{deliver_accepted}
use Rattle.agreement.proofs.laws.EngineTurn.{turn_belongs, sends_again}
use Rattle.agreement.proofs.laws.EngineRecording.{record_accepted}
use Rattle.agreement.specs.EngineRestores.{Last, sent_again, message_again, SentLast, Gives, RestoreGives}
use Rattle.agreement.proofs.laws.EngineJournal.{words_before, CutRead, cut_read}
use Rattle.agreement.proofs.laws.EngineDemand.{engine_laws}

lent_enough : (words room : ℕ) → words ≡ state_words → MESSAGE_BYTES ≤ room → lent_answer words room ≡ Ok tt
unfolding lent_answer
lent_enough words room e l = rw (e, le-ltb room MESSAGE_BYTES l)

-- the words after lines belong to the session of their opening
record Ours (w : List ℕ) : Type 0 where
  by_opening : OpeningGiven
  belongs : Belonging by_opening w

ran_ours : (t w : List ℕ) (last : Last) → Ran engine t w last → Ours w
ran_ours _ _ _ (by_opening w o e) = record { by_opening = o; belongs = open_belongs w o e }
ran_ours _ _ _ (by_delivery t w last m b r e) =
    let x = ran_ours t w last r in
    record { by_opening = x.by_opening; belongs = (deliver_accepted (λ p. true) (λ i r. true) x.by_opening w x.belongs m b e).belongs }
ran_ours _ _ _ (by_turn t w last l r e) =
    let x = ran_ours t w last r in
    record { by_opening = x.by_opening; belongs = turn_belongs x.by_opening w x.belongs l }
ran_ours _ _ _ (by_recording t w last b r e) =
    let x = ran_ours t w last r in
    record { by_opening = x.by_opening; belongs = (record_accepted (λ p. true) (λ i r. true) x.by_opening w x.belongs b e).belongs }

-- a turn that wrote the last line acted, at words of a session
record Acting (w : List ℕ) (l : TurnLent) : Type 0 where
  acted : engine.acts w l ≡ true
  ours : Ours w

abbrev Acted : Last → Type 0
Acted None = Unit {0}
Acted (Some x) = Acting x.0 x.1

ran_acted : (t w : List ℕ) (last : Last) → Ran engine t w last → Acted last
ran_acted _ _ _ (by_opening w o e) = tt
ran_acted _ _ _ (by_delivery t w last m b r e) = tt
ran_acted _ _ _ (by_turn t w last l r e) = record { acted = e; ours = ran_ours t w last r }
ran_acted _ _ _ (by_recording t w last x r e) = tt

again_length : (last : Last) → Acted last → length_again (words_before last) ≡ sent_again last
unfolding length_again
again_length None a = refl
again_length (Some (w, l)) a = ap sent_length (acts_outcome w (turn_room (length l.message) l.line) a.acted)

again_bytes : (last : Last) (lent : List ℕ) → bytes_again (words_before last) lent ≡ message_again last lent
unfolding bytes_again
again_bytes None lent = refl
again_bytes (Some (w, l)) lent = refl

again_sent : (last : Last) → Acted last → (lent : List ℕ) → MESSAGE_BYTES ≤ length lent → (b : Bytes) → SentLast last b → b.list ≡ take (sent_again last) (message_again last lent)
again_sent None a lent room b h = absurd h
again_sent (Some (w, l)) a lent room b h = sends_again a.ours.by_opening w a.ours.belongs l b h lent room

-- what is read of a cut is given
read_gives : (start : ℕ → List ℕ) (p : ℕ) (d : Moment engine) (lines text v lent : List ℕ) → Acted (last_turn engine start d) → CutRead text lines (words engine start d p) (last_turn engine start d) → length v ≡ state_words → MESSAGE_BYTES ≤ length lent → Gives start p d lines text v lent
unfolding restore_answer restored_words restored_bytes replay_answer replay_words replay_bytes
read_gives start p d lines text v lent a x size room =
    let last = last_turn engine start d in
    let e = lent_enough (length v) (length lent) size room in
    record {
      answer = rw (e, x.replays, x.lines, again_length last a);
      words = rw (e, x.replays);
      message = rw (e, x.replays) (again_bytes last lent);
      sent = again_sent last a lent room;
    }

pub restore_gives : RestoreGives
unfolding RestoreGives
restore_gives S H start cs k p o text cut d ks e v lent size room =
    let κ = coins_of engine engine_reading start S cs in
    let laws = engine_laws H κ in
    let coined = agreeing_coined engine engine_reading start (λ w x e. laws.record_binary w x e) S cs k.coins in
    let good = all_good engine engine_reading H κ laws start S cs coined cs now k cs now in
    let x = opened_known engine engine_reading start cs p o in
    let live = known_live engine engine_reading H κ start S cs cs good p x.by_opening x.known in
    let js = journal engine start cs p in
    let at = cut_at engine (length text) js in
    let inside : Within (d ∷ ks) js = rw e at (complete_within engine (length text) js) in
    let is : text ≡ bytes engine (d ∷ ks) ++ at.rest = cut ∙ at.splits ∙ ap (λ (ls : Journal engine). bytes engine ls ++ at.rest) e in
    let ran = (live.chain d ks inside).ran in
    read_gives start p d (bytes engine (d ∷ ks)) text v lent (ran_acted _ _ _ ran)
    (cut_read text (bytes engine (d ∷ ks)) at.rest (words engine start d p) (last_turn engine start d) ran at.torn is) size room
