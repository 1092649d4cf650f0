-- The laws of a turn, of the engine.
use Rattle.std.specs.Prelude.{ℕ, ◌+◌, ◌≤◌, ◌<◌, ◌^◌, ◌%◌, Bool, true, false, cond, List, ◌≡◌, ltb, length, take, Result, Ok, Err, Option, Some, None}
use Rattle.std.proofs.lemmas.Bool.{false≢true}
use Rattle.std.proofs.Math.Path.{refl}
use Rattle.std.proofs.Common.{sym, ap, subst, ◌∙◌}
use native.Mathlib.Omega.{arith}
use Rattle.settings.specs.Settings.{round_limit}
use Rattle.records.specs.Records.{coin}
use Rattle.votes.specs.Votes.{estimate}
use Rattle.wire.specs.Message.{length_of}
use Rattle.wire.specs.declared.Message.TheVariants as message
use Rattle.settings.specs.Rules.{Ruled}
use Rattle.settings.specs.declared.Settings.{Settings}
use Rattle.acts.specs.declared.Act as acts
use Rattle.acts.specs.declared.Act.TheVariants as act
use Rattle.acts.specs.declared.View.{View}
use Rattle.wire.specs.declared.Message as wire
use Rattle.session.specs.Session.{session_with, session_of}
use Rattle.session.specs.declared.Session.{Session}
use Rattle.opening.specs.Arguments.{settings_by}
use Rattle.turn.specs.Due.{due}
use Rattle.turn.specs.laws.Due.{due_told}
use Rattle.turn.specs.Turn.{applied, move_outcome, outcome_of, admits, taking, sent_length, turn_outcome, turn_words, turn_bytes}
use Rattle.turn.specs.laws.Told.{ActTold}
use Rattle.turn.specs.laws.Admitting.{Admitting, admitting, admitted_ruled, admitted_turns}
use Rattle.turn.proofs.laws.Frame.{told_placed, length_applied, applied_kept}
use Rattle.turn.specs.laws.Turn.{Taken}
use Rattle.turn.specs.declared.Outcome.{Outcome}
use Rattle.turn.specs.declared.Outcome.TheVariants as outcome
use Rattle.journal.specs.Journal.{turn_room}
use Rattle.journal.specs.Journal as journal
use Rattle.journal.specs.laws.Journal.{acts_admitted}
use Rattle.turn.specs.laws.Stored.{room_enough}
use Rattle.agreement.specs.Evidence.{World}
use Rattle.agreement.specs.History.{Act, send}
use Rattle.held.specs.laws.Keeping.{kept_holding, count_back, set_back}
use Rattle.agreement.proofs.laws.Worlds.{world_with}
use Rattle.calls.specs.Engine.{OpeningGiven, agreed, Bytes, TurnLent, SendsBytes, engine}
use Rattle.agreement.proofs.laws.Runs.{CoinsAre, CoinsStay}
use Rattle.agreement.proofs.laws.Machine.{Turned}
use Rattle.agreement.proofs.laws.EngineSeen.{engine_seen}
use Rattle.agreement.proofs.laws.EngineLent.{for_message, room_same, SendsPlain, sends_plain}
use Rattle.agreement.proofs.laws.EngineReading.{Belongs, settings_same, Sets, Belonging, shown_act, admitted_act, act_of, engine_reading}
use Rattle.agreement.proofs.laws.EngineKept.{belongs_applied, coins_applied}
use Rattle.agreement.proofs.laws.EngineDue.{ShownDue, shown_due}
use Rattle.agreement.proofs.laws.EngineActed.{unchanged, kept_by, ShownActed, shown_acted}
use Rattle.agreement.proofs.laws.EngineSent.{silent, shown_says, same_bytes}
use Rattle.settings.specs.declared.refusal.Refusal.{Refusal}

module _ (o : OpeningGiven) (w : List ℕ) (x : Belongs o w) where
  abbrev pub session : Session
  session = record { settings = settings_by o.given; own = o.given.own; number = o.given.session }

  session_same : session_of w ≡ session
  unfolding session_of session_with
  session_same = rw (settings_same o w x, x.is_own, x.is_session, short o.given.session o.session_fits)
    where
      short : (k : ℕ) → k < 2 ^ 32 → k % 2 ^ 32 ≡ k
      short k h = omega arith

  -- a turn that is admitted is one of the session
  module _ (lent : List ℕ) where
    taken_as : (y : Session) → admits w (length lent) ≡ Ok y → Taken w lent y
    unfolding taking turn_outcome turn_words turn_bytes
    taken_as y e =
        let h : Admitting w (length lent) y = admitting w (length lent) y e in
        record { admits = h; told = due_told y.settings w (admitted_ruled w (length lent) y h); answer = rw e; words = rw e; bytes = rw e }

    pub taken_session : (y : Session) → admits w (length lent) ≡ Ok y → y ≡ session
    taken_session y e = (admitting w (length lent) y e).same ∙ session_same

    taken : (y : Session) → admits w (length lent) ≡ Ok y → Taken w lent session
    taken y e = subst (Taken w lent) (taken_session y e) (taken_as y e)

    refused_words : (k : Refusal) → admits w (length lent) ≡ Err k → turn_words w (length lent) ≡ w
    unfolding taking turn_words
    refused_words k e = rw e

    refused_answer : (k : Refusal) → admits w (length lent) ≡ Err k → turn_outcome w (length lent) ≡ Err k
    unfolding taking turn_outcome
    refused_answer k e = rw e

    refused_silent : (k : Refusal) → admits w (length lent) ≡ Err k → (b : Bytes) → SendsPlain w lent b → ⊥
    refused_silent k e b h = of h.message (sym (refused_answer k e) ∙ h.outcome)
      where
        of : (m : wire.Message) → ◌≡◌ {A = Result Outcome Refusal} (Err k) (Ok (outcome.Sent m)) → ⊥
        of m f = let z : ◌≡◌ {A = ℕ} 0 1 = cc in omega arith

module _ (o : OpeningGiven) (w : List ℕ) (x : Belonging o w) (l : TurnLent) where
  abbrev lent : List ℕ
  lent = for_message l

  abbrev g : Settings
  g = settings_by o.given

  sets_applied : (a : acts.Act) → ActTold g w a → Sets o (applied w a)
  sets_applied a told =
      let kept = applied_kept w a (told_placed g w x.words.ruled a told) in
      record {
        rising = λ p lo hi. rw (set_back w (applied w a) x.words.size (length_applied w a) (kept_holding w (applied w a) kept) p lo (omega (arith, x.words.ruled.few))) (x.sets.rising p lo hi);
        few = λ p lo hi. rw (count_back w (applied w a) x.words.size (length_applied w a) (kept_holding w (applied w a) kept) p lo (omega (arith, x.words.ruled.few))) (x.sets.few p lo hi);
      }

  pub turn_belongs : Belonging o (engine.turned w l)
  turn_belongs = rw (room_same l) (go (admits w (length lent)) refl)
    where
      of : Taken w lent (session o w x.words) → Belonging o (turn_words w (length lent))
      of t =
          rw t.words
          (record { words = belongs_applied o g w x.words x.words.ruled (due g w) t.told (admitted_turns w (length lent) (session o w x.words) t.admits); sets = sets_applied (due g w) t.told })

      go : (v : Result Session Refusal) → admits w (length lent) ≡ v → Belonging o (turn_words w (length lent))
      go (Err k) e = rw (refused_words o w x.words lent k e) x
      go (Ok y) e = of (taken o w x.words lent y e)

  coins_kept : CoinsStay engine_seen w (engine.turned w l)
  coins_kept = rw (room_same l) (go (admits w (length lent)) refl)
    where
      of : Taken w lent (session o w x.words) → CoinsStay engine_seen w (turn_words w (length lent))
      of t = rw t.words (coins_applied o w x.words (due g w) (told_placed g w x.words.ruled (due g w) t.told))

      go : (v : Result Session Refusal) → admits w (length lent) ≡ v → CoinsStay engine_seen w (turn_words w (length lent))
      go (Err k) e = rw (refused_words o w x.words lent k e) (λ i r c y. y)
      go (Ok y) e = of (taken o w x.words lent y e)

  -- ---- what a turn tells

  module _ (H : ℕ → Bool) (κ : ℕ → ℕ → Bool) (coins : CoinsAre (world_with engine (agreed o.given) H κ) engine_seen w) where
    abbrev W : World
    W = world_with engine (agreed o.given) H κ

    due_shown : (a : acts.Act) → ActTold g w a → ShownDue W w (shown_act g w a)
    due_shown =
        subst (λ (y : Settings). Ruled y → (a : acts.Act) → ActTold y w a → ShownDue (record { settings = y; honest = H; coin = W.coin }) w (shown_act y w a))
        (settings_same o w x.words) (λ ruled. shown_due w ruled x.words.size H W.coin) x.words.ruled

    input_shown : (a : acts.Act) → ActTold g w a → (v : ℕ) → shown_act g w a ≡ Some (send v) → v ≡ o.given.input
    input_shown act.Idle t v e = absurd (let z : ◌≡◌ {A = ℕ} 0 1 = cc in omega arith)
    input_shown act.InForce t v e = absurd (let z : ◌≡◌ {A = ℕ} 0 1 = cc in omega arith)
    input_shown (act.Commit k) t v e = absurd (let z : ◌≡◌ {A = ℕ} 0 1 = cc in omega arith)
    input_shown (act.Send u) t v e = let same : v ≡ u = cc in same ∙ t.own ∙ x.words.is_input
    input_shown (act.Echo i u) t v e = absurd (let z : ◌≡◌ {A = ℕ} 0 1 = cc in omega arith)
    input_shown (act.Ready i u) t v e = absurd (let z : ◌≡◌ {A = ℕ} 0 1 = cc in omega arith)
    input_shown (act.Start i b) t v e = absurd (let z : ◌≡◌ {A = ℕ} 0 1 = cc in omega arith)
    input_shown (act.Relay i r b) t v e = absurd (let z : ◌≡◌ {A = ℕ} 0 1 = cc in omega arith)
    input_shown (act.Aux i r b) t v e = absurd (let z : ◌≡◌ {A = ℕ} 0 1 = cc in omega arith)
    input_shown (act.Move i r u) t v e = absurd (let z : ◌≡◌ {A = ℕ} 0 1 = cc in omega arith)
    input_shown (act.Finish i b) t v e = absurd (let z : ◌≡◌ {A = ℕ} 0 1 = cc in omega arith)

    hidden : (a : acts.Act) → shown_act g w a ≡ None → (i r : ℕ) (v : View) → a ≡ act.Move i r v → ⊥
    hidden a e i r v f = let z : None ≡ shown_act g w (act.Move i r v) = sym e ∙ ap (shown_act g w) f in let y : ◌≡◌ {A = ℕ} 0 1 = cc in omega arith

    told_by : Taken w lent (session o w x.words) → (c : Option Act) → shown_act g w (due g w) ≡ c → ShownDue W w c → ShownActed o H κ w x.words coins (due g w) c → Turned engine engine_reading H κ o w l c
    told_by t None e d k =
        record {
          kept = rw (room_same l, t.words) (kept_by o H κ w x.words coins (due g w) (told_placed g w x.words.ruled (due g w) t.told) (hidden (due g w) e));
          coins = coins_kept;
          silent = λ b h. silent o H κ w x.words coins x.sets lent t b (sends_plain w l b h) e;
        }
    told_by t (Some a) e d k =
        record {
          due = d;
          acted = rw (room_same l, t.words) k;
          coins = coins_kept;
          says = λ b h. shown_says o H κ w x.words coins x.sets lent t b (sends_plain w l b h) a e;
          input = λ v f. input_shown (due g w) t.told v (e ∙ ap Some f);
        }

    pub turn_told : Turned engine engine_reading H κ o w l (act_of w l)
    unfolding act_of admitted_act
    turn_told = go (admits w (length lent)) refl
      where
        open_told : (y : Session) → admits w (length lent) ≡ Ok y → Taken w lent (session o w x.words) → Turned engine engine_reading H κ o w l (shown_act y.settings w (due y.settings w))
        open_told y e t =
            rw (taken_session o w x.words lent y e)
            (told_by t (shown_act g w (due g w)) refl (due_shown (due g w) t.told) (shown_acted o H κ w x.words coins g x.words.ruled (due g w) t.told))

        go : (v : Result Session Refusal) → admits w (length lent) ≡ v → Turned engine engine_reading H κ o w l (admitted_act v w)
        go (Err k) e =
            record {
              kept = rw (room_same l, refused_words o w x.words lent k e) (unchanged o H κ w x.words coins);
              coins = coins_kept;
              silent = λ b h. refused_silent o w x.words lent k e b (sends_plain w l b h);
            }
        go (Ok y) e = open_told y e (taken o w x.words lent y e)

-- ---- a turn that is idle or refused changes nothing

idle_words : (own : ℕ) (s : List ℕ) (a : acts.Act) → journal.acts (Ok (outcome_of own s a)) ≡ false → applied s a ≡ s
unfolding outcome_of move_outcome applied
idle_words own s act.Idle e = refl
idle_words own s act.InForce e = absurd (false≢true (sym e))
idle_words own s (act.Commit k) e = absurd (false≢true (sym e))
idle_words own s (act.Send v) e = absurd (false≢true (sym e))
idle_words own s (act.Echo i v) e = absurd (false≢true (sym e))
idle_words own s (act.Ready i v) e = absurd (false≢true (sym e))
idle_words own s (act.Start i b) e = absurd (false≢true (sym e))
idle_words own s (act.Relay i r b) e = absurd (false≢true (sym e))
idle_words own s (act.Aux i r b) e = absurd (false≢true (sym e))
idle_words own s (act.Finish i b) e = absurd (false≢true (sym e))
idle_words own s (act.Move i r v) e = absurd (go (ltb r round_limit) (outcome.Sent (message.Est i (r + 1) (estimate (coin s i r) v))) e refl)
  where
    go : (t : Bool) (y : Outcome) → journal.acts (Ok (cond t y outcome.MovedOut)) ≡ false → journal.acts (Ok y) ≡ true → ⊥
    go true y f g = false≢true (sym f ∙ g)
    go false y f g = false≢true (sym f)

pub turn_idle : (w : List ℕ) (l : TurnLent) → engine.acts w l ≡ false → engine.turned w l ≡ w
unfolding taking turn_outcome turn_words
turn_idle w l e = go (admits w (turn_room (length l.message) l.line)) refl
  where
    go : (v : Result Session Refusal) → admits w (turn_room (length l.message) l.line) ≡ v → turn_words w (turn_room (length l.message) l.line) ≡ w
    go (Err k) f = rw f
    go (Ok y) f = rw f (idle_words y.own w (due y.settings w) (rw f at e))

-- ---- a message that was sent, again

module _ (o : OpeningGiven) (w : List ℕ) (x : Belonging o w) (l : TurnLent) (b : Bytes) (h : SendsBytes w l b) (lent : List ℕ) (room : 140 ≤ length lent) where
  plain : SendsPlain w (for_message l) b
  plain = sends_plain w l b h

  same_admitted : admits w (length lent) ≡ admits w (length (for_message l))
  same_admitted = room_enough w (length lent) room ∙ (acts_admitted w (length (for_message l)) (ap journal.acts plain.outcome)).1

  -- a turn at the same words writes the same bytes
  pub sends_again : b.list ≡ take (sent_length (journal.turned_outcome w (length l.message) l.line)) (turn_bytes w lent)
  sends_again = rw (room_same l, plain.outcome) (plain.bytes ∙ at (admits w (length (for_message l))) refl)
    where
      at : (v : Result Session Refusal) → admits w (length (for_message l)) ≡ v → take (length_of plain.message) (turn_bytes w (for_message l)) ≡ take (length_of plain.message) (turn_bytes w lent)
      at (Err k) e = absurd (refused_silent o w x.words (for_message l) k e b plain)
      at (Ok y) e =
          same_bytes o (λ p. true) (coin w) w x.words (λ i r c k. sym k.same) x.sets (for_message l) lent (taken o w x.words (for_message l) y e) (taken o w x.words lent y (same_admitted ∙ e)) plain.message plain.outcome
