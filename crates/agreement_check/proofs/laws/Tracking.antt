-- The check of specs/Checking.antt is sound: a list that passes it meets the conditions of agreement, and the words that it computes are
-- those of the concentrators, whatever 2,048 words each buffer held at the start, and whatever 2,048 words a restore finds.
use Prim.Native.Nat.{ℕ}
use Rattle.std.proofs.Math.Bool.{Bool, true, false, not, cond, false≢true}
use Rattle.std.specs.Prelude.{◌&&◌, ◌||◌, ◌⊎◌, ◌≡◌, length, take, Ok, Result, Err}
use mathlib.Core.List.{List, [], ◌∷◌}
use Rattle.std.proofs.Common.{inl, sym, subst, ◌∙◌}
use Rattle.std.proofs.Math.Logic.{inr}
use Rattle.std.proofs.Math.Path.{refl, ap}
use borrow.Author.Tests.{eqb-true, eqb-false, not-true}
use Rattle.std.proofs.Math.Dec.{eqb}
use Rattle.quorum.specs.laws.Bools.{and_left, and_right}
use Rattle.records.specs.Layout.{state_words}
use Rattle.opening.specs.Opening.{open_words}
use Rattle.wire.specs.Message.{length_of}
use Rattle.wire.specs.declared.Message.{Message}
use Rattle.turn.specs.declared.Outcome.{Outcome}
use Rattle.turn.specs.declared.Outcome.TheVariants as outcome
use Rattle.journal.specs.Journal.{turned_outcome, turned_message}
use Rattle.agreement.specs.Evidence.{Honest}
use Rattle.agreement.specs.Moments.{now}
use Rattle.calls.specs.Machine.{Call, opening, delivery, turn, report, restore, recording, words}
use Rattle.agreement.proofs.laws.Worlds.{world}
use Rattle.agreement.specs.Journals.{journal}
use Rattle.agreement.specs.DemandThree.{Opened, Sent, Departed}
use Rattle.calls.specs.Engine.{engine, OpeningGiven, Agreed, Bytes, TurnLent, BitGiven, agreed, SendsBytes}
use Rattle.agreement_check.specs.Bits.{box_bit}
use Rattle.agreement_check.proofs.laws.Lists.{not_opened, not_departed, opened_later, opened_cases, Leaves, departed_before, departed_cases, DeliveryMeets, RecordingMeets}
use Rattle.agreement_check.specs.Checking.{Line, Entry, Gone, is_opened, words_of, lines_of, same_list, among, was_sent, sent_in, sent_by, same_session, opens, first_lines, delivery_lines, turn_lines, recording_lines, states_after, gone_after, restore_right, listed, opening_right, delivery_right, recording_right, call_right, step, run}
use Rattle.agreement_check.proofs.laws.Entries.{or_second, not_of_true, same_list_lem, same_session_lem, lines_none}
use Rattle.agreement_check.proofs.laws.Tracks.{words_here, journal_here, words_else, journal_else, size_next, opens_sized, opened_sized, Tracks, listed_honest, entry_next, line_next}
use Rattle.agreement_check.proofs.laws.Restores.{restore_next}
use Rattle.agreement_check.proofs.laws.Journals.{SentAt, Matches, AllMatch, sent_in_lem, sent_of, IsGone}
use Rattle.settings.specs.declared.refusal.Refusal.{Refusal}

-- each restore of a list finds 2,048 words
abbrev pub AllSized : List (Call engine) → Type 0
AllSized [] = Unit {0}
AllSized (opening p o ∷ cs) = AllSized cs
AllSized (delivery p m b ∷ cs) = AllSized cs
AllSized (turn p l ∷ cs) = AllSized cs
AllSized (report p r ∷ cs) = AllSized cs
AllSized (recording p y ∷ cs) = AllSized cs
AllSized (restore p v r ∷ cs) = (length v ≡ state_words) × AllSized cs

module _ (start : ℕ → List ℕ) (S : Agreed) (H : ℕ → Bool) (v : ℕ → ℕ) {cs : List (Call engine)} {xs : List Entry} {gs : List Gone} (x : Tracks start S H v cs xs gs) where
  -- ---- delivery

  module _ (p m : ℕ) (b : Bytes) (honest : Honest (world engine S H) p) where
    abbrev there : List ℕ
    there = words_of xs p

    credited : not (is_opened xs p) || delivery_right S H v (engine.accepts there m b) m b.list (lines_of xs m) ≡ true → DeliveryMeets engine start S H v p m b cs
    unfolding delivery_right was_sent
    credited e = record { credited = λ o a h. go (is_opened xs p) refl o a h }
      where
        no_line : was_sent [] b.list ≡ true → ⊥
        no_line f = false≢true f

        sent : (k : Bool) → is_opened xs m ≡ k → was_sent (lines_of xs m) b.list ≡ true → Sent engine start cs m b
        sent true k f = sent_of start m cs b (sent_in_lem start m b (lines_of xs m) (journal engine start cs m) (x.lines m k) f)
        sent false k f = absurd (no_line (subst (λ (ls : List Line). was_sent ls b.list ≡ true) (lines_none xs m k) f))

        go : (k : Bool) → is_opened xs p ≡ k → Opened engine start cs p → engine.accepts (words engine start cs p) m b ≡ true → Honest (world engine S H) m → Sent engine start cs m b
        go false k o a h = absurd (x.none p k o)
        go true k o a h =
            let taken : engine.accepts there m b ≡ true = rw (x.equal p k) at a in
            let e1 = or_second (not (is_opened xs p)) _ e (not_of_true (is_opened xs p) k) in
            let e2 = or_second (not (engine.accepts there m b)) _ e1 (not_of_true _ taken) in
            sent (is_opened xs m) refl (or_second (not (H m)) (was_sent (lines_of xs m) b.list) e2 (not_of_true (H m) h.fair))

    after_delivery : is_opened xs p ≡ true → engine.accepts there m b ≡ true → Matches start p (record { text = engine.delivery_line_lem m b; after = engine.delivered there m b; sent = [] }) (delivery p m b ∷ cs)
    unfolding among
    after_delivery k t =
        record {
          text = refl;
          leaves = words_here start (delivery p m b) cs ∙ ap (λ (w : List ℕ). engine.delivered w m b) (x.equal p k);
          size = size_next start (delivery p m b) cs tt p (x.size p honest);
          sent = λ a f. absurd (false≢true f);
        }

    delivery_gone : (k : ℕ) (a : Bytes) → Departed engine start (delivery p m b ∷ cs) k a → IsGone (gone_after (delivery p m b) xs gs) k a.list
    unfolding gone_after
    delivery_gone k a d = at (departed_cases engine start d)
      where
        older : (t : Bool) → IsGone gs k a.list → IsGone (cond t (record { from = m; bytes = b.list } ∷ gs) gs) k a.list
        older true h = inr h
        older false h = h

        newest : (t : Bool) → is_opened xs p ≡ t → Leaves engine start cs p m b k a → IsGone (cond (t && engine.accepts there m b) (record { from = m; bytes = b.list } ∷ gs) gs) k a.list
        newest false e y = absurd (x.none p e y.opened)
        newest true e y =
            let t : engine.accepts there m b ≡ true = rw (x.equal p e) at y.accepted in
            rw t (inl (y.from, ap (λ (z : Bytes). z.list) y.bytes))

        at : Leaves engine start cs p m b k a ⊎ Departed engine start cs k a → IsGone (cond (is_opened xs p && engine.accepts there m b) (record { from = m; bytes = b.list } ∷ gs) gs) k a.list
        at (inl y) = newest (is_opened xs p) refl y
        at (inr y) = older (is_opened xs p && engine.accepts there m b) (x.gone k a y)

    delivery_next : DeliveryMeets engine start S H v p m b cs → Tracks start S H v (delivery p m b ∷ cs) (states_after (delivery p m b) xs) (gone_after (delivery p m b) xs gs)
    unfolding states_after delivery_lines
    delivery_next meets =
        entry_next start S H v x (delivery p m b) (engine.delivered there m b) (delivery_lines m b there (lines_of xs p)) (gone_after (delivery p m b) xs gs) tt
        (λ q h. size_next start (delivery p m b) cs tt q (x.size q h))
        (λ k. words_here start (delivery p m b) cs ∙ ap (λ (w : List ℕ). engine.delivered w m b) (x.equal p k))
        (λ k. rw (journal_here start (delivery p m b) cs, x.equal p k) (line_next start S H v x p (delivery p m b ∷ cs) _ (lines_of xs p) (journal engine start cs p) (engine.accepts there m b) (after_delivery k) (x.lines p k)))
        delivery_gone (honest, meets, x.meet)

  -- ---- turn

  module _ (p : ℕ) (l : TurnLent) (honest : Honest (world engine S H) p) where
    abbrev before : List ℕ
    before = words_of xs p

    after_turn : is_opened xs p ≡ true → engine.acts before l ≡ true → Matches start p (record { text = engine.turn_line_lem; after = engine.turned before l; sent = sent_by before l }) (turn p l ∷ cs)
    unfolding sent_by sent_in among
    after_turn k t =
        record {
          text = refl;
          leaves = words_here start (turn p l) cs ∙ ap (λ (w : List ℕ). engine.turned w l) (x.equal p k);
          size = size_next start (turn p l) cs tt p (x.size p honest);
          sent = λ b f. by b (turned_outcome before (length l.message) l.line) refl f;
        }
      where
        out : List ℕ
        out = turned_message before l.message l.line

        one : (b : Bytes) (m : Message) → turned_outcome before (length l.message) l.line ≡ Ok (outcome.Sent m) → (t : Bool) → same_list (take (length_of m) out) b.list ≡ t → t || false ≡ true → SentAt start p (turn p l ∷ cs) b
        one b m e true f g =
            let sends : SendsBytes before l b = record { message = m; outcome = e; bytes = sym (same_list_lem _ b.list f) } in
            record { lent = l; past = cs; is = refl; opened = x.some p k; sends = rw (x.equal p k) sends }
        one b m e false f g = absurd (false≢true g)

        by : (b : Bytes) (u : Result Outcome Refusal) → turned_outcome before (length l.message) l.line ≡ u → among (sent_in u out) b.list ≡ true → SentAt start p (turn p l ∷ cs) b
        by b (Err j) e f = absurd (false≢true f)
        by b (Ok outcome.Idle) e f = absurd (false≢true f)
        by b (Ok (outcome.Sent m)) e f = one b m e (same_list (take (length_of m) out) b.list) refl f
        by b (Ok outcome.MovedOut) e f = absurd (false≢true f)
        by b (Ok outcome.InForce) e f = absurd (false≢true f)

    turn_next : Tracks start S H v (turn p l ∷ cs) (states_after (turn p l) xs) gs
    unfolding states_after turn_lines
    turn_next =
        entry_next start S H v x (turn p l) (engine.turned before l) (turn_lines l before (lines_of xs p)) gs tt
        (λ q h. size_next start (turn p l) cs tt q (x.size q h))
        (λ k. words_here start (turn p l) cs ∙ ap (λ (w : List ℕ). engine.turned w l) (x.equal p k))
        (λ k. rw (journal_here start (turn p l) cs, x.equal p k) (line_next start S H v x p (turn p l ∷ cs) _ (lines_of xs p) (journal engine start cs p) (engine.acts before l) (after_turn k) (x.lines p k)))
        (λ m b d. x.gone m b (departed_before engine start tt d)) (honest, tt, x.meet)

  -- ---- recording

  module _ (p : ℕ) (y : BitGiven) (honest : Honest (world engine S H) p) where
    abbrev known : List ℕ
    known = words_of xs p

    agreeing : not (is_opened xs p) || recording_right S H v (engine.records known y) y ≡ true → RecordingMeets engine start S H v p y cs
    unfolding recording_right
    agreeing e = record { told = λ o a. go (is_opened xs p) refl o a }
      where
        go : (k : Bool) → is_opened xs p ≡ k → Opened engine start cs p → engine.records (words engine start cs p) y ≡ true → y.bit ≡ box_bit y.vote y.round
        go false k o a = absurd (x.none p k o)
        go true k o a =
            let taken : engine.records known y ≡ true = rw (x.equal p k) at a in
            let e1 = or_second (not (is_opened xs p)) _ e (not_of_true (is_opened xs p) k) in
            eqb-true y.bit _ (or_second (not (engine.records known y)) _ e1 (not_of_true _ taken))

    after_recording : is_opened xs p ≡ true → engine.records known y ≡ true → Matches start p (record { text = engine.recording_line_lem y; after = engine.recorded known y; sent = [] }) (recording p y ∷ cs)
    unfolding among
    after_recording k t =
        record {
          text = refl;
          leaves = words_here start (recording p y) cs ∙ ap (λ (w : List ℕ). engine.recorded w y) (x.equal p k);
          size = size_next start (recording p y) cs tt p (x.size p honest);
          sent = λ b f. absurd (false≢true f);
        }

    recording_next : RecordingMeets engine start S H v p y cs → Tracks start S H v (recording p y ∷ cs) (states_after (recording p y) xs) gs
    unfolding states_after recording_lines
    recording_next meets =
        entry_next start S H v x (recording p y) (engine.recorded known y) (recording_lines y known (lines_of xs p)) gs tt
        (λ q h. size_next start (recording p y) cs tt q (x.size q h))
        (λ k. words_here start (recording p y) cs ∙ ap (λ (w : List ℕ). engine.recorded w y) (x.equal p k))
        (λ k. rw (journal_here start (recording p y) cs, x.equal p k) (line_next start S H v x p (recording p y ∷ cs) _ (lines_of xs p) (journal engine start cs p) (engine.records known y) (after_recording k) (x.lines p k)))
        (λ m b d. x.gone m b (departed_before engine start tt d)) (honest, meets, x.meet)

  -- ---- opening

  module _ (p : ℕ) (o : OpeningGiven) (honest : Honest (world engine S H) p) where
    -- whether the opening is accepted depends on its arguments alone
    answered : engine.opens (words engine start cs p) o ≡ opens o
    answered = opens_sized start (words engine start cs p) o (x.size p honest)

    -- the words of p after it
    leaves : words engine start (opening p o ∷ cs) p ≡ cond (opens o) (open_words o.given) (words engine start cs p)
    leaves = words_here start (opening p o) cs ∙ opened_sized start (words engine start cs p) o (x.size p honest)

    -- its journal
    written : journal engine start (opening p o ∷ cs) p ≡ cond (opens o) ((opening p o ∷ cs) ∷ []) (journal engine start cs p)
    written = journal_here start (opening p o) cs ∙ ap (λ (b : Bool). cond b ((opening p o ∷ cs) ∷ []) (journal engine start cs p)) answered

    -- refused: nothing changes
    refused_next : opens o ≡ false → Tracks start S H v (opening p o ∷ cs) xs gs
    refused_next f =
        record {
          size = λ q h. size_next start (opening p o) cs tt q (x.size q h);
          none = λ q k u. not_new q k (opened_cases engine start u);
          some = λ q k. opened_later engine start (opening p o) (x.some q k);
          equal = λ q k. same q (eqb q p) refl ∙ x.equal q k;
          lines = λ q k. rw (same_lines q (eqb q p) refl) (x.lines q k);
          gone = λ m b d. x.gone m b (departed_before engine start tt d);
          meet = (honest, record { agree = λ e t. absurd (no_opening t); once = λ u. answered ∙ f; put_in = λ e t. absurd (no_opening t) }, x.meet);
        }
      where
        no_opening : engine.opens (words engine start cs p) o ≡ true → ⊥
        no_opening t = false≢true (sym f ∙ sym answered ∙ t)

        not_new : (q : ℕ) → is_opened xs q ≡ false → ((q ≡ p) × (o.given.own ≡ p) × (engine.opens (words engine start cs p) o ≡ true)) ⊎ Opened engine start cs q → ⊥
        not_new q k (inl u) = no_opening u.2
        not_new q k (inr u) = x.none q k u

        same : (q : ℕ) (b : Bool) → eqb q p ≡ b → words engine start (opening p o ∷ cs) q ≡ words engine start cs q
        same q true e = rw (eqb-true q p e) (leaves ∙ ap (λ (t : Bool). cond t (open_words o.given) (words engine start cs p)) f)
        same q false e = words_else start (opening p o) cs q e

        same_lines : (q : ℕ) (b : Bool) → eqb q p ≡ b → journal engine start (opening p o ∷ cs) q ≡ journal engine start cs q
        same_lines q true e = rw (eqb-true q p e) (written ∙ ap (λ (t : Bool). cond t ((opening p o ∷ cs) ∷ []) (journal engine start cs p)) f)
        same_lines q false e = journal_else start (opening p o) cs q e

    -- under another number, before the own one: what it leaves there counts for nothing
    foreign_next : is_opened xs p ≡ false → (o.given.own ≡ p → ⊥) → Tracks start S H v (opening p o ∷ cs) xs gs
    foreign_next none foreign =
        record {
          size = λ q h. size_next start (opening p o) cs tt q (x.size q h);
          none = λ q k u. not_new q k (opened_cases engine start u);
          some = λ q k. opened_later engine start (opening p o) (x.some q k);
          equal = λ q k. words_else start (opening p o) cs q (elsewhere q k (eqb q p) refl) ∙ x.equal q k;
          lines = λ q k. rw (journal_else start (opening p o) cs q (elsewhere q k (eqb q p) refl)) (x.lines q k);
          gone = λ m b d. x.gone m b (departed_before engine start tt d);
          meet = (honest, record { agree = λ e t. absurd (foreign e); once = λ u. absurd (x.none p none u); put_in = λ e t. absurd (foreign e) }, x.meet);
        }
      where
        not_new : (q : ℕ) → is_opened xs q ≡ false → ((q ≡ p) × (o.given.own ≡ p) × (engine.opens (words engine start cs p) o ≡ true)) ⊎ Opened engine start cs q → ⊥
        not_new q k (inl u) = foreign u.1
        not_new q k (inr u) = x.none q k u

        elsewhere : (q : ℕ) → is_opened xs q ≡ true → (b : Bool) → eqb q p ≡ b → eqb q p ≡ false
        elsewhere q k true e = absurd (false≢true (sym none ∙ ap (is_opened xs) (sym (eqb-true q p e)) ∙ k))
        elsewhere q k false e = e

    -- the first one there under the own number
    first_next : opens o ≡ true → is_opened xs p ≡ false → o.given.own ≡ p → agreed o.given ≡ S → o.given.input ≡ v p →
        Tracks start S H v (opening p o ∷ cs) (record { who = p; list = open_words o.given; lines = first_lines o } ∷ xs) gs
    unfolding is_opened words_of lines_of first_lines among
    first_next f none own agree put_in =
        record {
          size = λ q h. size_next start (opening p o) cs tt q (x.size q h);
          none = λ q k u. not_other q (eqb q p) refl k (opened_cases engine start u);
          some = λ q k. opened_there q (eqb q p) refl k;
          equal = λ q k. words_there q (eqb q p) refl k;
          lines = λ q k. lines_there q (eqb q p) refl k;
          gone = λ m b d. x.gone m b (departed_before engine start tt d);
          meet = (honest, record { agree = λ e t. agree; once = λ u. absurd (x.none p none u); put_in = λ e t. put_in }, x.meet);
        }
      where
        not_other : (q : ℕ) (b : Bool) → eqb q p ≡ b → cond b true (is_opened xs q) ≡ false →
            ((q ≡ p) × (o.given.own ≡ p) × (engine.opens (words engine start cs p) o ≡ true)) ⊎ Opened engine start cs q → ⊥
        not_other q true e k u = false≢true (sym k)
        not_other q false e k (inl u) = eqb-false q p e u.0
        not_other q false e k (inr u) = x.none q k u

        here : Opened engine start (opening p o ∷ cs) p
        here = record { given = o; past = cs; within = now; numbered = own; accepted = answered ∙ f }

        opened_there : (q : ℕ) (b : Bool) → eqb q p ≡ b → cond b true (is_opened xs q) ≡ true → Opened engine start (opening p o ∷ cs) q
        opened_there q true e k = rw (eqb-true q p e) here
        opened_there q false e k = opened_later engine start (opening p o) (x.some q k)

        first_words : words engine start (opening p o ∷ cs) p ≡ open_words o.given
        first_words = leaves ∙ ap (λ (t : Bool). cond t (open_words o.given) (words engine start cs p)) f

        first_journal : journal engine start (opening p o ∷ cs) p ≡ (opening p o ∷ cs) ∷ []
        first_journal = written ∙ ap (λ (t : Bool). cond t ((opening p o ∷ cs) ∷ []) (journal engine start cs p)) f

        first_matches : AllMatch start p (record { text = engine.opening_line_lem o; after = open_words o.given; sent = [] } ∷ []) ((opening p o ∷ cs) ∷ [])
        first_matches = (record { text = refl; leaves = first_words; size = size_next start (opening p o) cs tt p (x.size p honest); sent = λ b e. absurd (false≢true e) }, tt)

        words_there : (q : ℕ) (b : Bool) → eqb q p ≡ b → cond b true (is_opened xs q) ≡ true → words engine start (opening p o ∷ cs) q ≡ cond b (open_words o.given) (words_of xs q)
        words_there q true e k = rw (eqb-true q p e) first_words
        words_there q false e k = words_else start (opening p o) cs q e ∙ x.equal q k

        lines_there : (q : ℕ) (b : Bool) → eqb q p ≡ b → cond b true (is_opened xs q) ≡ true →
            AllMatch start q (cond b (record { text = engine.opening_line_lem o; after = open_words o.given; sent = [] } ∷ []) (lines_of xs q)) (journal engine start (opening p o ∷ cs) q)
        lines_there q true e k = rw (eqb-true q p e, first_journal) first_matches
        lines_there q false e k = rw (journal_else start (opening p o) cs q e) (x.lines q k)

    opening_next : opening_right S H v p o xs ≡ true → Tracks start S H v (opening p o ∷ cs) (states_after (opening p o) xs) gs
    unfolding opening_right states_after
    opening_next e = go (opens o) (eqb o.given.own p) refl refl e
      where
        own : Bool → Bool → Bool
        own b d = not b || not (is_opened xs p) && (not d || same_session (agreed o.given) S && eqb o.given.input (v p))

        go : (b d : Bool) → opens o ≡ b → eqb o.given.own p ≡ d → own b d ≡ true →
            Tracks start S H v (opening p o ∷ cs) (cond (b && d) (record { who = p; list = open_words o.given; lines = first_lines o } ∷ xs) xs) gs
        go false d f k e = refused_next f
        go true false f k e = foreign_next (not-true (is_opened xs p) (and_left (not (is_opened xs p)) _ e)) (eqb-false o.given.own p k)
        go true true f k e =
            let e1 = and_right (not (is_opened xs p)) _ e in
            first_next f
            (not-true (is_opened xs p) (and_left (not (is_opened xs p)) _ e))
            (eqb-true o.given.own p k)
            (same_session_lem (agreed o.given) S (and_left (same_session (agreed o.given) S) _ e1))
            (eqb-true o.given.input (v p) (and_right (same_session (agreed o.given) S) _ e1))

  -- ---- a call

  next : (c : Call engine) → AllSized (c ∷ cs) → call_right S H v c xs gs ≡ true → Tracks start S H v (c ∷ cs) (states_after c xs) (gone_after c xs gs)
  unfolding call_right gone_after states_after
  next (opening p o) s e =
      opening_next p o (listed_honest start S H v p (and_left (listed S H v p) _ e)) (and_right (listed S H v p) _ e)
  next (delivery p m b) s e =
      let h = listed_honest start S H v p (and_left (listed S H v p) _ e) in
      delivery_next p m b h (credited p m b h (and_right (listed S H v p) _ e))
  next (turn p l) s e = turn_next p l (listed_honest start S H v p e)
  next (report p r) s e =
      entry_next start S H v x (report p r) (words_of xs p) (lines_of xs p) gs tt (λ q h. size_next start (report p r) cs tt q (x.size q h))
      (λ k. words_here start (report p r) cs ∙ x.equal p k) (λ k. rw (journal_here start (report p r) cs) (x.lines p k))
      (λ m b d. x.gone m b (departed_before engine start tt d)) (listed_honest start S H v p e, tt, x.meet)
  next (recording p y) s e =
      let h = listed_honest start S H v p (and_left (listed S H v p) _ e) in
      recording_next p y h (agreeing p y h (and_right (listed S H v p) _ e))
  next (restore p u r) s e =
      let f = and_right (listed S H v p) _ e in
      let g = and_right (is_opened xs p) _ f in
      let right = restore_right r (lines_of xs p) in
      restore_next start S H v x p u r s.0 (and_left (is_opened xs p) _ f) (and_left right _ g)
      (listed_honest start S H v p (and_left (listed S H v p) _ e)) (and_right right _ g)

sized_tail : (c : Call engine) (cs : List (Call engine)) → AllSized (c ∷ cs) → AllSized cs
sized_tail (opening p o) cs s = s
sized_tail (delivery p m b) cs s = s
sized_tail (turn p l) cs s = s
sized_tail (report p r) cs s = s
sized_tail (recording p y) cs s = s
sized_tail (restore p u r) cs s = s.1

module _ (start : ℕ → List ℕ) (S : Agreed) (H : ℕ → Bool) (v : ℕ → ℕ) (room : (p : ℕ) → Honest (world engine S H) p → length (start p) ≡ state_words) where
  nothing_yet : Tracks start S H v [] [] []
  unfolding words is_opened
  nothing_yet =
      record {
        size = room;
        none = λ p k o. not_opened engine start o;
        some = λ p k. absurd (false≢true k);
        equal = λ p k. absurd (false≢true k);
        lines = λ p k. absurd (false≢true k);
        gone = λ m b d. absurd (not_departed engine start d);
        meet = tt;
      }

  pub run_tracks : (cs : List (Call engine)) → AllSized cs → (run S H v cs).right ≡ true → Tracks start S H v cs (run S H v cs).states (run S H v cs).gone
  unfolding run step
  run_tracks [] s e = nothing_yet
  run_tracks (c ∷ cs) s e =
      next start S H v (run_tracks cs (sized_tail c cs s) (and_left (run S H v cs).right _ e)) c s (and_right (run S H v cs).right _ e)
