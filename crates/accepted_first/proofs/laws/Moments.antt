-- The theorem of specs/AcceptedFirst.antt: the moments of a session by its calls, and by the lines of a journal.
use Rattle.std.specs.Prelude.{ℕ, zero, suc, ◌+◌, ◌≤◌, ◌^◌, Bool, ◌&&◌, refl, leb, ltb, get_or, Option, Some, None, Ok, Result, Err}
use Rattle.std.proofs.Math.Bool.{true, false, cond}
use Rattle.std.proofs.lemmas.Bool.{false≢true}
use mathlib.Core.List.{List, [], ◌∷◌}
use Rattle.std.proofs.Math.Path.{◌≡◌, ap}
use Rattle.std.proofs.Common.{sym, subst, ◌∙◌, arith}
use Rattle.std.proofs.Math.Dec.{eqb}
use Rattle.std.proofs.Math.ListN.{length}
use borrow.Author.Tests.{lt-leb}
use Rattle.quorum.specs.Marks.{mark}
use Rattle.quorum.specs.laws.Marks.{mark_zero}
use Rattle.quorum.specs.Weights.{weight_of}
use Rattle.quorum.specs.laws.Total.{total_none}
use Rattle.settings.specs.Settings.{accept, round_limit}
use Rattle.settings.specs.Rules.{Ruled}
use Rattle.settings.specs.declared.Settings.{Settings}
use Rattle.records.specs.Layout.{vote_at, est_mark, one_first_at}
use Rattle.records.specs.Words.{marked, blank}
use Rattle.records.specs.laws.Fill.{length_blank}
use Rattle.records.specs.Records.{est_held, one_first, coin}
use Rattle.votes.specs.Votes.{est_count, accepted, estimate}
use Rattle.votes.specs.laws.Told.{AuxTold}
use Rattle.session.specs.Session.{settings_of}
use Rattle.opening.specs.Arguments.{Arguments}
use Rattle.opening.specs.Opening.{open_answer, open_words, opened}
use Rattle.opening.specs.laws.Opening.{first_zero}
use Rattle.delivery.specs.Delivery.{deliver_answer, delivered}
use Rattle.recording.specs.Recording.{record_answer, recorded_words}
use Rattle.acts.specs.declared.Act.{Act}
use Rattle.acts.specs.declared.Act.TheVariants as act
use Rattle.wire.specs.declared.Message.TheVariants as message
use Rattle.turn.specs.Due.{due}
use Rattle.turn.specs.Turn.{move_outcome, outcome_of, turn_outcome, turn_words}
use Rattle.turn.specs.laws.Told.{ActTold}
use Rattle.turn.specs.laws.Admitting.{admitted_settings, admitted_ruled}
use Rattle.turn.specs.laws.Turn.{Way, refused, taken, way, same_outcome}
use Rattle.turn.specs.declared.Outcome.{Outcome}
use Rattle.turn.specs.declared.Outcome.TheVariants.{Sent, MovedOut}
use Rattle.text.specs.Fields.{fields, letter}
use Rattle.text.specs.Numbers.{DECIMAL, value_of, values_of}
use Rattle.journal.specs.Lines.{recording_forms}
use Rattle.journal.specs.Journal.{acts, line_words, open_line_answer, opened_words, delivered_words, record_words, turn_room, turned_words}
use Rattle.restore.specs.Complete.{lines_of, joined}
use Rattle.restore.specs.Reading.{proper, all_proper, field_at, forms_for, arguments_from, hex_right, bytes_of}
use Rattle.restore.specs.Restoring.{Point, opened_from, opening_from, opening_read, first_of, first_line, delivered_from, turned_from, recorded_by, recorded_from, next_of, next_line, Replay, wrong, right, applied_or, further, replay_from, replay, replay_answer, replay_words, lent_answer, where_lent, restore_answer, restored_words}
use Rattle.restore.specs.Restoring as restoring
use Rattle.calls.specs.Machine.{Call, opening, delivery, turn, report, restore, recording, place, left, words, traced}
use Rattle.calls.specs.Engine.{engine}
use Rattle.turn_bound.specs.TurnBound.{same_words}
use Rattle.turn_bound.proofs.laws.Opened.{opened_new, opened_ruled}
use Rattle.turn_bound.proofs.laws.CallCount.{open_taken, open_refused, restore_refused, same_words_lem}
use Rattle.turn_bound.proofs.laws.Stepped.{some_if, words_of, wrong_stays}
use Rattle.accepted_first.specs.AcceptedFirst.{another, onward, after_lines, line_moments, moments_after, moments_at, alone, sometime, First, AcceptedFirst}
use Rattle.accepted_first.proofs.laws.Facts.{Facts, none_yet, facts_next}
use Rattle.accepted_first.proofs.laws.Facts as facts
use Rattle.accepted_first.proofs.laws.Stepping.{Onward, same_onward, turn_onward, recording_onward, delivery_onward}
use Rattle.std.specs.Result.{is_ok}
use Rattle.settings.specs.laws.Answers.{true_taken}
use Rattle.settings.specs.declared.refusal.Refusal.{Refusal}

-- what the moments of a session tell of round r of vote i, the newest being w, by the settings g
abbrev Told : Settings → ℕ → ℕ → List ℕ → List (List ℕ) → Type 0
Told g i r w us = Facts (accepted g w i r 0) (accepted g w i r 1) (one_first w i r) (sometime (alone g i r 0) (w ∷ us)) (sometime (alone g i r 1) (w ∷ us))

-- .. of every round of every vote
abbrev Past : List ℕ → List (List ℕ) → Type 0
Past w us = (i r : ℕ) → 1 ≤ i → i ≤ 16 → 1 ≤ r → r ≤ 32 → Told (settings_of w) i r w us

-- one moment later
past_next : (w t : List ℕ) (us : List (List ℕ)) → Past w us → Onward w t → Past t (w ∷ us)
unfolding sometime alone
past_next w t us h x i r lo hi rl rh =
    subst (λ (g : Settings). Facts (accepted g t i r 0) (accepted g t i r 1) (one_first t i r) (sometime (alone g i r 0) (t ∷ w ∷ us)) (sometime (alone g i r 1) (t ∷ w ∷ us))) (sym x.settings)
    (facts_next _ _ _ _ _ _ (h i r lo hi rl rh) (accepted (settings_of w) t i r 0) (accepted (settings_of w) t i r 1) (x.changes i r lo hi rl rh))

-- ---- an opening

module _ (o : Arguments) (few : o.n ≤ 16) (i r : ℕ) (lo : 1 ≤ i) where
  none_held : (b p : ℕ) → est_held (open_words o) i r b p ≡ false
  unfolding est_held marked
  none_held b p = ap (λ (x : ℕ). mark x (est_mark b p)) (first_zero o few (vote_at i r) (omega arith) (λ z. omega arith)) ∙ mark_zero (est_mark b p)

  none_accepted : (g : Settings) (b : ℕ) → accepted g (open_words o) i r b ≡ false
  unfolding accepted est_count accept
  none_accepted g b =
      lt-leb (accept g) (est_count g (open_words o) i r b)
      (omega (arith, total_none (weight_of g.weights) (est_held (open_words o) i r b) g.n (λ p l h. none_held b p)))

  none_first : one_first (open_words o) i r ≡ false
  unfolding one_first marked
  none_first = ap (λ (x : ℕ). mark x r) (first_zero o few (one_first_at i) (omega arith) (λ z. omega arith)) ∙ mark_zero r

new_past : (o : Arguments) → o.n ≤ 16 → Past (open_words o) []
unfolding sometime alone
new_past o few i r lo hi rl rh =
    let g = settings_of (open_words o) in
    rw (none_accepted o few i r lo g 0, none_accepted o few i r lo g 1, none_first o few i r lo) none_yet

-- ---- moments of a session, and the words v of the buffer

abbrev Standing : List ℕ → List (List ℕ) → Type 0
Standing v [] = Unit {0}
Standing v (w ∷ us) = (v ≡ w) × Past w us

opened_standing : (w : List ℕ) (o : Arguments) → open_answer (length w) o ≡ Ok tt → Standing (opened w o) (opened w o ∷ [])
opened_standing w o e = (refl, subst (λ (t : List ℕ). Past t []) (sym (opened_new w o e)) (new_past o (opened_ruled w o e).few))

next_standing : (v t : List ℕ) (us : List (List ℕ)) → Standing v us → Onward v t → Standing t (another t us)
next_standing v t [] h x = tt
next_standing v t (u ∷ us) h x = (refl, past_next u t us h.1 (subst (λ (y : List ℕ). Onward y t) h.0 x))

-- ---- the lines of a journal

-- the words of a point, on top of the moments before it
point_standing : (w : List ℕ) (us : List (List ℕ)) → Past w us → (x : Point) → Onward w x.words → Standing x.words (onward (Some x) (w ∷ us))
point_standing w us h x y = (refl, past_next w x.words us h y)

read_standing : (o : Arguments) (x : Point) → opened_from o ≡ Some x → Standing x.words (x.words ∷ [])
unfolding opened_from opened
read_standing o x e =
    let z : Point = record { words = open_words o; turned = None } in
    let t = some_if (is_ok (open_answer 2048 o)) (Some z) x e in
    let taken : open_answer (length (blank 2048)) o ≡ Ok tt = rw length_blank (true_taken _ t.0) in
    let words : opened (blank 2048) o ≡ x.words = rw (length_blank, t.0) (words_of z x t.1) in
    subst (λ (y : List ℕ). Standing y (y ∷ [])) words (opened_standing (blank 2048) o taken)

first_standing : (b : List ℕ) (x : Point) → first_line b ≡ Some x → Standing x.words (onward (Some x) [])
unfolding first_line first_of opening_read opening_from
first_standing b x e = of (fields b) e
  where
    numbers : (n : ℕ) (xs : List ℕ) → opening_from n xs ≡ Some x → Standing x.words (x.words ∷ [])
    numbers n xs e = read_standing (arguments_from n xs) x (some_if (ltb (get_or xs 5 0) (2 ^ 32)) (opened_from (arguments_from n xs)) x e).1

    read : (n : ℕ) (fs : List (List ℕ)) → opening_read n fs ≡ Some x → Standing x.words (x.words ∷ [])
    read n fs e =
        let xs = values_of (forms_for n (length fs)) fs in
        numbers n xs (some_if (leb n 16 && all_proper (forms_for n (length fs)) fs) (opening_from n xs) x e).1

    of : (fs : List (List ℕ)) → first_of fs ≡ Some x → Standing x.words (x.words ∷ [])
    of [] e = absurd (let z : ◌≡◌ {A = ℕ} 0 1 = cc in omega arith)
    of (f ∷ fs) e = read (value_of DECIMAL (field_at fs 1)) fs (some_if (eqb (letter f) 79) (opening_read (value_of DECIMAL (field_at fs 1)) fs) x e).1

-- a further line is a call
module _ (w : List ℕ) (y : Point) where
  delivered_onward : (fs : List (List ℕ)) → delivered_from w fs ≡ Some y → Onward w y.words
  unfolding delivered_from
  delivered_onward [] e = absurd (let z : ◌≡◌ {A = ℕ} 0 1 = cc in omega arith)
  delivered_onward (l ∷ []) e = absurd (let z : ◌≡◌ {A = ℕ} 0 1 = cc in omega arith)
  delivered_onward (l ∷ b ∷ []) e =
      let z : Point = record { words = delivered w (value_of DECIMAL l) (bytes_of b); turned = None } in
      let t = some_if (proper DECIMAL l && (hex_right b && is_ok (deliver_answer w (value_of DECIMAL l) (bytes_of b)))) (Some z) y e in
      rw (words_of z y t.1) at (delivery_onward w (value_of DECIMAL l) (bytes_of b))
  delivered_onward (l ∷ b ∷ c ∷ fs) e = absurd (let z : ◌≡◌ {A = ℕ} 0 1 = cc in omega arith)

  turned_onward : (fs : List (List ℕ)) → turned_from w fs ≡ Some y → Onward w y.words
  unfolding turned_from
  turned_onward [] e =
      let z : Point = record { words = turn_words w 140; turned = Some w } in
      let t = some_if (acts (turn_outcome w 140)) (Some z) y e in
      let size : length (blank 140) ≡ 140 = length_blank 140 in
      rw (words_of z y t.1) at (rw size at (turn_onward w (blank 140)))
  turned_onward (f ∷ fs) e = absurd (let z : ◌≡◌ {A = ℕ} 0 1 = cc in omega arith)

  recorded_onward : (fs : List (List ℕ)) → recorded_from w fs ≡ Some y → Onward w y.words
  unfolding recorded_from recorded_by
  recorded_onward fs e =
      let xs = values_of recording_forms fs in
      let t = some_if (all_proper recording_forms fs) (recorded_by w xs) y e in
      let z : Point = record { words = recorded_words w (get_or xs 0 0) (get_or xs 1 0) (get_or xs 2 0); turned = None } in
      let q = some_if (is_ok (record_answer w (get_or xs 0 0) (get_or xs 1 0) (get_or xs 2 0))) (Some z) y t.1 in
      rw (words_of z y q.1) at (recording_onward w (get_or xs 0 0) (get_or xs 1 0) (get_or xs 2 0))

  line_onward : (b : List ℕ) → next_line w b ≡ Some y → Onward w y.words
  unfolding next_line next_of
  line_onward b e = of (fields b) e
    where
      letters : (fs : List (List ℕ)) (d c t : Bool) → cond d (delivered_from w fs) (cond c (recorded_from w fs) (cond t (turned_from w fs) None)) ≡ Some y → Onward w y.words
      letters fs true c t e = delivered_onward fs e
      letters fs false true t e = recorded_onward fs e
      letters fs false false true e = turned_onward fs e
      letters fs false false false e = absurd (let z : ◌≡◌ {A = ℕ} 0 1 = cc in omega arith)

      of : (fs : List (List ℕ)) → next_of w fs ≡ Some y → Onward w y.words
      of [] e = absurd (let z : ◌≡◌ {A = ℕ} 0 1 = cc in omega arith)
      of (f ∷ fs) e = letters fs (eqb (letter f) 68) (eqb (letter f) 75) (eqb (letter f) 84) e

further_standing : (j : ℕ) (y : Point) (us : List (List ℕ)) → Past y.words us → (bs : List (List ℕ)) (x : Point) → replay_from j (right y) bs ≡ right x → Standing x.words (after_lines (y.words ∷ us) bs)
unfolding replay_from further applied_or after_lines
further_standing j y us h [] x e =
    let same : x.words ≡ y.words = cc in
    (same, h)
further_standing j y us h (b ∷ bs) x e = of (next_line y.words b) refl e (λ z p. further_standing (j + 1) z (y.words ∷ us) p bs x)
  where
    of : (z : Option Point) → next_line y.words b ≡ z → replay_from (j + 1) (applied_or j z) bs ≡ right x →
        ((u : Point) → Past u.words (y.words ∷ us) → replay_from (j + 1) (right u) bs ≡ right x → Standing x.words (after_lines (u.words ∷ y.words ∷ us) bs)) →
        Standing x.words (after_lines (onward z (y.words ∷ us)) bs)
    of None f e again = absurd (let q : wrong j ≡ right x = sym (wrong_stays (j + 1) j bs) ∙ e in let z : ◌≡◌ {A = ℕ} 0 1 = cc in omega arith)
    of (Some z) f e again = again z (past_next y.words z.words us h (line_onward y.words z b f)) e

replay_standing : (ls : List (List ℕ)) (x : Point) → replay ls ≡ right x → Standing x.words (line_moments ls)
unfolding replay applied_or line_moments
replay_standing [] x e = absurd (let z : ◌≡◌ {A = ℕ} 0 1 = cc in omega arith)
replay_standing (b ∷ bs) x e = of (first_line b) refl e
  where
    of : (z : Option Point) → first_line b ≡ z → replay_from 2 (applied_or 1 z) bs ≡ right x → Standing x.words (after_lines (onward z []) bs)
    of None f e = absurd (let q : wrong 1 ≡ right x = sym (wrong_stays 2 1 bs) ∙ e in let z : ◌≡◌ {A = ℕ} 0 1 = cc in omega arith)
    of (Some z) f e = further_standing 2 z [] (first_standing b z f).1 bs x e

-- ---- calls

restore_standing : (v journal : List ℕ) (room : ℕ) → restoring.accepted (restore_answer v journal room) ≡ true → Standing (restored_words v journal room) (line_moments (lines_of journal))
unfolding restore_answer restored_words restoring.accepted replay_answer replay_words
restore_standing v journal room e = of (lent_answer (length v) room) (replay (lines_of journal)) refl e
  where
    of : (a : Result (Unit {0}) Refusal) (r : Replay) → replay (lines_of journal) ≡ r → restoring.accepted (where_lent a (replay_answer r (length (joined (lines_of journal))))) ≡ true → Standing (cond (is_ok a) (replay_words r v) v) (line_moments (lines_of journal))
    of (Err k) r f e = absurd (false≢true e)
    of (Ok tt) (wrong k) f e = absurd (false≢true e)
    of (Ok tt) (right x) f e = replay_standing (lines_of journal) x f

-- a call on the words w of a session
module _ (w : List ℕ) (us : List (List ℕ)) (h : Standing w us) where
  opening_standing : (o : Arguments) (room : ℕ) (b : Bool) → is_ok (open_line_answer (length w) o room) ≡ b → Standing (opened_words w o room) (cond b (opened_words w o room ∷ []) us)
  opening_standing o room true f =
      let t = open_taken w o room f in
      subst (λ (y : List ℕ). Standing y (y ∷ [])) (sym t.1) (opened_standing w o t.0)
  opening_standing o room false f = subst (λ (y : List ℕ). Standing y us) (sym (open_refused w o room f)) h

  delivery_standing : (link : ℕ) (b : List ℕ) (room : ℕ) → Standing (delivered_words w link b room) (another (delivered_words w link b room) us)
  unfolding delivered_words line_words
  delivery_standing link b room = next_standing w _ us h (of (ltb room 512))
    where
      of : (c : Bool) → Onward w (cond c w (delivered w link b))
      of true = same_onward w
      of false = delivery_onward w link b

  record_standing : (i r b room : ℕ) → Standing (record_words w i r b room) (another (record_words w i r b room) us)
  unfolding record_words line_words
  record_standing i r b room = next_standing w _ us h (of (ltb room 512))
    where
      of : (c : Bool) → Onward w (cond c w (recorded_words w i r b))
      of true = same_onward w
      of false = recording_onward w i r b

  turn_standing : (out : List ℕ) (room : ℕ) → Standing (turned_words w (length out) room) (another (turned_words w (length out) room) us)
  unfolding turn_room
  turn_standing out room = next_standing w _ us h (of (ltb room 512))
    where
      of : (c : Bool) → Onward w (turn_words w (cond c 0 (length out)))
      of true = turn_onward w []
      of false = turn_onward w out

  restored_standing : (v journal : List ℕ) (room : ℕ) (b : Bool) → restoring.accepted (restore_answer v journal room) ≡ b → Standing (restored_words v journal room) (cond b (line_moments (lines_of journal)) (cond (same_words v w) us []))
  restored_standing v journal room true f = restore_standing v journal room f
  restored_standing v journal room false f = subst (λ (y : List ℕ). Standing y (cond (same_words v w) us [])) (sym (restore_refused v journal room f)) (of (same_words v w) refl)
    where
      of : (b : Bool) → same_words v w ≡ b → Standing v (cond b us [])
      of true g = subst (λ (y : List ℕ). Standing y us) (sym (same_words_lem v w g)) h
      of false g = tt

  call_standing : (c : Call engine) → Standing (left engine c w) (moments_after c w us)
  call_standing (opening p o) = opening_standing o.given o.line _ refl
  call_standing (delivery p m b) = delivery_standing m b.list b.line
  call_standing (turn p l) = turn_standing l.message l.line
  call_standing (report p r) = h
  call_standing (restore p v r) = restored_standing v r.journal (length r.message) _ refl
  call_standing (recording p x) = record_standing x.vote x.round x.bit x.line

module _ (start : ℕ → List ℕ) where
  calls_standing : (cs : List (Call engine)) (q : ℕ) → Standing (words engine start cs q) (moments_at start cs q)
  unfolding moments_at words traced
  calls_standing [] q = tt
  calls_standing (c ∷ cs) q = of (eqb q (place engine c)) (calls_standing cs q)
    where
      of : (b : Bool) → Standing (words engine start cs q) (moments_at start cs q) →
          Standing (cond b (left engine c (words engine start cs q)) (words engine start cs q)) (cond b (moments_after c (words engine start cs q) (moments_at start cs q)) (moments_at start cs q))
      of true h = call_standing (words engine start cs q) (moments_at start cs q) h c
      of false h = h

-- ---- the AUX that a turn sends

-- an outcome that is an AUX is that of its act
aux_act_lem : (own : ℕ) (w : List ℕ) (a : Act) (i r b : ℕ) → outcome_of own w a ≡ Sent (message.Aux i r b) → a ≡ act.Aux i r b
unfolding outcome_of move_outcome
aux_act_lem own w act.Idle i r b e = absurd (let z : ◌≡◌ {A = ℕ} 0 1 = cc in omega arith)
aux_act_lem own w act.InForce i r b e = absurd (let z : ◌≡◌ {A = ℕ} 0 1 = cc in omega arith)
aux_act_lem own w (act.Commit k) i r b e = absurd (let z : ◌≡◌ {A = ℕ} 0 1 = cc in omega arith)
aux_act_lem own w (act.Send v) i r b e = absurd (let z : ◌≡◌ {A = ℕ} 0 1 = cc in omega arith)
aux_act_lem own w (act.Echo j v) i r b e = absurd (let z : ◌≡◌ {A = ℕ} 0 1 = cc in omega arith)
aux_act_lem own w (act.Ready j v) i r b e = absurd (let z : ◌≡◌ {A = ℕ} 0 1 = cc in omega arith)
aux_act_lem own w (act.Start j c) i r b e = absurd (let z : ◌≡◌ {A = ℕ} 0 1 = cc in omega arith)
aux_act_lem own w (act.Relay j q c) i r b e = absurd (let z : ◌≡◌ {A = ℕ} 0 1 = cc in omega arith)
aux_act_lem own w (act.Aux j q c) i r b e = cc
aux_act_lem own w (act.Finish j c) i r b e = absurd (let z : ◌≡◌ {A = ℕ} 0 1 = cc in omega arith)
aux_act_lem own w (act.Move j q v) i r b e = of (ltb q round_limit) e
  where
    of : (t : Bool) → cond t (Sent (message.Est j (q + 1) (estimate (coin w j q) v))) MovedOut ≡ Sent (message.Aux i r b) → act.Move j q v ≡ act.Aux i r b
    of true f = absurd (let z : ◌≡◌ {A = ℕ} 0 1 = cc in omega arith)
    of false f = absurd (let z : ◌≡◌ {A = ℕ} 0 1 = cc in omega arith)

module _ (w : List ℕ) (us : List (List ℕ)) (h : Past w us) (i r : ℕ) where
  -- an AUX that is due carries the value that was accepted first
  told_first : (b : ℕ) → 1 ≤ i → i ≤ 16 → AuxTold (settings_of w) w i r b → First (settings_of w) (w ∷ us) i r b
  told_first zero lo hi x =
      let t = facts.zero_first _ _ _ _ _ (h i r lo hi x.low x.high) x.is_accepted (x.zero_first refl) in
      record { bit = x.bit; before = t.0; never = t.1 }
  told_first (suc zero) lo hi x =
      let t = facts.one_first_lem _ _ _ _ _ (h i r lo hi x.low x.high) x.is_accepted (x.one_first_lem refl) in
      record { bit = x.bit; before = t.0; never = t.1 }
  told_first (suc (suc b)) lo hi x = absurd (omega (arith, x.bit))

  due_first : (b : ℕ) → Ruled (settings_of w) → (a : Act) → ActTold (settings_of w) w a → a ≡ act.Aux i r b → First (settings_of w) (w ∷ us) i r b
  due_first b ruled a t e =
      let y : ActTold (settings_of w) w (act.Aux i r b) = subst (ActTold (settings_of w) w) e t in
      told_first b y.0.low (omega (arith, y.0.high, ruled.few)) y.1

  sent_first : (b : ℕ) (out : List ℕ) → turn_outcome w (length out) ≡ Ok (Sent (message.Aux i r b)) → First (settings_of w) (w ∷ us) i r b
  sent_first b out e = of (way w out)
    where
      of : Way w out → First (settings_of w) (w ∷ us) i r b
      of (refused k x) = absurd (let q : ◌≡◌ {A = Result Outcome Refusal} (Err k) (Ok (Sent (message.Aux i r b))) = sym x.answer ∙ e in let z : ◌≡◌ {A = ℕ} 0 1 = cc in omega arith)
      of (taken x t) =
          let s : x.settings ≡ settings_of w = admitted_settings w (length out) x t.admits in
          let told : ActTold (settings_of w) w (due (settings_of w) w) = subst (λ (g : Settings). ActTold g w (due g w)) s t.told in
          let is : due (settings_of w) w ≡ act.Aux i r b = subst (λ (g : Settings). due g w ≡ act.Aux i r b) s (aux_act_lem x.own w (due x.settings w) i r b (same_outcome _ _ (sym t.answer ∙ e))) in
          due_first b (subst Ruled s (admitted_ruled w (length out) x t.admits)) (due (settings_of w) w) told is

pub accepted_first_lem : AcceptedFirst
unfolding AcceptedFirst
accepted_first_lem start cs q w us e =
    let h : Standing (words engine start cs q) (w ∷ us) = subst (Standing (words engine start cs q)) e (calls_standing start cs q) in
    record {
      current = h.0;
      first = λ room line i r b f. sent_first w us h.1 i r b (blank (turn_room room line)) (subst (λ (k : ℕ). turn_outcome w k ≡ Ok (Sent (message.Aux i r b))) (sym (length_blank (turn_room room line))) f);
    }
