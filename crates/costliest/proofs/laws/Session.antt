-- Along the calls of the session, which are deliveries and turns, the session that was opened goes on.
use Rattle.std.specs.Prelude.{ℕ, zero, suc, ◌+◌, Bool, cond, ◌≡◌, eqb, length, Option, Some, Ok}
use Rattle.std.proofs.Math.Bool.{true, false}
use mathlib.Core.List.{List, [], ◌∷◌, ◌++◌}
use Rattle.std.proofs.Math.Path.{sym, ap}
use Rattle.std.proofs.Common.{◌∙◌, arith}
use Rattle.settings.specs.laws.Answers.{taken_true}
use Rattle.records.specs.Layout.{turns_at}
use Rattle.records.specs.Words.{word}
use Rattle.opening.specs.Arguments.{Arguments}
use Rattle.opening.specs.Opening.{open_answer, opened}
use Rattle.journal.specs.Journal.{LINE_BYTES, open_line_answer, opened_words}
use Rattle.journal.specs.laws.Journal.{line_answer_lem, line_words_lem}
use Rattle.wire.specs.declared.Message.{Message}
use Rattle.wire.specs.declared.Message.TheVariants.{Send, Echo, Ready, Commit}
use Rattle.calls.specs.Machine.{Call, opening, delivery, turn, report, restore, recording, place, words, traced}
use Rattle.calls.specs.Engine.{engine}
use Rattle.calls.specs.Given.{opening_of}
use Rattle.turn_bound.specs.TurnBound.{Terms, terms_by, Begun, one_more, session_after, session_at}
use Rattle.turn_bound.proofs.laws.CallCount.{calls_going}
use Rattle.costliest.specs.Calls.{Calls, opens, each, say, turns, sends, readies, ests, auxs, commit, heard, acted, costly, five, costliest_calls}
use Rattle.costliest.specs.Statement.{whole_session, Takes}
use Rattle.costliest.proofs.laws.Bytes.{opening_low}
use Rattle.costliest.proofs.laws.Words.{after, after_on}

-- ---- deliveries and turns

abbrev Plain : Call engine → Type 0
Plain (opening p o) = ⊥
Plain (delivery p m b) = Unit {0}
Plain (turn p l) = Unit {0}
Plain (report p r) = ⊥
Plain (restore p v r) = ⊥
Plain (recording p b) = ⊥

abbrev AllPlain : Calls → Type 0
AllPlain [] = Unit {0}
AllPlain (c ∷ cs) = Plain c × AllPlain cs

-- f puts such calls on top
abbrev Adds : (Calls → Calls) → Type 0
Adds f = (cs : Calls) → AllPlain cs → AllPlain (f cs)

each_adds : (f : ℕ → Calls → Calls) → ((i : ℕ) → Adds (f i)) → (n : ℕ) → Adds (each f n)
unfolding each
each_adds f h zero cs x = x
each_adds f h (suc n) cs x = h (suc n) (each f n cs) (each_adds f h n cs x)

say_adds : (p : ℕ) (m : Message) → Adds (say p m)
unfolding say
say_adds p m cs x = (tt, x)

turns_adds : (k : ℕ) → Adds (turns k)
unfolding turns
turns_adds k = each_adds _ (λ j cs x. (tt, x)) k

commit_adds : (n p : ℕ) → Adds (commit n p)
unfolding commit
commit_adds n p = say_adds p (Commit n)

heard_plain : (n : ℕ) → AllPlain (heard n)
unfolding heard sends readies ests auxs say
heard_plain n =
    commit_adds n 1 _
    (each_adds _ (λ i. each_adds _ (λ r. each_adds _ (λ p cs x. (tt, x)) n) 32) n _
    (each_adds _ (λ i. each_adds _ (λ r cs x. (tt, (tt, x))) 32) n _
    (each_adds _ (λ i. each_adds _ (λ p cs x. (tt, x)) n) n _
    (each_adds _ (λ i cs x. (tt, x)) n [] tt))))

calls_plain : (n : ℕ) → AllPlain (costliest_calls n)
unfolding costliest_calls costly acted five
calls_plain n = of (eqb n 1)
  where
    many : AllPlain (costly n)
    many = turns_adds 1 _ (each_adds _ (λ p. commit_adds n (p + 1)) _ _ (turns_adds _ (heard n) (heard_plain n)))

    one : AllPlain five
    one =
        turns_adds 1 _ (commit_adds 1 1 _ (turns_adds 1 _ (say_adds 1 (Ready 1 5) _ (turns_adds 1 _ (say_adds 1 (Echo 1 5) _ (turns_adds 1 _ (say_adds 1 (Send 1 5) _ (turns_adds 1 [] tt))))))))

    of : (b : Bool) → AllPlain (cond b five (costly n))
    of true = one
    of false = many

-- ---- the session goes on

module _ (start : ℕ → List ℕ) (q : ℕ) (g : Terms) where
  -- of these terms
  record GoesOn (x : Option Begun) : Type 0 where
    turns : ℕ
    same : x ≡ Some (record { terms = g; turns = turns })

  call_goes : (c : Call engine) → Plain c → (w : List ℕ) (x : Option Begun) → GoesOn x → GoesOn (session_after c w x)
  call_goes (opening p o) h w x y = absurd h
  call_goes (delivery p m b) h w x y = y
  call_goes (turn p l) h w x y = of (engine.acts w l)
    where
      of : (b : Bool) → GoesOn (cond b (one_more x) x)
      of true = record { turns = y.turns + 1; same = ap one_more y.same }
      of false = y
  call_goes (report p r) h w x y = absurd h
  call_goes (restore p v r) h w x y = absurd h
  call_goes (recording p b) h w x y = absurd h

  calls_go : (ds : Calls) → GoesOn (session_at start ds q) → (cs : Calls) → AllPlain cs → GoesOn (session_at start (cs ++ ds) q)
  unfolding session_at traced
  calls_go ds y [] h = y
  calls_go ds y (c ∷ cs) h = of (eqb q (place engine c)) (calls_go ds y cs h.1)
    where
      of : (b : Bool) → GoesOn (session_at start (cs ++ ds) q) → GoesOn (cond b (session_after c (words engine start (cs ++ ds) q) (session_at start (cs ++ ds) q)) (session_at start (cs ++ ds) q))
      of true z = call_goes c h.0 _ _ z
      of false z = z

-- ---- the whole session

module _ (n : ℕ) (start : ℕ → List ℕ) (taken : open_answer (length (start 1)) (opens n) ≡ Ok tt) where
  abbrev first : Calls
  first = opening 1 (opening_of (opens n)) ∷ []

  number : open_line_answer (length (start 1)) (opening_of (opens n)).given LINE_BYTES ≡ Ok tt
  unfolding open_line_answer
  number = rw (opening_low n, line_answer_lem (open_answer (length (start 1)) (opens n)) 512 (omega arith)) taken

  is_opened_lem : engine.opens (start 1) (opening_of (opens n)) ≡ true
  unfolding opening_of
  is_opened_lem = taken_true _ number

  first_words : words engine start first 1 ≡ opened (start 1) (opens n)
  unfolding words opened_words opening_of
  first_words = line_words_lem 512 (start 1) (opened (start 1) (opening_of (opens n)).given) (omega arith) ∙ ap (opened (start 1)) (opening_low n)

  first_begun : GoesOn start 1 (terms_by (opens n)) (session_at start first 1)
  unfolding session_at traced words
  first_begun = record { turns = 0; same = rw is_opened_lem (ap (λ (o : Arguments). Some (record { terms = terms_by o; turns = 0 })) (opening_low n)) }

  -- as many turns as are stored in the end
  pub takes : (k : ℕ) → word (after (opened (start 1) (opens n)) (costliest_calls n)) turns_at ≡ k → Takes n k start
  unfolding whole_session
  takes k e =
      let x = calls_go start 1 (terms_by (opens n)) first first_begun (costliest_calls n) (calls_plain n) in
      let same : words engine start (whole_session n) 1 ≡ after (opened (start 1) (opens n)) (costliest_calls n) = after_on start first (costliest_calls n) ∙ ap (λ (w : List ℕ). after w (costliest_calls n)) first_words in
      let counted = (calls_going start (whole_session n) 1 (record { terms = terms_by (opens n); turns = x.turns }) x.same).count in
      let is : x.turns ≡ k = sym counted ∙ ap (λ (w : List ℕ). word w turns_at) same ∙ e in
      record { is_opened_lem = is_opened_lem; exactly = x.same ∙ ap (λ (j : ℕ). Some (record { terms = terms_by (opens n); turns = j })) is }
