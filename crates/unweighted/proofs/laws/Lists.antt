-- After an accepted opening that is given weights of 1, and any calls whose openings are, all weights are 1, and the unweighted run stands beside.
use Prim.Native.Nat.{ℕ, ◌+◌, ◌≤◌}
use Rattle.std.specs.Prelude.{Bool, true, false, cond, ◌≡◌, eqb, length, Option, Some}
use mathlib.Core.List.{List, [], ◌∷◌, ◌++◌}
use Rattle.std.proofs.Math.Path.{refl}
use Rattle.std.proofs.Common.{sym, ap, subst, eqb-true, eq-eqb}
use Rattle.quorum.specs.Weights.{weight_of}
use Rattle.settings.specs.laws.Answers.{true_taken}
use Rattle.settings.specs.Rules.{Ruled}
use Rattle.settings.specs.declared.Settings.{Settings}
use Rattle.records.specs.Layout.{weights_at}
use Rattle.records.specs.Words.{put}
use Rattle.session.specs.Session.{settings_of}
use Rattle.opening.specs.Given.{weights_word}
use Rattle.opening.specs.Arguments.{Arguments, weights_by, settings_by}
use Rattle.opening.specs.Opening.{open_answer}
use Rattle.journal.specs.Journal.{open_line_answer}
use Rattle.journal.specs.laws.Journal.{line_taken}
use Rattle.calls.specs.Machine.{Call, opening, delivery, turn, report, restore, recording, place, left, words, traced}
use Rattle.calls.specs.Engine.{OpeningGiven, engine}
use Rattle.turn_bound.specs.TurnBound.{Terms, terms_by, Begun, one_more, session_after, session_at}
use Rattle.turn_bound.proofs.laws.Opened.{opened_ruled}
use Rattle.turn_bound.proofs.laws.CallCount.{calls_going}
use Rattle.unweighted.specs.Statement.{AllOne, Alike, GivenOnes, GivesOnes, EachGivenOnes, unweighted_left, unweighted_words, SideBySide, AnswersAlike, Unweighted}
use Rattle.unweighted.proofs.laws.Counts.{Ones, whole_count}
use Rattle.unweighted.proofs.laws.Delivery.{deliver_answer_same, delivered_same}
use Rattle.unweighted.proofs.laws.Recording.{record_answer_same, recorded_same}
use Rattle.unweighted.proofs.laws.Turn.{turn_outcome_same, turn_words_same, turn_bytes_same}
use Rattle.unweighted.proofs.laws.Report.{report_answer_same, report_named_same, report_in_force_same}
use Rattle.unweighted.proofs.laws.Opening.{each_one, answer_same, opens_same}
use Rattle.unweighted.proofs.laws.Runs.{left_beside, first_beside, beside}

-- the settings of an accepted opening
given_ones : (o : Arguments) → GivenOnes o → Ruled (settings_by o) → Ones (settings_by o)
unfolding GivenOnes
given_ones o e r =
    let each = subst (λ (ws : List ℕ). (p : ℕ) → 1 ≤ p → p ≤ o.n → weight_of (weights_word o.n ws) p ≡ 1) (sym e) (each_one o.n r.some r.few) in
    record { each = each; whole = whole_count (weights_by o) o.n each }

-- a session is begun whose weights are all 1
record OnesBegun (x : Option Begun) : Type 0 where
  session : Begun
  was : x ≡ Some session
  ones : Ones session.terms.settings

opening_ones : (w : List ℕ) (o : OpeningGiven) → engine.opens w o ≡ true → GivenOnes o.given → OnesBegun (Some (record { terms = terms_by o.given; turns = 0 }))
unfolding open_line_answer
opening_ones w o e h =
    let t = line_taken (open_answer (length w) o.given) o.line (true_taken _ e) in
    record { session = record { terms = terms_by o.given; turns = 0 }; was = refl; ones = given_ones o.given h (opened_ruled w o.given t.0) }

ones_after : (c : Call engine) → GivesOnes c → (w : List ℕ) (x : Option Begun) → OnesBegun x → OnesBegun (session_after c w x)
ones_after (opening p o) h w x y = of (engine.opens w o) refl
  where
    of : (b : Bool) → engine.opens w o ≡ b → OnesBegun (cond b (Some (record { terms = terms_by o.given; turns = 0 })) x)
    of true e = opening_ones w o e h
    of false e = y
ones_after (delivery p m b) h w x y = y
ones_after (turn p l) h w x y = of (engine.acts w l)
  where
    of : (b : Bool) → OnesBegun (cond b (one_more x) x)
    of true = record { session = record { terms = y.session.terms; turns = y.session.turns + 1 }; was = ap one_more y.was; ones = y.ones }
    of false = y
ones_after (report p r) h w x y = y
ones_after (restore p v r) h w x y = absurd h
ones_after (recording p b) h w x y = y

stored_one : (s : List ℕ) → Ones (settings_of s) → AllOne s
unfolding AllOne settings_of
stored_one s x = x.each

-- two runs at q after the calls cs
module _ (start : ℕ → List ℕ) (q : ℕ) where
  record Beside (cs : List (Call engine)) : Type 0 where
    begun : OnesBegun (session_at start cs q)
    same : unweighted_words start cs q ≡ put (words engine start cs q) weights_at 0

  all_one : (cs : List (Call engine)) → OnesBegun (session_at start cs q) → AllOne (words engine start cs q)
  all_one cs y =
      let same = ap (λ (k : Terms). k.settings) (calls_going start cs q y.session y.was).sound.terms in
      stored_one (words engine start cs q) (subst (λ (g : Settings). Ones g) (sym same) y.ones)

  call_beside : (c : Call engine) (cs : List (Call engine)) → (place engine c ≡ q → GivesOnes c) → Beside cs → Beside (c ∷ cs)
  unfolding session_at unweighted_words words traced
  call_beside c cs h y = let t = of (eqb q (place engine c)) refl in record { begun = t.0; same = t.1 }
    where
      w : List ℕ
      w = words engine start cs q

      u : List ℕ
      u = unweighted_words start cs q

      x : Option Begun
      x = session_at start cs q

      of : (b : Bool) → eqb q (place engine c) ≡ b → OnesBegun (cond b (session_after c w x) x) × (cond b (unweighted_left c u) u ≡ put (cond b (left engine c w) w) weights_at 0)
      of true e = let k = h (sym (eqb-true q (place engine c) e)) in (ones_after c k w x y.begun, left_beside w u y.same (all_one cs y.begun) c k)
      of false e = (y.begun, y.same)

  calls_beside : (ds : List (Call engine)) → Beside ds → (cs : List (Call engine)) → EachGivenOnes q cs → Beside (cs ++ ds)
  unfolding EachGivenOnes
  calls_beside ds y [] h = y
  calls_beside ds y (c ∷ cs) h = call_beside c (cs ++ ds) h.0 (calls_beside ds y cs h.1)

  module _ (o : OpeningGiven) (e : engine.opens (start q) o ≡ true) (ones : GivenOnes o.given) where
    first : Beside (opening q o ∷ [])
    unfolding session_at unweighted_words words traced
    first = record { begun = rw (eq-eqb q q refl, e) (opening_ones (start q) o e ones); same = rw (eq-eqb q q refl) (first_beside (start q) o e ones) }

    runs : (cs : List (Call engine)) → EachGivenOnes q cs → SideBySide (words engine start (cs ++ (opening q o ∷ [])) q) (unweighted_words start (cs ++ (opening q o ∷ [])) q)
    runs cs h = let y = calls_beside (opening q o ∷ []) first cs h in beside _ _ y.same (all_one (cs ++ (opening q o ∷ [])) y.begun)

alike : (s : List ℕ) → AllOne s → Alike s
alike s all =
    record {
      delivery_answer = deliver_answer_same s all;
      delivery_words = delivered_same s all;
      recording_answer = record_answer_same s all;
      recording_words = recorded_same s all;
      turn_outcome_lem = turn_outcome_same s all;
      turn_words_lem = turn_words_same s all;
      turn_bytes_lem = turn_bytes_same s all;
      report_answer_lem = report_answer_same s all;
      report_named_lem = report_named_same s all;
      report_in_force_lem = report_in_force_same s all;
    }

answers_alike : AnswersAlike
unfolding AnswersAlike
answers_alike = answer_same

pub all_ones : Unweighted
all_ones =
    record {
      openings_answer = answers_alike;
      openings = λ s o h. opens_same o h s;
      calls = alike;
      runs = runs;
    }
