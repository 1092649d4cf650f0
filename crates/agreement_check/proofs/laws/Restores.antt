-- A restore from a cut of the journal that the check computes is accepted, and leaves what the check says.
use Rattle.std.specs.Prelude.{ℕ, ◌≤◌, Bool, false, cond, ◌≡◌, eqb, leb, length, take}
use Rattle.std.proofs.Math.Bool.{true}
use Rattle.std.proofs.lemmas.Bool.{false≢true}
use mathlib.Core.List.{List, [], ◌∷◌}
use Rattle.std.proofs.Math.Path.{refl}
use Rattle.std.proofs.Common.{sym, ap, ◌∙◌, arith}
use borrow.Author.Tests.{eqb-true, leb-true}
use Rattle.quorum.specs.laws.Bools.{and_left, and_right}
use Rattle.records.specs.Layout.{state_words}
use Rattle.restore.specs.Restoring.{MESSAGE_BYTES, accepted}
use Rattle.agreement.specs.Evidence.{Honest}
use Rattle.calls.specs.Machine.{Call, restore, words}
use Rattle.agreement.proofs.laws.Worlds.{world}
use Rattle.agreement.specs.Journals.{Moment, Journal, bytes, complete, journal}
use Rattle.agreement.specs.DemandThree.{FallsBack}
use Rattle.calls.specs.Engine.{engine, Agreed, RestoreLent}
use Rattle.agreement.specs.EngineRestores.{Gives, RestoreGives}
use Rattle.agreement.proofs.laws.EngineRestores.{restore_gives}
use Rattle.agreement_check.proofs.laws.Lists.{departed_before, conditions_met}
use Rattle.agreement_check.specs.Checking.{Line, Entry, Gone, is_opened, lines_of, same_list, text_of, complete_of, some, last_words, keeps, states_after, restore_right}
use Rattle.agreement_check.proofs.laws.Entries.{same_list_lem}
use Rattle.agreement_check.proofs.laws.Tracks.{words_here, journal_here, words_else, Tracks, entry_next}
use Rattle.agreement_check.proofs.laws.Journals.{AllMatch, bytes_same, complete_same, sent_in_lem, sent_of, kept_sent}

module _ (start : ℕ → List ℕ) (S : Agreed) (H : ℕ → Bool) (v : ℕ → ℕ) {cs : List (Call engine)} {xs : List Entry} {gs : List Gone} (x : Tracks start S H v cs xs gs) where
  module _ (p : ℕ) (u : List ℕ) (r : RestoreLent) (sized : length u ≡ state_words) (k : is_opened xs p ≡ true) (right : restore_right r (lines_of xs p) ≡ true) where
    abbrev size : ℕ
    size = length r.journal

    abbrev js : Journal engine
    js = journal engine start cs p

    -- the complete lines
    abbrev pub ls : List Line
    ls = complete_of size (lines_of xs p)

    abbrev c : Call engine
    c = restore p u r

    room : MESSAGE_BYTES ≤ length r.message
    unfolding restore_right
    room = leb-true _ _ (and_left (leb MESSAGE_BYTES (length r.message)) _ right)

    cut : r.journal ≡ take size (bytes engine js)
    unfolding restore_right
    cut =
        let e = and_left (same_list r.journal (take size (text_of (lines_of xs p)))) _ (and_right (leb MESSAGE_BYTES (length r.message)) _ right) in
        rw (bytes_same start p (lines_of xs p) js (x.lines p k)) (same_list_lem r.journal _ e)

    some_line : some ls ≡ true
    unfolding restore_right
    some_line = and_right (same_list r.journal (take size (text_of (lines_of xs p)))) _ (and_right (leb MESSAGE_BYTES (length r.message)) _ right)

    matched : AllMatch start p ls (complete engine size js)
    matched = complete_same start p size (lines_of xs p) js (x.lines p k)

    -- the last complete line, the newest of ys
    record Back (ys : List Line) : Type 0 where
      moment : Moment engine
      older : Journal engine
      is : complete engine size js ≡ moment ∷ older
      given : Gives start p moment (bytes engine (moment ∷ older)) r.journal u r.message
      leaves : words engine start moment p ≡ last_words ys
      sized_there : length (words engine start moment p) ≡ state_words

    back : Back ls
    unfolding some last_words RestoreGives
    back = at ls (complete engine size js) refl matched some_line
      where
        at : (ys : List Line) (is : Journal engine) → complete engine size js ≡ is → AllMatch start p ys is → some ys ≡ true → Back ys
        at [] is e h f = absurd (false≢true f)
        at (y ∷ ys) [] e h f = absurd h
        at (y ∷ ys) (d ∷ ks) e h f =
            record {
              moment = d;
              older = ks;
              is = e;
              given = restore_gives S H start cs (conditions_met engine start S H v cs x.meet) p (x.some p k) r.journal cut d ks e u r.message sized room;
              leaves = h.0.leaves;
              sized_there = h.0.size;
            }

    pub restores_there : engine.restores u r ≡ true
    unfolding accepted
    restores_there = rw back.given.answer

    restored_words_lem : words engine start (c ∷ cs) p ≡ words engine start back.moment p
    restored_words_lem = words_here start c cs ∙ back.given.words

    restored_journal : journal engine start (c ∷ cs) p ≡ complete engine size js
    restored_journal = journal_here start c cs ∙ ap (λ (b : Bool). cond b (complete engine size js) js) restores_there

    -- its journal is the complete lines
    pub restored_lines : AllMatch start p ls (journal engine start (c ∷ cs) p)
    restored_lines = rw restored_journal matched

    restored_size : (q : ℕ) → Honest (world engine S H) q → length (words engine start (c ∷ cs) q) ≡ state_words
    restored_size q h = at (eqb q p) refl
      where
        at : (b : Bool) → eqb q p ≡ b → length (words engine start (c ∷ cs) q) ≡ state_words
        at true e = rw (eqb-true q p e, restored_words_lem) back.sized_there
        at false e = rw (words_else start c cs q e) (x.size q h)

    module _ (honest : Honest (world engine S H) p) (kept : keeps gs p ls ≡ true) where
      falls : FallsBack engine start cs p u r
      falls =
          record {
            cut = cut;
            first = λ e. nothing (sym back.is ∙ e);
            kept = λ b d. sent_of start p (c ∷ cs) b (sent_in_lem start p b ls (journal engine start (c ∷ cs) p) restored_lines (kept_sent gs p b.list ls kept (x.gone p b d)));
          }
        where
          nothing : back.moment ∷ back.older ≡ [] → ⊥
          nothing e = let z : ◌≡◌ {A = ℕ} 0 1 = cc in omega arith

      pub restore_next : Tracks start S H v (restore p u r ∷ cs) (states_after (restore p u r) xs) gs
      unfolding states_after
      restore_next =
          entry_next start S H v x c (last_words ls) ls gs tt restored_size
          (λ j. restored_words_lem ∙ back.leaves)
          (λ j. restored_lines)
          (λ m b d. x.gone m b (departed_before engine start tt d))
          (honest, record { falls_back = λ o t. falls; not_lost = λ o t. absurd (false≢true (sym t ∙ restores_there)) }, x.meet)
