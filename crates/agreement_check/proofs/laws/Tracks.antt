-- What the check of specs/Checking.antt knows after some calls, and how a call at one place changes it.
use Rattle.std.specs.Prelude.{ℕ, Bool, ◌&&◌, cond, List, ◌∷◌, ◌≡◌, refl, eqb, leb}
use Rattle.std.proofs.Math.Bool.{true, false}
use Rattle.std.proofs.Common.{sym, ◌∙◌}
use borrow.Author.Tests.{eqb-true, eq-eqb, leb-true}
use Rattle.std.proofs.Math.ListN.{length}
use Rattle.quorum.specs.laws.Bools.{and_left, and_right}
use Rattle.records.specs.Layout.{state_words}
use Rattle.opening.specs.Opening.{open_words}
use Rattle.agreement.specs.Evidence.{Honest}
use Rattle.agreement.specs.Plain.{NoRestore}
use Rattle.calls.specs.Machine.{Call, place, left, words}
use Rattle.agreement.proofs.laws.Worlds.{world}
use Rattle.agreement.specs.Journals.{Moment, Journal, wrote, journal}
use Rattle.agreement.specs.DemandThree.{Opened, Departed}
use Rattle.calls.specs.Engine.{engine, OpeningGiven, Agreed, Bytes}
use Rattle.agreement.proofs.laws.EngineOpening.{opened_first, open_refused}
use Rattle.agreement_check.proofs.laws.Lists.{opened_later, opened_before, NoOpening, AllMeet}
use Rattle.agreement_check.specs.Checking.{Line, Entry, Gone, is_opened, words_of, lines_of, with_entry, opens, listed}
use Rattle.agreement_check.proofs.laws.Lengths.{length_left}
use Rattle.agreement_check.proofs.laws.Entries.{opened_with_lem, words_with, lines_with}
use Rattle.agreement_check.proofs.laws.Journals.{Matches, AllMatch, IsGone}

module _ (start : ℕ → List ℕ) where
  -- ---- a call at its place, and elsewhere

  module _ (c : Call engine) (cs : List (Call engine)) where
    pub words_here : words engine start (c ∷ cs) (place engine c) ≡ left engine c (words engine start cs (place engine c))
    unfolding words
    words_here = rw (eq-eqb (place engine c) (place engine c) refl)

    pub journal_here : journal engine start (c ∷ cs) (place engine c) ≡ wrote engine c (words engine start cs (place engine c)) (c ∷ cs) (journal engine start cs (place engine c))
    unfolding journal
    journal_here = rw (eq-eqb (place engine c) (place engine c) refl)

    pub words_else : (q : ℕ) → eqb q (place engine c) ≡ false → words engine start (c ∷ cs) q ≡ words engine start cs q
    unfolding words
    words_else q e = rw e

    pub journal_else : (q : ℕ) → eqb q (place engine c) ≡ false → journal engine start (c ∷ cs) q ≡ journal engine start cs q
    unfolding journal
    journal_else q e = rw e

    -- the number of words after a call
    pub size_next : NoRestore engine c → (p : ℕ) → length (words engine start cs p) ≡ state_words → length (words engine start (c ∷ cs) p) ≡ state_words
    unfolding words
    size_next n p h = go (eqb p (place engine c))
      where
        go : (b : Bool) → length (cond b (left engine c (words engine start cs p)) (words engine start cs p)) ≡ state_words
        go true = length_left c n (words engine start cs p) h
        go false = h

  -- an opening of 2,048 words
  pub opens_sized : (s : List ℕ) (o : OpeningGiven) → length s ≡ state_words → engine.opens s o ≡ opens o
  unfolding opens
  opens_sized s o e = rw e

  pub opened_sized : (s : List ℕ) (o : OpeningGiven) → length s ≡ state_words → engine.opened s o ≡ cond (opens o) (open_words o.given) s
  opened_sized s o e = go (opens o) (opens_sized s o e)
    where
      go : (b : Bool) → engine.opens s o ≡ b → engine.opened s o ≡ cond b (open_words o.given) s
      go true f = opened_first s o f
      go false f = open_refused s o f

  module _ (S : Agreed) (H : ℕ → Bool) (v : ℕ → ℕ) where
    -- what is known after the calls cs: xs are the words and journals of those that are opened, gs is what left
    pub record Tracks (cs : List (Call engine)) (xs : List Entry) (gs : List Gone) : Type 0 where
      pub size : (p : ℕ) → Honest (world engine S H) p → length (words engine start cs p) ≡ state_words
      pub none : (p : ℕ) → is_opened xs p ≡ false → Opened engine start cs p → ⊥
      pub some : (p : ℕ) → is_opened xs p ≡ true → Opened engine start cs p
      pub equal : (p : ℕ) → is_opened xs p ≡ true → words engine start cs p ≡ words_of xs p
      pub lines : (p : ℕ) → is_opened xs p ≡ true → AllMatch start p (lines_of xs p) (journal engine start cs p)
      pub gone : (m : ℕ) (b : Bytes) → Departed engine start cs m b → IsGone gs m b.list
      pub meet : AllMeet engine start S H v cs

    pub listed_honest : (p : ℕ) → listed S H v p ≡ true → Honest (world engine S H) p
    unfolding listed
    listed_honest p e =
        let r = and_right (leb 1 p) (leb p S.settings.n && H p) e in
        record {
          low = leb-true 1 p (and_left (leb 1 p) (leb p S.settings.n && H p) e);
          high = leb-true p S.settings.n (and_left (leb p S.settings.n) (H p) r);
          fair = and_right (leb p S.settings.n) (H p) r;
        }

    module _ {cs : List (Call engine)} {xs : List Entry} {gs : List Gone} (x : Tracks cs xs gs) where
      -- a call that is no opening: there, where one is opened, it leaves the words w and the journal ls
      pub entry_next : (c : Call engine) (w : List ℕ) (ls : List Line) (hs : List Gone) → NoOpening engine start c → ((q : ℕ) → Honest (world engine S H) q → length (words engine start (c ∷ cs) q) ≡ state_words) → (is_opened xs (place engine c) ≡ true → words engine start (c ∷ cs) (place engine c) ≡ w) → (is_opened xs (place engine c) ≡ true → AllMatch start (place engine c) ls (journal engine start (c ∷ cs) (place engine c))) → ((m : ℕ) (b : Bytes) → Departed engine start (c ∷ cs) m b → IsGone hs m b.list) → AllMeet engine start S H v (c ∷ cs) → Tracks (c ∷ cs) (with_entry (place engine c) w ls xs) hs
      entry_next c w ls hs n size here written gone meet =
          record {
            size = size;
            none = λ q k o. x.none q (sym (same q) ∙ k) (opened_before engine start n o);
            some = λ q k. opened_later engine start c (x.some q (sym (same q) ∙ k));
            equal = λ q k. let l = sym (same q) ∙ k in words_at q l (eqb q (place engine c)) refl ∙ sym (words_with (place engine c) w ls xs q l);
            lines = λ q k. let l = sym (same q) ∙ k in rw (lines_with (place engine c) w ls xs q l) (lines_at q l (eqb q (place engine c)) refl);
            gone = gone;
            meet = meet;
          }
        where
          same : (q : ℕ) → is_opened (with_entry (place engine c) w ls xs) q ≡ is_opened xs q
          same q = opened_with_lem (place engine c) w ls xs q

          words_at : (q : ℕ) → is_opened xs q ≡ true → (b : Bool) → eqb q (place engine c) ≡ b → words engine start (c ∷ cs) q ≡ cond b w (words_of xs q)
          words_at q k true e = let s = eqb-true q (place engine c) e in rw s (here (rw s at k))
          words_at q k false e = words_else c cs q e ∙ x.equal q k

          lines_at : (q : ℕ) → is_opened xs q ≡ true → (b : Bool) → eqb q (place engine c) ≡ b → AllMatch start q (cond b ls (lines_of xs q)) (journal engine start (c ∷ cs) q)
          lines_at q k true e = let s = eqb-true q (place engine c) e in rw s (written (rw s at k))
          lines_at q k false e = rw (journal_else c cs q e) (x.lines q k)

      -- one more line, where the call wrote one
      pub line_next : (p : ℕ) (d : Moment engine) (y : Line) (ls : List Line) (js : Journal engine) (t : Bool) → (t ≡ true → Matches start p y d) → AllMatch start p ls js → AllMatch start p (cond t (y ∷ ls) ls) (cond t (d ∷ js) js)
      line_next p d y ls js true m h = (m refl, h)
      line_next p d y ls js false m h = h
