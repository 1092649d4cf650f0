-- Laws of the tests and tables of specs/Checking.antt.
use Rattle.std.specs.Prelude.{ℕ, Bool, ◌||◌, not, List, [], ◌∷◌, ◌≡◌}
use Rattle.std.proofs.Math.Bool.{true, false, cond}
use Rattle.std.proofs.lemmas.Bool.{false≢true}
use Rattle.std.proofs.Math.Path.{refl, ap}
use Rattle.std.proofs.Common.{sym, ◌∙◌, eqb-true}
use Rattle.std.proofs.Math.Dec.{eqb}
use Rattle.quorum.specs.laws.Bools.{and_left, and_right}
use Rattle.calls.specs.Engine.{Agreed}
use Rattle.agreement_check.specs.Checking.{Line, Entry, is_opened, words_of, lines_of, with_entry, same_list, same_session}

-- one of two tests passed, and the first did not
pub or_second : (a b : Bool) → a || b ≡ true → a ≡ false → b ≡ true
or_second true b e f = absurd (false≢true (sym f))
or_second false b e f = e

pub not_of_true : (a : Bool) → a ≡ true → not a ≡ false
not_of_true a e = rw e

pub same_list_lem : (xs ys : List ℕ) → same_list xs ys ≡ true → xs ≡ ys
unfolding same_list
same_list_lem [] [] e = refl
same_list_lem [] (y ∷ ys) e = absurd (false≢true e)
same_list_lem (x ∷ xs) [] e = absurd (false≢true e)
same_list_lem (x ∷ xs) (y ∷ ys) e =
    let h : x ≡ y = eqb-true x y (and_left (eqb x y) (same_list xs ys) e) in
    let t : xs ≡ ys = same_list_lem xs ys (and_right (eqb x y) (same_list xs ys) e) in
    rw (h, t)

pub same_session_lem : (a b : Agreed) → same_session a b ≡ true → a ≡ b
unfolding same_session
same_session_lem a b e =
    let e0 = and_right (eqb a.version b.version) _ e in
    let e1 = and_right (eqb a.settings.n b.settings.n) _ e0 in
    let e2 = and_right (eqb a.settings.ta b.settings.ta) _ e1 in
    let e3 = and_right (eqb a.settings.ts b.settings.ts) _ e2 in
    let e4 = and_right (eqb a.settings.whole b.settings.whole) _ e3 in
    let e5 = and_right (eqb a.settings.weights b.settings.weights) _ e4 in
    let e6 = and_right (eqb a.number b.number) _ e5 in
    same
    (eqb-true _ _ (and_left (eqb a.version b.version) _ e))
    (eqb-true _ _ (and_left (eqb a.settings.n b.settings.n) _ e0))
    (eqb-true _ _ (and_left (eqb a.settings.ta b.settings.ta) _ e1))
    (eqb-true _ _ (and_left (eqb a.settings.ts b.settings.ts) _ e2))
    (eqb-true _ _ (and_left (eqb a.settings.whole b.settings.whole) _ e3))
    (eqb-true _ _ (and_left (eqb a.settings.weights b.settings.weights) _ e4))
    (eqb-true _ _ (and_left (eqb a.number b.number) _ e5))
    (same_list_lem _ _ (and_left (same_list a.coins b.coins) _ e6))
    (eqb-true _ _ (and_right (same_list a.coins b.coins) _ e6))
  where
    same : a.version ≡ b.version → a.settings.n ≡ b.settings.n → a.settings.ta ≡ b.settings.ta → a.settings.ts ≡ b.settings.ts → a.settings.whole ≡ b.settings.whole → a.settings.weights ≡ b.settings.weights → a.number ≡ b.number → a.coins ≡ b.coins → a.boxed ≡ b.boxed → a ≡ b
    same m n ta ts u w k c x = λ i. record { version = m i; settings = record { n = n i; ta = ta i; ts = ts i; whole = u i; weights = w i }; number = k i; coins = c i; boxed = x i }

-- who is not opened has no journal
pub lines_none : (xs : List Entry) (p : ℕ) → is_opened xs p ≡ false → lines_of xs p ≡ []
unfolding is_opened lines_of
lines_none [] p e = refl
lines_none (x ∷ xs) p e = at (eqb p x.who) e (lines_none xs p)
  where
    at : (b : Bool) → cond b true (is_opened xs p) ≡ false → (is_opened xs p ≡ false → lines_of xs p ≡ []) → cond b x.lines (lines_of xs p) ≡ []
    at true e rest = absurd (false≢true (sym e))
    at false e rest = rest e

module _ (p : ℕ) (w : List ℕ) (ls : List Line) (xs : List Entry) where
  -- the same ones are opened
  pub opened_with_lem : (q : ℕ) → is_opened (with_entry p w ls xs) q ≡ is_opened xs q
  unfolding with_entry is_opened
  opened_with_lem q = go (is_opened xs p) refl
    where
      same : (b : Bool) → is_opened xs p ≡ true → eqb q p ≡ b → cond b true (is_opened xs q) ≡ is_opened xs q
      same true h e = rw (eqb-true q p e, h)
      same false h e = refl

      go : (b : Bool) → is_opened xs p ≡ b → is_opened (cond b (record { who = p; list = w; lines = ls } ∷ xs) xs) q ≡ is_opened xs q
      go true h = same (eqb q p) h refl
      go false h = refl

  -- p has the words w and the journal ls, the others those they had
  pub words_with : (q : ℕ) → is_opened xs q ≡ true → words_of (with_entry p w ls xs) q ≡ cond (eqb q p) w (words_of xs q)
  unfolding with_entry words_of
  words_with q k = go (is_opened xs p) refl
    where
      other : (b : Bool) → is_opened xs p ≡ false → eqb q p ≡ b → words_of xs q ≡ cond b w (words_of xs q)
      other true h e = absurd (false≢true (sym h ∙ ap (is_opened xs) (sym (eqb-true q p e)) ∙ k))
      other false h e = refl

      go : (b : Bool) → is_opened xs p ≡ b → words_of (cond b (record { who = p; list = w; lines = ls } ∷ xs) xs) q ≡ cond (eqb q p) w (words_of xs q)
      go true h = refl
      go false h = other (eqb q p) h refl

  pub lines_with : (q : ℕ) → is_opened xs q ≡ true → lines_of (with_entry p w ls xs) q ≡ cond (eqb q p) ls (lines_of xs q)
  unfolding with_entry lines_of
  lines_with q k = go (is_opened xs p) refl
    where
      other : (b : Bool) → is_opened xs p ≡ false → eqb q p ≡ b → lines_of xs q ≡ cond b ls (lines_of xs q)
      other true h e = absurd (false≢true (sym h ∙ ap (is_opened xs) (sym (eqb-true q p e)) ∙ k))
      other false h e = refl

      go : (b : Bool) → is_opened xs p ≡ b → lines_of (cond b (record { who = p; list = w; lines = ls } ∷ xs) xs) q ≡ cond (eqb q p) ls (lines_of xs q)
      go true h = refl
      go false h = other (eqb q p) h refl
