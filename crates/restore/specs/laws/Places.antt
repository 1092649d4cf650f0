-- Where a byte stands first in a text, and so where a line or a field of it ends.
use Rattle.std.specs.Prelude.{ℕ, ◌+◌, ◌≤◌, ◌<◌, cond, List, [], ◌∷◌, ◌≡◌, refl, eqb, ltb, length, get_or, drop}
use Rattle.std.proofs.Common.{sym, ◌∙◌, add-one, drop_of_length-le, drop-cons}
use borrow.Author.Tests.{lt-ltb, le-ltb, eq-eqb, ne_eqb}
use Rattle.text.specs.Fields.{LF}

-- the first place of the byte c in xs, which stand from place k on, or their end
unfoldable pub place_from : (c k : ℕ) → List ℕ → ℕ
place_from c k [] = k
place_from c k (x ∷ xs) = cond (eqb x c) k (place_from c (k + 1) xs)

-- the first place of the byte c from place k of b on, or the end of b
unfoldable pub place_of : ℕ → List ℕ → ℕ → ℕ
place_of c b k = place_from c k (drop k b)

-- the place after the end of the line at a place, or that place where the line is not complete
unfoldable pub line_end : List ℕ → ℕ → ℕ
line_end b at = cond (ltb (place_of LF b at) (length b)) (place_of LF b at + 1) at

-- a loop that has come to place k
pub record Seeking (c : ℕ) (b : List ℕ) (at k : ℕ) : Type 0 where
  pub from : place_of c b at ≡ place_from c k (drop k b)

pub seeking_start : (c : ℕ) (b : List ℕ) (at : ℕ) → Seeking c b at at
unfolding place_of
seeking_start c b at = record { from = refl }

pub seeking_next : (c : ℕ) (b : List ℕ) (at k : ℕ) → Seeking c b at k → k < length b → (get_or b k 0 ≡ c → ⊥) → Seeking c b at (k + 1)
unfolding place_from
seeking_next c b at k h l n =
    let e : drop k b ≡ get_or b k 0 ∷ drop (k + 1) b = rw add-one (drop-cons b k 0 l) in
    record { from = h.from ∙ rw (e, ne_eqb (get_or b k 0) c n) }

pub seeking_found : (c : ℕ) (b : List ℕ) (at k : ℕ) → Seeking c b at k → k < length b → get_or b k 0 ≡ c → k ≡ place_of c b at
unfolding place_from
seeking_found c b at k h l n = sym (h.from ∙ rw (drop-cons b k 0 l, eq-eqb (get_or b k 0) c n))

pub seeking_end : (c : ℕ) (b : List ℕ) (at k : ℕ) → Seeking c b at k → length b ≤ k → k ≡ place_of c b at
unfolding place_from
seeking_end c b at k h l = sym (h.from ∙ rw (drop_of_length-le b l))

pub ruleset seeking = (seeking_start, seeking_next, seeking_found, seeking_end)

module _ (b : List ℕ) (at e : ℕ) (p : e ≡ place_of LF b at) where
  pub line_ends_lem : e < length b → e + 1 ≡ line_end b at
  unfolding line_end
  line_ends_lem l = rw (← p, lt-ltb e (length b) l)

  pub line_open : length b ≤ e → at ≡ line_end b at
  unfolding line_end
  line_open l = rw (← p, le-ltb e (length b) l)

pub ruleset line_cases = (line_ends_lem, line_open)
