-- A text of lines is read back as these lines; what lines come to, line by line.
use Rattle.std.specs.Prelude.{ℕ, ◌+◌, List, [], ◌∷◌, ◌++◌, ◌≢◌, ◌≡◌, refl, length}
use Rattle.std.proofs.Common.{append_assoc, append-nil, sym, ap, ◌∙◌, arith, ne_eqb}
use Rattle.text.specs.Fields.{LF}
use Rattle.restore.specs.Complete.{lines_from, lines_of, joined}
use Rattle.restore.specs.Restoring.{Replay, first_line, applied_or, further, replay_from, replay}

-- ---- lines

-- c does not stand in a list
abbrev pub Without : ℕ → List ℕ → Type 0
Without c [] = Unit {0}
Without c (x ∷ xs) = (x ≢ c) × Without c xs

abbrev pub AllWithout : ℕ → List (List ℕ) → Type 0
AllWithout c [] = Unit {0}
AllWithout c (b ∷ bs) = Without c b × AllWithout c bs

pub without_append : (c : ℕ) (xs ys : List ℕ) → Without c xs → Without c ys → Without c (xs ++ ys)
without_append c [] ys f g = g
without_append c (x ∷ xs) ys f g = (f.0, without_append c xs ys f.1 g)

line_first : (front b xs : List ℕ) → Without LF b → lines_from front (b ++ (LF ∷ xs)) ≡ (front ++ b) ∷ lines_from [] xs
unfolding lines_from
line_first front [] xs f = ap (λ (l : List ℕ). l ∷ lines_from [] xs) (sym (append-nil front))
line_first front (x ∷ b) xs f =
    rw (ne_eqb x LF f.0)
    (line_first (front ++ (x ∷ [])) b xs f.1 ∙ ap (λ (l : List ℕ). l ∷ lines_from [] xs) (append_assoc front (x ∷ []) b))

torn_none : (front rest : List ℕ) → Without LF rest → lines_from front rest ≡ []
unfolding lines_from
torn_none front [] f = refl
torn_none front (x ∷ rest) f = rw (ne_eqb x LF f.0) (torn_none (front ++ (x ∷ [])) rest f.1)

-- lines, and a rest with no LF
pub lines_joined : (bs : List (List ℕ)) (rest : List ℕ) → AllWithout LF bs → Without LF rest → lines_of (joined bs ++ rest) ≡ bs
unfolding lines_of
lines_joined [] rest f g = torn_none [] rest g
lines_joined (b ∷ bs) rest f g =
    ap (lines_from []) (append_assoc b (LF ∷ joined bs) rest)
    ∙ line_first [] b (joined bs ++ rest) f.0
    ∙ ap (λ (ls : List (List ℕ)). b ∷ ls) (lines_joined bs rest f.1 g)

pub joined_more : (bs : List (List ℕ)) (b : List ℕ) → joined (bs ++ (b ∷ [])) ≡ joined bs ++ (b ++ (LF ∷ []))
joined_more [] b = refl
joined_more (a ∷ bs) b = ap (λ (l : List ℕ). a ++ (LF ∷ l)) (joined_more bs b) ∙ sym (append_assoc a (LF ∷ joined bs) (b ++ (LF ∷ [])))

pub all_more : (bs : List (List ℕ)) (b : List ℕ) → AllWithout LF bs → Without LF b → AllWithout LF (bs ++ (b ∷ []))
all_more [] b f g = (g, tt)
all_more (a ∷ bs) b f g = (f.0, all_more bs b f.1 g)

-- a part of a line has no LF
pub free_part : (rest more b : List ℕ) → rest ++ more ≡ b ++ (LF ∷ []) → more ≢ [] → Without LF b → Without LF rest
free_part [] more b e ne f = tt
free_part (x ∷ rest) more [] e ne f = absurd (ne (empty rest (tail_of e)))
  where
    tail_of : (x ∷ rest) ++ more ≡ LF ∷ [] → rest ++ more ≡ []
    tail_of e = cc

    empty : (rest : List ℕ) → rest ++ more ≡ [] → more ≡ []
    empty [] e = e
    empty (y ∷ ys) e = absurd (let z : ◌≡◌ {A = ℕ} 0 1 = cc in omega arith)
free_part (x ∷ rest) more (y ∷ b) e ne f =
    let same : x ≡ y = cc in
    let later : rest ++ more ≡ b ++ (LF ∷ []) = cc in
    (rw same f.0, free_part rest more b later ne f.1)

-- ---- what lines come to

from_more : (k : ℕ) (x : Replay) (bs : List (List ℕ)) (b : List ℕ) → replay_from k x (bs ++ (b ∷ [])) ≡ further (k + length bs) (replay_from k x bs) b
unfolding replay_from
from_more k x [] b = let e : k + 0 ≡ k = omega arith in rw e
from_more k x (a ∷ bs) b =
    let e : k + length (a ∷ bs) ≡ k + 1 + length bs = omega arith in
    rw e (from_more (k + 1) (further k x a) bs b)

pub replay_one : (a : List ℕ) → replay (a ∷ []) ≡ applied_or 1 (first_line a)
unfolding replay replay_from
replay_one a = refl

-- one line more
pub replay_more : (a : List ℕ) (bs : List (List ℕ)) (b : List ℕ) → replay ((a ∷ bs) ++ (b ∷ [])) ≡ further (2 + length bs) (replay (a ∷ bs)) b
unfolding replay
replay_more a bs b = from_more 2 (applied_or 1 (first_line a)) bs b
