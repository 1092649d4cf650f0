-- What a restore answers of its journal is no more than the journal has: bytes in complete lines, and the line that cannot be applied.
use Rattle.std.specs.Prelude.{ℕ, suc, ◌+◌, ◌≤◌, Bool, true, false, cond, List, [], ◌∷◌, ◌++◌, eqb, length, Option, Some, None}
use Rattle.std.proofs.Common.{arith, length-append}
use Rattle.text.specs.Fields.{LF}
use Rattle.restore.specs.Complete.{lines_from, lines_of, joined}
use Rattle.restore.specs.Restoring.{Point, first_line, next_line, Replay, wrong, right, applied_or, further, replay_from, replay}

from_short : (front xs : List ℕ) → length (joined (lines_from front xs)) ≤ length front + length xs
unfolding lines_from
from_short front [] = omega arith
from_short front (x ∷ xs) = go (eqb x LF) (omega (arith, from_short [] xs)) (from_short (front ++ (x ∷ [])) xs)
  where
    go : (b : Bool) → length (joined (lines_from [] xs)) ≤ length xs → length (joined (lines_from (front ++ (x ∷ [])) xs)) ≤ length (front ++ (x ∷ [])) + length xs →
        length (joined (cond b (front ∷ lines_from [] xs) (lines_from (front ++ (x ∷ [])) xs))) ≤ length front + suc (length xs)
    go true h k = rw (length-append front (LF ∷ joined (lines_from [] xs))) (omega arith)
    go false h k = omega (arith, length-append front (x ∷ []))

pub complete_short : (journal : List ℕ) → length (joined (lines_of journal)) ≤ length journal
unfolding lines_of
complete_short journal = omega (arith, from_short [] journal)

-- each line has its LF at least
lines_few : (bs : List (List ℕ)) → length bs ≤ length (joined bs)
lines_few [] = omega arith
lines_few (b ∷ bs) = rw (length-append b (LF ∷ joined bs)) (omega (arith, lines_few bs))

-- ---- the line that cannot be applied is one of the first m

unfoldable pub Among : ℕ → Replay → Type 0
Among m (wrong k) = k ≤ m
Among m (right x) = Unit {0}

applied_among : (m k : ℕ) (x : Option Point) → k ≤ m → Among m (applied_or k x)
unfolding Among applied_or
applied_among m k None h = h
applied_among m k (Some x) h = tt

further_among : (m k : ℕ) (x : Replay) (b : List ℕ) → Among m x → k ≤ m → Among m (further k x b)
unfolding Among further
further_among m k (wrong j) b a h = a
further_among m k (right x) b a h = applied_among m k (next_line x.words b) h

from_among : (m k : ℕ) (x : Replay) (bs : List (List ℕ)) → Among m x → k + length bs ≤ m + 1 → Among m (replay_from k x bs)
unfolding replay_from
from_among m k x [] a h = a
from_among m k x (b ∷ bs) a h = from_among m (k + 1) (further k x b) bs (further_among m k x b a (omega arith)) (omega arith)

replay_among : (m : ℕ) (bs : List (List ℕ)) → 1 ≤ m → length bs ≤ m → Among m (replay bs)
unfolding Among replay
replay_among m [] h l = h
replay_among m (b ∷ bs) h l = from_among m 2 (applied_or 1 (first_line b)) bs (applied_among m 1 (first_line b) h) (omega arith)

-- a journal of m bytes has at most m lines, and without any it is the first that is missing
pub journal_among : (m : ℕ) (journal : List ℕ) → 1 ≤ m → length journal ≤ m → Among m (replay (lines_of journal))
journal_among m journal h l = replay_among m (lines_of journal) h (omega (arith, lines_few (lines_of journal), complete_short journal))
