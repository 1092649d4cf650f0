-- Words of marks that are read whole.
use Rattle.std.specs.Prelude.{ℕ, List}
use Rattle.records.specs.Layout.{decided_zero_at, decided_one_at, vote_at, finish_marks_at}
use Rattle.records.specs.Words.{word}

-- the votes decided 0, and those decided 1: mark i for vote i
abbrev pub decided_zero_marks : List ℕ → ℕ
decided_zero_marks s = word s decided_zero_at

abbrev pub decided_one_marks : List ℕ → ℕ
decided_one_marks s = word s decided_one_at

-- the ESTs and AUXs held in round r of vote i
abbrev pub vote_marks : List ℕ → ℕ → ℕ → ℕ
vote_marks s i r = word s (vote_at i r)

-- the FINISHes held in vote i
abbrev pub finish_marks : List ℕ → ℕ → ℕ
finish_marks s i = word s (finish_marks_at i)
