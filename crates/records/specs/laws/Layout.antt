-- The regions of the state: where each starts and ends, that they lie apart, and that they lie within its words.
use Rattle.std.specs.Prelude.{ℕ, suc, Bool, true, ◌&&◌, List, [], ◌∷◌, ◌≡◌, refl, eqb, leb}
use Rattle.records.specs.Layout.{state_words, n_at, ta_at, ts_at, own_at, session_at, input_at, turns_at, flags_at, coin_at, round_at, est_sent_at, aux_sent_at, send_value_at, echo_marks_at, ready_marks_at, commit_count_at}
use Rattle.records.specs.Layout.{echo_sent_at, ready_sent_at, decided_zero_at, decided_one_at, send_marks_at, weights_at, boxed_at, version_at, finish_sent_at, finish_marks_at, one_first_at, echo_value_at, ready_value_at, commit_value_at, vote_at}

-- a region by its address function, at the lowest numbers and at the highest, and the words that the layout names for it
pub record Region : Type 0 where
  pub first : ℕ
  pub last : ℕ
  pub from : ℕ
  pub to : ℕ

region : ℕ → ℕ → ℕ → ℕ → Region
region a b j k = record { first = a; last = b; from = j; to = k }

-- a region of one word
single : ℕ → ℕ → Region
single a k = region a a k k

-- the regions in rising order; numbers go to 16, rounds to 32
pub regions : List Region
regions =
    single n_at 0
    ∷ single ta_at 1
    ∷ single ts_at 2
    ∷ single own_at 3
    ∷ single session_at 4
    ∷ single input_at 5
    ∷ single turns_at 6
    ∷ single flags_at 7
    ∷ region (coin_at 1) (coin_at 16) 8 23
    ∷ region (round_at 1) (round_at 16) 24 39
    ∷ region (est_sent_at 1) (est_sent_at 16) 40 55
    ∷ region (aux_sent_at 1) (aux_sent_at 16) 56 71
    ∷ region (send_value_at 1) (send_value_at 16) 72 87
    ∷ region (echo_marks_at 1) (echo_marks_at 16) 88 103
    ∷ region (ready_marks_at 1) (ready_marks_at 16) 104 119
    ∷ region (commit_count_at 1) (commit_count_at 16) 120 135
    ∷ single echo_sent_at 136
    ∷ single ready_sent_at 137
    ∷ single decided_zero_at 138
    ∷ single decided_one_at 139
    ∷ single send_marks_at 140
    ∷ single weights_at 141
    ∷ single boxed_at 142
    ∷ single version_at 143
    ∷ single finish_sent_at 144
    ∷ region (finish_marks_at 1) (finish_marks_at 16) 145 160
    ∷ region (one_first_at 1) (one_first_at 16) 161 176
    ∷ region (echo_value_at 1 1) (echo_value_at 16 16) 256 511
    ∷ region (ready_value_at 1 1) (ready_value_at 16 16) 512 767
    ∷ region (commit_value_at 1 1) (commit_value_at 16 16) 768 1023
    ∷ region (vote_at 1 1) (vote_at 16 32) 1024 1535
    ∷ []

-- each region starts and ends where the layout says
pub placed : List Region → Bool
placed [] = true
placed (r ∷ rs) = eqb r.first r.from && (eqb r.last r.to && placed rs)

pub regions_placed : placed regions ≡ true
unfolding placed regions region single
regions_placed = refl

-- each region starts after the one before it has ended, and all end within the state
pub apart : ℕ → List Region → Bool
apart k [] = leb k state_words
apart k (r ∷ rs) = leb k r.first && (leb r.first r.last && apart (suc r.last) rs)

pub regions_apart : apart 0 regions ≡ true
unfolding apart regions region single
regions_apart = refl
