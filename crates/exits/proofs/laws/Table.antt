-- The table of exits by one computed check: four concentrators, ta = ts = 1, outputs and decisions that may be missing (PROTOCOL 6.3 to 6.6).
use Rattle.std.specs.Prelude.{ℕ, zero, suc, ◌+◌, ◌^◌, Bool, true, false, List, [], ◌∷◌, ◌≡◌, refl, Option, Some, None}
use Rattle.settings.specs.Settings.{quorum, vote_quorum}
use Rattle.settings.specs.declared.Settings.{Settings}
use Rattle.quorum.specs.Total.{total}
use Rattle.quorum.specs.Marks.{mark}
use Rattle.quorum.specs.Weights.{weight_of}
use Rattle.quorum.specs.Lowest.{lowest}
use Rattle.quorum.specs.Every.{every}
use Rattle.exits.specs.Exits.{Exit, exit_of, with_output, size_s, exit1_at, votes_done, exit2_at, exit3_full, insert, insert_output, outputs_of_s, no_exit, exit3, naming}

-- a vote decided 0, 1, or not
pub data Decision : Type 0 where
  d0 d1 undecided : Decision

is0 : Decision → Bool
is0 d0 = true
is0 d1 = false
is0 undecided = false

is1 : Decision → Bool
is1 d0 = false
is1 d1 = true
is1 undecided = false

-- element k of a list, from 1
at : {A : Type 0} → A → List A → ℕ → A
at d [] k = d
at d (x ∷ l) zero = d
at d (x ∷ l) (suc zero) = x
at d (x ∷ l) (suc (suc k)) = at d l (suc k)

pub record Row : Type 0 where
  pub broadcasts : List (Option ℕ)
  pub votes : List Decision

answers : Settings → List Row → List Exit
answers g [] = []
answers g (r ∷ rs) =
    exit_of g (at None r.broadcasts) (λ i. is0 (at undecided r.votes i)) (λ i. is1 (at undecided r.votes i)) ∷ answers g rs

-- n = 4 and ta = ts = 1, with the sum of the weights, and the weights as one word
four : ℕ → ℕ → Settings
four whole weights = record { n = 4; ta = 1; ts = 1; whole = whole; weights = weights }

row : Option ℕ → Option ℕ → Option ℕ → Option ℕ → Decision → Decision → Decision → Decision → Row
row a b c d e f g h = record { broadcasts = a ∷ b ∷ c ∷ d ∷ []; votes = e ∷ f ∷ g ∷ h ∷ [] }

v : ℕ → Option ℕ
v x = Some x

no : Option ℕ
no = None

table : List Row
table =
    row (v 5) (v 5) (v 5) no undecided undecided undecided undecided
    ∷ row (v 5) (v 5) no no undecided undecided undecided undecided
    ∷ row (v 5) (v 5) (v 6) no d1 d1 d1 d0
    ∷ row (v 5) (v 5) no no d1 d1 d1 d0
    ∷ row (v 5) (v 5) (v 6) no d1 d1 d1 undecided
    ∷ row (v 5) (v 7) (v 6) no d1 d1 d1 d0
    ∷ row (v 5) (v 7) no no d1 d1 d1 d0
    ∷ row (v 5) (v 6) no no d1 d1 d0 d0
    ∷ row (v 5) (v 5) (v 6) (v 6) d1 d1 d1 d1
    ∷ []

exit : ℕ → List ℕ → Exit
exit k xs = record { number = k; names = xs }

table_holds :
    answers (four 4 15) table
    ≡ exit 1 (5 ∷ [])
    ∷ exit 0 []
    ∷ exit 2 (5 ∷ [])
    ∷ exit 2 (5 ∷ [])
    ∷ exit 0 []
    ∷ exit 3 (5 ∷ 6 ∷ 7 ∷ [])
    ∷ exit 0 []
    ∷ exit 0 []
    ∷ exit 3 (5 ∷ 6 ∷ [])
    ∷ []
unfolding answers four row table v no exit at is0 is1 exit_of with_output size_s exit1_at votes_done exit2_at exit3_full insert insert_output outputs_of_s no_exit exit3 naming lowest every total weight_of mark quorum vote_quorum
table_holds = refl

-- the examples of PROTOCOL, section 6, with weights of 1
examples : List Row
examples =
    row (v 8) no (v 8) (v 8) undecided undecided undecided undecided
    ∷ row (v 8) (v 8) (v 9) no undecided undecided undecided undecided
    ∷ row (v 8) (v 9) (v 9) no d1 d1 d1 d0
    ∷ row (v 9) (v 9) no (v 8) d1 d1 d1 d0
    ∷ row (v 8) (v 9) (v 9) no d1 d1 d1 undecided
    ∷ row (v 8) (v 8) (v 9) (v 9) d1 d1 d1 d1
    ∷ row (v 9) (v 7) (v 8) no d1 d1 d1 d0
    ∷ row (v 9) (v 7) no (v 8) d1 d1 d1 d0
    ∷ row (v 7) (v 7) (v 8) (v 9) d1 d1 d0 d0
    ∷ []

examples_hold :
    answers (four 4 15) examples
    ≡ exit 1 (8 ∷ [])
    ∷ exit 0 []
    ∷ exit 2 (9 ∷ [])
    ∷ exit 2 (9 ∷ [])
    ∷ exit 0 []
    ∷ exit 3 (8 ∷ 9 ∷ [])
    ∷ exit 3 (7 ∷ 8 ∷ 9 ∷ [])
    ∷ exit 0 []
    ∷ exit 0 []
    ∷ []
unfolding answers four row examples v no exit at is0 is1 exit_of with_output size_s exit1_at votes_done exit2_at exit3_full insert insert_output outputs_of_s no_exit exit3 naming lowest every total weight_of mark quorum vote_quorum
examples_hold = refl

-- ta = 0 and ts = 1: Exit 1 goes by ts and wants 3, the others go by ta and want 4 votes decided 1
unequal : List Row
unequal =
    row (v 5) (v 5) (v 5) no undecided undecided undecided undecided
    ∷ row (v 5) (v 5) (v 6) no d1 d1 d1 d0
    ∷ row (v 5) (v 5) (v 6) (v 7) d1 d1 d1 d1
    ∷ []

unequal_holds :
    answers (record { n = 4; ta = 0; ts = 1; whole = 4; weights = 15 }) unequal
    ≡ exit 1 (5 ∷ [])
    ∷ exit 0 []
    ∷ exit 3 (5 ∷ 6 ∷ 7 ∷ [])
    ∷ []
unfolding answers row unequal v no exit at is0 is1 exit_of with_output size_s exit1_at votes_done exit2_at exit3_full insert insert_output outputs_of_s no_exit exit3 naming lowest every total weight_of mark quorum vote_quorum
unequal_holds = refl

-- ---- with weights

-- weights 4, 1, 1, 1: 7 in all, so Exit 1 needs 6, and s 6. The pack of the heavy one is the majority of S, where heads would name the
-- other's or Exit 1; without it s is too small.
heavy : List Row
heavy =
    row (v 5) (v 5) (v 5) no undecided undecided undecided undecided
    ∷ row (v 6) (v 5) (v 5) (v 5) undecided undecided undecided undecided
    ∷ row (v 5) (v 6) (v 6) no d1 d1 d1 d0
    ∷ row (v 8) (v 9) (v 9) no d1 d1 d1 d0
    ∷ row (v 5) (v 6) (v 6) (v 6) d0 d1 d1 d1
    ∷ []

heavy_holds :
    answers (four 7 (2 ^ 48 + 2 ^ 32 + 2 ^ 16 + 15)) heavy
    ≡ exit 1 (5 ∷ [])
    ∷ exit 0 []
    ∷ exit 2 (5 ∷ [])
    ∷ exit 2 (8 ∷ [])
    ∷ exit 0 []
    ∷ []
unfolding answers four row heavy v no exit at is0 is1 exit_of with_output size_s exit1_at votes_done exit2_at exit3_full insert insert_output outputs_of_s no_exit exit3 naming lowest every total weight_of mark quorum vote_quorum
heavy_holds = refl

-- weights 3, 1, 1, 1: half of the weight of S is no majority, though three of four heads hold 6
half_holds : answers (four 6 (2 ^ 32 + 2 ^ 16 + 15)) (row (v 5) (v 6) (v 6) (v 6) d1 d1 d1 d1 ∷ []) ≡ exit 3 (5 ∷ 6 ∷ []) ∷ []
unfolding answers four row v no exit at is0 is1 exit_of with_output size_s exit1_at votes_done exit2_at exit3_full insert insert_output outputs_of_s no_exit exit3 naming lowest every total weight_of mark quorum vote_quorum
half_holds = refl
