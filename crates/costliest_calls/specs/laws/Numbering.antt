-- The sections of the code hold the calls of the costliest session, each at its place.
use Rattle.std.specs.Prelude.{ℕ, zero, suc, ◌+◌, ◌*◌, ◌-◌, ◌<◌, ◌≤◌, ◌≡◌, refl, Some}
use Rattle.std.specs.Option.{option_map}
use Rattle.std.proofs.Common.{sym, ap, arith, mul_comm, mul_left_comm, eq-eqb, ne_eqb, le-ltb}
use Rattle.std.proofs.Math.Decide.{dec_le, ℕ_discrete}
use Rattle.wire.specs.declared.Message.{Message}
use Rattle.wire.specs.declared.Message.TheVariants.{Send, Ready, Est, Aux, Commit}
use Rattle.costliest.specs.Calls.{each, say, turns, sends, readies, ests, auxs, commit, heard, acted, costly, five, costliest_calls}
use Rattle.costliest_calls.specs.Numbered.{call_at}
use Rattle.costliest_calls.specs.laws.Sections.{engine_call, joined, turn_call, send_call, ready_call, est_call, aux_call, first_commit, commit_call, later_call, call_of_many, call_of_one, call_of}
use Rattle.costliest_calls.specs.laws.Adding.{before_first, after_last, Adds, adds_one, adds_as, joined_first, joined_rest, adds_joined, adds_each, adds_single, Ends, ends_here, ends_joined, ends_whole}
use Rattle.costliest_calls.specs.declared.Call.TheVariants.{Delivery, Turn}

-- ---- the sections

say_adds : (p : ℕ) (m : Message) → Adds (say p m) 1 (λ j. Some (Delivery p m))
unfolding say engine_call
say_adds p m = adds_one {c = Delivery p m} refl

turns_adds : (k : ℕ) → Adds (turns k) k turn_call
unfolding turns engine_call
turns_adds k = adds_single (λ i. adds_one {c = Turn} refl) k

sends_adds : (n : ℕ) → Adds (sends n) n send_call
unfolding sends
sends_adds n = adds_single (λ i. say_adds i (Send i i)) n

readies_adds : (n : ℕ) → Adds (readies n) (n * n) (ready_call n)
unfolding readies
readies_adds n = adds_each (λ i. adds_single (λ p. say_adds p (Ready i i)) n) n

-- EST of 0 and 1
two_adds : (i r : ℕ) → Adds (λ cs. say 1 (Est i r 1) (say 1 (Est i r 0) cs)) 2 (λ b. Some (Delivery 1 (Est i r b)))
two_adds i r = adds_as refl bit (adds_joined (say_adds 1 (Est i r 0)) (say_adds 1 (Est i r 1)))
  where
    bit : (j : ℕ) → j < 2 → joined 1 (λ b. Some (Delivery 1 (Est i r 0))) (λ b. Some (Delivery 1 (Est i r 1))) j ≡ Some (Delivery 1 (Est i r j))
    bit zero l = joined_first _ _ _ 0 (omega arith)
    bit (suc zero) l = joined_rest _ _ _ 1 (omega arith)
    bit (suc (suc j)) l = absurd (omega arith)

ests_adds : (n : ℕ) → Adds (ests n) (64 * n) est_call
unfolding ests
ests_adds n = adds_as (mul_comm n 64) (λ j l. refl) (adds_each (λ i. adds_each (λ r. two_adds i r) 32) n)

auxs_adds : (n : ℕ) → Adds (auxs n) (32 * (n * n)) (aux_call n)
unfolding auxs
auxs_adds n =
    adds_as (mul_left_comm n 32 n) (λ j l. refl)
    (adds_each (λ i. adds_each (λ r. adds_single (λ p. say_adds p (Aux i r 0)) n) 32) n)

first_adds : (n : ℕ) → Adds (commit n 1) 1 (first_commit n)
unfolding commit
first_adds n = say_adds 1 (Commit n)

commits_adds : (n k : ℕ) → Adds (each (λ p. commit n (p + 1)) k) k (commit_call n)
unfolding commit
commits_adds n k =
    adds_as refl
    (λ j l. let e : j + 1 + 1 ≡ j + 2 = omega arith in ap (λ (p : ℕ). Some (Delivery p (Commit n))) e)
    (adds_single (λ p. say_adds (p + 1) (Commit n)) k)

-- ---- the whole session

-- how many calls there are from the first COMMIT on
abbrev later_count : ℕ → ℕ
later_count n = 1 + (99 * n + 2 + (n - 1 + (1 + 0)))

later_ends : (n : ℕ) → Ends (λ cs. turns 1 (each (λ p. commit n (p + 1)) (n - 1) (turns (99 * n + 2) (commit n 1 cs)))) (later_count n) (later_call n)
unfolding later_call
later_ends n = ends_joined (first_adds n) (ends_joined (turns_adds (99 * n + 2)) (ends_joined (commits_adds n (n - 1)) (ends_joined (turns_adds 1) ends_here)))

many_at : (n k : ℕ) → 1 ≤ k → option_map engine_call (call_of_many n (k - 1)) ≡ call_at (costly n) k
unfolding call_of_many costly acted heard
many_at n k l = ends_whole (ends_joined (sends_adds n) (ends_joined (readies_adds n) (ends_joined (ests_adds n) (ends_joined (auxs_adds n) (later_ends n))))) k l

-- one alone: each of the nine calls is computed
one_of_nine : (k : ℕ) → k < 10 → 1 ≤ k → option_map engine_call (call_of_one k) ≡ call_at five k
unfolding call_of_one engine_call call_at five turns each commit say
one_of_nine zero l h = absurd (omega arith)
one_of_nine (suc zero) l h = refl
one_of_nine (suc (suc zero)) l h = refl
one_of_nine (suc (suc (suc zero))) l h = refl
one_of_nine (suc (suc (suc (suc zero)))) l h = refl
one_of_nine (suc (suc (suc (suc (suc zero))))) l h = refl
one_of_nine (suc (suc (suc (suc (suc (suc zero)))))) l h = refl
one_of_nine (suc (suc (suc (suc (suc (suc (suc zero))))))) l h = refl
one_of_nine (suc (suc (suc (suc (suc (suc (suc (suc zero)))))))) l h = refl
one_of_nine (suc (suc (suc (suc (suc (suc (suc (suc (suc zero))))))))) l h = refl
one_of_nine (suc (suc (suc (suc (suc (suc (suc (suc (suc (suc k)))))))))) l h = absurd (omega arith)

one_after : (k : ℕ) → 10 ≤ k → option_map engine_call (call_of_one k) ≡ call_at five k
unfolding call_of_one five turns each commit say
one_after k l =
    rw (ne_eqb k 2 (λ e. omega arith), ne_eqb k 4 (λ e. omega arith), ne_eqb k 6 (λ e. omega arith), ne_eqb k 8 (λ e. omega arith), le-ltb k 10 l)
    (sym (after_last five k l))

one_at : (k : ℕ) → 1 ≤ k → option_map engine_call (call_of_one k) ≡ call_at five k
one_at k h = elim (dec_le 10 k) [ yes l ↦ one_after k l | no l ↦ one_of_nine k (omega arith) h ]

-- call k of the code is call k of the list
pub call_at_lem : (n k : ℕ) → option_map engine_call (call_of n k) ≡ call_at (costliest_calls n) k
unfolding call_of costliest_calls
call_at_lem n k = at (ℕ_discrete k 0) (ℕ_discrete n 1)
  where
    at : Dec (k ≡ 0) → Dec (n ≡ 1) → option_map engine_call (call_of n k) ≡ call_at (costliest_calls n) k
    at (yes e) d = rw e (sym (before_first (costliest_calls n)))
    at (no e) (yes d) = rw (ne_eqb k 0 e, eq-eqb n 1 d) (one_at k (omega arith))
    at (no e) (no d) = rw (ne_eqb k 0 e, ne_eqb n 1 d) (many_at n k (omega arith))
