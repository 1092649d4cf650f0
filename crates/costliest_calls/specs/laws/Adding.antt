-- Sections of calls put on top of a list, and the calls at their places.
use Rattle.std.specs.Prelude.{ℕ, zero, suc, ◌+◌, ◌*◌, ◌-◌, ◌/◌, ◌%◌, ◌<◌, ◌≤◌, [], ◌∷◌, ◌≡◌, refl, length, Option, Some, None}
use Rattle.std.specs.Option.{option_map}
use Rattle.std.proofs.Common.{sym, ap, ◌∙◌, arith, suc-mul, mul-one, add-one, eq-eqb, ne_eqb, lt-ltb, le-ltb}
use Rattle.std.proofs.Math.Decide.{dec_le}
use Rattle.std.proofs.Math.Arith.{digits_div, digits_mod}
use Rattle.costliest.specs.Calls.{Calls, each}
use Rattle.costliest_calls.specs.Numbered.{call_at}
use Rattle.costliest_calls.specs.laws.Sections.{engine_call, joined, no_call}
use Rattle.costliest_calls.specs.declared.Call.{Call}

-- no call stands before the first or after the last
pub before_first : (cs : Calls) → call_at cs 0 ≡ None
unfolding call_at
before_first [] = refl
before_first (c ∷ cs) = rw (ne_eqb 0 (length cs + 1) (λ e. omega arith)) (before_first cs)

pub after_last : (cs : Calls) (k : ℕ) → length cs < k → call_at cs k ≡ None
unfolding call_at
after_last [] k h = refl
after_last (c ∷ cs) k h = rw (ne_eqb k (length cs + 1) (λ e. omega arith)) (after_last cs k (omega arith))

-- F puts m calls on top: g 0, the oldest of them, to g (m - 1)
pub record Adds (F : Calls → Calls) (m : ℕ) (g : ℕ → Option Call) : Type 0 where
  pub size : (cs : Calls) → length (F cs) ≡ m + length cs
  pub old : (cs : Calls) (k : ℕ) → k ≤ length cs → call_at (F cs) k ≡ call_at cs k
  pub new : (cs : Calls) (j : ℕ) → j < m → call_at (F cs) (length cs + 1 + j) ≡ option_map engine_call (g j)

pub adds_one : {c : Call} {g : ℕ → Option Call} → g 0 ≡ Some c → Adds (λ cs. engine_call c ∷ cs) 1 g
unfolding call_at
adds_one e =
    record {
      size = λ cs. omega arith;
      old = λ cs k h. rw (ne_eqb k (length cs + 1) (λ z. omega arith));
      new = λ cs j h.
          let z : j ≡ 0 = omega arith in
          rw (z, eq-eqb (length cs + 1 + 0) (length cs + 1) (omega arith)) (sym (ap (option_map engine_call) e));
    }

-- the same calls, said in another way
pub adds_as : {F : Calls → Calls} {m k : ℕ} {g h : ℕ → Option Call} → m ≡ k → ((j : ℕ) → j < k → g j ≡ h j) → Adds F m g → Adds F k h
adds_as e f a =
    record {
      size = λ cs. a.size cs ∙ ap (λ (x : ℕ). x + length cs) e;
      old = a.old;
      new = λ cs j l. a.new cs j (omega arith) ∙ ap (option_map engine_call) (f j l);
    }

pub joined_first : (m : ℕ) (g h : ℕ → Option Call) (j : ℕ) → j < m → joined m g h j ≡ g j
unfolding joined
joined_first m g h j l = rw (lt-ltb j m l)

pub joined_rest : (m : ℕ) (g h : ℕ → Option Call) (j : ℕ) → m ≤ j → joined m g h j ≡ h (j - m)
unfolding joined
joined_rest m g h j l = rw (le-ltb j m l)

-- F after G
pub adds_joined : {F G : Calls → Calls} {m k : ℕ} {g h : ℕ → Option Call} → Adds G m g → Adds F k h → Adds (λ cs. F (G cs)) (m + k) (joined m g h)
adds_joined {F} {G} {m} {k} {g} {h} a b =
    record {
      size = λ cs. omega (arith, b.size (G cs), a.size cs);
      old = λ cs i l. b.old (G cs) i (omega (arith, a.size cs)) ∙ a.old cs i l;
      new = λ cs j l. at cs j l (dec_le m j);
    }
  where
    at : (cs : Calls) (j : ℕ) → j < m + k → Dec (m ≤ j) → call_at (F (G cs)) (length cs + 1 + j) ≡ option_map engine_call (joined m g h j)
    at cs j l (yes q) =
        let e : length cs + 1 + j ≡ length (G cs) + 1 + (j - m) = omega (arith, a.size cs) in
        ap (call_at (F (G cs))) e ∙ b.new (G cs) (j - m) (omega arith) ∙ ap (option_map engine_call) (sym (joined_rest m g h j q))
    at cs j l (no q) =
        b.old (G cs) (length cs + 1 + j) (omega (arith, a.size cs)) ∙ a.new cs j (omega arith) ∙ ap (option_map engine_call) (sym (joined_first m g h j (omega arith)))

-- the places of a section of n·m calls and m more
next_digits : (n m : ℕ) (g : ℕ → ℕ → Option Call) (j : ℕ) → j < n * m + m → Dec (n * m ≤ j) →
    joined (n * m) (λ i. g (i / m + 1) (i % m)) (g (suc n)) j ≡ g (j / m + 1) (j % m)
next_digits n m g j l (no q) = joined_first (n * m) (λ i. g (i / m + 1) (i % m)) (g (suc n)) j (omega arith)
next_digits n m g j l (yes q) =
    let e : n * m + (j - n * m) ≡ j = omega arith in
    let d : j / m ≡ n = ap (λ (x : ℕ). x / m) (sym e) ∙ digits_div n {m = m} {r = j - n * m} (omega arith) in
    let r : j % m ≡ j - n * m = ap (λ (x : ℕ). x % m) (sym e) ∙ digits_mod n {m = m} {r = j - n * m} (omega arith) in
    joined_rest (n * m) (λ i. g (i / m + 1) (i % m)) (g (suc n)) j q ∙ rw (d, r, add-one)

-- where f i adds the calls g i, each adds those of 1 to n
pub adds_each : {f : ℕ → Calls → Calls} {m : ℕ} {g : ℕ → ℕ → Option Call} → ((i : ℕ) → Adds (f i) m (g i)) → (n : ℕ) → Adds (each f n) (n * m) (λ j. g (j / m + 1) (j % m))
unfolding each
adds_each a zero = record { size = λ cs. omega arith; old = λ cs k l. refl; new = λ cs j l. absurd (omega arith) }
adds_each {f} {m} {g} a (suc n) =
    adds_as
    (sym (suc-mul n m))
    (λ j l. next_digits n m g j (omega (arith, suc-mul n m)) (dec_le (n * m) j))
    (adds_joined (adds_each a n) (a (suc n)))

-- the same where each f i adds one
pub adds_single : {f : ℕ → Calls → Calls} {g : ℕ → Option Call} → ((i : ℕ) → Adds (f i) 1 (λ j. g i)) → (n : ℕ) → Adds (each f n) n (λ j. g (j + 1))
adds_single {f} {g} a n = adds_as (mul-one n) (λ j l. ap g (omega arith)) (adds_each {f = f} {m = 1} {g = λ i j. g i} a n)

-- F puts the last calls of a session on top: no call comes after the m of g
pub record Ends (F : Calls → Calls) (m : ℕ) (g : ℕ → Option Call) : Type 0 where
  pub adds : Adds F m g
  pub done : (j : ℕ) → m ≤ j → g j ≡ None

pub ends_here : Ends (λ cs. cs) 0 no_call
ends_here =
    record {
      adds = record { size = λ cs. omega arith; old = λ cs k l. refl; new = λ cs j l. absurd (omega arith) };
      done = λ j l. refl;
    }

pub ends_joined : {F G : Calls → Calls} {m k : ℕ} {g h : ℕ → Option Call} → Adds G m g → Ends F k h → Ends (λ cs. F (G cs)) (m + k) (joined m g h)
ends_joined {F} {G} {m} {k} {g} {h} a e =
    record {
      adds = adds_joined a e.adds;
      done = λ j l. joined_rest m g h j (omega arith) ∙ e.done (j - m) (omega arith);
    }

-- call k of the whole
pub ends_whole : {F : Calls → Calls} {m : ℕ} {g : ℕ → Option Call} → Ends F m g → (k : ℕ) → 1 ≤ k → option_map engine_call (g (k - 1)) ≡ call_at (F []) k
ends_whole {F} {m} {g} e k l = at (dec_le k m)
  where
    at : Dec (k ≤ m) → option_map engine_call (g (k - 1)) ≡ call_at (F []) k
    at (yes q) =
        let z : 1 + (k - 1) ≡ k = omega arith in
        sym (e.adds.new [] (k - 1) (omega arith)) ∙ ap (call_at (F [])) z
    at (no q) = ap (option_map engine_call) (e.done (k - 1) (omega arith)) ∙ sym (after_last (F []) k (omega (arith, e.adds.size [])))
