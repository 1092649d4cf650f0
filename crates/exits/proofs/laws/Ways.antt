-- How an exit comes to be named: `exit_of` taken apart.
use Rattle.std.specs.Prelude.{ℕ, ◌*◌, ◌<◌, ◌≤◌, Bool, ◌&&◌, cond, ◌≢◌, ◌≡◌, eqb, Option, Some, None}
use Rattle.std.proofs.Math.Bool.{true, false}
use Rattle.std.proofs.Math.Path.{refl}
use Rattle.std.proofs.Common.{arith}
use Rattle.std.proofs.Math.Dec.{leb, ltb}
use borrow.Author.Tests.{leb-true, ltb-true, eqb-true, eqb-false}
use Rattle.quorum.specs.laws.Bools.{and_left, and_right}
use Rattle.settings.specs.Settings.{quorum}
use Rattle.settings.specs.declared.Settings.{Settings}
use Rattle.quorum.specs.laws.Lowest.{Lowest, lowest_is}
use Rattle.broadcasts.specs.Leading.{present}
use Rattle.exits.specs.Exits.{Exit, no_exit, naming, value_in, every_broadcast, with_output, size_s, exit1_at, exit2_at, exit3_full, exit3, exit_of, votes_done}
use Rattle.exits.specs.laws.Stated.{single_exit, outputs_exit}

module _ (g : Settings) (o : ℕ → Option ℕ) where
  -- what Exit 1 asks of v
  pub record First (v : ℕ) : Type 0 where
    pub at : ℕ
    pub low : 1 ≤ at
    pub high : at ≤ g.n
    pub output : o at ≡ Some v
    pub many : quorum g ≤ with_output g o every_broadcast v

  -- what Exit 2 asks of v
  pub record Second (as1 : ℕ → Bool) (v : ℕ) : Type 0 where
    pub at : ℕ
    pub low : 1 ≤ at
    pub high : at ≤ g.n
    pub in_s : as1 at ≡ true
    pub output : o at ≡ Some v
    pub more : size_s g as1 < 2 * with_output g o as1 v

  value_of : (x : Option ℕ) → present x ≡ true → x ≡ Some (value_in x)
  value_of (Some v) e = refl
  value_of None e = absurd (let z : ◌≡◌ {A = ℕ} 0 1 = cc in omega arith)

  pub exit1_first : exit1_at g o ≢ 0 → First (value_in (o (exit1_at g o)))
  unfolding exit1_at
  exit1_first ne = of (lowest_is (λ i. present (o i) && leb (quorum g) (with_output g o every_broadcast (value_in (o i)))) g.n (exit1_at g o) refl ne)
    where
      of : Lowest (λ i. present (o i) && leb (quorum g) (with_output g o every_broadcast (value_in (o i)))) g.n (exit1_at g o) → First (value_in (o (exit1_at g o)))
      of f =
          record {
            at = exit1_at g o;
            low = f.low;
            high = f.high;
            output = value_of (o (exit1_at g o)) (and_left (present (o (exit1_at g o))) _ f.holds);
            many = leb-true _ _ (and_right (present (o (exit1_at g o))) _ f.holds);
          }

  pub exit2_second : (as1 : ℕ → Bool) → exit2_at g o as1 ≢ 0 → Second as1 (value_in (o (exit2_at g o as1)))
  unfolding exit2_at
  exit2_second as1 ne = of (lowest_is (λ i. as1 i && (present (o i) && ltb (size_s g as1) (2 * with_output g o as1 (value_in (o i))))) g.n (exit2_at g o as1) refl ne)
    where
      of : Lowest (λ i. as1 i && (present (o i) && ltb (size_s g as1) (2 * with_output g o as1 (value_in (o i))))) g.n (exit2_at g o as1) → Second as1 (value_in (o (exit2_at g o as1)))
      of f =
          let there = and_right (as1 (exit2_at g o as1)) _ f.holds in
          record {
            at = exit2_at g o as1;
            low = f.low;
            high = f.high;
            in_s = and_left (as1 (exit2_at g o as1)) _ f.holds;
            output = value_of (o (exit2_at g o as1)) (and_left (present (o (exit2_at g o as1))) _ there);
            more = ltb-true _ _ (and_right (present (o (exit2_at g o as1))) _ there);
          }

  module _ (as0 as1 : ℕ → Bool) where
    -- the four ways to an answer x
    pub data Way (x : Exit) : Type 0 where
      first : (v : ℕ) → exit1_at g o ≢ 0 → First v → x ≡ single_exit 1 v → Way x
      second : (v : ℕ) → exit1_at g o ≡ 0 → votes_done g as0 as1 ≡ true → Second as1 v → x ≡ single_exit 2 v → Way x
      third : exit1_at g o ≡ 0 → votes_done g as0 as1 ≡ true → exit2_at g o as1 ≡ 0 → exit3_full g o as1 ≡ true → x ≡ outputs_exit g o as1 → Way x
      none : exit1_at g o ≡ 0 → x ≡ no_exit → Way x

    third_way : (e : Bool) → exit1_at g o ≡ 0 → votes_done g as0 as1 ≡ true → exit2_at g o as1 ≡ 0 → exit3_full g o as1 ≡ e → Way (cond e (outputs_exit g o as1) no_exit)
    third_way true a b c d = third a b c d refl
    third_way false a b c d = none a refl

    second_way : (e : Bool) → eqb (exit2_at g o as1) 0 ≡ e → exit1_at g o ≡ 0 → votes_done g as0 as1 ≡ true → Way (cond e (exit3 g o as1) (single_exit 2 (value_in (o (exit2_at g o as1)))))
    unfolding exit3 outputs_exit
    second_way true z a b = third_way (exit3_full g o as1) a b (eqb-true (exit2_at g o as1) 0 z) refl
    second_way false z a b = second (value_in (o (exit2_at g o as1))) a b (exit2_second as1 (eqb-false (exit2_at g o as1) 0 z)) refl

    later_way : (e : Bool) → votes_done g as0 as1 ≡ e → exit1_at g o ≡ 0 → Way (cond e (naming 2 o (exit2_at g o as1) (exit3 g o as1)) no_exit)
    unfolding naming single_exit
    later_way true b a = second_way (eqb (exit2_at g o as1) 0) refl a b
    later_way false b a = none a refl

    first_way : (e : Bool) → eqb (exit1_at g o) 0 ≡ e → Way (cond e (cond (votes_done g as0 as1) (naming 2 o (exit2_at g o as1) (exit3 g o as1)) no_exit) (single_exit 1 (value_in (o (exit1_at g o)))))
    first_way true z = later_way (votes_done g as0 as1) refl (eqb-true (exit1_at g o) 0 z)
    first_way false z = let ne : exit1_at g o ≢ 0 = eqb-false (exit1_at g o) 0 z in first (value_in (o (exit1_at g o))) ne (exit1_first ne) refl

    pub way : Way (exit_of g o as0 as1)
    unfolding exit_of naming single_exit
    way = first_way (eqb (exit1_at g o) 0) refl
