-- Two standings that contradict each other nowhere name the same set.
use Prim.Native.Nat.{ℕ, ◌+◌, ◌*◌, ◌<◌, ◌≤◌}
use Rattle.std.proofs.Math.Bool.{Bool, not}
use Rattle.std.specs.Prelude.{true, false, ◌&&◌, ◌||◌, List, [], ◌∷◌, ◌≡◌, refl, leb, Option, Some, None}
use Rattle.std.proofs.lemmas.Bool.{false≢true}
use Rattle.std.proofs.Math.Path.{sym}
use Rattle.std.proofs.Common.{ap, ◌∙◌, arith, leb-true, lt-ltb, eqb-true, eq-eqb}
use Rattle.std.proofs.Math.Dec.{ltb}
use Rattle.quorum.specs.laws.Bools.{and_left, and_right, and_both}
use Rattle.settings.specs.Settings.{weighed, vote_quorum}
use Rattle.settings.specs.Rules.{Ruled}
use Rattle.settings.specs.laws.Thresholds.{quorum_reached, vote_quorum_reached}
use Rattle.settings.specs.declared.Settings.{Settings}
use Rattle.quorum.specs.Total.{everyone}
use Rattle.quorum.specs.Weights.{weight_of}
use Rattle.quorum.specs.Whole.{whole_of}
use Rattle.quorum.specs.laws.Total.{Member, total_member, total_meet, total_meet_in, total_mono}
use Rattle.quorum.specs.laws.Lowest.{lowest_none}
use Rattle.quorum.specs.Every.{every}
use Rattle.quorum.specs.laws.Every.{every_each}
use Rattle.broadcasts.specs.Leading.{present}
use Rattle.exits.specs.Exits.{Exit, no_exit, has_value, value_in, with_output, size_s, exit2_at, exit3_full, votes_done, insert_output, outputs_of_s}
use Rattle.exits.specs.Standing.{Standing, exit_at}
use Rattle.exits.specs.laws.Stated.{single_exit, outputs_exit}
use Rattle.exits.specs.laws.Rising.{outputs_agree}
use Rattle.exits.proofs.laws.Ways.{First, Second, Way, first, second, third, none, way}
use Rattle.exits.proofs.laws.Exits.{given}

-- no output and no decision of one contradicts one of the other
pub record Compatible (n : ℕ) (s t : Standing) : Type 0 where
  pub outs : (i u v : ℕ) → 1 ≤ i → i ≤ n → s.out i ≡ Some u → t.out i ≡ Some v → u ≡ v
  pub one_zero : (i : ℕ) → 1 ≤ i → i ≤ n → s.as1 i ≡ true → t.as0 i ≡ true → ⊥
  pub zero_one : (i : ℕ) → 1 ≤ i → i ≤ n → s.as0 i ≡ true → t.as1 i ≡ true → ⊥

pub turned : {n : ℕ} {s t : Standing} → Compatible n s t → Compatible n t s
turned c =
    record {
      outs = λ i u v a b x y. sym (c.outs i v u a b y x);
      one_zero = λ i a b x y. c.zero_one i a b y x;
      zero_one = λ i a b x y. c.one_zero i a b y x;
    }

pub has_value_lem : (x : Option ℕ) (v : ℕ) → has_value x v ≡ true → x ≡ Some v
has_value_lem (Some u) v e = ap Some (eqb-true u v e)
has_value_lem None v e = absurd (false≢true e)

pub value_has : (x : Option ℕ) (v : ℕ) → x ≡ Some v → has_value x v ≡ true
value_has x v e = rw e (eq-eqb v v refl)

-- of two tests of which one passes, not the first: the second
other : (a b : Bool) → a || b ≡ true → (a ≡ true → ⊥) → b ≡ true
other true b e h = absurd (h refl)
other false b e h = e

both_same : (a b : Bool) → (a ≡ true → b ≡ true) → (b ≡ true → a ≡ true) → a ≡ b
both_same true true f k = refl
both_same true false f k = sym (f refl)
both_same false true f k = k refl
both_same false false f k = refl

insert_same : (b c : Bool) (x y : Option ℕ) (xs : List ℕ) → b ≡ c → (b ≡ true → x ≡ y) → insert_output b x xs ≡ insert_output c y xs
unfolding insert_output
insert_same true true x y xs e f = ap (λ (z : Option ℕ). insert_output true z xs) (f refl)
insert_same true false x y xs e f = absurd (false≢true (sym e))
insert_same false true x y xs e f = absurd (false≢true e)
insert_same false false x y xs e f = refl

names_of : (x y : Exit) → x ≡ y → x.names ≡ y.names
names_of x y e = ap (λ (z : Exit). z.names) e

-- broadcast i has output v, and is in S
abbrev pub holding : Standing → ℕ → ℕ → Bool
holding s v i = has_value (s.out i) v

abbrev pub both : Standing → ℕ → ℕ → Bool
both s v i = s.as1 i && has_value (s.out i) v

module _ (g : Settings) where
  abbrev pub C : (ℕ → Bool) → ℕ
  C M = weighed g M

  abbrev pub Done : Standing → Type 0
  Done s = votes_done g s.as0 s.as1 ≡ true

  abbrev pub Full : Standing → Type 0
  Full s = exit3_full g s.out s.as1 ≡ true

  abbrev pub NoMajority : Standing → Type 0
  NoMajority s = exit2_at g s.out s.as1 ≡ 0

  module _ (s : Standing) where
    pub first_many : (v : ℕ) → First g s.out v → g.whole ≤ C (holding s v) + g.ts
    unfolding with_output
    first_many v f = quorum_reached g (C (holding s v)) f.many

    pub second_more : (v : ℕ) → Second g s.out s.as1 v → C s.as1 < 2 * C (both s v)
    unfolding with_output size_s
    second_more v f = f.more

    pub done_size : Done s → g.whole ≤ C s.as1 + g.ta
    unfolding votes_done size_s
    done_size d = vote_quorum_reached g (C s.as1) (leb-true (vote_quorum g) (C s.as1) (and_left _ (every (λ i. s.as0 i || s.as1 i) g.n) d))

    done_decided : Done s → (i : ℕ) → 1 ≤ i → i ≤ g.n → s.as0 i || s.as1 i ≡ true
    unfolding votes_done
    done_decided d i a b = every_each (λ k. s.as0 k || s.as1 k) g.n (and_right (leb (vote_quorum g) (size_s g s.as1)) (every (λ k. s.as0 k || s.as1 k) g.n) d) i a b

    pub full_given : Full s → (i : ℕ) → 1 ≤ i → i ≤ g.n → s.as1 i ≡ true → s.out i ≡ Some (value_in (s.out i))
    unfolding exit3_full
    full_given f i a b t = given (s.as1 i) (s.out i) (every_each (λ k. not (s.as1 k) || present (s.out k)) g.n f i a b) t

    -- no majority, and yet one
    pub no_majority : NoMajority s → (v : ℕ) → C s.as1 < 2 * C (both s v) → ⊥
    unfolding exit2_at with_output size_s
    no_majority z v l = at (total_member (weight_of g.weights) (both s v) g.n (omega arith))
      where
        test : ℕ → Bool
        test i = s.as1 i && (present (s.out i) && ltb (size_s g s.as1) (2 * with_output g s.out s.as1 (value_in (s.out i))))

        at : Member g.n (both s v) → ⊥
        at m =
            let chosen : s.as1 m.at ≡ true = and_left (s.as1 m.at) (holding s v m.at) m.holds in
            let output : s.out m.at ≡ Some v = has_value_lem (s.out m.at) v (and_right (s.as1 m.at) (holding s v m.at) m.holds) in
            let fails : test m.at ≡ false = lowest_none test g.n z m.at m.low m.high in
            let passes : test m.at ≡ true = rw (chosen, output) (lt-ltb (C s.as1) (2 * C (both s v)) l) in
            false≢true (sym fails ∙ passes)

-- both standings at once
module _ (g : Settings) (s t : Standing) (c : Compatible g.n s t) where
  -- a number that two sets of broadcasts share has one output
  meets : (u v : ℕ) (M K : ℕ → Bool) → ((i : ℕ) → M i ≡ true → holding s u i ≡ true) → ((i : ℕ) → K i ≡ true → holding t v i ≡ true) → 0 < weighed g (λ i. M i && K i) → u ≡ v
  meets u v M K f k l = at (total_member (weight_of g.weights) (λ i. M i && K i) g.n l)
    where
      at : Member g.n (λ i. M i && K i) → u ≡ v
      at m =
          c.outs m.at u v m.low m.high
          (has_value_lem (s.out m.at) u (f m.at (and_left (M m.at) (K m.at) m.holds)))
          (has_value_lem (t.out m.at) v (k m.at (and_right (M m.at) (K m.at) m.holds)))

  into_s : Done g t → (i : ℕ) → 1 ≤ i → i ≤ g.n → s.as1 i ≡ true → t.as1 i ≡ true
  into_s d i a b e = other (t.as0 i) (t.as1 i) (done_decided g t d i a b) (λ z. c.one_zero i a b e z)

  -- t has all outputs of its S: where s has output v there, so has t
  carried : Full g t → (v i : ℕ) → 1 ≤ i → i ≤ g.n → t.as1 i ≡ true → holding s v i ≡ true → both t v i ≡ true
  carried f v i a b x y =
      let output : t.out i ≡ Some (value_in (t.out i)) = full_given g t f i a b x in
      let e : v ≡ value_in (t.out i) = c.outs i v (value_in (t.out i)) a b (has_value_lem (s.out i) v y) output in
      and_both (t.as1 i) (holding t v i) x (value_has (t.out i) v (output ∙ ap Some (sym e)))

module _ (g : Settings) (r : Ruled g) (s t : Standing) (c : Compatible g.n s t) where
  whole : weighed g everyone ≡ g.whole
  unfolding whole_of
  whole = sym r.sum

  case11 : (u v : ℕ) → First g s.out u → First g t.out v → u ≡ v
  case11 u v x y =
      meets g s t c u v (holding s u) (holding t v) (λ i k. k) (λ i k. k)
      (omega (arith, r.margin, whole, first_many g s u x, first_many g t v y, total_meet (weight_of g.weights) (holding s u) (holding t v) g.n))

  case12 : (u v : ℕ) → First g s.out u → Done g t → Second g t.out t.as1 v → u ≡ v
  case12 u v x d y =
      meets g s t c u v (holding s u) (both t v) (λ i k. k) (λ i k. and_right (t.as1 i) (holding t v i) k)
      (omega (arith, r.margin, whole, first_many g s u x, second_more g t v y, done_size g t d, total_meet (weight_of g.weights) (holding s u) (both t v) g.n))

  case13 : (u : ℕ) → First g s.out u → Done g t → NoMajority g t → Full g t → ⊥
  case13 u x d z f =
      no_majority g t z u
      (omega (
        arith,
        r.margin,
        whole,
        first_many g s u x,
        done_size g t d,
        total_meet (weight_of g.weights) t.as1 (holding s u) g.n,
        total_mono (weight_of g.weights) (λ i. t.as1 i && holding s u i) (both t u) g.n
            (λ i a b k. carried g s t c f u i a b (and_left (t.as1 i) (holding s u i) k) (and_right (t.as1 i) (holding s u i) k)),
      ))

  -- with all votes decided the two have the same S
  same_s : Done g s → Done g t → (i : ℕ) → 1 ≤ i → i ≤ g.n → s.as1 i ≡ t.as1 i
  same_s d e i a b = both_same (s.as1 i) (t.as1 i) (into_s g s t c e i a b) (into_s g t s (turned c) d i a b)

  case22 : (u v : ℕ) → Done g s → Second g s.out s.as1 u → Done g t → Second g t.out t.as1 v → u ≡ v
  case22 u v d x e y =
      meets g s t c u v (both s u) (both t v) (λ i k. and_right (s.as1 i) (holding s u i) k) (λ i k. and_right (t.as1 i) (holding t v i) k)
      (omega (
        arith,
        second_more g s u x,
        second_more g t v y,
        total_meet_in (weight_of g.weights) (both s u) (both t v) t.as1 g.n (λ i a b k. into_s g s t c e i a b (and_left (s.as1 i) (holding s u i) k)) (λ i a b k. and_left (t.as1 i) (holding t v i) k),
        total_mono (weight_of g.weights) t.as1 s.as1 g.n (into_s g t s (turned c) d),
      ))

  case23 : (u : ℕ) → Done g s → Second g s.out s.as1 u → Done g t → NoMajority g t → Full g t → ⊥
  case23 u d x e z f =
      no_majority g t z u
      (omega (
        arith,
        second_more g s u x,
        total_mono (weight_of g.weights) t.as1 s.as1 g.n (into_s g t s (turned c) d),
        total_mono (weight_of g.weights) (both s u) (both t u) g.n
            (λ i a b k. carried g s t c f u i a b (into_s g s t c e i a b (and_left (s.as1 i) (holding s u i) k)) (and_right (s.as1 i) (holding s u i) k)),
      ))

  case33 : Done g s → Full g s → Done g t → Full g t → outputs_of_s s.out s.as1 g.n ≡ outputs_of_s t.out t.as1 g.n
  case33 d f e h = outputs_agree s.out t.out s.as1 t.as1 g.n at
    where
      at : (i : ℕ) → 1 ≤ i → i ≤ g.n → (xs : List ℕ) → insert_output (s.as1 i) (s.out i) xs ≡ insert_output (t.as1 i) (t.out i) xs
      at i a b xs = insert_same (s.as1 i) (t.as1 i) (s.out i) (t.out i) xs (same_s d e i a b) same
        where
          same : s.as1 i ≡ true → s.out i ≡ t.out i
          same k =
              let x : s.out i ≡ Some (value_in (s.out i)) = full_given g s f i a b k in
              let y : t.out i ≡ Some (value_in (t.out i)) = full_given g t h i a b (into_s g s t c e i a b k) in
              let q : value_in (s.out i) ≡ value_in (t.out i) = c.outs i (value_in (s.out i)) (value_in (t.out i)) a b x y in
              x ∙ ap Some q ∙ sym y

-- a way that names a set: the set, and what stands behind it
pub data Naming (g : Settings) (s : Standing) (X : List ℕ) : Type 0 where
  by1 : (v : ℕ) → First g s.out v → X ≡ v ∷ [] → Naming g s X
  by2 : (v : ℕ) → Done g s → Second g s.out s.as1 v → X ≡ v ∷ [] → Naming g s X
  by3 : Done g s → NoMajority g s → Full g s → X ≡ outputs_of_s s.out s.as1 g.n → Naming g s X

pub naming_of : (g : Settings) (s : Standing) → ((exit_at g s).number ≡ 0 → ⊥) → Naming g s (exit_at g s).names
unfolding single_exit outputs_exit no_exit
naming_of g s ne = go (exit_at g s) ne (way g s.out s.as0 s.as1)
  where
    go : (x : Exit) → (x.number ≡ 0 → ⊥) → Way g s.out s.as0 s.as1 x → Naming g s x.names
    go x n (first v k f e) = by1 v f (names_of x (single_exit 1 v) e)
    go x n (second v a d f e) = by2 v d f (names_of x (single_exit 2 v) e)
    go x n (third a d z f e) = by3 d z f (names_of x (outputs_exit g s.out s.as1) e)
    go x n (none a e) = absurd (n (ap (λ (z : Exit). z.number) e))

module _ (g : Settings) (r : Ruled g) where
  same_set_lem : (s t : Standing) → Compatible g.n s t → (X Y : List ℕ) → Naming g s X → Naming g t Y → X ≡ Y
  same_set_lem s t c X Y (by1 u a x) (by1 v b y) = let e : u ≡ v = case11 g r s t c u v a b in cc
  same_set_lem s t c X Y (by1 u a x) (by2 v k b y) = let e : u ≡ v = case12 g r s t c u v a k b in cc
  same_set_lem s t c X Y (by1 u a x) (by3 k z f y) = absurd (case13 g r s t c u a k z f)
  same_set_lem s t c X Y (by2 u d a x) (by1 v b y) = let e : v ≡ u = case12 g r t s (turned c) v u b d a in cc
  same_set_lem s t c X Y (by2 u d a x) (by2 v k b y) = let e : u ≡ v = case22 g r s t c u v d a k b in cc
  same_set_lem s t c X Y (by2 u d a x) (by3 k z f y) = absurd (case23 g r s t c u d a k z f)
  same_set_lem s t c X Y (by3 d z f x) (by1 v b y) = absurd (case13 g r t s (turned c) v b d z f)
  same_set_lem s t c X Y (by3 d z f x) (by2 v k b y) = absurd (case23 g r t s (turned c) v k b d z f)
  same_set_lem s t c X Y (by3 d z f x) (by3 k w h y) = x ∙ case33 g r s t c d f k h ∙ sym y

  -- two standings that contradict each other nowhere, and each names a set, name the same one
  pub exits_agree : (s t : Standing) → Compatible g.n s t → ((exit_at g s).number ≡ 0 → ⊥) → ((exit_at g t).number ≡ 0 → ⊥) → (exit_at g s).names ≡ (exit_at g t).names
  exits_agree s t c x y = same_set_lem s t c (exit_at g s).names (exit_at g t).names (naming_of g s x) (naming_of g t y)
