-- The coins of a session as one function of vote and round: the printed ones, or, in a boxed session, the bits that the opened honest ones
-- recorded. Bits that agree two by two are those of such a function.
use Prim.Native.Nat.{ℕ, ◌≤◌}
use Rattle.std.specs.Prelude.{Bool, true, false, ◌&&◌, cond, List, [], ◌∷◌, ◌≡◌, eqb, Option, Some, None}
use Rattle.std.proofs.lemmas.Bool.{false≢true}
use Rattle.std.proofs.Math.Path.{refl, sym, ap}
use Rattle.std.proofs.Common.{◌∙◌, arith, eq-eqb, eqb-true}
use Rattle.votes.specs.Votes.{coin_value}
use Rattle.agreement.specs.Moments.{Within, now, after}
use Rattle.calls.specs.Machine.{Machine, Call, opening, delivery, turn, report, restore, recording, place, words}
use Rattle.agreement.specs.DemandThree.{Recorded}
use Rattle.agreement.proofs.laws.Machine.{Reading}
use Rattle.agreement.proofs.laws.Openings.{status, Known, opened_known, known_opened}

-- κ are the coins of a session in a list of calls
pub record Coined (M : Machine) (start : ℕ → M.Words) (S : M.Session) (κ : ℕ → ℕ → Bool) (cs : List (Call M)) : Type 0 where
  pub printed : M.boxed S ≡ false → (i r : ℕ) → M.coin S i r ≡ κ i r
  pub recorded : M.boxed S ≡ true → (p : ℕ) (x : M.Recording) → Recorded M start cs p x → M.bit x ≡ coin_value (κ (M.vote x) (M.round x))

-- the recorded bits agree
abbrev pub Agreeing : (M : Machine) → (ℕ → M.Words) → List (Call M) → Type 0
Agreeing M start cs = (p q : ℕ) (x y : M.Recording) → Recorded M start cs p x → Recorded M start cs q y → M.vote x ≡ M.vote y → M.round x ≡ M.round y → M.bit x ≡ M.bit y

and_true : (a b : Bool) → (a && b) ≡ true → (a ≡ true) × (b ≡ true)
and_true true b e = (refl, e)
and_true false b e = absurd (false≢true e)

pub bit_value_lem : (b : ℕ) → b ≤ 1 → coin_value (eqb b 1) ≡ b
bit_value_lem b le = at (eqb b 1) refl
  where
    at : (t : Bool) → eqb b 1 ≡ t → coin_value t ≡ b
    at true e = sym (eqb-true b 1 e)
    at false e = zero b le e
      where
        zero : (b : ℕ) → b ≤ 1 → eqb b 1 ≡ false → 0 ≡ b
        zero b le e = omega (arith, le, ne)
          where
            ne : b ≡ 1 → ⊥
            ne f = false≢true (sym e ∙ eq-eqb b 1 f)

module _ (M : Machine) (R : Reading M) (start : ℕ → M.Words) where
  -- whether a call is an accepted recording of vote i and round r at an opened one
  abbrev tells : Call M → M.Words → Option M.Opening → ℕ → ℕ → Bool
  tells (opening p o) w st i r = false
  tells (delivery p m b) w st i r = false
  tells (turn p l) w st i r = false
  tells (report p l) w st i r = false
  tells (restore p v t) w st i r = false
  tells (recording p x) w None i r = false
  tells (recording p x) w (Some o) i r = M.records w x && (eqb (M.vote x) i && eqb (M.round x) r)

  abbrev told_bit : Call M → Bool
  told_bit (opening p o) = false
  told_bit (delivery p m b) = false
  told_bit (turn p l) = false
  told_bit (report p l) = false
  told_bit (restore p v t) = false
  told_bit (recording p x) = eqb (M.bit x) 1

  -- the bit that was recorded last
  unfoldable pub bits : List (Call M) → ℕ → ℕ → Bool
  bits [] i r = false
  bits (c ∷ cs) i r = cond (tells c (words M start cs (place M c)) (status M R start cs (place M c)) i r) (told_bit c) (bits cs i r)

  record Found (cs : List (Call M)) (i r : ℕ) : Type 0 where
    who : ℕ
    what : M.Recording
    was : Recorded M start cs who what
    vote : M.vote what ≡ i
    round : M.round what ≡ r
    is : bits cs i r ≡ eqb (M.bit what) 1

  tells_found : (c : Call M) (cs : List (Call M)) (i r : ℕ) → tells c (words M start cs (place M c)) (status M R start cs (place M c)) i r ≡ true → Found (c ∷ cs) i r
  unfolding bits
  tells_found (opening p o) cs i r e = absurd (false≢true e)
  tells_found (delivery p m b) cs i r e = absurd (false≢true e)
  tells_found (turn p l) cs i r e = absurd (false≢true e)
  tells_found (report p l) cs i r e = absurd (false≢true e)
  tells_found (restore p v t) cs i r e = absurd (false≢true e)
  tells_found (recording p x) cs i r e = at (status M R start cs p) refl e
    where
      w : M.Words
      w = words M start cs p

      at : (st : Option M.Opening) → status M R start cs p ≡ st → tells (recording p x) w st i r ≡ true → Found (recording p x ∷ cs) i r
      at None s f = absurd (false≢true f)
      at (Some o) s f =
          let a = and_true (M.records w x) (eqb (M.vote x) i && eqb (M.round x) r) f in
          let b = and_true (eqb (M.vote x) i) (eqb (M.round x) r) a.1 in
          record {
            who = p;
            what = x;
            was = record { past = cs; within = now; opened = (known_opened M R start cs p o s).is_opened_lem; accepted = a.0 };
            vote = eqb-true (M.vote x) i b.0;
            round = eqb-true (M.round x) r b.1;
            is = rw e;
          }

  found : (cs : List (Call M)) (p : ℕ) (x : M.Recording) → Recorded M start cs p x → Found cs (M.vote x) (M.round x)
  unfolding bits
  found cs p x a = go a.within
    where
      i : ℕ
      i = M.vote x

      r : ℕ
      r = M.round x

      first : Known M R start a.past p → Found (recording p x ∷ a.past) i r
      first k = tells_found (recording p x) a.past i r (rw (k.known, a.accepted, eq-eqb i i refl, eq-eqb r r refl))

      step : (c : Call M) (cs : List (Call M)) → Found cs i r → (t : Bool) → tells c (words M start cs (place M c)) (status M R start cs (place M c)) i r ≡ t → Found (c ∷ cs) i r
      step c cs f true e = tells_found c cs i r e
      step c cs f false e =
          let a = f.was in
          record {
            who = f.who;
            what = f.what;
            was = record { past = a.past; within = after c a.within; opened = a.opened; accepted = a.accepted };
            vote = f.vote;
            round = f.round;
            is = rw e f.is;
          }

      go : {ds : List (Call M)} → Within (recording p x ∷ a.past) ds → Found ds i r
      go now = first (opened_known M R start a.past p a.opened)
      go (after {cs = ds} c w) = step c ds (go w) (tells c (words M start ds (place M c)) (status M R start ds (place M c)) i r) refl

  -- the coins of a session in a list of calls
  unfoldable pub coins_of : M.Session → List (Call M) → ℕ → ℕ → Bool
  coins_of S cs i r = cond (M.boxed S) (bits cs i r) (M.coin S i r)

  -- an accepted bit is 0 or 1
  pub agreeing_coined : ((w : M.Words) (x : M.Recording) → M.records w x ≡ true → M.bit x ≤ 1) → (S : M.Session) (cs : List (Call M)) → (M.boxed S ≡ true → Agreeing M start cs) → Coined M start S (coins_of S cs) cs
  unfolding coins_of
  agreeing_coined binary S cs agree =
      record {
        printed = λ e i r. rw e;
        recorded = λ e p x a. rw e (by_bits (agree e) p x a);
      }
    where
      by_bits : Agreeing M start cs → (p : ℕ) (x : M.Recording) → Recorded M start cs p x → M.bit x ≡ coin_value (bits cs (M.vote x) (M.round x))
      by_bits same p x a =
          let f = found cs p x a in
          same p f.who x f.what a f.was (sym f.vote) (sym f.round)
          ∙ sym (bit_value_lem (M.bit f.what) (binary (words M start f.was.past f.who) f.what f.was.accepted))
          ∙ ap coin_value (sym f.is)
