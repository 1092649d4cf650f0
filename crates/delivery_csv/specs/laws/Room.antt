-- What is left of the lent bytes.
use Rattle.std.specs.Prelude.{ℕ, ◌+◌, ◌-◌, ◌≤◌, cond, List, ◌≡◌, refl, ltb, length, Result, Ok, Err, Option, Some, None, SomeIff, Bool}
use Rattle.std.proofs.Math.Decide.{dec_lt}
use native.Mathlib.Omega.{arith}
use Rattle.std.proofs.Common.{length-append}
use borrow.Author.Tests.{lt-ltb, le-ltb}
use Rattle.delivery_csv.specs.Fields.{Outcome, bad, good}
use Rattle.delivery_csv.specs.Converting.{conversion}
use Rattle.delivery_csv.specs.declared.scan.Scan.{Scan}
use Rattle.delivery_csv.specs.declared.ConversionError.{ConversionError}
use Rattle.delivery_csv.specs.declared.ConversionError.TheVariants.{Record, Short}
use Rattle.delivery_csv.specs.laws.Outcomes.{with_text}

-- what n bytes more leave
unfoldable pub spent : Option ℕ → ℕ → Option ℕ
spent None n = None
spent (Some l) n = cond (ltb l n) None (Some (l - n))

-- the answer for bytes of which so many are left of `all`
unfoldable pub room_answer : ℕ → Option ℕ → Result ℕ ConversionError
room_answer all None = Err Short
room_answer all (Some l) = Ok (all - l)

-- a text of which one more byte is judged: the reader after it, whether it ends a record or line, and how many bytes are written for it
unfoldable pub passed : {R : Type 0} → Scan R → Option R → Bool → ℕ → Scan R
passed x r e n = record { reader = r; count = cond e (x.count + 1) x.count; room = spent x.room n }

-- the text is over: whether the record or line that it ends in is broken, and how many bytes are written for the end
unfoldable pub answered : {R : Type 0} → ℕ → Scan R → Bool → ℕ → Result ℕ ConversionError
answered all x b n = cond b (Err (Record (x.count + 1))) (room_answer all (spent x.room n))

-- the answer for an outcome whose text is still to be written
unfoldable pub answer_in : ℕ → Option ℕ → Outcome (List ℕ) → Result ℕ ConversionError
answer_in all r (bad n) = Err (Record n)
answer_in all r (good t) = room_answer all (spent r (length t))

pub spent_checked : (r : Option ℕ) (l n : ℕ) → SomeIff r (n ≤ l) (l - n) → r ≡ spent (Some l) n
unfolding spent
spent_checked None l n h = elim (dec_lt l n) [
  | yes k ↦ rw (lt-ltb l n k)
  | no k ↦ absurd (h (omega arith))
]
spent_checked (Some x) l n h = rw (le-ltb l n h.0, h.1)

pub spent_more : (r : Option ℕ) (a b : ℕ) → spent (spent r a) b ≡ spent r (a + b)
unfolding spent
spent_more None a b = refl
spent_more (Some l) a b =
    elim (dec_lt l a) [
      | yes h ↦ rw (lt-ltb l a h, lt-ltb l (a + b) (omega arith))
      | no h ↦
          elim (dec_lt (l - a) b) [
            | yes k ↦ rw (le-ltb l a (omega arith), lt-ltb (l - a) b k, lt-ltb l (a + b) (omega arith))
            | no k ↦
                let e : l - a - b ≡ l - (a + b) = omega arith in
                rw (le-ltb l a (omega arith), le-ltb (l - a) b (omega arith), le-ltb l (a + b) (omega arith), e)
          ]
    ]

pub spent_none : (r : Option ℕ) → spent r 0 ≡ r
unfolding spent
spent_none None = refl
spent_none (Some l) = let e : l - 0 ≡ l = omega arith in rw (le-ltb l 0 (omega arith), e)

pub answer_more : (all : ℕ) (r : Option ℕ) (u : List ℕ) (o : Outcome (List ℕ)) → answer_in all r (with_text u o) ≡ answer_in all (spent r (length u)) o
unfolding answer_in with_text
answer_more all r u (bad n) = refl
answer_more all r u (good t) = rw (length-append, ← spent_more)

pub answer_new : (all : ℕ) (o : Outcome (List ℕ)) → answer_in all (Some all) o ≡ conversion o all
unfolding answer_in conversion room_answer spent
answer_new all (bad n) = refl
answer_new all (good t) =
    elim (dec_lt all (length t)) [
      | yes h ↦ rw (lt-ltb all (length t) h)
      | no h ↦
          let e : all - (all - length t) ≡ length t = omega arith in
          rw (le-ltb all (length t) (omega arith), e)
    ]
