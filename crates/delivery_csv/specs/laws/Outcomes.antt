-- Outcomes: texts in front of them, and the numbers of records that follow.
use Rattle.std.specs.Prelude.{ℕ, ◌+◌, Bool, true, false, cond, List, ◌++◌, ◌≡◌, refl}
use Rattle.std.proofs.Common.{append_assoc, sym, ap, arith}
use mir.Val.{bool_byte}
use Rattle.delivery_csv.specs.Fields.{Outcome, bad, good}

pub not_good : {A P : Type 0} (n : ℕ) (x : A) → ◌≡◌ {A = Outcome A} (bad n) (good x) → P
not_good n x e = absurd (let z : ◌≡◌ {A = ℕ} 0 1 = cc in omega (arith, z))

-- a text before that of an outcome
unfoldable pub with_text : List ℕ → Outcome (List ℕ) → Outcome (List ℕ)
with_text u (bad n) = bad n
with_text u (good t) = good (u ++ t)

pub text_more : (u v : List ℕ) (o : Outcome (List ℕ)) → with_text u (with_text v o) ≡ with_text (u ++ v) o
unfolding with_text
text_more u v (bad n) = refl
text_more u v (good t) = ap (λ (w : List ℕ). good w) (sym (append_assoc u v t))

pub text_cond : (u : List ℕ) (c : Bool) (o : Outcome (List ℕ)) (n : ℕ) → with_text u (cond c o (bad n)) ≡ cond c (with_text u o) (bad n)
unfolding with_text
text_cond u true o n = refl
text_cond u false o n = refl

-- where an outcome can only be v, it is v with the text in front
pub text_after : (s v u : List ℕ) (o : Outcome (List ℕ)) → ((w : List ℕ) → o ≡ good w → w ≡ v) → with_text s o ≡ good u → u ≡ s ++ v
unfolding with_text
text_after s v u (bad n) h e = not_good n u e
text_after s v u (good w) h e = let k : w ≡ v = h w refl in cc

-- the number of the record that follows n of them, one more where the last has just ended
pub next_number_lem : (ended : Bool) (n : ℕ) → cond ended (n + 1) n + 1 ≡ cond ended (n + 1 + 1) (n + 1)
next_number_lem true n = refl
next_number_lem false n = refl

-- a count of 64 bits that goes on where a record or line ends
pub counting : (e : Bool) (n : ℕ) → n + bool_byte e ≡ cond e (n + 1) n
counting true n = refl
counting false n = omega arith
