-- The lines and the fields of a text by their places.
use Rattle.std.specs.Prelude.{ℕ, suc, ◌+◌, ◌-◌, ◌≤◌, ◌<◌, cond, List, [], ◌∷◌, ◌++◌, ◌≡◌, refl, ltb, length, take, drop}
use Rattle.std.proofs.Common.{append_assoc, append-nil, sym, ap, ◌∙◌, arith, length-append, length-drop, drop_of_length-le, length-take-le, take_at, drop-drop, take_all, lt-ltb, le-ltb, eq-eqb, ne_eqb}
use Rattle.std.proofs.Math.Decide.{ℕ_discrete, dec_le}
use Rattle.std.proofs.Math.Seq.{drop-append-add}
use Rattle.text.specs.Fields.{TAB, LF, in_front, fields}
use Rattle.restore.specs.Complete.{lines_from, lines_of, joined}
use Rattle.restore.specs.laws.Places.{place_from, place_of, line_end}

-- the fields of b from a place on; past its end there are none
unfoldable pub fields_at : List ℕ → ℕ → List (List ℕ)
fields_at b at = cond (ltb (length b) at) [] (fields (drop at b))

-- f lacks the byte c
data Lacks (c : ℕ) : List ℕ → Type 0 where
  none : Lacks c []
  more : {x : ℕ} {f : List ℕ} → (x ≡ c → ⊥) → Lacks c f → Lacks c (x ∷ f)

-- where the byte c stands first in xs, which stand from place k on
data Seen (c k : ℕ) (xs : List ℕ) : Type 0 where
  there : (f rest : List ℕ) → xs ≡ f ++ (c ∷ rest) → Lacks c f → place_from c k xs ≡ k + length f → Seen c k xs
  nowhere : Lacks c xs → place_from c k xs ≡ k + length xs → Seen c k xs

seen : (c k : ℕ) (xs : List ℕ) → Seen c k xs
unfolding place_from
seen c k [] = nowhere none (omega arith)
seen c k (x ∷ xs) = go (ℕ_discrete x c) (seen c (k + 1) xs)
  where
    go : Dec (x ≡ c) → Seen c (k + 1) xs → Seen c k (x ∷ xs)
    go (yes e) s = there [] xs (ap (λ (y : ℕ). y ∷ xs) e) none (rw (eq-eqb x c e) (omega arith))
    go (no e) (there f rest p l q) = there (x ∷ f) rest (ap (λ (ys : List ℕ). x ∷ ys) p) (more e l) (rw (ne_eqb x c e) (q ∙ omega arith))
    go (no e) (nowhere l q) = nowhere (more e l) (rw (ne_eqb x c e) (q ∙ omega arith))

fields_there : (f rest : List ℕ) → Lacks TAB f → fields (f ++ (TAB ∷ rest)) ≡ f ∷ fields rest
unfolding fields in_front
fields_there f rest none = refl
fields_there f rest (more {x = x} {f = g} e l) = rw (ne_eqb x TAB e, fields_there g rest l)

fields_nowhere : (f : List ℕ) → Lacks TAB f → fields f ≡ f ∷ []
unfolding fields in_front
fields_nowhere f none = refl
fields_nowhere f (more {x = x} {f = g} e l) = rw (ne_eqb x TAB e, fields_nowhere g l)

lines_there : (front f rest : List ℕ) → Lacks LF f → lines_from front (f ++ (LF ∷ rest)) ≡ (front ++ f) ∷ lines_of rest
unfolding lines_from lines_of
lines_there front f rest none = rw append-nil
lines_there front f rest (more {x = x} {f = g} e l) = rw (ne_eqb x LF e) (lines_there (front ++ (x ∷ [])) g rest l ∙ rw append_assoc)

lines_nowhere : (front f : List ℕ) → Lacks LF f → lines_from front f ≡ []
unfolding lines_from
lines_nowhere front f none = refl
lines_nowhere front f (more {x = x} {f = g} e l) = rw (ne_eqb x LF e) (lines_nowhere (front ++ (x ∷ [])) g l)

-- a field from one place to another, and what follows it
pub record Field (b : List ℕ) (at e : ℕ) : Type 0 where
  pub rises : at ≤ e
  pub inside : e ≤ length b
  pub field : fields_at b at ≡ take (e - at) (drop at b) ∷ fields_at b (e + 1)

-- what b is from a place on, where it is f, a byte and the rest
module _ (b : List ℕ) (at c : ℕ) (f rest : List ℕ) (low : at ≤ length b) (p : drop at b ≡ f ++ (c ∷ rest)) where
  part_long : at + length f + 1 + length rest ≡ length b
  part_long = let e : length b - at ≡ length f + suc (length rest) = sym (length-drop at b) ∙ ap length p ∙ length-append f (c ∷ rest) in omega arith

  part_front : (e : ℕ) → e ≡ at + length f → take (e - at) (drop at b) ≡ f
  part_front e q = rw p (take_at f (c ∷ rest) (e - at) (omega arith))

  part_rest : (e : ℕ) → e ≡ at + length f → drop (e + 1) b ≡ rest
  part_rest e q =
      let s : e + 1 ≡ at + (length f + 1) = omega arith in
      rw (s, ← drop-drop, p) (drop-append-add f (c ∷ rest) 1)

pub field_at : (b : List ℕ) (at e : ℕ) → at ≤ length b → e ≡ place_of TAB b at → Field b at e
unfolding place_of fields_at
field_at b at e low q = go (seen TAB at (drop at b))
  where
    go : Seen TAB at (drop at b) → Field b at e
    go (there f rest p l s) =
        let place : e ≡ at + length f = q ∙ s in
        let long : at + length f + 1 + length rest ≡ length b = part_long b at TAB f rest low p in
        record {
          rises = omega arith;
          inside = omega arith;
          field = rw (le-ltb (length b) at low, le-ltb (length b) (e + 1) (omega arith), part_front b at TAB f rest low p e place, part_rest b at TAB f rest low p e place, p) (fields_there f rest l);
        }
    go (nowhere l s) =
        let place : e ≡ at + length (drop at b) = q ∙ s in
        let long : length (drop at b) ≡ length b - at = length-drop at b in
        record {
          rises = omega arith;
          inside = omega arith;
          field = rw (le-ltb (length b) at low, lt-ltb (length b) (e + 1) (omega arith), take_all (e - at) (drop at b) (omega arith)) (fields_nowhere (drop at b) l);
        }

-- a complete line from one place to the place after its end, and what follows it
pub record Line (b : List ℕ) (at e : ℕ) : Type 0 where
  pub rises : at < e
  pub inside : e ≤ length b
  pub line : lines_of (drop at b) ≡ take (e - 1 - at) (drop at b) ∷ lines_of (drop e b)

pub line_at : (b : List ℕ) (at e : ℕ) → at ≤ length b → e ≡ line_end b at → (e ≡ at → ⊥) → Line b at e
unfolding place_of line_end lines_of
line_at b at e low q n = go (seen LF at (drop at b))
  where
    go : Seen LF at (drop at b) → Line b at e
    go (there f rest p l s) =
        let long : at + length f + 1 + length rest ≡ length b = part_long b at LF f rest low p in
        let place : e ≡ at + length f + 1 = q ∙ rw (s, lt-ltb (at + length f) (length b) (omega arith)) in
        let less : e - 1 ≡ at + length f = omega arith in
        let same : e ≡ at + length f + 1 = omega arith in
        record {
          rises = omega arith;
          inside = omega arith;
          line = rw (less, same, part_front b at LF f rest low p (at + length f) refl, part_rest b at LF f rest low p (at + length f) refl, p) (lines_there [] f rest l);
        }
    go (nowhere l s) =
        let long : length (drop at b) ≡ length b - at = length-drop at b in
        absurd (n (q ∙ rw (s, le-ltb (at + length (drop at b)) (length b) (omega arith))))

pub line_none : (b : List ℕ) (at e : ℕ) → e ≡ line_end b at → e ≡ at → lines_of (drop at b) ≡ []
unfolding place_of line_end lines_of lines_from
line_none b at e q n = go (dec_le at (length b)) (seen LF at (drop at b))
  where
    go : Dec (at ≤ length b) → Seen LF at (drop at b) → lines_from [] (drop at b) ≡ []
    go d (nowhere l s) = lines_nowhere [] (drop at b) l
    go (yes low) (there f rest p l s) =
        let long : at + length f + 1 + length rest ≡ length b = part_long b at LF f rest low p in
        let place : e ≡ at + length f + 1 = q ∙ rw (s, lt-ltb (at + length f) (length b) (omega arith)) in
        absurd (omega arith)
    go (no high) (there f rest p l s) = let past : length b ≤ at = omega arith in rw (drop_of_length-le b past)

-- the bytes of a complete line and those after it
pub joined_line : (b : List ℕ) (at e : ℕ) → Line b at e → length (joined (lines_of (drop at b))) ≡ e - at + length (joined (lines_of (drop e b)))
joined_line b at e h =
    let long : length (drop at b) ≡ length b - at = length-drop at b in
    rw (h.line, length-append) (let s : length (take (e - 1 - at) (drop at b)) ≡ e - 1 - at = length-take-le (e - 1 - at) (drop at b) (omega (arith, h.rises, h.inside)) in omega (arith, h.rises))
