-- Laws of pasting, and what a loop keeps that writes.
use Rattle.std.specs.Prelude.{ℕ, suc, ◌+◌, ◌≤◌, ◌<◌, List, [], ◌∷◌, ◌++◌, ◌≡◌, refl, length, get_or, take, drop, set}
use Rattle.std.proofs.Common.{append-nil, append_assoc, sym, ap, subst, ◌∙◌, arith, add-one, length-set, take-append-drop, take-suc, take_all, take-suc-set, drop-set-lt, lt-ltb, le-ltb}
use Rattle.std.proofs.Math.Seq.{set_out}
use Rattle.text.specs.Paste.{next, ended, pasted, Wrote}

pub length_pasted : (t s : List ℕ) (a : ℕ) → length (pasted t s a) ≡ length s
unfolding pasted
length_pasted [] s a = refl
length_pasted (b ∷ t) s a = length_pasted t (set s a b) (next (length s) a) ∙ length-set s a b

ended_append : (t u : List ℕ) (n a : ℕ) → ended (t ++ u) n a ≡ ended u n (ended t n a)
unfolding ended
ended_append [] u n a = refl
ended_append (b ∷ t) u n a = ended_append t u n (next n a)

pasted_append : (t u s : List ℕ) (a : ℕ) → pasted (t ++ u) s a ≡ pasted u (pasted t s a) (ended t (length s) a)
unfolding pasted ended
pasted_append [] u s a = refl
pasted_append (b ∷ t) u s a =
    pasted_append t u (set s a b) (next (length s) a)
    ∙ ap (λ (n : ℕ). pasted u (pasted t (set s a b) (next (length s) a)) (ended t n (next (length s) a))) (length-set s a b)

-- one text after the other
pub wrote_both : (t u s s' s'' : List ℕ) (a r q : ℕ) → Wrote t s a r s' → Wrote u s' r q s'' → Wrote (t ++ u) s a q s''
wrote_both t u s s' s'' a r q h l =
    let size : length s' ≡ length s = ap length h.bytes ∙ length_pasted t s a in
    record {
      answer = l.answer ∙ rw (size, h.answer) (sym (ended_append t u (length s) a));
      bytes = l.bytes ∙ rw (h.bytes, h.answer) (sym (pasted_append t u s a));
    }

-- the cases of one byte
pub wrote_within : (b a : ℕ) (s : List ℕ) → a < length s → Wrote (b ∷ []) s a (a + 1) (set s a b)
unfolding ended pasted next
wrote_within b a s h = record { answer = rw (lt-ltb a (length s) h); bytes = refl }

pub wrote_past : (b a : ℕ) (s : List ℕ) → length s ≤ a → Wrote (b ∷ []) s a a s
unfolding ended pasted next
wrote_past b a s h = record { answer = rw (le-ltb a (length s) h); bytes = sym (set_out s a b h) }

pub ruleset byte_cases = (wrote_within, wrote_past)

-- a loop that has written the first k bytes of t
pub record Writing (t s : List ℕ) (a k r : ℕ) (after : List ℕ) : Type 0 where
  pub within : k ≤ length t
  pub front : Wrote (take k t) s a r after

pub writing_start : (t s : List ℕ) (a : ℕ) → Writing t s a 0 a s
unfolding ended pasted
writing_start t s a = record { within = omega arith; front = record { answer = refl; bytes = refl } }

pub writing_next : (t s s' s'' : List ℕ) (a k r q : ℕ) → Writing t s a k r s' → k < length t → Wrote (get_or t k 0 ∷ []) s' r q s'' → Writing t s a (k + 1) q s''
writing_next t s s' s'' a k r q h l w =
    record {
      within = omega arith;
      front = rw (add-one, take-suc t k 0 l) (wrote_both (take k t) (get_or t k 0 ∷ []) s s' s'' a r q h.front w);
    }

pub writing_done : (t s after : List ℕ) (a k r : ℕ) → Writing t s a k r after → length t ≤ k → Wrote t s a r after
writing_done t s after a k r h l = subst (λ (u : List ℕ). Wrote u s a r after) (take_all k t l) h.front

pub writing_length : (t s after : List ℕ) (a k r : ℕ) → Writing t s a k r after → length after ≡ length s
writing_length t s after a k r h = ap length h.front.bytes ∙ length_pasted (take k t) s a

pub ruleset writing = (writing_start, writing_next, writing_done, writing_length)

-- what fits is all written
ended_whole : (t : List ℕ) (n a : ℕ) → a + length t ≤ n → ended t n a ≡ a + length t
unfolding ended next
ended_whole [] n a h = omega arith
ended_whole (b ∷ t) n a h = rw (lt-ltb a n (omega arith)) (ended_whole t n (a + 1) (omega arith) ∙ omega arith)

pasted_whole : (t s : List ℕ) (a : ℕ) → a + length t ≤ length s → take (a + length t) (pasted t s a) ≡ take a s ++ t
unfolding pasted next
pasted_whole [] s a h = let e : a + 0 ≡ a = omega arith in rw e (sym (append-nil (take a s)))
pasted_whole (b ∷ t) s a h =
    let e : a + suc (length t) ≡ a + 1 + length t = omega arith in
    let l : a < length s = omega arith in
    rw (e, lt-ltb a (length s) l)
    (pasted_whole t (set s a b) (a + 1) (rw length-set (omega arith)) ∙ rw (add-one, take-suc-set s a b l) (append_assoc (take a s) (b ∷ []) t))

pub record Whole (t s : List ℕ) (a r : ℕ) (after : List ℕ) : Type 0 where
  pub place : r ≡ a + length t
  pub text : take r after ≡ take a s ++ t

-- a text that fits from place a on: the bytes up to the place after it are those before a and the text
pub wrote_whole : (t s after : List ℕ) (a r : ℕ) → Wrote t s a r after → a + length t ≤ length s → Whole t s a r after
wrote_whole t s after a r w h =
    let e : r ≡ a + length t = w.answer ∙ ended_whole t (length s) a h in
    record { place = e; text = rw (e, w.bytes) (pasted_whole t s a h) }

-- what stands after it stays
pasted_rest : (t s : List ℕ) (a : ℕ) → a + length t ≤ length s → drop (a + length t) (pasted t s a) ≡ drop (a + length t) s
unfolding pasted next
pasted_rest [] s a h = refl
pasted_rest (b ∷ t) s a h =
    let e : a + suc (length t) ≡ a + 1 + length t = omega arith in
    rw (e, lt-ltb a (length s) (omega arith))
    (pasted_rest t (set s a b) (a + 1) (rw length-set (omega arith)) ∙ drop-set-lt (a + 1 + length t) s a b (omega arith))

-- a text at the front of bytes that hold it: the bytes are the text and what stood after it
pub wrote_front : (t s after : List ℕ) (r : ℕ) → Wrote t s 0 r after → length t ≤ length s → (r ≡ length t) × (after ≡ t ++ drop (length t) s)
wrote_front t s after r w h =
    let l : 0 + length t ≤ length s = omega arith in
    let p = wrote_whole t s after 0 r w l in
    let place : r ≡ length t = p.place ∙ omega arith in
    let z : 0 + length t ≡ length t = omega arith in
    let front : take (length t) after ≡ t = ap (λ (k : ℕ). take k after) (sym place) ∙ p.text in
    let rest : drop (length t) after ≡ drop (length t) s = ap (λ (u : List ℕ). drop (length t) u) w.bytes ∙ rw z at (pasted_rest t s 0 l) in
    (place, sym (take-append-drop (length t) after) ∙ rw (front, rest))
