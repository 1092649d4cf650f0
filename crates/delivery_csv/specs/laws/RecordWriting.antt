-- Writing the lines of a text byte by byte.
use Rattle.std.specs.Prelude.{ℕ, suc, ◌+◌, ◌≤◌, ◌<◌, Bool, true, false, List, [], ◌∷◌, ◌≡◌, length, get_or, drop, Option, Some, None}
use Rattle.std.proofs.Math.Path.{refl}
use Rattle.std.proofs.Common.{ap, ◌∙◌, arith, add-one, drop_of_length-le, drop-cons}
use Rattle.text.specs.Fields.{LF}
use Rattle.text.specs.Paste.{ended, pasted, Wrote}
use Rattle.text.specs.laws.Paste.{length_pasted, wrote_both}
use Rattle.delivery_csv.specs.laws.RecordReader.{start, advanced, shown, shown_text, untouched, end_text, emitted}
use Rattle.delivery_csv.specs.declared.RecordReader.{RecordReader}

pub wrote_nothing : (x : Option ℕ) (s : List ℕ) (a : ℕ) → x ≡ None → Wrote (shown_text x) s a a s
unfolding shown_text ended pasted
wrote_nothing x s a e = rw e (record { answer = refl; bytes = refl })

pub wrote_shown : (x : Option ℕ) (s after : List ℕ) (b a r : ℕ) → x ≡ Some b → Wrote (b ∷ []) s a r after → Wrote (shown_text x) s a r after
unfolding shown_text
wrote_shown x s after b a r e w = rw e w

pub ruleset shown_writes = (wrote_nothing, wrote_shown)

-- ---- the loop: the lines of the first k bytes of t are written into s₀, which is now s; a is the place after them

pub record Lining (t s₀ s : List ℕ) (r : Option RecordReader) (a k : ℕ) : Type 0 where
  pub within : k ≤ length t
  pub size : length s ≡ length s₀
  pub rest : (q : ℕ) (z : List ℕ) → Wrote (emitted r (drop k t)) s a q z → Wrote (emitted start t) s₀ 0 q z

pub lining_start : (t s : List ℕ) (r : Option RecordReader) → r ≡ start → Lining t s s r 0 0
lining_start t s r e = rw e (record { within = omega arith; size = refl; rest = λ q z w. w })

pub lining_next : (t s₀ s s' : List ℕ) (r r' : Option RecordReader) (x : Option ℕ) (a a' k : ℕ) → Lining t s₀ s r a k → k < length t → x ≡ shown r (get_or t k 0) →
    Wrote (shown_text x) s a a' s' → r' ≡ advanced r (get_or t k 0) → Lining t s₀ s' r' a' (k + 1)
unfolding emitted shown
lining_next t s₀ s s' r r' x a a' k h l e w d =
    record {
      within = omega arith;
      size = ap length w.bytes ∙ length_pasted (shown_text x) s a ∙ h.size;
      rest = λ q z v. h.rest q z (rw (drop-cons t k 0 l, ← e, ← d) (wrote_both (shown_text x) (emitted r' (drop (suc k) t)) s s' z a a' q w (rw add-one at v)));
    }

pub lining_done : (t s₀ s z : List ℕ) (r : Option RecordReader) (a k q : ℕ) → Lining t s₀ s r a k → length t ≤ k →
    Wrote (end_text r) s a q z → Wrote (emitted start t) s₀ 0 q z
unfolding emitted shown
lining_done t s₀ s z r a k q h l w = h.rest q z (rw (drop_of_length-le t l) w)

pub ruleset linings = (lining_start, lining_next, lining_done)

-- ---- the end

module _ (s : List ℕ) (a : ℕ) (r : Option RecordReader) (u : Bool) (e : u ≡ untouched r) where
  pub end_none : u ≡ true → Wrote (end_text r) s a a s
  unfolding end_text ended pasted
  end_none n = rw (← e, n) (record { answer = refl; bytes = refl })

  pub end_some : (q : ℕ) (z : List ℕ) → u ≡ false → Wrote (LF ∷ []) s a q z → Wrote (end_text r) s a q z
  unfolding end_text
  end_some q z n w = rw (← e, n) w

  pub length_none : u ≡ true → 0 ≡ length (end_text r)
  unfolding end_text
  length_none n = rw (← e, n)

  pub length_some : u ≡ false → 1 ≡ length (end_text r)
  unfolding end_text
  length_some n = rw (← e, n)

pub ruleset ends_written = (end_none, end_some)

pub ruleset end_lengths = (length_none, length_some)
