-- The cases of the code that reads drill lines and writes their records.
use Rattle.std.specs.Prelude.{ℕ, ◌+◌, ◌≤◌, ◌<◌, Bool, true, false, List, [], ◌∷◌, ◌++◌, ◌≡◌, length, Option, None}
use Rattle.std.proofs.Math.Path.{refl}
use Rattle.std.proofs.Common.{arith}
use Rattle.std.proofs.Math.ListN.{length-append}
use borrow.Author.Tests.{lt-ltb, le-ltb, eq-eqb, ne_eqb}
use Rattle.text.specs.Paste.{Wrote, ended, pasted}
use Rattle.text.specs.laws.Paste.{wrote_both}
use Rattle.delivery_csv.specs.laws.LineReader.{field_ends, wraps_in, wraps_after, reading_line, parted_line, extended_line, fed_line, quote_if, end_mark, line_shown, line_untouched, line_end_text, line_wraps}
use Rattle.delivery_csv.specs.declared.LineReader.{LineReader}

-- ---- looking ahead

module _ (b : ℕ) (t : List ℕ) (e : Bool) (ee : e ≡ field_ends b) where
  pub after_field : (w : Bool) → e ≡ true → w ≡ wraps_in t → w ≡ wraps_after b t
  unfolding wraps_after
  after_field w i h = rw (← ee, i) h

  pub after_other : e ≡ false → false ≡ wraps_after b t
  unfolding wraps_after
  after_other i = rw (← ee, i)

pub ruleset after_cases = (after_field, after_other)

-- ---- reading

module _ (r : LineReader) where
  module _ (w : Bool) where
    pub parted_more : (s : Option LineReader) → r.fields + 1 < 16 → s ≡ reading_line (r.fields + 1) 0 w → s ≡ parted_line r w
    unfolding parted_line
    parted_more s h e = rw (lt-ltb (r.fields + 1) 16 h) e

    pub parted_full : 16 ≤ r.fields + 1 → None ≡ parted_line r w
    unfolding parted_line
    parted_full h = rw (le-ltb (r.fields + 1) 16 h)

  pub extended_more : (s : Option LineReader) → r.length < 64 → s ≡ reading_line r.fields (r.length + 1) r.wraps → s ≡ extended_line r
  unfolding extended_line
  extended_more s h e = rw (lt-ltb r.length 64 h) e

  pub extended_full : 64 ≤ r.length → None ≡ extended_line r
  unfolding extended_line
  extended_full h = rw (le-ltb r.length 64 h)

pub ruleset parted_cases = (parted_more, parted_full)

pub ruleset extended_cases = (extended_more, extended_full)

module _ (r : LineReader) (b : ℕ) (w : Bool) (s : Option LineReader) where
  pub fed_end : b ≡ 10 → s ≡ reading_line 0 0 w → s ≡ fed_line r b w
  unfolding fed_line
  fed_end i h = rw (eq-eqb b 10 i) h

  pub fed_tab : (b ≡ 10 → ⊥) → b ≡ 9 → s ≡ parted_line r w → s ≡ fed_line r b w
  unfolding fed_line
  fed_tab i j h = rw (ne_eqb b 10 i, eq-eqb b 9 j) h

  pub fed_cr : (b ≡ 10 → ⊥) → (b ≡ 9 → ⊥) → b ≡ 13 → s ≡ None → s ≡ fed_line r b w
  unfolding fed_line
  fed_cr i j k h = rw (ne_eqb b 10 i, ne_eqb b 9 j, eq-eqb b 13 k) h

  pub fed_other : (b ≡ 10 → ⊥) → (b ≡ 9 → ⊥) → (b ≡ 13 → ⊥) → s ≡ extended_line r → s ≡ fed_line r b w
  unfolding fed_line
  fed_other i j k h = rw (ne_eqb b 10 i, ne_eqb b 9 j, ne_eqb b 13 k) h

pub ruleset fed_cases = (fed_end, fed_tab, fed_cr, fed_other)

-- ---- how many bytes are written

module _ (w : Bool) where
  pub quote_one : w ≡ true → 1 ≡ length (quote_if w)
  unfolding quote_if
  quote_one e = rw e

  pub quote_none : w ≡ false → 0 ≡ length (quote_if w)
  unfolding quote_if
  quote_none e = rw e

pub ruleset quote_lengths = (quote_one, quote_none)

module _ (b : ℕ) where
  pub mark_two : b ≡ 10 → 2 ≡ length (end_mark b)
  unfolding end_mark
  mark_two e = rw (eq-eqb b 10 e)

  pub mark_one : (b ≡ 10 → ⊥) → 1 ≡ length (end_mark b)
  unfolding end_mark
  mark_one e = rw (ne_eqb b 10 e)

pub ruleset mark_lengths = (mark_two, mark_one)

module _ (w : Bool) (b : ℕ) (n : Bool) (e : Bool) (ee : e ≡ field_ends b) where
  pub shown_end : (x y z : ℕ) → e ≡ true → x ≡ length (quote_if w) → y ≡ length (end_mark b) → z ≡ length (quote_if n) → x + y + z ≡ length (line_shown w b n)
  unfolding line_shown
  shown_end x y z i p q r =
      rw (← ee, i, length-append (quote_if w) (end_mark b ++ quote_if n), length-append (end_mark b) (quote_if n), ← p, ← q, ← r) (omega arith)

  pub shown_quote : e ≡ false → b ≡ 34 → 2 ≡ length (line_shown w b n)
  unfolding line_shown
  shown_quote i p = rw (← ee, i, eq-eqb b 34 p)

  pub shown_other : e ≡ false → (b ≡ 34 → ⊥) → 1 ≡ length (line_shown w b n)
  unfolding line_shown
  shown_other i p = rw (← ee, i, ne_eqb b 34 p)

pub ruleset shown_lengths = (shown_end, shown_quote, shown_other)

module _ (r : Option LineReader) (e : Bool) (ee : e ≡ line_untouched r) where
  pub end_none : e ≡ true → 0 ≡ length (line_end_text r)
  unfolding line_end_text
  end_none i = rw (← ee, i)

  pub end_some : (x : ℕ) (v : Bool) → e ≡ false → v ≡ line_wraps r → x ≡ length (quote_if v) → x + 2 ≡ length (line_end_text r)
  unfolding line_end_text
  end_some x v i q p = rw (← ee, i, length-append (quote_if (line_wraps r)) (13 ∷ 10 ∷ []), ← q, ← p)

pub ruleset end_lengths = (end_none, end_some)

-- ---- writing

module _ (s : List ℕ) (a : ℕ) where
  pub nothing_wrote : Wrote [] s a a s
  unfolding ended pasted
  nothing_wrote = record { answer = refl; bytes = refl }

  module _ (z : List ℕ) (q : ℕ) where
    pub wrote_quote : (w : Bool) → w ≡ true → Wrote (34 ∷ []) s a q z → Wrote (quote_if w) s a q z
    unfolding quote_if
    wrote_quote w e h = rw e h

    pub wrote_lf : (b : ℕ) → b ≡ 10 → Wrote (13 ∷ 10 ∷ []) s a q z → Wrote (end_mark b) s a q z
    unfolding end_mark
    wrote_lf b e h = rw (eq-eqb b 10 e) h

    pub wrote_comma : (b : ℕ) → (b ≡ 10 → ⊥) → Wrote (44 ∷ []) s a q z → Wrote (end_mark b) s a q z
    unfolding end_mark
    wrote_comma b e h = rw (ne_eqb b 10 e) h

  pub wrote_no_quote : (w : Bool) → w ≡ false → Wrote (quote_if w) s a a s
  unfolding quote_if
  wrote_no_quote w e = rw e nothing_wrote

  pub wrote_no_line : (r : Option LineReader) (e : Bool) → e ≡ line_untouched r → e ≡ true → Wrote (line_end_text r) s a a s
  unfolding line_end_text
  wrote_no_line r e ee i = rw (← ee, i) nothing_wrote

  pub wrote_end : (s' z : List ℕ) (p q : ℕ) (r : Option LineReader) (e v : Bool) → e ≡ line_untouched r → e ≡ false → v ≡ line_wraps r →
      Wrote (quote_if v) s a p s' → Wrote (13 ∷ 10 ∷ []) s' p q z → Wrote (line_end_text r) s a q z
  unfolding line_end_text
  wrote_end s' z p q r e v ee i d h l = rw (← ee, i, ← d) (wrote_both (quote_if v) (13 ∷ 10 ∷ []) s s' z a p q h l)

  pub wrote_two : (s' z : List ℕ) (p q : ℕ) (b c : ℕ) → Wrote (b ∷ []) s a p s' → Wrote (c ∷ []) s' p q z → Wrote (b ∷ c ∷ []) s a q z
  wrote_two s' z p q b c h l = wrote_both (b ∷ []) (c ∷ []) s s' z a p q h l

  pub wrote_three : (s' s'' z : List ℕ) (p p' q : ℕ) (u v w : List ℕ) → Wrote u s a p s' → Wrote v s' p p' s'' → Wrote w s'' p' q z → Wrote (u ++ (v ++ w)) s a q z
  wrote_three s' s'' z p p' q u v w h l m = wrote_both u (v ++ w) s s' z a p q h (wrote_both v w s' s'' z p p' q l m)

pub ruleset quote_cases = (wrote_quote, wrote_no_quote)

pub ruleset mark_cases = (wrote_lf, wrote_comma)

pub ruleset end_cases = (wrote_no_line, wrote_end)

module _ (s z : List ℕ) (a q : ℕ) (w : Bool) (b : ℕ) (n e : Bool) (ee : e ≡ field_ends b) where
  pub shown_between : e ≡ true → Wrote (quote_if w ++ (end_mark b ++ quote_if n)) s a q z → Wrote (line_shown w b n) s a q z
  unfolding line_shown
  shown_between i h = rw (← ee, i) h

  pub shown_doubled : e ≡ false → b ≡ 34 → Wrote (34 ∷ 34 ∷ []) s a q z → Wrote (line_shown w b n) s a q z
  unfolding line_shown
  shown_doubled i p h = rw (← ee, i, eq-eqb b 34 p) h

  pub shown_plain : e ≡ false → (b ≡ 34 → ⊥) → Wrote (b ∷ []) s a q z → Wrote (line_shown w b n) s a q z
  unfolding line_shown
  shown_plain i p h = rw (← ee, i, ne_eqb b 34 p) h

pub ruleset shown_cases = (shown_between, shown_doubled, shown_plain)
