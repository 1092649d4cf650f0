-- Reading drill lines byte by byte comes to the records of the definition.
use Prim.Native.Nat.{ℕ, suc, ◌+◌, ◌≤◌, ◌<◌}
use Rattle.std.specs.Prelude.{Bool, ◌&&◌, leb, Result, None}
use Rattle.std.proofs.Math.Bool.{true, false, cond, and-false}
use mathlib.Core.List.{List, [], ◌∷◌, ◌++◌, append-nil, append_assoc}
use Rattle.std.proofs.Math.Path.{◌≡◌, refl, sym, ap}
use Rattle.std.proofs.Common.{◌∙◌}
use Rattle.std.proofs.Math.Decide.{dec_lt, ℕ_discrete}
use native.Mathlib.Omega.{arith}
use Rattle.std.proofs.Math.Dec.{eqb}
use Rattle.std.proofs.Math.ListN.{length}
use borrow.Author.Tests.{lt-ltb, le-ltb, le-leb, lt-leb, ne_eqb}
use Rattle.text.specs.Fields.{TAB, LF}
use Rattle.delivery_csv.specs.Fields.{CR, COMMA, clean, field_taken, fields_taken, record_taken, unless_empty, pieces, Outcome, bad, good, with_record, read_all}
use Rattle.delivery_csv.specs.Records.{needs_quotes, doubled, field_text, records_text}
use Rattle.delivery_csv.specs.Lines.{whole_line, lines_in, line_fields, line_right, lines_read}
use Rattle.delivery_csv.specs.Converting.{text_of, csv_of_drill, conversion}
use Rattle.delivery_csv.specs.declared.ConversionError.{ConversionError}
use Rattle.delivery_csv.specs.laws.Outcomes.{with_text, text_more, text_cond}
use Rattle.delivery_csv.specs.laws.LineReader.{field_ends, wraps_in, wraps_after, reading_line, parted_line, extended_line, fed_line, advanced_line, line_ends, quote_if, end_mark, line_shown, line_untouched, line_end_text, line_wraps, run_lines, judged_lines, written_lines}
use Rattle.delivery_csv.specs.laws.LineScan.{outcome_lines, judged_lines_lem, written_text_lem}
use Rattle.delivery_csv.specs.laws.LineParts.{first, others, cut_parts, wraps_first, field_text_lem, end_text, record_text_lem}

-- ---- what is meant by a line of which some bytes are read

-- f fields are over, and l bytes of the next; h is the rest of that field, and hs are the fields after it
unfoldable taken_from : (f l : ℕ) → List ℕ → List (List ℕ) → Bool
taken_from f l h hs = leb (f + suc (length hs)) 16 && ((leb (l + length h) 64 && clean h) && fields_taken hs)

-- the text of the rest of the line; w says whether the field being read has quotes
unfoldable line_text : Bool → List ℕ → List (List ℕ) → List ℕ
line_text w h hs = doubled h ++ (quote_if w ++ end_text hs)

-- the records of pieces, of which the first is line n
unfoldable records_of : ℕ → List (List ℕ) → Outcome (List ℕ)
records_of n ps = text_of records_text (read_all line_right line_fields n (pieces whole_line ps))

-- line n, with what its record goes before
unfoldable meant_fields : (f l : ℕ) → Bool → ℕ → List ℕ → List (List ℕ) → Outcome (List ℕ) → Outcome (List ℕ)
meant_fields f l w n h hs o = cond (taken_from f l h hs) (with_text (line_text w h hs) o) (bad n)

-- whether the text ends before a line begins
unfoldable no_line : (f l : ℕ) → List ℕ → List (List ℕ) → Bool
no_line f l [] [] = eqb f 0 && eqb l 0
no_line f l [] (p ∷ ps) = false
no_line f l (b ∷ g) ps = false

-- g is the rest of line n, gs are the lines after it
unfoldable meant : (f l : ℕ) → Bool → ℕ → List ℕ → List (List ℕ) → Outcome (List ℕ)
meant f l w n g gs = cond (no_line f l g gs) (good []) (meant_fields f l w n (first TAB g) (others TAB g) (records_of (n + 1) gs))

-- ---- a whole line

taken_whole : (h : List ℕ) (hs : List (List ℕ)) → taken_from 0 0 h hs ≡ record_taken (h ∷ hs)
unfolding taken_from record_taken fields_taken field_taken
taken_whole h hs =
    let a : 0 + suc (length hs) ≡ suc (length hs) = omega arith in
    let b : 0 + length h ≡ length h = omega arith in
    rw (a, b)

module _ (w : Bool) (h : List ℕ) (hs : List (List ℕ)) (e : w ≡ needs_quotes h) where
  text_whole : (z : List ℕ) → quote_if w ++ (line_text w h hs ++ z) ≡ field_text h ++ (end_text hs ++ z)
  unfolding line_text
  text_whole z = rw (field_text_lem h, ← e) (simp append_assoc)

  record_more : (rs : Outcome (List (List (List ℕ)))) →
      with_text (quote_if w) (with_text (line_text w h hs) (text_of records_text rs)) ≡ text_of records_text (with_record (h ∷ hs) rs)
  unfolding with_text text_of with_record records_text
  record_more (bad n) = refl
  record_more (good rs) = ap good (text_whole (records_text rs) ∙ sym (record_text_lem h hs (records_text rs)))

  fields_whole : (n : ℕ) (rs : Outcome (List (List (List ℕ)))) →
      with_text (quote_if w) (meant_fields 0 0 w n h hs (text_of records_text rs))
      ≡ text_of records_text (cond (record_taken (h ∷ hs)) (with_record (h ∷ hs) rs) (bad n))
  unfolding meant_fields with_text text_of
  fields_whole n rs = rw (taken_whole h hs) (go (record_taken (h ∷ hs)))
    where
      go : (c : Bool) →
          with_text (quote_if w) (cond c (with_text (line_text w h hs) (text_of records_text rs)) (bad n))
          ≡ text_of records_text (cond c (with_record (h ∷ hs) rs) (bad n))
      go true = record_more rs
      go false = refl

line_whole : (w : Bool) (n : ℕ) (g : List ℕ) (ps : List (List ℕ)) → w ≡ needs_quotes (first TAB g) →
    with_text (quote_if w) (meant_fields 0 0 w n (first TAB g) (others TAB g) (text_of records_text (read_all line_right line_fields (n + 1) ps)))
    ≡ text_of records_text (read_all line_right line_fields n (g ∷ ps))
unfolding read_all line_right line_fields
line_whole w n g ps e = rw (cut_parts TAB g) (fields_whole w (first TAB g) (others TAB g) e n (read_all line_right line_fields (n + 1) ps))

-- before a line: nothing of it is read but that its first field has quotes
meant_start : (w : Bool) (n : ℕ) (g : List ℕ) (gs : List (List ℕ)) → w ≡ needs_quotes (first TAB g) → with_text (quote_if w) (meant 0 0 w n g gs) ≡ records_of n (g ∷ gs)
unfolding meant no_line records_of pieces unless_empty whole_line first needs_quotes with_text quote_if text_of read_all records_text
meant_start w n [] [] e = rw e
meant_start w n [] (p ∷ ps) e = line_whole w n [] (pieces whole_line (p ∷ ps)) e
meant_start w n (b ∷ g) [] e = line_whole w n (b ∷ g) [] e
meant_start w n (b ∷ g) (p ∷ ps) e = line_whole w n (b ∷ g) (pieces whole_line (p ∷ ps)) e

-- ---- byte by byte

-- a line that is not taken stays so
runs_wrong : (t : List ℕ) (n : ℕ) → run_lines None n t ≡ bad n
unfolding run_lines advanced_line line_ends with_text line_wraps fed_line
runs_wrong [] n = refl
runs_wrong (b ∷ t) n = rw (runs_wrong t n)

-- the statement, for a line that may still be taken
unfoldable Means : (f l : ℕ) → Bool → ℕ → List ℕ → Type 0
Means f l w n t = run_lines (reading_line f l w) n t ≡ meant f l w n (first LF t) (others LF t)

-- something is read of the line
line_fields_lem : (f l : ℕ) (g : List ℕ) (gs : List (List ℕ)) → no_line (f + 1) l g gs ≡ false
unfolding no_line
line_fields_lem f l [] [] = rw (ne_eqb (f + 1) 0 (λ z. omega arith))
line_fields_lem f l [] (p ∷ ps) = refl
line_fields_lem f l (b ∷ g) gs = refl

line_bytes_lem : (f l : ℕ) (g : List ℕ) (gs : List (List ℕ)) → no_line f (l + 1) g gs ≡ false
unfolding no_line
line_bytes_lem f l [] [] = rw (ne_eqb (l + 1) 0 (λ z. omega arith)) (and-false (eqb f 0))
line_bytes_lem f l [] (p ∷ ps) = refl
line_bytes_lem f l (b ∷ g) gs = refl

module _ (f l : ℕ) (w : Bool) (n : ℕ) (fewer : f < 16) (shorter : l ≤ 64) where
  -- whether the line is taken, byte by byte
  taken_end : taken_from f l [] [] ≡ true
  unfolding taken_from clean fields_taken
  taken_end = rw (le-leb (f + 1) 16 (omega arith), le-leb (l + 0) 64 (omega arith))

  module _ (h : List ℕ) (hs : List (List ℕ)) where
    -- a tab ends the field, and h is the next one
    taken_tab : taken_from f l [] (h ∷ hs) ≡ taken_from (f + 1) 0 h hs
    unfolding taken_from clean fields_taken field_taken
    taken_tab =
        let a : f + suc (suc (length hs)) ≡ f + 1 + suc (length hs) = omega arith in
        let b : 0 + length h ≡ length h = omega arith in
        rw (a, b, le-leb (l + 0) 64 (omega arith))

    taken_many : 16 ≤ f + 1 → taken_from f l [] (h ∷ hs) ≡ false
    unfolding taken_from
    taken_many m = rw (lt-leb (f + suc (suc (length hs))) 16 (omega arith))

    taken_cr : taken_from f l (13 ∷ h) hs ≡ false
    unfolding taken_from clean
    taken_cr = rw (and-false (leb (l + suc (length h)) 64)) (and-false (leb (f + suc (length hs)) 16))

    taken_byte : (b : ℕ) → (b ≡ 10 → ⊥) → (b ≡ 9 → ⊥) → (b ≡ 13 → ⊥) → taken_from f l (b ∷ h) hs ≡ taken_from f (l + 1) h hs
    unfolding taken_from clean
    taken_byte b i j k =
        let a : l + suc (length h) ≡ l + 1 + length h = omega arith in
        rw (a, ne_eqb b 10 i, ne_eqb b 9 j, ne_eqb b 13 k)

    taken_long : (b : ℕ) → 64 ≤ l → taken_from f l (b ∷ h) hs ≡ false
    unfolding taken_from
    taken_long b m = rw (lt-leb (l + suc (length h)) 64 (omega arith)) (and-false (leb (f + suc (length hs)) 16))

  -- the text for a tab, and the fields after it
  fields_tab : (v : Bool) (h : List ℕ) (hs : List (List ℕ)) (o : Outcome (List ℕ)) → v ≡ needs_quotes h →
      with_text (quote_if w ++ (COMMA ∷ quote_if v)) (meant_fields (f + 1) 0 v n h hs o) ≡ meant_fields f l w n [] (h ∷ hs) o
  unfolding meant_fields line_text doubled end_text
  fields_tab v h hs o e =
      text_cond (quote_if w ++ (COMMA ∷ quote_if v)) (taken_from (f + 1) 0 h hs) _ n
      ∙ rw (taken_tab h hs)
      (ap (λ (x : Outcome (List ℕ)). cond (taken_from (f + 1) 0 h hs) x (bad n))
      (text_more (quote_if w ++ (COMMA ∷ quote_if v)) (doubled h ++ (quote_if v ++ end_text hs)) o
      ∙ ap (λ (u : List ℕ). with_text u o) (rw (field_text_lem h, ← e) (simp append_assoc))))

  -- the text for a byte of a field, and the rest of the line
  byte_text_lem : (b : ℕ) (h u : List ℕ) → cond (eqb b 34) (34 ∷ 34 ∷ []) (b ∷ []) ++ (doubled h ++ u) ≡ doubled (b ∷ h) ++ u
  unfolding doubled
  byte_text_lem b h u = go (eqb b 34)
    where
      go : (c : Bool) → cond c (34 ∷ 34 ∷ []) (b ∷ []) ++ (doubled h ++ u) ≡ cond c (34 ∷ 34 ∷ doubled h) (b ∷ doubled h) ++ u
      go true = refl
      go false = refl

  fields_byte : (b : ℕ) → (b ≡ 10 → ⊥) → (b ≡ 9 → ⊥) → (b ≡ 13 → ⊥) → (h : List ℕ) (hs : List (List ℕ)) (o : Outcome (List ℕ)) →
      with_text (cond (eqb b 34) (34 ∷ 34 ∷ []) (b ∷ [])) (meant_fields f (l + 1) w n h hs o) ≡ meant_fields f l w n (b ∷ h) hs o
  unfolding meant_fields line_text
  fields_byte b i j k h hs o =
      text_cond (cond (eqb b 34) (34 ∷ 34 ∷ []) (b ∷ [])) (taken_from f (l + 1) h hs) _ n
      ∙ rw (taken_byte h hs b i j k)
      (ap (λ (x : Outcome (List ℕ)). cond (taken_from f (l + 1) h hs) x (bad n))
      (text_more (cond (eqb b 34) (34 ∷ 34 ∷ []) (b ∷ [])) (doubled h ++ (quote_if w ++ end_text hs)) o
      ∙ ap (λ (u : List ℕ). with_text u o) (byte_text_lem b h (quote_if w ++ end_text hs))))

  -- the text is over
  means_end : Means f l w n []
  unfolding Means run_lines reading_line line_end_text line_untouched first others meant no_line meant_fields line_text end_text doubled records_of pieces read_all text_of records_text with_text line_wraps
  means_end = rw taken_end (go (eqb f 0 && eqb l 0))
    where
      go : (c : Bool) → ◌≡◌ {A = Outcome (List ℕ)} (good (cond c [] (quote_if w ++ (CR ∷ LF ∷ [])))) (cond c (good []) (good ((quote_if w ++ (CR ∷ LF ∷ [])) ++ [])))
      go true = refl
      go false = ap good (sym (append-nil (quote_if w ++ (CR ∷ LF ∷ []))))

  module _ (t : List ℕ) where
    -- the line is over, and the next begins
    means_lf : Means 0 0 (wraps_in t) (n + 1) t → Means f l w n (10 ∷ t)
    unfolding Means run_lines reading_line advanced_line line_ends wraps_after field_ends line_shown end_mark first others meant no_line meant_fields line_text end_text doubled line_wraps fed_line
    means_lf ih =
        let m : Outcome (List ℕ) = meant 0 0 (wraps_in t) (n + 1) (first LF t) (others LF t) in
        rw (taken_end, ih)
        (ap (λ (u : List ℕ). with_text u m) (sym (append_assoc (quote_if w) (CR ∷ LF ∷ []) (quote_if (wraps_in t))))
        ∙ (sym (text_more (quote_if w ++ (CR ∷ LF ∷ [])) (quote_if (wraps_in t)) m)
        ∙ ap (with_text (quote_if w ++ (CR ∷ LF ∷ []))) (meant_start (wraps_in t) (n + 1) (first LF t) (others LF t) (wraps_first t))))

    -- the field is over: one too many follows, or another
    means_wrong_tab : 16 ≤ f + 1 → Means f l w n (9 ∷ t)
    unfolding Means run_lines reading_line advanced_line parted_line line_ends first others meant no_line meant_fields with_text line_wraps fed_line
    means_wrong_tab h = rw (le-ltb (f + 1) 16 h, runs_wrong t n, taken_many (first TAB (first LF t)) (others TAB (first LF t)) h)

    means_tab : (f + 1 < 16 → Means (f + 1) 0 (wraps_in t) n t) → Means f l w n (9 ∷ t)
    unfolding Means run_lines reading_line advanced_line parted_line line_ends wraps_after field_ends line_shown end_mark first others meant no_line line_wraps fed_line
    means_tab ih =
        elim (dec_lt (f + 1) 16) [
          | yes h ↦
              rw (lt-ltb (f + 1) 16 h, ih h, line_fields_lem f 0 (first LF t) (others LF t))
              (fields_tab (wraps_in t) (first TAB (first LF t)) (others TAB (first LF t)) (records_of (n + 1) (others LF t)) (wraps_first t))
          | no h ↦ means_wrong_tab (omega arith)
        ]

    -- no field has a CR
    means_cr : Means f l w n (13 ∷ t)
    unfolding Means run_lines reading_line advanced_line line_ends first others meant no_line meant_fields with_text line_wraps fed_line
    means_cr = rw (runs_wrong t n, taken_cr (first TAB (first LF t)) (others TAB (first LF t)))

    module _ (b : ℕ) (i : b ≡ 10 → ⊥) (j : b ≡ 9 → ⊥) (k : b ≡ 13 → ⊥) where
      -- one more byte of the field: one too many, or another
      means_long : 64 ≤ l → Means f l w n (b ∷ t)
      unfolding Means run_lines reading_line advanced_line extended_line line_ends first others meant no_line meant_fields with_text line_wraps fed_line
      means_long h =
          rw (
            ne_eqb b 10 i,
            ne_eqb b 9 j,
            ne_eqb b 13 k,
            le-ltb l 64 h,
            runs_wrong t n,
            taken_long (first TAB (first LF t)) (others TAB (first LF t)) b h,
          )

      means_other : (l < 64 → Means f (l + 1) w n t) → Means f l w n (b ∷ t)
      unfolding Means run_lines reading_line advanced_line extended_line line_ends wraps_after field_ends line_shown first others meant no_line line_wraps fed_line
      means_other ih =
          elim (dec_lt l 64) [
            | yes h ↦
                rw (ne_eqb b 10 i, ne_eqb b 9 j, ne_eqb b 13 k, lt-ltb l 64 h, ih h, line_bytes_lem f l (first LF t) (others LF t))
                (fields_byte b i j k (first TAB (first LF t)) (others TAB (first LF t)) (records_of (n + 1) (others LF t)))
            | no h ↦ means_long (omega arith)
          ]

means : (t : List ℕ) (f l : ℕ) (w : Bool) (n : ℕ) → f < 16 → l ≤ 64 → Means f l w n t
means [] f l w n h k = means_end f l w n h k
means (b ∷ t) f l w n h k =
    elim (ℕ_discrete b 10) [
      | yes e ↦ rw e (means_lf f l w n h k t (means t 0 0 (wraps_in t) (n + 1) (omega arith) (omega arith)))
      | no e ↦
          elim (ℕ_discrete b 9) [
            | yes i ↦ rw i (means_tab f l w n h k t (λ m. means t (f + 1) 0 (wraps_in t) n m (omega arith)))
            | no i ↦
                elim (ℕ_discrete b 13) [
                  | yes j ↦ rw j (means_cr f l w n h k t)
                  | no j ↦ means_other f l w n h k t b e i j (λ m. means t f (l + 1) w n h (omega arith))
                ]
          ]
    ]

-- the records byte by byte are those of the definition
lines_theorem : (t : List ℕ) → outcome_lines t ≡ csv_of_drill t
unfolding outcome_lines csv_of_drill lines_read lines_in records_of Means
lines_theorem t =
    rw (cut_parts LF t, means t 0 0 (wraps_in t) 1 (omega arith) (omega arith))
    (meant_start (wraps_in t) 1 (first LF t) (others LF t) (wraps_first t))

pub lines_judge : (t : List ℕ) (all : ℕ) (x : Result ℕ ConversionError) → x ≡ judged_lines all t → x ≡ conversion (csv_of_drill t) all
lines_judge t all x e = e ∙ rw (← lines_theorem t) (judged_lines_lem all t)

pub lines_emitted : (t u : List ℕ) → csv_of_drill t ≡ good u → u ≡ written_lines t
lines_emitted t u e = written_text_lem t u (lines_theorem t ∙ e)
