-- A record read byte by byte is what the definitions say of it.
use Rattle.std.specs.Prelude.{ℕ, ◌+◌, Bool, ◌&&◌, not, ◌≡◌, eqb, ltb, Option, None}
use Rattle.std.proofs.Math.Bool.{true, false, cond}
use mathlib.Core.List.{List, [], ◌∷◌, ◌++◌, append_assoc}
use Rattle.std.proofs.Math.Path.{refl, sym, ap}
use Rattle.std.proofs.Common.{◌∙◌}
use Rattle.text.specs.Fields.{TAB, LF, in_front}
use Rattle.delivery_csv.specs.Fields.{CR, QUOTE, COMMA, max_fields, max_field_bytes, cut, joined, record_taken, Outcome, bad}
use Rattle.delivery_csv.specs.Records.{turned, all_right, all_values, field_value, raw_fields, record_right, record_fields}
use Rattle.delivery_csv.specs.laws.Bytes.{Other, by_kind_lem}
use Rattle.delivery_csv.specs.laws.Outcomes.{with_text, text_more}
use Rattle.delivery_csv.specs.laws.RecordReader.{reading, start, extended, parted, plain_fed, quoted_fed, closing_fed, fed_in, fed, within, ends, plain_shown, shown_in, shown_text, broken_in, broken, shown}
use Rattle.delivery_csv.specs.laws.FieldTheorem.{right_from, text_from, rest_right, start_text, all_right_lem}
use Rattle.delivery_csv.specs.declared.Phase.{Phase}
use Rattle.delivery_csv.specs.declared.Phase.TheVariants.{Start, Plain, Quoted, Closing, Return}
use Rattle.delivery_csv.specs.declared.RecordReader.{RecordReader}

-- one more byte of a record that does not end here
unfoldable pub step : Option RecordReader → ℕ → Option RecordReader
step r b = cond (ends r b) None (fed r b)

-- what the rest of a record comes to, where `end` says so of the reader behind it
unfoldable pub record_run : (Option RecordReader → Outcome (List ℕ)) → Option RecordReader → List ℕ → Outcome (List ℕ)
record_run end r [] = end r
record_run end r (b ∷ g) = with_text (shown_text (shown r b)) (record_run end (step r b) g)

-- the record ends, its line too, and o follows
unfoldable pub full_end : ℕ → Outcome (List ℕ) → Option RecordReader → Outcome (List ℕ)
full_end n o r = cond (broken r) (bad n) (with_text (LF ∷ []) o)

-- a line with the text u where it is taken, and o after it
unfoldable pub line : ℕ → Outcome (List ℕ) → Bool → List ℕ → Outcome (List ℕ)
line n o ok u = cond ok (with_text (u ++ (LF ∷ [])) o) (bad n)

-- the same, for the fields of the bytes that are left
unfoldable meant : Phase → (f l n : ℕ) → Outcome (List ℕ) → List (List ℕ) → Outcome (List ℕ)
meant p f l n o [] = bad n
meant p f l n o (h ∷ hs) = line n o (right_from h p l && rest_right (f + 1) hs) (joined TAB (text_from h p ∷ all_values hs))

pub wrong_run : (g : List ℕ) (end : Option RecordReader → Outcome (List ℕ)) (n : ℕ) → end None ≡ bad n → record_run end None g ≡ bad n
unfolding record_run step ends fed with_text shown
wrong_run [] end n e = e
wrong_run (b ∷ g) end n e = rw (wrong_run g end n e)

-- a cut text has a first piece
pub cut_some : (t : List ℕ) (turns : Bool → ℕ → Bool) (s : ℕ) (inside : Bool) (P : List (List ℕ) → Type 0) → ((h : List ℕ) (hs : List (List ℕ)) → P (h ∷ hs)) →
    P (cut turns s inside t)
unfolding cut in_front
cut_some [] turns s inside P k = k [] []
cut_some (b ∷ t) turns s inside P k =
    go (eqb b s && not inside) (cut_some t turns s (turns inside b) (λ hs. P (in_front b hs)) (λ h hs. k (b ∷ h) hs))
  where
    go : (c : Bool) → P (in_front b (cut turns s (turns inside b) t)) → P (cond c ([] ∷ cut turns s inside t) (in_front b (cut turns s (turns inside b) t)))
    go true h = k [] (cut turns s inside t)
    go false h = h

joined_front : (u x : List ℕ) (vs : List (List ℕ)) → joined TAB ((u ++ x) ∷ vs) ≡ u ++ joined TAB (x ∷ vs)
unfolding joined
joined_front u x [] = refl
joined_front u x (v ∷ vs) = append_assoc u x (TAB ∷ joined TAB (v ∷ vs))

line_more : (n : ℕ) (o : Outcome (List ℕ)) (u x : List ℕ) (ok : Bool) → with_text u (line n o ok x) ≡ line n o ok (u ++ x)
unfolding line with_text
line_more n o u x true = text_more u (x ++ (LF ∷ [])) o ∙ ap (λ (v : List ℕ). with_text v o) (sym (append_assoc u x (LF ∷ [])))
line_more n o u x false = refl

module _ (f n : ℕ) (o : Outcome (List ℕ)) where
  -- a byte more of the field being read
  meant_byte : (p q : Phase) (l m b : ℕ) (u : List ℕ) (t : Bool) → ((h : List ℕ) → right_from (b ∷ h) p l ≡ (t && right_from h q m)) →
      ((h : List ℕ) → text_from (b ∷ h) p ≡ u ++ text_from h q) → (hs : List (List ℕ)) →
      with_text u (cond t (meant q f m n o hs) (bad n)) ≡ meant p f l n o (in_front b hs)
  unfolding meant in_front with_text line
  meant_byte p q l m b u true r x [] = refl
  meant_byte p q l m b u false r x [] = refl
  meant_byte p q l m b u true r x (h ∷ hs) =
      rw (r h, x h, joined_front u (text_from h q) (all_values hs)) (line_more n o u (joined TAB (text_from h q ∷ all_values hs)) (right_from h q m && rest_right (f + 1) hs))
  meant_byte p q l m b u false r x (h ∷ hs) = rw (r h)

  meant_wrong : (p : Phase) (l b : ℕ) → ((h : List ℕ) → right_from (b ∷ h) p l ≡ false) → (hs : List (List ℕ)) → meant p f l n o (in_front b hs) ≡ bad n
  unfolding meant in_front line
  meant_wrong p l b r [] = refl
  meant_wrong p l b r (h ∷ hs) = rw (r h)

  meant_return : (l : ℕ) (hs : List (List ℕ)) → meant Return f l n o hs ≡ bad n
  unfolding meant line right_from broken_in
  meant_return l [] = refl
  meant_return l ([] ∷ hs) = refl
  meant_return l ((b ∷ h) ∷ hs) = refl

  -- the field is over
  meant_comma : (p : Phase) (l : ℕ) → broken_in p ≡ false → (t : Bool) → ltb (f + 1) max_fields ≡ t → (h : List ℕ) (hs : List (List ℕ)) →
      with_text (TAB ∷ []) (cond t (meant Start (f + 1) 0 n o (h ∷ hs)) (bad n)) ≡ meant p f l n o ([] ∷ h ∷ hs)
  unfolding meant with_text line right_from rest_right text_from joined all_values
  meant_comma p l e true d h hs =
      rw (e, d, start_text h) (line_more n o (TAB ∷ []) (joined TAB (field_value h ∷ all_values hs)) (right_from h Start 0 && rest_right (f + 1 + 1) hs))
  meant_comma p l e false d h hs = rw (e, d)

-- what any other byte does in a field
module _ (l b : ℕ) (k : Other b) (h : List ℕ) where
  start_goes : right_from (b ∷ h) Start l ≡ (ltb l max_field_bytes && right_from h Plain (l + 1))
  unfolding right_from
  start_goes = rw (k.quote, k.tab, k.cr, k.lf)

  plain_goes : right_from (b ∷ h) Plain l ≡ (ltb l max_field_bytes && right_from h Plain (l + 1))
  unfolding right_from
  plain_goes = rw (k.quote, k.tab, k.cr, k.lf)

  quoted_goes : right_from (b ∷ h) Quoted l ≡ (ltb l max_field_bytes && right_from h Quoted (l + 1))
  unfolding right_from
  quoted_goes = rw (k.quote, k.tab, k.cr, k.lf)

  closing_stops : right_from (b ∷ h) Closing l ≡ false
  unfolding right_from
  closing_stops = rw k.quote

module _ (b : ℕ) (k : Other b) where
  start_says : (h : List ℕ) → text_from (b ∷ h) Start ≡ b ∷ text_from h Plain
  unfolding text_from
  start_says [] = rw k.quote
  start_says (c ∷ h) = rw k.quote

  quoted_says : (h : List ℕ) → text_from (b ∷ h) Quoted ≡ b ∷ text_from h Quoted
  unfolding text_from
  quoted_says h = rw k.quote

plain_says : (b : ℕ) (h : List ℕ) → text_from (b ∷ h) Plain ≡ b ∷ text_from h Plain
unfolding text_from
plain_says b [] = refl
plain_says b (c ∷ h) = refl

-- a record of which nothing is read
whole : (n : ℕ) (o : Outcome (List ℕ)) (h : List ℕ) (hs : List (List ℕ)) →
    meant Start 0 0 n o (h ∷ hs) ≡ line n o (all_right (h ∷ hs) && record_taken (all_values (h ∷ hs))) (joined TAB (all_values (h ∷ hs)))
unfolding meant rest_right all_values
whole n o h hs = rw (start_text h) (ap (λ (t : Bool). line n o t (joined TAB (field_value h ∷ all_values hs))) (all_right_lem (h ∷ hs)))

-- the statement: reading the rest of a record is what its fields mean
Means : (n : ℕ) (o : Outcome (List ℕ)) (g : List ℕ) → Phase → (f l : ℕ) → Type 0
Means n o g p f l = record_run (full_end n o) (reading p f l) g ≡ meant p f l n o (cut turned COMMA (within p) g)

module _ (n : ℕ) (o : Outcome (List ℕ)) (g : List ℕ) (ih : (p : Phase) (f l : ℕ) → Means n o g p f l) where
  refused : record_run (full_end n o) None g ≡ bad n
  unfolding full_end broken
  refused = wrong_run g (full_end n o) n refl

  -- the ways to go on: within the field, to the next one, or not at all
  on_byte : (p q : Phase) (f l m b : ℕ) (u : List ℕ) (t : Bool) → ((h : List ℕ) → right_from (b ∷ h) p l ≡ (t && right_from h q m)) →
      ((h : List ℕ) → text_from (b ∷ h) p ≡ u ++ text_from h q) →
      with_text u (record_run (full_end n o) (cond t (reading q f m) None) g) ≡ meant p f l n o (in_front b (cut turned COMMA (within q) g))
  unfolding Means
  on_byte p q f l m b u t r x = ap (λ (v : Outcome (List ℕ)). with_text u v) (go t) ∙ meant_byte f n o p q l m b u t r x (cut turned COMMA (within q) g)
    where
      go : (s : Bool) → record_run (full_end n o) (cond s (reading q f m) None) g ≡ cond s (meant q f m n o (cut turned COMMA (within q) g)) (bad n)
      go true = ih q f m
      go false = refused

  on_wrong : (p : Phase) (f l b : ℕ) (u : List ℕ) (inside : Bool) → ((h : List ℕ) → right_from (b ∷ h) p l ≡ false) →
      with_text u (record_run (full_end n o) None g) ≡ meant p f l n o (in_front b (cut turned COMMA inside g))
  unfolding with_text
  on_wrong p f l b u inside r = rw refused (sym (meant_wrong f n o p l b r (cut turned COMMA inside g)))

  on_return : (p : Phase) (f l b : ℕ) (u : List ℕ) (inside : Bool) → ((h : List ℕ) → right_from (b ∷ h) p l ≡ false) →
      with_text u (record_run (full_end n o) (reading Return f l) g) ≡ meant p f l n o (in_front b (cut turned COMMA inside g))
  unfolding with_text Means
  on_return p f l b u inside r =
      ap (λ (v : Outcome (List ℕ)). with_text u v) (ih Return f l ∙ meant_return f n o l (cut turned COMMA (within Return) g))
      ∙ sym (meant_wrong f n o p l b r (cut turned COMMA inside g))

  on_comma : (p : Phase) (f l : ℕ) → broken_in p ≡ false →
      with_text (TAB ∷ []) (record_run (full_end n o) (cond (ltb (f + 1) max_fields) (reading Start (f + 1) 0) None) g) ≡ meant p f l n o ([] ∷ cut turned COMMA false g)
  unfolding parted reading Means within shown
  on_comma p f l e =
      ap (λ (v : Outcome (List ℕ)). with_text (TAB ∷ []) v) (go (ltb (f + 1) max_fields))
      ∙ cut_some g turned COMMA false (λ hs. with_text (TAB ∷ []) (cond (ltb (f + 1) max_fields) (meant Start (f + 1) 0 n o hs) (bad n)) ≡ meant p f l n o ([] ∷ hs))
      (meant_comma f n o p l e (ltb (f + 1) max_fields) refl)
    where
      go : (s : Bool) →
          record_run (full_end n o) (cond s (reading Start (f + 1) 0) None) g ≡ cond s (meant Start (f + 1) 0 n o (cut turned COMMA false g)) (bad n)
      go true = ih Start (f + 1) 0
      go false = refused

  Steps : Phase → (f l b : ℕ) → Type 0
  Steps p f l b =
      with_text (shown_text (shown_in p b)) (record_run (full_end n o) (step (reading p f l) b) g) ≡ meant p f l n o (cut turned COMMA (within p) (b ∷ g))

  start_other : (f l b : ℕ) → Other b → Steps Start f l b
  unfolding Steps cut turned within step reading ends fed fed_in plain_fed extended shown_in plain_shown shown_text shown
  start_other f l b k =
      rw (k.comma, k.lf, k.quote, k.cr, k.tab)
      (on_byte Start Plain f l (l + 1) b (b ∷ []) (ltb l max_field_bytes) (start_goes l b k) (start_says b k))

  start_steps : (f l b : ℕ) → Steps Start f l b
  unfolding Steps cut turned within step reading ends fed fed_in plain_fed quoted_fed closing_fed parted extended shown_in plain_shown shown_text right_from text_from broken_in shown
  start_steps f l =
      by_kind_lem (λ b. Steps Start f l b)
      (on_byte Start Quoted f l 0 QUOTE [] true (λ h. refl) (λ h. refl))
      (on_comma Start f l refl)
      (on_return Start f l CR [] false (λ h. refl))
      (on_wrong Start f l TAB (TAB ∷ []) false (λ h. refl))
      (on_wrong Start f l LF (LF ∷ []) false (λ h. refl))
      (start_other f l)

  plain_other : (f l b : ℕ) → Other b → Steps Plain f l b
  unfolding Steps cut turned within step reading ends fed fed_in plain_fed extended shown_in plain_shown shown_text shown
  plain_other f l b k =
      rw (k.comma, k.lf, k.quote, k.cr, k.tab)
      (on_byte Plain Plain f l (l + 1) b (b ∷ []) (ltb l max_field_bytes) (plain_goes l b k) (plain_says b))

  plain_steps : (f l b : ℕ) → Steps Plain f l b
  unfolding Steps cut turned within step reading ends fed fed_in plain_fed quoted_fed closing_fed parted extended shown_in plain_shown shown_text right_from text_from broken_in shown
  plain_steps f l =
      by_kind_lem (λ b. Steps Plain f l b)
      (on_wrong Plain f l QUOTE (QUOTE ∷ []) true (λ h. refl))
      (on_comma Plain f l refl)
      (on_return Plain f l CR [] false (λ h. refl))
      (on_wrong Plain f l TAB (TAB ∷ []) false (λ h. refl))
      (on_wrong Plain f l LF (LF ∷ []) false (λ h. refl))
      (plain_other f l)

  quoted_other : (f l b : ℕ) → Other b → Steps Quoted f l b
  unfolding Steps cut turned within step reading ends fed fed_in quoted_fed extended shown_in shown_text shown
  quoted_other f l b k =
      rw (k.comma, k.lf, k.quote, k.tab, k.cr)
      (on_byte Quoted Quoted f l (l + 1) b (b ∷ []) (ltb l max_field_bytes) (quoted_goes l b k) (quoted_says b k))

  quoted_steps : (f l b : ℕ) → Steps Quoted f l b
  unfolding Steps cut turned within step reading ends fed fed_in plain_fed quoted_fed closing_fed parted extended shown_in plain_shown shown_text right_from text_from broken_in shown
  quoted_steps f l =
      by_kind_lem (λ b. Steps Quoted f l b)
      (on_byte Quoted Closing f l l QUOTE [] true (λ h. refl) (λ h. refl))
      (on_byte Quoted Quoted f l (l + 1) COMMA (COMMA ∷ []) (ltb l max_field_bytes) (λ h. refl) (λ h. refl))
      (on_wrong Quoted f l CR (CR ∷ []) true (λ h. refl))
      (on_wrong Quoted f l TAB (TAB ∷ []) true (λ h. refl))
      (on_wrong Quoted f l LF (LF ∷ []) true (λ h. refl))
      (quoted_other f l)

  closing_other : (f l b : ℕ) → Other b → Steps Closing f l b
  unfolding Steps cut turned within step reading ends fed fed_in closing_fed shown_in plain_shown shown_text shown
  closing_other f l b k = rw (k.comma, k.lf, k.quote, k.cr) (on_wrong Closing f l b (b ∷ []) false (closing_stops l b k))

  closing_steps : (f l b : ℕ) → Steps Closing f l b
  unfolding Steps cut turned within step reading ends fed fed_in plain_fed quoted_fed closing_fed parted extended shown_in plain_shown shown_text right_from text_from broken_in shown
  closing_steps f l =
      by_kind_lem (λ b. Steps Closing f l b)
      (on_byte Closing Quoted f l (l + 1) QUOTE (QUOTE ∷ []) (ltb l max_field_bytes) (λ h. refl) (λ h. refl))
      (on_comma Closing f l refl)
      (on_return Closing f l CR [] false (λ h. refl))
      (on_wrong Closing f l TAB (TAB ∷ []) false (λ h. refl))
      (on_wrong Closing f l LF (LF ∷ []) false (λ h. refl))
      (closing_other f l)

  -- nothing may follow a CR
  return_steps : (f l b : ℕ) → Steps Return f l b
  unfolding Steps step reading ends fed fed_in within with_text shown
  return_steps f l b = go (eqb b LF) (shown_text (shown_in Return b)) ∙ sym (meant_return f n o l (cut turned COMMA false (b ∷ g)))
    where
      go : (t : Bool) (u : List ℕ) → with_text u (record_run (full_end n o) (cond (t && true) None None) g) ≡ bad n
      go true u = rw refused
      go false u = rw refused

  steps : (p : Phase) (f l b : ℕ) → Steps p f l b
  steps Start f l b = start_steps f l b
  steps Plain f l b = plain_steps f l b
  steps Quoted f l b = quoted_steps f l b
  steps Closing f l b = closing_steps f l b
  steps Return f l b = return_steps f l b

means_end : (n : ℕ) (o : Outcome (List ℕ)) (p : Phase) (f l : ℕ) → Means n o [] p f l
unfolding Means record_run full_end broken broken_in reading meant line cut right_from rest_right text_from all_values joined shown
means_end n o Start f l = refl
means_end n o Plain f l = refl
means_end n o Quoted f l = refl
means_end n o Closing f l = refl
means_end n o Return f l = refl

means : (g : List ℕ) (n : ℕ) (o : Outcome (List ℕ)) (p : Phase) (f l : ℕ) → Means n o g p f l
unfolding Means record_run reading Steps shown
means [] n o p f l = means_end n o p f l
means (b ∷ g) n o p f l = steps n o g (means g n o) p f l b

-- a whole record
pub record_run_lem : (g : List ℕ) (n : ℕ) (o : Outcome (List ℕ)) →
    record_run (full_end n o) start g ≡ line n o (record_right g && record_taken (record_fields g)) (joined TAB (record_fields g))
unfolding Means start record_right record_fields raw_fields within shown
record_run_lem g n o =
    means g n o Start 0 0
    ∙ cut_some g turned COMMA false (λ hs. meant Start 0 0 n o hs ≡ line n o (all_right hs && record_taken (all_values hs)) (joined TAB (all_values hs))) (whole n o)
