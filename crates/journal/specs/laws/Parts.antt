-- The parts in which the code writes a line, and that they make it.
use Rattle.std.specs.Prelude.{ℕ, ◌/◌, ◌%◌, ◌≡◌, refl, length, replicate}
use mathlib.Core.List.{List, [], ◌∷◌, ◌++◌, append-nil, append_assoc}
use Rattle.std.proofs.Common.{sym, subst, ◌∙◌}
use Rattle.std.proofs.Math.Path.{ap}
use Rattle.io.specs.Digits.{last_digits, hex_digit_ascii}
use Rattle.text.specs.Fields.{TAB, LF}
use Rattle.text.specs.Numbers.{DECIMAL, WORD, decimal_text, hex_text, word_text, byte_text}
use Rattle.text.specs.Paste.{Wrote}
use Rattle.text.specs.laws.Paste.{wrote_both}
use Rattle.text.specs.Fields.{each_text}
use Rattle.text.specs.laws.Each.{each_append}
use Rattle.opening.specs.Arguments.{Arguments}
use Rattle.journal.specs.Lines.{LETTER_O, number_text, number_texts, tabbed, opening_forms, figures, numbers_of, forms_of, opening_text, hex_bytes, delivery_text, recording_text, with_end, opening_line, delivery_line, recording_line, turn_line}

-- a field after its tab
unfoldable pub tab_decimal : ℕ → List ℕ
tab_decimal n = TAB ∷ decimal_text n

unfoldable pub tab_word : ℕ → List ℕ
tab_word n = TAB ∷ word_text n

unfoldable pub tab_pack : ℕ → List ℕ
tab_pack n = TAB ∷ hex_text n

unfoldable pub settings_part : (version n ta ts : ℕ) → List ℕ
settings_part version n ta ts = LETTER_O ∷ (tab_decimal version ++ (tab_decimal n ++ (tab_decimal ta ++ tab_decimal ts)))

unfoldable pub input_part : (own session input : ℕ) → List ℕ
input_part own session input = tab_decimal own ++ (tab_decimal session ++ tab_pack input)

unfoldable pub lists_part : (coins weights : List ℕ) (boxed : ℕ) → List ℕ
lists_part coins weights boxed = each_text tab_word coins ++ (each_text tab_decimal weights ++ (tab_decimal boxed ++ (LF ∷ [])))

-- fields, each after its tab
unfoldable pub tabs : List (List ℕ) → List ℕ
tabs [] = []
tabs (f ∷ fs) = TAB ∷ (f ++ tabs fs)

tabbed_tabs : (f : List ℕ) (fs : List (List ℕ)) → tabbed f fs ≡ f ++ tabs fs
unfolding tabbed tabs
tabbed_tabs f [] = sym (append-nil f)
tabbed_tabs f (g ∷ fs) = ap (λ (t : List ℕ). f ++ (TAB ∷ t)) (tabbed_tabs g fs)

weights_tabs : (weights : List ℕ) → tabs (number_texts (replicate (length weights) DECIMAL) weights) ≡ each_text tab_decimal weights
unfolding tabs number_texts number_text each_text tab_decimal
weights_tabs [] = refl
weights_tabs (x ∷ weights) = ap (λ (t : List ℕ). TAB ∷ (decimal_text x ++ t)) (weights_tabs weights)

lists_tabs : (coins weights : List ℕ) → tabs (number_texts (replicate (length coins) WORD ++ replicate (length weights) DECIMAL) (coins ++ weights)) ≡ each_text tab_word coins ++ each_text tab_decimal weights
unfolding tabs number_texts number_text each_text tab_word word_text
lists_tabs [] weights = weights_tabs weights
lists_tabs (x ∷ coins) weights =
    ap (λ (t : List ℕ). TAB ∷ (last_digits 16 8 x ++ t)) (lists_tabs coins weights)
    ∙ ap (λ (t : List ℕ). TAB ∷ t) (sym (append_assoc (last_digits 16 8 x) (each_text tab_word coins) (each_text tab_decimal weights)))

-- the flag after the weights
flag_last : (o : Arguments) → each_text tab_decimal (figures o) ≡ each_text tab_decimal o.weights ++ tab_decimal o.boxed
unfolding each_text
flag_last o = each_append tab_decimal o.weights (o.boxed ∷ []) ∙ ap (λ (t : List ℕ). each_text tab_decimal o.weights ++ t) (append-nil (tab_decimal o.boxed))

lists_flag : (o : Arguments) → lists_part o.coins o.weights o.boxed ≡ each_text tab_word o.coins ++ (each_text tab_decimal (figures o) ++ (LF ∷ []))
unfolding lists_part
lists_flag o =
    ap (λ (t : List ℕ). each_text tab_word o.coins ++ t)
    (sym (append_assoc (each_text tab_decimal o.weights) (tab_decimal o.boxed) (10 ∷ [])) ∙ ap (λ (t : List ℕ). t ++ (10 ∷ [])) (sym (flag_last o)))

bytes_texts : (b : List ℕ) → each_text byte_text b ≡ hex_bytes b
unfolding each_text byte_text hex_bytes
bytes_texts [] = refl
bytes_texts (x ∷ b) = ap (λ (t : List ℕ). hex_digit_ascii (x / 16) ∷ hex_digit_ascii (x % 16) ∷ t) (bytes_texts b)

-- one text after the other
module _ (s s' s'' : List ℕ) (a r q : ℕ) where
  pub wrote_tab_decimal : (n : ℕ) → Wrote (9 ∷ []) s a r s' → Wrote (decimal_text n) s' r q s'' → Wrote (tab_decimal n) s a q s''
  unfolding tab_decimal
  wrote_tab_decimal n h l = wrote_both (9 ∷ []) (decimal_text n) s s' s'' a r q h l

  pub wrote_tab_word : (n : ℕ) → Wrote (9 ∷ []) s a r s' → Wrote (word_text n) s' r q s'' → Wrote (tab_word n) s a q s''
  unfolding tab_word
  wrote_tab_word n h l = wrote_both (9 ∷ []) (word_text n) s s' s'' a r q h l

  pub wrote_tab_pack : (n : ℕ) → Wrote (9 ∷ []) s a r s' → Wrote (hex_text n) s' r q s'' → Wrote (tab_pack n) s a q s''
  unfolding tab_pack
  wrote_tab_pack n h l = wrote_both (9 ∷ []) (hex_text n) s s' s'' a r q h l

  pub wrote_turn : Wrote (84 ∷ []) s a r s' → Wrote (10 ∷ []) s' r q s'' → Wrote turn_line s a q s''
  unfolding with_end
  wrote_turn h l = wrote_both (84 ∷ []) (10 ∷ []) s s' s'' a r q h l

pub ruleset two_parts = (wrote_tab_decimal, wrote_tab_word, wrote_tab_pack, wrote_turn)

module _ (s s1 s2 s3 : List ℕ) (a r1 r2 r3 : ℕ) where
  pub wrote_input : (own session input : ℕ) → Wrote (tab_decimal own) s a r1 s1 → Wrote (tab_decimal session) s1 r1 r2 s2 → Wrote (tab_pack input) s2 r2 r3 s3 → Wrote (input_part own session input) s a r3 s3
  unfolding input_part
  wrote_input own session input h1 h2 h3 = wrote_both _ _ s s1 s3 a r1 r3 h1 (wrote_both _ _ s1 s2 s3 r1 r2 r3 h2 h3)

pub ruleset three_parts = (wrote_input)

pub wrote_lists : (coins weights : List ℕ) (boxed : ℕ) (s s1 s2 s3 s4 : List ℕ) (a r1 r2 r3 r4 : ℕ) → Wrote (each_text tab_word coins) s a r1 s1 →
    Wrote (each_text tab_decimal weights) s1 r1 r2 s2 → Wrote (tab_decimal boxed) s2 r2 r3 s3 → Wrote (10 ∷ []) s3 r3 r4 s4 → Wrote (lists_part coins weights boxed) s a r4 s4
unfolding lists_part
wrote_lists coins weights boxed s s1 s2 s3 s4 a r1 r2 r3 r4 h1 h2 h3 h4 =
    wrote_both _ _ s s1 s4 a r1 r4 h1
    (wrote_both _ _ s1 s2 s4 r1 r2 r4 h2
    (wrote_both _ _ s2 s3 s4 r2 r3 r4 h3 h4))

pub wrote_settings : (version n ta ts : ℕ) (s s1 s2 s3 s4 s5 : List ℕ) (r1 r2 r3 r4 r5 : ℕ) → Wrote (79 ∷ []) s 0 r1 s1 → Wrote (tab_decimal version) s1 r1 r2 s2 →
    Wrote (tab_decimal n) s2 r2 r3 s3 → Wrote (tab_decimal ta) s3 r3 r4 s4 → Wrote (tab_decimal ts) s4 r4 r5 s5 → Wrote (settings_part version n ta ts) s 0 r5 s5
unfolding settings_part
wrote_settings version n ta ts s s1 s2 s3 s4 s5 r1 r2 r3 r4 r5 h1 h2 h3 h4 h5 =
    wrote_both (79 ∷ []) _ s s1 s5 0 r1 r5 h1
    (wrote_both _ _ s1 s2 s5 r1 r2 r5 h2
    (wrote_both _ _ s2 s3 s5 r2 r3 r5 h3
    (wrote_both _ _ s3 s4 s5 r3 r4 r5 h4 h5)))

-- the fields up to the own input, and x after them
abbrev fields_then : (v n a t o e i x : List ℕ) → List ℕ
fields_then v n a t o e i x = 79 ∷ 9 ∷ (v ++ (9 ∷ (n ++ (9 ∷ (a ++ (9 ∷ (t ++ (9 ∷ (o ++ (9 ∷ (e ++ (9 ∷ (i ++ x)))))))))))))

-- brackets moved to the right
four : (v n a t y : List ℕ) → (v ++ (9 ∷ (n ++ (9 ∷ (a ++ (9 ∷ t)))))) ++ y ≡ v ++ (9 ∷ (n ++ (9 ∷ (a ++ (9 ∷ (t ++ y))))))
four v n a t y =
    append_assoc v _ y
    ∙ ap (λ (x : List ℕ). v ++ (9 ∷ x)) (append_assoc n _ y ∙ ap (λ (x : List ℕ). n ++ (9 ∷ x)) (append_assoc a (9 ∷ t) y))

three : (o e i y : List ℕ) → (o ++ (9 ∷ (e ++ (9 ∷ i)))) ++ y ≡ o ++ (9 ∷ (e ++ (9 ∷ (i ++ y))))
three o e i y = append_assoc o _ y ∙ ap (λ (x : List ℕ). o ++ (9 ∷ x)) (append_assoc e (9 ∷ i) y)

nested : (v n a t o e i c d : List ℕ) →
    (79 ∷ ((9 ∷ v) ++ ((9 ∷ n) ++ ((9 ∷ a) ++ (9 ∷ t))))) ++ (((9 ∷ o) ++ ((9 ∷ e) ++ (9 ∷ i))) ++ (c ++ (d ++ (10 ∷ []))))
    ≡ fields_then v n a t o e i (c ++ d) ++ (10 ∷ [])
nested v n a t o e i c d =
    ap (λ (x : List ℕ). 79 ∷ 9 ∷ x)
    (four v n a t ((9 ∷ (o ++ (9 ∷ (e ++ (9 ∷ i))))) ++ (c ++ (d ++ (10 ∷ []))))
    ∙ ap (λ (x : List ℕ). v ++ (9 ∷ (n ++ (9 ∷ (a ++ (9 ∷ (t ++ (9 ∷ x))))))))
    (three o e i (c ++ (d ++ (10 ∷ []))) ∙ ap (λ (x : List ℕ). o ++ (9 ∷ (e ++ (9 ∷ (i ++ x))))) (sym (append_assoc c d (10 ∷ []))) ∙ sym (three o e (i ++ (c ++ d)) (10 ∷ []) ∙ ap (λ (x : List ℕ). o ++ (9 ∷ (e ++ (9 ∷ x)))) (append_assoc i (c ++ d) (10 ∷ []))))
    ∙ sym (four v n a (t ++ (9 ∷ (o ++ (9 ∷ (e ++ (9 ∷ (i ++ (c ++ d)))))))) (10 ∷ []) ∙ ap (λ (x : List ℕ). v ++ (9 ∷ (n ++ (9 ∷ (a ++ (9 ∷ x)))))) (append_assoc t (9 ∷ (o ++ (9 ∷ (e ++ (9 ∷ (i ++ (c ++ d))))))) (10 ∷ []))))

module _ (o : Arguments) where
  -- the fields up to the own input, and x after them
  abbrev line : List ℕ → List ℕ
  line x = fields_then (decimal_text o.version) (decimal_text o.n) (decimal_text o.ta) (decimal_text o.ts) (decimal_text o.own) (decimal_text o.session) (last_digits 16 16 o.input) x

  pub opening_parts : settings_part o.version o.n o.ta o.ts ++ (input_part o.own o.session o.input ++ lists_part o.coins o.weights o.boxed) ≡ opening_line o
  unfolding settings_part input_part opening_text opening_forms with_end tab_decimal tab_pack tabs number_texts number_text hex_text
  opening_parts =
      ap (λ (x : List ℕ). settings_part o.version o.n o.ta o.ts ++ (input_part o.own o.session o.input ++ x)) (lists_flag o)
      ∙ nested (decimal_text o.version) (decimal_text o.n) (decimal_text o.ta) (decimal_text o.ts) (decimal_text o.own) (decimal_text o.session) (last_digits 16 16 o.input)
      (each_text tab_word o.coins) (each_text tab_decimal (figures o))
      ∙ ap (λ (x : List ℕ). line x ++ (10 ∷ [])) (sym (lists_tabs o.coins (figures o)))
      ∙ ap (λ (x : List ℕ). x ++ (10 ∷ [])) (sym (tabbed_tabs (79 ∷ []) (number_texts (forms_of o) (numbers_of o))))

  pub wrote_opening : (s s1 s2 s3 : List ℕ) (r1 r2 r3 : ℕ) → Wrote (settings_part o.version o.n o.ta o.ts) s 0 r1 s1 →
      Wrote (input_part o.own o.session o.input) s1 r1 r2 s2 → Wrote (lists_part o.coins o.weights o.boxed) s2 r2 r3 s3 → Wrote (opening_line o) s 0 r3 s3
  wrote_opening s s1 s2 s3 r1 r2 r3 h1 h2 h3 =
      subst (λ (t : List ℕ). Wrote t s 0 r3 s3) opening_parts
      (wrote_both _ _ s s1 s3 0 r1 r3 h1 (wrote_both _ _ s1 s2 s3 r1 r2 r3 h2 h3))

pub delivery_parts : (link : ℕ) (b : List ℕ) → (68 ∷ []) ++ (tab_decimal link ++ ((9 ∷ []) ++ (each_text byte_text b ++ (10 ∷ [])))) ≡ delivery_line link b
unfolding tab_decimal delivery_text tabbed with_end
delivery_parts link b = rw (bytes_texts b) (sym (ap (λ (t : List ℕ). 68 ∷ 9 ∷ t) (append_assoc (decimal_text link) (9 ∷ hex_bytes b) (10 ∷ []))))

pub wrote_delivery : (link : ℕ) (b s s1 s2 s3 s4 s5 : List ℕ) (r1 r2 r3 r4 r5 : ℕ) → Wrote (68 ∷ []) s 0 r1 s1 → Wrote (tab_decimal link) s1 r1 r2 s2 →
    Wrote (9 ∷ []) s2 r2 r3 s3 → Wrote (each_text byte_text b) s3 r3 r4 s4 → Wrote (10 ∷ []) s4 r4 r5 s5 → Wrote (delivery_line link b) s 0 r5 s5
wrote_delivery link b s s1 s2 s3 s4 s5 r1 r2 r3 r4 r5 h1 h2 h3 h4 h5 =
    subst (λ (t : List ℕ). Wrote t s 0 r5 s5) (delivery_parts link b)
    (wrote_both _ _ s s1 s5 0 r1 r5 h1
    (wrote_both _ _ s1 s2 s5 r1 r2 r5 h2
    (wrote_both _ _ s2 s3 s5 r2 r3 r5 h3
    (wrote_both _ _ s3 s4 s5 r3 r4 r5 h4 h5))))

pub recording_parts : (i r b : ℕ) → (75 ∷ []) ++ (tab_decimal i ++ (tab_decimal r ++ (tab_decimal b ++ (10 ∷ [])))) ≡ recording_line i r b
unfolding tab_decimal recording_text number_texts number_text tabbed with_end
recording_parts i r b =
    sym (ap (λ (t : List ℕ). 75 ∷ 9 ∷ t) (append_assoc (decimal_text i) (9 ∷ (decimal_text r ++ (9 ∷ decimal_text b))) (10 ∷ []) ∙ ap (λ (t : List ℕ). decimal_text i ++ (9 ∷ t)) (append_assoc (decimal_text r) (9 ∷ decimal_text b) (10 ∷ []))))

pub wrote_recording : (i r b : ℕ) (s s1 s2 s3 s4 s5 : List ℕ) (r1 r2 r3 r4 r5 : ℕ) → Wrote (75 ∷ []) s 0 r1 s1 → Wrote (tab_decimal i) s1 r1 r2 s2 →
    Wrote (tab_decimal r) s2 r2 r3 s3 → Wrote (tab_decimal b) s3 r3 r4 s4 → Wrote (10 ∷ []) s4 r4 r5 s5 → Wrote (recording_line i r b) s 0 r5 s5
wrote_recording i r b s s1 s2 s3 s4 s5 r1 r2 r3 r4 r5 h1 h2 h3 h4 h5 =
    subst (λ (t : List ℕ). Wrote t s 0 r5 s5) (recording_parts i r b)
    (wrote_both _ _ s s1 s5 0 r1 r5 h1
    (wrote_both _ _ s1 s2 s5 r1 r2 r5 h2
    (wrote_both _ _ s2 s3 s5 r2 r3 r5 h3
    (wrote_both _ _ s3 s4 s5 r3 r4 r5 h4 h5))))
