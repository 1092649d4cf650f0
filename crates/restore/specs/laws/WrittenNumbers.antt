-- A number that is written is read back, digit by digit.
use Rattle.std.specs.Prelude.{ℕ, zero, suc, ◌+◌, ◌*◌, ◌/◌, ◌%◌, ◌^◌, ◌≤◌, ◌<◌, Bool, true, false, cond, ◌&&◌, List, [], ◌∷◌, ◌++◌, ◌⊎◌, ◌≢◌, ◌≡◌, refl, length, eqb, ltb}
use Rattle.std.proofs.Common.{inl, inr, ap, arith, div-lt_iff_lt-mul, mod-lt, pow-suc, length-append, ne_eqb, eq-eqb, lt-ltb, le-ltb, le-leb}
use Rattle.std.proofs.Math.Decide.{dec_le}
use Rattle.std.proofs.lemmas.Bool.{lt-leb}
use Rattle.quorum.specs.laws.Bools.{and_left, and_right}
use Rattle.io.specs.Digits.{last_digits, hex_digit_ascii}
use Rattle.text.specs.Numbers.{DECIMAL, digit_of, base_of, all_digits, value_from, value_of, complete, right, values_of, decimal_in, decimal_text}
use Rattle.journal.specs.Lines.{number_text, number_texts}
use Rattle.restore.specs.Reading.{zero_led, proper, all_proper}

-- ---- digits

digit_figure : (d : ℕ) → d < 10 → digit_of (48 + d) ≡ d
unfolding digit_of
digit_figure d h = rw (le-ltb (48 + d) 48 (omega arith), le-leb (48 + d) 57 (omega arith)) (omega arith)

digit_letter : (d : ℕ) → 10 ≤ d → d < 16 → digit_of (87 + d) ≡ d
unfolding digit_of
digit_letter d l h = rw (le-ltb (87 + d) 48 (omega arith), lt-leb (87 + d) 57 (omega arith), le-ltb (87 + d) 97 (omega arith), le-leb (87 + d) 102 (omega arith)) (omega arith)

pub digit_glyph : (d : ℕ) → d < 16 → digit_of (hex_digit_ascii d) ≡ d
digit_glyph d h = elim (dec_le 10 d) [ yes l ↦ rw (le-ltb d 10 l) (digit_letter d l h) | no l ↦ rw (lt-ltb d 10 (omega arith)) (digit_figure d (omega arith)) ]

-- ---- numbers

value_append : (base v : ℕ) (f g : List ℕ) → value_from base v (f ++ g) ≡ value_from base (value_from base v f) g
unfolding value_from
value_append base v [] g = refl
value_append base v (c ∷ f) g = value_append base (v * base + digit_of c) f g

all_append : (base : ℕ) (f : List ℕ) (c : ℕ) → all_digits base f ≡ true → digit_of c < base → all_digits base (f ++ (c ∷ [])) ≡ true
unfolding all_digits
all_append base [] c e h = rw (lt-ltb (digit_of c) base h)
all_append base (x ∷ f) c e h =
    let a = and_left (ltb (digit_of x) base) (all_digits base f) e in
    let b = and_right (ltb (digit_of x) base) (all_digits base f) e in
    rw (a, all_append base f c b h)

tenth : (n k : ℕ) → n < 10 ^ suc k → n / 10 < 10 ^ k
tenth n k h = (div-lt_iff_lt-mul {k = 10} (omega arith)).1 (rw (pow-suc 10 k) at h)

sixteenth : (n k : ℕ) → n < 16 ^ suc k → n / 16 < 16 ^ k
sixteenth n k h = (div-lt_iff_lt-mul {k = 16} (omega arith)).1 (rw (pow-suc 16 k) at h)

decimal_value : (k n : ℕ) → n < 10 ^ suc k → value_from 10 0 (decimal_in (suc k) n) ≡ n
unfolding decimal_in value_from
decimal_value zero n h = rw (lt-ltb n 10 (omega arith), digit_figure n (omega arith)) (omega arith)
decimal_value (suc j) n h = go (dec_le 10 n) (decimal_value j (n / 10) (tenth n (suc j) h))
  where
    go : Dec (10 ≤ n) → value_from 10 0 (decimal_in (suc j) (n / 10)) ≡ n / 10 → value_from 10 0 (decimal_in (suc (suc j)) n) ≡ n
    go (no l) rec = rw (lt-ltb n 10 (omega arith), digit_figure n (omega arith)) (omega arith)
    go (yes l) rec =
        rw (le-ltb n 10 l, value_append 10 0 (decimal_in (suc j) (n / 10)) ((48 + n % 10) ∷ []), rec, digit_figure (n % 10) (mod-lt n (omega arith)))
        (omega arith)

pub decimal_digits : (k n : ℕ) → all_digits 10 (decimal_in k n) ≡ true
unfolding decimal_in all_digits
decimal_digits zero n = refl
decimal_digits (suc k) n = go (dec_le 10 n) (decimal_digits k (n / 10))
  where
    go : Dec (10 ≤ n) → all_digits 10 (decimal_in k (n / 10)) ≡ true → all_digits 10 (decimal_in (suc k) n) ≡ true
    go (no l) rec = rw (lt-ltb n 10 (omega arith), digit_figure n (omega arith), lt-ltb n 10 (omega arith))
    go (yes l) rec =
        rw (le-ltb n 10 l)
        (all_append 10 (decimal_in k (n / 10)) (48 + n % 10) rec (rw (digit_figure (n % 10) (mod-lt n (omega arith))) (mod-lt n (omega arith))))

decimal_some : (k n : ℕ) → 0 < length (decimal_in (suc k) n)
unfolding decimal_in
decimal_some k n = go (ltb n 10)
  where
    go : (b : Bool) → 0 < length (cond b ((48 + n) ∷ []) (decimal_in k (n / 10) ++ ((48 + n % 10) ∷ [])))
    go true = omega arith
    go false = omega (arith, length-append (decimal_in k (n / 10)) ((48 + n % 10) ∷ []))

hex_value : (k n : ℕ) → n < 16 ^ k → value_from 16 0 (last_digits 16 k n) ≡ n
unfolding value_from
hex_value zero n h = omega arith
hex_value (suc k) n h =
    rw (value_append 16 0 (last_digits 16 k (n / 16)) (hex_digit_ascii (n % 16) ∷ []), hex_value k (n / 16) (sixteenth n k h), digit_glyph (n % 16) (mod-lt n (omega arith)))
    (omega arith)

pub hex_digits : (k n : ℕ) → all_digits 16 (last_digits 16 k n) ≡ true
unfolding all_digits
hex_digits zero n = refl
hex_digits (suc k) n = all_append 16 (last_digits 16 k (n / 16)) (hex_digit_ascii (n % 16)) (hex_digits k (n / 16)) (rw (digit_glyph (n % 16) (mod-lt n (omega arith))) (mod-lt n (omega arith)))

hex_length : (k n : ℕ) → length (last_digits 16 k n) ≡ k
hex_length zero n = refl
hex_length (suc k) n = omega (arith, length-append (last_digits 16 k (n / 16)) (hex_digit_ascii (n % 16) ∷ []), hex_length k (n / 16))

-- a number fits its form
abbrev pub Fits : ℕ → ℕ → Type 0
Fits form n = (n < 2 ^ 64) × ((form ≡ DECIMAL) ⊎ ((form ≢ DECIMAL) × (n < 16 ^ form)))

pub number_value : (form n : ℕ) → Fits form n → value_of form (number_text form n) ≡ n
unfolding number_text value_of base_of decimal_text
number_value form n h = go h.1
  where
    go : (form ≡ DECIMAL) ⊎ ((form ≢ DECIMAL) × (n < 16 ^ form)) → value_from (cond (eqb form DECIMAL) 10 16) 0 (cond (eqb form DECIMAL) (decimal_in 20 n) (last_digits 16 form n)) ≡ n
    go (inl e) = rw (eq-eqb form DECIMAL e) (decimal_value 19 n (omega (arith, h.0)))
    go (inr e) = rw (ne_eqb form DECIMAL e.0) (hex_value form n e.1)

number_digits : (form n : ℕ) → Fits form n → all_digits (base_of form) (number_text form n) ≡ true
unfolding number_text base_of decimal_text
number_digits form n h = go h.1
  where
    go : (form ≡ DECIMAL) ⊎ ((form ≢ DECIMAL) × (n < 16 ^ form)) → all_digits (cond (eqb form DECIMAL) 10 16) (cond (eqb form DECIMAL) (decimal_in 20 n) (last_digits 16 form n)) ≡ true
    go (inl e) = rw (eq-eqb form DECIMAL e) (decimal_digits 20 n)
    go (inr e) = rw (ne_eqb form DECIMAL e.0) (hex_digits form n)

number_complete : (form n : ℕ) → Fits form n → complete form (length (number_text form n)) ≡ true
unfolding number_text complete decimal_text
number_complete form n h = go h.1
  where
    go : (form ≡ DECIMAL) ⊎ ((form ≢ DECIMAL) × (n < 16 ^ form)) → cond (eqb form DECIMAL) (ltb 0 (length (cond (eqb form DECIMAL) (decimal_in 20 n) (last_digits 16 form n)))) (eqb (length (cond (eqb form DECIMAL) (decimal_in 20 n) (last_digits 16 form n))) form) ≡ true
    go (inl e) = rw (eq-eqb form DECIMAL e) (lt-ltb 0 (length (decimal_in 20 n)) (decimal_some 19 n))
    go (inr e) = rw (ne_eqb form DECIMAL e.0) (eq-eqb (length (last_digits 16 form n)) form (hex_length form n))

pub number_right : (form n : ℕ) → Fits form n → right form (number_text form n) ≡ true
unfolding right
number_right form n h = rw (number_complete form n h, number_digits form n h, number_value form n h, lt-ltb n (2 ^ 64) h.0)

-- ---- no leading zeros

-- a list starts with another byte than 48
abbrev Leads : List ℕ → Type 0
Leads [] = ⊥
Leads (c ∷ f) = c ≢ 48

leads_append : (f g : List ℕ) → Leads f → Leads (f ++ g)
leads_append [] g h = absurd h
leads_append (c ∷ f) g h = h

leads_proper : (f : List ℕ) → Leads f → zero_led f ≡ false
unfolding zero_led
leads_proper [] h = absurd h
leads_proper (c ∷ []) h = refl
leads_proper (c ∷ d ∷ f) h = ne_eqb c 48 h

decimal_leads : (k n : ℕ) → 1 ≤ n → n < 10 ^ suc k → Leads (decimal_in (suc k) n)
unfolding decimal_in
decimal_leads zero n l h = rw (lt-ltb n 10 (omega arith)) (λ e. omega arith)
decimal_leads (suc j) n l h = go (dec_le 10 n) (decimal_leads j (n / 10))
  where
    go : Dec (10 ≤ n) → (1 ≤ n / 10 → n / 10 < 10 ^ suc j → Leads (decimal_in (suc j) (n / 10))) → Leads (decimal_in (suc (suc j)) n)
    go (no g) rec = rw (lt-ltb n 10 (omega arith)) (λ e. omega arith)
    go (yes g) rec =
        rw (le-ltb n 10 g) (leads_append (decimal_in (suc j) (n / 10)) ((48 + n % 10) ∷ []) (rec (omega arith) (tenth n (suc j) h)))

decimal_plain : (n : ℕ) → n < 2 ^ 64 → zero_led (decimal_text n) ≡ false
unfolding decimal_text decimal_in zero_led
decimal_plain n h = go (dec_le 10 n)
  where
    go : Dec (10 ≤ n) → zero_led (decimal_text n) ≡ false
    go (no g) = rw (lt-ltb n 10 (omega arith))
    go (yes g) = leads_proper (decimal_text n) (decimal_leads 19 n (omega arith) (omega (arith, h)))

number_plain : (form n : ℕ) → Fits form n → (eqb form DECIMAL && zero_led (number_text form n)) ≡ false
unfolding number_text
number_plain form n h = go h.1
  where
    go : (form ≡ DECIMAL) ⊎ ((form ≢ DECIMAL) × (n < 16 ^ form)) → (eqb form DECIMAL && zero_led (cond (eqb form DECIMAL) (decimal_text n) (last_digits 16 form n))) ≡ false
    go (inl e) = rw (eq-eqb form DECIMAL e) (decimal_plain n h.0)
    go (inr e) = rw (ne_eqb form DECIMAL e.0)

pub number_proper : (form n : ℕ) → Fits form n → proper form (number_text form n) ≡ true
unfolding proper
number_proper form n h = rw (number_right form n h, number_plain form n h)

pub decimal_read : (n : ℕ) → n < 2 ^ 64 → (proper DECIMAL (decimal_text n) ≡ true) × (value_of DECIMAL (decimal_text n) ≡ n)
unfolding number_text
decimal_read n h = (number_proper DECIMAL n (h, inl refl), number_value DECIMAL n (h, inl refl))

-- ---- many numbers

-- numbers fit their forms, one by one
abbrev pub AllFit : List ℕ → List ℕ → Type 0
AllFit [] [] = Unit {0}
AllFit [] (x ∷ xs) = ⊥
AllFit (w ∷ ws) [] = ⊥
AllFit (w ∷ ws) (x ∷ xs) = Fits w x × AllFit ws xs

pub all_fit_append : (ws xs vs ys : List ℕ) → AllFit ws xs → AllFit vs ys → AllFit (ws ++ vs) (xs ++ ys)
all_fit_append [] [] vs ys h k = k
all_fit_append [] (x ∷ xs) vs ys h k = absurd h
all_fit_append (w ∷ ws) [] vs ys h k = absurd h
all_fit_append (w ∷ ws) (x ∷ xs) vs ys h k = (h.0, all_fit_append ws xs vs ys h.1 k)

pub numbers_proper : (ws xs : List ℕ) → AllFit ws xs → all_proper ws (number_texts ws xs) ≡ true
unfolding all_proper number_texts
numbers_proper [] [] h = refl
numbers_proper [] (x ∷ xs) h = absurd h
numbers_proper (w ∷ ws) [] h = absurd h
numbers_proper (w ∷ ws) (x ∷ xs) h = rw (number_proper w x h.0, numbers_proper ws xs h.1)

pub numbers_values : (ws xs : List ℕ) → AllFit ws xs → values_of ws (number_texts ws xs) ≡ xs
unfolding values_of number_texts
numbers_values [] [] h = refl
numbers_values [] (x ∷ xs) h = absurd h
numbers_values (w ∷ ws) [] h = absurd h
numbers_values (w ∷ ws) (x ∷ xs) h = rw (number_value w x h.0, numbers_values ws xs h.1)

pub numbers_length : (ws xs : List ℕ) → AllFit ws xs → length (number_texts ws xs) ≡ length xs
unfolding number_texts
numbers_length [] [] h = refl
numbers_length [] (x ∷ xs) h = absurd h
numbers_length (w ∷ ws) [] h = absurd h
numbers_length (w ∷ ws) (x ∷ xs) h = ap suc (numbers_length ws xs h.1)
