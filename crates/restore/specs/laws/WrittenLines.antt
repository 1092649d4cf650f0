-- What a line says is read back: an accepted opening, delivery or recording, a turn that acts.
use Prim.Native.Nat.{ℕ, zero, suc, ◌+◌, ◌-◌, ◌*◌, ◌/◌, ◌%◌, ◌^◌, ◌≤◌, ◌<◌}
use Rattle.std.specs.Prelude.{Bool, ◌≢◌, take, drop, leb, ltb, Some, None, Ok}
use Rattle.std.proofs.Math.Bool.{true, false, cond}
use mathlib.Core.List.{List, [], ◌∷◌, ◌++◌}
use Rattle.std.proofs.Common.{inl, inr, ◌∙◌, mod-lt, length-append, take_at, drop_at, drop-drop, get_or-drop}
use Rattle.std.proofs.Math.Path.{◌≡◌, refl, sym, ap}
use native.Mathlib.Omega.{arith}
use Rattle.std.proofs.Math.ListN.{length, replicate, get_or}
use Rattle.std.proofs.Math.Dec.{eqb}
use borrow.Author.Tests.{ne_eqb, eqb-true, lt-ltb, le-leb, leb-true, ltb-true}
use Rattle.quorum.specs.laws.Bools.{and_left, and_right}
use Rattle.quorum.specs.Whole.{whole_of}
use Rattle.settings.specs.Settings.{named_ta, largest_ta}
use Rattle.settings.specs.Rules.{Ruled}
use Rattle.settings.specs.laws.Rules.{valid_rules, whole_few}
use Rattle.records.specs.Layout.{state_words}
use Rattle.records.specs.Words.{word}
use Rattle.session.specs.Session.{numbered, settings_of}
use Rattle.opening.specs.Given.{item}
use Rattle.opening.specs.Arguments.{Arguments, weights_by, ta_by, settings_by}
use Rattle.opening.specs.laws.Given.{WeightsGiven, are_given, accepted_given, CoinsGiven, coins_given_lem}
use Rattle.opening.specs.Opening.{open_answer, open_words}
use Rattle.opening.specs.laws.Cases.{Accepted, accepted}
use Rattle.delivery.specs.laws.Answers.{answer_accepted}
use Rattle.delivery.specs.laws.Accepting.{accepted_link}
use Rattle.delivery.specs.Delivery.{deliver_answer, delivered, verdict}
use Rattle.recording.specs.Recording.{record_answer, recorded_words}
use Rattle.recording.specs.laws.Recording.{accepted as recordable_told}
use Rattle.turn.specs.Turn.{turn_outcome, turn_words}
use Rattle.io.specs.Digits.{last_digits, hex_digit_ascii}
use Rattle.text.specs.Fields.{TAB, LF, in_front, fields, letter}
use Rattle.text.specs.Numbers.{DECIMAL, WORD, PACK, digit_of, all_digits, value_of, decimal_in, decimal_text}
use Rattle.settings.specs.laws.Versions.{version_known_lem}
use Rattle.journal.specs.Lines.{number_text, number_texts, tabbed, opening_forms, figures, numbers_of, forms_of, opening_text, hex_bytes, delivery_text, turn_text, recording_forms, recording_text}
use Rattle.journal.specs.Journal.{acts}
use Rattle.journal.specs.laws.Journal.{acts_outcome, acts_words}
use Rattle.restore.specs.Reading.{field_at, figure_count, forms_for, weights_from, boxed_from, hex_right, bytes_of}
use Rattle.restore.specs.Restoring.{opened_from, opening_from, opening_read, first_of, first_line, delivered_from, turned_from, recorded_by, recorded_from, next_of, next_line}
use Rattle.restore.specs.laws.Written.{Without, AllWithout, without_append}
use Rattle.restore.specs.laws.WrittenNumbers.{digit_glyph, decimal_digits, hex_digits, decimal_read, Fits, AllFit, all_fit_append, numbers_proper, numbers_values, numbers_length}

-- ---- fields

-- digits are neither tabs nor LFs
digits_without : (c base : ℕ) → base ≤ digit_of c → (f : List ℕ) → all_digits base f ≡ true → Without c f
unfolding all_digits
digits_without c base h [] e = tt
digits_without c base h (x ∷ f) e = (λ q. absurd (other q), digits_without c base h f (and_right (ltb (digit_of x) base) (all_digits base f) e))
  where
    other : x ≡ c → ⊥
    other q = let l = ltb-true (digit_of x) base (and_left (ltb (digit_of x) base) (all_digits base f) e) in absurd (omega (arith, ap digit_of q))

field_first : (f rest : List ℕ) → Without TAB f → fields (f ++ (TAB ∷ rest)) ≡ f ∷ fields rest
unfolding fields in_front
field_first [] rest h = refl
field_first (x ∷ f) rest h = rw (ne_eqb x TAB h.0, field_first f rest h.1)

field_only : (f : List ℕ) → Without TAB f → fields f ≡ f ∷ []
unfolding fields in_front
field_only [] h = refl
field_only (x ∷ f) h = rw (ne_eqb x TAB h.0, field_only f h.1)

pub fields_tabbed : (f : List ℕ) (fs : List (List ℕ)) → Without TAB f → AllWithout TAB fs → fields (tabbed f fs) ≡ f ∷ fs
unfolding tabbed
fields_tabbed f [] h k = field_only f h
fields_tabbed f (g ∷ fs) h k = field_first f (tabbed g fs) h ∙ ap (λ (l : List (List ℕ)). f ∷ l) (fields_tabbed g fs k.0 k.1)

pub tabbed_without : (c : ℕ) → TAB ≢ c → (f : List ℕ) (fs : List (List ℕ)) → Without c f → AllWithout c fs → Without c (tabbed f fs)
unfolding tabbed
tabbed_without c ne f [] h k = h
tabbed_without c ne f (g ∷ fs) h k = without_append c f (TAB ∷ tabbed g fs) h (ne, tabbed_without c ne g fs k.0 k.1)

-- a byte that is no digit
module _ (c : ℕ) (other : 16 ≤ digit_of c) where
  number_without : (form n : ℕ) → Without c (number_text form n)
  unfolding number_text decimal_text
  number_without form n = go (eqb form DECIMAL)
    where
      go : (b : Bool) → Without c (cond b (decimal_in 20 n) (last_digits 16 form n))
      go true = digits_without c 10 (omega arith) (decimal_in 20 n) (decimal_digits 20 n)
      go false = digits_without c 16 other (last_digits 16 form n) (hex_digits form n)

  pub decimal_without : (n : ℕ) → Without c (decimal_text n)
  unfolding decimal_text
  decimal_without n = digits_without c 10 (omega arith) (decimal_in 20 n) (decimal_digits 20 n)

  pub numbers_without : (ws xs : List ℕ) → AllWithout c (number_texts ws xs)
  unfolding number_texts
  numbers_without [] xs = tt
  numbers_without (w ∷ ws) [] = tt
  numbers_without (w ∷ ws) (x ∷ xs) = (number_without w x, numbers_without ws xs)

glyph_above : (d : ℕ) → 48 ≤ hex_digit_ascii d
glyph_above d = go (ltb d 10)
  where
    go : (b : Bool) → 48 ≤ cond b (48 + d) (87 + d)
    go true = omega arith
    go false = omega arith

pub hex_without : (c : ℕ) → c < 48 → (b : List ℕ) → Without c (hex_bytes b)
unfolding hex_bytes
hex_without c h [] = tt
hex_without c h (x ∷ b) = (λ e. absurd (omega (arith, glyph_above (x / 16))), (λ e. absurd (omega (arith, glyph_above (x % 16))), hex_without c h b))

-- ---- bytes

-- each below 256
abbrev pub EachByte : List ℕ → Type 0
EachByte [] = Unit {0}
EachByte (x ∷ b) = (x < 256) × EachByte b

pub hex_right_lem : (b : List ℕ) → EachByte b → hex_right (hex_bytes b) ≡ true
unfolding hex_bytes hex_right
hex_right_lem [] h = refl
hex_right_lem (x ∷ b) h =
    let high : x / 16 < 16 = omega (arith, h.0) in
    let low : x % 16 < 16 = mod-lt x (omega arith) in
    rw (digit_glyph (x / 16) high, digit_glyph (x % 16) low, lt-ltb (x / 16) 16 high, lt-ltb (x % 16) 16 low) (hex_right_lem b h.1)

pub hex_bytes_lem : (b : List ℕ) → EachByte b → bytes_of (hex_bytes b) ≡ b
unfolding hex_bytes bytes_of
hex_bytes_lem [] h = refl
hex_bytes_lem (x ∷ b) h =
    let high : x / 16 < 16 = omega (arith, h.0) in
    let low : x % 16 < 16 = mod-lt x (omega arith) in
    let same : x / 16 * 16 + x % 16 ≡ x = omega arith in
    rw (digit_glyph (x / 16) high, digit_glyph (x % 16) low, same, hex_bytes_lem b h.1)

-- ---- `O`

module _ (o : Arguments) where
  pub opening_without : Without LF (opening_text o)
  unfolding opening_text digit_of
  opening_without =
      tabbed_without LF (λ e. absurd (let z : ◌≡◌ {A = ℕ} 9 10 = e in omega arith)) (79 ∷ []) (number_texts (forms_of o) (numbers_of o)) (λ e. absurd (omega arith), tt)
      (numbers_without LF (omega arith) (forms_of o) (numbers_of o))

  opening_fields : fields (opening_text o) ≡ (79 ∷ []) ∷ number_texts (forms_of o) (numbers_of o)
  unfolding opening_text digit_of
  opening_fields =
      fields_tabbed (79 ∷ []) (number_texts (forms_of o) (numbers_of o)) (λ e. absurd (omega arith), tt)
      (numbers_without TAB (omega arith) (forms_of o) (numbers_of o))

decimal_fits : (n : ℕ) → n < 2 ^ 64 → Fits DECIMAL n
decimal_fits n h = (h, inl refl)

pack_fits : (n : ℕ) → n < 2 ^ 64 → Fits PACK n
pack_fits n h = (h, inr (λ z. absurd (let y : ◌≡◌ {A = ℕ} 16 10 = z in omega arith), omega (arith, h)))

words_fit : (coins : List ℕ) → ((i : ℕ) → word coins i < 2 ^ 32) → AllFit (replicate (length coins) WORD) coins
unfolding word
words_fit [] h = tt
words_fit (c ∷ coins) h = ((omega (arith, h 0), inr (λ e. absurd (let z : ◌≡◌ {A = ℕ} 8 10 = e in omega arith), omega (arith, h 0))), words_fit coins (λ i. h (suc i)))

weights_fit : (weights : List ℕ) → ((i : ℕ) → i < length weights → word weights i ≤ 4) → AllFit (replicate (length weights) DECIMAL) weights
unfolding word
weights_fit [] h = tt
weights_fit (w ∷ weights) h = ((omega (arith, h 0 (omega arith)), inl refl), weights_fit weights (λ i l. h (suc i) (omega arith)))

-- the weights, and whether coins are boxed
figures_small : (weights : List ℕ) (boxed : ℕ) → boxed ≤ 1 → ((i : ℕ) → i < length weights → word weights i ≤ 4) → (i : ℕ) → i < length (weights ++ (boxed ∷ [])) → word (weights ++ (boxed ∷ [])) i ≤ 4
unfolding word
figures_small [] boxed h k zero l = omega (arith, h)
figures_small [] boxed h k (suc i) l = absurd (omega arith)
figures_small (x ∷ weights) boxed h k zero l = k 0 (omega arith)
figures_small (x ∷ weights) boxed h k (suc i) l = figures_small weights boxed h (λ j m. k (suc j) (omega arith)) i (omega arith)

module _ (o : Arguments) (taken : open_answer state_words o ≡ Ok tt) where
  told : Accepted state_words o
  told = accepted state_words o taken

  given : WeightsGiven o.n o.weights
  given = are_given o.n o.weights (accepted_given state_words o taken)

  coined : CoinsGiven o.n o.coins o.boxed
  coined = coins_given_lem o.n o.coins o.boxed told.given

  weight_small : (i : ℕ) → i < length o.weights → word o.weights i ≤ 4
  unfolding item
  weight_small i l =
      let e : suc i - 1 ≡ i = omega arith in
      rw (ne_eqb (suc i) 0 (λ z. absurd (omega arith)), e) at (given.high (suc i) (omega arith) (omega (arith, given.number)))

  rules : Ruled (settings_by o)
  rules = valid_rules o.n (ta_by o) o.ts (weights_by o) told.valid

  ts_small : o.ts < 2 ^ 64
  ts_small = omega (arith, rules.margin, whole_few (settings_by o) rules)

  ta_small : o.ta < 2 ^ 64
  unfolding named_ta
  ta_small = go (eqb o.ta 255) refl rules.ordered
    where
      go : (b : Bool) → eqb o.ta 255 ≡ b → cond b (largest_ta (whole_of (weights_by o) o.n) o.ts) o.ta ≤ o.ts → o.ta < 2 ^ 64
      go true f l = omega (arith, eqb-true o.ta 255 f)
      go false f l = omega (arith, ts_small)

  version_small : o.version < 2 ^ 64
  version_small = omega (arith, (version_known_lem o.version told.known).high)

  own_small : o.own < 2 ^ 64
  unfolding numbered
  own_small = omega (arith, leb-true o.own o.n (and_right (leb 1 o.own) (leb o.own o.n) told.own_number), rules.few)

  module _ (session_fits : o.session < 2 ^ 32) (input_fits : o.input < 2 ^ 64) (coins_fit : (i : ℕ) → word o.coins i < 2 ^ 32) where
    abbrev xs : List ℕ
    xs = numbers_of o

    rest_fit : AllFit (DECIMAL ∷ DECIMAL ∷ PACK ∷ []) (o.own ∷ o.session ∷ o.input ∷ [])
    rest_fit = (decimal_fits o.own own_small, (decimal_fits o.session (omega (arith, session_fits)), (pack_fits o.input input_fits, tt)))

    all_fit : AllFit (forms_of o) xs
    unfolding opening_forms
    all_fit =
        all_fit_append (DECIMAL ∷ DECIMAL ∷ DECIMAL ∷ DECIMAL ∷ DECIMAL ∷ DECIMAL ∷ PACK ∷ []) (o.version ∷ o.n ∷ o.ta ∷ o.ts ∷ o.own ∷ o.session ∷ o.input ∷ [])
        (replicate (length o.coins) WORD ++ replicate (length (figures o)) DECIMAL) (o.coins ++ figures o)
        (decimal_fits o.version version_small, (decimal_fits o.n (omega (arith, rules.few)), (decimal_fits o.ta ta_small, (decimal_fits o.ts ts_small, rest_fit))))
        (all_fit_append (replicate (length o.coins) WORD) o.coins (replicate (length (figures o)) DECIMAL) (figures o)
        (words_fit o.coins coins_fit)
        (weights_fit (figures o) (figures_small o.weights o.boxed coined.kind weight_small)))

    abbrev fs : List (List ℕ)
    fs = number_texts (forms_of o) xs

    figured : length (figures o) ≡ o.n + 1
    figured = omega (arith, length-append o.weights (o.boxed ∷ []), given.number)

    count : length xs ≡ 7 + o.n + o.n + 1
    count = omega (arith, length-append o.coins (figures o), figured, coined.size)

    forms_are : forms_for o.n (length fs) ≡ forms_of o
    unfolding forms_for figure_count
    forms_are =
        rw (
          numbers_length (forms_of o) xs all_fit,
          count,
          ne_eqb (7 + o.n + o.n + 1) (7 + o.n) (λ e. absurd (omega arith)),
          ne_eqb (7 + o.n + o.n + 1) (7 + o.n + o.n) (λ e. absurd (omega arith)),
          coined.size,
          figured,
        )

    coins_are : take o.n (drop 7 xs) ≡ o.coins
    coins_are = take_at o.coins (figures o) o.n coined.size

    figures_are : drop (7 + o.n) xs ≡ figures o
    figures_are = sym (drop-drop o.n 7 xs) ∙ drop_at o.coins (figures o) o.n coined.size

    weights_are : weights_from o.n xs ≡ o.weights
    unfolding weights_from
    weights_are =
        rw (count, ne_eqb (7 + o.n + o.n + 1) (7 + o.n) (λ e. absurd (omega arith)), figures_are)
        (take_at o.weights (o.boxed ∷ []) o.n given.number)

    boxed_is : boxed_from o.n xs ≡ o.boxed
    unfolding boxed_from
    boxed_is = sym (get_or-drop (7 + o.n) xs o.n 0) ∙ ap (λ (ys : List ℕ). get_or ys o.n 0) figures_are ∙ last_of o.weights o.n given.number
      where
        last_of : (ys : List ℕ) (k : ℕ) → length ys ≡ k → get_or (ys ++ (o.boxed ∷ [])) k 0 ≡ o.boxed
        last_of [] zero e = refl
        last_of [] (suc k) e = absurd (omega (arith, e))
        last_of (y ∷ ys) zero e = absurd (omega (arith, e))
        last_of (y ∷ ys) (suc k) e = last_of ys k (omega (arith, e))

    n_read : value_of DECIMAL (field_at fs 1) ≡ o.n
    unfolding field_at number_texts opening_forms number_text
    n_read = (decimal_read o.n (omega (arith, rules.few))).1

    -- an accepted opening
    pub first_reads : first_line (opening_text o) ≡ Some (record { words = open_words o; turned = None })
    unfolding first_line first_of letter opening_read opening_from opened_from
    first_reads =
        rw (
          opening_fields o,
          n_read,
          forms_are,
          le-leb o.n 16 rules.few,
          numbers_proper (forms_of o) xs all_fit,
          numbers_values (forms_of o) xs all_fit,
          lt-ltb o.session (2 ^ 32) session_fits,
          coins_are,
          weights_are,
          boxed_is,
          taken,
        )

-- ---- `D`

pub delivery_without : (link : ℕ) (b : List ℕ) → Without LF (delivery_text link b)
unfolding delivery_text digit_of
delivery_without link b =
    tabbed_without LF (λ e. absurd (let z : ◌≡◌ {A = ℕ} 9 10 = e in omega arith)) (68 ∷ []) (decimal_text link ∷ hex_bytes b ∷ []) (λ e. absurd (omega arith), tt)
    (decimal_without LF (omega arith) link, (hex_without LF (omega arith) b, tt))

delivery_fields : (link : ℕ) (b : List ℕ) → fields (delivery_text link b) ≡ (68 ∷ []) ∷ decimal_text link ∷ hex_bytes b ∷ []
unfolding delivery_text digit_of
delivery_fields link b =
    fields_tabbed (68 ∷ []) (decimal_text link ∷ hex_bytes b ∷ []) (λ e. absurd (omega arith), tt)
    (decimal_without TAB (omega arith) link, (hex_without TAB (omega arith) b, tt))

link_small : (w : List ℕ) (m : ℕ) (b : List ℕ) → deliver_answer w m b ≡ Ok tt → m < 2 ^ 64
link_small w m b e =
    let t = answer_accepted w m b e in
    let f = accepted_link w m b (verdict w m b) refl t.message t.accepted in
    omega (arith, f.fits)

-- an accepted delivery
pub delivery_reads : (w : List ℕ) (m : ℕ) (b : List ℕ) → EachByte b → deliver_answer w m b ≡ Ok tt → next_line w (delivery_text m b) ≡ Some (record { words = delivered w m b; turned = None })
unfolding next_line next_of letter delivered_from
delivery_reads w m b each e =
    let small = link_small w m b e in
    rw (delivery_fields m b, (decimal_read m small).0, (decimal_read m small).1, hex_right_lem b each, hex_bytes_lem b each, e)

-- ---- `K`

pub recording_without : (i r b : ℕ) → Without LF (recording_text i r b)
unfolding recording_text digit_of
recording_without i r b =
    tabbed_without LF (λ e. absurd (let z : ◌≡◌ {A = ℕ} 9 10 = e in omega arith)) (75 ∷ []) (number_texts recording_forms (i ∷ r ∷ b ∷ [])) (λ e. absurd (omega arith), tt)
    (numbers_without LF (omega arith) recording_forms (i ∷ r ∷ b ∷ []))

recording_fields : (i r b : ℕ) → fields (recording_text i r b) ≡ (75 ∷ []) ∷ number_texts recording_forms (i ∷ r ∷ b ∷ [])
unfolding recording_text digit_of
recording_fields i r b =
    fields_tabbed (75 ∷ []) (number_texts recording_forms (i ∷ r ∷ b ∷ [])) (λ e. absurd (omega arith), tt)
    (numbers_without TAB (omega arith) recording_forms (i ∷ r ∷ b ∷ []))

-- an accepted recording
pub recording_reads : (w : List ℕ) (i r b : ℕ) → record_answer w i r b ≡ Ok tt → next_line w (recording_text i r b) ≡ Some (record { words = recorded_words w i r b; turned = None })
unfolding next_line next_of letter recorded_from recorded_by settings_of
recording_reads w i r b e =
    let k = recordable_told w i r b e in
    let fit : AllFit recording_forms (i ∷ r ∷ b ∷ []) = (decimal_fits i (omega (arith, k.vote_high, k.state.ruled.few)), (decimal_fits r (omega (arith, k.round_high)), (decimal_fits b (omega (arith, k.bit)), tt))) in
    rw (recording_fields i r b, numbers_proper recording_forms (i ∷ r ∷ b ∷ []) fit, numbers_values recording_forms (i ∷ r ∷ b ∷ []) fit, e)

-- ---- `T`

pub turn_without : Without LF turn_text
turn_without = (λ z. absurd (let y : ◌≡◌ {A = ℕ} 84 10 = z in omega arith), tt)

-- a turn that acts, whatever it is lent
pub turn_reads : (w : List ℕ) (room : ℕ) → acts (turn_outcome w room) ≡ true → next_line w turn_text ≡ Some (record { words = turn_words w room; turned = Some w })
unfolding next_line next_of fields in_front letter turned_from
turn_reads w room e = rw (acts_outcome w room e, e, acts_words w room e)
