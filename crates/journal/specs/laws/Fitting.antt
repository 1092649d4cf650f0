-- Every line fits into the 512 bytes that are lent for it.
use Rattle.std.specs.Prelude.{ℕ, suc, ◌+◌, ◌*◌, ◌-◌, ◌≤◌, ◌<◌, List, [], ◌∷◌, ◌++◌, ◌≡◌, refl, length, Ok}
use Rattle.std.proofs.Common.{arith, length-append, ne_eqb}
use Rattle.records.specs.Words.{word}
use Rattle.opening.specs.Given.{item}
use Rattle.opening.specs.Arguments.{Arguments}
use Rattle.opening.specs.laws.Given.{WeightsGiven, are_given, accepted_given, coins_given_lem}
use Rattle.opening.specs.Opening.{open_answer}
use Rattle.opening.specs.laws.Cases.{accepted}
use Rattle.delivery.specs.laws.Answers.{answer_short}
use Rattle.delivery.specs.Delivery.{deliver_answer}
use Rattle.text.specs.Numbers.{byte_text}
use Rattle.text.specs.Fields.{each_text}
use Rattle.text.specs.laws.Lengths.{decimal_length, figure_length, hex_length, word_length, bytes_length}
use Rattle.journal.specs.Lines.{with_end, opening_line, delivery_line, recording_line, turn_line}
use Rattle.journal.specs.laws.Parts.{tab_decimal, tab_word, tab_pack, settings_part, input_part, lists_part, opening_parts, delivery_parts, recording_parts}

words_length : (coins : List ℕ) → length (each_text tab_word coins) ≡ 9 * length coins
unfolding each_text tab_word
words_length [] = refl
words_length (x ∷ coins) = rw length-append (omega (arith, word_length x, words_length coins))

-- weights of one digit
figures_length : (weights : List ℕ) → ((k : ℕ) → k < length weights → word weights k < 10) → length (each_text tab_decimal weights) ≡ 2 * length weights
unfolding each_text tab_decimal word
figures_length [] h = refl
figures_length (x ∷ weights) h = rw length-append (omega (arith, figure_length x (h 0 (omega arith)), figures_length weights (λ k l. h (suc k) (omega arith))))

tab_length : (n : ℕ) → length (tab_decimal n) ≤ 21
unfolding tab_decimal
tab_length n = omega (arith, decimal_length n)

pack_length : (n : ℕ) → length (tab_pack n) ≡ 17
unfolding tab_pack
pack_length n = omega (arith, hex_length n)

settings_length : (version n ta ts : ℕ) → length (settings_part version n ta ts) ≤ 85
unfolding settings_part
settings_length version n ta ts = rw (length-append, length-append, length-append) (omega (arith, tab_length version, tab_length n, tab_length ta, tab_length ts))

input_length : (own session input : ℕ) → length (input_part own session input) ≤ 59
unfolding input_part
input_length own session input = rw (length-append, length-append) (omega (arith, tab_length own, tab_length session, pack_length input))

lists_length : (coins weights : List ℕ) (boxed : ℕ) → length (each_text tab_decimal weights) ≡ 2 * length weights → length coins ≤ 16 → length weights ≤ 16 → length (lists_part coins weights boxed) ≤ 198
unfolding lists_part
lists_length coins weights boxed f a b = rw (length-append, length-append, length-append) (omega (arith, words_length coins, tab_length boxed))

item_after : (xs : List ℕ) (k : ℕ) → item xs (k + 1) ≡ word xs k
unfolding item
item_after xs k = let e : k + 1 - 1 ≡ k = omega arith in rw (ne_eqb (k + 1) 0 (λ z. omega arith), e)

one_digit : (n : ℕ) (weights : List ℕ) → WeightsGiven n weights → (k : ℕ) → k < length weights → word weights k < 10
one_digit n weights w k l = omega (arith, w.high (k + 1) (omega arith) (omega (arith, w.number)), item_after weights k)

pub opening_fits : (words : ℕ) (o : Arguments) → open_answer words o ≡ Ok tt → length (opening_line o) ≤ 512
opening_fits words o e =
    let w = are_given o.n o.weights (accepted_given words o e) in
    let c = (coins_given_lem o.n o.coins o.boxed (accepted words o e).given).size in
    let f = figures_length o.weights (one_digit o.n o.weights w) in
    let l = lists_length o.coins o.weights o.boxed f (omega (arith, w.few, c)) (omega (arith, w.few, w.number)) in
    rw (← opening_parts o, length-append, length-append)
    (omega (arith, settings_length o.version o.n o.ta o.ts, input_length o.own o.session o.input, l))

pub delivery_fits : (s : List ℕ) (link : ℕ) (b : List ℕ) → deliver_answer s link b ≡ Ok tt → length (delivery_line link b) ≤ 512
delivery_fits s link b e =
    rw (← delivery_parts link b)
    (omega (arith, tab_length link, bytes_length b, answer_short s link b e, length-append (each_text byte_text b) (10 ∷ []), length-append (tab_decimal link) (9 ∷ (each_text byte_text b ++ (10 ∷ [])))))

pub turn_fits : length turn_line ≤ 512
unfolding with_end
turn_fits = omega arith

pub recording_fits : (i r b : ℕ) → length (recording_line i r b) ≤ 512
recording_fits i r b =
    rw (← recording_parts i r b)
    (omega (arith, tab_length i, tab_length r, tab_length b, length-append (tab_decimal i) (tab_decimal r ++ (tab_decimal b ++ (10 ∷ []))), length-append (tab_decimal r) (tab_decimal b ++ (10 ∷ [])), length-append (tab_decimal b) (10 ∷ [])))
