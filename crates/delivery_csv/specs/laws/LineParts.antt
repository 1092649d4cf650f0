-- A text cut at a byte into its first piece and the others, and the texts of the fields.
use Rattle.std.specs.Prelude.{ℕ, Bool, true, false, cond, not, ◌&&◌, ◌||◌, List, [], ◌∷◌, ◌++◌, ◌≡◌, refl, eqb}
use Rattle.std.proofs.Common.{append-nil, append_assoc, sym, ap, ◌∙◌, ne_eqb}
use Rattle.std.proofs.Math.Decide.{ℕ_discrete}
use Rattle.std.specs.List.{list_any, take_while}
use Rattle.std.proofs.lemmas.List.Sums.{take_while-cons}
use Rattle.text.specs.Fields.{TAB, LF, in_front}
use Rattle.delivery_csv.specs.Fields.{CR, QUOTE, COMMA, cut, joined}
use Rattle.delivery_csv.specs.Records.{special, needs_quotes, doubled, field_text, field_texts}
use Rattle.delivery_csv.specs.Lines.{unturned}
use Rattle.delivery_csv.specs.laws.Bools.{or_left, or_right}
use Rattle.delivery_csv.specs.laws.LineReader.{field_ends, wraps_in, quote_if}

-- ---- a text cut at a byte: the first piece, and the others

unfoldable pub first : ℕ → List ℕ → List ℕ
first s [] = []
first s (b ∷ t) = cond (eqb b s) [] (b ∷ first s t)

unfoldable pub others : ℕ → List ℕ → List (List ℕ)
others s [] = []
others s (b ∷ t) = cond (eqb b s) (first s t ∷ others s t) (others s t)

pub cut_parts : (s : ℕ) (t : List ℕ) → cut unturned s false t ≡ first s t ∷ others s t
unfolding cut unturned first others in_front
cut_parts s [] = refl
cut_parts s (b ∷ t) = rw (cut_parts s t) (go (eqb b s))
  where
    go : (i : Bool) →
        cond (i && true) ([] ∷ (first s t ∷ others s t)) (in_front b (first s t ∷ others s t))
        ≡ cond i [] (b ∷ first s t) ∷ cond i (first s t ∷ others s t) (others s t)
    go true = refl
    go false = refl

-- looking ahead goes byte by byte
wraps_next : (b : ℕ) (t : List ℕ) → wraps_in (b ∷ t) ≡ cond (field_ends b) false (special b || wraps_in t)
unfolding wraps_in
wraps_next b t = ap (list_any special) (take_while-cons (λ c. not (field_ends c)) b t) ∙ go (field_ends b)
  where
    go : (e : Bool) → list_any special (cond (not e) (b ∷ take_while (λ c. not (field_ends c)) t) []) ≡ cond e false (special b || wraps_in t)
    go true = refl
    go false = refl

-- looking ahead from the start of a field finds whether it needs quotes
pub wraps_first : (t : List ℕ) → wraps_in t ≡ needs_quotes (first TAB (first LF t))
unfolding wraps_in needs_quotes first field_ends
wraps_first [] = refl
wraps_first (b ∷ t) =
    wraps_next b t
    ∙ elim (ℕ_discrete b LF) [
      | yes e ↦ rw e
      | no e ↦
          elim (ℕ_discrete b TAB) [
            | yes i ↦ rw i
            | no i ↦ rw (ne_eqb b LF e, ne_eqb b TAB i, wraps_first t)
          ]
    ]

-- ---- the text of a field

-- a field that needs no quotes has none to double
doubled_same : (f : List ℕ) → needs_quotes f ≡ false → doubled f ≡ f
unfolding doubled needs_quotes special
doubled_same [] e = refl
doubled_same (b ∷ f) e =
    rw (
      or_right (eqb b COMMA) (eqb b QUOTE) (or_left (eqb b COMMA || eqb b QUOTE) (needs_quotes f) e),
      doubled_same f (or_right (eqb b COMMA || eqb b QUOTE) (needs_quotes f) e),
    )

pub field_text_lem : (f : List ℕ) → field_text f ≡ quote_if (needs_quotes f) ++ (doubled f ++ quote_if (needs_quotes f))
unfolding field_text quote_if
field_text_lem f = go (needs_quotes f) (doubled_same f)
  where
    go : (w : Bool) → (w ≡ false → doubled f ≡ f) →
        cond w (QUOTE ∷ (doubled f ++ (QUOTE ∷ []))) f ≡ cond w (QUOTE ∷ []) [] ++ (doubled f ++ cond w (QUOTE ∷ []) [])
    go true h = refl
    go false h = sym (append-nil (doubled f) ∙ h refl)

-- the fields after one, and the end of the record
unfoldable pub end_text : List (List ℕ) → List ℕ
end_text [] = CR ∷ LF ∷ []
end_text (f ∷ fs) = COMMA ∷ (field_text f ++ end_text fs)

pub record_text_lem : (f : List ℕ) (fs : List (List ℕ)) (z : List ℕ) → joined COMMA (field_texts (f ∷ fs)) ++ (CR ∷ LF ∷ z) ≡ field_text f ++ (end_text fs ++ z)
unfolding joined field_texts end_text
record_text_lem f [] z = refl
record_text_lem f (g ∷ fs) z =
    append_assoc (field_text f) (COMMA ∷ joined COMMA (field_texts (g ∷ fs))) (CR ∷ LF ∷ z)
    ∙ ap (λ (u : List ℕ). field_text f ++ (COMMA ∷ u)) (record_text_lem g fs z ∙ sym (append_assoc (field_text g) (end_text fs) z))
