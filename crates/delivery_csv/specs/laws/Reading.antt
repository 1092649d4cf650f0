-- What is read of a text that was written, and what is written of a text that was read.
use Rattle.std.specs.Prelude.{ℕ, ◌+◌, Bool, ◌&&◌, not, ◌≡◌, eqb, leb, length}
use Rattle.std.proofs.Math.Bool.{true, false, cond}
use mathlib.Core.List.{List, [], ◌∷◌, ◌++◌}
use Rattle.std.proofs.Math.Path.{refl, subst}
use Rattle.std.proofs.Common.{ap, ◌∙◌, eqb-true}
use Rattle.text.specs.Fields.{TAB, LF, in_front}
use Rattle.delivery_csv.specs.Fields.{COMMA, max_fields, fields_taken, record_taken, cut, unless_empty, pieces, joined, Outcome, bad, good, with_record, read_all}
use Rattle.delivery_csv.specs.Records.{turned, records_in, raw_fields, all_values, record_right, record_fields, records_read}
use Rattle.delivery_csv.specs.Lines.{unturned, whole_line, lines_in, line_fields, line_right, lines_read, lines_text}
use Rattle.delivery_csv.specs.Back.{lacks_end}
use Rattle.delivery_csv.specs.laws.Bools.{and_left, and_right}
use Rattle.delivery_csv.specs.laws.Outcomes.{not_good}
use Rattle.delivery_csv.specs.laws.Cuts.{Some, pieces_next, cut_some, joined_cut, sealed_joined, cut_at, cut_joined}
use Rattle.delivery_csv.specs.laws.FieldTexts.{sealed_lines, sealed_at_tabs}

-- records that are taken and have a field each
unfoldable pub Right : List (List (List ℕ)) → Type 0
Right [] = Unit
Right (r ∷ rs) = (record_taken r ≡ true) × Some r × Right rs

pub taken_fields : (r : List (List ℕ)) → record_taken r ≡ true → fields_taken r ≡ true
unfolding record_taken
taken_fields r h = and_right (leb (length r) max_fields) (fields_taken r) h

-- ---- one record more

module _ (right : List ℕ → Bool) (fields_of : List ℕ → List (List ℕ)) where
  pub read_one : (n : ℕ) (p : List ℕ) (ps : List (List ℕ)) (r : List (List ℕ)) (o : Outcome (List (List (List ℕ)))) →
      right p ≡ true → fields_of p ≡ r → read_all right fields_of (n + 1) ps ≡ o →
      read_all right fields_of n (p ∷ ps) ≡ cond (record_taken r) (with_record r o) (bad n)
  unfolding read_all
  read_one n p ps r o a b c = rw (a, b, c)

  -- what holds where reading does not stop at p
  pub record Step (n : ℕ) (p : List ℕ) (ps : List (List ℕ)) (rs : List (List (List ℕ))) : Type 0 where
    pub others : List (List (List ℕ))
    pub quotes : right p ≡ true
    pub taken : record_taken (fields_of p) ≡ true
    pub rest : read_all right fields_of (n + 1) ps ≡ good others
    pub whole : fields_of p ∷ others ≡ rs

  pub step : (n : ℕ) (p : List ℕ) (ps : List (List ℕ)) (rs : List (List (List ℕ))) → read_all right fields_of n (p ∷ ps) ≡ good rs → Step n p ps rs
  unfolding read_all with_record
  step n p ps rs = go (right p && record_taken (fields_of p)) refl (read_all right fields_of (n + 1) ps) refl
    where
      go : (x : Bool) → (right p && record_taken (fields_of p)) ≡ x → (o : Outcome (List (List (List ℕ)))) → read_all right fields_of (n + 1) ps ≡ o →
          cond x (with_record (fields_of p) o) (bad n) ≡ good rs → Step n p ps rs
      go true t (bad m) q e = not_good m rs e
      go true t (good qs) q e =
          record {
            others = qs;
            quotes = and_left (right p) (record_taken (fields_of p)) t;
            taken = and_right (right p) (record_taken (fields_of p)) t;
            rest = q;
            whole = cc;
          }
      go false t o q e = not_good n rs e

  read_right : ((p : List ℕ) → Some (fields_of p)) → (n : ℕ) (ps : List (List ℕ)) (rs : List (List (List ℕ))) →
      read_all right fields_of n ps ≡ good rs → Right rs
  unfolding read_all Right
  read_right some n [] rs e = let q : [] ≡ rs = cc in subst Right q tt
  read_right some n (p ∷ ps) rs e =
      let h : Step n p ps rs = step n p ps rs e in
      subst Right h.whole (h.taken, some p, read_right some (n + 1) ps h.others h.rest)

-- ---- records

some_values : (ps : List (List ℕ)) → Some ps → Some (all_values ps)
unfolding Some all_values
some_values [] h = h
some_values (p ∷ ps) h = tt

pub records_right : (n : ℕ) (t : List ℕ) (rs : List (List (List ℕ))) → records_read n t ≡ good rs → Right rs
unfolding records_read record_fields raw_fields
records_right n t rs e =
    read_right record_right record_fields (λ p. some_values (cut turned COMMA false p) (cut_some turned COMMA false p)) n (records_in t) rs e

-- ---- lines

lines_first : (r : List (List ℕ)) (rs : List (List (List ℕ))) → fields_taken r ≡ true → lines_in (lines_text (r ∷ rs)) ≡ joined TAB r ∷ lines_in (lines_text rs)
unfolding lines_in lines_text whole_line unturned
lines_first r rs h =
    ap (pieces whole_line) (cut_at unturned LF (joined TAB r) (lines_text rs) (sealed_joined unturned LF TAB refl refl r (sealed_lines r h)))
    ∙ pieces_next whole_line (joined TAB r) (cut unturned LF false (lines_text rs)) (cut_some unturned LF false (lines_text rs))

line_right_lem : (p : List ℕ) → line_right p ≡ true
unfolding line_right
line_right_lem p = refl

line_fields_lem : (r : List (List ℕ)) → Some r → fields_taken r ≡ true → line_fields (joined TAB r) ≡ r
unfolding line_fields
line_fields_lem r g h = cut_joined unturned TAB r g (sealed_at_tabs r h)

pub lines_of_text : (n : ℕ) (rs : List (List (List ℕ))) → Right rs → lines_read n (lines_text rs) ≡ good rs
unfolding Right lines_read lines_in lines_text cut pieces unless_empty read_all with_record
lines_of_text n [] h = refl
lines_of_text n (r ∷ rs) h =
    ap (read_all line_right line_fields n) (lines_first r rs (taken_fields r h.0))
    ∙ read_one line_right line_fields n (joined TAB r) (lines_in (lines_text rs)) r (good rs)
    (line_right_lem (joined TAB r)) (line_fields_lem r h.1 (taken_fields r h.0)) (lines_of_text (n + 1) rs h.2)
    ∙ rw h.0

pub lines_right : (n : ℕ) (t : List ℕ) (rs : List (List (List ℕ))) → lines_read n t ≡ good rs → Right rs
unfolding lines_read line_fields
lines_right n t rs e = read_right line_right line_fields (λ p. cut_some unturned TAB false p) n (lines_in t) rs e

-- ---- the lines that were read, written

-- each with its LF
ended : List (List ℕ) → List ℕ
ended [] = []
ended (p ∷ ps) = p ++ (LF ∷ ended ps)

text_ended : (n : ℕ) (ps : List (List ℕ)) (rs : List (List (List ℕ))) → read_all line_right line_fields n ps ≡ good rs → lines_text rs ≡ ended ps
unfolding read_all lines_text ended line_fields
text_ended n [] rs e = let q : [] ≡ rs = cc in subst (λ (x : List (List (List ℕ))). lines_text x ≡ []) q refl
text_ended n (p ∷ ps) rs e =
    let h : Step line_right line_fields n p ps rs = step line_right line_fields n p ps rs e in
    subst (λ (x : List (List (List ℕ))). lines_text x ≡ p ++ (LF ∷ ended ps)) h.whole
    (rw (joined_cut unturned TAB false p, text_ended (n + 1) ps h.others h.rest))

-- pieces of a text that is not empty
Solid : List (List ℕ) → Type 0
Solid [] = ⊥
Solid ([] ∷ []) = ⊥
Solid ((b ∷ p) ∷ []) = Unit
Solid (p ∷ q ∷ ps) = Unit

solid_next : (ps : List (List ℕ)) → Some ps → Solid ([] ∷ ps)
unfolding Some Solid
solid_next [] h = h
solid_next (p ∷ ps) h = tt

solid_in_front : (b : ℕ) (ps : List (List ℕ)) → Some ps → Solid (in_front b ps)
unfolding Some Solid in_front
solid_in_front b [] h = h
solid_in_front b (p ∷ []) h = tt
solid_in_front b (p ∷ q ∷ ps) h = tt

cut_line : (b : ℕ) (t : List ℕ) → cut unturned LF false (b ∷ t) ≡ cond (eqb b LF && true) ([] ∷ cut unturned LF false t) (in_front b (cut unturned LF false t))
unfolding cut unturned
cut_line b t = refl

cut_solid : (b : ℕ) (t : List ℕ) → Solid (cut unturned LF false (b ∷ t))
cut_solid b t = rw (cut_line b t) (go (eqb b LF && true))
  where
    go : (x : Bool) → Solid (cond x ([] ∷ cut unturned LF false t) (in_front b (cut unturned LF false t)))
    go true = solid_next (cut unturned LF false t) (cut_some unturned LF false t)
    go false = solid_in_front b (cut unturned LF false t) (cut_some unturned LF false t)

ended_in_front : (b : ℕ) (ps : List (List ℕ)) → Solid ps → ended (pieces whole_line (in_front b ps)) ≡ b ∷ ended (pieces whole_line ps)
unfolding Solid ended pieces unless_empty whole_line in_front
ended_in_front b [] h = absurd h
ended_in_front b ([] ∷ []) h = absurd h
ended_in_front b ((c ∷ p) ∷ []) h = refl
ended_in_front b (p ∷ q ∷ ps) h = refl

ended_next : (ps : List (List ℕ)) → Some ps → ended (pieces whole_line ([] ∷ ps)) ≡ LF ∷ ended (pieces whole_line ps)
unfolding Some ended pieces whole_line
ended_next [] h = absurd h
ended_next (p ∷ ps) h = refl

ended_byte : (b : ℕ) (t : List ℕ) → Solid (cut unturned LF false t) → ended (lines_in (b ∷ t)) ≡ b ∷ ended (lines_in t)
unfolding lines_in
ended_byte b t h = rw (cut_line b t) (go (eqb b LF) (eqb-true b LF))
  where
    go : (x : Bool) → (x ≡ true → b ≡ LF) →
        ended (pieces whole_line (cond (x && true) ([] ∷ cut unturned LF false t) (in_front b (cut unturned LF false t))))
        ≡ b ∷ ended (pieces whole_line (cut unturned LF false t))
    go true q = ended_next (cut unturned LF false t) (cut_some unturned LF false t) ∙ rw (q refl)
    go false q = ended_in_front b (cut unturned LF false t) h

lines_ended : (t : List ℕ) → ended (lines_in t) ≡ cond (lacks_end t) (t ++ (LF ∷ [])) t
unfolding lines_in lacks_end cut unturned ended pieces unless_empty whole_line in_front
lines_ended [] = refl
lines_ended (b ∷ []) = go (eqb b LF) (eqb-true b LF)
  where
    go : (x : Bool) → (x ≡ true → b ≡ LF) →
        ended (pieces whole_line (cond (x && true) ([] ∷ [] ∷ []) ((b ∷ []) ∷ []))) ≡ cond (not x) (b ∷ LF ∷ []) (b ∷ [])
    go true q = rw (q refl)
    go false q = refl
lines_ended (b ∷ c ∷ t) = ended_byte b (c ∷ t) (cut_solid c t) ∙ ap (λ (u : List ℕ). b ∷ u) (lines_ended (c ∷ t)) ∙ go (lacks_end (c ∷ t))
  where
    go : (x : Bool) → b ∷ cond x (c ∷ (t ++ (LF ∷ []))) (c ∷ t) ≡ cond x (b ∷ c ∷ (t ++ (LF ∷ []))) (b ∷ c ∷ t)
    go true = refl
    go false = refl

-- the lines of a text are the text, with an LF where it lacks one
pub text_of_lines : (n : ℕ) (t : List ℕ) (rs : List (List (List ℕ))) → lines_read n t ≡ good rs → lines_text rs ≡ cond (lacks_end t) (t ++ (LF ∷ [])) t
unfolding lines_read
text_of_lines n t rs e = text_ended n (lines_in t) rs e ∙ lines_ended t
