-- Calls with their lines and restores come to calls without: the words, the count, the version and the settings are those after an accepted opening and steps.
use Rattle.std.specs.Prelude.{ℕ, ◌+◌, ◌^◌, Bool, true, false, cond, ◌&&◌, refl, leb, ltb, get_or, Option, Some, None, Ok}
use mathlib.Core.List.{List, [], ◌∷◌}
use Rattle.std.proofs.Math.Path.{◌≡◌, ap}
use Rattle.std.proofs.Common.{sym, ◌∙◌, arith, eqb-true, ne_eqb}
use Rattle.std.proofs.Math.Dec.{eqb}
use Rattle.std.proofs.Math.ListN.{length}
use Rattle.records.specs.Words.{blank}
use Rattle.records.specs.laws.Fill.{length_blank}
use Rattle.opening.specs.Arguments.{Arguments}
use Rattle.opening.specs.Opening.{open_answer, open_words, opened}
use Rattle.delivery.specs.Delivery.{deliver_answer, delivered}
use Rattle.recording.specs.Recording.{record_answer, recorded_words}
use Rattle.turn.specs.Turn.{turn_outcome, turn_words}
use Rattle.text.specs.Fields.{fields, letter}
use Rattle.text.specs.Numbers.{DECIMAL, value_of, values_of}
use Rattle.journal.specs.Lines.{recording_forms}
use Rattle.journal.specs.Journal.{acts}
use Rattle.restore.specs.Reading.{proper, all_proper, field_at, forms_for, arguments_from, hex_right, bytes_of}
use Rattle.restore.specs.Restoring.{Point, opened_from, opening_from, opening_read, first_of, first_line, delivered_from, turned_from, recorded_by, recorded_from, next_of, next_line, wrong, right, applied_or, further, replay_from, replay}
use Rattle.turn_bound.specs.TurnBound.{Terms, terms_by, terms_of, is_turn, turn_lines}
use Rattle.turn_bound.proofs.laws.Steps.{Step, after, current, acting}
use Rattle.turn_bound.proofs.laws.Count.{Going, going, opening_going}
use Rattle.turn_bound.proofs.laws.Steps as step
use Rattle.std.specs.Result.{is_ok}
use Rattle.settings.specs.laws.Answers.{true_taken}

-- w, k and g are the words, the count, and the version and settings after an accepted opening and some steps
pub record Stepped (w : List ℕ) (k : ℕ) (g : Terms) : Type 0 where
  pub first : List ℕ
  pub arguments : Arguments
  pub opens : open_answer (length first) arguments ≡ Ok tt
  pub steps : List Step
  pub words : after (opened first arguments) steps ≡ w
  pub count : acting (opened first arguments) steps ≡ k
  pub terms : current (terms_by arguments) (opened first arguments) steps ≡ g

pub opening_stepped : (w : List ℕ) (o : Arguments) → open_answer (length w) o ≡ Ok tt → Stepped (opened w o) 0 (terms_by o)
unfolding after acting current
opening_stepped w o e = record { first = w; arguments = o; opens = e; steps = []; words = refl; count = refl; terms = refl }

module _ (w : List ℕ) (k : ℕ) (g : Terms) (x : Stepped w k g) where
  pub delivery_stepped : (link : ℕ) (b : List ℕ) → Stepped (delivered w link b) k g
  unfolding after acting current
  delivery_stepped link b =
      record {
        first = x.first;
        arguments = x.arguments;
        opens = x.opens;
        steps = step.delivery link b ∷ x.steps;
        words = ap (λ (u : List ℕ). delivered u link b) x.words;
        count = x.count;
        terms = x.terms;
      }

  pub turn_stepped : (out : List ℕ) → Stepped (turn_words w (length out)) (cond (acts (turn_outcome w (length out))) (k + 1) k) g
  unfolding after acting current
  turn_stepped out =
      record {
        first = x.first;
        arguments = x.arguments;
        opens = x.opens;
        steps = step.turn out ∷ x.steps;
        words = ap (λ (u : List ℕ). turn_words u (length out)) x.words;
        count = rw (x.words, x.count);
        terms = x.terms;
      }

  pub recording_stepped : (i r b : ℕ) → Stepped (recorded_words w i r b) k g
  unfolding after acting current
  recording_stepped i r b =
      record {
        first = x.first;
        arguments = x.arguments;
        opens = x.opens;
        steps = step.recording i r b ∷ x.steps;
        words = ap (λ (u : List ℕ). recorded_words u i r b) x.words;
        count = x.count;
        terms = x.terms;
      }

  -- the session goes on
  pub stepped_going : Going g w k
  stepped_going =
      rw (x.words, x.count, x.terms) at
      (going (terms_by x.arguments) (opened x.first x.arguments) (opening_going x.first x.arguments x.opens) x.steps)

  -- the version and the settings are those in the words
  stepped_terms : terms_of w ≡ g
  stepped_terms = stepped_going.sound.terms

-- ---- lines

pub some_if : {A : Type 0} (b : Bool) (y : Option A) (x : A) → cond b y None ≡ Some x → (b ≡ true) × (y ≡ Some x)
some_if true y x e = (refl, e)
some_if false y x e = absurd (let z : ◌≡◌ {A = ℕ} 0 1 = cc in omega arith)

pub words_of : (z y : Point) → Some z ≡ Some y → z.words ≡ y.words
words_of z y e = cc

opened_stepped : (o : Arguments) (x : Point) → opened_from o ≡ Some x → Stepped x.words 0 (terms_of x.words)
unfolding opened_from opened
opened_stepped o x e =
    let z : Point = record { words = open_words o; turned = None } in
    let t = some_if (is_ok (open_answer 2048 o)) (Some z) x e in
    let taken : open_answer (length (blank 2048)) o ≡ Ok tt = rw length_blank (true_taken _ t.0) in
    let words : opened (blank 2048) o ≡ x.words = rw (length_blank, t.0) (words_of z x t.1) in
    let y = rw words at (opening_stepped (blank 2048) o taken) in
    rw (stepped_terms x.words 0 (terms_by o) y) y

-- an opening line
pub first_stepped : (b : List ℕ) (x : Point) → first_line b ≡ Some x → Stepped x.words 0 (terms_of x.words)
unfolding first_line first_of opening_read opening_from
first_stepped b x e = of (fields b) e
  where
    numbers : (n : ℕ) (xs : List ℕ) → opening_from n xs ≡ Some x → Stepped x.words 0 (terms_of x.words)
    numbers n xs e =
        let t = some_if (ltb (get_or xs 5 0) (2 ^ 32)) (opened_from (arguments_from n xs)) x e in
        opened_stepped (arguments_from n xs) x t.1

    read : (n : ℕ) (fs : List (List ℕ)) → opening_read n fs ≡ Some x → Stepped x.words 0 (terms_of x.words)
    read n fs e =
        let xs = values_of (forms_for n (length fs)) fs in
        let t = some_if (leb n 16 && all_proper (forms_for n (length fs)) fs) (opening_from n xs) x e in
        numbers n xs t.1

    of : (fs : List (List ℕ)) → first_of fs ≡ Some x → Stepped x.words 0 (terms_of x.words)
    of [] e = absurd (let z : ◌≡◌ {A = ℕ} 0 1 = cc in omega arith)
    of (f ∷ fs) e = read (value_of DECIMAL (field_at fs 1)) fs (some_if (eqb (letter f) 79) (opening_read (value_of DECIMAL (field_at fs 1)) fs) x e).1

module _ (w : List ℕ) (k : ℕ) (g : Terms) (h : Stepped w k g) (y : Point) where
  pub delivered_stepped : (fs : List (List ℕ)) → delivered_from w fs ≡ Some y → Stepped y.words k g
  unfolding delivered_from
  delivered_stepped [] e = absurd (let z : ◌≡◌ {A = ℕ} 0 1 = cc in omega arith)
  delivered_stepped (l ∷ []) e = absurd (let z : ◌≡◌ {A = ℕ} 0 1 = cc in omega arith)
  delivered_stepped (l ∷ b ∷ []) e =
      let z : Point = record { words = delivered w (value_of DECIMAL l) (bytes_of b); turned = None } in
      let t = some_if (proper DECIMAL l && (hex_right b && is_ok (deliver_answer w (value_of DECIMAL l) (bytes_of b)))) (Some z) y e in
      rw (words_of z y t.1) at (delivery_stepped w k g h (value_of DECIMAL l) (bytes_of b))
  delivered_stepped (l ∷ b ∷ c ∷ fs) e = absurd (let z : ◌≡◌ {A = ℕ} 0 1 = cc in omega arith)

  pub turned_stepped : (fs : List (List ℕ)) → turned_from w fs ≡ Some y → Stepped y.words (k + 1) g
  unfolding turned_from
  turned_stepped [] e =
      let z : Point = record { words = turn_words w 140; turned = Some w } in
      let t = some_if (acts (turn_outcome w 140)) (Some z) y e in
      let size : length (blank 140) ≡ 140 = length_blank 140 in
      rw (words_of z y t.1) at (rw (size, t.0) at (turn_stepped w k g h (blank 140)))
  turned_stepped (f ∷ fs) e = absurd (let z : ◌≡◌ {A = ℕ} 0 1 = cc in omega arith)

  pub recorded_stepped : (fs : List (List ℕ)) → recorded_from w fs ≡ Some y → Stepped y.words k g
  unfolding recorded_from recorded_by
  recorded_stepped fs e =
      let xs = values_of recording_forms fs in
      let t = some_if (all_proper recording_forms fs) (recorded_by w xs) y e in
      let z : Point = record { words = recorded_words w (get_or xs 0 0) (get_or xs 1 0) (get_or xs 2 0); turned = None } in
      let q = some_if (is_ok (record_answer w (get_or xs 0 0) (get_or xs 1 0) (get_or xs 2 0))) (Some z) y t.1 in
      rw (words_of z y q.1) at (recording_stepped w k g h (get_or xs 0 0) (get_or xs 1 0) (get_or xs 2 0))

-- a further line
pub next_stepped : (w : List ℕ) (k : ℕ) (g : Terms) → Stepped w k g → (b : List ℕ) (y : Point) → next_line w b ≡ Some y → Stepped y.words (k + cond (is_turn b) 1 0) g
unfolding next_line next_of is_turn field_at
next_stepped w k g h b y e = of (fields b) e
  where
    none_more : k + 0 ≡ k
    none_more = omega arith

    letters : (f : List ℕ) (fs : List (List ℕ)) (d : Bool) → eqb (letter f) 68 ≡ d → (c : Bool) → eqb (letter f) 75 ≡ c → (t : Bool) → eqb (letter f) 84 ≡ t →
        cond d (delivered_from w fs) (cond c (recorded_from w fs) (cond t (turned_from w fs) None)) ≡ Some y → Stepped y.words (k + cond t 1 0) g
    letters f fs true p c q true r e = absurd (let u = eqb-true (letter f) 68 p in let v = eqb-true (letter f) 84 r in omega (arith, u, v))
    letters f fs true p c q false r e = rw none_more (delivered_stepped w k g h y fs e)
    letters f fs false p true q true r e = absurd (let u = eqb-true (letter f) 75 q in let v = eqb-true (letter f) 84 r in omega (arith, u, v))
    letters f fs false p true q false r e = rw none_more (recorded_stepped w k g h y fs e)
    letters f fs false p false q true r e = turned_stepped w k g h y fs e
    letters f fs false p false q false r e = absurd (let z : ◌≡◌ {A = ℕ} 0 1 = cc in omega arith)

    of : (fs : List (List ℕ)) → next_of w fs ≡ Some y → Stepped y.words (k + cond (eqb (letter (get_or fs 0 [])) 84) 1 0) g
    of [] e = absurd (let z : ◌≡◌ {A = ℕ} 0 1 = cc in omega arith)
    of (f ∷ fs) e = letters f fs (eqb (letter f) 68) refl (eqb (letter f) 75) refl (eqb (letter f) 84) refl e

-- which is no `T`
first_no_turn : (b : List ℕ) (x : Point) → first_line b ≡ Some x → is_turn b ≡ false
unfolding first_line first_of is_turn field_at
first_no_turn b x e = of (fields b) e
  where
    letters : (c : ℕ) (fs : List (List ℕ)) → cond (eqb c 79) (opening_read (value_of DECIMAL (field_at fs 1)) fs) None ≡ Some x → eqb c 84 ≡ false
    letters c fs e =
        let t = some_if (eqb c 79) (opening_read (value_of DECIMAL (field_at fs 1)) fs) x e in
        ne_eqb c 84 (λ z. absurd (let u = eqb-true c 79 t.0 in omega (arith, u, z)))

    of : (fs : List (List ℕ)) → first_of fs ≡ Some x → eqb (letter (get_or fs 0 [])) 84 ≡ false
    of [] e = absurd (let z : ◌≡◌ {A = ℕ} 0 1 = cc in omega arith)
    of (f ∷ fs) e = letters (letter f) fs e

pub wrong_stays : (j i : ℕ) (bs : List (List ℕ)) → replay_from j (wrong i) bs ≡ wrong i
unfolding replay_from further
wrong_stays j i [] = refl
wrong_stays j i (b ∷ bs) = wrong_stays (j + 1) i bs

further_stepped : (j : ℕ) (y : Point) (k : ℕ) (g : Terms) → Stepped y.words k g → (bs : List (List ℕ)) (x : Point) → replay_from j (right y) bs ≡ right x → Stepped x.words (k + turn_lines bs) g
unfolding replay_from further applied_or turn_lines
further_stepped j y k g h [] x e =
    let none_more : k + 0 ≡ k = omega arith in
    let same : y.words ≡ x.words = cc in
    rw (none_more, ← same) h
further_stepped j y k g h (b ∷ bs) x e = of (next_line y.words b) refl e (λ z l. further_stepped (j + 1) z (k + cond (is_turn b) 1 0) g l bs x)
  where
    more : k + (cond (is_turn b) 1 0 + turn_lines bs) ≡ k + cond (is_turn b) 1 0 + turn_lines bs
    more = omega arith

    of : (z : Option Point) → next_line y.words b ≡ z → replay_from (j + 1) (applied_or j z) bs ≡ right x →
        ((u : Point) → Stepped u.words (k + cond (is_turn b) 1 0) g → replay_from (j + 1) (right u) bs ≡ right x → Stepped x.words (k + cond (is_turn b) 1 0 + turn_lines bs) g) →
        Stepped x.words (k + (cond (is_turn b) 1 0 + turn_lines bs)) g
    of None f e again = absurd (let q : wrong j ≡ right x = sym (wrong_stays (j + 1) j bs) ∙ e in let z : ◌≡◌ {A = ℕ} 0 1 = cc in omega arith)
    of (Some z) f e again = rw more (again z (next_stepped y.words k g h b z f) e)

-- the complete lines of a journal
pub replay_stepped : (ls : List (List ℕ)) (x : Point) → replay ls ≡ right x → Stepped x.words (turn_lines ls) (terms_of x.words)
unfolding replay applied_or turn_lines
replay_stepped [] x e = absurd (let z : ◌≡◌ {A = ℕ} 0 1 = cc in omega arith)
replay_stepped (b ∷ bs) x e = of (first_line b) refl e
  where
    of : (z : Option Point) → first_line b ≡ z → replay_from 2 (applied_or 1 z) bs ≡ right x → Stepped x.words (cond (is_turn b) 1 0 + turn_lines bs) (terms_of x.words)
    of None f e = absurd (let q : wrong 1 ≡ right x = sym (wrong_stays 2 1 bs) ∙ e in let z : ◌≡◌ {A = ℕ} 0 1 = cc in omega arith)
    of (Some z) f e =
        let y = further_stepped 2 z 0 (terms_of z.words) (first_stepped b z f) bs x e in
        rw (first_no_turn b z f, stepped_terms x.words (0 + turn_lines bs) (terms_of z.words) y) y
