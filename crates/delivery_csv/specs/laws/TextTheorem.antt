-- Reading records byte by byte is what the definitions say, for every text.
use Rattle.std.specs.Prelude.{ℕ, ◌+◌, Bool, cond, ◌&&◌, ◌≡◌, eqb, Option, Some, None}
use Rattle.std.proofs.Math.Bool.{true, false, not, or-false}
use Rattle.std.proofs.lemmas.Bool.{false≢true}
use mathlib.Core.List.{List, [], ◌∷◌, append_assoc}
use Rattle.std.proofs.Math.Path.{refl, sym, ap}
use Rattle.std.proofs.Common.{◌∙◌, eqb-true}
use Rattle.text.specs.Fields.{TAB, LF, in_front}
use Rattle.delivery_csv.specs.Fields.{CR, cut, unless_empty, pieces, joined, record_taken, Outcome, bad, good, with_record, read_all}
use Rattle.delivery_csv.specs.Records.{turned, without_cr, records_in, record_right, record_fields, records_read}
use Rattle.delivery_csv.specs.Lines.{lines_text}
use Rattle.delivery_csv.specs.Converting.{text_of, drill_of_csv}
use Rattle.delivery_csv.specs.laws.Bools.{and_left, and_not}
use Rattle.delivery_csv.specs.laws.Outcomes.{with_text}
use Rattle.delivery_csv.specs.laws.RecordReader.{reading, start, plain_fed, quoted_fed, closing_fed, fed_in, fed, within, ends, advanced, plain_shown, shown_in, shown_text, untouched_in, untouched, broken_in, broken, end_text, run, shown}
use Rattle.delivery_csv.specs.laws.RecordSteps.{Next, refused, touched, Leads, leads}
use Rattle.delivery_csv.specs.laws.RecordTheorem.{step, record_run, full_end, line, wrong_run, cut_some, record_run_lem}
use Rattle.delivery_csv.specs.declared.Phase.{Phase}
use Rattle.delivery_csv.specs.declared.Phase.TheVariants.{Start, Plain, Quoted, Closing, Return}
use Rattle.delivery_csv.specs.declared.RecordReader.{RecordReader}

-- ---- a text is its records, one after the other

-- a record that ends with the text
unfoldable last_end : ℕ → Option RecordReader → Outcome (List ℕ)
last_end n r = cond (broken r) (bad n) (good (end_text r))

-- whether no LF ends the record
unfoldable unended : Option RecordReader → Bool
unended None = true
unended (Some r) = within r.phase

-- a record that ends with LF, before which a CR may stand
unfoldable lf_end : ℕ → Outcome (List ℕ) → Option RecordReader → Outcome (List ℕ)
lf_end n o r = cond (unended r) (bad n) (with_text (LF ∷ []) o)

-- the records as they are cut, the first of which is partly read
unfoldable by_pieces : List (List ℕ) → Option RecordReader → ℕ → Outcome (List ℕ)
by_pieces [] r n = bad n
by_pieces (g ∷ []) r n = record_run (last_end n) r g
by_pieces (g ∷ h ∷ gs) r n = record_run (lf_end n (by_pieces (h ∷ gs) start (n + 1))) r g

pieces_wrong : (ps : List (List ℕ)) (n : ℕ) → by_pieces ps None n ≡ bad n
unfolding by_pieces last_end lf_end unended broken
pieces_wrong [] n = refl
pieces_wrong (g ∷ []) n = wrong_run g (last_end n) n refl
pieces_wrong (g ∷ h ∷ gs) n = wrong_run g (lf_end n (by_pieces (h ∷ gs) start (n + 1))) n refl

pieces_front : (ps : List (List ℕ)) (r : Option RecordReader) (n b : ℕ) → with_text (shown_text (shown r b)) (by_pieces ps (step r b) n) ≡ by_pieces (in_front b ps) r n
unfolding by_pieces in_front record_run with_text shown
pieces_front [] r n b = refl
pieces_front (g ∷ []) r n b = refl
pieces_front (g ∷ h ∷ gs) r n b = refl

run_wrong : (t : List ℕ) (n : ℕ) → run None n t ≡ bad n
unfolding run broken advanced ends fed with_text shown
run_wrong [] n = refl
run_wrong (b ∷ t) n = rw (run_wrong t n)

step_fed : (p : Phase) (f l b : ℕ) → (eqb b LF && not (within p)) ≡ false → fed (reading p f l) b ≡ step (reading p f l) b
unfolding step ends reading shown
step_fed p f l b e = rw e

-- the statement: reading byte by byte comes to what the cut records do
Parted : List ℕ → Phase → (f l n : ℕ) → Type 0
Parted t p f l n = run (reading p f l) n t ≡ by_pieces (cut turned LF (within p) t) (reading p f l) n

shown_end : (p : Phase) → within p ≡ false → shown_text (shown_in p LF) ≡ LF ∷ []
unfolding within shown_in plain_shown shown_text
shown_end Start e = refl
shown_end Plain e = refl
shown_end Quoted e = absurd (false≢true (sym e))
shown_end Closing e = refl
shown_end Return e = refl

pieces_end : (p : Phase) (f l n : ℕ) → within p ≡ false → (h : List ℕ) (hs : List (List ℕ)) →
    with_text (LF ∷ []) (by_pieces (h ∷ hs) start (n + 1)) ≡ by_pieces ([] ∷ h ∷ hs) (reading p f l) n
unfolding by_pieces record_run lf_end reading shown unended
pieces_end p f l n w h hs = rw w

module _ (t : List ℕ) (ih : (p : Phase) (f l n : ℕ) → Parted t p f l n) where
  next_parted : (n : ℕ) (inside cr : Bool) {s : Option RecordReader} → Next inside cr s → run s n t ≡ by_pieces (cut turned LF inside t) s n
  unfolding Parted
  next_parted n inside cr refused = run_wrong t n ∙ sym (pieces_wrong (cut turned LF inside t) n)
  next_parted n inside cr (touched p f l w u c) = rw (← w) (ih p f l n)

  module _ (p : Phase) (f l n b : ℕ) where
    -- the byte ends the record
    parted_end : b ≡ LF → within p ≡ false →
        with_text (shown_text (shown_in p b)) (run start (n + 1) t) ≡ by_pieces ([] ∷ cut turned LF (within p) t) (reading p f l) n
    unfolding Parted start within shown
    parted_end e w =
        rw (e, shown_end p w, w)
        (ap (λ (o : Outcome (List ℕ)). with_text (LF ∷ []) o) (ih Start 0 0 (n + 1))
        ∙ cut_some t turned LF false (λ hs. with_text (LF ∷ []) (by_pieces hs start (n + 1)) ≡ by_pieces ([] ∷ hs) (reading p f l) n) (pieces_end p f l n w))

    -- it does not
    parted_on : (eqb b LF && not (within p)) ≡ false →
        with_text (shown_text (shown_in p b)) (run (fed (reading p f l) b) n t) ≡ by_pieces (in_front b (cut turned LF (turned (within p) b) t)) (reading p f l) n
    unfolding Leads reading shown
    parted_on e =
        ap (λ (r : Option RecordReader). with_text (shown_text (shown_in p b)) (run r n t)) (step_fed p f l b e)
        ∙ ap (λ (o : Outcome (List ℕ)). with_text (shown_text (shown_in p b)) o) (next_parted n (turned (within p) b) (eqb b CR) (leads p f l b))
        ∙ pieces_front (cut turned LF (turned (within p) b) t) (reading p f l) n b

    parted_byte : Parted (b ∷ t) p f l n
    unfolding Parted run advanced ends reading cut shown
    parted_byte = go (eqb b LF && not (within p)) refl
      where
        go : (c : Bool) → (eqb b LF && not (within p)) ≡ c →
            with_text (shown_text (shown_in p b)) (run (cond c start (fed (reading p f l) b)) (cond c (n + 1) n) t)
            ≡ by_pieces (cond c ([] ∷ cut turned LF (within p) t) (in_front b (cut turned LF (turned (within p) b) t))) (reading p f l) n
        go true e = parted_end (eqb-true b LF (and_left (eqb b LF) (not (within p)) e)) (and_not (eqb b LF) (within p) e)
        go false e = parted_on e

parted_text : (t : List ℕ) (p : Phase) (f l n : ℕ) → Parted t p f l n
unfolding Parted run by_pieces cut record_run last_end shown
parted_text [] p f l n = refl
parted_text (b ∷ t) p f l n = parted_byte t (parted_text t) p f l n b

-- ---- how a record ends

-- with the text: a line end is added
last_touched : (g : List ℕ) (n : ℕ) {inside cr : Bool} {s : Option RecordReader} → Next inside cr s → record_run (last_end n) s g ≡ record_run (full_end n (good [])) s g
unfolding record_run last_end full_end broken reading end_text untouched with_text Leads shown
last_touched [] n refused = refl
last_touched [] n (touched p f l w u c) = rw u
last_touched (b ∷ g) n refused = wrong_run (b ∷ g) (last_end n) n refl ∙ sym (wrong_run (b ∷ g) (full_end n (good [])) n refl)
last_touched (b ∷ g) n (touched p f l w u c) = ap (λ (o : Outcome (List ℕ)). with_text (shown_text (shown_in p b)) o) (last_touched g n (leads p f l b))

last_piece : (b : ℕ) (g : List ℕ) (n : ℕ) → record_run (last_end n) start (b ∷ g) ≡ record_run (full_end n (good [])) start (b ∷ g)
unfolding record_run start reading Leads shown
last_piece b g n = ap (λ (o : Outcome (List ℕ)). with_text (shown_text (shown_in Start b)) o) (last_touched g n (leads Start 0 0 b))

text_none : (o : Outcome (List ℕ)) → with_text [] o ≡ o
unfolding with_text
text_none (bad m) = refl
text_none (good t) = refl

-- with LF: a CR before it is left out
module _ (n : ℕ) (o : Outcome (List ℕ)) where
  same_end : {inside : Bool} {s : Option RecordReader} → Next inside false s → lf_end n o s ≡ full_end n o s
  unfolding lf_end full_end broken reading shown unended
  same_end refused = refl
  same_end (touched p f l w u c) = rw (c, or-false (within p))

  cr_end : (p : Phase) (f l : ℕ) → with_text (shown_text (shown_in p CR)) (lf_end n o (step (reading p f l) CR)) ≡ full_end n o (reading p f l)
  unfolding shown_text shown_in plain_shown lf_end full_end broken broken_in within step ends fed fed_in plain_fed quoted_fed closing_fed reading with_text shown unended
  cr_end Start f l = text_none (with_text (LF ∷ []) o)
  cr_end Plain f l = text_none (with_text (LF ∷ []) o)
  cr_end Quoted f l = refl
  cr_end Closing f l = text_none (with_text (LF ∷ []) o)
  cr_end Return f l = refl

  last_byte : (b : ℕ) (p : Phase) (f l : ℕ) → record_run (lf_end n o) (reading p f l) (b ∷ []) ≡ record_run (full_end n o) (reading p f l) (without_cr (b ∷ []))
  unfolding record_run without_cr reading Leads shown
  last_byte b p f l = go (eqb b CR) (eqb-true b CR) (leads p f l b)
    where
      go : (c : Bool) → (c ≡ true → b ≡ CR) → Next (turned (within p) b) c (step (reading p f l) b) →
          with_text (shown_text (shown_in p b)) (lf_end n o (step (reading p f l) b)) ≡ record_run (full_end n o) (reading p f l) (cond c [] (b ∷ []))
      go true e k = rw (e refl) (cr_end p f l)
      go false e k = ap (λ (x : Outcome (List ℕ)). with_text (shown_text (shown_in p b)) x) (same_end k)

  both_wrong : (g h : List ℕ) → record_run (lf_end n o) None g ≡ record_run (full_end n o) None h
  unfolding lf_end full_end broken unended
  both_wrong g h = wrong_run g (lf_end n o) n refl ∙ sym (wrong_run h (full_end n o) n refl)

  lf_next : (g : List ℕ) (b : ℕ) {inside cr : Bool} {s : Option RecordReader} → Next inside cr s → record_run (lf_end n o) s (b ∷ g) ≡ record_run (full_end n o) s (without_cr (b ∷ g))
  unfolding record_run without_cr reading Leads lf_end full_end broken shown unended
  lf_next [] b refused = both_wrong (b ∷ []) (without_cr (b ∷ []))
  lf_next (d ∷ g) b refused = both_wrong (b ∷ d ∷ g) (without_cr (b ∷ d ∷ g))
  lf_next [] b (touched p f l w u c) = last_byte b p f l
  lf_next (d ∷ g) b (touched p f l w u c) = ap (λ (x : Outcome (List ℕ)). with_text (shown_text (shown_in p b)) x) (lf_next g d (leads p f l b))

  lf_piece : (g : List ℕ) → record_run (lf_end n o) start g ≡ record_run (full_end n o) start (without_cr g)
  unfolding record_run without_cr start reading Leads lf_end full_end broken broken_in within shown unended
  lf_piece [] = refl
  lf_piece (b ∷ []) = last_byte b Start 0 0
  lf_piece (b ∷ d ∷ g) = ap (λ (x : Outcome (List ℕ)). with_text (shown_text (shown_in Start b)) x) (lf_next g d (leads Start 0 0 b))

-- ---- the records of a text

lines_more : (n : ℕ) (r : List (List ℕ)) (rs : Outcome (List (List (List ℕ)))) (ok : Bool) →
    line n (text_of lines_text rs) ok (joined TAB r) ≡ text_of lines_text (cond ok (with_record r rs) (bad n))
unfolding line text_of with_record with_text lines_text
lines_more n r (bad m) true = refl
lines_more n r (good rs) true = ap (λ (u : List ℕ). good u) (append_assoc (joined TAB r) (LF ∷ []) (lines_text rs))
lines_more n r (bad m) false = refl
lines_more n r (good rs) false = refl

-- the lines of records, numbered from n on
read_text : ℕ → List (List ℕ) → Outcome (List ℕ)
read_text n ps = text_of lines_text (read_all record_right record_fields n ps)

-- one record more in front
read_more : (n : ℕ) (g : List ℕ) (ps : List (List ℕ)) → record_run (full_end n (read_text (n + 1) ps)) start g ≡ read_text n (g ∷ ps)
unfolding read_text read_all
read_more n g ps =
    record_run_lem g n (text_of lines_text (read_all record_right record_fields (n + 1) ps))
    ∙ lines_more n (record_fields g) (read_all record_right record_fields (n + 1) ps) (record_right g && record_taken (record_fields g))

read_last : (g : List ℕ) (n : ℕ) → record_run (last_end n) start g ≡ read_text n (unless_empty g)
unfolding unless_empty read_text read_all text_of lines_text record_run last_end start reading broken broken_in end_text untouched untouched_in shown
read_last [] n = refl
read_last (b ∷ g) n = last_piece b g n ∙ read_more n (b ∷ g) []

read_pieces : (ps : List (List ℕ)) (g : List ℕ) (n : ℕ) → by_pieces (g ∷ ps) start n ≡ read_text n (pieces without_cr (g ∷ ps))
unfolding by_pieces pieces
read_pieces [] g n = read_last g n
read_pieces (h ∷ ps) g n =
    rw (read_pieces ps h (n + 1)) (lf_piece n (read_text (n + 1) (pieces without_cr (h ∷ ps))) g ∙ read_more n (without_cr g) (pieces without_cr (h ∷ ps)))

-- the whole: what is run on a text from its start is its definition
pub text_run : (t : List ℕ) → run start 1 t ≡ drill_of_csv t
unfolding drill_of_csv records_read records_in Parted start within read_text shown
text_run t =
    parted_text t Start 0 0 1
    ∙ cut_some t turned LF false (λ ps. by_pieces ps start 1 ≡ read_text 1 (pieces without_cr ps)) (λ h hs. read_pieces hs h 1)
