-- An input in pieces gives what it gives as a whole.
use Rattle.std.specs.Prelude.{ℕ, ◌+◌, ◌≤◌, Bool, ◌&&◌, ◌||◌, ◌≡◌, leb, take, drop}
use Rattle.std.proofs.Math.Bool.{true, false, cond}
use mathlib.Core.List.{List, [], ◌∷◌, ◌++◌, append-nil, append_assoc}
use Rattle.std.proofs.Math.Path.{refl, ap}
use Rattle.std.proofs.Common.{sym, ◌∙◌, take-append-drop, leb-true}
use native.Mathlib.Omega.{arith}
use Rattle.std.proofs.Math.ListN.{length, length-append}
use Rattle.text.specs.Fields.{LF}
use Rattle.delivery_csv.specs.Fields.{record_taken, cut, pieces, Outcome, bad, good, with_record, read_all}
use Rattle.delivery_csv.specs.Records.{turned, without_cr, records_in, record_right, record_fields, records_read, records_text}
use Rattle.delivery_csv.specs.Lines.{unturned, whole_line, lines_in, line_right, line_fields, lines_read, lines_text}
use Rattle.delivery_csv.specs.Converting.{text_of, drill_of_csv, csv_of_drill}
use Rattle.delivery_csv.specs.Blocks.{ends_record}
use Rattle.delivery_csv.specs.Parts.{turned_if, part_from, ended_part}
use Rattle.delivery_csv.specs.Stream.{first_taken, some_refused, Output, output_from, output_of, followed, ended_length, ended_output, streamed, all_bytes, Streamed}
use Rattle.delivery_csv.specs.laws.Outcomes.{not_good}
use Rattle.delivery_csv.specs.laws.Blocks.{ends_pieces, lines_text_append, records_text_append}
use Rattle.delivery_csv.specs.laws.Parts.{nothing, read_length, part_ended, rest_unended}
use Rattle.delivery_csv.specs.laws.TextLengths.{lines_bound, records_bound}
use Rattle.delivery_csv.specs.laws.Short.{record_short, line_shorter, without_cr_length, line_keeps, too_long}

module _ (right : List ℕ → Bool) (fields_of : List ℕ → List (List ℕ)) where
  -- ---- what is read, and what is taken

  pub record Taken (ps : List (List ℕ)) (rs : List (List (List ℕ))) : Type 0 where
    pub records : first_taken right fields_of ps ≡ rs
    pub none : some_refused right fields_of ps ≡ false

  pub record Stopped (n : ℕ) (ps : List (List ℕ)) (m : ℕ) : Type 0 where
    pub number : n + length (first_taken right fields_of ps) ≡ m
    pub some : some_refused right fields_of ps ≡ true

  pub taken_all : (n : ℕ) (ps : List (List ℕ)) (rs : List (List (List ℕ))) → read_all right fields_of n ps ≡ good rs → Taken ps rs
  unfolding read_all with_record first_taken some_refused
  taken_all n [] rs e = record { records = cc; none = refl }
  taken_all n (p ∷ ps) rs e =
      go (right p && record_taken (fields_of p)) refl (read_all right fields_of (n + 1) ps) (taken_all (n + 1) ps) e
    where
      go : (x : Bool) → (right p && record_taken (fields_of p)) ≡ x → (o : Outcome (List (List (List ℕ)))) →
          ((qs : List (List (List ℕ))) → o ≡ good qs → Taken ps qs) →
          cond x (with_record (fields_of p) o) (bad n) ≡ good rs → Taken (p ∷ ps) rs
      go true t (bad m) h q = not_good m rs q
      go true t (good qs) h q =
          let k : Taken ps qs = h qs refl in
          let w : fields_of p ∷ qs ≡ rs = cc in
          record { records = rw (t, k.records) w; none = rw t k.none }
      go false t o h q = not_good n rs q

  pub stopped : (n : ℕ) (ps : List (List ℕ)) (m : ℕ) → read_all right fields_of n ps ≡ bad m → Stopped n ps m
  unfolding read_all with_record first_taken some_refused
  stopped n [] m e = not_good {A = List (List (List ℕ))} m [] (sym e)
  stopped n (p ∷ ps) m e = go (right p && record_taken (fields_of p)) refl (read_all right fields_of (n + 1) ps) (stopped (n + 1) ps) e
    where
      go : (x : Bool) → (right p && record_taken (fields_of p)) ≡ x → (o : Outcome (List (List (List ℕ)))) → ((k : ℕ) → o ≡ bad k → Stopped (n + 1) ps k) →
          cond x (with_record (fields_of p) o) (bad n) ≡ bad m → Stopped n (p ∷ ps) m
      go true t (bad k) h q =
          let w : k ≡ m = cc in
          let z : Stopped (n + 1) ps k = h k refl in
          record { number = rw t (omega (arith, z.number)); some = rw t z.some }
      go true t (good qs) h q = not_good m (fields_of p ∷ qs) (sym q)
      go false t o h q = let w : n ≡ m = cc in record { number = rw t (omega arith); some = rw t }

  -- ---- one after the other

  pub first_append : (ps qs : List (List ℕ)) →
      first_taken right fields_of (ps ++ qs)
      ≡ cond (some_refused right fields_of ps) (first_taken right fields_of ps) (first_taken right fields_of ps ++ first_taken right fields_of qs)
  unfolding first_taken some_refused
  first_append [] qs = refl
  first_append (p ∷ ps) qs = go (right p && record_taken (fields_of p)) (first_append ps qs)
    where
      under : (x : Bool) (f : List (List ℕ)) (u v : List (List (List ℕ))) → f ∷ cond x u v ≡ cond x (f ∷ u) (f ∷ v)
      under true f u v = refl
      under false f u v = refl

      go : (x : Bool) →
          first_taken right fields_of (ps ++ qs)
          ≡ cond (some_refused right fields_of ps) (first_taken right fields_of ps) (first_taken right fields_of ps ++ first_taken right fields_of qs) →
          cond x (fields_of p ∷ first_taken right fields_of (ps ++ qs)) []
          ≡ cond (cond x (some_refused right fields_of ps) true) (cond x (fields_of p ∷ first_taken right fields_of ps) [])
          (cond x (fields_of p ∷ first_taken right fields_of ps) [] ++ first_taken right fields_of qs)
      go true h = ap (λ (u : List (List (List ℕ))). fields_of p ∷ u) h ∙ under (some_refused right fields_of ps) (fields_of p) _ _
      go false h = refl

  refused_append : (ps qs : List (List ℕ)) → some_refused right fields_of (ps ++ qs) ≡ (some_refused right fields_of ps || some_refused right fields_of qs)
  unfolding some_refused
  refused_append [] qs = refl
  refused_append (p ∷ ps) qs = go (right p && record_taken (fields_of p)) (refused_append ps qs)
    where
      go : (x : Bool) → some_refused right fields_of (ps ++ qs) ≡ (some_refused right fields_of ps || some_refused right fields_of qs) →
          cond x (some_refused right fields_of (ps ++ qs)) true ≡ (cond x (some_refused right fields_of ps) true || some_refused right fields_of qs)
      go true h = h
      go false h = refl

  module _ (write : List (List (List ℕ)) → List ℕ) (write_nil : write [] ≡ []) (write_append : (rs qs : List (List (List ℕ))) → write (rs ++ qs) ≡ write rs ++ write qs) where
    output_both : (x y : Bool) (a b : List (List (List ℕ))) →
        ◌≡◌ {A = Output} (record { text = write (cond x a (a ++ b)); count = length (cond x a (a ++ b)); refused = x || y })
        (followed (record { text = write a; count = length a; refused = x }) (record { text = write b; count = length b; refused = y }))
    unfolding followed
    output_both true y a b = refl
    output_both false y a b = rw (write_append a b, length-append a b)

    output_append : (ps qs : List (List ℕ)) →
        output_from right fields_of write (ps ++ qs) ≡ followed (output_from right fields_of write ps) (output_from right fields_of write qs)
    unfolding output_from
    output_append ps qs = rw (first_append ps qs, refused_append ps qs) (output_both (some_refused right fields_of ps) (some_refused right fields_of qs) _ _)

    output_refused : (ps : List (List ℕ)) → read_all right fields_of 1 ps ≡ bad 1 → output_from right fields_of write ps ≡ record { text = []; count = 0; refused = true }
    unfolding output_from
    output_refused ps e = go (stopped 1 ps 1 e)
      where
        nil : (rs : List (List (List ℕ))) → length rs ≡ 0 → rs ≡ []
        nil [] q = refl
        nil (r ∷ rs) q = absurd (omega arith)

        go : Stopped 1 ps 1 →
            ◌≡◌ {A = Output} (record { text = write (first_taken right fields_of ps); count = length (first_taken right fields_of ps); refused = some_refused right fields_of ps })
            (record { text = []; count = 0; refused = true })
        go h = rw (nil (first_taken right fields_of ps) (omega (arith, h.number)), h.some, write_nil)

    -- ---- an ended part and what follows it

    module _ (turns : Bool → ℕ → Bool) (quiet : turns false LF ≡ false) (strip : List ℕ → List ℕ)
        (long : (t u : List ℕ) → length (cut turns LF false t) ≡ 1 → 4096 ≤ length t → read_all right fields_of 1 (pieces strip (cut turns LF false (t ++ u))) ≡ bad 1)
      where
        out : List ℕ → Output
        out t = output_from right fields_of write (pieces strip (cut turns LF false t))

        out_append : (a b : List ℕ) → ends_record turns false a ≡ true → out (a ++ b) ≡ followed (out a) (out b)
        unfolding out
        out_append a b e = rw (ends_pieces turns quiet strip a b e) (output_append _ _)

        -- x is what comes of the part, y what comes of the rest and all that follows
        rest_refused : (x y : Output) (long_rest : Bool) → (long_rest ≡ true → y ≡ record { text = []; count = 0; refused = true }) →
            followed (record { text = x.text; count = x.count; refused = x.refused || long_rest }) y ≡ followed x y
        unfolding followed
        rest_refused x y l h = go x.refused refl l h
          where
            go : (r : Bool) → x.refused ≡ r → (m : Bool) → (m ≡ true → y ≡ record { text = []; count = 0; refused = true }) →
                cond (r || m) (record { text = x.text; count = x.count; refused = r || m })
                (record { text = x.text ++ y.text; count = x.count + y.count; refused = y.refused })
                ≡ cond r x (record { text = x.text ++ y.text; count = x.count + y.count; refused = y.refused })
            go true q m k = ap (λ (b : Bool). record { text = x.text; count = x.count; refused = b }) (sym q)
            go false q true k = let z : x.count + 0 ≡ x.count = omega arith in rw (k refl, append-nil x.text, z)
            go false q false k = refl

        abbrev size : List ℕ → ℕ
        size t = (part_from turns (length t) false 0 nothing t).length

        out_rest : (t u : List ℕ) → leb 4096 (length (drop (size t) t)) ≡ true → out (drop (size t) t ++ u) ≡ record { text = []; count = 0; refused = true }
        unfolding out
        out_rest t u e =
            output_refused (pieces strip (cut turns LF false (drop (size t) t ++ u)))
            (long (drop (size t) t) u (rest_unended turns quiet t) (leb-true 4096 (length (drop (size t) t)) e))

        out_step : (t u : List ℕ) →
            followed
            (record {
              text = (out (take (size t) t)).text;
              count = (out (take (size t) t)).count;
              refused = (out (take (size t) t)).refused || leb 4096 (length (drop (size t) t));
            })
            (out (drop (size t) t ++ u))
            ≡ out (t ++ u)
        out_step t u =
            rest_refused (out (take (size t) t)) (out (drop (size t) t ++ u)) (leb 4096 (length (drop (size t) t))) (out_rest t u)
            ∙ sym (out_append (take (size t) t) (drop (size t) t ++ u) (part_ended turns quiet t (length t)))
            ∙ ap out (sym (append_assoc (take (size t) t) (drop (size t) t) u) ∙ ap (λ (v : List ℕ). v ++ u) (take-append-drop (size t) t))

ended_step : (quotes : Bool) (t u : List ℕ) →
    followed (ended_output quotes t) (output_of quotes (drop (ended_length quotes t) t ++ u)) ≡ output_of quotes (t ++ u)
unfolding ended_output ended_length ended_part output_of turned_if records_in lines_in out turned unturned lines_text records_text
ended_step true t u =
    out_step record_right record_fields lines_text refl lines_text_append turned refl without_cr
    (too_long record_right record_fields record_short without_cr without_cr_length turned refl) t u
ended_step false t u =
    out_step line_right line_fields records_text refl records_text_append unturned refl whole_line
    (too_long line_right line_fields line_shorter whole_line line_keeps unturned refl) t u

streamed_whole : (quotes : Bool) (rest : List ℕ) (cs : List (List ℕ)) → streamed quotes rest cs ≡ output_of quotes (rest ++ all_bytes cs)
unfolding streamed all_bytes
streamed_whole quotes rest [] = rw (append-nil rest)
streamed_whole quotes rest (c ∷ cs) =
    ap (followed (ended_output quotes (rest ++ c))) (streamed_whole quotes (drop (ended_length quotes (rest ++ c)) (rest ++ c)) cs)
    ∙ ended_step quotes (rest ++ c) (all_bytes cs)
    ∙ ap (output_of quotes) (append_assoc rest c (all_bytes cs))

module _ (right : List ℕ → Bool) (fields_of : List ℕ → List (List ℕ)) (write : List (List (List ℕ)) → List ℕ) (ps : List (List ℕ)) where
  output_text : (o : Outcome (List (List (List ℕ)))) → read_all right fields_of 1 ps ≡ o → (u : List ℕ) → text_of write o ≡ good u →
      ((output_from right fields_of write ps).text ≡ u) × ((output_from right fields_of write ps).refused ≡ false)
  unfolding text_of output_from
  output_text (bad n) e u q = not_good n u q
  output_text (good rs) e u q =
      let h : Taken right fields_of ps rs = taken_all right fields_of 1 ps rs e in
      let w : write rs ≡ u = cc in
      (rw h.records w, h.none)

  pub output_count : (o : Outcome (List (List (List ℕ)))) → read_all right fields_of 1 ps ≡ o → (u : List ℕ) → text_of write o ≡ good u →
      (output_from right fields_of write ps).count ≡ length ps
  unfolding text_of output_from
  output_count (bad n) e u q = not_good n u q
  output_count (good rs) e u q = ap length (taken_all right fields_of 1 ps rs e).records ∙ read_length right fields_of 1 ps rs e

  output_number : (o : Outcome (List (List (List ℕ)))) → read_all right fields_of 1 ps ≡ o → (n : ℕ) → text_of write o ≡ bad n →
      ((output_from right fields_of write ps).count + 1 ≡ n) × ((output_from right fields_of write ps).refused ≡ true)
  unfolding text_of output_from
  output_number (bad m) e n q =
      let h : Stopped right fields_of 1 ps m = stopped right fields_of 1 ps m e in
      let w : m ≡ n = cc in
      (omega (arith, h.number), h.some)
  output_number (good rs) e n q = not_good n (write rs) (sym q)

pub streamed_as_whole : Streamed
unfolding output_of drill_of_csv csv_of_drill records_read lines_read
streamed_as_whole =
    record {
      any_pieces = λ quotes cs. streamed_whole quotes [] cs;
      records_text_lem = λ t u e. output_text record_right record_fields lines_text (records_in t) _ refl u e;
      records_number = λ t n e. output_number record_right record_fields lines_text (records_in t) _ refl n e;
      lines_text_lem = λ t u e. output_text line_right line_fields records_text (lines_in t) _ refl u e;
      lines_number = λ t n e. output_number line_right line_fields records_text (lines_in t) _ refl n e;
      lines_bound = lines_bound;
      records_bound = records_bound;
    }
