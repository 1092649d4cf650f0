-- Reading a complete block and what follows it.
use Prim.Native.Nat.{ℕ, suc, ◌+◌}
use Rattle.std.specs.Prelude.{Bool, ◌&&◌, ◌≡◌, eqb}
use Rattle.std.proofs.Math.Bool.{true, false, cond, not}
use mathlib.Core.List.{List, [], ◌∷◌, ◌++◌, append-nil, append_assoc}
use Rattle.std.proofs.Math.Path.{refl, sym, ap, subst}
use Rattle.std.proofs.Common.{◌∙◌, eqb-true}
use native.Mathlib.Omega.{arith}
use Rattle.std.proofs.Math.Numerals.{add-one}
use Rattle.std.proofs.Math.ListN.{length, length-append}
use Rattle.std.proofs.lemmas.Bool.{not-true}
use Rattle.text.specs.Fields.{TAB, LF, in_front}
use Rattle.delivery_csv.specs.Fields.{CR, COMMA, record_taken, cut, unless_empty, pieces, joined, Outcome, bad, good, with_record, read_all}
use Rattle.delivery_csv.specs.Records.{turned, without_cr, records_in, record_right, record_fields, records_read, field_texts, records_text}
use Rattle.delivery_csv.specs.Lines.{unturned, whole_line, lines_in, line_fields, line_right, lines_read, lines_text}
use Rattle.delivery_csv.specs.Converting.{text_of, drill_of_csv, csv_of_drill}
use Rattle.delivery_csv.specs.Back.{lacks_end}
use Rattle.delivery_csv.specs.Blocks.{ends_record, complete, after, BlockByBlock}
use Rattle.delivery_csv.specs.laws.Bools.{and_left, and_right}
use Rattle.delivery_csv.specs.laws.Cuts.{Some, some_in_front, pieces_next, cut_some}
use Rattle.delivery_csv.specs.laws.Outcomes.{not_good}
use Rattle.delivery_csv.specs.laws.Reading.{Step, step}

-- ---- the pieces of a block and of what follows it

in_front_append : (b : ℕ) (ps qs : List (List ℕ)) → Some ps → in_front b (ps ++ qs) ≡ in_front b ps ++ qs
unfolding Some in_front
in_front_append b [] qs h = absurd h
in_front_append b (p ∷ ps) qs h = refl

some_append : (ps qs : List (List ℕ)) → Some qs → Some (ps ++ qs)
unfolding Some
some_append [] qs h = h
some_append (p ∷ ps) qs h = tt

stripped : (List ℕ → List ℕ) → List (List ℕ) → List (List ℕ)
stripped strip [] = []
stripped strip (p ∷ ps) = strip p ∷ stripped strip ps

length_stripped : (strip : List ℕ → List ℕ) (ps : List (List ℕ)) → length (stripped strip ps) ≡ length ps
unfolding stripped
length_stripped strip [] = refl
length_stripped strip (p ∷ ps) = ap suc (length_stripped strip ps)

pieces_append : (strip : List ℕ → List ℕ) (ps qs : List (List ℕ)) → Some qs → pieces strip (ps ++ qs) ≡ stripped strip ps ++ pieces strip qs
unfolding stripped
pieces_append strip [] qs h = refl
pieces_append strip (p ∷ ps) qs h =
    pieces_next strip p (ps ++ qs) (some_append ps qs h) ∙ ap (λ (rs : List (List ℕ)). strip p ∷ rs) (pieces_append strip ps qs h)

module _ (turns : Bool → ℕ → Bool) (quiet : turns false LF ≡ false) where
  -- what follows is cut as if it stood alone
  record Block (i : Bool) (a : List ℕ) : Type 0 where
    firsts : List (List ℕ)
    some : Some firsts
    follows : (b : List ℕ) → cut turns LF i (a ++ b) ≡ firsts ++ cut turns LF false b

  outside : (b : ℕ) (i : Bool) → (eqb b LF && not i) ≡ true → i ≡ false
  outside b i e = not-true i (and_right (eqb b LF) (not i) e)

  stays : (b : ℕ) (i : Bool) → (eqb b LF && not i) ≡ true → turns i b ≡ i
  stays b i e = rw (eqb-true b LF (and_left (eqb b LF) (not i) e), outside b i e) quiet

  block : (i : Bool) (b : ℕ) (a : List ℕ) → ends_record turns i (b ∷ a) ≡ true → Block i (b ∷ a)
  unfolding ends_record cut Some
  block i b [] e =
      record {
        firsts = [] ∷ [];
        some = tt;
        follows = λ t. rw e (ap (λ (j : Bool). [] ∷ cut turns LF j t) (outside b i e));
      }
  block i b (c ∷ a) e = go (eqb b LF && not i) refl (block (turns i b) c a e)
    where
      go : (x : Bool) → (eqb b LF && not i) ≡ x → Block (turns i b) (c ∷ a) → Block i (b ∷ c ∷ a)
      go true q h =
          record {
            firsts = [] ∷ h.firsts;
            some = tt;
            follows = λ t. rw q (ap (λ (ps : List (List ℕ)). [] ∷ ps) (ap (λ (j : Bool). cut turns LF j (c ∷ (a ++ t))) (sym (stays b i q)) ∙ h.follows t));
          }
      go false q h =
          record {
            firsts = in_front b h.firsts;
            some = some_in_front b h.firsts h.some;
            follows = λ t. rw q (ap (in_front b) (h.follows t) ∙ in_front_append b h.firsts (cut turns LF false t) h.some);
          }

  block_whole : (strip : List ℕ → List ℕ) (a : List ℕ) (h : Block false a) → pieces strip (cut turns LF false a) ≡ stripped strip h.firsts
  unfolding cut pieces unless_empty Some
  block_whole strip a h =
      ap (λ (t : List ℕ). pieces strip (cut turns LF false t)) (sym (append-nil a))
      ∙ ap (pieces strip) (h.follows [])
      ∙ pieces_append strip h.firsts ([] ∷ []) tt
      ∙ append-nil (stripped strip h.firsts)

  block_pieces : (strip : List ℕ → List ℕ) (a b : List ℕ) → Block false a →
      pieces strip (cut turns LF false (a ++ b)) ≡ pieces strip (cut turns LF false a) ++ pieces strip (cut turns LF false b)
  block_pieces strip a b h =
      ap (pieces strip) (h.follows b)
      ∙ pieces_append strip h.firsts (cut turns LF false b) (cut_some turns LF false b)
      ∙ ap (λ (ps : List (List ℕ)). ps ++ pieces strip (cut turns LF false b)) (sym (block_whole strip a h))

  pub ends_pieces : (strip : List ℕ → List ℕ) (a b : List ℕ) → ends_record turns false a ≡ true →
      pieces strip (cut turns LF false (a ++ b)) ≡ pieces strip (cut turns LF false a) ++ pieces strip (cut turns LF false b)
  unfolding cut pieces unless_empty
  ends_pieces strip [] b e = refl
  ends_pieces strip (c ∷ a) b e = block_pieces strip (c ∷ a) b (block false c a e)

  -- a block has one piece less than it is cut into: the last is empty
  pub ends_length : (strip : List ℕ → List ℕ) (a : List ℕ) → ends_record turns false a ≡ true →
      length (cut turns LF false a) ≡ suc (length (pieces strip (cut turns LF false a)))
  unfolding cut pieces unless_empty
  ends_length strip [] e = refl
  ends_length strip (c ∷ a) e = go (block false c a e)
    where
      go : Block false (c ∷ a) → length (cut turns LF false (c ∷ a)) ≡ suc (length (pieces strip (cut turns LF false (c ∷ a))))
      go h =
          ap (λ (t : List ℕ). length (cut turns LF false t)) (sym (append-nil (c ∷ a)))
          ∙ ap length (h.follows [])
          ∙ length-append h.firsts ([] ∷ [])
          ∙ add-one (length h.firsts)
          ∙ ap suc (sym (length_stripped strip h.firsts) ∙ sym (ap length (block_whole strip (c ∷ a) h)))

records_append : (a b : List ℕ) → complete a ≡ true → records_in (a ++ b) ≡ records_in a ++ records_in b
unfolding complete records_in turned
records_append a b e = ends_pieces turned refl without_cr a b e

line_ends_lem : (a : List ℕ) → lacks_end a ≡ false → ends_record unturned false a ≡ true
unfolding lacks_end ends_record unturned
line_ends_lem [] e = refl
line_ends_lem (b ∷ []) e = go (eqb b LF) e
  where
    go : (x : Bool) → not x ≡ false → (x && true) ≡ true
    go true q = refl
    go false q = sym q
line_ends_lem (b ∷ c ∷ a) e = line_ends_lem (c ∷ a) e

lines_append : (a b : List ℕ) → lacks_end a ≡ false → lines_in (a ++ b) ≡ lines_in a ++ lines_in b
unfolding lines_in unturned
lines_append a b e = ends_pieces unturned refl whole_line a b (line_ends_lem a e)

-- ---- reading on

onto : List (List (List ℕ)) → Outcome (List (List (List ℕ))) → Outcome (List (List (List ℕ)))
onto rs (bad n) = bad n
onto rs (good qs) = good (rs ++ qs)

shifted : ℕ → Outcome (List (List (List ℕ))) → Outcome (List (List (List ℕ)))
shifted k (bad n) = bad (k + n)
shifted k (good rs) = good rs

onto_nil : (x : Outcome (List (List (List ℕ)))) → onto [] x ≡ x
unfolding onto
onto_nil (bad n) = refl
onto_nil (good rs) = refl

onto_record : (r : List (List ℕ)) (rs : List (List (List ℕ))) (x : Outcome (List (List (List ℕ)))) → with_record r (onto rs x) ≡ onto (r ∷ rs) x
unfolding onto with_record
onto_record r rs (bad n) = refl
onto_record r rs (good qs) = refl

shifted_record : (k : ℕ) (r : List (List ℕ)) (x : Outcome (List (List (List ℕ)))) → with_record r (shifted k x) ≡ shifted k (with_record r x)
unfolding shifted with_record
shifted_record k r (bad n) = refl
shifted_record k r (good qs) = refl

module _ (right : List ℕ → Bool) (fields_of : List ℕ → List (List ℕ)) where
  read_on : (n : ℕ) (ps qs : List (List ℕ)) (rs : List (List (List ℕ))) → read_all right fields_of n ps ≡ good rs →
      read_all right fields_of n (ps ++ qs) ≡ onto rs (read_all right fields_of (n + length rs) qs)
  unfolding read_all
  read_on n [] qs rs e =
      let q : [] ≡ rs = cc in
      let z : n + 0 ≡ n = omega arith in
      subst (λ (x : List (List (List ℕ))). read_all right fields_of n qs ≡ onto x (read_all right fields_of (n + length x) qs)) q
      (rw z (sym (onto_nil (read_all right fields_of n qs))))
  read_on n (p ∷ ps) qs rs e =
      let h : Step right fields_of n p ps rs = step right fields_of n p ps rs e in
      let z : n + 1 + length h.others ≡ n + suc (length h.others) = omega arith in
      subst (λ (x : List (List (List ℕ))). read_all right fields_of n (p ∷ (ps ++ qs)) ≡ onto x (read_all right fields_of (n + length x) qs)) h.whole
      (rw (h.quotes, h.taken, read_on (n + 1) ps qs h.others h.rest, z)
      (onto_record (fields_of p) h.others (read_all right fields_of (n + suc (length h.others)) qs)))

  read_stop : (n : ℕ) (ps qs : List (List ℕ)) (m : ℕ) → read_all right fields_of n ps ≡ bad m → read_all right fields_of n (ps ++ qs) ≡ bad m
  unfolding read_all with_record
  read_stop n [] qs m e = not_good {A = List (List (List ℕ))} m [] (sym e)
  read_stop n (p ∷ ps) qs m e =
      go (right p && record_taken (fields_of p)) (read_all right fields_of (n + 1) ps) (read_stop (n + 1) ps qs m) e
    where
      go : (x : Bool) (o : Outcome (List (List (List ℕ)))) → (o ≡ bad m → read_all right fields_of (n + 1) (ps ++ qs) ≡ bad m) →
          cond x (with_record (fields_of p) o) (bad n) ≡ bad m → cond x (with_record (fields_of p) (read_all right fields_of (n + 1) (ps ++ qs))) (bad n) ≡ bad m
      go true (bad k) h q = rw (h q)
      go true (good rs) h q = not_good m (fields_of p ∷ rs) (sym q)
      go false o h q = q

  read_shifted : (k n : ℕ) (ps : List (List ℕ)) → read_all right fields_of (k + n) ps ≡ shifted k (read_all right fields_of n ps)
  unfolding read_all shifted
  read_shifted k n [] = refl
  read_shifted k n (p ∷ ps) =
      let z : k + n + 1 ≡ k + (n + 1) = omega arith in
      go (right p && record_taken (fields_of p)) (ap (λ (m : ℕ). read_all right fields_of m ps) z ∙ read_shifted k (n + 1) ps)
    where
      go : (x : Bool) → read_all right fields_of (k + n + 1) ps ≡ shifted k (read_all right fields_of (n + 1) ps) →
          cond x (with_record (fields_of p) (read_all right fields_of (k + n + 1) ps)) (bad (k + n))
          ≡ shifted k (cond x (with_record (fields_of p) (read_all right fields_of (n + 1) ps)) (bad n))
      go true h = rw h (shifted_record k (fields_of p) (read_all right fields_of (n + 1) ps))
      go false h = refl

  module _ (write : List (List (List ℕ)) → List ℕ) where
    pub text_stop : (x : Outcome (List (List (List ℕ)))) (n : ℕ) → text_of write x ≡ bad n → x ≡ bad n
    unfolding text_of
    text_stop (bad m) n e = cc
    text_stop (good rs) n e = not_good n (write rs) (sym e)

    stop : (ps qs : List (List ℕ)) (n : ℕ) → text_of write (read_all right fields_of 1 ps) ≡ bad n → text_of write (read_all right fields_of 1 (ps ++ qs)) ≡ bad n
    unfolding text_of
    stop ps qs n e = rw (read_stop 1 ps qs n (text_stop (read_all right fields_of 1 ps) n e))

    module _ (write_append : (rs qs : List (List (List ℕ))) → write (rs ++ qs) ≡ write rs ++ write qs) where
      text_onto : (k : ℕ) (rs : List (List (List ℕ))) (x : Outcome (List (List (List ℕ)))) →
          text_of write (onto rs (shifted k x)) ≡ after k (write rs) (text_of write x)
      unfolding text_of onto shifted after
      text_onto k rs (bad n) = refl
      text_onto k rs (good qs) = rw (write_append rs qs)

      go_on : (ps qs : List (List ℕ)) (rs : List (List (List ℕ))) → read_all right fields_of 1 ps ≡ good rs →
          text_of write (read_all right fields_of 1 (ps ++ qs)) ≡ after (length rs) (write rs) (text_of write (read_all right fields_of 1 qs))
      go_on ps qs rs e =
          let z : 1 + length rs ≡ length rs + 1 = omega arith in
          ap (text_of write) (read_on 1 ps qs rs e ∙ ap (onto rs) (ap (λ (m : ℕ). read_all right fields_of m qs) z ∙ read_shifted (length rs) 1 qs))
          ∙ text_onto (length rs) rs (read_all right fields_of 1 qs)

-- ---- the theorem

pub lines_text_append : (rs qs : List (List (List ℕ))) → lines_text (rs ++ qs) ≡ lines_text rs ++ lines_text qs
unfolding lines_text
lines_text_append [] qs = refl
lines_text_append (r ∷ rs) qs = rw (lines_text_append rs qs) (sym (append_assoc (joined TAB r) (LF ∷ lines_text rs) (lines_text qs)))

pub records_text_append : (rs qs : List (List (List ℕ))) → records_text (rs ++ qs) ≡ records_text rs ++ records_text qs
unfolding records_text
records_text_append [] qs = refl
records_text_append (r ∷ rs) qs =
    rw (records_text_append rs qs) (sym (append_assoc (joined COMMA (field_texts r)) (CR ∷ LF ∷ records_text rs) (records_text qs)))

pub block_by_block : BlockByBlock
unfolding drill_of_csv csv_of_drill records_read lines_read
block_by_block =
    record {
      records_go_on = λ a b rs c e. rw (records_append a b c) (go_on record_right record_fields lines_text lines_text_append (records_in a) (records_in b) rs e);
      records_stop = λ a b n c e. rw (records_append a b c) (stop record_right record_fields lines_text (records_in a) (records_in b) n e);
      lines_go_on = λ a b rs c e. rw (lines_append a b c) (go_on line_right line_fields records_text records_text_append (lines_in a) (lines_in b) rs e);
      lines_stop = λ a b n c e. rw (lines_append a b c) (stop line_right line_fields records_text (lines_in a) (lines_in b) n e);
    }
