-- What the loops over the bytes of drill lines come to.
use Rattle.std.specs.Prelude.{ℕ, ◌+◌, ◌^◌, ◌≤◌, ◌<◌, Bool, true, false, cond, List, [], ◌∷◌, ◌≡◌, refl, eqb, length, get_or, take, drop, ◌-◌, Result, Err, Option, Some, None, Some, is_none}
use Rattle.std.proofs.lemmas.Bool.{false≢true}
use Rattle.std.proofs.Common.{sym, ap, ◌∙◌, arith, drop_of_length-le, drop-cons, take_all, length-drop}
use Rattle.std.proofs.Math.Numerals.{add-one}
use Rattle.text.specs.Paste.{Wrote}
use Rattle.text.specs.laws.Paste.{wrote_both, length_pasted}
use Rattle.delivery_csv.specs.Fields.{Outcome, bad, good}
use Rattle.delivery_csv.specs.Converting.{conversion}
use Rattle.delivery_csv.specs.laws.Outcomes.{with_text, text_after, next_number_lem}
use Rattle.delivery_csv.specs.laws.Room.{passed, answered, spent, room_answer, answer_in, answer_more, answer_new}
use Rattle.delivery_csv.specs.laws.LineReader.{wraps_in, wraps_after, reading_line, fed_line, advanced_line, line_ends, quote_if, line_shown, line_end_text, line_wraps, run_lines, emitted_lines, scanned_line, scanned_lines, line_scan_answer, start_scan, judged_lines, written_lines}
use Rattle.delivery_csv.specs.declared.LineReader.{LineReader}
use Rattle.delivery_csv.specs.declared.scan.Scan.{Scan}
use Rattle.delivery_csv.specs.declared.ConversionError.{ConversionError}
use Rattle.delivery_csv.specs.declared.ConversionError.TheVariants.{Record}

-- judging byte by byte answers for the records that are read byte by byte
lines_judged : (all : ℕ) (t : List ℕ) (x : Scan LineReader) → line_scan_answer all (scanned_lines x t) ≡ answer_in all x.room (run_lines x.reader (x.count + 1) t)
unfolding line_scan_answer scanned_lines scanned_line run_lines answer_in passed answered
lines_judged all [] x = go (is_none x.reader)
  where
    go : (b : Bool) →
        cond b (Err (Record (x.count + 1))) (room_answer all (spent x.room (length (line_end_text x.reader))))
        ≡ answer_in all x.room (cond b (bad (x.count + 1)) (good (line_end_text x.reader)))
    go true = refl
    go false = refl
lines_judged all (b ∷ t) x =
    lines_judged all t (scanned_line x b (wraps_after b t))
    ∙ (ap
    (λ (n : ℕ). answer_in all (spent x.room (length (line_shown (line_wraps x.reader) b (wraps_after b t)))) (run_lines (advanced_line x.reader b (wraps_after b t)) n t))
    (next_number_lem (line_ends x.reader b) x.count)
    ∙ sym (answer_more all x.room (line_shown (line_wraps x.reader) b (wraps_after b t)) _))

-- the records of all lines, byte by byte
unfoldable pub outcome_lines : List ℕ → Outcome (List ℕ)
outcome_lines t = with_text (quote_if (wraps_in t)) (run_lines (reading_line 0 0 (wraps_in t)) 1 t)

pub judged_lines_lem : (all : ℕ) (t : List ℕ) → judged_lines all t ≡ conversion (outcome_lines t) all
unfolding judged_lines start_scan outcome_lines
judged_lines_lem all t =
    lines_judged all t (start_scan all (wraps_in t))
    ∙ (sym (answer_more all (Some all) (quote_if (wraps_in t)) (run_lines (reading_line 0 0 (wraps_in t)) 1 t))
    ∙ answer_new all (with_text (quote_if (wraps_in t)) (run_lines (reading_line 0 0 (wraps_in t)) 1 t)))

-- ---- where all lines are taken, their records are the bytes that are written

run_text : (t : List ℕ) (r : Option LineReader) (n : ℕ) (u : List ℕ) → run_lines r n t ≡ good u → u ≡ emitted_lines r t
unfolding run_lines emitted_lines
run_text [] r n u e = go (is_none r) e
  where
    go : (b : Bool) → cond b (bad n) (good (line_end_text r)) ≡ good u → u ≡ line_end_text r
    go true e = cc
    go false e = cc
run_text (b ∷ t) r n u e =
    text_after (line_shown (line_wraps r) b (wraps_after b t)) (emitted_lines (advanced_line r b (wraps_after b t)) t) u
    (run_lines (advanced_line r b (wraps_after b t)) (cond (line_ends r b) (n + 1) n) t)
    (λ w. run_text t (advanced_line r b (wraps_after b t)) (cond (line_ends r b) (n + 1) n) w) e

pub written_text_lem : (t u : List ℕ) → outcome_lines t ≡ good u → u ≡ written_lines t
unfolding outcome_lines written_lines
written_text_lem t u e =
    text_after (quote_if (wraps_in t)) (emitted_lines (reading_line 0 0 (wraps_in t)) t) u (run_lines (reading_line 0 0 (wraps_in t)) 1 t)
    (run_text t (reading_line 0 0 (wraps_in t)) 1) e

drop_next : (t : List ℕ) (k : ℕ) → k < length t → drop k t ≡ get_or t k 0 ∷ drop (k + 1) t
drop_next t k l = rw (add-one k) (drop-cons t k 0 l)

-- what stands behind byte k
pub behind : (t : List ℕ) (k : ℕ) → take (length t - k) (drop k t) ≡ drop k t
behind t k = take_all (length t - k) (drop k t) (simp length-drop (omega arith))

-- ---- the loop that judges

-- k bytes are judged; the number of the line being read is at most that of its bytes
pub record Judging (all : ℕ) (t : List ℕ) (k : ℕ) (x : Scan LineReader) : Type 0 where
  pub within : k ≤ length t
  pub rest : line_scan_answer all (scanned_lines x (drop k t)) ≡ judged_lines all t
  pub few : x.count ≤ k
  pub wrong : is_none x.reader ≡ true → x.count + 1 ≤ k

pub judging_start : (all : ℕ) (t : List ℕ) (w : Bool) (x : Scan LineReader) → w ≡ wraps_in (drop 0 t) → x ≡ start_scan all w → Judging all t 0 x
unfolding judged_lines start_scan reading_line
judging_start all t w x e h = record {
  within = omega arith;
  rest = rw (h, e);
  few = rw h (omega arith);
  wrong = rw h (λ z. absurd (false≢true z));
}

-- a line that ends may still be taken
wrong_later : (r : Option LineReader) (b : ℕ) (w : Bool) (c k : ℕ) → c ≤ k → (is_none r ≡ true → c + 1 ≤ k) →
    is_none (advanced_line r b w) ≡ true → cond (line_ends r b) (c + 1) c + 1 ≤ k + 1
unfolding advanced_line line_ends reading_line fed_line
wrong_later None b w c k h l z = omega (arith, l refl)
wrong_later (Some r) b w c k h l z = go (eqb b 10) refl
  where
    go : (i : Bool) → eqb b 10 ≡ i → cond i (c + 1) c + 1 ≤ k + 1
    go true f = absurd (false≢true (rw f at z))
    go false f = omega arith

few_later : (e : Bool) (c k : ℕ) → c ≤ k → cond e (c + 1) c ≤ k + 1
few_later true c k h = omega arith
few_later false c k h = omega arith

module _ (all : ℕ) (t : List ℕ) (k : ℕ) (x : Scan LineReader) (h : Judging all t k x) where
  pub judging_next : (w : Bool) (y : Scan LineReader) (u : List ℕ) → k < length t → w ≡ wraps_after (get_or t k 0) u → u ≡ drop (k + 1) t → y ≡ scanned_line x (get_or t k 0) w → Judging all t (k + 1) y
  unfolding scanned_lines scanned_line passed
  judging_next w y u l e d f = record {
    within = omega arith;
    rest = rw (f, e, d, add-one k) (rw (drop-cons t k 0 l) at h.rest);
    few = rw f (few_later (line_ends x.reader (get_or t k 0)) x.count k h.few);
    wrong = rw f (wrong_later x.reader (get_or t k 0) w x.count k h.few h.wrong);
  }

  pub judging_done : (a : Result ℕ ConversionError) (e : Bool) (n : ℕ) → length t ≤ k → e ≡ is_none x.reader → n ≡ length (line_end_text x.reader) →
      a ≡ answered all x e n → a ≡ judged_lines all t
  unfolding scanned_lines line_scan_answer
  judging_done a e n l p q i = i ∙ rw (p, q) (rw (drop_of_length-le t l) at h.rest)

  pub judging_count : (e : Bool) → length t < 2 ^ 64 → e ≡ is_none x.reader → e ≡ true → x.count + 1 < 2 ^ 64
  judging_count e l p q = omega (arith, h.within, h.wrong (sym p ∙ q))

pub ruleset judging = (judging_start, judging_next, judging_done, judging_count, behind)

-- ---- the loop that writes

-- the loop began with the reader r₀ at place a₀ of s₀, and the bytes for the first k are written: what is written for the others makes the whole
pub record Putting (t : List ℕ) (r₀ : Option LineReader) (a₀ : ℕ) (s₀ : List ℕ) (k : ℕ) (r : Option LineReader) (a : ℕ) (s : List ℕ) : Type 0 where
  pub within : k ≤ length t
  pub size : length s ≡ length s₀
  pub rest : (q : ℕ) (z : List ℕ) → Wrote (emitted_lines r (drop k t)) s a q z → Wrote (emitted_lines r₀ t) s₀ a₀ q z

wrote_size : (u s z : List ℕ) (a q : ℕ) → Wrote u s a q z → length z ≡ length s
wrote_size u s z a q w = ap length w.bytes ∙ length_pasted u s a

pub putting_start : (t : List ℕ) (r : Option LineReader) (a : ℕ) (s : List ℕ) → Putting t r a s 0 r a s
putting_start t r a s = record { within = omega arith; size = refl; rest = λ q z w. w }

module _ (t : List ℕ) (r₀ : Option LineReader) (a₀ : ℕ) (s₀ : List ℕ) (k : ℕ) (r : Option LineReader) (a : ℕ) (s : List ℕ) (h : Putting t r₀ a₀ s₀ k r a s) where
  pub putting_next : (s' u : List ℕ) (q : ℕ) (w v : Bool) (r' : Option LineReader) → k < length t → v ≡ line_wraps r → w ≡ wraps_after (get_or t k 0) u → u ≡ drop (k + 1) t →
      Wrote (line_shown v (get_or t k 0) w) s a q s' → r' ≡ advanced_line r (get_or t k 0) w → Putting t r₀ a₀ s₀ (k + 1) r' q s'
  unfolding emitted_lines
  putting_next s' u q w v r' l i e d j f = record {
    within = omega arith;
    size = wrote_size (line_shown v (get_or t k 0) w) s s' a q j ∙ h.size;
    rest = λ p z m.
        h.rest p z
        (rw (drop_next t k l, ← rw d at e, ← i)
        (wrote_both (line_shown v (get_or t k 0) w) (emitted_lines (advanced_line r (get_or t k 0) w) (drop (k + 1) t)) s s' z a q p j (rw f at m)));
  }

  -- the quote of the first field was written before the loop, and the end of the text is after it
  pub putting_done : (s₁ z : List ℕ) (q : ℕ) (w : Bool) → w ≡ wraps_in (drop 0 t) → r₀ ≡ reading_line 0 0 w → Wrote (quote_if w) s₁ 0 a₀ s₀ →
      length t ≤ k → Wrote (line_end_text r) s a q z → Wrote (written_lines t) s₁ 0 q z
  unfolding emitted_lines written_lines
  putting_done s₁ z q w e f u l v =
      rw (← e, ← f) (wrote_both (quote_if w) (emitted_lines r₀ t) s₁ s₀ z 0 a₀ q u (h.rest q z (rw (drop_of_length-le t l) v)))

  pub putting_length : (s₁ z : List ℕ) (q : ℕ) (w : Bool) → Wrote (quote_if w) s₁ 0 a₀ s₀ → Wrote (line_end_text r) s a q z → length z ≡ length s₁
  putting_length s₁ z q w u v = wrote_size (line_end_text r) s z a q v ∙ (h.size ∙ wrote_size (quote_if w) s₁ s₀ 0 a₀ u)

pub ruleset putting = (putting_start, putting_next, putting_done, putting_length, behind)
