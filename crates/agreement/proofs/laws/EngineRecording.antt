-- The engine keeps the laws of recording: a refused one leaves the words; after an accepted one they belong to the session as before, and show
-- nothing new but the coin of its vote and round, which is its bit. A printed session accepts none.
use Rattle.std.specs.Prelude.{ℕ, ◌≤◌, ◌<◌, Bool, true, false, List, ◌⊎◌, ◌≢◌, ◌≡◌, refl, length, Ok}
use Rattle.std.proofs.lemmas.Bool.{false≢true, eqb-false}
use Rattle.std.proofs.Math.Logic.{inl}
use Rattle.std.proofs.Common.{inr, subst, ◌∙◌, arith, eq-eqb}
use Rattle.std.proofs.Math.Path.{sym, ap}
use Rattle.std.proofs.Math.Decide.{ℕ_discrete}
use Rattle.quorum.specs.Marks.{mark}
use Rattle.records.specs.Layout.{n_at, ta_at, ts_at, own_at, session_at, input_at, weights_at, boxed_at, version_at, coin_at, aux_sent_at, echo_sent_at, decided_zero_at, decided_one_at}
use Rattle.records.specs.Words.{word, marked}
use Rattle.records.specs.laws.Words.{length_set_mark}
use Rattle.records.specs.laws.Bounds.{fit_set_mark}
use Rattle.records.specs.Records.{printed, coin, coin_known, echo_sent, aux_sent, decided_zero, decided_one}
use Rattle.votes.specs.Votes.{coin_value}
use Rattle.held.specs.laws.Keeping.{Holding, early, middle, late, held_back, count_back, set_back}
use Rattle.recording.specs.Recording.{bit_mark, record_answer, with_bit, recorded_words}
use Rattle.recording.specs.laws.Recording.{Recordable, accepted, accepted_marks, refused_same, other_word, coin_here, coin_elsewhere}
use Rattle.journal.specs.Journal.{LINE_BYTES, record_line_answer, record_words}
use Rattle.journal.specs.laws.Journal.{line_taken, line_words_lem, line_stays}
use Rattle.agreement.specs.Evidence.{World}
use Rattle.agreement.specs.History.{Decision, zero, one}
use Rattle.agreement.proofs.laws.Runs.{Kept}
use Rattle.calls.specs.Engine.{OpeningGiven, BitGiven, agreed, engine}
use Rattle.agreement.proofs.laws.Machine.{at, BitRecorded}
use Rattle.agreement.proofs.laws.Coins.{bit_value_lem}
use Rattle.agreement.proofs.laws.EngineSeen.{CoinShown, engine_seen}
use Rattle.agreement.proofs.laws.EngineReading.{Belongs, Sets, Belonging, engine_reading}
use Rattle.settings.specs.laws.Answers.{true_taken}
use Rattle.settings.specs.laws.Answers.{taken_true}

-- ---- words that differ in coin words only

module _ (s t : List ℕ) (size : length s ≡ 2048) (sizes : length t ≡ length s) (alike : (j : ℕ) → 24 ≤ j → word t j ≡ word s j) where
  mark_alike : (j p : ℕ) → 24 ≤ j → marked t j p ≡ marked s j p
  unfolding marked
  mark_alike j p l = ap (λ (w : ℕ). mark w p) (alike j l)

  held_words : (j : ℕ) → Holding j → word t j ≡ word s j
  held_words j (early a b) = alike j (omega arith)
  held_words j (middle a b) = alike j (omega arith)
  held_words j (late a) = alike j (omega arith)

  decided_alike : (i b : ℕ) → Decision (engine_seen.standing t) i b → Decision (engine_seen.standing s) i b
  unfolding decided_zero decided_one
  decided_alike i b (zero e) = zero (sym (mark_alike decided_zero_at i (omega arith)) ∙ e)
  decided_alike i b (one e) = one (sym (mark_alike decided_one_at i (omega arith)) ∙ e)

  kept_alike : (W : World) → W.settings.n ≤ 16 → Kept W engine_seen s t
  unfolding echo_sent aux_sent
  kept_alike W few =
      record {
        held = λ m x lo hi h. inl (held_back s t size sizes held_words m x lo (omega arith) h);
        echoed = λ i e. mark_alike echo_sent_at i (omega arith) ∙ e;
        auxed = λ i r e. (e.0, mark_alike (aux_sent_at i) r (omega arith) ∙ e.1);
        decs = λ i b lo hi d. inl (decided_alike i b d);
      }

-- ---- an accepted recording, without its line

module _ (w : List ℕ) (b : BitGiven) where
  pub without_line : engine.records w b ≡ true → (record_answer w b.vote b.round b.bit ≡ Ok tt) × (LINE_BYTES ≤ b.line)
  unfolding record_line_answer
  without_line e = line_taken _ b.line (true_taken _ e)

  pub recorded_words_lem : LINE_BYTES ≤ b.line → engine.recorded w b ≡ recorded_words w b.vote b.round b.bit
  unfolding record_words
  recorded_words_lem l = line_words_lem b.line w _ l

  recordable : engine.records w b ≡ true → Recordable w b.vote b.round b.bit
  recordable e = accepted w b.vote b.round b.bit (without_line e).0

  marks_bit : engine.records w b ≡ true → engine.recorded w b ≡ with_bit w b.vote b.round b.bit
  marks_bit e =
      let k = without_line e in
      recorded_words_lem k.1 ∙ accepted_marks w b.vote b.round b.bit (taken_true _ k.0)

-- ---- a bit recorded in words of a session

module _ (o : OpeningGiven) (w : List ℕ) (B : Belongs o w) (b : BitGiven) (k : Recordable w b.vote b.round b.bit) where
  abbrev t : List ℕ
  t = with_bit w b.vote b.round b.bit

  vote_small : b.vote ≤ 16
  vote_small = omega (arith, k.vote_high, B.is_n, B.ruled.few)

  -- every word but the vote's coin word stays
  stays : (j : ℕ) → j ≢ coin_at b.vote → word t j ≡ word w j
  stays j ne = other_word w b.vote b.round b.bit k j ne

  low_stays : (j : ℕ) → j < 8 → word t j ≡ word w j
  low_stays j l = stays j (λ z. omega (arith, k.vote_low))

  high_stays : (j : ℕ) → 24 ≤ j → word t j ≡ word w j
  high_stays j l = stays j (λ z. omega (arith, vote_small))

  size_same : length t ≡ length w
  unfolding with_bit
  size_same = length_set_mark w (coin_at b.vote) (bit_mark b.round b.bit)

  with_bit_belongs : Belongs o t
  unfolding with_bit
  with_bit_belongs =
      record {
        known = B.known;
        ruled = B.ruled;
        own_low = B.own_low;
        own_high = B.own_high;
        kind = B.kind;
        size = size_same ∙ B.size;
        is_n = low_stays n_at (omega arith) ∙ B.is_n;
        is_ta = low_stays ta_at (omega arith) ∙ B.is_ta;
        is_ts = low_stays ts_at (omega arith) ∙ B.is_ts;
        is_weights = high_stays weights_at (omega arith) ∙ B.is_weights;
        is_boxed = high_stays boxed_at (omega arith) ∙ B.is_boxed;
        is_version = high_stays version_at (omega arith) ∙ B.is_version;
        is_own = low_stays own_at (omega arith) ∙ B.is_own;
        is_session = low_stays session_at (omega arith) ∙ B.is_session;
        is_input = low_stays input_at (omega arith) ∙ B.is_input;
        fits = fit_set_mark w (coin_at b.vote) (bit_mark b.round b.bit) B.fits;
      }

  with_bit_sets : Sets o w → Sets o t
  with_bit_sets S =
      record {
        rising = λ p lo hi. rw (set_back w t B.size size_same (held_words w t B.size size_same high_stays) p lo (omega (arith, B.ruled.few))) (S.rising p lo hi);
        few = λ p lo hi. rw (count_back w t B.size size_same (held_words w t B.size size_same high_stays) p lo (omega (arith, B.ruled.few))) (S.few p lo hi);
      }

  coins_new : (i r : ℕ) (c : Bool) → CoinShown t i r c → CoinShown w i r c ⊎ ((i ≡ b.vote) × (r ≡ b.round) × (coin_value c ≡ b.bit))
  unfolding coin_known printed
  coins_new i r c x = at (ℕ_discrete i b.vote) (ℕ_discrete r b.round)
    where
      elsewhere : (i ≢ b.vote) ⊎ (r ≢ b.round) → CoinShown w i r c
      elsewhere ne =
          let e = coin_elsewhere w b.vote b.round b.bit k i r x.first x.last ne in
          record {
            low = x.low;
            high = omega (arith, x.high, low_stays n_at (omega arith));
            first = x.first;
            last = x.last;
            known = rw (high_stays boxed_at (omega arith), e.1) at x.known;
            same = sym e.0 ∙ x.same;
          }

      here : i ≡ b.vote → r ≡ b.round → coin_value c ≡ b.bit
      here p q =
          let e : coin t b.vote b.round ≡ c = rw (p, q) at x.same in
          ap coin_value (sym e ∙ coin_here w b.vote b.round b.bit k) ∙ bit_value_lem b.bit k.bit

      at : Dec (i ≡ b.vote) → Dec (r ≡ b.round) → CoinShown w i r c ⊎ ((i ≡ b.vote) × (r ≡ b.round) × (coin_value c ≡ b.bit))
      at (yes p) (yes q) = inr (p, q, here p q)
      at (yes p) (no q) = inl (elsewhere (inr q))
      at (no p) d = inl (elsewhere (inl p))

-- ---- the laws

pub record_refused : (w : List ℕ) (b : BitGiven) → engine.records w b ≡ false → engine.recorded w b ≡ w
unfolding record_line_answer record_words
record_refused w b e = line_stays _ b.line w _ e (λ f. refused_same w b.vote b.round b.bit f)

pub record_binary : (w : List ℕ) (b : BitGiven) → engine.records w b ≡ true → b.bit ≤ 1
record_binary w b e = (recordable w b e).bit

pub record_printed : (o : OpeningGiven) (w : List ℕ) → Belongs o w → engine.boxed (agreed o.given) ≡ false → (b : BitGiven) → engine.records w b ≡ false
unfolding printed
record_printed o w B e b = at (engine.records w b) refl
  where
    at : (t : Bool) → engine.records w b ≡ t → t ≡ false
    at false f = refl
    at true f =
        let some : word w boxed_at ≢ 0 = eqb-false (word w boxed_at) 0 (recordable w b f).boxed in
        let one : o.given.boxed ≡ 1 = kind o.given.boxed B.kind (λ z. some (B.is_boxed ∙ z)) in
        absurd (false≢true (sym e ∙ eq-eqb o.given.boxed 1 one))
      where
        kind : (x : ℕ) → x ≤ 1 → x ≢ 0 → x ≡ 1
        kind x l ne = omega (arith, l, ne)

pub record_accepted : (H : ℕ → Bool) (κ : ℕ → ℕ → Bool) (o : OpeningGiven) (w : List ℕ) → Belonging o w → (b : BitGiven) → engine.records w b ≡ true → BitRecorded engine engine_reading H κ o w b
record_accepted H κ o w x b e =
    let k = recordable w b e in
    let m = sym (marks_bit w b e) in
    let B = x.words in
    record {
      belongs = subst (Belonging o) m (record { words = with_bit_belongs o w B b k; sets = with_bit_sets o w B b k x.sets });
      kept = subst (Kept (at engine engine_reading H κ o) engine_seen w) m (kept_alike w (t o w B b k) B.size (size_same o w B b k) (high_stays o w B b k) (at engine engine_reading H κ o) B.ruled.few);
      coins = subst (λ (y : List ℕ). (i r : ℕ) (c : Bool) → CoinShown y i r c → CoinShown w i r c ⊎ ((i ≡ b.vote) × (r ≡ b.round) × (coin_value c ≡ b.bit))) m (coins_new o w B b k);
    }
