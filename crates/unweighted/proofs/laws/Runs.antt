-- A call with weights of 1 and the same unweighted call: from words that are the same but for that of the weights to such words.
use Rattle.std.specs.Prelude.{ℕ, ◌-◌, ◌^◌, ◌≤◌, Bool, true, false, cond, List, ◌≢◌, ◌≡◌, refl, ltb, length, Result, Ok, Err}
use Rattle.std.proofs.Common.{sym, ap, ◌∙◌, arith, set-set}
use Rattle.std.proofs.lemmas.Bool.{false≢true}
use Rattle.std.proofs.lemmas.List.{set-get_or}
use Rattle.settings.specs.declared.refusal.Refusal.{Refusal}
use Rattle.settings.specs.laws.Answers.{taken_true, true_taken, refused_false}
use Rattle.records.specs.Layout.{state_words, n_at, ta_at, ts_at, own_at, session_at, input_at, weights_at, boxed_at, version_at, coin_at}
use Rattle.records.specs.Words.{word, put}
use Rattle.records.specs.laws.Words.{length_put, word_put_other}
use Rattle.records.specs.laws.Fill.{word_blank, store_other}
use Rattle.opening.specs.Given.{item}
use Rattle.opening.specs.Arguments.{Arguments}
use Rattle.opening.specs.Opening.{with_coins}
use Rattle.opening.specs.Opening as weighted_opening
use Rattle.delivery.specs.Delivery as weighted_delivery
use Rattle.recording.specs.Recording as weighted_recording
use Rattle.turn.specs.Turn as weighted_turn
use Rattle.journal.specs.Journal.{LINE_BYTES, line_words, open_line_answer, opened_words, delivered_words, record_words, turn_room}
use Rattle.journal.specs.laws.Journal.{line_taken, line_words_lem}
use Rattle.calls.specs.Machine.{Call, opening, delivery, turn, report, restore, recording, left}
use Rattle.calls.specs.Engine.{OpeningGiven, engine}
use Rattle.unweighted.specs.Settings.{named_ta}
use Rattle.unweighted.specs.Opening.{open_answer, with_settings, open_words, opened}
use Rattle.unweighted.specs.Delivery.{deliver_answer, delivered}
use Rattle.unweighted.specs.Recording.{record_answer, recorded_words}
use Rattle.unweighted.specs.Turn.{turn_outcome, turn_words, turn_bytes}
use Rattle.unweighted.specs.Report.{report_answer, report_named, report_in_force}
use Rattle.unweighted.specs.Statement.{AllOne, GivenOnes, GivesOnes, unweighted_left, SideBySide}
use Rattle.unweighted.proofs.laws.Opening.{answer_same, opens_same, accepted_few}
use Rattle.unweighted.proofs.laws.Delivery.{deliver_answer_same, delivered_same}
use Rattle.unweighted.proofs.laws.Recording.{record_answer_same, recorded_same}
use Rattle.unweighted.proofs.laws.Turn.{turn_outcome_same, turn_words_same, turn_bytes_same}
use Rattle.unweighted.proofs.laws.Report.{report_answer_same, report_named_same, report_in_force_same}
use Rattle.unweighted.proofs.laws.apart.Delivery.{deliver_answer_apart, delivered_apart}
use Rattle.unweighted.proofs.laws.apart.Recording.{record_answer_apart, recorded_apart}
use Rattle.unweighted.proofs.laws.apart.Turn.{turn_outcome_apart, turn_words_apart, turn_bytes_apart}
use Rattle.unweighted.proofs.laws.apart.Report.{report_answer_apart, report_named_apart, report_in_force_apart}

-- ---- an opening

put_put : (s : List ℕ) (k v w : ℕ) → put (put s k v) k w ≡ put s k w
unfolding put
put_put s k v w = set-set s k v w

put_word : (s : List ℕ) (k v : ℕ) → word s k ≡ v → put s k v ≡ s
unfolding put word
put_word s k v e = ap (put s k) (sym e) ∙ set-get_or s k 0

module _ (o : Arguments) where
  -- an unweighted opening leaves 0 in the word of the weights
  words_zero : o.n ≤ 16 → word (open_words o) weights_at ≡ 0
  unfolding open_words with_settings with_coins
  words_zero few =
      store_other (item o.coins) (coin_at 0) _ o.n weights_at (λ j lo hi z. omega arith)
      ∙ word_put_other _ version_at o.version weights_at (λ z. omega arith)
      ∙ word_put_other _ boxed_at o.boxed weights_at (λ z. omega arith)
      ∙ word_put_other _ input_at o.input weights_at (λ z. omega arith)
      ∙ word_put_other _ session_at o.session weights_at (λ z. omega arith)
      ∙ word_put_other _ own_at o.own weights_at (λ z. omega arith)
      ∙ word_put_other _ ts_at o.ts weights_at (λ z. omega arith)
      ∙ word_put_other _ ta_at (named_ta o.n o.ta o.ts) weights_at (λ z. omega arith)
      ∙ word_put_other _ n_at o.n weights_at (λ z. omega arith)
      ∙ word_blank state_words weights_at (omega arith)

  -- accepted, it sets all words
  opened_all_lem : (s : List ℕ) → open_answer (length s) o ≡ Ok tt → opened s o ≡ open_words o
  unfolding opened
  opened_all_lem s e = rw (taken_true (open_answer (length s) o) e)

  same_length : (s t : List ℕ) → length t ≡ length s → open_answer (length t) o ≡ open_answer (length s) o
  same_length s t l = ap (λ (k : ℕ). open_answer k o) l

  module _ (ones : GivenOnes o) where
    answer_alike : (s : List ℕ) → weighted_opening.open_answer (length s) o ≡ open_answer (length s) o
    answer_alike s = answer_same (length s) o ones

    module _ (s : List ℕ) where
      -- accepted, from words of the same number
      accepted_beside : (t : List ℕ) → length t ≡ length s → open_answer (length s) o ≡ Ok tt → opened t o ≡ put (weighted_opening.opened s o) weights_at 0
      accepted_beside t l e =
          let all = opened_all_lem s e in
          let few = (accepted_few o ones s e).1 in
          opened_all_lem t (same_length s t l ∙ e)
          ∙ sym (put_word _ weights_at 0 (words_zero few))
          ∙ sym (put_put _ weights_at (2 ^ o.n - 1) 0)
          ∙ ap (λ (u : List ℕ). put (put u weights_at (2 ^ o.n - 1)) weights_at 0) (sym all)
          ∙ ap (λ (u : List ℕ). put u weights_at 0) (sym ((opens_same o ones s).accepted e))

      -- accepted or refused, from words that are the same but for that of the weights
      opened_beside : (t : List ℕ) → t ≡ put s weights_at 0 → opened t o ≡ put (weighted_opening.opened s o) weights_at 0
      opened_beside t same = by (open_answer (length s) o) refl
        where
          l : length t ≡ length s
          l = ap (λ (u : List ℕ). length u) same ∙ length_put s weights_at 0

          by : (a : Result (Unit {0}) Refusal) → open_answer (length s) o ≡ a → opened t o ≡ put (weighted_opening.opened s o) weights_at 0
          by (Ok tt) e = accepted_beside t l e
          by (Err k) e =
              let ne : open_answer (length s) o ≢ Ok tt = λ f. false≢true (sym (refused_false _ k e) ∙ taken_true _ f) in
              (opens_same o ones t).unweighted_refused (λ f. ne (sym (same_length s t l) ∙ f))
              ∙ same
              ∙ ap (λ (u : List ℕ). put u weights_at 0) (sym ((opens_same o ones s).refused ne))

-- ---- a call with its line

lined_beside : (room : ℕ) (w u w' u' : List ℕ) → u ≡ put w weights_at 0 → u' ≡ put w' weights_at 0 → line_words room u u' ≡ put (line_words room w w') weights_at 0
unfolding line_words
lined_beside room w u w' u' before after = of (ltb room LINE_BYTES)
  where
    of : (b : Bool) → cond b u u' ≡ put (cond b w w') weights_at 0
    of true = before
    of false = after

-- from words w in which all weights are 1, and the unweighted words u
module _ (w u : List ℕ) (same : u ≡ put w weights_at 0) (ones : AllOne w) where
  delivered_beside : (link : ℕ) (b : List ℕ) → delivered u link b ≡ put (weighted_delivery.delivered w link b) weights_at 0
  delivered_beside link b =
      ap (λ (v : List ℕ). delivered v link b) same
      ∙ delivered_apart w 0 link b
      ∙ ap (λ (v : List ℕ). put v weights_at 0) (sym (delivered_same w ones link b))

  turned_beside : (room : ℕ) → turn_words u room ≡ put (weighted_turn.turn_words w room) weights_at 0
  turned_beside room =
      ap (λ (v : List ℕ). turn_words v room) same
      ∙ turn_words_apart w 0 room
      ∙ ap (λ (v : List ℕ). put v weights_at 0) (sym (turn_words_same w ones room))

  recorded_beside : (i r b : ℕ) → recorded_words u i r b ≡ put (weighted_recording.recorded_words w i r b) weights_at 0
  recorded_beside i r b =
      ap (λ (v : List ℕ). recorded_words v i r b) same
      ∙ recorded_apart w 0 i r b
      ∙ ap (λ (v : List ℕ). put v weights_at 0) (sym (recorded_same w ones i r b))

  pub left_beside : (c : Call engine) → GivesOnes c → unweighted_left c u ≡ put (left engine c w) weights_at 0
  unfolding opened_words delivered_words record_words
  left_beside (opening p o) h = lined_beside o.line w u _ _ same (opened_beside o.given h w u same)
  left_beside (delivery p m b) h = lined_beside b.line w u _ _ same (delivered_beside m b.list)
  left_beside (turn p l) h = turned_beside (turn_room (length l.message) l.line)
  left_beside (report p r) h = same
  left_beside (restore p v r) h = absurd h
  left_beside (recording p x) h = lined_beside x.line w u _ _ same (recorded_beside x.vote x.round x.bit)

-- an accepted opening, from the same words
pub first_beside : (s : List ℕ) (o : OpeningGiven) → engine.opens s o ≡ true → GivenOnes o.given → line_words o.line s (opened s o.given) ≡ put (engine.opened s o) weights_at 0
unfolding opened_words open_line_answer
first_beside s o e ones =
    let t = line_taken (weighted_opening.open_answer (length s) o.given) o.line (true_taken _ e) in
    line_words_lem o.line s (opened s o.given) t.1
    ∙ accepted_beside o.given ones s s refl (sym (answer_alike o.given ones s) ∙ t.0)
    ∙ ap (λ (v : List ℕ). put v weights_at 0) (sym (line_words_lem o.line s (weighted_opening.opened s o.given) t.1))

-- words that are the same but for that of the weights
pub beside : (w u : List ℕ) → u ≡ put w weights_at 0 → AllOne w → SideBySide w u
beside w u same all =
    record {
      words = same;
      weights = all;
      opening_answer = λ o ones. answer_alike o ones w ∙ sym (same_length o w u (ap (λ (v : List ℕ). length v) same ∙ length_put w weights_at 0));
      delivery_answer = λ link b. deliver_answer_same w all link b ∙ sym (ap (λ (v : List ℕ). deliver_answer v link b) same ∙ deliver_answer_apart w 0 link b);
      recording_answer = λ i r b. record_answer_same w all i r b ∙ sym (ap (λ (v : List ℕ). record_answer v i r b) same ∙ record_answer_apart w 0 i r b);
      turn_outcome_lem = λ room. turn_outcome_same w all room ∙ sym (ap (λ (v : List ℕ). turn_outcome v room) same ∙ turn_outcome_apart w 0 room);
      turn_bytes_lem = λ out. turn_bytes_same w all out ∙ sym (ap (λ (v : List ℕ). turn_bytes v out) same ∙ turn_bytes_apart w 0 out);
      report_answer_lem = λ a b. report_answer_same w all a b ∙ sym (ap (λ (v : List ℕ). report_answer v a b) same ∙ report_answer_apart w 0 a b);
      report_named_lem = λ named b. report_named_same w all named b ∙ sym (ap (λ (v : List ℕ). report_named v named b) same ∙ report_named_apart w 0 named b);
      report_in_force_lem = λ a set_in_force. report_in_force_same w all a set_in_force ∙ sym (ap (λ (v : List ℕ). report_in_force v a set_in_force) same ∙ report_in_force_apart w 0 a set_in_force);
    }
