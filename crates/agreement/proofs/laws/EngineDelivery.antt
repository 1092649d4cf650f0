-- The engine keeps the laws of delivery: a refused one leaves the words; after an accepted one they belong to the session as before, and
-- hold at most one message more, which is what the bytes say; what is newly decided has its FINISHes. Bytes say one message.
use Rattle.std.specs.Prelude.{ℕ, ◌≤◌, ◌<◌, ◌%◌, ◌^◌, Bool, ◌⊎◌, ◌≡◌, length, drop, Ok, Result}
use Rattle.std.proofs.Math.Bool.{true, false}
use mathlib.Core.List.{List}
use Rattle.std.proofs.Math.Logic.{inl, inr}
use Rattle.std.proofs.Math.Path.{refl, sym, ap, subst}
use Rattle.std.proofs.Common.{true≢false, ◌∙◌}
use native.Mathlib.Omega.{arith}
use Rattle.std.proofs.Math.Nat.{mod-eq_of_lt}
use Rattle.quorum.specs.Marks.{mark}
use Rattle.settings.specs.declared.Settings.{Settings}
use Rattle.records.specs.Layout.{n_at, ta_at, ts_at, own_at, session_at, input_at, weights_at, boxed_at, version_at, coin_at, aux_sent_at, echo_sent_at}
use Rattle.records.specs.Records.{commit_set, echo_sent, aux_sent, decided_zero, decided_one}
use Rattle.records.specs.Words.{word, marked}
use Rattle.commits.specs.laws.Sets.{set_length}
use Rattle.session.specs.Session.{settings_of, session_with, session_of}
use Rattle.wire.specs.Bytes.{value_at, values, rises}
use Rattle.wire.specs.Message.{count_of, values_of}
use Rattle.wire.specs.Reading.{read_message}
use Rattle.wire.specs.declared.Message as wire_message
use Rattle.wire.specs.declared.Message.TheVariants as wire
use Rattle.wire_laws.proofs.laws.Forms.{Form}
use Rattle.wire_laws.specs.RoundTrip.{Encoded}
use Rattle.wire_laws.specs.Proper.{Fitting, Layout}
use Rattle.wire_laws.proofs.Parts.{length_values, value_below, all_drop}
use Rattle.wire_laws.proofs.Converse.{taken_form, only_encodings}
use Rattle.delivery.specs.laws.Accepting.{Accepting, accepting}
use Rattle.delivery.specs.laws.Answers.{Taking, answer_accepted, answer_refused}
use Rattle.delivery.specs.Delivery.{place_held, recorded, deliver_answer, delivered}
use Rattle.delivery.specs.laws.Frame.{InLayout, length_recorded}
use Rattle.delivery.specs.laws.Kept.{in_layout_lem, SetAfter, before, now, set_after, Untouched, word_untouched, word_free, ValueFits, fit_recorded}
use Rattle.journal.specs.Journal.{LINE_BYTES, deliver_line_answer, delivered_words}
use Rattle.journal.specs.laws.Journal.{line_taken, line_words_lem, line_stays}
use Rattle.agreement.specs.Evidence.{World}
use Rattle.agreement.specs.History.{Decision, zero, one}
use Rattle.held.specs.laws.Held.{Message, meaning}
use Rattle.held.specs.laws.Recording.{held_recorded}
use Rattle.held.specs.laws.Deciding.{Finishes, decided_came}
use Rattle.agreement.proofs.laws.Thresholds.{by_accept}
use Rattle.agreement.proofs.laws.Runs.{Finished, Delivered, CoinsStay}
use Rattle.calls.specs.Engine.{OpeningGiven, Agreed, Bytes, engine}
use Rattle.agreement.proofs.laws.Machine.{at, Delivery}
use Rattle.agreement.proofs.laws.EngineSeen.{engine_seen, coins_stay}
use Rattle.agreement.proofs.laws.EngineReading.{Belongs, settings_same, Sets, Belonging, Says, engine_reading}
use Rattle.settings.specs.laws.Answers.{true_taken}
use Rattle.settings.specs.declared.refusal.Refusal.{Refusal}
use Rattle.settings.specs.laws.Answers.{taken_true}

-- the values of a message that is taken have 64 bits
value_fits : (m : wire_message.Message) (xs v : List ℕ) → Fitting (values_of m xs) → ((j : ℕ) → value_at v j < 2 ^ 64) → ValueFits m v
value_fits (wire.Send i x) xs v f all = f.0
value_fits (wire.Echo i x) xs v f all = f.0
value_fits (wire.Ready i x) xs v f all = f.0
value_fits (wire.Est i r b) xs v f all = tt
value_fits (wire.Aux i r b) xs v f all = tt
value_fits (wire.Commit k) xs v f all = all
value_fits (wire.Finish i b) xs v f all = tt

-- ---- a message recorded in words of a session

module _ (o : OpeningGiven) (w : List ℕ) (B : Belongs o w) (v : List ℕ) (p : ℕ) (m : wire_message.Message) (h : InLayout p m) where
  same : (a : ℕ) → Untouched a → word (recorded w p m v) a ≡ word w a
  same a u = word_untouched w v p m a h u

  recorded_belongs : ValueFits m v → Belongs o (recorded w p m v)
  recorded_belongs f =
      record {
        known = B.known;
        ruled = B.ruled;
        own_low = B.own_low;
        own_high = B.own_high;
        kind = B.kind;
        size = length_recorded w v p m ∙ B.size;
        is_n = same n_at (inl (omega arith)) ∙ B.is_n;
        is_ta = same ta_at (inl (omega arith)) ∙ B.is_ta;
        is_ts = same ts_at (inl (omega arith)) ∙ B.is_ts;
        is_weights = word_free w v p m weights_at h (omega arith) (omega arith) ∙ B.is_weights;
        is_boxed = word_free w v p m boxed_at h (omega arith) (omega arith) ∙ B.is_boxed;
        is_version = word_free w v p m version_at h (omega arith) (omega arith) ∙ B.is_version;
        is_own = same own_at (inl (omega arith)) ∙ B.is_own;
        is_session = same session_at (inl (omega arith)) ∙ B.is_session;
        is_input = same input_at (inl (omega arith)) ∙ B.is_input;
        fits = fit_recorded w v p m h f B.fits;
      }

  recorded_coins : CoinsStay engine_seen w (recorded w p m v)
  recorded_coins =
      coins_stay w (recorded w p m v) (omega (arith, B.is_n, B.ruled.few)) (same n_at (inl (omega arith))) (word_free w v p m boxed_at h (omega arith) (omega arith))
      (λ i lo hi. same (coin_at i) (inl (omega arith)))

  -- a set as messages have it
  abbrev Right : List ℕ → Type 0
  Right X = (rises X ≡ true) × (length X ≤ o.given.n)

  recorded_sets : Sets o w → rises (values (count_of m) v) ≡ true → Layout o.given.n p m → Sets o (recorded w p m v)
  recorded_sets S rising layout =
      record {
        rising = λ k lo hi. (right k lo hi).0;
        few = λ k lo hi.
            omega (arith, (right k lo hi).1, set_length (recorded w p m v) k (length_recorded w v p m ∙ B.size) (small k hi));
      }
    where
      small : (k : ℕ) → k ≤ o.given.n → k ≤ 16
      small k hi = omega (arith, B.ruled.few)

      given : (c : ℕ) → m ≡ wire.Commit c → Right (values c v)
      given c q =
          let l : Layout o.given.n p (wire.Commit c) = subst (Layout o.given.n p) q layout in
          (subst (λ (y : wire_message.Message). rises (values (count_of y) v) ≡ true) q rising, omega (arith, l.1, length_values c v))

      of : (k : ℕ) → 1 ≤ k → k ≤ o.given.n → SetAfter w v p m k → Right (commit_set (recorded w p m v) k)
      of k lo hi (before e f) =
          subst Right (sym f)
          (S.rising k lo hi, omega (arith, S.few k lo hi, set_length w k B.size (small k hi)))
      of k lo hi (now c e q f) = subst Right (sym f) (given c q)

      right : (k : ℕ) → 1 ≤ k → k ≤ o.given.n → Right (commit_set (recorded w p m v) k)
      right k lo hi = of k lo hi (set_after w v p m k B.size h lo (small k hi))

  -- marks of what was sent stay
  same_mark : (a j : ℕ) → Untouched a → marked (recorded w p m v) a j ≡ marked w a j
  unfolding marked
  same_mark a j u = ap (λ (x : ℕ). mark x j) (same a u)

  module _ (H : ℕ → Bool) (κ : ℕ → ℕ → Bool) where
    abbrev W : World
    W = at engine engine_reading H κ o

    -- FINISHes that reach the threshold of the words reach that of the session
    finished : (i b : ℕ) → Finishes (settings_of w) (recorded w p m v) i b → Finished W engine_seen (recorded w p m v) i b
    finished i b f =
        let g = subst (λ (y : Settings). Finishes y (recorded w p m v) i b) (settings_same o w B) f in
        by_accept W B.ruled g.senders (λ k lo hi t. g.held k t) g.enough

    -- what is newly decided has its FINISHes
    recorded_decided : (i b : ℕ) → Decision (engine_seen.standing (recorded w p m v)) i b → Decision (engine_seen.standing w) i b ⊎ Finished W engine_seen (recorded w p m v) i b
    unfolding decided_zero decided_one
    recorded_decided i b (zero e) = of (decided_came w v p B.size i true m h e)
      where
        of : (decided_zero w i ≡ true) ⊎ Finishes (settings_of w) (recorded w p m v) i 0 → Decision (engine_seen.standing w) i 0 ⊎ Finished W engine_seen (recorded w p m v) i 0
        of (inl d) = inl (zero d)
        of (inr f) = inr (finished i 0 f)
    recorded_decided i b (one e) = of (decided_came w v p B.size i false m h e)
      where
        of : (decided_one w i ≡ true) ⊎ Finishes (settings_of w) (recorded w p m v) i 1 → Decision (engine_seen.standing w) i 1 ⊎ Finished W engine_seen (recorded w p m v) i 1
        of (inl d) = inl (one d)
        of (inr f) = inr (finished i 1 f)

    recorded_delivered : place_held w p m ≡ false → Delivered W engine_seen w (recorded w p m v) p (meaning m (values (count_of m) v))
    unfolding echo_sent aux_sent
    recorded_delivered free =
        record {
          held = λ k y lo hi x. held_recorded w v p m B.size h free k (record { low = lo; high = omega (arith, B.ruled.few) }) y x;
          echoed = λ i e. same_mark echo_sent_at i (inr (omega arith, omega arith)) ∙ e;
          auxed = λ i r x. (x.0, same_mark (aux_sent_at i) r (inl (omega (arith, x.0.high))) ∙ x.1);
          decs = λ i b lo hi d. recorded_decided i b d;
        }

-- ---- an accepted delivery

module _ (o : OpeningGiven) (w : List ℕ) (B : Belongs o w) (S : Sets o w) (p : ℕ) (b : Bytes) where
  -- the message is taken in the session of the opening
  session_taken : (m : wire_message.Message) → Accepting w p b.list m → read_message o.given.version o.given.n o.given.session p b.list ≡ Ok m
  unfolding session_of session_with settings_of
  session_taken m a =
      let number : word w session_at % 2 ^ 32 ≡ o.given.session = ap (λ (x : ℕ). x % 2 ^ 32) B.is_session ∙ mod-eq_of_lt o.session_fits in
      sym
      (ap (λ (x : ℕ). read_message x (word w n_at) (word w session_at % 2 ^ 32) p b.list) B.is_version
      ∙ ap (λ (x : ℕ). read_message o.given.version x (word w session_at % 2 ^ 32) p b.list) B.is_n
      ∙ ap (λ (x : ℕ). read_message o.given.version o.given.n x p b.list) number)
      ∙ a.taken

  module _ (H : ℕ → Bool) (κ : ℕ → ℕ → Bool) (t : Taking w p b.list) where
    message_accepting : Accepting w p b.list t.message
    message_accepting = accepting w p b.list t.message t.accepted

    read : read_message o.given.version o.given.n o.given.session p b.list ≡ Ok t.message
    read = session_taken t.message message_accepting

    form : Form o.given.version o.given.n o.given.session p b.list t.message
    form = taken_form o.given.version o.given.n o.given.session p b.list t.message read

    encoded : Encoded o.given.version o.given.n o.given.session p b.list t.message
    encoded = only_encodings o.given.version o.given.n o.given.session p b.list t.message b.each read

    layout : InLayout p t.message
    layout = in_layout_lem o.given.n p t.message B.ruled.few form.link_low form.link_high form.layout

    fits : ValueFits t.message (drop 12 b.list)
    fits = value_fits t.message _ (drop 12 b.list) encoded.proper.fits (value_below (drop 12 b.list) (all_drop b.list 12 b.each))

    taking_delivery : LINE_BYTES ≤ b.line → Delivery engine engine_reading H κ o w p b
    unfolding delivered_words
    taking_delivery enough =
        let now = line_words_lem b.line w _ enough ∙ t.words in
        record {
          belongs =
              subst (Belonging o) (sym now)
              (record {
                words = recorded_belongs o w B (drop 12 b.list) p t.message layout fits;
                sets = recorded_sets o w B (drop 12 b.list) p t.message layout S form.rising form.layout;
              });
          coins = subst (λ (x : List ℕ). CoinsStay engine_seen w x) (sym now) (recorded_coins o w B (drop 12 b.list) p t.message layout);
          said = meaning t.message (values (count_of t.message) (drop 12 b.list));
          says = record { message = t.message; taken = read; means = refl };
          holds =
              subst (λ (x : List ℕ). Delivered (at engine engine_reading H κ o) engine_seen w x p (meaning t.message (values (count_of t.message) (drop 12 b.list)))) (sym now)
              (recorded_delivered o w B (drop 12 b.list) p t.message layout H κ message_accepting.free);
        }

-- ---- the laws

pub without_line : (w : List ℕ) (m : ℕ) (b : Bytes) → engine.accepts w m b ≡ true → (deliver_answer w m b.list ≡ Ok tt) × (LINE_BYTES ≤ b.line)
unfolding deliver_line_answer
without_line w m b e = line_taken _ b.line (true_taken _ e)

pub delivered_words_lem : (w : List ℕ) (m : ℕ) (b : Bytes) → LINE_BYTES ≤ b.line → engine.delivered w m b ≡ delivered w m b.list
unfolding delivered_words
delivered_words_lem w m b l = line_words_lem b.line w _ l

pub deliver_refused : (w : List ℕ) (m : ℕ) (b : Bytes) → engine.accepts w m b ≡ false → engine.delivered w m b ≡ w
unfolding deliver_line_answer delivered_words
deliver_refused w m b e = line_stays _ b.line w _ e (λ f. answer_refused w m b.list (λ z. true≢false (sym (taken_true _ z) ∙ f)))

pub deliver_accepted : (H : ℕ → Bool) (κ : ℕ → ℕ → Bool) (o : OpeningGiven) (w : List ℕ) → Belonging o w → (m : ℕ) (b : Bytes) → engine.accepts w m b ≡ true →
    Delivery engine engine_reading H κ o w m b
deliver_accepted H κ o w B m b e = taking_delivery o w B.words B.sets m b H κ (answer_accepted w m b.list (without_line w m b e).0) (without_line w m b e).1

same_taken : (a b : wire_message.Message) → ◌≡◌ {A = Result wire_message.Message Refusal} (Ok a) (Ok b) → a ≡ b
same_taken a b e = cc

pub says_one : (S : Agreed) (m : ℕ) (b : Bytes) (x y : Message) → Says S m b x → Says S m b y → x ≡ y
says_one S m b x y f g =
    f.means
    ∙ ap (λ (z : wire_message.Message). meaning z (values (count_of z) (drop 12 b.list))) (same_taken f.message g.message (sym f.taken ∙ g.taken))
    ∙ sym g.means
