-- What one call changes of the values that are accepted in a round, and of the mark of the one accepted first.
use Rattle.std.specs.Prelude.{ℕ, ◌+◌, ◌≤◌, Bool, ◌&&◌, ◌||◌, not, cond, List, ◌⊎◌, ◌≢◌, ◌≡◌, eqb, leb, length, drop, Ok, Result, Err}
use Rattle.std.proofs.Math.Bool.{true, false, or-false}
use Rattle.std.proofs.Common.{true≢false, inl, inr, sym, ap₂, subst, ◌∙◌, arith}
use Rattle.std.proofs.Math.Path.{refl, ap}
use Rattle.std.proofs.Math.Decide.{ℕ_discrete}
use borrow.Author.Tests.{leb-true, le-leb, ne_eqb}
use Rattle.quorum.specs.laws.Bools.{or_right, same_tests}
use Rattle.quorum.specs.Marks.{mark}
use Rattle.quorum.specs.laws.Marks.{mark_other}
use Rattle.quorum.specs.Weights.{weight_of}
use Rattle.quorum.specs.laws.Total.{total_agree, total_mono}
use Rattle.settings.specs.Settings.{accept, weighed}
use Rattle.settings.specs.declared.Settings.{Settings}
use Rattle.records.specs.Layout.{n_at, ta_at, ts_at, weights_at, vote_at, est_mark, one_first_at}
use Rattle.records.specs.Words.{word, marked}
use Rattle.records.specs.laws.Words.{length_set_mark, word_set_mark_same, word_set_mark_other, marked_new}
use Rattle.records.specs.Records.{est_held, one_first}
use Rattle.records.specs.Writing.{with_est, with_one_first}
use Rattle.votes.specs.Votes.{est_count, accepted, one_alone}
use Rattle.session.specs.Session.{settings_of, session_of, session_with}
use Rattle.session.specs.laws.Session.{State}
use Rattle.wire.specs.declared.Message.{Message}
use Rattle.wire.specs.declared.Message.TheVariants.{Send, Echo, Ready, Est, Aux, Commit, Finish}
use Rattle.wire_laws.proofs.Converse.{taken_form}
use Rattle.delivery.specs.Delivery.{deliver_answer, delivered, first_noted, recorded}
use Rattle.delivery.specs.laws.Accepting.{Accepting, accepting}
use Rattle.delivery.specs.laws.Answers.{Taking, answer_accepted, answer_refused}
use Rattle.delivery.specs.laws.Frame.{InLayout, Changed, MarkWord, mark_word_of, mark_of, mark_recorded, word_recorded}
use Rattle.delivery.specs.laws.Held.{marks_recorded}
use Rattle.delivery.specs.laws.Kept.{in_layout_lem, word_untouched, word_free}
use Rattle.delivery.specs.laws.Settling.{noted_word}
use Rattle.recording.specs.Recording.{record_answer, with_bit, recorded_words}
use Rattle.recording.specs.laws.Recording as recordings
use Rattle.session.specs.declared.Session.{Session}
use Rattle.turn.specs.Due.{due}
use Rattle.turn.specs.Turn.{applied, turn_words}
use Rattle.turn.proofs.laws.Frame.{told_placed, setting, between, beyond, applied_kept}
use Rattle.turn.specs.laws.Admitting.{admitted_ruled}
use Rattle.turn.specs.laws.Turn.{Taken, Way, refused, taken, way}
use Rattle.held.specs.laws.Recording.{est_place}
use Rattle.accepted_first.proofs.laws.Facts.{Change}
use Rattle.std.specs.Result.{is_ok}
use Rattle.settings.specs.laws.Answers.{true_taken}
use Rattle.settings.specs.declared.refusal.Refusal.{Refusal}
use Rattle.settings.specs.laws.Answers.{taken_true, refused_false}

-- the changes in round r of vote i from the words w to the words t, by the settings g
abbrev pub Changes : Settings → ℕ → ℕ → List ℕ → List ℕ → Type 0
Changes g i r w t = Change (accepted g w i r 0) (accepted g w i r 1) (one_first w i r) (accepted g t i r 0) (accepted g t i r 1) (one_first t i r)

-- .. in every round of every vote, and the settings stay
pub record Onward (w t : List ℕ) : Type 0 where
  pub settings : settings_of t ≡ settings_of w
  pub changes : (i r : ℕ) → 1 ≤ i → i ≤ 16 → 1 ≤ r → r ≤ 32 → Changes (settings_of w) i r w t

settings_same : (w t : List ℕ) → word t n_at ≡ word w n_at → word t ta_at ≡ word w ta_at → word t ts_at ≡ word w ts_at → word t weights_at ≡ word w weights_at → settings_of t ≡ settings_of w
unfolding settings_of
settings_same w t n a s x = rw (n, a, s, x)

-- the words of the round and of its mark stay
accepted_stays : (g : Settings) (i r : ℕ) (w t : List ℕ) → word t (vote_at i r) ≡ word w (vote_at i r) → (b : ℕ) → accepted g t i r b ≡ accepted g w i r b
unfolding accepted est_count est_held marked
accepted_stays g i r w t ests b = ap (λ (x : ℕ). leb (accept g) (weighed g (λ p. mark x (est_mark b p)))) ests

module _ (g : Settings) (i r : ℕ) (w t : List ℕ) (ests : word t (vote_at i r) ≡ word w (vote_at i r)) (first : word t (one_first_at i) ≡ word w (one_first_at i)) where
  first_stays : one_first t i r ≡ one_first w i r
  unfolding one_first marked
  first_stays = ap (λ (x : ℕ). mark x r) first

  still : Changes g i r w t
  still =
      record {
        zero = λ e. accepted_stays g i r w t ests 0 ∙ e;
        one = λ e. accepted_stays g i r w t ests 1 ∙ e;
        single = inl (accepted_stays g i r w t ests 1, first_stays);
      }

pub same_onward : (w : List ℕ) → Onward w w
same_onward w = record { settings = refl; changes = λ i r lo hi rl rh. still (settings_of w) i r w w refl refl }

-- words that keep all from 145 on, and the settings
kept_onward : (w t : List ℕ) → settings_of t ≡ settings_of w → ((a : ℕ) → 145 ≤ a → word t a ≡ word w a) → Onward w t
kept_onward w t s h =
    record {
      settings = s;
      changes = λ i r lo hi rl rh. still (settings_of w) i r w t (h (vote_at i r) (omega arith)) (h (one_first_at i) (omega arith));
    }

-- ---- a turn

taken_onward : (w out : List ℕ) (x : Session) → Taken w out x → Onward w (turn_words w (length out))
taken_onward w out x t =
    let a = due x.settings w in
    let placed = told_placed x.settings w (admitted_ruled w (length out) x t.admits) a t.told in
    subst (Onward w) (sym t.words)
    (kept_onward w (applied w a)
    (settings_same w (applied w a)
    (applied_kept w a placed n_at (setting (omega arith)))
    (applied_kept w a placed ta_at (setting (omega arith)))
    (applied_kept w a placed ts_at (setting (omega arith)))
    (applied_kept w a placed weights_at (between (omega arith) (omega arith))))
    (λ j l. applied_kept w a placed j (beyond l)))

pub turn_onward : (w out : List ℕ) → Onward w (turn_words w (length out))
turn_onward w out = of (way w out)
  where
    of : Way w out → Onward w (turn_words w (length out))
    of (refused k h) = subst (Onward w) (sym h.words) (same_onward w)
    of (taken x t) = taken_onward w out x t

-- ---- a recording

state_few : (w : List ℕ) → State w → word w n_at ≤ 16
unfolding settings_of
state_few w x = x.ruled.few

pub recording_onward : (w : List ℕ) (i r b : ℕ) → Onward w (recorded_words w i r b)
recording_onward w i r b = of (is_ok (record_answer w i r b)) refl
  where
    at : recordings.Recordable w i r b → Onward w (with_bit w i r b)
    at x = at_words
      where
        other : (k : ℕ) → (k ≤ 7) ⊎ (24 ≤ k) → word (with_bit w i r b) k ≡ word w k
        other k h = recordings.other_word w i r b x k (out h)
          where
            out : (k ≤ 7) ⊎ (24 ≤ k) → k ≢ 7 + i
            out (inl l) e = omega (arith, x.vote_low)
            out (inr l) e = omega (arith, x.vote_high, state_few w x.state)

        at_words : Onward w (with_bit w i r b)
        at_words =
            kept_onward w (with_bit w i r b)
            (settings_same w (with_bit w i r b) (other n_at (inl (omega arith))) (other ta_at (inl (omega arith))) (other ts_at (inl (omega arith))) (other weights_at (inr (omega arith))))
            (λ a l. other a (inr (omega arith)))

    of : (c : Bool) → is_ok (record_answer w i r b) ≡ c → Onward w (recorded_words w i r b)
    of true e = subst (Onward w) (sym (recordings.accepted_marks w i r b e)) (at (recordings.accepted w i r b (true_taken (record_answer w i r b) e)))
    of false e = subst (Onward w) (sym (recordings.refused_same w i r b e)) (same_onward w)

-- ---- a delivery

is_est : (m : Message) (i r b : ℕ) → Dec (m ≡ Est i r b)
is_est (Send j x) i r b = no (λ e. let z : ◌≡◌ {A = ℕ} 0 1 = cc in omega arith)
is_est (Echo j x) i r b = no (λ e. let z : ◌≡◌ {A = ℕ} 0 1 = cc in omega arith)
is_est (Ready j x) i r b = no (λ e. let z : ◌≡◌ {A = ℕ} 0 1 = cc in omega arith)
is_est (Est j q c) i r b = of (ℕ_discrete j i) (ℕ_discrete q r) (ℕ_discrete c b)
  where
    of : Dec (j ≡ i) → Dec (q ≡ r) → Dec (c ≡ b) → Dec (Est j q c ≡ Est i r b)
    of (yes d) (yes e) (yes f) = yes cc
    of (no d) e f = no (λ k. d cc)
    of (yes d) (no e) f = no (λ k. e cc)
    of (yes d) (yes e) (no f) = no (λ k. f cc)
is_est (Aux j q c) i r b = no (λ e. let z : ◌≡◌ {A = ℕ} 0 1 = cc in omega arith)
is_est (Commit k) i r b = no (λ e. let z : ◌≡◌ {A = ℕ} 0 1 = cc in omega arith)
is_est (Finish j c) i r b = no (λ e. let z : ◌≡◌ {A = ℕ} 0 1 = cc in omega arith)

-- the mark stays where its word is not one that the message changes
first_elsewhere : (w v : List ℕ) (p : ℕ) (m : Message) (i r : ℕ) → (Changed p m (one_first_at i) → ⊥) → one_first (recorded w p m v) i r ≡ one_first w i r
unfolding one_first marked
first_elsewhere w v p m i r out = ap (λ (x : ℕ). mark x r) (word_recorded w v p m (one_first_at i) out)

-- the marks of round r of vote i, after an EST of c in round q of vote j
module _ (g : Settings) (s : List ℕ) (size : length s ≡ 2048) (j q c : ℕ) where
  abbrev noted : List ℕ
  noted = first_noted g s j q c

  noted_other : (i r : ℕ) → i ≤ 16 → j ≤ 16 → (i ≡ j → r ≢ q) → one_first noted i r ≡ one_first s i r
  unfolding first_noted one_first marked
  noted_other i r hi hj ne = by (eqb c 1 && one_alone g s j q) (ℕ_discrete i j)
    where
      by : (d : Bool) → Dec (i ≡ j) → mark (word (cond d (with_one_first s j q) s) (one_first_at i)) r ≡ mark (word s (one_first_at i)) r
      by false e = refl
      by true (yes e) = rw e (ap (λ (x : ℕ). mark x r) (word_set_mark_same s (one_first_at j) q (omega arith)) ∙ mark_other (word s (one_first_at j)) q r (ne e))
      by true (no n) = ap (λ (x : ℕ). mark x r) (word_set_mark_other s (one_first_at j) q (one_first_at i) (λ z. n (omega arith)))

  noted_zero : (c ≡ 1 → ⊥) → noted ≡ s
  unfolding first_noted
  noted_zero ne = rw (ne_eqb c 1 ne)

noted_one : (g : Settings) (s : List ℕ) → length s ≡ 2048 → (i r : ℕ) → 1 ≤ i → i ≤ 16 → 1 ≤ r → r ≤ 32 → one_first (first_noted g s i r 1) i r ≡ (one_first s i r || one_alone g s i r)
unfolding first_noted one_first
noted_one g s size i r lo hi rl rh = by (one_alone g s i r)
  where
    by : (d : Bool) → marked (cond d (with_one_first s i r) s) (one_first_at i) r ≡ (marked s (one_first_at i) r || d)
    by true = marked_new s (one_first_at i) r (omega arith) rl (omega arith) ∙ sym (or_right (marked s (one_first_at i) r) true refl)
    by false = sym (or-false (marked s (one_first_at i) r))

-- an EST that is held writes no mark of a first value
est_apart : (w : List ℕ) (j q c p i r : ℕ) → i ≤ 16 → 1 ≤ j → one_first (with_est w j q c p) i r ≡ one_first w i r
unfolding one_first marked
est_apart w j q c p i r hi lo = ap (λ (x : ℕ). mark x r) (word_set_mark_other w (vote_at j q) (est_mark c p) (one_first_at i) (λ z. omega arith))

first_of : (w v : List ℕ) → length w ≡ 2048 → (p : ℕ) (m : Message) → InLayout p m → (i r : ℕ) → 1 ≤ i → i ≤ 16 → (m ≡ Est i r 1 → ⊥) → one_first (recorded w p m v) i r ≡ one_first w i r
unfolding recorded
first_of w v size p (Send j x) h i r lo hi ne = first_elsewhere w v p (Send j x) i r (λ z. elim z [ inl e ↦ omega arith | inr e ↦ omega arith ])
first_of w v size p (Echo j x) h i r lo hi ne = first_elsewhere w v p (Echo j x) i r (λ z. elim z [ inl e ↦ omega arith | inr e ↦ omega arith ])
first_of w v size p (Ready j x) h i r lo hi ne = first_elsewhere w v p (Ready j x) i r (λ z. elim z [ inl e ↦ omega arith | inr e ↦ omega arith ])
first_of w v size p (Est j q c) h i r lo hi ne = by (ℕ_discrete c 1)
  where
    s : List ℕ
    s = with_est w j q c p

    sized : length s ≡ 2048
    sized = length_set_mark w (vote_at j q) (est_mark c p) ∙ size

    by : Dec (c ≡ 1) → one_first (first_noted (settings_of w) s j q c) i r ≡ one_first w i r
    by (yes e) = noted_other (settings_of w) s sized j q c i r hi h.3 (λ a b. ne cc) ∙ est_apart w j q c p i r hi h.2
    by (no n) = ap (λ (x : List ℕ). one_first x i r) (noted_zero (settings_of w) s sized j q c n) ∙ est_apart w j q c p i r hi h.2
first_of w v size p (Aux j q c) h i r lo hi ne = first_elsewhere w v p (Aux j q c) i r (λ e. omega arith)
first_of w v size p (Commit k) h i r lo hi ne = first_elsewhere w v p (Commit k) i r (λ z. elim z [ inl e ↦ omega arith | inr e ↦ omega arith ])
first_of w v size p (Finish j c) h i r lo hi ne = first_elsewhere w v p (Finish j c) i r (λ z. elim z [ inl e ↦ omega arith | inr e ↦ omega arith ])

-- the mark that an EST of 1 sets changes nothing that is accepted
alone_noted : (g : Settings) (s : List ℕ) (i r : ℕ) → i ≤ 16 → 1 ≤ i → one_alone g s i r ≡ (accepted g (first_noted g s i r 1) i r 1 && not (accepted g (first_noted g s i r 1) i r 0))
unfolding one_alone
alone_noted g s i r hi lo =
    let same = noted_word g s i r 1 (vote_at i r) (λ z. omega arith) in
    ap₂ (λ (a b : Bool). a && not b) (sym (accepted_stays g i r s (first_noted g s i r 1) same 1)) (sym (accepted_stays g i r s (first_noted g s i r 1) same 0))

first_one : (g : Settings) (w v : List ℕ) → length w ≡ 2048 → (p : ℕ) (m : Message) → InLayout p m → (i r : ℕ) → 1 ≤ i → i ≤ 16 → 1 ≤ r → r ≤ 32 → m ≡ Est i r 1 → g ≡ settings_of w → one_first (recorded w p m v) i r ≡ (one_first w i r || (accepted g (recorded w p m v) i r 1 && not (accepted g (recorded w p m v) i r 0)))
unfolding recorded
first_one g w v size p m h i r lo hi rl rh e s =
    rw (e, ← s)
    (noted_one g (with_est w i r 1 p) (length_set_mark w (vote_at i r) (est_mark 1 p) ∙ size) i r lo hi rl rh
    ∙ ap₂ ◌||◌ (est_apart w i r 1 p i r hi lo) (alone_noted g (with_est w i r 1 p) i r hi lo))

-- a message of sender p is recorded in the words w
module _ (g : Settings) (few : g.n ≤ 16) (w v : List ℕ) (size : length w ≡ 2048) (p : ℕ) (m : Message) (h : InLayout p m) (i r : ℕ) (lo : 1 ≤ i) (hi : i ≤ 16) (rl : 1 ≤ r) (rh : r ≤ 32) where
  abbrev t : List ℕ
  t = recorded w p m v

  in_marks : MarkWord (vote_at i r)
  in_marks = inr (inr (inl (omega arith, omega arith)))

  held_stays : (b k : ℕ) → est_held w i r b k ≡ true → est_held t i r b k ≡ true
  unfolding est_held
  held_stays b k e = marks_recorded w v size p m h (vote_at i r) in_marks (est_mark b k) e

  held_came : (b k : ℕ) → b ≤ 1 → 1 ≤ k → k ≤ 16 → (m ≡ Est i r b → ⊥) → est_held t i r b k ≡ true → est_held w i r b k ≡ true
  unfolding est_held
  held_came b k bit low high ne e = of (mark_recorded w v p m (vote_at i r) (est_mark b k) size h in_marks e)
    where
      of : (marked w (vote_at i r) (est_mark b k) ≡ true) ⊎ ((vote_at i r ≡ mark_word_of p m) × (est_mark b k ≡ mark_of p m)) → marked w (vote_at i r) (est_mark b k) ≡ true
      of (inl old) = old
      of (inr y) = absurd (ne (est_place p m i r b k h (record { instance = record { low = lo; high = hi }; first = rl; last = rh; bit = bit }) (record { low = low; high = high }) y.0 y.1).0)

  -- no accepted value goes
  accepted_grows : (b : ℕ) → accepted g w i r b ≡ true → accepted g t i r b ≡ true
  unfolding accepted est_count
  accepted_grows b e =
      let more = total_mono (weight_of g.weights) (est_held w i r b) (est_held t i r b) g.n (λ k low high y. held_stays b k y) in
      le-leb (accept g) (est_count g t i r b) (omega (arith, leb-true (accept g) (est_count g w i r b) e, more))

  -- a value that the message is no EST of stays as it was
  accepted_kept : (b : ℕ) → b ≤ 1 → (m ≡ Est i r b → ⊥) → accepted g t i r b ≡ accepted g w i r b
  unfolding accepted est_count
  accepted_kept b bit ne =
      ap (leb (accept g))
      (total_agree (weight_of g.weights) (est_held t i r b) (est_held w i r b) g.n
      (λ k low high. same_tests (est_held t i r b k) (est_held w i r b k) (held_came b k bit low (omega arith) ne) (held_stays b k)))

  -- .. and so does the mark, where it is no EST of 1
  first_kept : (m ≡ Est i r 1 → ⊥) → one_first t i r ≡ one_first w i r
  first_kept ne = first_of w v size p m h i r lo hi ne

  -- an EST of 1
  first_set : m ≡ Est i r 1 → g ≡ settings_of w → one_first t i r ≡ (one_first w i r || (accepted g t i r 1 && not (accepted g t i r 0)))
  first_set e s = first_one g w v size p m h i r lo hi rl rh e s

  pub recorded_changes : g ≡ settings_of w → Changes g i r w t
  recorded_changes s =
      record {
        zero = accepted_grows 0;
        one = accepted_grows 1;
        single = of (is_est m i r 1);
      }
    where
      of : Dec (m ≡ Est i r 1) → ((accepted g t i r 1 ≡ accepted g w i r 1) × (one_first t i r ≡ one_first w i r)) ⊎ ((accepted g t i r 0 ≡ accepted g w i r 0) × (one_first t i r ≡ (one_first w i r || (accepted g t i r 1 && not (accepted g t i r 0)))))
      of (yes e) = inr (accepted_kept 0 (omega arith) (λ f. let z : ◌≡◌ {A = ℕ} 1 0 = cc in omega arith), first_set e s)
      of (no ne) = inl (accepted_kept 1 (omega arith) ne, first_kept ne)

laid_onward : (w : List ℕ) (link : ℕ) (v : List ℕ) (m : Message) → State w → InLayout link m → Onward w (recorded w link m v)
laid_onward w link v m x h =
    record {
      settings =
          settings_same w (recorded w link m v)
          (word_untouched w v link m n_at h (inl (omega arith)))
          (word_untouched w v link m ta_at h (inl (omega arith)))
          (word_untouched w v link m ts_at h (inl (omega arith)))
          (word_free w v link m weights_at h (omega arith) (omega arith));
      changes = λ i r lo hi rl rh. recorded_changes (settings_of w) x.ruled.few w v x.size link m h i r lo hi rl rh refl;
    }

recorded_onward : (w : List ℕ) (link : ℕ) (b : List ℕ) (m : Message) → Accepting w link b m → Onward w (recorded w link m (drop 12 b))
unfolding session_of session_with settings_of
recorded_onward w link b m a =
    let f = taken_form _ _ _ link b m a.taken in
    laid_onward w link (drop 12 b) m a.state (in_layout_lem (word w n_at) link m (state_few w a.state) f.link_low f.link_high f.layout)

-- a delivery: refused, it changes nothing
pub delivery_onward : (w : List ℕ) (link : ℕ) (b : List ℕ) → Onward w (delivered w link b)
delivery_onward w link b = of (deliver_answer w link b) refl
  where
    taken_message : Taking w link b → Onward w (delivered w link b)
    taken_message k = subst (Onward w) (sym k.words) (recorded_onward w link b k.message (accepting w link b k.message k.accepted))

    of : (a : Result (Unit {0}) Refusal) → deliver_answer w link b ≡ a → Onward w (delivered w link b)
    of (Ok tt) e = taken_message (answer_accepted w link b e)
    of (Err k) e = subst (Onward w) (sym (answer_refused w link b (λ z. true≢false (sym (taken_true _ z) ∙ refused_false _ k e)))) (same_onward w)
