-- A delivery keeps the words sound, and does not count as a turn.
use Rattle.std.specs.Prelude.{ℕ, ◌≤◌, ◌<◌, List, ◌≢◌, ◌≡◌, length, drop, Result, Ok, Err}
use Rattle.std.proofs.Common.{inl, inr, ◌∙◌}
use Rattle.std.proofs.Math.Path.{refl, sym, ap}
use native.Mathlib.Omega.{arith}
use Rattle.std.proofs.Math.Decide.{ℕ_discrete}
use Rattle.settings.specs.Rules.{Ruled}
use Rattle.settings.specs.declared.Settings.{Settings}
use Rattle.quorum.specs.Marks.{mark}
use Rattle.quorum.specs.Total.{count}
use Rattle.records.specs.Layout.{own_at, turns_at, boxed_at, round_at, est_sent_at, aux_sent_at, commit_count_at, commit_row_at}
use Rattle.records.specs.Words.{word}
use Rattle.records.specs.laws.Words.{word_put_same}
use Rattle.records.specs.laws.Fill.{length_store_of}
use Rattle.session.specs.Session.{settings_of, session_with, session_of}
use Rattle.wire.specs.Bytes.{value_at}
use Rattle.wire.specs.declared.Message.{Message}
use Rattle.wire.specs.declared.Message.TheVariants.{Send, Echo, Ready, Est, Aux, Commit, Finish}
use Rattle.wire_laws.proofs.laws.Forms.{Form}
use Rattle.wire_laws.specs.Proper.{Layout}
use Rattle.wire_laws.proofs.Converse.{taken_form}
use Rattle.delivery.specs.Delivery.{recorded, verdict, words_after, delivered}
use Rattle.delivery.specs.laws.Frame.{Changed, word_recorded, length_recorded}
use Rattle.delivery.specs.laws.Kept.{in_layout_lem, Untouched, word_untouched, word_free}
use Rattle.delivery.specs.laws.Accepting.{accepting}
use Rattle.turn.proofs.laws.Marks.{Keeps}
use Rattle.turn_bound.proofs.laws.Potential.{Grows, potential_grows}
use Rattle.turn_bound.proofs.laws.Rounds.{still, orderly_kept}
use Rattle.turn_bound.specs.TurnBound.{Terms, terms_of}
use Rattle.turn_bound.proofs.laws.Finishes.{finishes, measure}
use Rattle.turn_bound.proofs.laws.Sound.{Sound, same_settings, same_version}
use Rattle.settings.specs.declared.refusal.Refusal.{Refusal}

-- a COMMIT that is recorded has at most n values
module _ (n : ℕ) (few : n ≤ 16) (s v : List ℕ) (size : length s ≡ 2048) (p : ℕ) (low : 1 ≤ p) (high : p ≤ n) where
  abbrev Counts : List ℕ → Type 0
  Counts t = (q : ℕ) → 1 ≤ q → q ≤ n → word t (commit_count_at q) ≤ n

  other_count : (m : Message) (q : ℕ) → word s (commit_count_at q) ≤ n → (Changed p m (commit_count_at q) → ⊥) → word (recorded s p m v) (commit_count_at q) ≤ n
  other_count m q c h = omega (arith, word_recorded s v p m (commit_count_at q) h)

  new_count : (k : ℕ) → word (recorded s p (Commit k) v) (commit_count_at p) ≡ k
  unfolding recorded
  new_count k = word_put_same _ (commit_count_at p) k (omega (arith, length_store_of (value_at v) (commit_row_at p) s k))

  counts_recorded : (m : Message) → Layout n p m → Counts s → Counts (recorded s p m v)
  counts_recorded (Send i x) l c q lo hi = other_count (Send i x) q (c q lo hi) no_place
    where
      no_place : Changed p (Send i x) (commit_count_at q) → ⊥
      no_place (inl e) = omega arith
      no_place (inr e) = omega arith
  counts_recorded (Echo i x) l c q lo hi = other_count (Echo i x) q (c q lo hi) no_place
    where
      no_place : Changed p (Echo i x) (commit_count_at q) → ⊥
      no_place (inl e) = omega arith
      no_place (inr e) = omega arith
  counts_recorded (Ready i x) l c q lo hi = other_count (Ready i x) q (c q lo hi) no_place
    where
      no_place : Changed p (Ready i x) (commit_count_at q) → ⊥
      no_place (inl e) = omega arith
      no_place (inr e) = omega arith
  counts_recorded (Est i r b) l c q lo hi = other_count (Est i r b) q (c q lo hi) no_place
    where
      no_place : Changed p (Est i r b) (commit_count_at q) → ⊥
      no_place (inl e) = omega arith
      no_place (inr e) = omega arith
  counts_recorded (Aux i r b) l c q lo hi = other_count (Aux i r b) q (c q lo hi) (λ e. omega arith)
  counts_recorded (Commit k) l c q lo hi = at (ℕ_discrete q p)
    where
      no_place : q ≢ p → Changed p (Commit k) (commit_count_at q) → ⊥
      no_place ne (inl e) = ne (omega arith)
      no_place ne (inr e) = omega arith

      at : Dec (q ≡ p) → word (recorded s p (Commit k) v) (commit_count_at q) ≤ n
      at (yes e) = rw (e, new_count k) l.1
      at (no ne) = other_count (Commit k) q (c q lo hi) (no_place ne)
  counts_recorded (Finish i b) l c q lo hi = other_count (Finish i b) q (c q lo hi) no_place
    where
      no_place : Changed p (Finish i b) (commit_count_at q) → ⊥
      no_place (inl e) = omega arith
      no_place (inr e) = omega arith

-- words that differ only in coins and where messages are recorded
abbrev pub Alike : List ℕ → List ℕ → Type 0
Alike s t = (a : ℕ) → Untouched a → (8 ≤ a → 24 ≤ a) → word t a ≡ word s a

module _ (g : Settings) (ruled : Ruled g) (s t : List ℕ) (same : Alike s t) where
  same_keeps : (k : ℕ) → word t k ≡ word s k → Keeps k s t
  same_keeps k e p h = ap (λ (w : ℕ). mark w p) e ∙ h

  same_grows : Grows g.n s t
  same_grows =
      record {
        flags = same_keeps 7 (same 7 (inl (omega arith)) (λ z. omega arith));
        echoes = same_keeps 136 (same 136 (inr (omega arith, omega arith)) (λ z. omega arith));
        readies = same_keeps 137 (same 137 (inr (omega arith, omega arith)) (λ z. omega arith));
        ests = λ i low high. same_keeps (est_sent_at i) (same (est_sent_at i) (inl (omega (arith, ruled.few))) (λ z. omega arith));
        auxs = λ i low high. same_keeps (aux_sent_at i) (same (aux_sent_at i) (inl (omega (arith, ruled.few))) (λ z. omega arith));
        moved_out = λ i low high e. same (round_at i) (inl (omega (arith, ruled.few))) (λ z. omega arith) ∙ e;
      }

module _ (k : Terms) (ruled : Ruled k.settings) (s t : List ℕ) (same : Alike s t) where
  low_same : (a : ℕ) → a < 72 → (8 ≤ a → 24 ≤ a) → word t a ≡ word s a
  low_same a l = same a (inl (omega arith))

  -- the words of the weights, of the kind of coins, of the version and of the FINISHes sent
  module _ (late : (a : ℕ) → 141 ≤ a → a ≤ 144 → word t a ≡ word s a) where
    same_terms : terms_of t ≡ terms_of s
    unfolding settings_of
    same_terms =
        rw (
          low_same 0 (omega arith) (λ z. omega arith),
          low_same 1 (omega arith) (λ z. omega arith),
          low_same 2 (omega arith) (λ z. omega arith),
          late 141 (omega arith) (omega arith),
          late 143 (omega arith) (omega arith),
        )

    pub same_sound : Sound k s → length t ≡ length s → ((p : ℕ) → 1 ≤ p → p ≤ k.settings.n → word t (commit_count_at p) ≤ k.settings.n) → Sound k t
    unfolding measure
    same_sound h l c =
        let finished : finishes k.settings.n t ≡ finishes k.settings.n s = ap (λ (w : ℕ). count (mark w) k.settings.n) (late 144 (omega arith) (omega arith)) in
        record {
          size = l ∙ h.size;
          terms = same_terms ∙ h.terms;
          known = h.known;
          own_low = omega (arith, low_same own_at (omega arith) (λ z. omega arith), h.own_low);
          own_high = omega (arith, low_same own_at (omega arith) (λ z. omega arith), h.own_high);
          kind = omega (arith, late boxed_at (omega arith) (omega arith), h.kind);
          counts = c;
          orderly =
              orderly_kept k.settings.n ruled.few s t h.orderly
              (still (record { rounds = λ j lo hi. low_same (round_at j) (omega arith) (λ z. omega arith); ests = λ j lo hi. low_same (est_sent_at j) (omega arith) (λ z. omega arith) }))
              (same_grows k.settings ruled s t same).auxs;
          sent = λ i lo hi m. h.sent i lo hi (ap (λ (w : ℕ). mark w i) (sym (late 144 (omega arith) (omega arith))) ∙ m);
          turns =
              omega (
                arith,
                low_same turns_at (omega arith) (λ z. omega arith),
                h.turns,
                finished,
                potential_grows k.settings.n s t (same_grows k.settings ruled s t same),
                potential_grows k.settings.n t s (same_grows k.settings ruled t s (λ a u z. sym (same a u z))),
              );
        }

-- what a delivery leaves
pub record Delivered (k : Terms) (s t : List ℕ) : Type 0 where
  pub sound : Sound k t
  pub count : word t turns_at ≡ word s turns_at
  pub kind : word t boxed_at ≡ word s boxed_at
  pub same : (a : ℕ) → Untouched a → word t a ≡ word s a

module _ (k : Terms) (ruled : Ruled k.settings) (s : List ℕ) (h : Sound k s) (link : ℕ) (b : List ℕ) where
  accepted_sound : (m : Message) → Form k.version k.settings.n (session_of s).number link b m → Delivered k s (recorded s link m (drop 12 b))
  accepted_sound m f =
      record {
        sound =
            same_sound k ruled s (recorded s link m (drop 12 b)) (λ a u z. same a u) late h (length_recorded s (drop 12 b) link m)
            (counts_recorded k.settings.n ruled.few s (drop 12 b) h.size link f.link_low f.link_high m f.layout h.counts);
        count = same turns_at (inl (omega arith));
        kind = late boxed_at (omega arith) (omega arith);
        same = same;
      }
    where
      late : (a : ℕ) → 141 ≤ a → a ≤ 144 → word (recorded s link m (drop 12 b)) a ≡ word s a
      late a lo hi = word_free s (drop 12 b) link m a (in_layout_lem k.settings.n link m ruled.few f.link_low f.link_high f.layout) lo hi

      same : (a : ℕ) → Untouched a → word (recorded s link m (drop 12 b)) a ≡ word s a
      same a u = word_untouched s (drop 12 b) link m a (in_layout_lem k.settings.n link m ruled.few f.link_low f.link_high f.layout) u

  session_settings : (session_of s).settings ≡ k.settings
  unfolding session_of session_with
  session_settings = same_settings k ruled s h

  of_verdict : (v : Result Message Refusal) → verdict s link b ≡ v → Delivered k s (words_after v s link b)
  unfolding words_after
  of_verdict (Err j) e = record { sound = h; count = refl; kind = refl; same = λ a u. refl }
  of_verdict (Ok m) e =
      accepted_sound m
      (taken_form k.version k.settings.n (session_of s).number link b m (rw (session_settings, same_version k ruled s h) at (accepting s link b m e).taken))

  pub delivery_sound : Delivered k s (delivered s link b)
  unfolding delivered
  delivery_sound = of_verdict (verdict s link b) refl
