-- A message that is delivered in the costliest session is held after it, and all that was held stays.
use Rattle.std.specs.Prelude.{ℕ, ◌-◌, ◌≤◌, ◌%◌, ◌^◌, Bool, ◌||◌, cond, List, ◌⊎◌, ◌≡◌, refl, take, drop, Some, Ok}
use Rattle.std.proofs.Math.Bool.{true, false}
use Rattle.std.proofs.lemmas.Bool.{false≢true}
use Rattle.std.proofs.Common.{inl, inr, sym, subst, ◌∙◌, arith}
use Rattle.std.proofs.Math.Path.{ap}
use Rattle.settings.specs.Rules.{Ruled}
use Rattle.settings.specs.Settings.{settings_from}
use Rattle.settings.specs.Versions.{FIRST_VERSION}
use Rattle.settings.specs.declared.Settings.{Settings}
use Rattle.quorum.specs.Marks.{mark}
use Rattle.quorum.specs.laws.Every.{each_every}
use Rattle.quorum.specs.Whole.{weight_right, weights_right}
use Rattle.quorum.specs.laws.Whole.{ones_weight, ones_whole}
use Rattle.records.specs.Layout.{flags_at, session_at, boxed_at}
use Rattle.records.specs.Words.{word, marked}
use Rattle.records.specs.Records.{closed, version, send_held, echo_held, ready_held, est_held, aux_held}
use Rattle.commits.specs.Commits.{commit_held}
use Rattle.session.specs.Session.{session_with, session_of, stored}
use Rattle.wire.specs.Bytes.{values}
use Rattle.wire.specs.Message.{count_of, values_of, encode}
use Rattle.wire.specs.Reading.{read_message}
use Rattle.wire.specs.laws.Kinds.{first_last}
use Rattle.wire.specs.declared.Message as wire_message
use Rattle.wire.specs.declared.Message.TheVariants as wire
use Rattle.wire_laws.specs.RoundTrip.{ReadBack}
use Rattle.wire_laws.specs.Proper.{Proper}
use Rattle.wire_laws.proofs.RoundTrip.{round_trip}
use Rattle.delivery.specs.Delivery.{place_held, recorded, delivered}
use Rattle.delivery.specs.laws.Frame.{InLayout, mark_word_of, mark_of}
use Rattle.delivery.specs.laws.Kept.{in_layout_lem}
use Rattle.delivery.specs.laws.Held.{NotCommit, new_recorded, commit_recorded}
use Rattle.delivery.specs.laws.Accepting.{delivered_taken}
use Rattle.turn_bound.specs.TurnBound.{Terms}
use Rattle.turn_bound.proofs.laws.Sound.{Sound, sound_state}
use Rattle.turn_bound.proofs.laws.Delivering.{Delivered, delivery_sound}
use Rattle.held.specs.laws.Held.{Message, SEND, ECHO, READY, EST, AUX, COMMIT, FINISH, meaning, Numbered, holds}
use Rattle.held.specs.laws.Recording.{held_recorded}
use Rattle.held.specs.laws.Staying.{Stays, stays_same, stays_recorded}
use Rattle.costliest.specs.Calls.{packs}
use Rattle.costliest.proofs.laws.Packs.{packs_many, packs_fit, packs_rise}

-- ta = ts = 0
abbrev pub settings : ℕ → Settings
settings n = settings_from n 0 0 (2 ^ n - 1)

-- in version 1
abbrev pub terms : ℕ → Terms
terms n = record { version = FIRST_VERSION; settings = settings n }

-- what is said in the session, COMMITs from 1 to c only
abbrev pub Allowed : ℕ → ℕ → ℕ → Message → Type 0
Allowed n c k (SEND v) = Unit {0}
Allowed n c k (ECHO i v) = Unit {0}
Allowed n c k (READY i v) = v ≡ i
Allowed n c k (EST i r b) = Unit {0}
Allowed n c k (AUX i r b) = b ≡ 0
Allowed n c k (COMMIT X) = (X ≡ take n packs) × (k ≤ c)
Allowed n c k (FINISH i b) = ⊥

-- the session goes on in s
pub record Good (n c : ℕ) (s : List ℕ) : Type 0 where
  pub sound : Sound (terms n) s
  pub session : word s session_at ≡ 7
  pub printed : word s boxed_at ≡ 0
  pub unclosed : closed s ≡ false
  pub allowed : (k : ℕ) (y : Message) → Numbered k → holds s k y → Allowed n c k y

-- ---- a delivery

module _ (n c : ℕ) (low : 1 ≤ n) (few : n ≤ 16) where
  pub ruled : Ruled (settings n)
  unfolding weights_right weight_right
  ruled =
      record {
        some = low;
        few = few;
        right = each_every (λ p. weight_right (2 ^ n - 1) p) n (λ p lo hi. rw (ones_weight n p lo hi few));
        sum = refl;
        ordered = omega arith;
        margin = omega (arith, ones_whole n few);
      }

  module _ (s : List ℕ) (x : Good n c s) (p : ℕ) (lo : 1 ≤ p) (hi : p ≤ n) (m : wire_message.Message) (proper : Proper FIRST_VERSION n p m packs) where
    abbrev b : List ℕ
    b = encode m FIRST_VERSION p 7 packs

    back : ReadBack FIRST_VERSION n 7 p m packs
    back = round_trip FIRST_VERSION n 7 p m packs (omega arith) lo hi proper

    layout : InLayout p m
    layout = in_layout_lem n p m few lo hi proper.layout

    is_stored : stored s ≡ Some (session_of s)
    unfolding stored
    is_stored = rw (sound_state (terms n) ruled s x.sound)

    is_read : read_message (version s) (session_of s).settings.n (session_of s).number p b ≡ Ok m
    unfolding session_of session_with
    is_read =
        ap (λ (y : Terms). read_message y.version y.settings.n (word s session_at % 2 ^ 32) p b) x.sound.terms
        ∙ ap (λ (k : ℕ). read_message FIRST_VERSION n (k % 2 ^ 32) p b) x.session
        ∙ back.message

    delivers : delivered s p b ≡ cond (place_held s p m) s (recorded s p m (drop 12 b))
    delivers = delivered_taken s p b m is_stored x.unclosed is_read

    recorded_allowed : place_held s p m ≡ false → Allowed n c p (meaning m (values_of m packs)) → (k : ℕ) (y : Message) → Numbered k → holds (recorded s p m (drop 12 b)) k y → Allowed n c k y
    recorded_allowed free may k y num h = of (held_recorded s (drop 12 b) p m x.sound.size layout free k num y h)
      where
        may_said : Allowed n c p (meaning m (values (count_of m) (drop 12 b)))
        may_said = subst (λ (xs : List ℕ). Allowed n c p (meaning m xs)) (sym back.all_values_lem) may

        of : holds s k y ⊎ ((k ≡ p) × (y ≡ meaning m (values (count_of m) (drop 12 b)))) → Allowed n c k y
        of (inl z) = x.allowed k y num z
        of (inr z) = subst (λ (j : ℕ). Allowed n c j y) (sym z.0) (subst (Allowed n c p) (sym z.1) may_said)

    pub record Said (F : List ℕ → Type 0) : Type 0 where
      pub good : Good n c (delivered s p b)
      pub keeps : Stays s (delivered s p b)
      pub fact : F (delivered s p b)

    module _ (may : Allowed n c p (meaning m (values_of m packs))) (F : List ℕ → Type 0) where
      said : (place_held s p m ≡ true → F s) → (place_held s p m ≡ false → F (recorded s p m (drop 12 b))) → Said F
      unfolding closed marked
      said was new = of (delivery_sound (terms n) ruled s x.sound p b)
        where
          by : (h : Bool) → place_held s p m ≡ h → ((k : ℕ) (y : Message) → Numbered k → holds (cond h s (recorded s p m (drop 12 b))) k y → Allowed n c k y) × Stays s (cond h s (recorded s p m (drop 12 b))) × F (cond h s (recorded s p m (drop 12 b)))
          by true e = (x.allowed, stays_same s, was e)
          by false e = (
            recorded_allowed e may,
            stays_recorded s (drop 12 b) x.sound.size p m layout e,
            new e,
          )

          of : Delivered (terms n) s (delivered s p b) → Said F
          of y =
              let z = by (place_held s p m) refl in
              record {
                good =
                    record {
                      sound = y.sound;
                      session = y.same session_at (inl (omega arith)) ∙ x.session;
                      printed = y.kind ∙ x.printed;
                      unclosed = ap (λ (w : ℕ). mark w 1) (y.same flags_at (inl (omega arith))) ∙ x.unclosed;
                      allowed = rw delivers z.0;
                    };
                keeps = rw delivers z.1;
                fact = rw delivers z.2;
              }

-- a message whose place is taken has its mark
place_mark : (n c : ℕ) (s : List ℕ) → Good n c s → (p : ℕ) → Numbered p → (m : wire_message.Message) → InLayout p m → NotCommit m → Allowed n c p (meaning m packs) → place_held s p m ≡ true → marked s (mark_word_of p m) (mark_of p m) ≡ true
unfolding place_held send_held echo_held ready_held est_held aux_held
place_mark n c s x p num (wire.Send i v) h k a e = e
place_mark n c s x p num (wire.Echo i v) h k a e = e
place_mark n c s x p num (wire.Ready i v) h k a e = e
place_mark n c s x p num (wire.Est i r b) h k a e = e
place_mark n c s x p num (wire.Aux i r b) h k a e = rw a (zero (aux_held s i r 0 p) refl (aux_held s i r 1 p) refl e)
  where
    zero : (u : Bool) → aux_held s i r 0 p ≡ u → (v : Bool) → aux_held s i r 1 p ≡ v → u || v ≡ true → aux_held s i r 0 p ≡ true
    zero true f v g d = f
    zero false f true g d =
        let one : ◌≡◌ {A = ℕ} 1 0 = x.allowed p (AUX i r 1) num (record { vote = record { instance = record { low = h.2; high = h.3 }; first = h.4; last = h.5; bit = omega arith }; there = g }) in
        absurd (omega arith)
    zero false f false g d = absurd (false≢true d)
place_mark n c s x p num (wire.Commit j) h k a e = absurd k
place_mark n c s x p num (wire.Finish i b) h k a e = absurd a

module _ (n c : ℕ) (low : 1 ≤ n) (few : n ≤ 16) (s : List ℕ) (x : Good n c s) (p : ℕ) (lo : 1 ≤ p) (hi : p ≤ n) where
  pub say_mark : (m : wire_message.Message) (proper : Proper FIRST_VERSION n p m packs) → NotCommit m → Allowed n c p (meaning m packs) → Allowed n c p (meaning m (values_of m packs)) → Said n c low few s x p lo hi m proper (λ t. marked t (mark_word_of p m) (mark_of p m) ≡ true)
  say_mark m proper k a may =
      said n c low few s x p lo hi m proper may (λ t. marked t (mark_word_of p m) (mark_of p m) ≡ true)
      (λ e. place_mark n c s x p (record { low = lo; high = omega arith }) m (layout n c low few s x p lo hi m proper) k a e)
      (λ e. new_recorded s (drop 12 (encode m FIRST_VERSION p 7 packs)) x.sound.size p m (layout n c low few s x p lo hi m proper) k)

  pub commit_proper : Proper FIRST_VERSION n p (wire.Commit n) packs
  commit_proper = record { kind = omega (arith, first_last); layout = (low, omega arith); held = omega (arith, packs_many); fits = packs_fit n; rising = packs_rise n few }

  pub say_commit : p ≤ c → Said n c low few s x p lo hi (wire.Commit n) commit_proper (λ t. commit_held t p ≡ true)
  unfolding place_held
  say_commit l =
      said n c low few s x p lo hi (wire.Commit n) commit_proper (refl, l) (λ t. commit_held t p ≡ true)
      (λ e. e)
      (λ e. commit_recorded s (drop 12 (encode (wire.Commit n) FIRST_VERSION p 7 packs)) x.sound.size p n low (omega arith))
