-- A turn keeps the words sound, and is counted where it acts.
use Rattle.std.specs.Prelude.{ℕ, ◌+◌, ◌≤◌, ◌<◌, Bool, true, false, cond, List, ◌≡◌, refl, ltb, length, Ok}
use Rattle.std.proofs.Common.{subst, ◌∙◌, arith}
use Rattle.settings.specs.Rules.{Ruled}
use Rattle.settings.specs.Settings.{round_limit}
use Rattle.settings.specs.declared.Settings.{Settings}
use Rattle.records.specs.Layout.{own_at, turns_at, boxed_at, commit_count_at}
use Rattle.records.specs.Words.{word}
use Rattle.records.specs.Records.{closed, coin}
use Rattle.acts.specs.Acts.{is_due}
use Rattle.acts.specs.declared.Act.{Act}
use Rattle.acts.specs.declared.Act.TheVariants.{Idle, InForce, Commit, Send, Echo, Ready, Start, Relay, Aux, Move, Finish}
use Rattle.votes.specs.Votes.{estimate}
use Rattle.session.specs.Session.{settings_of}
use Rattle.session.specs.declared.Session.{Session}
use Rattle.wire.specs.declared.Message.TheVariants as message
use Rattle.turn.specs.Due.{due}
use Rattle.turn.specs.laws.Told.{ActTold}
use Rattle.turn.specs.Turn.{move_outcome, outcome_of, applied, turn_outcome, turn_words}
use Rattle.turn.proofs.laws.Frame.{Placed, told_placed, setting, held, between, length_applied, applied_idle, applied_kept, applied_turns}
use Rattle.turn.specs.laws.Admitting.{admitted_settings}
use Rattle.turn.specs.laws.Turn.{Taken, Way, refused, taken, way}
use Rattle.turn.specs.declared.Outcome.TheVariants as outcome
use Rattle.journal.specs.Journal.{acts}
use Rattle.turn_bound.specs.TurnBound.{Terms, terms_of}
use Rattle.turn_bound.proofs.laws.Raising.{act_orderly}
use Rattle.turn_bound.proofs.laws.Finishes.{act_measured, act_sent}
use Rattle.turn_bound.proofs.laws.Sound.{Sound, same_settings, same_version}

-- an outcome acts where an act was due
outcome_acts : (own : ℕ) (s : List ℕ) (a : Act) → acts (Ok (outcome_of own s a)) ≡ is_due a
unfolding outcome_of move_outcome
outcome_acts own s Idle = refl
outcome_acts own s InForce = refl
outcome_acts own s (Commit k) = refl
outcome_acts own s (Send v) = refl
outcome_acts own s (Echo i v) = refl
outcome_acts own s (Ready i v) = refl
outcome_acts own s (Start i b) = refl
outcome_acts own s (Relay i r b) = refl
outcome_acts own s (Aux i r b) = refl
outcome_acts own s (Finish i b) = refl
outcome_acts own s (Move i r v) = go (ltb r round_limit)
  where
    go : (t : Bool) → acts (Ok (cond t (outcome.Sent (message.Est i (r + 1) (estimate (coin s i r) v))) outcome.MovedOut)) ≡ true
    go true = refl
    go false = refl

-- the words after an act: the count is one more where the act was due
record Acted (k : Terms) (s t : List ℕ) (b : Bool) : Type 0 where
  sound : Sound k t
  count : word t turns_at ≡ cond b (word s turns_at + 1) (word s turns_at)

module _ (k : Terms) (ruled : Ruled k.settings) (s : List ℕ) (h : Sound k s) where
  abbrev g : Settings
  g = k.settings

  module _ (unclosed : closed s ≡ false) (a : Act) (told : ActTold g s a) where
    placed : Placed a
    placed = told_placed g s ruled a told

    kept : (j : ℕ) → j < 6 → word (applied s a) j ≡ word s j
    kept j l = applied_kept s a placed j (setting l)

    late : (j : ℕ) → 141 ≤ j → j < 144 → word (applied s a) j ≡ word s j
    late j lo hi = applied_kept s a placed j (between (omega arith) hi)

    same_terms : terms_of (applied s a) ≡ terms_of s
    unfolding settings_of
    same_terms = rw (kept 0 (omega arith), kept 1 (omega arith), kept 2 (omega arith), late 141 (omega arith) (omega arith), late 143 (omega arith) (omega arith))

    counted_one : is_due a ≡ true → word (applied s a) turns_at ≡ word s turns_at + 1
    counted_one d = applied_turns s a placed (omega (arith, h.size)) d

    due_sound : is_due a ≡ true → Sound k (applied s a)
    due_sound d =
        record {
          size = length_applied s a ∙ h.size;
          terms = same_terms ∙ h.terms;
          known = h.known;
          own_low = omega (arith, kept own_at (omega arith), h.own_low);
          own_high = omega (arith, kept own_at (omega arith), h.own_high);
          kind = omega (arith, late boxed_at (omega arith) (omega arith), h.kind);
          counts = λ p low high. omega (arith, applied_kept s a placed (commit_count_at p) (held (omega arith) (omega (arith, ruled.few))), h.counts p low high);
          orderly = act_orderly s h.size g ruled h.orderly unclosed a told;
          sent = act_sent s h.size g ruled h.orderly unclosed k.version (same_version k ruled s h) h.sent a told;
          turns = omega (arith, counted_one d, h.turns, act_measured s h.size g ruled h.orderly unclosed a d told);
        }

    act_sound : (b : Bool) → is_due a ≡ b → Acted k s (applied s a) b
    act_sound true e = record { sound = due_sound e; count = counted_one e }
    act_sound false e = rw (applied_idle s a e) (record { sound = h; count = refl })

  -- what a turn lent the bytes out leaves
  pub record Turned (out : List ℕ) : Type 0 where
    pub sound : Sound k (turn_words s (length out))
    pub count : word (turn_words s (length out)) turns_at ≡ cond (acts (turn_outcome s (length out))) (word s turns_at + 1) (word s turns_at)

  module _ (out : List ℕ) where
    taken_sound : (x : Session) → Taken s out x → Turned out
    taken_sound x t =
        let same : x.settings ≡ g = admitted_settings s (length out) x t.admits ∙ same_settings k ruled s h in
        let a : Act = due x.settings s in
        of (act_sound t.admits.unclosed a (subst (λ (y : Settings). ActTold y s a) same t.told) (is_due a) refl)
      where
        of : Acted k s (applied s (due x.settings s)) (is_due (due x.settings s)) → Turned out
        of y =
            record {
              sound = rw t.words y.sound;
              count = rw (t.words, t.answer, outcome_acts x.own s (due x.settings s)) y.count;
            }

    pub turn_sound : Turned out
    turn_sound = of (way s out)
      where
        of : Way s out → Turned out
        of (refused k r) = record { sound = rw r.words h; count = rw (r.words, r.answer) refl }
        of (taken x t) = taken_sound x t
