-- The statement of specs/FirstVersion.antt.
use Rattle.std.specs.Prelude.{ℕ, ◌≤◌, false, List, ◌≡◌, refl, drop, Result, Ok, Err}
use Rattle.std.proofs.lemmas.Bool.{false≢true}
use Rattle.std.proofs.Common.{inl, inr, sym, ◌∙◌, arith}
use Rattle.settings.specs.Versions.{finishing}
use Rattle.settings.specs.declared.Settings.{Settings}
use Rattle.records.specs.Records.{version}
use Rattle.records.specs.Words.{word}
use Rattle.acts.specs.declared.Act.{Act}
use Rattle.acts.specs.declared.Act.TheVariants.{Idle, InForce, Commit, Send, Echo, Ready, Start, Relay, Aux, Move, Finish}
use Rattle.wire.specs.Message.{COMMIT, kind_of}
use Rattle.wire.specs.declared.Message.{Message}
use Rattle.wire.specs.declared.Message.TheVariants as message
use Rattle.delivery.specs.Delivery.{verdict, words_after, delivered}
use Rattle.delivery.specs.laws.Frame.{InLayout, Changed, word_recorded}
use Rattle.delivery.specs.laws.Accepting.{accepting}
use Rattle.delivery.specs.laws.Versions.{first_kinds}
use Rattle.turn.specs.Due.{due}
use Rattle.turn.specs.Turn.{admits, taking, turn_words}
use Rattle.turn.specs.laws.Admitting.{admitting, admitted_ruled}
use Rattle.turn.specs.laws.Due.{due_told}
use Rattle.turn.specs.laws.Told.{ActTold}
use Rattle.turn.proofs.laws.Frame.{Spared, Placed, told_placed, applied_other}
use Rattle.call_laws.specs.FirstVersion.{First, FinishWord, FirstVersion}
use Rattle.call_laws.proofs.laws.Earlier.{plain, calls_as_earlier, opens_as_earlier}
use Rattle.call_laws.proofs.laws.SettingsKept.{accepted_layout}
use Rattle.settings.specs.declared.refusal.Refusal.{Refusal}
use Rattle.session.specs.declared.Session.{Session}

-- no message but a FINISH is recorded there
spared : (p : ℕ) (m : Message) (a : ℕ) → InLayout p m → kind_of m ≤ COMMIT → FinishWord a → Changed p m a → ⊥
spared p (message.Send i x) a h k w (inl e) = omega (arith, w.low, w.high)
spared p (message.Send i x) a h k w (inr e) = omega (arith, w.low, w.high)
spared p (message.Echo i x) a h k w (inl e) = omega (arith, w.low, w.high)
spared p (message.Echo i x) a h k w (inr e) = omega (arith, w.low, w.high)
spared p (message.Ready i x) a h k w (inl e) = omega (arith, w.low, w.high)
spared p (message.Ready i x) a h k w (inr e) = omega (arith, w.low, w.high)
spared p (message.Est i r b) a h k w (inl e) = omega (arith, w.low, w.high)
spared p (message.Est i r b) a h k w (inr e) = omega (arith, w.low, w.high)
spared p (message.Aux i r b) a h k w e = omega (arith, w.low, w.high)
spared p (message.Commit c) a h k w (inl e) = omega (arith, w.low, w.high)
spared p (message.Commit c) a h k w (inr e) = omega (arith, w.low, w.high)
spared p (message.Finish i b) a h k w e = omega arith

delivery_keeps : (s : List ℕ) (link : ℕ) (b : List ℕ) (a : ℕ) → First s → FinishWord a → word (delivered s link b) a ≡ word s a
unfolding delivered words_after
delivery_keeps s link b a first w = go (verdict s link b) refl
  where
    go : (y : Result Message Refusal) → verdict s link b ≡ y → word (words_after y s link b) a ≡ word s a
    go (Err k) e = refl
    go (Ok m) e =
        word_recorded s (drop 12 b) link m a
        (spared link m a (accepted_layout s link b m (accepting s link b m e)) (first_kinds s link b m (plain s first) e) w)

-- no act but a FINISH is marked there
unmarked : (g : Settings) (s : List ℕ) (a : Act) (j : ℕ) → finishing (version s) ≡ false → ActTold g s a → Placed a → FinishWord j → Spared a j
unmarked g s Idle j f t p w = tt
unmarked g s InForce j f t p w = λ e. omega (arith, w.low)
unmarked g s (Commit k) j f t p w = λ e. omega (arith, w.low)
unmarked g s (Send v) j f t p w = λ e. omega (arith, w.low)
unmarked g s (Echo i v) j f t p w = λ e. omega (arith, w.low)
unmarked g s (Ready i v) j f t p w = λ e. omega (arith, w.low)
unmarked g s (Start i b) j f t p w = (λ e. omega (arith, w.low), λ e. omega (arith, w.low))
unmarked g s (Relay i r b) j f t p w = λ e. omega (arith, w.low)
unmarked g s (Aux i r b) j f t p w = λ e. omega (arith, w.low)
unmarked g s (Move i r v) j f t p w = (λ e. omega (arith, w.low), λ e. omega (arith, w.low), λ e. omega (arith, w.low), λ e. omega (arith, w.low))
unmarked g s (Finish i b) j f t p w = absurd (false≢true (sym f ∙ t.1.allowed))

turn_keeps : (s : List ℕ) (room a : ℕ) → First s → FinishWord a → word (turn_words s room) a ≡ word s a
unfolding taking turn_words
turn_keeps s room a first w = go (admits s room) refl
  where
    go : (y : Result Session Refusal) → admits s room ≡ y → word (turn_words s room) a ≡ word s a
    go (Err k) e = rw e
    go (Ok x) e =
        let r = admitted_ruled s room x (admitting s room x e) in
        let g = x.settings in
        let t = due_told g s r in
        rw e (applied_other s (due g s) a (λ z. omega (arith, w.low)) (unmarked g s (due g s) a (plain s first) t (told_placed g s r (due g s) t) w))

pub first_version : FirstVersion
first_version =
    record {
      openings = opens_as_earlier;
      calls = calls_as_earlier;
      accepted = λ s link b m e a. first_kinds s link b m (plain s e) a;
      delivery_words = delivery_keeps;
      turn_words_lem = turn_keeps;
    }
