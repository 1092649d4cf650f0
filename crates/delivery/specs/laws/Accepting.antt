-- What an accepted delivery tells, and the cases of the call.
use Rattle.std.specs.Prelude.{ℕ, ◌-◌, ◌≤◌, ◌<◌, Bool, true, false, cond, ◌≡◌, refl, length, Option, Some, None, Result, Ok, Err}
use mathlib.Core.List.{List}
use Rattle.std.proofs.Common.{sym, ◌∙◌, arith, Fits}
use Rattle.std.proofs.Math.Path.{ap}
use Rattle.std.proofs.Math.ListN.{take, drop, length-drop}
use Rattle.std.proofs.Math.Seq.{take_all}
use Rattle.std.specs.Int.{w8}
use Rattle.records.specs.Records.{closed, version}
use Rattle.session.specs.Session.{is_state, stored, session_with, session_of}
use Rattle.session.specs.laws.Session.{State, state_is, Read, held_read}
use Rattle.session.specs.declared.Session.{Session}
use Rattle.wire.specs.Reading.{read_message}
use Rattle.wire_laws.proofs.laws.Forms.{Form}
use Rattle.wire_laws.proofs.Converse.{Passed, taken_passed, taken_form}
use Rattle.wire.specs.declared.Message.{Message}
use Rattle.wire.specs.declared.Message.TheVariants.{Send, Echo, Ready, Est, Aux, Commit, Finish}
use Rattle.delivery.specs.Delivery.{place_held, judged, verdict, recorded, answer_of, words_after, deliver_answer, delivered}
use Rattle.delivery.specs.laws.Stored.{verdict_for, verdict_stored}
use Rattle.settings.specs.declared.refusal.Refusal.{Refusal}
use Rattle.settings.specs.declared.refusal.Refusal.TheVariants as refusal

pub link_fits : (w n session link : ℕ) (b : List ℕ) (y : Result Message Refusal) (m : Message) → y ≡ read_message w n session link b → y ≡ Ok m → n < 256 → Fits w8 link
link_fits w n session link b y m e t h =
    let l : link ≤ n = (taken_passed w n session link b m (sym e ∙ t)).link_high in
    record { fits = omega arith }

pub record Accepting (s : List ℕ) (link : ℕ) (b : List ℕ) (m : Message) : Type 0 where
  pub state : State s
  pub unclosed : closed s ≡ false
  pub taken : read_message (version s) (session_of s).settings.n (session_of s).number link b ≡ Ok m
  pub free : place_held s link m ≡ false

pub accepting : (s : List ℕ) (link : ℕ) (b : List ℕ) (m : Message) → verdict s link b ≡ Ok m → Accepting s link b m
unfolding verdict_for judged
accepting s link b m e = of (stored s) refl (sym (verdict_stored s link b) ∙ e)
  where
    place : (x : Session) → Read s x → closed s ≡ false → (k : Message) → read_message (version s) x.settings.n x.number link b ≡ Ok k → (h : Bool) → place_held s link k ≡ h → cond h (Err refusal.Held) (Ok k) ≡ Ok m → Accepting s link b m
    place x r c k t true f g = absurd (let z : ◌≡◌ {A = ℕ} 0 1 = cc in omega arith)
    place x r c k t false f g =
        let q : k ≡ m = cc in
        record {
          state = r.state;
          unclosed = c;
          taken = ap (λ (y : Session). read_message (version s) y.settings.n y.number link b) (sym r.same) ∙ t ∙ ap Ok q;
          free = ap (λ (y : Message). place_held s link y) (sym q) ∙ f;
        }

    message : (x : Session) → Read s x → closed s ≡ false → (y : Result Message Refusal) → read_message (version s) x.settings.n x.number link b ≡ y → judged s link y ≡ Ok m → Accepting s link b m
    message x r c (Err k) t f = absurd (let z : ◌≡◌ {A = ℕ} 0 1 = cc in omega arith)
    message x r c (Ok k) t f = place x r c k t (place_held s link k) refl f

    open_session : (x : Session) → Read s x → (c : Bool) → closed s ≡ c → cond c (Err refusal.Closed) (judged s link (read_message (version s) x.settings.n x.number link b)) ≡ Ok m → Accepting s link b m
    open_session x r true c f = absurd (let z : ◌≡◌ {A = ℕ} 0 1 = cc in omega arith)
    open_session x r false c f = message x r c (read_message (version s) x.settings.n x.number link b) refl f

    of : (y : Option Session) → stored s ≡ y → verdict_for y s link b ≡ Ok m → Accepting s link b m
    of None t f = absurd (let z : ◌≡◌ {A = ℕ} 0 1 = cc in omega arith)
    of (Some x) t f = open_session x (held_read s x t) (closed s) refl f

-- a message that is taken is recorded where its place is free, and changes nothing where it is not
pub delivered_taken : (s : List ℕ) (link : ℕ) (b : List ℕ) (m : Message) → stored s ≡ Some (session_of s) → closed s ≡ false → read_message (version s) (session_of s).settings.n (session_of s).number link b ≡ Ok m → delivered s link b ≡ cond (place_held s link m) s (recorded s link m (drop 12 b))
unfolding delivered verdict_for judged words_after
delivered_taken s link b m is unclosed read = rw (verdict_stored s link b, is, unclosed, read) (go (place_held s link m))
  where
    go : (h : Bool) → words_after (cond h (Err refusal.Held) (Ok m)) s link b ≡ cond h s (recorded s link m (drop 12 b))
    go true = refl
    go false = refl

module _ (s : List ℕ) (link : ℕ) (b : List ℕ) (v : Result Message Refusal) (e : v ≡ verdict s link b) where
  module _ (m : Message) (t : v ≡ Ok m) where
    told : Passed (version s) (session_of s).settings.n (session_of s).number link b m
    told = taken_passed _ _ _ link b m (accepting s link b m (sym e ∙ t)).taken

    few : (session_of s).settings.n ≤ 16
    unfolding session_of session_with
    few = (accepting s link b m (sym e ∙ t)).state.ruled.few

    pub accepted_link : Fits w8 link
    accepted_link = record { fits = omega (arith, told.link_high, few) }

    pub accepted_state : is_state s ≡ true
    accepted_state = state_is s (accepting s link b m (sym e ∙ t)).state

    pub accepted_long : 12 ≤ length b
    accepted_long = told.long

    pub accepted_short : length b ≤ 140
    accepted_short = of m (taken_form _ _ _ link b m (accepting s link b m (sym e ∙ t)).taken)
      where
        of : (k : Message) → Form (version s) (session_of s).settings.n (session_of s).number link b k → length b ≤ 140
        of (Send i v) f = omega (arith, f.size)
        of (Echo i v) f = omega (arith, f.size)
        of (Ready i v) f = omega (arith, f.size)
        of (Est i r v) f = omega (arith, f.size)
        of (Aux i r v) f = omega (arith, f.size)
        of (Commit c) f = omega (arith, f.size, f.layout.1, few)
        of (Finish i v) f = omega (arith, f.size)

    pub accepted_answer : Ok tt ≡ deliver_answer s link b
    unfolding deliver_answer answer_of
    accepted_answer = rw (← e, t)

    -- the part from byte 12 to the end
    pub accepted_words : (r : List ℕ) → r ≡ recorded s link m (take (length b - 12) (drop 12 b)) → r ≡ delivered s link b
    unfolding delivered words_after
    accepted_words r f =
        let whole : take (length b - 12) (drop 12 b) ≡ drop 12 b = take_all (length b - 12) (drop 12 b) (simp length-drop (omega arith)) in
        rw (← e, t) (f ∙ ap (λ (v : List ℕ). recorded s link m v) whole)

  module _ (k : Refusal) (t : v ≡ Err k) where
    pub refused_answer : Err k ≡ deliver_answer s link b
    unfolding deliver_answer answer_of
    refused_answer = rw (← e, t)

    pub refused_words : s ≡ delivered s link b
    unfolding delivered words_after
    refused_words = rw (← e, t)

pub ruleset deliver_cases = (accepted_link, accepted_state, accepted_long, accepted_answer, accepted_words, refused_answer, refused_words)
