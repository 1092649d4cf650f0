-- The memory of a drill is sound at all times, whatever its input.
use Rattle.std.specs.Prelude.{Option, Some, None, ℕ, ◌+◌, ◌-◌, ◌≤◌, ◌<◌, ◌^◌, Bool, true, false, cond, ◌&&◌, List, [], ◌∷◌, ◌≡◌, refl, length, drop, eqb, leb, ltb, Ok}
use Rattle.std.proofs.lemmas.Bool.{false≢true}
use Rattle.std.proofs.Common.{sym, ◌∙◌, arith, get_or-take, get_or-drop, length-take-le, le-leb, leb-true, eq-eqb}
use Rattle.std.proofs.Math.Decide.{ℕ_discrete}
use Rattle.quorum.specs.laws.Bools.{and_left, and_right}
use Rattle.quorum.specs.Marks.{mark}
use Rattle.records.specs.Layout.{turns_at}
use Rattle.records.specs.Words.{word}
use Rattle.records.specs.laws.Words.{length_put}
use Rattle.settings.specs.Versions.{version_known}
use Rattle.records.specs.Words.{blank}
use Rattle.records.specs.laws.Fill.{length_blank, word_blank}
use Rattle.session.specs.Session.{numbered}
use Rattle.opening.specs.Given.{coins_given}
use Rattle.opening.specs.Arguments.{Arguments}
use Rattle.opening.specs.Opening.{open_answer, open_words, opened}
use Rattle.opening.specs.laws.Cases.{accepted}
use Rattle.opening.specs.laws.Opening.{length_first, first_n, first_version, first_turns}
use Rattle.drill_lines.specs.Automaton as lines
use Rattle.drill_lines.specs.declared.Line.{Line}
use Rattle.drill_lines.specs.declared.Line.TheVariants as line
use Rattle.drill_feeder.specs.Parts.{part, state_at, state_of, with_state, message_at, sender_at}
use Rattle.drill_feeder.specs.Lines.{drill_arguments, opened_at, message_delivered, lied, Memory, memory}
use Rattle.drill_feeder.specs.declared.Counts.{Counts}
use Rattle.drill_feeder.specs.declared.Members.{Members}
use Rattle.drill_core.specs.Judging.{is_first, is_setup, after_settings, is_bad, is_honest, is_liar, settings_open, settings_taken, judged_n, judged_c, judged_p, judged_t, judged_d, bytes_fit, judged_l, judged}
use Rattle.drill_core.specs.Preparing.{settings_given, none_given, coin_given, input_given, arguments_with, opened_with, open_if, opened_all}
use Rattle.drill_core.specs.Acting.{begun, called, World, world, setup_state, bad_state, running, acted, taken}
use Rattle.drill_core.specs.Feeding.{start_drill, next_line, with_byte, Drilling, drilling, settled, ended, fed_byte, fed_bytes, last_line, all_open, at_end, start_drilling}
use Rattle.drill_core.specs.declared.Phase.{Phase}
use Rattle.drill_core.specs.declared.Phase.TheVariants as phase
use Rattle.drill_core.specs.declared.Given.{Given}
use Rattle.drill_core.specs.declared.State.{State}
use Rattle.drill_core.specs.declared.Call.{Call}
use Rattle.drill_core.specs.declared.Call.TheVariants as call
use Rattle.drill_core.specs.declared.Verdict.{Verdict}
use Rattle.drill_core.specs.declared.Verdict.TheVariants as verdict
use Rattle.drill_laws.proofs.laws.States.{length_state_of, length_with_state, state_same, state_other}
use Rattle.drill_laws.specs.Sound.{turns_of}
use Rattle.drill_laws.proofs.laws.Sound.{Drilled, Sound, deliver_sound}
use Rattle.drill_laws.proofs.laws.Turns.{SoundIn, turned_sound}
use Rattle.drill_laws.proofs.laws.Runs.{steps_keep, if_keep, ran_sound}
use Rattle.std.specs.Result.{is_ok}
use Rattle.settings.specs.laws.Answers.{true_taken}

-- before a message is sent a state may be replaced by any that is within the bounds
reset : (w m : List ℕ) (c : Counts) (p : ℕ) → 1 ≤ p → p ≤ 4 → Sound w m c → c.sent ≡ 0 → (s : List ℕ) → length s ≡ 2048 → Drilled s → word s turns_at ≤ 400 →
    Sound (with_state w p s) m c
unfolding turns_of
reset w m c p lo hi h z s size n turns =
    let same : state_of (with_state w p s) p ≡ s = state_same w p h.words lo hi s size in
    record {
      words = length_with_state w p h.words lo hi s size;
      store = h.store;
      few = λ q l k. elim (ℕ_discrete q p) [
        | yes y ↦ rw (y, same) n
        | no y ↦ rw (state_other w p h.words lo hi s size q l k y) (h.few q l k)
      ];
      bound = λ q l k. elim (ℕ_discrete q p) [
        | yes y ↦ rw (y, same) turns
        | no y ↦ rw (state_other w p h.words lo hi s size q l k y) (h.bound q l k)
      ];
      sent = omega arith;
      offered = h.offered;
    }

open_sound : (w m : List ℕ) (c : Counts) (o : Arguments) → 1 ≤ o.own → o.own ≤ 4 → o.n ≤ 4 → o.version ≤ 1 → Sound w m c → c.sent ≡ 0 → Sound (opened_at w o) m c
unfolding opened_at opened turns_of
open_sound w m c o lo hi few one h z = go (is_ok (open_answer (length (state_of w o.own)) o))
  where
    go : (b : Bool) → Sound (with_state w o.own (cond b (open_words o) (state_of w o.own))) m c
    go true = reset w m c o.own lo hi h z (open_words o) (length_first o) (record { small = rw first_n few; first = rw (first_version o (omega arith)) one }) (rw first_turns (omega arith))
    go false = reset w m c o.own lo hi h z (state_of w o.own) (length_state_of w o.own h.words lo hi) (h.few o.own lo hi) (h.bound o.own lo hi)

opened_sound : (w m : List ℕ) (c : Counts) (g : Given) → g.members.n ≤ 4 → Sound w m c → c.sent ≡ 0 → Sound (opened_all g w) m c
unfolding opened_all open_if opened_with
opened_sound w m c g few h z =
    steps_keep (λ (v : List ℕ). Sound v m c) (open_if g) g.members.n
    (λ p lo hi v e. if_keep (λ (u : List ℕ). Sound u m c) (mark g.members.honest p) _ v (open_sound v m c (arguments_with g p _ _) lo (omega arith) few (omega arith) e z) e)
    w h

-- a call may have been made
unfoldable pub has_run : Phase → Bool
has_run phase.First = false
has_run phase.Setup = false
has_run phase.Running = true
has_run phase.Bad = true

first_early : (x : Phase) → is_first x ≡ true → has_run x ≡ false
unfolding is_first has_run
first_early phase.First e = refl
first_early phase.Setup e = absurd (false≢true e)
first_early phase.Running e = absurd (false≢true e)
first_early phase.Bad e = absurd (false≢true e)

setup_early : (x : Phase) → is_setup x ≡ true → has_run x ≡ false
unfolding is_setup has_run
setup_early phase.First e = absurd (false≢true e)
setup_early phase.Setup e = refl
setup_early phase.Running e = absurd (false≢true e)
setup_early phase.Bad e = absurd (false≢true e)

-- opening takes what the lines gave
pub record Openable (g : Given) : Type 0 where
  pub settings : settings_open g.members.n g.ta g.ts ≡ true
  pub coins : length g.coins ≡ 4

pub record SoundState (w m : List ℕ) (s : State) : Type 0 where
  pub sound : Sound w m s.counts
  pub few : s.given.members.n ≤ 4
  pub early : has_run s.phase ≡ false → s.counts.sent ≡ 0
  pub opens : after_settings s.phase ≡ true → Openable s.given

abbrev pub SoundWorld : World → Type 0
SoundWorld (world w m s) = SoundState w m s

-- what a verdict tells of the state it was given in
abbrev CallAllowed : Members → Call → Type 0
CallAllowed g (call.Turn p) = (1 ≤ p) × (p ≤ g.n)
CallAllowed g (call.Deliver k q) = (1 ≤ q) × (q ≤ g.n)
CallAllowed g (call.Lie q l) = (1 ≤ q) × (q ≤ g.n)
CallAllowed g call.Run = Unit {0}

abbrev Allowed : State → Option Verdict → Type 0
Allowed s None = Unit {0}
Allowed s (Some (verdict.Settings n ta ts session)) = (is_first s.phase ≡ true) × (settings_taken n ta ts session ≡ true)
Allowed s (Some (verdict.Coin i w)) = is_setup s.phase ≡ true
Allowed s (Some (verdict.Input p v)) = is_setup s.phase ≡ true
Allowed s (Some (verdict.Call a)) = (after_settings s.phase ≡ true) × CallAllowed s.given.members a

when_keep : {A : Type 0} (P : A → Type 0) (b : Bool) (u v : A) → (b ≡ true → P u) → P v → P (cond b u v)
when_keep P true u v f q = f refl
when_keep P false u v f q = q

numbered_bounds : (n p : ℕ) → numbered n p ≡ true → (1 ≤ p) × (p ≤ n)
unfolding numbered
numbered_bounds n p e = (leb-true 1 p (and_left (leb 1 p) (leb p n) e), leb-true p n (and_right (leb 1 p) (leb p n) e))

honest_bounds : (g : Members) (p : ℕ) → is_honest g p ≡ true → (1 ≤ p) × (p ≤ g.n)
unfolding is_honest
honest_bounds g p e = numbered_bounds g.n p (and_left (numbered g.n p) (mark g.honest p) e)

taken_open : (n ta ts session : ℕ) → settings_taken n ta ts session ≡ true → settings_open n ta ts ≡ true
unfolding settings_taken
taken_open n ta ts session e = and_left (settings_open n ta ts) (leb n 4) (and_left (settings_open n ta ts && leb n 4) (ltb session (2 ^ 32)) e)

taken_few : (n ta ts session : ℕ) → settings_taken n ta ts session ≡ true → n ≤ 4
unfolding settings_taken
taken_few n ta ts session e =
    leb-true n 4 (and_right (settings_open n ta ts) (leb n 4) (and_left (settings_open n ta ts && leb n 4) (ltb session (2 ^ 32)) e))

judged_allowed : (s : State) (l : Option Line) → Allowed s (judged s l)
unfolding judged judged_n judged_c judged_p judged_t judged_d judged_l
judged_allowed s None = tt
judged_allowed s (Some (line.N n ta ts session)) =
    when_keep (Allowed s) (is_first s.phase) _ _ (λ e. when_keep (Allowed s) (settings_taken n ta ts session) _ _ (λ f. (e, f)) tt) tt
judged_allowed s (Some (line.C i w)) =
    when_keep (Allowed s) (is_setup s.phase) _ _
    (λ e. when_keep (Allowed s) (numbered s.given.members.n i) _ _
    (λ f. when_keep (Allowed s) (mark s.given.named i) _ _ (λ h. tt)
    (when_keep (Allowed s) (ltb w (2 ^ 32)) _ _ (λ h. e) tt)) tt) tt
judged_allowed s (Some (line.P p v)) =
    when_keep (Allowed s) (is_setup s.phase) _ _ (λ e. when_keep (Allowed s) (is_liar s.given.members p) _ _ (λ f. e) tt) tt
judged_allowed s (Some (line.T p)) =
    when_keep (Allowed s) (after_settings s.phase) _ _ (λ e. when_keep (Allowed s) (is_honest s.given.members p) _ _ (λ f. (e, honest_bounds s.given.members p f)) tt) tt
judged_allowed s (Some (line.D k q)) =
    when_keep (Allowed s) (after_settings s.phase) _ _
    (λ e. when_keep (Allowed s) (numbered s.counts.sent k) _ _
    (λ f. when_keep (Allowed s) (is_honest s.given.members q) _ _ (λ h. (e, honest_bounds s.given.members q h)) tt) tt) tt
judged_allowed s (Some (line.L l)) =
    when_keep (Allowed s) (after_settings s.phase) _ _
    (λ e. when_keep (Allowed s) (is_liar s.given.members l.p) _ _
    (λ f. when_keep (Allowed s) (is_honest s.given.members l.q) _ _
    (λ h. when_keep (Allowed s) (bytes_fit l.kind l.instance l.round) _ _ (λ k. (e, honest_bounds s.given.members l.q h)) tt) tt) tt) tt
judged_allowed s (Some line.R) = when_keep (Allowed s) (after_settings s.phase) _ _ (λ e. (e, tt)) tt

-- calls
called_sound : (g : Given) (a : Call) (x : Memory) → g.members.n ≤ 4 → CallAllowed g.members a → SoundIn x → SoundIn (called g a x)
unfolding called message_delivered lied
called_sound g (call.Turn p) x few l h = turned_sound x p l.0 (omega (arith, l.1)) h
called_sound g (call.Deliver k q) (memory w m c) few l h = deliver_sound w m (message_at m k) c q (sender_at m k) l.0 (omega (arith, l.1)) h
called_sound g (call.Lie q x) (memory w m c) few l h = deliver_sound w m _ c q x.p l.0 (omega (arith, l.1)) h
called_sound g call.Run x few l h = ran_sound g.members few 1601 x h

pub begun_sound : (x : Phase) (g : Given) (w m : List ℕ) (c : Counts) → g.members.n ≤ 4 → (has_run x ≡ false → c.sent ≡ 0) → Sound w m c → Sound (begun x g w) m c
unfolding begun
begun_sound x g w m c few z h = when_keep (λ (v : List ℕ). Sound v m c) (is_setup x) _ _ (λ e. opened_sound w m c g few h (z (setup_early x e))) h

running_sound : (g : Given) (x : Memory) → g.members.n ≤ 4 → Openable g → SoundIn x → SoundWorld (running g x)
unfolding running has_run
running_sound g (memory w m c) few o h = record { sound = h; few = few; early = λ e. absurd (false≢true (sym e)); opens = λ e. o }

setup_after : (x : Phase) → is_setup x ≡ true → after_settings x ≡ true
unfolding is_setup after_settings
setup_after phase.First e = e
setup_after phase.Setup e = refl
setup_after phase.Running e = refl
setup_after phase.Bad e = e

coin_openable : (g : Given) (i k : ℕ) → Openable g → Openable (coin_given g i k)
unfolding coin_given
coin_openable g i k h = record { settings = h.settings; coins = length_put g.coins (i - 1) k ∙ h.coins }

input_openable : (g : Given) (p v : ℕ) → Openable g → Openable (input_given g p v)
unfolding input_given
input_openable g p v h = record { settings = h.settings; coins = h.coins }

acted_sound : (v : Option Verdict) (w m : List ℕ) (s : State) → Allowed s v → SoundState w m s → SoundWorld (acted v (world w m s))
unfolding acted bad_state setup_state settings_given coin_given input_given has_run after_settings
acted_sound None w m s l h =
    record { sound = h.sound; few = h.few; early = λ e. absurd (false≢true (sym e)); opens = λ e. absurd (false≢true e) }
acted_sound (Some (verdict.Settings n ta ts session)) w m s l h =
    record {
      sound = h.sound;
      few = taken_few n ta ts session l.1;
      early = λ e. h.early (first_early s.phase l.0);
      opens = λ e. record { settings = taken_open n ta ts session l.1; coins = refl };
    }
acted_sound (Some (verdict.Coin i k)) w m s l h =
    record {
      sound = h.sound;
      few = h.few;
      early = λ e. h.early (setup_early s.phase l);
      opens = λ e. coin_openable s.given i k (h.opens (setup_after s.phase l));
    }
acted_sound (Some (verdict.Input p v)) w m s l h =
    record {
      sound = h.sound;
      few = h.few;
      early = λ e. h.early (setup_early s.phase l);
      opens = λ e. input_openable s.given p v (h.opens (setup_after s.phase l));
    }
acted_sound (Some (verdict.Call a)) w m s l h =
    running_sound s.given _ h.few (h.opens l.0)
    (called_sound s.given a (memory (begun s.phase s.given w) m s.counts) h.few l.1 (begun_sound s.phase s.given w m s.counts h.few h.early h.sound))

taken_sound : (l : Option Line) (x : World) → SoundWorld x → SoundWorld (taken l x)
unfolding taken
taken_sound l (world w m s) h = acted_sound (judged s l) w m s (judged_allowed s l) h

-- bytes
abbrev pub SoundDrill : Drilling → Type 0
SoundDrill (drilling w m d) = SoundState w m d.state

settled_sound : (n : ℕ) (x : World) → SoundWorld x → SoundDrill (settled n x)
unfolding settled next_line
settled_sound n (world w m s) h = h

ended_sound : (x : Drilling) → SoundDrill x → SoundDrill (ended x)
unfolding ended
ended_sound (drilling w m d) h = settled_sound d.number _ (taken_sound (lines.finished d.reader) (world w m d.state) h)

fed_sound : (x : Drilling) (c : ℕ) → SoundDrill x → SoundDrill (fed_byte x c)
unfolding fed_byte with_byte
fed_sound (drilling w m d) c h =
    if_keep SoundDrill (is_bad d.state.phase) _ _ h (if_keep SoundDrill (eqb c 10) _ _ (ended_sound (drilling w m d) h) h)

pub all_fed_sound : (x : Drilling) (b : List ℕ) → SoundDrill x → SoundDrill (fed_bytes x b)
unfolding fed_bytes
all_fed_sound x [] h = h
all_fed_sound x (c ∷ b) h = all_fed_sound (fed_byte x c) b (fed_sound x c h)

last_sound : (x : Drilling) → SoundDrill x → SoundDrill (last_line x)
unfolding last_line
last_sound (drilling w m d) h = if_keep SoundDrill d.begun _ _ (ended_sound (drilling w m d) h) h

all_open_sound : (x : Drilling) → SoundDrill x → SoundDrill (all_open x)
unfolding all_open
all_open_sound (drilling w m d) h =
    record {
      sound = begun_sound d.state.phase d.state.given w m d.state.counts h.few h.early h.sound;
      few = h.few;
      early = h.early;
      opens = h.opens;
    }

pub end_sound : (x : Drilling) → SoundDrill x → SoundDrill (at_end x)
unfolding at_end
end_sound x h = all_open_sound (last_line x) (last_sound x h)

-- at the start
word_state_of : (w : List ℕ) (p j : ℕ) → length w ≡ 8192 → 1 ≤ p → p ≤ 4 → j < 2048 → word (state_of w p) j ≡ word w (state_at p + j)
unfolding state_of part word
word_state_of w p j size lo hi l =
    rw (le-leb (state_at p + 2048) (length w) (omega arith), get_or-take 2048 (drop (state_at p) w) j 0 l, get_or-drop (state_at p) w j 0)

blank_state : (p j : ℕ) → 1 ≤ p → p ≤ 4 → j < 2048 → word (state_of (blank 8192) p) j ≡ 0
blank_state p j lo hi l = word_state_of (blank 8192) p j (length_blank 8192) lo hi l ∙ word_blank 8192 (state_at p + j) (omega arith)

pub start_sound : SoundDrill start_drilling
unfolding start_drilling start_drill none_given settings_given turns_of after_settings
start_sound =
    record {
      sound =
          record {
            words = length_blank 8192;
            store = length_blank 70496;
            few = λ p lo hi. record { small = rw (blank_state p 0 lo hi (omega arith)) (omega arith); first = rw (blank_state p 143 lo hi (omega arith)) (omega arith) };
            bound = λ p lo hi. rw (blank_state p 6 lo hi (omega arith)) (omega arith);
            sent = omega arith;
            offered = omega arith;
          };
      few = omega arith;
      early = λ e. refl;
      opens = λ e. absurd (false≢true e);
    }

-- after any input
pub input_sound : (input : List ℕ) → SoundDrill (fed_bytes start_drilling input)
input_sound input = all_fed_sound start_drilling input start_sound

-- the openings of the honest ones are accepted
pub opening_accepted : (w : List ℕ) (g : Given) (p : ℕ) → length w ≡ 8192 → g.members.n ≤ 4 → Openable g → 1 ≤ p → p ≤ g.members.n →
    open_answer (length (state_of w p)) (arguments_with g p (word g.inputs (p - 1)) g.coins) ≡ Ok tt
unfolding settings_open open_answer version_known coins_given numbered
opening_accepted w g p size few o lo hi =
    let n : ℕ = g.members.n in
    let first : Arguments = drill_arguments n g.ta g.ts 1 0 0 (blank n) in
    let v = (accepted 2048 first (true_taken (open_answer 2048 first) o.settings)).valid in
    rw (length_state_of w p size lo (omega arith), v, le-leb 1 p lo, le-leb p n hi, le-leb n 16 (omega arith), length-take-le n g.coins (omega (arith, o.coins)), eq-eqb n n refl)
