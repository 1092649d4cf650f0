-- The cases of the code.
use Rattle.std.specs.Prelude.{ℕ, ◌≤◌, Bool, true, false, ◌||◌, cond, List, [], ◌≡◌, refl, length, take, ltb, Option, Some, None, Result, Ok, Err}
use Rattle.std.proofs.Math.Path.{sym, ap}
use Rattle.std.proofs.Common.{◌∙◌, arith, eq-eqb, ne_eqb}
use Rattle.settings.specs.Rules.{Ruled}
use Rattle.settings.specs.Settings.{quorum}
use Rattle.settings.specs.declared.Settings.{Settings}
use Rattle.quorum.specs.Lowest.{lowest}
use Rattle.quorum.specs.laws.Lowest.{lowest_le}
use Rattle.records.specs.Records.{turn_count, closed}
use Rattle.records.specs.Sets.{SetRoom, SetCopied}
use Rattle.records.specs.Words.{copied}
use Rattle.commits.specs.Commits.{set_leads, set_leader, set_of, leading_set}
use Rattle.exits.specs.Exits.{Exit, number_or_none, named}
use Rattle.exits.specs.Exits.{exit_now}
use Rattle.exits.specs.Stated.{Stated}
use Rattle.exits.specs.declared.Named.{Named}
use Rattle.session.specs.laws.Cases.{size_wrong}
use Rattle.session.specs.Session.{stored}
use Rattle.session.specs.declared.Session.{Session}
use Rattle.report.specs.Report.{in_force_set, figures_of, admits, giving, report_answer, report_named, report_in_force}
use Rattle.report.specs.laws.Report.{Admitting, admitting}
use Rattle.report.specs.declared.Figures.{Figures}
use Rattle.report.specs.laws.Stored.{admitted_in, admitted_for, admits_stored}
use Rattle.wire.specs.Message.{at_front}
use Rattle.settings.specs.declared.refusal.Refusal.{Refusal}
use Rattle.settings.specs.declared.refusal.Refusal.TheVariants as refusal

-- what is asked of the code

-- the lowest sender that holds the set in force, and 0 if none is
unfoldable pub in_force_sender : Settings → List ℕ → ℕ
in_force_sender g s = cond (closed s) (set_leader g s (quorum g)) 0

pub record SetWritten (xs old new : List ℕ) (count : ℕ) : Type 0 where
  pub words : new ≡ at_front xs old
  pub counted : count ≡ length xs

pub record Room (g : Settings) (s out : List ℕ) : Type 0 where
  pub ruled : Ruled g
  pub size : length s ≡ 2048
  pub room : 16 ≤ length out

pub record Written (g : Settings) (s a b a' b' : List ℕ) (r : Figures) : Type 0 where
  pub figures : r ≡ figures_of g s
  pub named_words_lem : a' ≡ at_front (exit_now g s).names a
  pub in_force_words_lem : b' ≡ at_front (in_force_set g s) b

-- the refusals

module _ (g : Settings) (a b : ℕ) (t : Bool) (e : t ≡ (ltb a 16 || ltb b 16)) where
  pub short : t ≡ true → Err refusal.Short ≡ admitted_in g a b
  unfolding admitted_in
  short h = rw (← e, h)

  pub long : t ≡ false → Ok g ≡ admitted_in g a b
  unfolding admitted_in
  long h = rw (← e, h)

module _ (s : List ℕ) (a b : ℕ) (y : Option Session) (e : y ≡ stored s) where
  pub no_state : y ≡ None → Err refusal.NoState ≡ admits s a b
  unfolding admitted_for
  no_state t = rw (admits_stored s a b, ← e, t)

  pub a_state : (x : Session) (v : Result Settings Refusal) → y ≡ Some x → v ≡ admitted_in x.settings a b → v ≡ admits s a b
  unfolding admitted_for
  a_state x v t f = rw (admits_stored s a b, ← e, t) f

pub no_size : (s : List ℕ) (a b : ℕ) → (length s ≡ 2048 → ⊥) → Err refusal.NoState ≡ admits s a b
unfolding admitted_for
no_size s a b h = rw (admits_stored s a b, ← size_wrong s h)

pub ruleset admit_cases = (short, long, no_size, no_state, a_state)

-- the sender of the set in force

module _ (g : Settings) (s : List ℕ) (c : Bool) (e : c ≡ closed s) where
  pub sender_closed : (q p : ℕ) → c ≡ true → q ≡ quorum g → p ≡ set_leader g s q → p ≡ in_force_sender g s
  unfolding in_force_sender
  sender_closed q p t f h = rw (← e, t, ← f) h

  pub sender_none : c ≡ false → 0 ≡ in_force_sender g s
  unfolding in_force_sender
  sender_none t = rw (← e, t)

pub ruleset sender_cases = (sender_closed, sender_none)

-- a set

pub set_none : (s : List ℕ) (p : ℕ) (out : List ℕ) → p ≡ 0 → SetWritten (set_of s p) out out 0
unfolding set_of at_front
set_none s p out e = rw (eq-eqb p 0 e) (record { words = refl; counted = refl })

pub set_done : (s : List ℕ) (p : ℕ) (out new : List ℕ) (k : ℕ) → (p ≡ 0 → ⊥) → SetCopied s p out new k → SetWritten (set_of s p) out new k
unfolding set_of at_front
set_done s p out new k z c = rw (ne_eqb p 0 z) (record { words = c.words ∙ rw c.sized; counted = sym c.sized })

-- the set in force

sender_few : (g : Settings) (s : List ℕ) → Ruled g → in_force_sender g s ≤ 16
unfolding in_force_sender set_leader
sender_few g s r = go (closed s)
  where
    go : (b : Bool) → cond b (lowest (set_leads g s (quorum g)) g.n) 0 ≤ 16
    go true = omega (arith, lowest_le (set_leads g s (quorum g)) g.n)
    go false = omega arith

in_force_of_lem : (g : Settings) (s : List ℕ) → set_of s (in_force_sender g s) ≡ in_force_set g s
unfolding in_force_set in_force_sender leading_set set_of
in_force_of_lem g s = go (closed s)
  where
    go : (b : Bool) → set_of s (cond b (set_leader g s (quorum g)) 0) ≡ cond b (set_of s (set_leader g s (quorum g))) []
    go true = refl
    go false = refl

module _ (g : Settings) (s : List ℕ) (p : ℕ) (e : p ≡ in_force_sender g s) (out : List ℕ) where
  pub sender_room : Room g s out → SetRoom s p out
  sender_room h = record { size = h.size; sender = rw e (sender_few g s h.ruled); room = h.room }

  pub in_force_done : (new : List ℕ) (k : ℕ) → SetWritten (set_of s p) out new k → SetWritten (in_force_set g s) out new k
  in_force_done new k w = rw (← in_force_of_lem g s, ← e) w

pub ruleset in_force_cases = (sender_room, in_force_done)

-- both sets and the figures

module _ (g : Settings) (s : List ℕ) (x : Named) (h : Stated x (exit_now g s)) where
  names_of : take x.count x.values ≡ (exit_now g s).names
  unfolding named
  names_of = ap (λ (y : Exit). y.names) h.states

  exit_told : number_or_none x.exit ≡ (exit_now g s).number
  unfolding named
  exit_told = ap (λ (y : Exit). y.number) h.states

  pub report_done : (a b a' b' : List ℕ) (n k t : ℕ) → n ≡ number_or_none x.exit → a' ≡ copied x.values a x.count → SetWritten (in_force_set g s) b b' k → t ≡ turn_count s → Written g s a b a' b' (record { exit = n; named = x.count; in_force = k; turns = t })
  unfolding copied at_front figures_of
  report_done a b a' b' n k t en e w f =
      record {
        figures = λ i. record { exit = (en ∙ exit_told) i; named = sym h.sized i; in_force = w.counted i; turns = f i };
        named_words_lem = e ∙ rw (names_of, h.sized);
        in_force_words_lem = w.words;
      }

-- a report that is given, or refused

module _ (s a b : List ℕ) (v : Result Settings Refusal) (e : v ≡ admits s (length a) (length b)) where
  module _ (g : Settings) (t : v ≡ Ok g) where
    told : Admitting s (length a) (length b) g
    told = admitting s (length a) (length b) g (sym e ∙ t)

    pub given_named_room : Room g s a
    given_named_room = record { ruled = rw told.same told.state.ruled; size = told.state.size; room = told.named_room }

    pub given_in_force_room : Room g s b
    given_in_force_room = record { ruled = rw told.same told.state.ruled; size = told.state.size; room = told.in_force_room }

    module _ (a' b' : List ℕ) (r : Figures) (w : Written g s a b a' b' r) where
      pub given_answer : Ok r ≡ report_answer s (length a) (length b)
      unfolding giving report_answer
      given_answer = rw (← e, t, w.figures)

      pub given_named : a' ≡ report_named s a (length b)
      unfolding giving report_named
      given_named = rw (← e, t) w.named_words_lem

      pub given_in_force : b' ≡ report_in_force s (length a) b
      unfolding giving report_in_force
      given_in_force = rw (← e, t) w.in_force_words_lem

  module _ (k : Refusal) (t : v ≡ Err k) where
    pub refused_answer : Err k ≡ report_answer s (length a) (length b)
    unfolding giving report_answer
    refused_answer = rw (← e, t)

    pub refused_named : a ≡ report_named s a (length b)
    unfolding giving report_named
    refused_named = rw (← e, t)

    pub refused_in_force : b ≡ report_in_force s (length a) b
    unfolding giving report_in_force
    refused_in_force = rw (← e, t)

pub ruleset report_cases = (given_named_room, given_in_force_room, given_answer, given_named, given_in_force, refused_answer, refused_named, refused_in_force)
