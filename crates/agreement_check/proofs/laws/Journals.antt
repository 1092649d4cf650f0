-- The journal that the test computes is that of the concentrator, line by line.
use Rattle.std.specs.Prelude.{ℕ, Bool, ◌||◌, not, cond, ◌⊎◌, ◌≡◌, eqb, leb, length}
use Rattle.std.proofs.Math.Bool.{true, false}
use Rattle.std.proofs.lemmas.Bool.{false≢true}
use mathlib.Core.List.{List, [], ◌∷◌}
use Rattle.std.proofs.Common.{inl, inr, subst, eq-eqb}
use Rattle.std.proofs.Math.Path.{refl}
use Rattle.quorum.specs.laws.Bools.{and_left, and_right}
use Rattle.records.specs.Layout.{state_words}
use Rattle.agreement.specs.Moments.{now, after}
use Rattle.calls.specs.Machine.{Call, turn, words}
use Rattle.agreement.specs.Journals.{Moment, Journal, newest, bytes, complete, Stands, journal}
use Rattle.agreement.specs.DemandThree.{Opened, Sent}
use Rattle.calls.specs.Engine.{engine, Bytes, TurnLent, SendsBytes}
use Rattle.agreement_check.specs.Checking.{Line, Gone, among, was_sent, text_of, complete_of, keeps}
use Rattle.agreement_check.proofs.laws.Entries.{or_second, not_of_true}

module _ (start : ℕ → List ℕ) (p : ℕ) where
  -- the call of a line is a turn that sent b
  pub record SentAt (d : Moment engine) (b : Bytes) : Type 0 where
    pub lent : TurnLent
    pub past : List (Call engine)
    pub is : d ≡ turn p lent ∷ past
    pub opened : Opened engine start past p
    pub sends : SendsBytes (words engine start past p) lent b

  pub record Matches (x : Line) (d : Moment engine) : Type 0 where
    pub text : newest engine d ≡ x.text
    pub leaves : words engine start d p ≡ x.after
    pub size : length (words engine start d p) ≡ state_words
    pub sent : (b : Bytes) → among x.sent b.list ≡ true → SentAt d b

  abbrev pub AllMatch : List Line → Journal engine → Type 0
  AllMatch [] [] = Unit {0}
  AllMatch [] (d ∷ js) = ⊥
  AllMatch (x ∷ ls) [] = ⊥
  AllMatch (x ∷ ls) (d ∷ js) = Matches x d × AllMatch ls js

  pub bytes_same : (ls : List Line) (js : Journal engine) → AllMatch ls js → bytes engine js ≡ text_of ls
  unfolding bytes text_of
  bytes_same [] [] h = refl
  bytes_same [] (d ∷ js) h = absurd h
  bytes_same (x ∷ ls) [] h = absurd h
  bytes_same (x ∷ ls) (d ∷ js) h = rw (bytes_same ls js h.1, h.0.text)

  pub complete_same : (k : ℕ) (ls : List Line) (js : Journal engine) → AllMatch ls js → AllMatch (complete_of k ls) (complete engine k js)
  unfolding complete complete_of
  complete_same k [] [] h = h
  complete_same k [] (d ∷ js) h = absurd h
  complete_same k (x ∷ ls) [] h = absurd h
  complete_same k (x ∷ ls) (d ∷ js) h = rw (bytes_same (x ∷ ls) (d ∷ js) h) (at (leb (length (text_of (x ∷ ls))) k) (complete_same k ls js h.1))
    where
      at : (b : Bool) → AllMatch (complete_of k ls) (complete engine k js) → AllMatch (cond b (x ∷ ls) (complete_of k ls)) (cond b (d ∷ js) (complete engine k js))
      at true rest = h
      at false rest = rest

  -- a line that sent b stands in a journal
  pub record SentIn (js : Journal engine) (b : Bytes) : Type 0 where
    pub moment : Moment engine
    pub stands : Stands engine moment js
    pub sent : SentAt moment b

  pub sent_in_lem : (b : Bytes) (ls : List Line) (js : Journal engine) → AllMatch ls js → was_sent ls b.list ≡ true → SentIn js b
  unfolding was_sent
  sent_in_lem b [] [] h e = absurd (false≢true e)
  sent_in_lem b [] (d ∷ js) h e = absurd h
  sent_in_lem b (x ∷ ls) [] h e = absurd h
  sent_in_lem b (x ∷ ls) (d ∷ js) h e = at (among x.sent b.list) refl e (sent_in_lem b ls js h.1)
    where
      at : (t : Bool) → among x.sent b.list ≡ t → t || was_sent ls b.list ≡ true → (was_sent ls b.list ≡ true → SentIn js b) → SentIn (d ∷ js) b
      at true f g rest = record { moment = d; stands = record { older = js; within = now }; sent = h.0.sent b f }
      at false f g rest =
          let y = rest g in
          record { moment = y.moment; stands = record { older = y.stands.older; within = after d y.stands.within }; sent = y.sent }

  pub sent_of : (cs : List (Call engine)) (b : Bytes) → SentIn (journal engine start cs p) b → Sent engine start cs p b
  sent_of cs b y =
      record {
        lent = y.sent.lent;
        past = y.sent.past;
        stands = subst (λ (d : Moment engine). Stands engine d (journal engine start cs p)) y.sent.is y.stands;
        opened = y.sent.opened;
        sends = y.sent.sends;
      }

-- ---- what left

-- b of m is among it
abbrev pub IsGone : List Gone → ℕ → List ℕ → Type 0
IsGone [] m b = ⊥
IsGone (g ∷ gs) m b = ((m ≡ g.from) × (b ≡ g.bytes)) ⊎ IsGone gs m b

pub kept_sent : (gs : List Gone) (m : ℕ) (b : List ℕ) (ls : List Line) → keeps gs m ls ≡ true → IsGone gs m b → was_sent ls b ≡ true
unfolding keeps
kept_sent [] m b ls e h = absurd h
kept_sent (g ∷ gs) m b ls e (inl h) =
    let k = and_left (not (eqb m g.from) || was_sent ls g.bytes) _ e in
    rw h.1 (or_second (not (eqb m g.from)) (was_sent ls g.bytes) k (not_of_true _ (eq-eqb m g.from h.0)))
kept_sent (g ∷ gs) m b ls e (inr h) = kept_sent gs m b ls (and_right (not (eqb m g.from) || was_sent ls g.bytes) _ e) h
