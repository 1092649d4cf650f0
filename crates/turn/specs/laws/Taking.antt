-- The paths of src/lib.rt.
use Rattle.std.specs.Prelude.{ℕ, ◌+◌, ◌≤◌, ◌<◌, min, Bool, cond, ◌≡◌, length, take, ltb, Option, Some, None, Result, Ok, Err}
use Rattle.std.proofs.Math.Bool.{true, false}
use mathlib.Core.List.{List}
use Rattle.std.proofs.Math.Path.{refl, ap}
use Rattle.std.proofs.Common.{sym, ◌∙◌, arith, length-take, take_all}
use borrow.Author.Tests.{lt-ltb, le-ltb}
use Rattle.records.specs.Records.{closed, coin, version}
use Rattle.acts.specs.declared.Act.{Act}
use Rattle.acts.specs.declared.Act.TheVariants.{Idle, InForce, Commit, Send, Echo, Ready, Start, Relay, Aux, Move, Finish}
use Rattle.acts.specs.declared.View.{View}
use Rattle.votes.specs.Votes.{estimate}
use Rattle.session.specs.laws.Cases.{size_wrong}
use Rattle.session.specs.Session.{stored}
use Rattle.session.specs.declared.Session.{Session}
use Rattle.wire.specs.Message.{count_of, besides, values_of, encode, at_front}
use Rattle.wire.specs.Writing.{written, Wrote}
use Rattle.wire.proofs.Laws.{written_whole}
use Rattle.wire.specs.declared.Message.{Message}
use Rattle.wire.specs.declared.Message.TheVariants as message
use Rattle.turn.specs.Due.{commit_due, due}
use Rattle.turn.specs.Turn.{move_outcome, outcome_of, applied, admits, bytes_after, taking, turn_outcome, turn_words, turn_bytes}
use Rattle.turn.specs.laws.Told.{CommitTold}
use Rattle.turn.specs.laws.Due.{due_is}
use Rattle.turn.specs.laws.Choosing.{Chosen}
use Rattle.turn.specs.laws.Admitting.{Admitting, admitting, admitted_ruled, admitted_readable, admitted_turns}
use Rattle.turn.specs.declared.Outcome.{Outcome}
use Rattle.turn.specs.declared.Outcome.TheVariants as outcome
use Rattle.turn.specs.laws.Stored.{admitted_for, admits_stored}
use Rattle.settings.specs.declared.refusal.Refusal.{Refusal}
use Rattle.settings.specs.declared.refusal.Refusal.TheVariants as refusal

module _ (s : List ℕ) (room : ℕ) (y : Option Session) (ey : y ≡ stored s) where
  pub admit_none : y ≡ None → Err refusal.NoState ≡ admits s room
  unfolding admitted_for
  admit_none t = rw (admits_stored s room, ← ey, t)

  module _ (x : Session) (tx : y ≡ Some x) (c : Bool) (ec : c ≡ closed s) where
    pub admit_closed : c ≡ true → Err refusal.Closed ≡ admits s room
    unfolding admitted_for
    admit_closed t = rw (admits_stored s room, ← ey, tx, ← ec, t)

    pub admit_short : c ≡ false → room < 140 → Err refusal.Short ≡ admits s room
    unfolding admitted_for
    admit_short t l = rw (admits_stored s room, ← ey, tx, ← ec, t, lt-ltb room 140 l)

    pub admit_open : c ≡ false → 140 ≤ room → Ok x ≡ admits s room
    unfolding admitted_for
    admit_open t l = rw (admits_stored s room, ← ey, tx, ← ec, t, le-ltb room 140 l)

pub admit_size : (s : List ℕ) (room : ℕ) → (length s ≡ 2048 → ⊥) → Err refusal.NoState ≡ admits s room
unfolding admitted_for
admit_size s room h = rw (admits_stored s room, ← size_wrong s h)

pub ruleset admit_cases = (admit_size, admit_none, admit_closed, admit_short, admit_open)

module _ (s : List ℕ) (i r : ℕ) (v : View) where
  pub move_sends : (c : Bool) (b : ℕ) → r < 32 → c ≡ coin s i r → b ≡ estimate c v → outcome.Sent (message.Est i (r + 1) b) ≡ move_outcome s i r v
  unfolding move_outcome
  move_sends c b l e f = rw (lt-ltb r 32 l, ← e, ← f)

  pub move_out : 32 ≤ r → outcome.MovedOut ≡ move_outcome s i r v
  unfolding move_outcome
  move_out l = rw (le-ltb r 32 l)

module _ (own : ℕ) (s : List ℕ) (a : Act) where
  pub of_idle : a ≡ Idle → outcome.Idle ≡ outcome_of own s a
  unfolding outcome_of
  of_idle e = rw e

  pub of_in_force : a ≡ InForce → outcome.InForce ≡ outcome_of own s a
  unfolding outcome_of
  of_in_force e = rw e

  pub of_commit : (k : ℕ) → a ≡ Commit k → outcome.Sent (message.Commit k) ≡ outcome_of own s a
  unfolding outcome_of
  of_commit k e = rw e

  pub of_send : (v : ℕ) → a ≡ Send v → outcome.Sent (message.Send own v) ≡ outcome_of own s a
  unfolding outcome_of
  of_send v e = rw e

  pub of_echo : (i v : ℕ) → a ≡ Echo i v → outcome.Sent (message.Echo i v) ≡ outcome_of own s a
  unfolding outcome_of
  of_echo i v e = rw e

  pub of_ready : (i v : ℕ) → a ≡ Ready i v → outcome.Sent (message.Ready i v) ≡ outcome_of own s a
  unfolding outcome_of
  of_ready i v e = rw e

  pub of_start : (i b : ℕ) → a ≡ Start i b → outcome.Sent (message.Est i 1 b) ≡ outcome_of own s a
  unfolding outcome_of
  of_start i b e = rw e

  pub of_relay : (i r b : ℕ) → a ≡ Relay i r b → outcome.Sent (message.Est i r b) ≡ outcome_of own s a
  unfolding outcome_of
  of_relay i r b e = rw e

  pub of_aux : (i r b : ℕ) → a ≡ Aux i r b → outcome.Sent (message.Aux i r b) ≡ outcome_of own s a
  unfolding outcome_of
  of_aux i r b e = rw e

  pub of_move : (i r : ℕ) (v : View) (o : Outcome) → a ≡ Move i r v → o ≡ move_outcome s i r v → o ≡ outcome_of own s a
  unfolding outcome_of
  of_move i r v o e f = rw e f

  pub of_finish : (i b : ℕ) → a ≡ Finish i b → outcome.Sent (message.Finish i b) ≡ outcome_of own s a
  unfolding outcome_of
  of_finish i b e = rw e

pub ruleset outcome_cases = (move_sends, move_out, of_idle, of_in_force, of_commit, of_send, of_echo, of_ready, of_start, of_relay, of_aux, of_move, of_finish)

-- the bytes out with the message of an outcome at their front; the values of a COMMIT are the first of xs
unfoldable pub written_for : ℕ → Session → Outcome → List ℕ → List ℕ → List ℕ
written_for v x outcome.Idle xs out = out
written_for v x (outcome.Sent m) xs out = at_front (written m v x.own x.number xs out) out
written_for v x outcome.MovedOut xs out = out
written_for v x outcome.InForce xs out = out

module _ (v : ℕ) (x : Session) (o : Outcome) (xs out : List ℕ) where
  pub write_idle : o ≡ outcome.Idle → out ≡ written_for v x o xs out
  unfolding written_for
  write_idle e = rw e

  pub write_moved : o ≡ outcome.MovedOut → out ≡ written_for v x o xs out
  unfolding written_for
  write_moved e = rw e

  pub write_in_force : o ≡ outcome.InForce → out ≡ written_for v x o xs out
  unfolding written_for
  write_in_force e = rw e

  pub write_sent : (m : Message) (k : ℕ) (after : List ℕ) → o ≡ outcome.Sent m → Wrote (written m v x.own x.number xs out) out k after → after ≡ written_for v x o xs out
  unfolding written_for
  write_sent m k after e w = rw e w.bytes

pub ruleset write_cases = (write_idle, write_moved, write_in_force, write_sent)

module _ (x : Session) (s set out : List ℕ) (long : 140 ≤ length out) where
  abbrev xs : List ℕ
  xs = commit_due x.settings s

  -- a message that fits is written whole, with the values of the set
  sent_whole : (m : Message) → besides m ≤ length set → count_of m ≤ 16 → values_of m set ≡ values_of m xs → at_front (written m (version s) x.own x.number set out) out ≡ at_front (encode m (version s) x.own x.number xs) out
  unfolding encode
  sent_whole m b c e =
      let same : encode m (version s) x.own x.number set ≡ encode m (version s) x.own x.number xs = rw e in
      ap (λ (w : List ℕ). at_front w out) (written_whole m (version s) x.own x.number set out b (omega arith) ∙ same)

  sent_commit : (k : ℕ) → length xs ≡ k → k ≤ 16 → take k set ≡ xs → at_front (written (message.Commit k) (version s) x.own x.number set out) out ≡ at_front (encode (message.Commit k) (version s) x.own x.number xs) out
  sent_commit k n l e =
      let few : min k (length set) ≡ length xs = sym (length-take k set) ∙ ap length e in
      let all : take k xs ≡ xs = take_all k xs (omega arith) in
      sent_whole (message.Commit k) (omega arith) (omega arith) (e ∙ sym all)

  -- and the bytes are those of the definition
  bytes_same : (a : Act) → ((k : ℕ) → a ≡ Commit k → CommitTold x.settings s k × (take k set ≡ xs)) → written_for (version s) x (outcome_of x.own s a) set out ≡ bytes_after x s (outcome_of x.own s a) out
  unfolding written_for bytes_after outcome_of move_outcome
  bytes_same Idle h = refl
  bytes_same InForce h = refl
  bytes_same (Commit k) h = sent_commit k (h k refl).0.sized (h k refl).0.few (h k refl).1
  bytes_same (Send v) h = sent_whole (message.Send x.own v) (omega arith) (omega arith) refl
  bytes_same (Echo i v) h = sent_whole (message.Echo i v) (omega arith) (omega arith) refl
  bytes_same (Ready i v) h = sent_whole (message.Ready i v) (omega arith) (omega arith) refl
  bytes_same (Start i b) h = sent_whole (message.Est i 1 b) (omega arith) (omega arith) refl
  bytes_same (Relay i r b) h = sent_whole (message.Est i r b) (omega arith) (omega arith) refl
  bytes_same (Aux i r b) h = sent_whole (message.Aux i r b) (omega arith) (omega arith) refl
  bytes_same (Finish i b) h = sent_whole (message.Finish i b) (omega arith) (omega arith) refl
  bytes_same (Move i r v) h = go (ltb r 32)
    where
      go : (b : Bool) → written_for (version s) x (cond b (outcome.Sent (message.Est i (r + 1) (estimate (coin s i r) v))) outcome.MovedOut) set out ≡ bytes_after x s (cond b (outcome.Sent (message.Est i (r + 1) (estimate (coin s i r) v))) outcome.MovedOut) out
      go true = sent_whole (message.Est i (r + 1) (estimate (coin s i r) v)) (omega arith) (omega arith) refl
      go false = refl

-- `take_turn`
module _ (x : Session) (s set : List ℕ) (a : Act) (ch : Chosen (due x.settings s) (commit_due x.settings s) a set) where
  pub turn_outcome_lem : (o : Outcome) → o ≡ outcome_of x.own s a → o ≡ outcome_of x.own s (due x.settings s)
  turn_outcome_lem o e = rw (← ch.same) e

  pub turn_words_lem : (t : List ℕ) → t ≡ applied s a → t ≡ applied s (due x.settings s)
  turn_words_lem t e = rw (← ch.same) e

  pub turn_bytes_lem : (o : Outcome) (v : ℕ) (out after : List ℕ) → Admitting s (length out) x → v ≡ version s → o ≡ outcome_of x.own s a → after ≡ written_for v x o set out → after ≡ bytes_after x s (outcome_of x.own s (due x.settings s)) out
  turn_bytes_lem o v out after h ev e f =
      let ea : a ≡ due x.settings s = ch.same in
      let same : written_for (version s) x (outcome_of x.own s a) set out ≡ bytes_after x s (outcome_of x.own s a) out =
      bytes_same x s set out h.long a (λ k q. (due_is x.settings s (admitted_ruled s (length out) x h) (Commit k) (sym ea ∙ q), ch.front k q)) in
      rw (← ea) (f ∙ ap (λ (w : ℕ). written_for w x o set out) ev ∙ ap (λ (y : Outcome). written_for (version s) x y set out) e ∙ same)

pub ruleset taking_cases = (admitted_readable, admitted_turns, turn_outcome_lem, turn_words_lem, turn_bytes_lem)

-- `turn`
module _ (s out : List ℕ) (v : Result Session Refusal) (e : v ≡ admits s (length out)) where
  module _ (k : Refusal) (t : v ≡ Err k) where
    pub refused_answer : Err k ≡ turn_outcome s (length out)
    unfolding taking turn_outcome
    refused_answer = rw (← e, t)

    pub refused_words : s ≡ turn_words s (length out)
    unfolding taking turn_words
    refused_words = rw (← e, t)

    pub refused_bytes : out ≡ turn_bytes s out
    unfolding taking turn_bytes
    refused_bytes = rw (← e, t)

  module _ (x : Session) (t : v ≡ Ok x) where
    pub open_admits : Admitting s (length out) x
    open_admits = admitting s (length out) x (sym e ∙ t)

    pub open_answer_lem : (o : Outcome) → o ≡ outcome_of x.own s (due x.settings s) → Ok o ≡ turn_outcome s (length out)
    unfolding taking turn_outcome
    open_answer_lem o f = rw (← e, t) (ap Ok f)

    pub open_words_lem : (r : List ℕ) → r ≡ applied s (due x.settings s) → r ≡ turn_words s (length out)
    unfolding taking turn_words
    open_words_lem r f = rw (← e, t) f

    pub open_bytes : (r : List ℕ) → r ≡ bytes_after x s (outcome_of x.own s (due x.settings s)) out → r ≡ turn_bytes s out
    unfolding taking turn_bytes
    open_bytes r f = rw (← e, t) f

pub ruleset turn_cases = (refused_answer, refused_words, refused_bytes, open_admits, open_answer_lem, open_words_lem, open_bytes)
