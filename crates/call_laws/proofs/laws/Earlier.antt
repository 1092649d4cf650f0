-- On words of version 1, and for openings of it, the definitions are those of specs/Earlier.antt.
use Rattle.std.specs.Prelude.{ℕ, zero, suc, ◌+◌, ◌*◌, ◌≤◌, Bool, ◌&&◌, not, List, ◌∷◌, ◌++◌, ◌≢◌, ◌≡◌, length, drop, eqb, leb, Result, Ok, Err}
use Rattle.std.proofs.Math.Bool.{true, false, cond}
use Rattle.std.proofs.Math.Path.{refl, ap, ap₂}
use Rattle.std.proofs.Common.{sym, ◌∙◌}
use native.Mathlib.Omega.{arith}
use borrow.Author.Tests.{leb-true, eqb-false, eq-eqb}
use Rattle.quorum.specs.laws.Bools.{and_left, and_right}
use Rattle.settings.specs.Versions.{FIRST_VERSION, version_known, finishing, turn_bound}
use Rattle.settings.specs.declared.refusal.Refusal.TheVariants as refusal
use Rattle.settings.specs.laws.Versions.{first_plain}
use Rattle.settings.specs.declared.Settings.{Settings}
use Rattle.records.specs.Layout.{own_at, boxed_at, turns_at, version_at, coin_at}
use Rattle.records.specs.Records.{version}
use Rattle.records.specs.Words.{word, store_of}
use Rattle.records.specs.laws.Words.{length_put, word_put_other, put_alike}
use Rattle.records.specs.laws.Fill.{length_store_of}
use Rattle.broadcasts.specs.Leading.{present}
use Rattle.broadcasts.specs.Broadcasts.{output}
use Rattle.votes.specs.laws.Versions.{first_rule}
use Rattle.session.specs.Session.{numbered, rounds_right, commits_right, numbers_right, is_state, settings_of, session_of}
use Rattle.session.specs.declared.Session.{Session}
use Rattle.wire.specs.Message.{SEND, COMMIT, last_kind, by_kind}
use Rattle.wire.specs.Reading.{within, length_right, header_of, sender_right, fields_right, read_values, read_checked, read_message}
use Rattle.wire.specs.declared.Header.{Header}
use Rattle.opening.specs.Given.{item}
use Rattle.opening.specs.laws.Cases.{accepted}
use Rattle.opening.specs.laws.Given.{coins_given_lem}
use Rattle.opening.specs.laws.Opening.{first_version}
use Rattle.opening.specs.Arguments.{Arguments}
use Rattle.opening.specs.Opening.{open_answer, with_settings, with_coins, open_words, opened}
use Rattle.recording.specs.Recording.{record_answer, recorded_words}
use Rattle.delivery.specs.Delivery.{verdict, answer_of, words_after, deliver_answer, delivered}
use Rattle.turn.specs.Due.{votes_rule, due}
use Rattle.turn.specs.Turn.{admits, bytes_after, outcome_of, applied, taking, turn_outcome, turn_words, turn_bytes}
use Rattle.turn.specs.declared.Outcome.{Outcome}
use Rattle.turn.specs.declared.Outcome.TheVariants as outcome
use Rattle.journal.specs.Lines.{figures}
use Rattle.report.specs.Report as report
use Rattle.call_laws.specs.Earlier as earlier
use Rattle.call_laws.specs.FirstVersion.{First, OpensAsEarlier, CallsAsEarlier}
use Rattle.wire.specs.declared.Message.{Message}
use Rattle.settings.specs.declared.refusal.Refusal.{Refusal}
use Rattle.std.specs.Result.{is_ok}

pub plain : (s : List ℕ) → First s → finishing (version s) ≡ false
plain s e = ap finishing e ∙ first_plain

-- ---- what a state is

and_true : (b : Bool) → (b && true) ≡ b
and_true true = refl
and_true false = refl

numbers_same : (g : Settings) (s : List ℕ) → First s → numbers_right g s ≡ earlier.numbers_right g s
unfolding numbers_right version_known turn_bound finishing earlier.numbers_right earlier.turn_bound
numbers_same g s e =
    rw e (ap (λ (b : Bool). b && leb (word s turns_at) (99 * g.n + 3) && rounds_right s g.n && commits_right s g.n)
    (and_true (numbered g.n (word s own_at) && leb (word s boxed_at) 1)))

state_same : (s : List ℕ) → First s → is_state s ≡ earlier.is_state s
unfolding is_state earlier.is_state
state_same s e = rw (numbers_same (settings_of s) s e)

-- ---- reading a message

past : (k x : ℕ) → k ≢ x → x ≤ k → x + 1 ≤ k
past k x ne le = omega (arith, ne)

-- of seven by a kind up to COMMIT, the last is none
module _ {A : Type 0} (kind : ℕ) (send echo ready est aux commit finish : A) where
  by_tests : (a b c d e f : Bool) → (a ≡ false → b ≡ false → c ≡ false → d ≡ false → e ≡ false → f ≡ true) →
      cond a send (cond b echo (cond c ready (cond d est (cond e aux (cond f commit finish)))))
      ≡ cond a send (cond b echo (cond c ready (cond d est (cond e aux commit))))
  by_tests true b c d e f h = refl
  by_tests false true c d e f h = refl
  by_tests false false true d e f h = refl
  by_tests false false false true e f h = refl
  by_tests false false false false true f h = refl
  by_tests false false false false false f h = rw (h refl refl refl refl refl)

  kind_same : 1 ≤ kind → kind ≤ COMMIT → by_kind kind send echo ready est aux commit finish ≡ earlier.by_kind kind send echo ready est aux commit
  unfolding by_kind earlier.by_kind
  kind_same lo hi =
      by_tests (eqb kind 1) (eqb kind 2) (eqb kind 3) (eqb kind 4) (eqb kind 5) (eqb kind 6)
      (λ a b c d e. eq-eqb kind 6 (last (eqb-false kind 1 a) (eqb-false kind 2 b) (eqb-false kind 3 c) (eqb-false kind 4 d) (eqb-false kind 5 e)))
    where
      last : kind ≢ 1 → kind ≢ 2 → kind ≢ 3 → kind ≢ 4 → kind ≢ 5 → kind ≡ 6
      last a b c d e =
          let z : 6 ≤ kind = past kind 5 e (past kind 4 d (past kind 3 c (past kind 2 b (past kind 1 a lo)))) in
          omega arith

module _ (n session link : ℕ) (h : Header) (v : List ℕ) where
  module _ (lo : 1 ≤ h.kind) (hi : h.kind ≤ COMMIT) where
    fields_same : fields_right n h ≡ earlier.fields_right n h
    unfolding fields_right earlier.fields_right
    fields_same = ap (λ (b : Bool). cond (eqb h.reserved 0) b false) (kind_same h.kind _ _ _ _ _ _ _ lo hi)

    values_same : read_values h v ≡ earlier.read_values h v
    unfolding read_values earlier.read_values
    values_same = kind_same h.kind _ _ _ _ _ _ _ lo hi

  -- the refusals 4 to 7 in their order, or the message
  abbrev after : Bool → Result Message Refusal → Result Message Refusal
  after right p =
      cond (not (eqb h.session session)) (Err refusal.Session)
      (cond (not (sender_right n link h.sender)) (Err refusal.Sender)
      (cond (not right) (Err refusal.Field) p))

  checked_same : read_checked FIRST_VERSION n session link h v ≡ earlier.read_checked n session link h v
  unfolding read_checked earlier.read_checked last_kind finishing
  checked_same = go (eqb h.version 1 && within SEND COMMIT h.kind) (λ e. e)
    where
      go : (t : Bool) → (t ≡ true → (eqb h.version 1 && within SEND COMMIT h.kind) ≡ true) →
          cond (not t) (Err refusal.Kind) (after (fields_right n h) (read_values h v))
          ≡ cond (not t) (Err refusal.Kind) (after (earlier.fields_right n h) (earlier.read_values h v))
      go false k = refl
      go true k =
          let w = and_right (eqb h.version 1) (within SEND COMMIT h.kind) (k refl) in
          let lo = leb-true 1 h.kind (and_left (leb 1 h.kind) (leb h.kind 6) w) in
          let hi = leb-true h.kind 6 (and_right (leb 1 h.kind) (leb h.kind 6) w) in
          ap₂ (λ (right : Bool) (p : Result Message Refusal). after right p) (fields_same lo hi) (values_same lo hi)

read_same : (n session link : ℕ) (b : List ℕ) → read_message FIRST_VERSION n session link b ≡ earlier.read_message n session link b
unfolding read_message earlier.read_message
read_same n session link b = ap (λ (p : Result Message Refusal). cond (not (length_right b)) (Err refusal.Length) p) (checked_same n session link (header_of b) (drop 12 b))

-- ---- delivery and recording

module _ (s : List ℕ) (e : First s) where
  verdict_same : (link : ℕ) (b : List ℕ) → verdict s link b ≡ earlier.verdict s link b
  unfolding verdict earlier.verdict
  verdict_same link b = rw (state_same s e, e, read_same (session_of s).settings.n (session_of s).number link b)

  answer_same : (link : ℕ) (b : List ℕ) → deliver_answer s link b ≡ earlier.deliver_answer s link b
  unfolding deliver_answer earlier.deliver_answer
  answer_same link b = ap answer_of (verdict_same link b)

  delivered_same : (link : ℕ) (b : List ℕ) → delivered s link b ≡ earlier.delivered s link b
  unfolding delivered earlier.delivered
  delivered_same link b = ap (λ (y : Result Message Refusal). words_after y s link b) (verdict_same link b)

  record_same : (i r b : ℕ) → record_answer s i r b ≡ earlier.record_answer s i r b
  unfolding record_answer earlier.record_answer
  record_same i r b = rw (state_same s e)

  recorded_same : (i r b : ℕ) → recorded_words s i r b ≡ earlier.recorded_words s i r b
  unfolding recorded_words earlier.recorded_words
  recorded_same i r b = rw (record_same i r b)

  -- ---- turn

  due_same : (g : Settings) → due g s ≡ earlier.due g s
  unfolding due votes_rule earlier.due earlier.votes_rule earlier.vote_rule
  due_same g = rw (first_rule g s (λ i. present (output g s i)) (plain s e))

  turn_admits_same : (room : ℕ) → admits s room ≡ earlier.admits_turn s room
  unfolding admits earlier.admits_turn
  turn_admits_same room = rw (state_same s e)

  taking_same : {A : Type 0} (y z : Result Session Refusal) (refused : Refusal → A) (f h : Session → A) → y ≡ z → ((x : Session) → f x ≡ h x) → taking y refused f ≡ taking z refused h
  unfolding taking
  taking_same y z refused f h q p = rw q (on z)
    where
      on : (z : Result Session Refusal) → taking z refused f ≡ taking z refused h
      on (Err k) = refl
      on (Ok x) = p x

  outcome_same : (x : Session) → outcome_of x.own s (due x.settings s) ≡ outcome_of x.own s (earlier.due x.settings s)
  outcome_same x = ap (outcome_of x.own s) (due_same x.settings)

  after_same : (x : Session) (y : Outcome) (out : List ℕ) → bytes_after x s y out ≡ earlier.bytes_after x s y out
  unfolding bytes_after earlier.bytes_after
  after_same x outcome.Idle out = refl
  after_same x (outcome.Sent m) out = rw e
  after_same x outcome.MovedOut out = refl
  after_same x outcome.InForce out = refl

  turn_outcome_same : (room : ℕ) → turn_outcome s room ≡ earlier.turn_outcome s room
  unfolding turn_outcome earlier.turn_outcome
  turn_outcome_same room = taking_same _ _ Err _ _ (turn_admits_same room) (λ x. ap (λ (y : Outcome). Ok y) (outcome_same x))

  turn_words_same : (room : ℕ) → turn_words s room ≡ earlier.turn_words s room
  unfolding turn_words earlier.turn_words
  turn_words_same room = taking_same _ _ (λ k. s) _ _ (turn_admits_same room) (λ x. ap (applied s) (due_same x.settings))

  turn_bytes_same : (out : List ℕ) → turn_bytes s out ≡ earlier.turn_bytes s out
  unfolding turn_bytes earlier.turn_bytes
  turn_bytes_same out =
      taking_same _ _ (λ k. out) _ _ (turn_admits_same (length out))
      (λ x. after_same x (outcome_of x.own s (due x.settings s)) out ∙ ap (λ (y : Outcome). earlier.bytes_after x s y out) (outcome_same x))

  -- ---- report

  report_admits_same : (named_words in_force_words : ℕ) → report.admits s named_words in_force_words ≡ earlier.admits_report s named_words in_force_words
  unfolding report.admits earlier.admits_report
  report_admits_same named_words in_force_words = rw (state_same s e)

  report_answer_same : (named_words in_force_words : ℕ) → report.report_answer s named_words in_force_words ≡ earlier.report_answer s named_words in_force_words
  unfolding report.report_answer earlier.report_answer
  report_answer_same named_words in_force_words = rw (report_admits_same named_words in_force_words)

  report_named_same : (named : List ℕ) (in_force_words : ℕ) → report.report_named s named in_force_words ≡ earlier.report_named s named in_force_words
  unfolding report.report_named earlier.report_named
  report_named_same named in_force_words = rw (report_admits_same (length named) in_force_words)

  report_in_force_same : (named_words : ℕ) (set_in_force : List ℕ) → report.report_in_force s named_words set_in_force ≡ earlier.report_in_force s named_words set_in_force
  unfolding report.report_in_force earlier.report_in_force
  report_in_force_same named_words set_in_force = rw (report_admits_same named_words (length set_in_force))

  pub calls_as_earlier : CallsAsEarlier s
  calls_as_earlier =
      record {
        delivery_answer = answer_same;
        delivery_words = delivered_same;
        turn_outcome_lem = turn_outcome_same;
        turn_words_lem = turn_words_same;
        turn_bytes_lem = turn_bytes_same;
        report_answer_lem = report_answer_same;
        report_named_lem = report_named_same;
        report_in_force_lem = report_in_force_same;
        recording_answer = record_same;
        recording_words = recorded_same;
      }

-- ---- opening

store_alike : (f : ℕ → ℕ) (c : ℕ) (s t : List ℕ) (n a : ℕ) → length s ≡ length t → word s a ≡ word t a → word (store_of f c s n) a ≡ word (store_of f c t n) a
unfolding store_of
store_alike f c s t zero a l e = e
store_alike f c s t (suc n) a l e =
    put_alike (store_of f c s n) (store_of f c t n) (c + suc n) (f (suc n)) a
    (length_store_of f c s n ∙ l ∙ sym (length_store_of f c t n))
    (store_alike f c s t n a l e)

module _ (o : Arguments) (e : o.version ≡ FIRST_VERSION) where
  open_same : (words : ℕ) → open_answer words o ≡ earlier.open_answer words o
  unfolding open_answer version_known earlier.open_answer
  open_same words = rw e

  open_words_same : (a : ℕ) → a ≢ version_at → word (open_words o) a ≡ word (earlier.open_words o) a
  unfolding open_words with_coins with_settings earlier.open_words earlier.with_settings
  open_words_same a ne = store_alike (item o.coins) (coin_at 0) _ _ o.n a (length_put _ version_at o.version) (word_put_other _ version_at o.version a ne)

  opened_same : (s : List ℕ) (a : ℕ) → a ≢ version_at → word (opened s o) a ≡ word (earlier.opened s o) a
  unfolding opened earlier.opened
  opened_same s a ne = rw (open_same (length s)) (on (is_ok (earlier.open_answer (length s) o)))
    where
      on : (b : Bool) → word (cond b (open_words o) s) a ≡ word (cond b (earlier.open_words o) s) a
      on true = open_words_same a ne
      on false = refl

  opened_first : (s : List ℕ) → open_answer (length s) o ≡ Ok tt → First (opened s o)
  unfolding opened
  opened_first s z = rw z (first_version o (coins_given_lem o.n o.coins o.boxed (accepted (length s) o z).given).few ∙ e)

  pub opens_as_earlier : OpensAsEarlier o
  opens_as_earlier =
      record {
        answer = open_same;
        words = opened_same;
        first = opened_first;
        numbers = ap (λ (x : ℕ). x ∷ o.n ∷ o.ta ∷ o.ts ∷ o.own ∷ o.session ∷ o.input ∷ (o.coins ++ figures o)) e;
      }
