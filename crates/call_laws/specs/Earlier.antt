-- The definitions that ask for the version, or cite one that does, as they are without versions: what sessions would be if none had FINISHes.
-- All else that the calls are defined by asks nothing of the version, and is cited here.
use Rattle.std.specs.Prelude.{ℕ, ◌+◌, ◌*◌, Bool, false, ◌&&◌, ◌||◌, not, cond, List, ◌∷◌, ◌++◌, eqb, leb, ltb, length, drop, Result, Ok, Err}
use Rattle.settings.specs.declared.refusal.Refusal.TheVariants as refusal
use Rattle.settings.specs.Settings.{valid_settings}
use Rattle.settings.specs.declared.Settings.{Settings}
use Rattle.records.specs.Layout.{state_words, n_at, ta_at, ts_at, own_at, session_at, input_at, weights_at, boxed_at, turns_at}
use Rattle.records.specs.Records.{closed}
use Rattle.records.specs.Words.{word, put, blank}
use Rattle.acts.specs.Acts.{or_act, first_act}
use Rattle.acts.specs.declared.Act.{Act}
use Rattle.acts.specs.declared.Act.TheVariants.{Idle}
use Rattle.broadcasts.specs.Leading.{present}
use Rattle.broadcasts.specs.Broadcasts.{output, echo_rule, ready_rule}
use Rattle.votes.specs.Votes.{votes_decided_one, vote_act}
use Rattle.exits.specs.Exits.{exit_now}
use Rattle.session.specs.Session.{numbered, rounds_right, commits_right, settings_of, session_of}
use Rattle.session.specs.declared.Session.{Session}
use Rattle.wire.specs.Bytes.{value_at, values, rises}
use Rattle.wire.specs.Message.{SEND, ECHO, READY, EST, AUX, COMMIT, encode, at_front}
use Rattle.wire.specs.Reading.{within, length_right, header_of, sender_right, broadcast_fields, vote_fields, commit_fields, taken_if}
use Rattle.wire.specs.declared.Header.{Header}
use Rattle.wire.specs.declared.Message.TheVariants.{Send, Echo, Ready, Est, Aux, Commit}
use Rattle.opening.specs.Given.{coins_given}
use Rattle.opening.specs.Arguments.{Arguments, weights_by, ta_by}
use Rattle.opening.specs.Opening.{with_coins}
use Rattle.recording.specs.Recording.{recordable, with_bit}
use Rattle.delivery.specs.Delivery.{judged, answer_of, words_after}
use Rattle.turn.specs.Due.{in_force_rule, commit_due, commit_rule, send_rule}
use Rattle.turn.specs.Turn.{outcome_of, applied, taking}
use Rattle.turn.specs.declared.Outcome.{Outcome}
use Rattle.turn.specs.declared.Outcome.TheVariants as outcome
use Rattle.journal.specs.Lines.{figures}
use Rattle.report.specs.Report.{in_force_set, figures_of, set_words, giving}
use Rattle.wire.specs.declared.Message.{Message}
use Rattle.settings.specs.declared.refusal.Refusal.{Refusal}
use Rattle.report.specs.declared.Figures.{Figures}
use Rattle.std.specs.Result.{is_ok}

-- the version of every session
abbrev pub VERSION : ℕ
VERSION = 1

-- ---- what a state is (PROTOCOL 9.6)

-- the turn bound (PROTOCOL 8.20)
unfoldable pub turn_bound : Settings → ℕ
turn_bound g = 99 * g.n + 3

unfoldable pub numbers_right : Settings → List ℕ → Bool
numbers_right g s =
    numbered g.n (word s own_at) && leb (word s boxed_at) 1 && leb (word s turns_at) (turn_bound g) && rounds_right s g.n && commits_right s g.n

unfoldable pub is_state : List ℕ → Bool
is_state s =
    eqb (length s) state_words && valid_settings (word s n_at) (word s ta_at) (word s ts_at) (word s weights_at) && numbers_right (settings_of s) s

-- ---- opening (PROTOCOL 9.14 to 9.16)

unfoldable pub open_answer : (words : ℕ) → Arguments → Result (Unit {0}) Refusal
open_answer words o =
    cond (not (eqb words state_words)) (Err refusal.NoState)
    (cond (not (valid_settings o.n (ta_by o) o.ts (weights_by o))) (Err refusal.Settings)
    (cond (not (numbered o.n o.own)) (Err refusal.Settings)
    (cond (not (coins_given o.n o.coins o.boxed)) (Err refusal.Settings)
    (Ok tt))))

unfoldable pub with_settings : List ℕ → Arguments → List ℕ
with_settings s o =
    put (put (put (put (put (put (put (put s
    n_at o.n)
    ta_at (ta_by o))
    ts_at o.ts)
    own_at o.own)
    session_at o.session)
    input_at o.input)
    weights_at (weights_by o))
    boxed_at o.boxed

unfoldable pub open_words : Arguments → List ℕ
open_words o = with_coins (with_settings (blank state_words) o) o.coins o.n

unfoldable pub opened : List ℕ → Arguments → List ℕ
opened s o = cond (is_ok (open_answer (length s) o)) (open_words o) s

-- the numbers of an opening line (PROTOCOL 11.4)
abbrev pub numbers_of : Arguments → List ℕ
numbers_of o = VERSION ∷ o.n ∷ o.ta ∷ o.ts ∷ o.own ∷ o.session ∷ o.input ∷ (o.coins ++ figures o)

-- ---- reading a message (PROTOCOL 2.16)

-- the version is 1 and the kind one of the six
abbrev pub kind_known : ℕ → ℕ → Bool
kind_known version kind = eqb version VERSION && within SEND COMMIT kind

-- one of six by the kind; that of COMMIT where it is none of the first five
unfoldable pub by_kind : {A : Type 0} → ℕ → (send echo ready est aux commit : A) → A
by_kind kind send echo ready est aux commit =
    cond (eqb kind SEND) send
    (cond (eqb kind ECHO) echo
    (cond (eqb kind READY) ready
    (cond (eqb kind EST) est
    (cond (eqb kind AUX) aux
    commit))))

-- bytes 3 to 7 (PROTOCOL 2.1 to 2.6, 2.11)
unfoldable pub fields_right : ℕ → Header → Bool
fields_right n h =
    cond (eqb h.reserved 0)
    (by_kind h.kind
    (broadcast_fields n h && eqb h.instance h.sender)
    (broadcast_fields n h)
    (broadcast_fields n h)
    (vote_fields n h)
    (vote_fields n h)
    (commit_fields n h))
    false

-- the values (PROTOCOL 2.4 to 2.6)
unfoldable pub read_values : Header → List ℕ → Result Message Refusal
read_values h v =
    by_kind h.kind
    (Ok (Send h.instance (value_at v 1)))
    (Ok (Echo h.instance (value_at v 1)))
    (Ok (Ready h.instance (value_at v 1)))
    (taken_if (leb (value_at v 1) 1) (Est h.instance h.round (value_at v 1)))
    (taken_if (leb (value_at v 1) 1) (Aux h.instance h.round (value_at v 1)))
    (taken_if (rises (values h.count v)) (Commit h.count))

unfoldable pub read_checked : (n session link : ℕ) → Header → List ℕ → Result Message Refusal
read_checked n session link h v =
    cond (not (kind_known h.version h.kind)) (Err refusal.Kind)
    (cond (not (eqb h.session session)) (Err refusal.Session)
    (cond (not (sender_right n link h.sender)) (Err refusal.Sender)
    (cond (not (fields_right n h)) (Err refusal.Field)
    (read_values h v))))

unfoldable pub read_message : (n session link : ℕ) → List ℕ → Result Message Refusal
read_message n session link b = cond (not (length_right b)) (Err refusal.Length) (read_checked n session link (header_of b) (drop 12 b))

-- ---- delivery (PROTOCOL 9.17, 10.15)

unfoldable pub verdict : List ℕ → ℕ → List ℕ → Result Message Refusal
verdict s link b =
    cond (not (is_state s)) (Err refusal.NoState)
    (cond (closed s) (Err refusal.Closed)
    (judged s link (read_message (session_of s).settings.n (session_of s).number link b)))

unfoldable pub deliver_answer : List ℕ → ℕ → List ℕ → Result (Unit {0}) Refusal
deliver_answer s link b = answer_of (verdict s link b)

unfoldable pub delivered : List ℕ → ℕ → List ℕ → List ℕ
delivered s link b = words_after (verdict s link b) s link b

-- ---- recording (PROTOCOL 9.21, 10.17)

unfoldable pub record_answer : List ℕ → ℕ → ℕ → ℕ → Result (Unit {0}) Refusal
record_answer s i r b =
    cond (not (is_state s)) (Err refusal.NoState)
    (cond (closed s) (Err refusal.Closed)
    (cond (not (recordable s (word s n_at) i r b)) (Err refusal.Coin)
    (Ok tt)))

unfoldable pub recorded_words : List ℕ → ℕ → ℕ → ℕ → List ℕ
recorded_words s i r b = cond (is_ok (record_answer s i r b)) (with_bit s i r b) s

-- ---- turn (PROTOCOL, section 8)

-- 6. start, relay, AUX or move of the lowest vote that has one (PROTOCOL 5.2, 8.7)
unfoldable pub vote_rule : Settings → List ℕ → (ℕ → Bool) → Act
vote_rule g s has_output = first_act (λ i. vote_act g s (has_output i) (votes_decided_one g s) i) g.n

unfoldable pub votes_rule : Settings → List ℕ → Act
votes_rule g s = cond (eqb (exit_now g s).number 1) Idle (vote_rule g s (λ i. present (output g s i)))

unfoldable pub due : Settings → List ℕ → Act
due g s =
    or_act (in_force_rule g s)
    (or_act (commit_rule g s)
    (or_act (send_rule s)
    (or_act (echo_rule g s)
    (or_act (ready_rule g s)
    (votes_rule g s)))))

unfoldable pub admits_turn : List ℕ → ℕ → Result Session Refusal
admits_turn s room =
    cond (not (is_state s)) (Err refusal.NoState)
    (cond (closed s) (Err refusal.Closed)
    (cond (ltb room 140) (Err refusal.Short)
    (Ok (session_of s))))

-- byte 0 of a message that is sent is 1 (PROTOCOL 2.7)
unfoldable pub bytes_after : Session → List ℕ → Outcome → List ℕ → List ℕ
bytes_after x s outcome.Idle out = out
bytes_after x s (outcome.Sent m) out = at_front (encode m VERSION x.own x.number (commit_due x.settings s)) out
bytes_after x s outcome.MovedOut out = out
bytes_after x s outcome.InForce out = out

unfoldable pub turn_outcome : List ℕ → ℕ → Result Outcome Refusal
turn_outcome s room = taking (admits_turn s room) Err (λ x. Ok (outcome_of x.own s (due x.settings s)))

unfoldable pub turn_words : List ℕ → ℕ → List ℕ
turn_words s room = taking (admits_turn s room) (λ k. s) (λ x. applied s (due x.settings s))

unfoldable pub turn_bytes : List ℕ → List ℕ → List ℕ
turn_bytes s out = taking (admits_turn s (length out)) (λ k. out) (λ x. bytes_after x s (outcome_of x.own s (due x.settings s)) out)

-- ---- report (PROTOCOL 9.24, 9.25)

unfoldable pub admits_report : List ℕ → ℕ → ℕ → Result Settings Refusal
admits_report s named_words in_force_words =
    cond (not (is_state s)) (Err refusal.NoState)
    (cond (ltb named_words set_words || ltb in_force_words set_words) (Err refusal.Short)
    (Ok (settings_of s)))

unfoldable pub report_answer : List ℕ → ℕ → ℕ → Result Figures Refusal
report_answer s named_words in_force_words = giving (admits_report s named_words in_force_words) Err (λ g. Ok (figures_of g s))

unfoldable pub report_named : List ℕ → List ℕ → ℕ → List ℕ
report_named s named in_force_words = giving (admits_report s (length named) in_force_words) (λ k. named) (λ g. at_front (exit_now g s).names named)

unfoldable pub report_in_force : List ℕ → ℕ → List ℕ → List ℕ
report_in_force s named_words set_in_force = giving (admits_report s named_words (length set_in_force)) (λ k. set_in_force) (λ g. at_front (in_force_set g s) set_in_force)
