-- The cases of the code, and that a number gives its parts back.
use Rattle.std.specs.Prelude.{ℕ, ◌+◌, ◌*◌, ◌/◌, ◌%◌, ◌^◌, ◌≤◌, ◌<◌, Bool, true, false, cond, List, ◌≡◌, refl, ltb, length, Result, Ok, Err, Option, Some, None}
use Rattle.std.proofs.Common.{sym, ap, ◌∙◌, arith, lt-ltb, le-ltb, Fits}
use Rattle.std.specs.Int.{w64}
use Rattle.settings.specs.declared.Settings.{Settings}
use Rattle.records.specs.Records.{coin}
use Rattle.acts.specs.declared.Act.{Act}
use Rattle.acts.specs.declared.Act.TheVariants.{Idle, InForce, Commit, Send, Echo, Ready, Start, Relay, Aux, Move, Finish}
use Rattle.votes.specs.Votes.{estimate}
use Rattle.wire.specs.Message.{length_of}
use Rattle.wire.specs.declared.Message.{Message}
use Rattle.wire.specs.declared.Message.TheVariants as message
use Rattle.turn.specs.Due.{due}
use Rattle.turn.specs.Turn.{sent_length, move_outcome, outcome_of, admits, taking, turn_outcome}
use Rattle.turn.specs.laws.Told.{ActTold}
use Rattle.turn.specs.laws.Due.{due_told}
use Rattle.turn.specs.laws.Admitting.{admitting, admitted_ruled}
use Rattle.turn.specs.declared.Outcome.{Outcome}
use Rattle.turn.specs.declared.Outcome.TheVariants as turn
use Rattle.report.specs.Report.{report_answer}
use Rattle.report.specs.laws.Report.{reported, turns_few}
use Rattle.report.specs.declared.Figures.{Figures}
use Rattle.opening.specs.Arguments.{Arguments}
use Rattle.journal.specs.laws.Journal.{line_taken}
use Rattle.journal.specs.Journal.{line_entry, open_line_answer, open_entry, deliver_line_answer, deliver_entry, record_line_answer, record_entry}
use Rattle.journal.specs.laws.Fitting.{opening_fits, delivery_fits, recording_fits}
use Rattle.coin_box.specs.Box.{request_reply}
use Rattle.restore.specs.Complete.{lines_of, joined}
use Rattle.restore.specs.Restoring.{Replay, wrong, right, replay, length_again, replay_answer, lent_answer, where_lent, restore_answer}
use Rattle.restore.specs.declared.Restored.{Restored}
use Rattle.restore.specs.declared.RestoreError.{RestoreError}
use Rattle.restore.specs.declared.RestoreError.TheVariants as failed
use Rattle.cabi.specs.Answers.{entry_number, outcome_number, figures_number, report_number}
use Rattle.cabi.specs.Restored.{restored_number}
use Rattle.cabi.specs.Replies.{bit_value, reply_number}
use Rattle.settings.specs.declared.refusal.Refusal.{Refusal}
use Rattle.session.specs.declared.Session.{Session}
use Rattle.settings.specs.declared.refusal.Refusal.TheVariants as refusal
use Rattle.settings.specs.Refusals.{number_of}

-- the length of a line that is written, and of a message that is given again
abbrev pub line_length : Result ℕ Refusal → ℕ
line_length (Err k) = 0
line_length (Ok l) = l

abbrev pub message_length : Result Restored RestoreError → ℕ
message_length (Err k) = 0
message_length (Ok r) = r.message

-- a message that is sent has at most 16 values
act_few : (own : ℕ) (g : Settings) (s : List ℕ) (a : Act) → ActTold g s a → sent_length (Ok (outcome_of own s a)) ≤ 140
unfolding outcome_of move_outcome
act_few own g s Idle t = omega arith
act_few own g s InForce t = omega arith
act_few own g s (Commit k) t = omega (arith, t.few)
act_few own g s (Send v) t = omega arith
act_few own g s (Echo i v) t = omega arith
act_few own g s (Ready i v) t = omega arith
act_few own g s (Start i b) t = omega arith
act_few own g s (Relay i r b) t = omega arith
act_few own g s (Aux i r b) t = omega arith
act_few own g s (Finish i b) t = omega arith
act_few own g s (Move i r v) t = go (ltb r 32)
  where
    go : (b : Bool) → sent_length (Ok (cond b (turn.Sent (message.Est i (r + 1) (estimate (coin s i r) v))) turn.MovedOut)) ≤ 140
    go true = omega arith
    go false = omega arith

pub sent_few : (s : List ℕ) (room : ℕ) → sent_length (turn_outcome s room) ≤ 140
unfolding taking turn_outcome
sent_few s room = go (admits s room) refl
  where
    go : (v : Result Session Refusal) → admits s room ≡ v → sent_length (turn_outcome s room) ≤ 140
    go (Err k) e = rw e (omega arith)
    go (Ok x) e = rw e (act_few x.own x.settings s (due x.settings s) (due_told x.settings s (admitted_ruled s room x (admitting s room x e))))

module _ (o : Result Outcome Refusal) (h : sent_length o ≤ 140) (x : Outcome) (y : o ≡ Ok x) (m : Message) (e : x ≡ turn.Sent m) (l : ℕ) (f : l ≡ length_of m) where
  length_few : l ≤ 140
  length_few = rw f (rw (y, e) at h)

  pub shifted_fits : Fits w64 (65536 * l)
  shifted_fits = record { fits = omega (arith, length_few) }

  pub sum_fits : Fits w64 (256 + 65536 * l)
  sum_fits = record { fits = omega (arith, length_few) }

  pub sent_number : 256 + 65536 * l ≡ outcome_number o
  sent_number = rw (y, e, f)

pub ruleset outcome_cases = (shifted_fits, sum_fits, sent_number)

module _ (s : List ℕ) (room : ℕ) (o : Result Outcome Refusal) (e : o ≡ turn_outcome s room) where
  pub turn_few : sent_length o ≤ 140
  turn_few = rw e (sent_few s room)

  pub turn_number : (r : ℕ) → r ≡ outcome_number o → r ≡ outcome_number (turn_outcome s room)
  turn_number r f = f ∙ ap outcome_number e

pub ruleset turn_cases = (turn_few, turn_number)

module _ (e : Result ℕ Refusal) (h : line_length e ≤ 512) (l : ℕ) (f : e ≡ Ok l) where
  pub line_fits : Fits w64 (65536 * l)
  line_fits = let q : l ≤ 512 = rw f at h in record { fits = omega arith }

  pub line_number : 65536 * l ≡ entry_number e
  line_number = rw f

pub ruleset entry_cases = (line_fits, line_number)

entry_few : (a : Result (Unit {0}) Refusal) (line : List ℕ) → (a ≡ Ok tt → length line ≤ 512) → line_length (line_entry a line) ≤ 512
unfolding line_entry
entry_few (Ok tt) line h = h refl
entry_few (Err k) line h = omega arith

module _ (words : ℕ) (o : Arguments) (room : ℕ) (e : Result ℕ Refusal) (f : e ≡ open_entry words o room) where
  pub open_few : line_length e ≤ 512
  unfolding open_entry open_line_answer
  open_few = rw f (entry_few _ _ (λ z. opening_fits words o (line_taken _ room z).0))

  pub open_number_lem : (r : ℕ) → r ≡ entry_number e → r ≡ entry_number (open_entry words o room)
  open_number_lem r g = g ∙ ap entry_number f

module _ (s : List ℕ) (link : ℕ) (b : List ℕ) (room : ℕ) (e : Result ℕ Refusal) (f : e ≡ deliver_entry s link b room) where
  pub deliver_few : line_length e ≤ 512
  unfolding deliver_entry deliver_line_answer
  deliver_few = rw f (entry_few _ _ (λ z. delivery_fits s link b (line_taken _ room z).0))

  pub deliver_number_lem : (r : ℕ) → r ≡ entry_number e → r ≡ entry_number (deliver_entry s link b room)
  deliver_number_lem r g = g ∙ ap entry_number f

module _ (s : List ℕ) (i r b room : ℕ) (e : Result ℕ Refusal) (f : e ≡ record_entry s i r b room) where
  pub record_few : line_length e ≤ 512
  unfolding record_entry record_line_answer
  record_few = rw f (entry_few _ _ (λ z. recording_fits i r b))

  pub record_number_lem : (q : ℕ) → q ≡ entry_number e → q ≡ entry_number (record_entry s i r b room)
  record_number_lem q g = g ∙ ap entry_number f

pub ruleset line_cases = (open_few, open_number_lem, deliver_few, deliver_number_lem, record_few, record_number_lem)

again_few : (x : Option (List ℕ)) → length_again x ≤ 140
unfolding length_again
again_few None = omega arith
again_few (Some w) = sent_few w 140

replay_few : (x : Replay) (bytes : ℕ) → message_length (replay_answer x bytes) ≤ 140
unfolding replay_answer
replay_few (wrong k) bytes = omega arith
replay_few (right x) bytes = again_few x.turned

restore_answer_few : (v j : List ℕ) (room : ℕ) → message_length (restore_answer v j room) ≤ 140
unfolding restore_answer
restore_answer_few v j room = go (lent_answer (length v) room)
  where
    go : (a : Result (Unit {0}) Refusal) → message_length (where_lent a (replay_answer (replay (lines_of j)) (length (joined (lines_of j))))) ≤ 140
    go (Ok tt) = replay_few (replay (lines_of j)) _
    go (Err k) = omega arith

pub again_some : (m : ℕ) → 0 < m → ◌≡◌ {A = ℕ} 1 (cond (ltb 0 m) 1 0)
again_some m h = rw (lt-ltb 0 m h)

pub again_none : (m : ℕ) → m ≤ 0 → ◌≡◌ {A = ℕ} 0 (cond (ltb 0 m) 1 0)
again_none m h = rw (le-ltb 0 m h)

pub ruleset again_cases = (again_some, again_none)

-- each part stays within its bits
again_bit : (b : Bool) → cond b 1 0 ≤ 1
again_bit true = omega arith
again_bit false = omega arith

module _ (a : Result Restored RestoreError) (h : message_length a ≤ 140) where
  module _ (x : RestoreError) (e : a ≡ Err x) where
    pub lent_number : (k : Refusal) (n : ℕ) → x ≡ failed.Lent k → n ≡ number_of k → n ≡ restored_number a
    lent_number k n f g = g ∙ rw (e, f)

    pub line_number_lem : (line j : ℕ) → x ≡ failed.Line line → j ≡ number_of refusal.Journal → j + 256 * (line % 72057594037927936) ≡ restored_number a
    line_number_lem line j f g = rw (e, f, g)

  module _ (r : Restored) (f : a ≡ Ok r) (g : ℕ) (q : g ≡ cond (ltb 0 r.message) 1 0) where
    few_again : r.message ≤ 140
    few_again = rw f at h

    one_again : g ≤ 1
    one_again = rw q (again_bit (ltb 0 r.message))

    pub flag_fits : Fits w64 (256 * g)
    flag_fits = record { fits = omega (arith, one_again) }

    pub message_fits : Fits w64 (65536 * r.message)
    message_fits = record { fits = omega (arith, few_again) }

    pub both_fit : Fits w64 (256 * g + 65536 * r.message)
    both_fit = record { fits = omega (arith, few_again, one_again) }

    pub all_fit : Fits w64 (256 * g + 65536 * r.message + 4294967296 * (r.bytes % 4294967296))
    all_fit = record { fits = omega (arith, few_again, one_again) }

    pub given_number : 256 * g + 65536 * r.message + 4294967296 * (r.bytes % 4294967296) ≡ restored_number a
    given_number = rw (f, q)

pub ruleset restored_cases = (lent_number, line_number_lem, flag_fits, message_fits, both_fit, all_fit, given_number)

module _ (v j : List ℕ) (room : ℕ) (a : Result Restored RestoreError) (f : a ≡ restore_answer v j room) where
  pub restore_few : message_length a ≤ 140
  restore_few = rw f (restore_answer_few v j room)

  pub restore_number : (r : ℕ) → r ≡ restored_number a → r ≡ restored_number (restore_answer v j room)
  restore_number r g = g ∙ ap restored_number f

pub ruleset restore_cases = (restore_few, restore_number)

module _ (s : List ℕ) (x y : ℕ) (a : Result Figures Refusal) (e : a ≡ report_answer s x y) where
  pub report_refused : (k : Refusal) (n : ℕ) → a ≡ Err k → n ≡ number_of k → n ≡ report_number (report_answer s x y)
  report_refused k n t g = g ∙ rw (← e, t)

  module _ (f : Figures) (t : a ≡ Ok f) where
    pub turns_fit : f.turns < 4294967296
    turns_fit = omega (arith, turns_few s f (reported s x y f (sym e ∙ t)))

    pub report_given : (r : ℕ) → r ≡ figures_number f → r ≡ report_number (report_answer s x y)
    report_given r q = q ∙ rw (← e, t)

pub ruleset report_cases = (report_refused, turns_fit, report_given)

-- the parts of a report's number
pub record Parts (f : Figures) (r : ℕ) : Type 0 where
  pub accepted : r % 2 ^ 8 ≡ 0
  pub exit : r / 2 ^ 8 % 2 ^ 8 ≡ f.exit
  pub named : r / 2 ^ 16 % 2 ^ 8 ≡ f.named
  pub by_in_force : r / 2 ^ 24 % 2 ^ 8 ≡ f.in_force
  pub turns : r / 2 ^ 32 ≡ f.turns

pub parts : (f : Figures) → f.exit < 2 ^ 8 → f.named < 2 ^ 8 → f.in_force < 2 ^ 8 → Parts f (figures_number f)
parts f a b c =
    record {
      accepted = omega arith;
      exit = omega arith;
      named = omega arith;
      by_in_force = omega arith;
      turns = omega arith;
    }

bit_small : (b : Bool) → bit_value b ≤ 1
bit_small true = omega arith
bit_small false = omega arith

module _ (x : Result (Option Bool) Refusal) (y : Option Bool) (z : x ≡ Ok y) (b : Bool) (e : y ≡ Some b) (k : ℕ) (f : k ≡ bit_value b) where
  pub bit_fits : Fits w64 (65536 * k)
  bit_fits = record { fits = omega (arith, bit_small b) }

  pub reply_fits : Fits w64 (256 + 65536 * k)
  reply_fits = record { fits = omega (arith, bit_small b) }

  pub bit_number : 256 + 65536 * k ≡ reply_number x
  bit_number = rw (z, e, f)

pub ruleset reply_cases = (bit_fits, reply_fits, bit_number)

pub request_number : (s : List ℕ) (p i r : ℕ) (x : Result (Option Bool) Refusal) (k : ℕ) → x ≡ request_reply s p i r → k ≡ reply_number x → k ≡ reply_number (request_reply s p i r)
request_number s p i r x k e f = f ∙ ap reply_number e
