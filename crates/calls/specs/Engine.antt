-- The engine as a machine of six calls, by the definitions that the contracts of the code cite.
use Rattle.std.specs.Prelude.{ℕ, ◌<◌, ◌^◌, true, List, ◌≢◌, ◌≡◌, eqb, length, take, get_or, Some, Ok}
use Rattle.settings.specs.declared.Settings.{Settings}
use Rattle.quorum.specs.Marks.{mark}
use Rattle.records.specs.Words.{word}
use Rattle.records.specs.Records.{decided_one}
use Rattle.broadcasts.specs.Broadcasts.{output}
use Rattle.session.specs.Session.{settings_of}
use Rattle.wire.specs.Message.{length_of}
use Rattle.opening.specs.Given.{item}
use Rattle.opening.specs.Arguments.{Arguments, settings_by}
use Rattle.journal.specs.Lines.{opening_line, delivery_line, turn_line, recording_line}
use Rattle.journal.specs.Journal.{open_line_answer, opened_words, deliver_line_answer, delivered_words, turned_outcome, turned_words, turned_message, record_line_answer, record_words}
use Rattle.restore.specs.Restoring.{accepted, restore_answer, restored_words}
use Rattle.report.specs.Report.{report_answer, report_named, report_in_force}
use Rattle.report.specs.declared.Figures.{Figures}
use Rattle.calls.specs.Machine.{Machine}
use Rattle.wire.specs.declared.Message as wire
use Rattle.journal.specs.Journal as journal_calls
use Rattle.turn.specs.declared.Outcome.TheVariants as outcome
use Rattle.std.specs.Result.{is_ok}

-- the arguments of an opening, and how many bytes it is lent for its line: the code takes 32 bits for the session number and each coin word, and
-- 64 for the own input; the version, weights, and whether coins are printed or boxed, are any numbers
pub record OpeningGiven : Type 0 where
  pub given : Arguments
  pub line : ℕ
  pub session_fits : given.session < 2 ^ 32
  pub input_fits : given.input < 2 ^ 64
  pub coins_fit : (i : ℕ) → word given.coins i < 2 ^ 32

-- what the openings of a session agree in: all that it shares (PROTOCOL 1.11)
pub record Agreed : Type 0 where
  pub version : ℕ
  pub settings : Settings
  pub number : ℕ
  pub coins : List ℕ
  pub boxed : ℕ

abbrev pub agreed : Arguments → Agreed
agreed o =
    record {
      version = o.version;
      settings = settings_by o;
      number = o.session;
      coins = o.coins;
      boxed = o.boxed;
    }

-- the bytes of a message, and how many bytes their delivery is lent for its line
pub record Bytes : Type 0 where
  pub list : List ℕ
  pub line : ℕ
  pub each : (i : ℕ) → get_or list i 0 < 256

-- the bytes that a turn is lent for a message, and how many for its line
pub record TurnLent : Type 0 where
  pub message : List ℕ
  pub line : ℕ

-- the turn answers that a message is sent, and b are its bytes
pub record SendsBytes (w : List ℕ) (l : TurnLent) (b : Bytes) : Type 0 where
  pub message : wire.Message
  pub outcome : turned_outcome w (length l.message) l.line ≡ Ok (outcome.Sent message)
  pub bytes : b.list ≡ take (length_of message) (turned_message w l.message l.line)

-- the vote, the round and the bit of a recording, and how many bytes it is lent for its line
pub record BitGiven : Type 0 where
  pub vote : ℕ
  pub round : ℕ
  pub bit : ℕ
  pub line : ℕ

-- the bytes of a journal, and those lent for the message of its last line
pub record RestoreLent : Type 0 where
  pub journal : List ℕ
  pub message : List ℕ

-- the set that a report, lent 16 words for each set, gives as named (PROTOCOL 9.25)
pub record ReportNames (w X : List ℕ) : Type 0 where
  pub lent : List ℕ
  pub room : length lent ≡ 16
  pub figures : Figures
  pub given : report_answer w 16 16 ≡ Ok figures
  pub exit : figures.exit ≢ 0
  pub set : X ≡ take figures.named (report_named w lent 16)

-- .. and the one that it gives as in force
pub record ReportEnforces (w X : List ℕ) : Type 0 where
  pub lent : List ℕ
  pub room : length lent ≡ 16
  pub figures : Figures
  pub given : report_answer w 16 16 ≡ Ok figures
  pub some : figures.in_force ≢ 0
  pub set : X ≡ take figures.in_force (report_in_force w 16 lent)

-- the six calls, by the definitions that their contracts cite; a buffer holds any numbers. Opening, delivery, turn and recording are lent
-- bytes for their line: with fewer than 512 they are refused by 8, after every other number, so what is accepted is written.
abbrev pub engine : Machine
engine =
    record {
      Words = List ℕ;
      Opening = OpeningGiven;
      own = λ o. o.given.own;
      input = λ o. o.given.input;
      Session = Agreed;
      session = λ o. agreed o.given;
      settings = λ S. S.settings;
      boxed = λ S. eqb S.boxed 1;
      coin = λ S i r. mark (item S.coins i) r;
      opens = λ w o. is_ok (open_line_answer (length w) o.given o.line);
      opened = λ w o. opened_words w o.given o.line;
      Bytes = Bytes;
      accepts = λ w m b. is_ok (deliver_line_answer w m b.list b.line);
      delivered = λ w m b. delivered_words w m b.list b.line;
      Lent = TurnLent;
      acts = λ w l. journal_calls.acts (turned_outcome w (length l.message) l.line);
      Sends = SendsBytes;
      turned = λ w l. turned_words w (length l.message) l.line;
      Recording = BitGiven;
      vote = λ x. x.vote;
      round = λ x. x.round;
      bit = λ x. x.bit;
      records = λ w x. is_ok (record_line_answer w x.vote x.round x.bit x.line);
      recorded = λ w x. record_words w x.vote x.round x.bit x.line;
      opening_line_lem = λ o. opening_line o.given;
      delivery_line_lem = λ m b. delivery_line m b.list;
      turn_line_lem = turn_line;
      recording_line_lem = λ x. recording_line x.vote x.round x.bit;
      Restore = RestoreLent;
      text = λ r. r.journal;
      restores = λ v r. accepted (restore_answer v r.journal (length r.message));
      restored = λ v r. restored_words v r.journal (length r.message);
      LentSets = List ℕ × List ℕ;
      Names = ReportNames;
      InForce = ReportEnforces;
      Outputs = λ w i v. output (settings_of w) w i ≡ Some v;
      DecidedOne = λ w i. decided_one w i ≡ true;
    }
