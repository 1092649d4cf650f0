-- Which lines a drill takes, and what they come to; one that cannot be taken ends it (PROTOCOL 15.16).
use Rattle.std.specs.Prelude.{ℕ, ◌^◌, Bool, true, false, cond, not, ◌&&◌, nat_le, nat_lt, Option, Some, None}
use Rattle.quorum.specs.Marks.{mark}
use Rattle.records.specs.Layout.{state_words}
use Rattle.records.specs.Words.{blank}
use Rattle.session.specs.Session.{numbered}
use Rattle.opening.specs.Opening.{open_answer}
use Rattle.drill_lines.specs.declared.LiarMessage.{LiarMessage}
use Rattle.drill_lines.specs.declared.Line.{Line}
use Rattle.drill_lines.specs.declared.Line.TheVariants as line
use Rattle.drill_feeder.specs.Lines.{drill_arguments}
use Rattle.drill_feeder.specs.declared.Lie.{Lie}
use Rattle.drill_feeder.specs.declared.Members.{Members}
use Rattle.drill_core.specs.declared.Phase.{Phase}
use Rattle.drill_core.specs.declared.Phase.TheVariants as phase
use Rattle.drill_core.specs.declared.Given.{Given}
use Rattle.drill_core.specs.declared.State.{State}
use Rattle.drill_core.specs.declared.Call.TheVariants as call
use Rattle.drill_core.specs.declared.Verdict.{Verdict}
use Rattle.drill_core.specs.declared.Verdict.TheVariants as verdict
use Rattle.std.specs.Result.{is_ok}

-- no line was taken yet
unfoldable pub is_first : Phase → Bool
is_first phase.First = true
is_first phase.Setup = false
is_first phase.Running = false
is_first phase.Bad = false

-- the N line was taken, and only C and P lines after it, which come before all others (PROTOCOL 15.4, 15.5)
unfoldable pub is_setup : Phase → Bool
is_setup phase.First = false
is_setup phase.Setup = true
is_setup phase.Running = false
is_setup phase.Bad = false

-- the N line was taken
unfoldable pub after_settings : Phase → Bool
after_settings phase.First = false
after_settings phase.Setup = true
after_settings phase.Running = true
after_settings phase.Bad = false

-- a line could not be taken
unfoldable pub is_bad : Phase → Bool
is_bad phase.First = false
is_bad phase.Setup = false
is_bad phase.Running = false
is_bad phase.Bad = true

-- who has a P line is honest, who has none lies (PROTOCOL 15.5, 15.11)
unfoldable pub is_honest : Members → ℕ → Bool
is_honest g p = numbered g.n p && mark g.honest p

unfoldable pub is_liar : Members → ℕ → Bool
is_liar g p = numbered g.n p && not (mark g.honest p)

-- opening takes the settings: 2,048 words, number 1, session and input 0, n coin words of 0
unfoldable pub settings_open : (n ta ts : ℕ) → Bool
settings_open n ta ts = is_ok (open_answer state_words (drill_arguments n ta ts 1 0 0 (blank n)))

-- an opening takes the settings, n is at most 4, and the session number has 32 bits (PROTOCOL 15.3)
unfoldable pub settings_taken : (n ta ts session : ℕ) → Bool
settings_taken n ta ts session = settings_open n ta ts && nat_le n 4 && nat_lt session (2 ^ 32)

-- the settings (PROTOCOL 15.3)
unfoldable pub judged_n : (n ta ts session : ℕ) → Option Verdict
judged_n n ta ts session = cond (settings_taken n ta ts session) (Some (verdict.Settings n ta ts session)) None

-- one C line for each vote, 1 to n (PROTOCOL 15.4); a word of 8 hexadecimal digits is always below 2^32
unfoldable pub judged_c : Given → (i word : ℕ) → Option Verdict
judged_c g i word =
    cond (numbered g.members.n i)
    (cond (mark g.named i) None
    (cond (nat_lt word (2 ^ 32)) (Some (verdict.Coin i word))
    None))
    None

-- one P line for each concentrator (PROTOCOL 15.5): who has none yet is no honest one yet
unfoldable pub judged_p : Members → (p value : ℕ) → Option Verdict
judged_p g p value = cond (is_liar g p) (Some (verdict.Input p value)) None

-- turns are at honest ones (PROTOCOL 15.6)
unfoldable pub judged_t : Members → ℕ → Option Verdict
judged_t g p = cond (is_honest g p) (Some (verdict.Call (call.Turn p))) None

-- message k was sent, and is delivered to an honest one (PROTOCOL 15.7)
unfoldable pub judged_d : Members → (sent k q : ℕ) → Option Verdict
judged_d g sent k q = cond (numbered sent k) (cond (is_honest g q) (Some (verdict.Call (call.Deliver k q))) None) None

-- each number fits its bytes: kind, instance and round have one byte, a value of 64 bits fits its eight (PROTOCOL 15.8)
unfoldable pub bytes_fit : (kind instance round : ℕ) → Bool
bytes_fit kind instance round = nat_le kind 255 && nat_le instance 255 && nat_le round 255

-- the message of a liar, sent to q
abbrev pub lie_of : LiarMessage → Lie
lie_of l = record { p = l.p; kind = l.kind; instance = l.instance; round = l.round; value = l.value }

-- an L is from a liar, to an honest one, and its numbers fit their bytes (PROTOCOL 15.8)
unfoldable pub judged_l : Members → LiarMessage → Option Verdict
judged_l g l =
    cond (is_liar g l.p)
    (cond (is_honest g l.q)
    (cond (bytes_fit l.kind l.instance l.round) (Some (verdict.Call (call.Lie l.q (lie_of l)))) None)
    None)
    None

-- what a line comes to: the settings are line 1, then come C and P lines, then all others (PROTOCOL 15.3 to 15.9); a line of the
-- wrong form comes to nothing, as one that cannot be taken
unfoldable pub judged : State → Option Line → Option Verdict
judged s None = None
judged s (Some (line.N n ta ts session)) = cond (is_first s.phase) (judged_n n ta ts session) None
judged s (Some (line.C i word)) = cond (is_setup s.phase) (judged_c s.given i word) None
judged s (Some (line.P p value)) = cond (is_setup s.phase) (judged_p s.given.members p value) None
judged s (Some (line.T p)) = cond (after_settings s.phase) (judged_t s.given.members p) None
judged s (Some (line.D k q)) = cond (after_settings s.phase) (judged_d s.given.members s.counts.sent k q) None
judged s (Some (line.L l)) = cond (after_settings s.phase) (judged_l s.given.members l) None
judged s (Some line.R) = cond (after_settings s.phase) (Some (verdict.Call call.Run)) None
