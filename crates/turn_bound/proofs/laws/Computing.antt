-- The definitions of the calls opened together, so that a closed list of calls computes: `unfolding calls`.
use Rattle.settings.specs.Settings.{valid_settings, largest_ta, named_ta, quorum, repeat, vote_quorum, relay, accept}
use Rattle.settings.specs.Versions.{version_known, finishing, turn_bound}
use Rattle.quorum.specs.Marks.{mark, with_mark}
use Rattle.quorum.specs.Total.{total}
use Rattle.quorum.specs.Weights.{weight_of}
use Rattle.quorum.specs.Whole.{whole_of, weight_right, weights_right}
use Rattle.quorum.specs.Packed.{mark_if, with_weight, packed}
use Rattle.quorum.specs.Lowest.{lowest}
use Rattle.quorum.specs.Every.{every}
use Rattle.records.specs.Words as words
use Rattle.records.specs.Records.{closed, send_sent, commit_sent, echo_sent, ready_sent, send_held, send_value, echo_held, echo_value, ready_held, ready_value, est_held, aux_held, one_first, finish_held, finish_sent, coin, printed, coin_recorded, coin_known, round, est_sent, aux_sent, decided_zero, decided_one, decided, commit_count, commit_value, commit_set}
use Rattle.records.specs.Words.{blank, store_of}
use Rattle.acts.specs.Acts.{or_act, act_at, first_act}
use Rattle.broadcasts.specs.Leading.{holders, leads, value_of, leading}
use Rattle.broadcasts.specs.Broadcasts.{output, echo_act, ready_due, ready_act, echo_rule, ready_rule}
use Rattle.commits.specs.Commits.{commit_held, same_set, set_holders, set_leads, set_leader, set_of, leading_set}
use Rattle.votes.specs.Votes.{est_count, accepted, one_alone, one_accepted_first, votes_decided_one, start_act, relay_value, relay_round, relay_act, running, aux_value, aux_act, carries, carriers, aux_count, carried, view, move_value, move_act, round_act, vote_act, winding_act, vote_due, vote_rule}
use Rattle.votes.specs.Finishing.{finish_count, repeated, finish_repeated, finish_value, finish_act, finished, finish_decides}
use Rattle.exits.specs.Exits.{with_output, size_s, exit1_at, votes_done, exit2_at, exit3_full, no_exit, exit3, naming, exit_of, exit_now}
use Rattle.session.specs.Session.{numbered, rounds_right, commits_right, numbers_right, settings_of, is_state, session_with, session_of, stored}
use Rattle.wire.specs.Bytes.{be2, be4, be8, value_at, values, rises_from, rises, bytes2, bytes4, bytes8, value_bytes}
use Rattle.wire.specs.Message.{last_kind, by_kind, header_for, front_bytes, header_bytes, message_bytes, encode}
use Rattle.wire.specs.Message as wire
use Rattle.wire.specs.Reading.{length_right, header_of, fields_right, taken_if, read_values, read_checked, read_message}
use Rattle.opening.specs.Opening.{open_answer, with_settings, with_coins, open_words, opened}
use Rattle.opening.specs.Given.{item, coin_zero, coins_given, weight_given, weights_given, weights_word}
use Rattle.delivery.specs.Delivery.{place_held, judged, verdict, first_noted, finish_settled, recorded, answer_of, words_after, deliver_answer, delivered}
use Rattle.recording.specs.Recording.{bit_mark, other_mark, in_layout, unopposed, recordable, record_answer, with_bit, recorded_words}
use Rattle.turn.specs.Due.{in_force_rule, or_set, commit_due, commit_of, commit_rule, send_rule, votes_rule, due}
use Rattle.turn.specs.Turn.{move_outcome, outcome_of, entered, new_decision, move_decided, moved, applied, admits, bytes_after, taking, turn_outcome, turn_words, turn_bytes}
use Rattle.turn.specs.Turn as turn
use Rattle.report.specs.Report.{in_force_set, figures_of, giving, report_answer, report_named, report_in_force}
use Rattle.report.specs.Report as report

-- thresholds, marks and weights
unfoldable countings : Unit {0}
unfolding valid_settings largest_ta named_ta quorum repeat vote_quorum relay accept version_known finishing turn_bound mark with_mark total weight_of whole_of weight_right weights_right mark_if with_weight packed lowest every
countings = tt

-- records
unfoldable records : Unit {0}
unfolding words.word words.put words.marked words.set_mark closed send_sent commit_sent echo_sent ready_sent send_held send_value echo_held echo_value ready_held ready_value est_held aux_held one_first finish_held finish_sent coin printed coin_recorded coin_known round est_sent aux_sent decided_zero decided_one decided commit_count commit_value commit_set blank store_of
records = tt

-- broadcasts and COMMITs
unfoldable broadcasts : Unit {0}
unfolding or_act act_at first_act holders leads value_of leading output echo_act ready_due ready_act echo_rule ready_rule commit_held same_set set_holders set_leads set_leader set_of leading_set
broadcasts = tt

-- votes and exits
unfoldable votes : Unit {0}
unfolding est_count accepted one_alone one_accepted_first votes_decided_one start_act relay_value relay_round relay_act running aux_value aux_act carries carriers aux_count carried view move_value move_act round_act vote_act winding_act vote_due vote_rule finish_count repeated finish_repeated finish_value finish_act finished finish_decides with_output size_s exit1_at votes_done exit2_at exit3_full no_exit exit3 naming exit_of exit_now
votes = tt

-- states and messages
unfoldable messages : Unit {0}
unfolding numbered rounds_right commits_right numbers_right settings_of is_state session_with session_of stored be2 be4 be8 value_at values rises_from rises bytes2 bytes4 bytes8 value_bytes last_kind by_kind header_for front_bytes header_bytes message_bytes encode wire.at_front length_right header_of fields_right taken_if read_values read_checked read_message
messages = tt

-- openings, deliveries and recordings
unfoldable openings : Unit {0}
unfolding open_answer item coin_zero coins_given weight_given weights_given weights_word with_settings with_coins open_words opened place_held judged verdict first_noted finish_settled recorded answer_of words_after deliver_answer delivered bit_mark other_mark in_layout unopposed recordable record_answer with_bit recorded_words
openings = tt

-- turns
unfoldable turns : Unit {0}
unfolding in_force_rule or_set commit_due commit_of commit_rule send_rule votes_rule due move_outcome outcome_of entered new_decision move_decided moved turn.with_turn_counted turn.done applied admits bytes_after taking turn_outcome turn_words turn_bytes
turns = tt

-- reports
unfoldable reports : Unit {0}
unfolding in_force_set figures_of report.admits giving report_answer report_named report_in_force
reports = tt

unfoldable pub calls : Unit {0}
unfolding countings records broadcasts votes messages openings turns reports
calls = tt
