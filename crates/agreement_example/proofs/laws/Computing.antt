-- Definitions of the test of a list opened together, so that a closed term computes: `unfolding checks`.
use Rattle.agreement_check.specs.Checking.{is_opened, words_of, lines_of, with_entry, same_list, among, was_sent, text_of, complete_of, some, last_words, keeps, sent_in, sent_by, same_session, opens, first_lines, delivery_lines, turn_lines, recording_lines, states_after, gone_after, restore_right, listed, opening_right, delivery_right, recording_right, call_right, step, run}
use Rattle.agreement_check.proofs.laws.Example.{closes_with, closes, all_close, ends, passes_at, passes}
use Rattle.agreement_check.proofs.laws.Refusals.{refusal, with_refusal, after_call, refusals}
use Rattle.opening.specs.Given.{ones_given}
use Rattle.text.specs.Numbers.{decimal_in, decimal_text}
use Rattle.journal.specs.Lines.{number_text, number_texts, tabbed, opening_forms, opening_text, hex_bytes, delivery_text, recording_text, with_end}
use Rattle.journal.specs.Journal.{line_answer, line_words, open_line_answer, opened_words, deliver_line_answer, delivered_words, record_line_answer, record_words, turn_room, turned_message}
use Rattle.calls.specs.Given.{low_bytes, bytes_of, coins_of, opening_of, turn_with, bit_of}
use Rattle.agreement_example.specs.Messages.{opening_in, opening_with, opening_five, deliver_in, deliver, turn_of, record_of}
use Rattle.agreement_check.specs.Bits.{box_bit}

-- the test of a list
unfoldable testing : Unit {0}
unfolding is_opened words_of lines_of with_entry same_list among was_sent text_of complete_of some last_words keeps sent_in sent_by same_session opens first_lines delivery_lines turn_lines recording_lines states_after gone_after restore_right listed opening_right delivery_right recording_right call_right step run
testing = tt

-- the calls of the lists, and their refusals
unfoldable listing : Unit {0}
unfolding box_bit closes_with closes all_close ends passes_at passes refusal with_refusal after_call refusals low_bytes bytes_of coins_of opening_of turn_with bit_of opening_in opening_with opening_five deliver_in deliver turn_of record_of
listing = tt

-- the lines of a journal
unfoldable lines : Unit {0}
unfolding ones_given line_answer line_words open_line_answer opened_words deliver_line_answer delivered_words record_line_answer record_words turn_room turned_message number_text number_texts tabbed opening_forms opening_text hex_bytes delivery_text recording_text with_end decimal_in decimal_text
lines = tt

unfoldable pub checks : Unit {0}
unfolding testing listing lines
checks = tt
