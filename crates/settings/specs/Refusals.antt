-- The numbers of the refusals: PROTOCOL, section 10.
use Rattle.std.specs.Prelude.{ℕ}
use Rattle.settings.specs.declared.refusal.Refusal.{Refusal}
use Rattle.settings.specs.declared.refusal.Refusal.TheVariants as refusal

abbrev pub number_of : Refusal → ℕ
-- settings, weights, own number, coin words or kind of coins against the rules, or another number of weights or coin words than n (PROTOCOL 10.1)
number_of refusal.Settings = 1
-- fewer than 12 bytes, or another length than byte 5 says (PROTOCOL 10.2)
number_of refusal.Length = 2
-- unknown version or kind (PROTOCOL 10.3)
number_of refusal.Kind = 3
-- a message of another session (PROTOCOL 10.4)
number_of refusal.Session = 4
-- the sender differs from the link, or the link is no concentrator (PROTOCOL 10.5)
number_of refusal.Sender = 5
-- bytes 3 to 7 break the layout (PROTOCOL 10.6)
number_of refusal.Field = 6
-- a value that the kind cannot have, or a COMMIT that does not rise (PROTOCOL 10.7)
number_of refusal.Value = 7
-- a lent buffer is too small: 140 bytes for the message of a turn or restore, 512 for the line of an opening, delivery, turn or recording,
-- 16 words for each set of a report (PROTOCOL 10.8)
number_of refusal.Short = 8
-- another number of words than a state has, or a box at its opening; stored settings, own number, kind of coins, rounds, COMMITs or turns that
-- no state has (PROTOCOL 10.9)
number_of refusal.NoState = 9
-- a delivery, turn or recording where the session is closed (PROTOCOL 10.10)
number_of refusal.Closed = 10
-- the message's place is taken (PROTOCOL 10.11)
number_of refusal.Held = 11
-- no window or more than 16, a bad one, or a closing minute or lead over its limit (PROTOCOL 10.23)
number_of refusal.Windows = 12
-- a record or line that is not taken; it has its number beside it (PROTOCOL 10.25)
number_of refusal.Record = 13
-- no complete line, or one that cannot be applied; it has the line's number beside it (PROTOCOL 10.12)
number_of refusal.Journal = 15
-- a bit that cannot be recorded: the session is printed, there is no such vote or round, the bit is above 1 or against the one recorded; a
-- request that cannot be made: the words are no box, or there is no such requester, vote or round (PROTOCOL 10.13)
number_of refusal.Coin = 16
