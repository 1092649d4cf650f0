-- The engine's calls on parts of the memory, as the code makes them.
use Rattle.std.specs.Prelude.{ℕ, zero, suc, ◌+◌, ◌*◌, ◌-◌, ◌≤◌, ◌<◌, Bool, List, ◌∷◌, ◌≡◌, refl, length, take, drop, replicate, Result}
use Rattle.std.proofs.Common.{sym, ◌∙◌, arith, le-leb}
use Rattle.std.proofs.Math.Path.{ap}
use Rattle.std.proofs.Math.Decide.{dec_le}
use borrow.Rule.Slice.PartMut.{put_mid}
use Rattle.records.specs.Records.{closed}
use Rattle.opening.specs.Given.{weights_word}
use Rattle.opening.specs.laws.GivenCases.{weights_many}
use Rattle.opening.specs.Given.{ones_given}
use Rattle.opening.specs.Arguments.{arguments}
use Rattle.opening.specs.Opening.{open_answer, with_settings, open_words, opened}
use Rattle.delivery.specs.Delivery.{delivered}
use Rattle.turn.specs.Turn.{turn_outcome, turn_words, turn_bytes}
use Rattle.turn.specs.declared.Outcome.{Outcome}
use Rattle.report.specs.Report.{report_answer, report_named, report_in_force}
use Rattle.drill_feeder.specs.Parts.{part, state_at, place_at, state_of, with_state, room_for, with_room, byte_at, message_at, sender_at}
use Rattle.drill_feeder.specs.laws.Parts.{PartOf, part_lent, part_back}
use Rattle.drill_feeder.specs.Lines.{drill_arguments, opened_at, delivered_to, message_delivered}
use Rattle.report.specs.declared.Figures.{Figures}
use Rattle.settings.specs.declared.refusal.Refusal.{Refusal}
use Rattle.std.specs.declared.ops.Range.{Range}

-- the elements that a part lends
abbrev lent : List ℕ → Range ℕ → List ℕ
lent l r = take (r.end - r.start) (drop r.start l)

-- 16 weights of 1, as the code has them
abbrev sixteen : List ℕ
sixteen = replicate 16 1

-- the first n of m weights of 1
ones_taken : (n m : ℕ) → n ≤ m → take n (ones_given m) ≡ ones_given n
unfolding ones_given
ones_taken zero m h = refl
ones_taken (suc n) zero h = absurd (omega arith)
ones_taken (suc n) (suc m) h = ap (λ (l : List ℕ). 1 ∷ l) (ones_taken n m (omega arith))

ones_part : (n : ℕ) → n ≤ 16 → part (ones_given 16) 0 n ≡ ones_given n
unfolding part ones_given
ones_part n h = rw (le-leb (0 + n) 16 (omega arith)) (ones_taken n 16 h)

-- no list of weights is right for an n above 16
none_right : (n : ℕ) (weights : List ℕ) → 16 < n → weights_word n weights ≡ 0
unfolding weights_word
none_right n weights h = rw (← weights_many n weights h)

-- the weights that an opening is lent
ones_lent : (n : ℕ) (b : Range ℕ) → PartOf 16 0 n b → weights_word n (lent sixteen b) ≡ weights_word n (ones_given n)
unfolding ones_given
ones_lent n b h = elim (dec_le n 16) [
  | yes l ↦ ap (weights_word n) (part_lent sixteen 0 n b h ∙ ones_part n l)
  | no l ↦ none_right n (lent sixteen b) (omega arith) ∙ sym (none_right n (ones_given n) (omega arith))
]

-- an opening by any weights of the same word is that by weights of 1
with_ones : (s : List ℕ) (n ta ts p session input : ℕ) (coins weights : List ℕ) → weights_word n weights ≡ weights_word n (ones_given n) →
    opened s (arguments 1 n ta ts p session input coins weights 0) ≡ opened s (drill_arguments n ta ts p session input coins)
unfolding opened open_answer open_words with_settings
with_ones s n ta ts p session input coins weights e = rw e

-- a state, and the words that come back for it
module _ (w : List ℕ) (p : ℕ) (a : Range ℕ) (h : PartOf (length w) (state_at p) 2048 a) where
  state_lent : lent w a ≡ state_of w p
  unfolding state_of
  state_lent = part_lent w (state_at p) 2048 a h

  state_back : (ys : List ℕ) → length ys ≡ length (lent w a) → put_mid a.start (a.end - a.start) w ys ≡ with_state w p ys
  unfolding with_state
  state_back ys k = part_back w (state_at p) 2048 a h ys k

  pub open_back : (ys : List ℕ) (n ta ts own session input : ℕ) (coins : List ℕ) (b : Range ℕ) → PartOf 16 0 n b → own ≡ p → length ys ≡ length (lent w a) →
      ys ≡ opened (lent w a) (arguments 1 n ta ts own session input coins (lent sixteen b) 0) →
      put_mid a.start (a.end - a.start) w ys ≡ opened_at w (drill_arguments n ta ts p session input coins)
  unfolding opened_at
  open_back ys n ta ts own session input coins b g e k q =
      state_back ys k ∙ ap (with_state w p) (q ∙ rw (e, state_lent) (with_ones (state_of w p) n ta ts p session input coins (lent sixteen b) (ones_lent n b g)))

  pub deliver_back : (ys : List ℕ) (link sender : ℕ) (b : List ℕ) → link ≡ sender → length ys ≡ length (lent w a) →
      ys ≡ delivered (lent w a) link b → put_mid a.start (a.end - a.start) w ys ≡ delivered_to w p sender b
  unfolding delivered_to
  deliver_back ys link sender b e k q = state_back ys k ∙ ap (with_state w p) (q ∙ rw (e, state_lent))

  pub closed_lent : (r : Bool) → r ≡ closed (lent w a) → r ≡ closed (state_of w p)
  closed_lent r q = q ∙ rw state_lent

  pub report_answer_lem : (r : Result Figures Refusal) (x y : ℕ) → r ≡ report_answer (lent w a) x y → r ≡ report_answer (state_of w p) x y
  report_answer_lem r x y q = q ∙ rw state_lent

  pub report_named_lem : (r x : List ℕ) (y : ℕ) → r ≡ report_named (lent w a) x y → r ≡ report_named (state_of w p) x y
  report_named_lem r x y q = q ∙ rw state_lent

  pub report_in_force_lem : (r y : List ℕ) (x : ℕ) → r ≡ report_in_force (lent w a) x y → r ≡ report_in_force (state_of w p) x y
  report_in_force_lem r y x q = q ∙ rw state_lent

  -- a turn
  module _ (m : List ℕ) (sent : ℕ) (b : Range ℕ) (g : PartOf (length m) (44 * sent) 140 b) where
    room_lent : lent m b ≡ room_for m sent
    unfolding room_for
    room_lent = part_lent m (44 * sent) 140 b g

    pub turn_answer : (o : Result Outcome Refusal) → o ≡ turn_outcome (lent w a) (length (lent m b)) → o ≡ turn_outcome (state_of w p) (length (room_for m sent))
    turn_answer o q = q ∙ rw (state_lent, room_lent)

    pub turn_words_lem : (ys : List ℕ) → length ys ≡ length (lent w a) → ys ≡ turn_words (lent w a) (length (lent m b)) →
        put_mid a.start (a.end - a.start) w ys ≡ with_state w p (turn_words (state_of w p) (length (room_for m sent)))
    turn_words_lem ys k q = state_back ys k ∙ ap (with_state w p) (q ∙ rw (state_lent, room_lent))

    pub turn_bytes_lem : (ys : List ℕ) → length ys ≡ length (lent m b) → ys ≡ turn_bytes (lent w a) (lent m b) →
        put_mid b.start (b.end - b.start) m ys ≡ with_room m sent (turn_bytes (state_of w p) (room_for m sent))
    unfolding with_room
    turn_bytes_lem ys k q = part_back m (44 * sent) 140 b g ys k ∙ rw (q, state_lent, room_lent)

pub ruleset state_cases = (open_back, deliver_back, closed_lent, report_answer_lem, report_named_lem, report_in_force_lem)

pub ruleset turn_cases = (turn_answer, turn_words_lem, turn_bytes_lem)

-- a sent message, over the link of its sender
pub message_lent : (w m x : List ℕ) (k q at sender count size : ℕ) (b : Range ℕ) → at ≡ place_at k → sender ≡ byte_at m (at + 2) → count ≡ byte_at m (at + 5) →
    size ≡ count → PartOf (length m) at (12 + 8 * size) b → x ≡ delivered_to w q sender (lent m b) → x ≡ message_delivered m k q w
unfolding message_delivered sender_at message_at
message_lent w m x k q at sender count size b e f g i h r =
    r ∙ rw (part_lent m at (12 + 8 * size) b h, i, g, f, e)
