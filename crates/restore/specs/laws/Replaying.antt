-- The lines of a journal as the code takes them: the first, those in the middle, and the last, whose message is given again.
use Rattle.std.specs.Prelude.{ℕ, ◌+◌, ◌-◌, ◌^◌, ◌≤◌, ◌<◌, Bool, cond, ◌&&◌, not, eqb, leb, ltb, length, get_or, take, drop, Option, Some, None, Result, Ok, Err}
use Rattle.std.proofs.Math.Bool.{true, false}
use mathlib.Core.List.{List, [], ◌∷◌}
use Rattle.std.proofs.Math.Path.{◌≡◌, refl, ap}
use Rattle.std.specs.Option.{is_some}
use Rattle.std.proofs.Common.{sym, ◌∙◌, arith, length-take-le}
use Rattle.std.proofs.Math.Decide.{ℕ_discrete}
use borrow.Author.Tests.{not-true, not-false}
use Rattle.opening.specs.Arguments.{Arguments}
use Rattle.opening.specs.Opening.{open_answer}
use Rattle.text.specs.Fields.{fields, letter}
use Rattle.text.specs.Numbers.{DECIMAL, value_of, values_of}
use Rattle.journal.specs.Lines.{LETTER_O}
use Rattle.restore.specs.Reading.{all_proper, field_at, forms_for, arguments_from}
use Rattle.restore.specs.Complete.{lines_of, joined}
use Rattle.restore.specs.Restoring.{Point, Replay, wrong, right, opened_from, opening_from, opening_read, first_of, first_line, next_line, applied_or, further, replay_from, replay, length_again, bytes_again, replay_answer, replay_words, replay_bytes}
use Rattle.restore.specs.laws.Places.{line_end}
use Rattle.restore.specs.laws.Parts.{Line, line_at, line_none, joined_line}
use Rattle.restore.specs.laws.Applying.{applies, words_or, Tried}
use Rattle.restore.specs.laws.Turning.{applied_as, bytes_or, Took}
use Rattle.restore.specs.declared.Restored.{Restored}
use Rattle.restore.specs.declared.RestoreError.{RestoreError}
use Rattle.restore.specs.declared.RestoreError.TheVariants as failed
use Rattle.restore.specs.declared.replay.Last.{Last}
use Rattle.std.specs.Result.{is_ok}

-- the line from a place to the place after its end
abbrev pub line_of : List ℕ → ℕ → ℕ → List ℕ
line_of journal at end = take (end - 1 - at) (drop at journal)

-- lines that come to x were replayed: answer, words, and the lent bytes
pub record Replays (x : Replay) (bytes : ℕ) (lent : List ℕ) (r : Result Restored RestoreError) (after message : List ℕ) : Type 0 where
  pub answer : r ≡ replay_answer x bytes
  pub words : after ≡ replay_words x after
  pub kept : message ≡ replay_bytes x lent

-- a wrong line stays
replay_wrong : (k j : ℕ) (bs : List (List ℕ)) → replay_from k (wrong j) bs ≡ wrong j
unfolding replay_from further
replay_wrong k j [] = refl
replay_wrong k j (b ∷ bs) = replay_wrong (k + 1) j bs

-- a line in the middle: its message goes nowhere
module _ (w b lent after message : List ℕ) (r : Option ℕ) (h : Took (next_line w b) w lent r after message) where
  pub middle_taken : Tried (next_line w b) w (is_some r) after
  unfolding applied_as applies
  middle_taken = record { answer = ap is_some h.answer ∙ go (next_line w b); words = h.words }
    where
      go : (p : Option Point) → is_some (applied_as p) ≡ applies p
      go None = refl
      go (Some x) = refl

  -- the last line
  pub last_wrong : (number bytes : ℕ) → r ≡ None → Replays (applied_or number (next_line w b)) bytes lent (Err (failed.Line number)) after message
  unfolding applied_as applied_or replay_answer replay_words replay_bytes bytes_or
  last_wrong number bytes e = go (next_line w b) (sym h.answer ∙ e) h.bytes
    where
      go : (p : Option Point) → applied_as p ≡ None → message ≡ bytes_or lent p → Replays (applied_or number p) bytes lent (Err (failed.Line number)) after message
      go None z m = record { answer = refl; words = refl; kept = m }
      go (Some x) z m = absurd (let y : ◌≡◌ {A = ℕ} 0 1 = cc in omega arith)

  pub last_right : (number bytes k : ℕ) → r ≡ Some k → Replays (applied_or number (next_line w b)) bytes lent (Ok (record { message = k; bytes = bytes })) after message
  unfolding applied_as applied_or replay_answer replay_words replay_bytes bytes_or words_or
  last_right number bytes k e = go (next_line w b) (sym h.answer ∙ e) h.bytes h.words
    where
      go : (p : Option Point) → applied_as p ≡ Some k → message ≡ bytes_or lent p → after ≡ words_or w p → Replays (applied_or number p) bytes lent (Ok (record { message = k; bytes = bytes })) after message
      go None z m v = absurd (let y : ◌≡◌ {A = ℕ} 0 1 = cc in omega arith)
      go (Some x) z m v = let s : length_again x.turned ≡ k = cc in record { answer = rw s; words = v; kept = m }

pub ruleset taken_cases = (middle_taken, last_wrong, last_right)

-- the first line was applied: what follows it
pub record Begun (journal : List ℕ) (first : ℕ) (w : List ℕ) : Type 0 where
  pub low : 1 ≤ first
  pub inside : first ≤ length journal
  pub whole : replay (lines_of journal) ≡ replay_from 2 (right (record { words = w; turned = None })) (lines_of (drop first journal))
  pub bytes : length (joined (lines_of journal)) ≡ first + length (joined (lines_of (drop first journal)))

-- where a line ends
line_bound : (journal : List ℕ) (at e : ℕ) → at ≤ length journal → e ≡ line_end journal at → e ≤ length journal
line_bound journal at e h q = go (ℕ_discrete e at)
  where
    go : Dec (e ≡ at) → e ≤ length journal
    go (yes s) = omega arith
    go (no s) = (line_at journal at e h q s).inside

line_over : (journal : List ℕ) (at e : ℕ) → at ≤ length journal → e ≡ line_end journal at → e ≤ at → lines_of (drop at journal) ≡ []
line_over journal at e h q l = go (ℕ_discrete e at)
  where
    go : Dec (e ≡ at) → lines_of (drop at journal) ≡ []
    go (yes s) = line_none journal at e q s
    go (no s) = absurd (omega (arith, (line_at journal at e h q s).rises))

-- a loop that has come to the line of some number, from `at` to `end`; the next one ends at `next`
pub record Replaying (journal : List ℕ) (at end next number : ℕ) (w : List ℕ) : Type 0 where
  pub rises : at < end
  pub inside : end ≤ length journal
  pub few : number ≤ end
  pub ahead : next ≡ line_end journal end
  pub bound : next ≤ length journal
  pub whole : replay (lines_of journal) ≡ replay_from (number + 1) (applied_or number (next_line w (line_of journal at end))) (lines_of (drop end journal))
  pub bytes : length (joined (lines_of journal)) ≡ end + length (joined (lines_of (drop end journal)))

pub replaying_start : (journal w : List ℕ) (first end next : ℕ) → Begun journal first w → end ≡ line_end journal first → first < end → next ≡ line_end journal end → Replaying journal first end next 2 w
unfolding replay_from further
replaying_start journal w first end next h e n a =
    let l : Line journal first end = line_at journal first end h.inside e (λ z. omega arith) in
    record {
      rises = l.rises;
      inside = l.inside;
      few = omega (arith, l.rises, h.low);
      ahead = a;
      bound = line_bound journal end next l.inside a;
      whole = h.whole ∙ rw l.line;
      bytes = h.bytes ∙ rw (joined_line journal first end l) (omega (arith, l.rises));
    }

-- the line that is left is the last one
pub record AtLast (journal : List ℕ) (at end number : ℕ) (w : List ℕ) : Type 0 where
  pub rises : at < end
  pub inside : end ≤ length journal
  pub whole : replay (lines_of journal) ≡ applied_or number (next_line w (line_of journal at end))
  pub bytes : length (joined (lines_of journal)) ≡ end

-- what the lines but the last come to: one of them cannot be applied, or the last one is left
pub record Placed (journal : List ℕ) (p : Result Last RestoreError) (w : List ℕ) : Type 0 where
  pub refused : (k : RestoreError) → p ≡ Err k → (j : ℕ) × (k ≡ failed.Line j) × (replay (lines_of journal) ≡ wrong j)
  pub last : (l : Last) → p ≡ Ok l → AtLast journal l.start l.end l.number w

module _ (journal w : List ℕ) (at end next number : ℕ) (h : Replaying journal at end next number w) where
  pub replaying_done : next ≤ end → Placed journal (Ok (record { start = at; end = end; number = number })) w
  unfolding replay_from
  replaying_done n =
      let none_left : lines_of (drop end journal) ≡ [] = line_over journal end next h.inside h.ahead n in
      record {
        refused = λ k z. absurd (let y : ◌≡◌ {A = ℕ} 0 1 = cc in omega arith);
        last = λ l z.
            let same : record { start = at; end = end; number = number } ≡ l = cc in
            rw (← same) (record {
              rises = h.rises;
              inside = h.inside;
              whole = h.whole ∙ rw none_left;
              bytes = h.bytes ∙ rw none_left (omega arith);
            });
      }

  module _ (t : Bool) (after : List ℕ) (y : Tried (next_line w (line_of journal at end)) w t after) where
    pub replaying_wrong : not t ≡ true → Placed journal (Err (failed.Line number)) after
    unfolding applies applied_or
    replaying_wrong e = go (next_line w (line_of journal at end)) refl (sym y.answer ∙ not-true t e)
      where
        go : (p : Option Point) → next_line w (line_of journal at end) ≡ p → applies p ≡ false → Placed journal (Err (failed.Line number)) after
        go None u v =
            record {
              refused = λ k z. let s : failed.Line number ≡ k = cc in (number, sym s, h.whole ∙ rw u (replay_wrong (number + 1) number (lines_of (drop end journal))));
              last = λ l z. absurd (let o : ◌≡◌ {A = ℕ} 0 1 = cc in omega arith);
            }
        go (Some x) u v = absurd (let o : ◌≡◌ {A = ℕ} 0 1 = cc in omega arith)

    pub replaying_next : (later : ℕ) → not t ≡ false → end < next → later ≡ line_end journal next → Replaying journal end next later (number + 1) after
    unfolding applies words_or applied_or replay_from further
    replaying_next later e n a = go (next_line w (line_of journal at end)) refl (sym y.answer ∙ not-false t e) y.words
      where
        l : Line journal end next
        l = line_at journal end next h.inside h.ahead (λ z. omega arith)

        go : (p : Option Point) → next_line w (line_of journal at end) ≡ p → applies p ≡ true → after ≡ words_or w p → Replaying journal end next later (number + 1) after
        go None u v z = absurd (let o : ◌≡◌ {A = ℕ} 0 1 = cc in omega arith)
        go (Some x) u v z =
            record {
              rises = l.rises;
              inside = l.inside;
              few = omega (arith, l.rises, h.few);
              ahead = a;
              bound = line_bound journal next later l.inside a;
              whole = h.whole ∙ rw (u, l.line, z);
              bytes = h.bytes ∙ rw (joined_line journal end next l) (omega (arith, l.rises));
            }

pub ruleset replaying = (replaying_start, replaying_done, replaying_wrong, replaying_next)

-- the cases after the loop
module _ (journal w : List ℕ) (p : Result Last RestoreError) (h : Placed journal p w) where
  pub place_wrong : (k : RestoreError) (lent : List ℕ) → p ≡ Err k → Replays (replay (lines_of journal)) (length (joined (lines_of journal))) lent (Err k) w lent
  unfolding replay_answer replay_words replay_bytes
  place_wrong k lent e = go (h.refused k e)
    where
      go : (j : ℕ) × (k ≡ failed.Line j) × (replay (lines_of journal) ≡ wrong j) → Replays (replay (lines_of journal)) (length (joined (lines_of journal))) lent (Err k) w lent
      go (j, same, whole) = rw whole (record { answer = ap Err same; words = refl; kept = refl })

  module _ (l : Last) (q : p ≡ Ok l) where
    pub place_rises : l.start < l.end
    place_rises = (h.last l q).rises

    pub place_inside : l.end ≤ length journal
    place_inside = (h.last l q).inside

    pub place_last : (lent : List ℕ) (r : Result Restored RestoreError) (after message : List ℕ) → Replays (applied_or l.number (next_line w (line_of journal l.start l.end))) l.end lent r after message → Replays (replay (lines_of journal)) (length (joined (lines_of journal))) lent r after message
    place_last lent r after message y = rw ((h.last l q).whole, (h.last l q).bytes) y

pub ruleset place_cases = (place_wrong, place_rises, place_inside, place_last)

-- a first line sends no message
data Unturned : Option Point → Type 0 where
  nowhere : Unturned None
  unmoved : (w : List ℕ) → Unturned (Some (record { words = w; turned = None }))

unturned_if : (b : Bool) (p : Option Point) → Unturned p → Unturned (cond b p None)
unturned_if true p h = h
unturned_if false p h = nowhere

unturned_opened : (o : Arguments) → Unturned (opened_from o)
unfolding opened_from
unturned_opened o = unturned_if (is_ok (open_answer 2048 o)) _ (unmoved _)

unturned_first : (fs : List (List ℕ)) → Unturned (first_of fs)
unfolding first_of opening_read opening_from
unturned_first [] = nowhere
unturned_first (f ∷ fs) =
    let n : ℕ = value_of DECIMAL (field_at fs 1) in
    let xs : List ℕ = values_of (forms_for n (length fs)) fs in
    unturned_if (eqb (letter f) LETTER_O) _
    (unturned_if (leb n 16 && all_proper (forms_for n (length fs)) fs) _
    (unturned_if (ltb (get_or xs 5 0) (2 ^ 32)) _
    (unturned_opened (arguments_from n xs))))

-- the cases of the first line
module _ (journal w : List ℕ) (e : ℕ) (q : e ≡ line_end journal 0) where
  pub begun_none : (lent : List ℕ) → e ≡ 0 → Replays (replay (lines_of journal)) (length (joined (lines_of journal))) lent (Err (failed.Line 1)) w lent
  unfolding replay replay_answer replay_words replay_bytes
  begun_none lent n = rw (line_none journal 0 e q n) (record { answer = refl; words = refl; kept = refl })

  module _ (n : e ≡ 0 → ⊥) (r : Bool) (after : List ℕ) (y : Tried (first_line (take (e - 1) journal)) w r after) where
    l : Line journal 0 e
    l = line_at journal 0 e (omega arith) q n

    lines : lines_of journal ≡ take (e - 1) journal ∷ lines_of (drop e journal)
    lines = let s : e - 1 - 0 ≡ e - 1 = omega arith in rw s at l.line

    pub begun_wrong : (lent : List ℕ) → not r ≡ true → Replays (replay (lines_of journal)) (length (joined (lines_of journal))) lent (Err (failed.Line 1)) after lent
    unfolding replay applies applied_or replay_answer replay_words replay_bytes
    begun_wrong lent f = rw (replay_is (not-true r f)) (record { answer = refl; words = refl; kept = refl })
      where
        replay_is : r ≡ false → replay (lines_of journal) ≡ wrong 1
        replay_is z = rw lines (go (first_line (take (e - 1) journal)) refl (sym y.answer ∙ z))
          where
            go : (p : Option Point) → first_line (take (e - 1) journal) ≡ p → applies p ≡ false → replay_from 2 (applied_or 1 (first_line (take (e - 1) journal))) (lines_of (drop e journal)) ≡ wrong 1
            go None u v = rw u (replay_wrong 2 1 (lines_of (drop e journal)))
            go (Some x) u v = absurd (let o : ◌≡◌ {A = ℕ} 0 1 = cc in omega arith)

    pub begun : not r ≡ false → Begun journal e after
    unfolding replay applies applied_or words_or first_line
    begun f = go (first_line (take (e - 1) journal)) refl (unturned_first (fields (take (e - 1) journal))) (sym y.answer ∙ not-false r f) y.words
      where
        go : (p : Option Point) → first_line (take (e - 1) journal) ≡ p → Unturned p → applies p ≡ true → after ≡ words_or w p → Begun journal e after
        go None u (nowhere) v z = absurd (let o : ◌≡◌ {A = ℕ} 0 1 = cc in omega arith)
        go (Some x) u (unmoved m) v z =
            record {
              low = l.rises;
              inside = l.inside;
              whole = rw (lines, u, z);
              bytes = joined_line journal 0 e l ∙ omega arith;
            }

-- only the first line is there
pub begun_over : (journal w lent : List ℕ) (first second : ℕ) → Begun journal first w → second ≡ line_end journal first → second ≤ first → Replays (replay (lines_of journal)) (length (joined (lines_of journal))) lent (Ok (record { message = 0; bytes = first })) w lent
unfolding replay_from replay_answer replay_words replay_bytes length_again bytes_again
begun_over journal w lent first second h q l =
    let none_left : lines_of (drop first journal) ≡ [] = line_over journal first second h.inside q l in
    let bytes : length (joined (lines_of journal)) ≡ first = h.bytes ∙ rw none_left (omega arith) in
    let whole : replay (lines_of journal) ≡ right (record { words = w; turned = None }) = h.whole ∙ rw none_left in
    rw (whole, bytes) (record { answer = refl; words = refl; kept = refl })

pub begun_inside : (journal : List ℕ) (e : ℕ) → e ≡ line_end journal 0 → e - 1 ≤ length journal
begun_inside journal e q = omega (arith, line_bound journal 0 e (omega arith) q)

pub begun_front : (journal : List ℕ) (e : ℕ) → e ≡ line_end journal 0 → e - 1 ≡ length (take (e - 1) journal)
begun_front journal e q = sym (length-take-le (e - 1) journal (begun_inside journal e q))

pub ruleset begun_cases = (begun_none, begun_wrong, begun, begun_over, begun_inside, begun_front)
