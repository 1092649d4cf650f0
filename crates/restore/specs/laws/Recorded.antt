-- A `K` line as the code takes it: three numbers, given to the recording.
use Rattle.std.specs.Prelude.{ℕ, ◌≤◌, ◌<◌, Bool, List, ◌⊎◌, ◌≡◌, refl, get_or, take, Option, Some, None, Result}
use Rattle.std.proofs.Math.Bool.{true, false, cond}
use Rattle.std.proofs.Common.{inl, inr, sym, ◌∙◌, arith, length-take-le, take_all}
use Rattle.std.proofs.Math.Dec.{eqb}
use Rattle.std.proofs.Math.ListN.{length}
use borrow.Author.Tests.{eq-eqb, ne_eqb, eqb-true, eqb-false}
use Rattle.recording.specs.Recording.{record_answer, recorded_words}
use Rattle.recording.specs.laws.Recording.{refused_same}
use Rattle.text.specs.Numbers.{values_of}
use Rattle.journal.specs.Lines.{recording_forms}
use Rattle.restore.specs.Reading.{all_proper}
use Rattle.restore.specs.Restoring.{Point, recorded_by, recorded_from}
use Rattle.restore.specs.laws.Forms.{form_at, forms_from, proper_all, values_all, proper_forms, values_forms, proper_length, values_length, none_of}
use Rattle.restore.specs.laws.Filling.{FieldsRead, read_none, read_count}
use Rattle.restore.specs.laws.Given.{refused}
use Rattle.restore.specs.laws.Applying.{Tried, applies, words_or}
use Rattle.std.specs.Result.{is_ok}
use Rattle.settings.specs.declared.refusal.Refusal.{Refusal}

-- what numbers of a `K` line come to, by how many they are
unfoldable pub counted_recording : List ℕ → List ℕ → Option Point
counted_recording w xs = cond (eqb (length xs) 3) (recorded_by w xs) None

recording_counted : (w : List ℕ) (fs : List (List ℕ)) → recorded_from w fs ≡ cond (proper_all 1 0 fs) (counted_recording w (values_all 1 0 fs)) None
unfolding recorded_from counted_recording forms_from form_at
recording_counted w fs = rw (values_length 1 0 fs) (go (eqb (length fs) 3) refl)
  where
    forms : length fs ≡ 3 → recording_forms ≡ forms_from 1 0 (length fs)
    forms e = rw e

    go : (a : Bool) → eqb (length fs) 3 ≡ a → cond (all_proper recording_forms fs) (recorded_by w (values_of recording_forms fs)) None ≡ cond (proper_all 1 0 fs) (cond a (recorded_by w (values_all 1 0 fs)) None) None
    go true u = rw (forms (eqb-true _ _ u), proper_forms 1 0 fs, values_forms 1 0 fs)
    go false u = rw (proper_length recording_forms fs (λ e. eqb-false (length fs) 3 u (sym e))) (none_of (proper_all 1 0 fs))

-- so many numbers, in an array of three
pub record RecordGiven (count : ℕ) (xs : List ℕ) : Type 0 where
  pub room : length xs ≡ 3
  pub within : count ≤ 3

module _ (w xs : List ℕ) (count : ℕ) (g : RecordGiven count xs) where
  pub numbers_other : (count ≡ 3 → ⊥) → Tried (counted_recording w (take count xs)) w false w
  unfolding counted_recording
  numbers_other e = refused _ w (rw (length-take-le count xs (omega (arith, g.room, g.within)), ne_eqb count 3 e))

  pub numbers_recorded : (a : Result (Unit {0}) Refusal) (t : List ℕ) → count ≡ 3 → a ≡ record_answer w (get_or xs 0 0) (get_or xs 1 0) (get_or xs 2 0) → t ≡ recorded_words w (get_or xs 0 0) (get_or xs 1 0) (get_or xs 2 0) → Tried (counted_recording w (take count xs)) w (is_ok a) t
  unfolding counted_recording recorded_by applies words_or
  numbers_recorded a t e f h =
      rw (take_all count xs (omega (arith, g.room)), eq-eqb (length xs) 3 g.room)
      (go (is_ok (record_answer w (get_or xs 0 0) (get_or xs 1 0) (get_or xs 2 0))) refl)
    where
      go : (b : Bool) → is_ok (record_answer w (get_or xs 0 0) (get_or xs 1 0) (get_or xs 2 0)) ≡ b → Tried (cond b (Some (record { words = recorded_words w (get_or xs 0 0) (get_or xs 1 0) (get_or xs 2 0); turned = None })) None) w (is_ok a) t
      go true u = record { answer = rw (f, u); words = h }
      go false u = record { answer = rw (f, u); words = h ∙ refused_same w (get_or xs 0 0) (get_or xs 1 0) (get_or xs 2 0) u }

pub ruleset numbers_cases = (numbers_other, numbers_recorded)

-- the fields of the line that were read
module _ (w : List ℕ) (fs : List (List ℕ)) (r : Option ℕ) (after : List ℕ) (h : FieldsRead 1 fs 3 r after) where
  pub recording_wrong : r ≡ None → Tried (recorded_from w fs) w false w
  unfolding counted_recording
  recording_wrong e = refused _ w (recording_counted w fs ∙ go (read_none 1 fs 3 r after h e))
    where
      go : (proper_all 1 0 fs ≡ false) ⊎ (3 < length fs) → cond (proper_all 1 0 fs) (counted_recording w (values_all 1 0 fs)) None ≡ None
      go (inl u) = rw u
      go (inr l) = rw (values_length 1 0 fs, ne_eqb (length fs) 3 (λ z. omega arith)) (sym (none_of (proper_all 1 0 fs)))

  module _ (k : ℕ) (e : r ≡ Some k) where
    all : (proper_all 1 0 fs ≡ true) × (k ≤ 3)
    all = read_count 1 fs 3 r after h k e

    pub recording_given : RecordGiven k after
    recording_given = record { room = h.size; within = all.1 }

    pub recording_read : (q : Bool) (t : List ℕ) → Tried (counted_recording w (take k after)) w q t → Tried (recorded_from w fs) w q t
    recording_read q t y = rw (recording_counted w fs, all.0, ← h.numbers k e) y

pub ruleset recording_cases = (recording_wrong, recording_given, recording_read)
