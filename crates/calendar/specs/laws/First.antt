-- The start minute is the first in a window, for all lists, closing minutes and leads that are taken.
use Rattle.std.specs.Prelude.{ℕ, ◌+◌, ◌-◌, ◌*◌, ◌%◌, ◌^◌, ◌≤◌, ◌<◌, Bool, true, false, ◌&&◌, List, ◌≡◌, refl, leb, length, Option, Some, None}
use Rattle.std.proofs.Common.{sym, ◌∙◌, subst, arith, leb-true}
use Rattle.quorum.specs.laws.Bools.{and_left, and_right}
use Rattle.calendar.specs.Calendar.{week_minutes, max_windows, max_closing, max_lead, windows_right, allowed, taken, start_minute}
use Rattle.calendar.specs.First.{First, FirstInWindow}
use Rattle.calendar.specs.laws.Search.{nearest_from}
use Rattle.calendar.specs.laws.Found.{Found, found, not_found}
use Rattle.calendar.specs.laws.Start.{at_distance, hit, missed}

no_truth : {P : Type 0} → true ≡ false → P
no_truth e = absurd (let z : ◌≡◌ {A = ℕ} 0 1 = cc in omega (arith, z))

module _ (ws : List ℕ) (c l d : ℕ) (some : 1 ≤ length ws) (f : Found week_minutes ws ((c + l) % week_minutes) d) where
  first_found : First ws (c + l) (c + l + d)
  first_found =
      record {
        not_before = omega arith;
        within_week = omega (arith, f.below some);
        lies = hit ws c l d some f;
        none_before = λ x low high. subst (λ (y : ℕ). allowed ws y ≡ false) (omega arith) (missed ws c l d some f (x - (c + l)) (omega arith));
      }

-- what is taken is within its limits
record Limits (ws : List ℕ) (c l : ℕ) : Type 0 where
  some : 1 ≤ length ws
  right : windows_right ws ≡ true
  closing : c ≤ max_closing
  lead : l ≤ max_lead

limits : (ws : List ℕ) (c l : ℕ) → taken ws c l ≡ true → Limits ws c l
unfolding taken
limits ws c l t =
    record {
      some = leb-true 1 (length ws) (and_left (leb 1 (length ws)) (leb (length ws) (2 * max_windows)) (and_left counted (windows_right ws) listed));
      right = and_right counted (windows_right ws) listed;
      closing = leb-true c max_closing (and_right (counted && windows_right ws) (leb c max_closing) closed);
      lead = leb-true l max_lead (and_right (counted && windows_right ws && leb c max_closing) (leb l max_lead) t);
    }
  where
    counted : Bool
    counted = leb 1 (length ws) && leb (length ws) (2 * max_windows)

    closed : counted && windows_right ws && leb c max_closing ≡ true
    closed = and_left (counted && windows_right ws && leb c max_closing) (leb l max_lead) t

    listed : counted && windows_right ws ≡ true
    listed = and_left (counted && windows_right ws) (leb c max_closing) closed

pub start_first : (ws : List ℕ) (c l : ℕ) → taken ws c l ≡ true → First ws (c + l) (start_minute ws c l)
start_first ws c l t = go (limits ws c l t) (nearest_from week_minutes ws ((c + l) % week_minutes)) refl
  where
    go : Limits ws c l → (x : Option ℕ) → nearest_from week_minutes ws ((c + l) % week_minutes) ≡ x → First ws (c + l) (start_minute ws c l)
    go g None e = no_truth (sym g.right ∙ not_found ws week_minutes ((c + l) % week_minutes) e)
    go g (Some d) e =
        let f : Found week_minutes ws ((c + l) % week_minutes) d = found ws week_minutes ((c + l) % week_minutes) d (omega arith) e in
        rw (at_distance ws c l d g.some f) (first_found ws c l d g.some f)

pub first_in_window : FirstInWindow
unfolding FirstInWindow
first_in_window = start_first

-- it has 32 bits
pub start_below : (ws : List ℕ) (c l : ℕ) → taken ws c l ≡ true → start_minute ws c l < 2 ^ 32
start_below ws c l t =
    let g : Limits ws c l = limits ws c l t in
    omega (arith, g.closing, g.lead, (start_first ws c l t).within_week)
