-- A drill fed in parts is one fed at once, and what it prints fits.
use Rattle.std.specs.Prelude.{◌≡◌, ℕ, ◌≤◌, List, [], ◌∷◌, length, take, refl}
use Rattle.std.proofs.Common.{sym, ap, ◌∙◌, arith, length-take-le, lt-ltb, le-ltb}
use Rattle.std.proofs.Math.Decide.{dec_le}
use Rattle.text.specs.Paste.{next, ended, Wrote}
use Rattle.text.specs.laws.Paste.{length_pasted}
use Rattle.drill_core.specs.Feeding.{Drilling, fed_bytes, start_drilling, at_end}
use Rattle.drill_core.specs.laws.FeedingCases.{fed_parts_lem}
use Rattle.drill_core.specs.Output.{printed, drill_output}
use Rattle.drill_core.specs.Parts.{joined, fed_parts, PartsJoined}

next_within : (n a : ℕ) → a ≤ n → next n a ≤ n
unfolding next
next_within n a h = elim (dec_le n a) [
  | yes l ↦ rw (le-ltb a n l) h
  | no l ↦ rw (lt-ltb a n (omega arith)) (omega arith)
]

ended_within : (t : List ℕ) (n a : ℕ) → a ≤ n → ended t n a ≤ n
unfolding ended
ended_within [] n a h = h
ended_within (b ∷ t) n a h = ended_within t n (next n a) (next_within n a h)

pub wrote_fits : (t s after : List ℕ) (r : ℕ) → Wrote t s 0 r after → r ≤ length after
wrote_fits t s after r w =
    let e : length after ≡ length s = ap length w.bytes ∙ length_pasted t s 0 in
    let l : ended t (length s) 0 ≤ length s = ended_within t (length s) 0 (omega arith) in
    omega (arith, w.answer)

pub wrote_length : (t s after : List ℕ) (r : ℕ) → Wrote t s 0 r after → r ≡ length (take r after)
wrote_length t s after r w = sym (length-take-le r after (wrote_fits t s after r w))

pub parts_joined : (x : Drilling) (bs : List (List ℕ)) → fed_parts x bs ≡ fed_bytes x (joined bs)
unfolding joined fed_parts fed_bytes
parts_joined x [] = refl
parts_joined x (b ∷ bs) = parts_joined (fed_bytes x b) bs ∙ sym (fed_parts_lem x b (joined bs))

pub output_parts : PartsJoined
unfolding PartsJoined drill_output
output_parts bs = ap (λ (x : Drilling). printed (at_end x)) (parts_joined start_drilling bs)
