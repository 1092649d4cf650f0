-- What is converted stays within the buffers.
use Rattle.std.specs.Prelude.{◌≡◌, ℕ, ◌+◌, ◌-◌, ◌*◌, ◌<◌, ◌≤◌, Bool, true, false, cond, List, ◌++◌, length, take, drop, nat_lt, refl, Result, Ok, Err}
use Rattle.std.proofs.Common.{sym, length-append, length-take, length-take-le}
use native.Mathlib.Omega.{arith}
use Rattle.std.proofs.Math.ListN.{length-drop}
use borrow.Author.Tests.{ltb-false, le-ltb, leb-false}
use Rattle.delivery_csv.specs.Fields.{good}
use Rattle.delivery_csv.specs.Converting.{bytes_after}
use Rattle.delivery_csv.specs.Stream.{Output, output_of, ended_length, ended_output, ended_progress, last_progress}
use Rattle.delivery_csv.specs.laws.Bools.{or_right}
use Rattle.delivery_csv.specs.laws.PartsEnded.{parts_ended}
use Rattle.delivery_csv.specs.laws.Stream.{streamed_as_whole}
use Rattle.delivery_csv.specs.declared.stream.Progress.{Progress}
use Rattle.delivery_csv.specs.declared.stream.Stop.{Stop}
use Rattle.delivery_csv.specs.declared.stream.Stop.TheVariants.{Short, Refused}

-- there is room for the text of what is refused
unfoldable pub Bounded : Stop → (room : ℕ) → Type 0
Bounded Short room = ⊥
Bounded (Refused w k) room = w ≤ room

-- there is room for the text, and the rest of n bytes is short
pub record Ended (x : Progress) (n room : ℕ) : Type 0 where
  pub fits : x.written ≤ room
  pub within : x.length ≤ n
  pub rest : n - x.length < 4096

unfoldable EndedBounded : Result Progress Stop → (n room : ℕ) → Type 0
EndedBounded (Ok x) n room = Ended x n room
EndedBounded (Err e) n room = Bounded e room

unfoldable LastBounded : Result ℕ Stop → (room : ℕ) → Type 0
LastBounded (Ok w) room = w ≤ room
LastBounded (Err e) room = Bounded e room

ended_bounded : (x : Output) (l n room : ℕ) → length x.text ≤ room → l ≤ n → (x.refused ≡ false → n - l < 4096) → EndedBounded (ended_progress x l room) n room
unfolding EndedBounded Bounded ended_progress
ended_bounded x l n room f h k = rw (le-ltb room (length x.text) f) (go x.refused k)
  where
    go : (r : Bool) → (r ≡ false → n - l < 4096) →
        EndedBounded (cond r (Err (Refused (length x.text) x.count)) (Ok (record { written = length x.text; length = l; count = x.count }))) n room
    go true q = f
    go false q = record { fits = f; within = h; rest = q refl }

last_bounded : (x : Output) (room : ℕ) → length x.text ≤ room → LastBounded (last_progress x room) room
unfolding LastBounded Bounded last_progress
last_bounded x room f = rw (le-ltb room (length x.text) f) (go x.refused)
  where
    go : (r : Bool) → LastBounded (cond r (Err (Refused (length x.text) x.count)) (Ok (length x.text))) room
    go true = f
    go false = f

output_fits : (quotes : Bool) (t : List ℕ) (n room : ℕ) → length t ≤ n → 3 * n + 3 ≤ room → length (output_of quotes t).text ≤ room
output_fits true t n room h k = omega (arith, streamed_as_whole.lines_bound t)
output_fits false t n room h k = omega (arith, streamed_as_whole.records_bound t)

-- a conversion keeps the number of the lent bytes
bytes_length : (u s : List ℕ) → length (bytes_after (good u) s) ≡ length s
unfolding bytes_after
bytes_length u s = go (nat_lt (length s) (length u)) (ltb-false (length s) (length u))
  where
    go : (f : Bool) → (f ≡ false → length u ≤ length s) → length (cond f s (u ++ drop (length u) s)) ≡ length s
    go true k = refl
    go false k = simp (length-append, length-drop) (omega (arith, k refl))

length_take_of : (k : ℕ) (t : List ℕ) → length (take k t) ≤ length t
length_take_of k t = simp length-take (omega arith)

pub size_of : (s : List ℕ) (w : ℕ) → w ≤ length s → w ≡ length (take w s)
size_of s w h = sym (length-take-le w s h)

-- n bytes of the input t are there, s are the lent bytes before the conversion and z after it
module _ (quotes : Bool) (t s z : List ℕ) (n : ℕ) (l : n ≤ length t) (room : 3 * length t + 3 ≤ length s) where
  size : length (take n t) ≡ n
  size = length-take-le n t l

  all_ended : (x : Result Progress Stop) → x ≡ ended_progress (ended_output quotes (take n t)) (ended_length quotes (take n t)) (length s) →
      z ≡ bytes_after (good (ended_output quotes (take n t)).text) s → EndedBounded x n (length z)
  unfolding ended_output ended_length
  all_ended x e b =
      rw (b, bytes_length (ended_output quotes (take n t)).text s, e)
      (ended_bounded (ended_output quotes (take n t)) (ended_length quotes (take n t)) n (length s)
      (output_fits quotes (take (ended_length quotes (take n t)) (take n t)) (length t) (length s)
      (omega (arith, length_take_of (ended_length quotes (take n t)) (take n t), size)) room)
      (omega (arith, parts_ended.within quotes (take n t) (length (take n t)), size))
      (λ q.
      omega (
        arith,
        length-drop (ended_length quotes (take n t)) (take n t),
        size,
        leb-false 4096 (length (drop (ended_length quotes (take n t)) (take n t)))
            (or_right (output_of quotes (take (ended_length quotes (take n t)) (take n t))).refused _ q),
      )))

  ended_ok : (x : Result Progress Stop) (p : Progress) → x ≡ ended_progress (ended_output quotes (take n t)) (ended_length quotes (take n t)) (length s) →
      z ≡ bytes_after (good (ended_output quotes (take n t)).text) s → x ≡ Ok p → Ended p n (length z)
  unfolding EndedBounded
  ended_ok x p e b q = rw q at (all_ended x e b)

  pub ended_fits : (x : Result Progress Stop) (p : Progress) → x ≡ ended_progress (ended_output quotes (take n t)) (ended_length quotes (take n t)) (length s) →
      z ≡ bytes_after (good (ended_output quotes (take n t)).text) s → x ≡ Ok p → p.written ≤ length z
  ended_fits x p e b q = (ended_ok x p e b q).fits

  pub ended_size : (x : Result Progress Stop) (p : Progress) → x ≡ ended_progress (ended_output quotes (take n t)) (ended_length quotes (take n t)) (length s) →
      z ≡ bytes_after (good (ended_output quotes (take n t)).text) s → x ≡ Ok p → p.written ≡ length (take p.written z)
  ended_size x p e b q = size_of z p.written (ended_ok x p e b q).fits

  pub ended_within : (x : Result Progress Stop) (p : Progress) → x ≡ ended_progress (ended_output quotes (take n t)) (ended_length quotes (take n t)) (length s) →
      z ≡ bytes_after (good (ended_output quotes (take n t)).text) s → x ≡ Ok p → p.length ≤ n
  ended_within x p e b q = (ended_ok x p e b q).within

  pub ended_rest : (x : Result Progress Stop) (p : Progress) → x ≡ ended_progress (ended_output quotes (take n t)) (ended_length quotes (take n t)) (length s) →
      z ≡ bytes_after (good (ended_output quotes (take n t)).text) s → x ≡ Ok p → n - p.length < 4096
  ended_rest x p e b q = (ended_ok x p e b q).rest

  pub ended_stop : (x : Result Progress Stop) (d : Stop) → x ≡ ended_progress (ended_output quotes (take n t)) (ended_length quotes (take n t)) (length s) →
      z ≡ bytes_after (good (ended_output quotes (take n t)).text) s → x ≡ Err d → Bounded d (length z)
  unfolding EndedBounded
  ended_stop x d e b q = rw q at (all_ended x e b)

  all_last : (x : Result ℕ Stop) → x ≡ last_progress (output_of quotes (take n t)) (length s) → z ≡ bytes_after (good (output_of quotes (take n t)).text) s →
      LastBounded x (length z)
  all_last x e b =
      rw (b, bytes_length (output_of quotes (take n t)).text s, e)
      (last_bounded (output_of quotes (take n t)) (length s) (output_fits quotes (take n t) (length t) (length s) (omega (arith, size)) room))

  pub last_ok : (x : Result ℕ Stop) (w : ℕ) → x ≡ last_progress (output_of quotes (take n t)) (length s) → z ≡ bytes_after (good (output_of quotes (take n t)).text) s →
      x ≡ Ok w → w ≤ length z
  unfolding LastBounded
  last_ok x w e b q = rw q at (all_last x e b)

  pub last_size : (x : Result ℕ Stop) (w : ℕ) → x ≡ last_progress (output_of quotes (take n t)) (length s) → z ≡ bytes_after (good (output_of quotes (take n t)).text) s →
      x ≡ Ok w → w ≡ length (take w z)
  last_size x w e b q = size_of z w (last_ok x w e b q)

  pub last_stop : (x : Result ℕ Stop) (d : Stop) → x ≡ last_progress (output_of quotes (take n t)) (length s) → z ≡ bytes_after (good (output_of quotes (take n t)).text) s →
      x ≡ Err d → Bounded d (length z)
  unfolding LastBounded
  last_stop x d e b q = rw q at (all_last x e b)

pub ruleset boundeds = (ended_fits, ended_size, ended_within, ended_rest, ended_stop, last_ok, last_size, last_stop)

-- what is known of a stop
pub never_short : (x : Stop) (room : ℕ) → Bounded x room → x ≡ Short → ⊥
unfolding Bounded
never_short x room h e = rw e at h

pub refused_size : (x : Stop) (s : List ℕ) → Bounded x (length s) → (w k : ℕ) → x ≡ Refused w k → w ≡ length (take w s)
unfolding Bounded
refused_size x s h w k e = size_of s w (rw e at h)
