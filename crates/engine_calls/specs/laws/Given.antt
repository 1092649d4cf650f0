-- What the code takes is within the machine's bounds, by its types.
use Rattle.std.specs.Prelude.{ℕ, zero, suc, ◌<◌, List, [], ◌∷◌, refl, take, get_or}
use Rattle.std.proofs.Common.{arith, Fits}
use Rattle.std.specs.Int.{w8, w32, w64}
use Rattle.records.specs.Words.{word}
use Rattle.opening.specs.Arguments.{Arguments}
use Rattle.engine_calls.specs.Answers.{OpeningOf, BytesOf}

pub bytes_of : (list : List ℕ) (room : ℕ) → ((i : ℕ) → Fits w8 (get_or list i 0)) → BytesOf list room
bytes_of list room h =
    record {
      bytes = record { list = list; line = room; each = λ i. (h i).fits };
      same = refl;
      line = refl;
    }

-- numbers of an opening within their types
pub record InTypes (session input : ℕ) (coins : List ℕ) : Type 0 where
  pub session_fits : Fits w32 session
  pub input_fits : Fits w64 input
  pub coins_fit : (i : ℕ) → Fits w32 (get_or coins i 0)

pub opening_of : (o : Arguments) (room : ℕ) → InTypes o.session o.input o.coins → OpeningOf o room
unfolding word
opening_of o room t =
    record {
      opening = record { given = o; line = room; session_fits = t.session_fits.fits; input_fits = t.input_fits.fits; coins_fit = λ i. (t.coins_fit i).fits };
      given = refl;
      line = refl;
    }

below : (k : ℕ) (list : List ℕ) → ((i : ℕ) → get_or list i 0 < 256) → (i : ℕ) → get_or (take k list) i 0 < 256
below zero list h i = omega arith
below (suc k) [] h i = omega arith
below (suc k) (x ∷ list) h zero = h 0
below (suc k) (x ∷ list) h (suc i) = below k list (λ j. h (suc j)) i

-- any part at the front, too
pub front_of : (list : List ℕ) → ((i : ℕ) → Fits w8 (get_or list i 0)) → (k room : ℕ) → BytesOf (take k list) room
front_of list h k room =
    record {
      bytes = record { list = take k list; line = room; each = below k list (λ i. (h i).fits) };
      same = refl;
      line = refl;
    }
