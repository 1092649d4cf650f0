-- What the words of a state show: the messages held, the ECHOs and AUXs marked as sent, outputs and decisions, and coins.
use Rattle.std.specs.Prelude.{ℕ, ◌≤◌, Bool, true, List, ◌≡◌}
use Rattle.std.proofs.Common.{arith}
use Rattle.records.specs.Layout.{n_at, boxed_at, coin_at}
use Rattle.records.specs.Words.{word, marked}
use Rattle.records.specs.Records.{printed, coin, coin_recorded, coin_known, echo_sent, aux_sent, decided_zero, decided_one}
use Rattle.broadcasts.specs.Broadcasts.{output}
use Rattle.session.specs.Session.{settings_of}
use Rattle.held.specs.laws.Held.{Numbered, holds}
use Rattle.agreement.proofs.laws.Runs.{Seen, CoinsStay}

-- the coin of a vote and a round of the layout, printed or recorded
pub record CoinShown (s : List ℕ) (i r : ℕ) (c : Bool) : Type 0 where
  pub low : 1 ≤ i
  pub high : i ≤ word s n_at
  pub first : 1 ≤ r
  pub last : r ≤ 32
  pub known : coin_known s i r ≡ true
  pub same : coin s i r ≡ c

abbrev pub engine_seen : Seen (List ℕ)
engine_seen =
    record {
      holds = holds;
      echoed = λ s i. echo_sent s i ≡ true;
      auxed = λ s i r. Numbered i × (aux_sent s i r ≡ true);
      standing = λ s. record { out = output (settings_of s) s; as0 = decided_zero s; as1 = decided_one s };
      coin = CoinShown;
    }

-- coins stay where n, the coin words and whether they are printed do
pub coins_stay : (s t : List ℕ) → word s n_at ≤ 16 → word t n_at ≡ word s n_at → word t boxed_at ≡ word s boxed_at → ((i : ℕ) → 1 ≤ i → i ≤ 16 → word t (coin_at i) ≡ word s (coin_at i)) → CoinsStay engine_seen s t
unfolding coin_known printed coin_recorded coin marked
coins_stay s t few n boxed coins i r c k =
    let high : i ≤ word s n_at = omega (arith, k.high, n) in
    let e : word t (coin_at i) ≡ word s (coin_at i) = coins i k.low (omega arith) in
    record { low = k.low; high = high; first = k.first; last = k.last; known = rw (boxed, e) at k.known; same = rw e at k.same }
