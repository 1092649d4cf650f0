-- Instances, rounds and senders in the calls of a session are small.
use Rattle.std.specs.Prelude.{ℕ, ◌+◌, ◌*◌, ◌/◌, ◌%◌, ◌<◌, ◌≤◌}
use Rattle.std.proofs.Common.{arith, mod-lt, mul_left_comm, div-lt_iff_lt-mul}
use Rattle.costliest_calls.specs.laws.Sections.{Few}

module _ (n j : ℕ) (f : Few n) where
  pub sender_small : j % n + 1 ≤ 32
  sender_small = omega (arith, f.some, f.most, mod-lt j {m = n} f.some)

  pub instance_small : j < n * n → j / n + 1 ≤ 32
  instance_small l = omega (arith, f.most, (div-lt_iff_lt-mul {k = n} {x = j} {y = n} f.some).1 l)

  pub voter_small : j < 32 * (n * n) → j / (32 * n) + 1 ≤ 32
  voter_small l =
      let some : 0 < 32 * n = omega (arith, f.some) in
      omega (arith, f.most, (div-lt_iff_lt-mul {k = 32 * n} {x = j} {y = n} some).1 (omega (arith, mul_left_comm n 32 n)))

  pub round_small : j % (32 * n) / n + 1 ≤ 32
  round_small =
      let some : 0 < 32 * n = omega (arith, f.some) in
      omega (arith, (div-lt_iff_lt-mul {k = n} {x = j % (32 * n)} {y = 32} f.some).1 (mod-lt j {m = 32 * n} some))

pub ruleset places = (sender_small, instance_small, voter_small, round_small)
