-- Inside an R: the memories that turns and deliveries lead to.
use Rattle.std.specs.Prelude.{ℕ, ◌≤◌, List}
use Rattle.drill_feeder.specs.Lines.{delivered_to, Memory, memory, turned}
use Rattle.drill_feeder.specs.declared.Counts.{Counts}

-- y comes of x by turns of the sessions 1 to 4 and deliveries to them; messages may be noted as delivered by an R
pub data Through (x : Memory) : Memory → Type 0 where
  here : Through x x
  turn : (p : ℕ) (y : Memory) → 1 ≤ p → p ≤ 4 → Through x y → Through x (turned p y)
  delivery : (q link : ℕ) (b w m : List ℕ) (c : Counts) → 1 ≤ q → q ≤ 4 → Through x (memory w m c) → Through x (memory (delivered_to w q link b) m c)
  noted : (w m : List ℕ) (c : Counts) → Through x (memory w m c) → Through x (memory w m (record { sent = c.sent; offered = c.sent }))
