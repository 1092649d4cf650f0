-- `put_comma_values` writes value by value: after k turns the first k.
use Rattle.drill_lines.specs.Text.{comma_text}
use Rattle.text.specs.laws.Each.{Each}
use Rattle.drill_lines.proofs.printing.put_comma_values.Given as goal

abbrev pub invariant-loop-value : goal.invariant-loop-value
invariant-loop-value l = Each comma_text l.values l.initial.out l.at l.value-index l.place l.out
