-- Only a field of two bytes or more can lead with a zero.
use Rattle.std.proofs.Common.{◌∙◌, le-ltb}
use Rattle.restore.specs.laws.Numbers.{field_cases, zero_led_few}
use Rattle.restore.proofs.fields.zero_led.Goals as goal

pub returns-then-f-gt1 : goal.returns-then-f-gt1
returns-then-f-gt1 c = search field_cases

pub returns-else-f-gt1 : goal.returns-else-f-gt1
returns-else-f-gt1 c = le-ltb 1 _ c.if-f-gt1.false ∙ zero_led_few _ c.if-f-gt1.false
