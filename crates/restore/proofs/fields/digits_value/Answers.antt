use Rattle.restore.specs.laws.Numbers.{counting}
use Rattle.restore.proofs.fields.digits_value.Goals as goal

pub loop-c-init : goal.loop-c-init
loop-c-init c = search counting

pub returns-then-base-d : goal.returns-then-base-d
returns-then-base-d c = search counting

pub returns-then-not-fits : goal.returns-then-not-fits
returns-then-not-fits c = search counting

pub appended-v-requires : goal.appended-v-requires
appended-v-requires c = search counting

pub loop-c-preserved : goal.loop-c-preserved
loop-c-preserved c = search counting

pub returns : goal.returns
returns c = search counting
