-- The ECHO of an instance: not sent before, and its SEND is held.
use Rattle.broadcasts.specs.laws.Cases.{echo_cases}
use Rattle.broadcasts.proofs.echo_act.Goals as goal

pub returns-then-echo_sent : goal.returns-then-echo_sent
returns-then-echo_sent c = search echo_cases

pub returns-then-send_held : goal.returns-then-send_held
returns-then-send_held c = search echo_cases

pub returns : goal.returns
returns c = search echo_cases
