-- The marks of each act.
use Rattle.turn.proofs.laws.Applying.{mark_cases}
use Rattle.turn.proofs.apply.mark_act.Goals as goal

pub returns-in-Idle : goal.returns-in-Idle
returns-in-Idle c = search mark_cases

pub returns-in-InForce : goal.returns-in-InForce
returns-in-InForce c = search mark_cases

pub returns-in-Commit : goal.returns-in-Commit
returns-in-Commit c = search mark_cases

pub returns-in-Send : goal.returns-in-Send
returns-in-Send c = search mark_cases

pub returns-in-Echo : goal.returns-in-Echo
returns-in-Echo c = search mark_cases

pub returns-in-Ready : goal.returns-in-Ready
returns-in-Ready c = search mark_cases

pub returns-in-Start : goal.returns-in-Start
returns-in-Start c = search mark_cases

pub returns-in-Relay : goal.returns-in-Relay
returns-in-Relay c = search mark_cases

pub returns-in-Aux : goal.returns-in-Aux
returns-in-Aux c = search mark_cases

pub returns-in-Move : goal.returns-in-Move
returns-in-Move c = search mark_cases

pub returns-in-Finish : goal.returns-in-Finish
returns-in-Finish c = search mark_cases
