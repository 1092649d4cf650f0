-- Each kind in its place.
use Rattle.delivery.specs.laws.Cases.{record_cases}
use Rattle.delivery.proofs.record.Goals as goal

pub returns-in-Send : goal.returns-in-Send
returns-in-Send c = search record_cases

pub returns-in-Echo : goal.returns-in-Echo
returns-in-Echo c = search record_cases

pub returns-in-Ready : goal.returns-in-Ready
returns-in-Ready c = search record_cases

pub returns-in-Est : goal.returns-in-Est
returns-in-Est c = search record_cases

pub returns-in-Aux : goal.returns-in-Aux
returns-in-Aux c = search record_cases

pub returns-in-Commit : goal.returns-in-Commit
returns-in-Commit c = search record_cases

pub returns-in-Finish : goal.returns-in-Finish
returns-in-Finish c = search record_cases
