-- The place of each kind.
use Rattle.delivery.specs.laws.Cases.{place_cases}
use Rattle.delivery.proofs.place_held.Goals as goal

pub returns-in-Send : goal.returns-in-Send
returns-in-Send c = search place_cases

pub returns-in-Echo : goal.returns-in-Echo
returns-in-Echo c = search place_cases

pub returns-in-Ready : goal.returns-in-Ready
returns-in-Ready c = search place_cases

pub returns-in-Est : goal.returns-in-Est
returns-in-Est c = search place_cases

pub returns-in-Aux : goal.returns-in-Aux
returns-in-Aux c = search place_cases

pub returns-in-Commit : goal.returns-in-Commit
returns-in-Commit c = search place_cases

pub returns-in-Finish : goal.returns-in-Finish
returns-in-Finish c = search place_cases
