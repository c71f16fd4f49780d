use Rattle.cob_program_runtime.specs.Limits.{size_name}
use Rattle.cob_program_runtime.proofs.Telling.{found_behind, none_behind, one_behind}
use Rattle.cob_program_runtime.proofs.limit.behind_name.Goals as goal

pub returns-in-Some-clause-found : goal.returns-in-Some-clause-found
returns-in-Some-clause-found c = found_behind size_name c.args.limits.now _ c.in-Some.behind.now c.in-Some.ensures.cases

pub returns-in-Some-clause-only : goal.returns-in-Some-clause-only
returns-in-Some-clause-only c behind stands =
    let found = found_behind size_name c.args.limits.now _ c.in-Some.behind.now c.in-Some.ensures.cases in
    one_behind size_name c.args.limits.now c.in-Some.behind.now behind found stands

pub returns-in-None-clause-only : goal.returns-in-None-clause-only
returns-in-None-clause-only c behind stands = none_behind size_name c.args.limits.now behind c.in-None.ensures.cases stands
