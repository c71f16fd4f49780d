use Rattle.std.proofs.Common.{List, subst}
use Rattle.std.specs.Prelude.{IfErr}
use Rattle.std.proofs.lemmas.Result.{IfOk-weaker}
use Rattle.cob_move_data.specs.Moves.{Records, moves}
use Rattle.cob_move_names.specs.Candidates.{Candidate}
use Rattle.cob_move_names.specs.Directory.{entries_named}
use Rattle.cob_move_statements.specs.Written.{written_statements}
use Rattle.cob_move.specs.Meaning.{AreMeanings, AreMeant}
use Rattle.cob_move.specs.Refusals.{SomeBroken}
use Rattle.cob_move.proofs.MeaningLemmas.{meant_here}
use Rattle.cob_move.proofs.meaning.meant_between.Goals as goal

pub returns-clause-found : goal.returns-clause-found
returns-clause-found c =
    let all = entries_named c.in_ok-names.names in
    let r : Records = record { input = c.args.input.now; output = c.args.output.now } in
    let ss = written_statements c.args.statements.now in
    IfOk-weaker c.meant_among.result (λ v. AreMeanings all r.input r.output ss (moves r v.items)) (λ v. AreMeant r.input r.output ss (moves r v.items))
    (λ v is. meant_here all r ss v.items c.in_ok-names.ensures.entries is) c.meant_among.ensures.found

pub returns-clause-fault : goal.returns-clause-fault
returns-clause-fault c =
    subst (λ (all : List Candidate). IfErr c.meant_among.result (λ f. SomeBroken f all c.args.input.now c.args.output.now (written_statements c.args.statements.now))) c.in_ok-names.ensures.entries c.meant_among.ensures.fault
