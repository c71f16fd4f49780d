use Rattle.std.proofs.Common.{inr}
use Rattle.std.proofs.lemmas.Result.{err_from_is_err_and}
use Rattle.cob_copybook_clauses.specs.Written.{written_value}
use Rattle.cob_move_tests.specs.Entries.{nameable, records_of}
use Rattle.cob_move_tests.proofs.AskedLemmas.{none_more}
use Rattle.cob_move_tests.proofs.StepLemmas.{constant_found}
use Rattle.cob_move_tests.proofs.compared.compared_of.Goals as goal

pub returns-in_err-value-in-Constant-clause-grown : goal.returns-in_err-value-in-Constant-clause-grown
returns-in_err-value-in-Constant-clause-grown c =
    none_more (records_of c.args.entries.now) c.args.asked.now.items

pub returns-in_err-value-in-Constant-clause-fault : goal.returns-in_err-value-in-Constant-clause-fault
returns-in_err-value-in-Constant-clause-fault c =
    let p = err_from_is_err_and c.from_residual.result c.from_residual.ensures.1 in
    rw (p.1, p.2) (rw c.in-Constant.is (inr c.in_err-value-in-Constant.ensures.fault))

pub returns-in_ok-value-in-Constant-clause-found : goal.returns-in_ok-value-in-Constant-clause-found
returns-in_ok-value-in-Constant-clause-found c =
    rw c.in-Constant.is (constant_found (nameable c.args.entries.now) (records_of c.args.entries.now) c.args.asked.now.items (written_value c.in-Constant.literal) c.in_ok-value-in-Constant.value c.in_ok-value-in-Constant.ensures.found c.in_ok-value-in-Constant.ensures.some)

pub returns-in_ok-value-in-Constant-clause-grown : goal.returns-in_ok-value-in-Constant-clause-grown
returns-in_ok-value-in-Constant-clause-grown c =
    none_more (records_of c.args.entries.now) c.args.asked.now.items
