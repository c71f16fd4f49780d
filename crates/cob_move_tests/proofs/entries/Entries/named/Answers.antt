use Rattle.cob_move_data.specs.declared.operands.Operand.{Operand}
use Rattle.cob_move_data.specs.Moves.{Records, record_of}
use Rattle.cob_move_names.specs.Directory.{entries_named}
use Rattle.cob_move_statements.specs.Written.{written_reference}
use Rattle.cob_move_tests.specs.Entries.{records_of}
use Rattle.cob_move_tests.proofs.OwnLemmas.{named_is, own_is, own_named}
use Rattle.cob_move_tests.proofs.entries.Entries.named.Goals as goal

pub returns-clause-found : goal.returns-clause-found
returns-clause-found c =
    let r : Records = records_of c.args.self.now in
    let all = entries_named c.args.self.now.names.now in
    let w = written_reference c.args.reference.now in
    let o : Operand = c.in_ok-named.named.operand in
    own_named all w c.in_ok-named.named.side (record_of r c.in_ok-named.named.side) o
    (named_is c.named_are_operands.ensures r all w c.in_ok-named.named.side o c.requires.named c.greatest.ensures.record c.greatest-2.ensures.record c.in_ok-named.ensures.found)
    c.in_ok-named.ensures.found

pub returns-clause-operand : goal.returns-clause-operand
returns-clause-operand c =
    let r : Records = records_of c.args.self.now in
    let all = entries_named c.args.self.now.names.now in
    let w = written_reference c.args.reference.now in
    let o : Operand = c.in_ok-named.named.operand in
    own_is (record_of r c.in_ok-named.named.side) o
    (named_is c.named_are_operands.ensures r all w c.in_ok-named.named.side o c.requires.named c.greatest.ensures.record c.greatest-2.ensures.record c.in_ok-named.ensures.found)
