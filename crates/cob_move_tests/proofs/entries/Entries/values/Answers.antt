use Rattle.cob_move_data.specs.Moves.{Records, record_of}
use Rattle.cob_move_names.specs.Directory.{entries_named, operand_with_values, values_named}
use Rattle.cob_move_names.specs.Values.{ValuedOperand}
use Rattle.cob_move_statements.specs.Written.{written_reference}
use Rattle.cob_move_tests.specs.Entries.{records_of}
use Rattle.cob_move_tests.proofs.OwnLemmas.{item_is, own_is, own_valued}
use Rattle.cob_move_tests.proofs.entries.Entries.values.Goals as goal

pub returns-in-Some-clause-found : goal.returns-in-Some-clause-found
returns-in-Some-clause-found c =
    let r : Records = records_of c.args.self.now in
    let all = entries_named c.args.self.now.names.now in
    let values = values_named c.args.self.now.names.now in
    let w = written_reference c.args.reference.now in
    let v : ValuedOperand = operand_with_values c.in-Some.named in
    let names = rw c.in-Some.is at c.in_ok-found.ensures.found in
    own_valued all values w (record_of r v.side) v
    (item_is c.items_are_operands.ensures r all values w v c.requires.named c.greatest.ensures.record c.greatest-2.ensures.record c.args.self.now.names.now.held names) names

pub returns-in-Some-clause-operand : goal.returns-in-Some-clause-operand
returns-in-Some-clause-operand c =
    let r : Records = records_of c.args.self.now in
    let all = entries_named c.args.self.now.names.now in
    let values = values_named c.args.self.now.names.now in
    let w = written_reference c.args.reference.now in
    let v : ValuedOperand = operand_with_values c.in-Some.named in
    let names = rw c.in-Some.is at c.in_ok-found.ensures.found in
    own_is (record_of r v.side) v.operand
    (item_is c.items_are_operands.ensures r all values w v c.requires.named c.greatest.ensures.record c.greatest-2.ensures.record c.args.self.now.names.now.held names)
