use Rattle.cob_copybook_entry.specs.Described.{plain_value}
use Rattle.cob_move_condition.proofs.OperandLemmas.{never_without}
use Rattle.cob_move_condition.proofs.saying.stop_of.Goals as goal

pub returns-in-Constant-clause-always : goal.returns-in-Constant-clause-always
returns-in-Constant-clause-always g c =
    let (s, gives, kind, none) = c.requires.none in
    never_without s (plain_value c.in-Constant.field-0) (rw c.in-Constant.is at kind) (rw c.in-Constant.is at c.requires.number) none
