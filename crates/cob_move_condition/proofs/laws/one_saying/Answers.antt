use Rattle.cob_move_condition.proofs.OneLemmas as lemmas
use Rattle.cob_move_condition.proofs.laws.one_saying.Goals as goal

pub returns : goal.returns
returns g c = λ operands. lemmas.one_saying (lemmas.one_comparison (record { code = c.table_is_one_to_one.ensures; number = c.one_sent_number.ensures; value = c.one_value.ensures })) (g.O.Operands.gives operands) (g.O.Operands.lacks operands)
