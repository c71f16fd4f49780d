use Rattle.cob_move_receive.proofs.OneLemmas as lemmas
use Rattle.cob_move_receive.proofs.laws.one_received.Goals as goal

pub returns : goal.returns
returns c = lemmas.one_received (record { list = c.one_list_of_digits.ensures; code = c.table_is_one_to_one.ensures; number = c.one_sent_number.ensures; value = c.one_value.ensures; text = c.one_text.ensures; spelling = c.one_spelling.ensures })
