use Rattle.cob_move_receive.proofs.CharacterLemmas.{byte_found}
use Rattle.cob_move_condition.proofs.texts.byte_of.Goals as goal

pub returns : goal.returns
returns c = byte_found c.args.character c.unwrap_or.result c.encode_char.result c.encode_char.ensures.found c.encode_char.ensures.only c.unwrap_or.ensures
