use Rattle.cob_move.proofs.PlainLemmas.{plain_paragraph}
use Rattle.cob_move.proofs.laws.plain_paragraph.Goals as goal

pub returns : goal.returns
returns c = plain_paragraph c.paragraph_words_are_one.ensures c.no_turn.ensures
