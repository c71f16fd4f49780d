use Rattle.cob_move.proofs.ParagraphLemmas.{one_paragraph}
use Rattle.cob_move.proofs.laws.one_paragraph.Goals as goal

pub returns : goal.returns
returns c = one_paragraph c.paragraph_words_are_one.ensures c.one_passage.ensures c.one_deeds.ensures
