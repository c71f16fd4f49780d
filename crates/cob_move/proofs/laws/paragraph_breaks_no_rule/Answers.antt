use Rattle.cob_move.proofs.ParagraphLemmas.{paragraph_breaks_no_rule}
use Rattle.cob_move.proofs.laws.paragraph_breaks_no_rule.Goals as goal

pub returns : goal.returns
returns c = paragraph_breaks_no_rule c.paragraph_words_are_one.ensures c.one_passage.ensures c.breaks_none.ensures c.deeds_break_no_rule.ensures
