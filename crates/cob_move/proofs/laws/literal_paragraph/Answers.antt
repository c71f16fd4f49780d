use Rattle.cob_move.proofs.ParagraphLemmas.{literal_paragraph}
use Rattle.cob_move.proofs.laws.literal_paragraph.Goals as goal

pub returns : goal.returns
returns c = literal_paragraph
