use Rattle.cob_source.proofs.CommentLemmas.{all_counts}
use Rattle.cob_source.proofs.laws.lines_without_comment_count.Goals as goal

pub returns : goal.returns
returns c = all_counts
