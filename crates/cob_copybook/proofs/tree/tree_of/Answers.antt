use Rattle.cob_copybook.proofs.tree.tree_of.Goals as goal
use Rattle.cob_copybook.proofs.Trees.{disagrees}

pub returns-in_err-judge_clauses-clause-only : goal.returns-in_err-judge_clauses-clause-only
returns-in_err-judge_clauses-clause-only c = λ t stands agree. absurd (disagrees c.one_tree.ensures c.breaks_no_rule.ensures _ _ _ _ c.in_ok-tree.ensures stands c.in_err-judge_clauses.ensures.broken agree)

pub returns-clause-only : goal.returns-clause-only
returns-clause-only c = λ t stands agree. (c.one_tree.ensures _ _ _ c.in_ok-tree.ensures stands, tt)
