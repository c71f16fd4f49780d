use Rattle.std.proofs.Common.{◌≡◌, drop}
use Rattle.cob_copybook_clauses.specs.declared.term.WordClass.{WordClass}
use Rattle.cob_copybook_clauses.specs.Terms.{term_by, keywords}
use Rattle.cob_copybook_clauses.proofs.term.term_in.Given as goal

abbrev pub invariant-loop-keyword : goal.invariant-loop-keyword
invariant-loop-keyword l = (other : WordClass) → term_by (keywords l.table) l.text other ≡ term_by (keywords (drop l.keyword-index l.table)) l.text other
