use Rattle.std.proofs.Common.{◌≡◌, drop}
use Rattle.cob_copybook_names.specs.Naming.{qualifies}
use Rattle.cob_copybook_names.specs.Listed.{texts}
use Rattle.cob_copybook_names.proofs.qualifiers.qualify.Given as goal

abbrev pub invariant-loop-name : goal.invariant-loop-name
invariant-loop-name g l = qualifies (g.Q.Qualifiers.names l.left) (texts (drop l.name-index l.above)) ≡ qualifies (g.Q.Qualifiers.names l.fn.qualifiers) (texts l.above)
