use Rattle.std.proofs.Common.{List, ◌++◌, take, map}
use Rattle.cob_copybook_names.specs.Listed.{texts}
use Rattle.cob_copybook_names.specs.Naming.{Bearer}
use Rattle.cob_report_partners.specs.Entries.{DraftEntry, listed_bearer}
use Rattle.cob_report_partners.specs.Naming.{Spreads}
use Rattle.cob_report_partners.proofs.naming.spread_over.Given as goal

abbrev pub invariant-loop-entry : goal.invariant-loop-entry
invariant-loop-entry l = (front : List (Bearer DraftEntry)) → Spreads l.fn.before l.name (texts l.qualifiers) front
    → Spreads l.spread l.name (texts l.qualifiers) (front ++ map listed_bearer (take l.entry-index l.entries))
