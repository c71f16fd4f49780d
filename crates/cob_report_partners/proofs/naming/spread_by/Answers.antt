use Rattle.std.proofs.Common.{◌∙◌, sym, ap}
use Rattle.cob_copybook_names.specs.Listed.{texts}
use Rattle.cob_report_partners.specs.Entries.{listed_bearer}
use Rattle.cob_report_partners.proofs.NamingLemmas.{spread_apart}
use Rattle.cob_report_partners.proofs.naming.spread_by.Goals as goal

pub returns-then-has_name : goal.returns-then-has_name
returns-then-has_name c = λ front before.
    c.spread_with.ensures c.args.name.now (listed_bearer c.args.bearer.now) front (sym c.has_name.ensures ∙ c.if-has_name.true) (ap texts (sym c.as_slice.ensures.value)) before

pub returns : goal.returns
returns c = λ front before.
    spread_apart c.args.before c.args.name.now (texts c.args.qualifiers.now) (listed_bearer c.args.bearer.now) front (sym c.has_name.ensures ∙ c.if-has_name.false) before
