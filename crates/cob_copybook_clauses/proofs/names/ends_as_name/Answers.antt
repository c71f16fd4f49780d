use Rattle.std.proofs.Common.{rules, subst, sym}
use Rattle.cob_copybook_clauses.specs.Names.{EndsAsName}
use Rattle.cob_copybook_clauses.proofs.NameLemmas.{ends, end_of}
use Rattle.cob_copybook_clauses.proofs.names.ends_as_name.Goals as goal

pub returns-in-Some : goal.returns-in-Some
returns-in-Some c =
    let e = c.in-Some.ensures.cases.0 in
    (λ is. subst EndsAsName (sym e) (ends c.in-Some.field-0-1.now c.in-Some.last.now (search rules)), λ named. let other = end_of c.in-Some.field-0-1.now c.in-Some.last.now (subst EndsAsName e named) in search rules)
