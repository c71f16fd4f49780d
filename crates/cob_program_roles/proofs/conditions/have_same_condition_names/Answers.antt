use Rattle.std.proofs.Common.{List, sym, subst, true≢false, IfOk}
use Rattle.std.specs.Bool.{Decides}
use Rattle.cob_copybook_conditions.specs.Names.{AreConditionNamesOf, plain_condition_names}
use Rattle.cob_copybook_conditions.specs.declared.names.ConditionName.{ConditionName}
use Rattle.cob_program_roles.proofs.NamedLemmas.{same_by}
use Rattle.cob_program_roles.proofs.conditions.have_same_condition_names.Goals as goal

pub returns-in-Some : goal.returns-in-Some
returns-in-Some c =
    let found = rw c.in-Some.is at c.in_ok-names.ensures.found in
    let one = rw c.in-Some.is at c.in_ok-names.ensures.one in
    let told = c.has_names.result in
    same_by told c.args.text.now c.args.named.now (plain_condition_names c.in-Some.names.items) found one
    (subst (λ (xs : List ConditionName). IfOk told (λ yes. Decides yes (AreConditionNamesOf c.args.named.now (plain_condition_names xs)))) c.as_slice.ensures.value c.has_names.ensures)

pub returns-in-None : goal.returns-in-None
returns-in-None c =
    let none = rw c.in-None.is at c.in_ok-names.ensures.none in (
      λ is. absurd (true≢false (sym is)),
      λ h. absurd (none h.0 h.1),
    )
