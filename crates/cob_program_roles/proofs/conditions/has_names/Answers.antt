use Rattle.std.proofs.Common.{◌≡◌, List, sym, subst, true≢false}
use Rattle.std.specs.Bool.{Decides}
use Rattle.cob_copybook_conditions.specs.Names.{AreConditionNamesOf, plain_condition_names}
use Rattle.cob_copybook_conditions.specs.declared.names.ConditionName.{ConditionName}
use Rattle.cob_program_roles.proofs.conditions.has_names.Goals as goal

pub returns-in-Some : goal.returns-in-Some
returns-in-Some c =
    let found = rw c.in-Some.is at c.in_ok-own.ensures.found in
    let one = rw c.in-Some.is at c.in_ok-own.ensures.one in
    let told = c.are_same_condition_names.result in
    let same : Decides told (plain_condition_names c.args.names.now ≡ plain_condition_names c.in-Some.own.items) =
    subst (λ (xs : List ConditionName). Decides told (plain_condition_names c.args.names.now ≡ plain_condition_names xs)) c.as_slice.ensures.value c.are_same_condition_names.ensures in (
      λ yes. subst (AreConditionNamesOf c.args.text.now) (sym (same.0 yes)) found,
      λ is. same.1 (sym (one (plain_condition_names c.args.names.now) is)),
    )

pub returns-in-None : goal.returns-in-None
returns-in-None c =
    let none = rw c.in-None.is at c.in_ok-own.ensures.none in (
      λ is. absurd (true≢false (sym is)),
      λ are. absurd (none (plain_condition_names c.args.names.now) are),
    )
