use Rattle.std.proofs.Common.{◌∙◌, ap, sym, subst, true≢false}
use Rattle.cob_back_moves.specs.Same.{IsSameRecord}
use Rattle.cob_copybook_tree.specs.Forests.{Forest}
use Rattle.cob_copybook_tree.specs.Nodes.{Resolved}
use Rattle.cob_program_roles.specs.Named.{name_of_record}
use Rattle.cob_program_roles.proofs.reading.is_named_in.Goals as goal

pub returns-in-Some : goal.returns-in-Some
returns-in-Some c =
    let found = rw c.in-Some.is at c.in_ok-after.ensures.found in
    let one = rw c.in-Some.is at c.in_ok-after.ensures.one in
    let told = rw c.role_name.ensures at c.is_named.ensures in (
      λ yes. (c.in-Some.after, found, (told.0 yes).0, (told.0 yes).1),
      λ d. told.1 (subst (λ (u : Forest Resolved). IsSameRecord c.args.book.now u) (sym (one d.0 d.1)) d.2, ap name_of_record (one d.0 d.1) ∙ d.3),
    )

pub returns-in-None : goal.returns-in-None
returns-in-None c =
    let none = rw c.in-None.is at c.in_ok-after.ensures.none in (
      λ is. absurd (true≢false (sym is)),
      λ d. absurd (none d.0 d.1),
    )
