use Rattle.std.proofs.Common.{◌∙◌, ap, sym, true≢false}
use Rattle.cob_program_roles.specs.Named.{may_be_named}
use Rattle.cob_program_roles.proofs.reading.describes_nameable.Goals as goal

pub returns-in-Some : goal.returns-in-Some
returns-in-Some c =
    let found = rw c.in-Some.is at c.in_ok-book.ensures.found in
    let one = rw c.in-Some.is at c.in_ok-book.ensures.one in (
      λ is. (c.in-Some.book, found, sym c.may_be_named.ensures ∙ is),
      λ d. c.may_be_named.ensures ∙ ap may_be_named (one d.0 d.1) ∙ d.2,
    )

pub returns-in-None : goal.returns-in-None
returns-in-None c =
    let none = rw c.in-None.is at c.in_ok-book.ensures.none in (
      λ is. absurd (true≢false (sym is)),
      λ d. absurd (none d.0 d.1),
    )
