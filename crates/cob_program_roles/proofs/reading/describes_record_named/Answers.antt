use Rattle.std.proofs.Common.{sym, true≢false}
use Rattle.cob_program_roles.proofs.NamedLemmas.{described_by}
use Rattle.cob_program_roles.proofs.reading.describes_record_named.Goals as goal

pub returns-in-Some : goal.returns-in-Some
returns-in-Some c =
    let found = rw c.in-Some.is at c.in_ok-before.ensures.found in
    let one = rw c.in-Some.is at c.in_ok-before.ensures.one in
    described_by c.is_named_in.result c.args.role c.args.text.now c.args.named.now c.in-Some.before found one c.is_named_in.ensures

pub returns-in-None : goal.returns-in-None
returns-in-None c =
    let none = rw c.in-None.is at c.in_ok-before.ensures.none in (
      λ is. absurd (true≢false (sym is)),
      λ d. absurd (none d.before d.described),
    )
