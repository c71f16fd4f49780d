use Rattle.std.proofs.Common.{List, ℕ, Some, Bor, ap, ◌∙◌, is_some}
use Rattle.cob_copybook_names.specs.Listed.{name_text}
use Rattle.cob_copybook_names.proofs.Links.{differs}
use Rattle.cob_report_partners.proofs.groups.note.Goals as goal

pub returns-in_ok-insert-clause-others : goal.returns-in_ok-insert-clause-others
returns-in_ok-insert-clause-others c = λ name ne.
    let q : Bor (List ℕ) = record { ref_ptr = (0, 0); now = name } in
    ap is_some (c.in_ok-insert.ensures.updates.2 q (differs c.in-Some.name.now name (λ e. ne (ap name_text c.in-Some.is ∙ ap (λ n. Some n) e))))
