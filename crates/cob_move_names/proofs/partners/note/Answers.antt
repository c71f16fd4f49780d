use Rattle.std.proofs.Common.{List, ℕ, Bor}
use Rattle.cob_copybook_names.proofs.Links.{differs}
use Rattle.cob_move_names.proofs.partners.note.Goals as goal

pub returns-clause-others : goal.returns-clause-others
returns-clause-others c = λ other ne.
    let q : Bor (List ℕ) = record { ref_ptr = (0, 0); now = other } in
    c.in_ok-insert.ensures.updates.2 q (differs c.args.name.now other ne)
