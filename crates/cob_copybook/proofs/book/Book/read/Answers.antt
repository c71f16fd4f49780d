use Rattle.std.proofs.lemmas.Result.{err_from_is_err_and}
use Rattle.cob_copybook.proofs.book.Book.read.Goals as goal
use Rattle.cob_copybook.proofs.Texts.{memory}
use Rattle.cob_copybook.proofs.Books.{few_entries, refused_tree, refused_storage, stands_too, stored_too}

pub returns-in_err-entries-clause-only : goal.returns-in_err-entries-clause-only
returns-in_err-entries-clause-only c = λ t b.
    let p = err_from_is_err_and c.from_residual.result c.from_residual.ensures.1 in
    rw (p.1, p.2) (tt, (c.in_err-entries.ensures.only b.entries b.has).1)

pub returns-in_err-tree-clause-only : goal.returns-in_err-tree-clause-only
returns-in_err-tree-clause-only c = λ t b.
    let p = err_from_is_err_and c.from_residual-in_err-tree.result c.from_residual-in_err-tree.ensures.1 in
    let stands = stands_too _ _ t _ b (c.in_ok-entries.ensures.only b.entries b.has).0 in
    rw (p.1, p.2) (tt, memory _ (c.in_err-tree.ensures.only b.is.written stands b.is.agree).1)

pub returns-in_err-tree-clause-fault : goal.returns-in_err-tree-clause-fault
returns-in_err-tree-clause-fault c =
    let p = err_from_is_err_and c.from_residual-in_err-tree.result c.from_residual-in_err-tree.ensures.1 in
    rw (p.1, p.2) (refused_tree _ _ _ _ _ c.in_ok-entries.ensures.found c.in_err-tree.ensures.memory c.in_err-tree.ensures.fault)

pub storage_of-requires-clause-few : goal.storage_of-requires-clause-few
storage_of-requires-clause-few c = few_entries _ _ c.in_ok-tree.ensures.found.0 c.in_ok-entries.ensures.few

pub returns-in_err-root-clause-only : goal.returns-in_err-root-clause-only
returns-in_err-root-clause-only c = λ t b.
    let p = err_from_is_err_and c.from_residual-in_err-root.result c.from_residual-in_err-root.ensures.1 in
    let stands = stands_too _ _ t _ b (c.in_ok-entries.ensures.only b.entries b.has).0 in
    let stored = stored_too _ _ t _ b (c.in_ok-tree.ensures.only b.is.written stands b.is.agree).0 in
    rw (p.1, p.2) (tt, memory _ (c.in_err-root.ensures.only t stored).1)

pub returns-in_err-root-clause-fault : goal.returns-in_err-root-clause-fault
returns-in_err-root-clause-fault c =
    let p = err_from_is_err_and c.from_residual-in_err-root.result c.from_residual-in_err-root.ensures.1 in
    rw (p.1, p.2) (refused_storage _ _ _ _ _ _ c.in_ok-entries.ensures.found c.in_ok-tree.ensures.found.0 c.in_err-root.ensures.memory c.in_err-root.ensures.fault)

pub returns-clause-only : goal.returns-clause-only
returns-clause-only c = λ t b.
    let stands = stands_too _ _ t _ b (c.in_ok-entries.ensures.only b.entries b.has).0 in
    let stored = stored_too _ _ t _ b (c.in_ok-tree.ensures.only b.is.written stands b.is.agree).0 in
    ((c.in_ok-root.ensures.only t stored).0, tt)
