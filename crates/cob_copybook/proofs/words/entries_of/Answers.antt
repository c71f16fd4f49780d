use Rattle.std.proofs.Common.{sym, ap, ◌∙◌}
use Rattle.std.proofs.lemmas.Result.{err_from_is_err_and}
use Rattle.cob_source.specs.Tokens.{lexemes}
use Rattle.cob_source.specs.Words.{AreWordsOf}
use Rattle.cob_copybook.specs.Books.{with_record}
use Rattle.cob_copybook.proofs.words.entries_of.Goals as goal
use Rattle.cob_copybook.proofs.Texts.{told, entries_among, memory}

pub returns-in_err-listed-clause-only : goal.returns-in_err-listed-clause-only
returns-in_err-listed-clause-only c ds has =
    let p = err_from_is_err_and c.from_residual-in_err-listed.result c.from_residual-in_err-listed.ensures.1 in
    let are : AreWordsOf c.args.text.now (lexemes c.deref.result.now) = rw c.deref.ensures.value c.in_ok-words.ensures.words in
    let o = entries_among c.words_are_one.ensures c.args.role c.args.text.now _ ds are has in
    rw (p.1, p.2) (tt, memory _ (c.in_err-listed.ensures.only o.0 o.1).1)

pub returns-in_err-listed-clause-fault : goal.returns-in_err-listed-clause-fault
returns-in_err-listed-clause-fault c =
    let p = err_from_is_err_and c.from_residual-in_err-listed.result c.from_residual-in_err-listed.ensures.1 in
    let are : AreWordsOf c.args.text.now (lexemes c.deref.result.now) = rw c.deref.ensures.value c.in_ok-words.ensures.words in
    rw (p.1, p.2) (told _ _ _ _ are c.in_err-listed.ensures.memory c.in_err-listed.ensures.fault)

pub returns-clause-only : goal.returns-clause-only
returns-clause-only c ds has =
    let are : AreWordsOf c.args.text.now (lexemes c.deref.result.now) = rw c.deref.ensures.value c.in_ok-words.ensures.words in
    let o = entries_among c.words_are_one.ensures c.args.role c.args.text.now _ ds are has in
    (c.in_ok-with_record.ensures ∙ ap (with_record c.args.role) (c.in_ok-listed.ensures.only o.0 o.1).0 ∙ sym o.2, tt)
