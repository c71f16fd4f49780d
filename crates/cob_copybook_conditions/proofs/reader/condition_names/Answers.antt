use Rattle.std.proofs.Common.{rules}
use Rattle.std.proofs.lemmas.Result.{err_from_is_err_and}
use Rattle.cob_source.specs.Tokens.{lexemes}
use Rattle.cob_source.specs.Words.{AreWordsOf}
use Rattle.cob_copybook_conditions.specs.Names.{plain_condition_names}
use Rattle.cob_copybook_conditions.proofs.reader.condition_names.Goals as goal
use Rattle.cob_copybook_conditions.proofs.Texts.{entries_of_words, told}

pub returns-in_err-listed-clause-only : goal.returns-in_err-listed-clause-only
returns-in_err-listed-clause-only c = λ ns has.
    let p = err_from_is_err_and c.from_residual-in_err-listed.result c.from_residual-in_err-listed.ensures.1 in
    let are : AreWordsOf c.args.text.now (lexemes c.deref.result.now) = rw c.deref.ensures.value c.in_ok-words.ensures.words in
    rw (p.1, p.2) (tt, (c.in_err-listed.ensures.only has.entries (entries_of_words c.words_are_one.ensures c.args.text.now _ ns has are)).1)

pub returns-in_err-listed-clause-fault : goal.returns-in_err-listed-clause-fault
returns-in_err-listed-clause-fault c =
    let p = err_from_is_err_and c.from_residual-in_err-listed.result c.from_residual-in_err-listed.ensures.1 in
    let are : AreWordsOf c.args.text.now (lexemes c.deref.result.now) = rw c.deref.ensures.value c.in_ok-words.ensures.words in
    rw (p.1, p.2) (told _ _ _ _ are c.in_err-listed.ensures.memory c.in_err-listed.ensures.fault)

pub returns-clause-only : goal.returns-clause-only
returns-clause-only c = λ ns has. (c.one_list_of_condition_names.ensures c.args.text.now (plain_condition_names c.in_ok-names_behind.field-0.items) ns (search rules) has, tt)
