use Rattle.std.proofs.lemmas.Result.{err_from_is_err_and}
use Rattle.cob_source.specs.Tokens.{lexemes}
use Rattle.cob_move_conditions.specs.Written.{written_condition}
use Rattle.cob_move_tests.specs.Entries.{nameable, records_of, valued_in}
use Rattle.cob_move_tests.proofs.AskedLemmas.{none_more}
use Rattle.cob_move_tests.proofs.StepLemmas.{no_words, words_broken, words_mean}
use Rattle.cob_move_tests.proofs.conditions.read_condition.Goals as goal

pub returns-in_err-phrase-clause-grown : goal.returns-in_err-phrase-clause-grown
returns-in_err-phrase-clause-grown c =
    none_more (records_of c.args.entries.now) c.args.asked.now.items

pub returns-in_err-phrase-clause-fault : goal.returns-in_err-phrase-clause-fault
returns-in_err-phrase-clause-fault c =
    let p = err_from_is_err_and c.from_residual.result c.from_residual.ensures.1 in
    rw (p.1, p.2) (no_words c.in_err-phrase.field-0.0 (records_of c.args.entries.now) (valued_in c.args.entries.now) (lexemes c.args.words.now) c.in_err-phrase.ensures.fault)

pub returns-in_err-reading-clause-fault : goal.returns-in_err-reading-clause-fault
returns-in_err-reading-clause-fault c =
    let p = err_from_is_err_and c.from_residual-in_err-reading.result c.from_residual-in_err-reading.ensures.1 in
    rw (p.1, p.2) (words_broken c.in_err-reading.field-0.0 (nameable c.args.entries.now) (valued_in c.args.entries.now) (records_of c.args.entries.now) (lexemes c.args.words.now) (written_condition c.in_ok-phrase.phrase) c.requires.named c.in_ok-phrase.ensures.found c.in_err-reading.ensures.fault)

pub returns-clause-found : goal.returns-clause-found
returns-clause-found c =
    words_mean (nameable c.args.entries.now) (valued_in c.args.entries.now) (records_of c.args.entries.now) c.reading_of.new.asked.items (lexemes c.args.words.now) (written_condition c.in_ok-phrase.phrase) c.in_ok-reading.reading c.requires.named c.in_ok-phrase.ensures.found c.in_ok-reading.ensures.found
