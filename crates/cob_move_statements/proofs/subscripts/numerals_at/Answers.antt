use Rattle.std.proofs.Common.{◌∙◌}
use Rattle.std.proofs.lemmas.List.{length-map}
use Rattle.cob_source.specs.Tokens.{lexeme, lexemes}
use Rattle.cob_copybook_clauses.specs.declared.term.WordClass.TheVariants as term
use Rattle.cob_copybook_clauses.proofs.TableLemmas.{rest_fits}
use Rattle.cob_move_statements.specs.Statements.{IsNumeral}
use Rattle.cob_copybook_clauses.specs.Reading.{NotFirstWord}
use Rattle.cob_move_loops.proofs.Fronts.{begins, goes, ends}
use Rattle.cob_move_statements.proofs.subscripts.numerals_at.Goals as goal

pub loop-more-init : goal.loop-more-init
loop-more-init c = begins IsNumeral (NotFirstWord term.Plain) (lexemes c.args.words.now)

pub loop-more-preserved : goal.loop-more-preserved
loop-more-preserved c = goes IsNumeral (NotFirstWord term.Plain) (λ w more is nf. nf is.plain) (lexemes c.args.words.now) (lexemes c.loop-more.rest.now) (lexemes c.in-Some.more.now) c.loop-more.invariant c.in-Some.ensures.found

pub front-requires : goal.front-requires
front-requires c = rest_fits c.args.words.now c.loop-more.rest.now c.loop-more.invariant.done c.loop-more.invariant.words_are

pub returns-clause-only : goal.returns-clause-only
returns-clause-only c = λ ns more are nf e.
    let r = ends IsNumeral (NotFirstWord term.Plain) (lexemes c.args.words.now) (lexemes c.loop-more.rest.now) c.loop-more.invariant c.in_default.ensures.only ns more are nf e in
    (c.front.ensures c.loop-more.invariant.done (lexemes c.loop-more.rest.now) c.loop-more.invariant.words_are (length-map c.loop-more.rest.now lexeme) ∙ r.0, r.1)
