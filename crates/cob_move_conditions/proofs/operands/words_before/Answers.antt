use Rattle.std.proofs.lemmas.List.{length-map}
use Rattle.cob_source.specs.Tokens.{lexeme, lexemes}
use Rattle.cob_copybook_clauses.proofs.TableLemmas.{rest_fits}
use Rattle.cob_move_conditions.proofs.operands.words_before.Goals as goal

pub front-requires : goal.front-requires
front-requires c = let (own, any, e) = c.requires in rest_fits c.args.words.now c.args.left.now own e

pub returns : goal.returns
returns c = λ own e. c.front.ensures own (lexemes c.args.left.now) e (length-map c.args.left.now lexeme)
