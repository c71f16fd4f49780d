use Rattle.std.proofs.Common.{ap}
use Rattle.cob_source.specs.Tokens.{lexeme, lexemes}
use Rattle.cob_move.proofs.LoopLemmas.{body_looped, body_none, body_others, none_in, not_true}
use Rattle.cob_report_refused_moves.proofs.moves.body_of.Goals as goal

pub returns-in_default : goal.returns-in_default
returns-in_default c = body_none (lexemes c.args.words.now) (ap lexemes (none_in c.args.words.now c.in_default.ensures.cases))

pub returns-then-not-is_other : goal.returns-then-not-is_other
returns-then-not-is_other c =
    body_looped (lexemes c.args.words.now) (lexeme c.in-Some.first.now) _ (ap lexemes c.in-Some.ensures.cases.0) (λ other. not_true c.is_other.result c.if-not-is_other.true (c.is_other.ensures.1 other))

pub returns : goal.returns
returns c =
    body_others (lexemes c.args.words.now) (lexemes c.behind_heading.result.now) (lexeme c.in-Some.first.now) _ (ap lexemes c.in-Some.ensures.cases.0) (c.is_other.ensures.0 c.if-not-is_other.false) c.behind_heading.ensures.found
