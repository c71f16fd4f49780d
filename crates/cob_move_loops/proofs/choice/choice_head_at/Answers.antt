use Rattle.std.proofs.Common.{sym, ◌∙◌}
use Rattle.cob_source.specs.Tokens.{lexemes}
use Rattle.cob_move_loops.specs.Reading.{written_choice}
use Rattle.cob_move_loops.proofs.ChoiceLemmas.{choice_else, choice_one}
use Rattle.cob_move_loops.proofs.choice.choice_head_at.Goals as goal

pub returns-in-Some-clause-only : goal.returns-in-Some-clause-only
returns-in-Some-clause-only c = λ d head more h ends e.
    let (k, ik, ke, f) = c.in-Some.ensures.found in
    choice_one (written_choice c.in-Some.choice) d k head (lexemes c.in-Some.more.now) more ik h ke ends (sym f ∙ e)

pub returns-clause-only : goal.returns-clause-only
returns-clause-only c = choice_else (lexemes c.args.words.now) c.evaluate_at.result c.in_default.ensures.only c.evaluate_at.ensures.only
