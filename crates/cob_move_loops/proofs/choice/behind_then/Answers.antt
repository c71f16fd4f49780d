use Rattle.std.proofs.Common.{[], ◌∷◌, refl, sym, ◌∙◌}
use Rattle.cob_source.specs.Tokens.{lexemes}
use Rattle.cob_move_loops.proofs.ChoiceLemmas.{then_absent, then_behind}
use Rattle.cob_move_loops.proofs.choice.behind_then.Goals as goal

pub returns-in-Some-clause-found : goal.returns-in-Some-clause-found
returns-in-Some-clause-found c =
    let (w, is, e) = c.in-Some.ensures.found in
    (w ∷ [], is, e)

pub returns-in-Some-clause-only : goal.returns-in-Some-clause-only
returns-in-Some-clause-only c = λ end more is none e.
    let (w, it, f) = c.in-Some.ensures.found in
    then_behind w (lexemes c.in-Some.more.now) end more it is none (sym f ∙ e)

pub returns-in-None-clause-found : goal.returns-in-None-clause-found
returns-in-None-clause-found c = ([], tt, refl)

pub returns-in-None-clause-only : goal.returns-in-None-clause-only
returns-in-None-clause-only c = λ end more is none e. then_absent (lexemes c.args.words.now) c.in-None.ensures.only end more is e
