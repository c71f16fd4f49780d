use Rattle.std.proofs.Common.{[], ◌∷◌, refl, sym, ◌∙◌}
use Rattle.cob_source.specs.Tokens.{lexemes}
use Rattle.cob_move_loops.specs.Passages.{ToNumber}
use Rattle.cob_move_loops.proofs.HeadLemmas.{bound_else, bound_one}
use Rattle.cob_move_loops.proofs.head.bound_at.Goals as goal

pub returns-in-Some-clause-found : goal.returns-in-Some-clause-found
returns-in-Some-clause-found c =
    let (w, is, e) = c.in-Some.ensures.found in
    (w ∷ [], (w, is, refl), tt, e)

pub returns-in-Some-clause-only : goal.returns-in-Some-clause-only
returns-in-Some-clause-only c = λ bound own more is ends e.
    let (w, it, f) = c.in-Some.ensures.found in
    bound_one (ToNumber c.in-Some.number) bound (w ∷ []) own (lexemes c.in-Some.more.now) more (w, it, refl) is tt ends (sym f ∙ e)

pub returns-clause-only : goal.returns-clause-only
returns-clause-only c = bound_else (lexemes c.args.words.now) c.item_bound_at.result c.in_default.ensures.only c.item_bound_at.ensures.only
