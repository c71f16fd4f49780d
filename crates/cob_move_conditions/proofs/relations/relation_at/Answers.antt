use Rattle.cob_source.specs.Tokens.{lexemes}
use Rattle.cob_move_conditions.proofs.RelationLemmas.{by_none, by_not, by_opposite, by_order}
use Rattle.cob_move_conditions.proofs.relations.relation_at.Goals as goal

pub returns-in-Some-clause-only : goal.returns-in-Some-clause-only
returns-in-Some-clause-only c = λ r ws more is fit cut.
    by_not (lexemes c.args.words.now) (lexemes c.in-Some.more.now) c.in-Some.order c.in-Some.ensures.found c.in-Some.ensures.only r.opposite r.order ws more is fit cut

pub returns-in-Some-opposite_at-clause-only : goal.returns-in-Some-opposite_at-clause-only
returns-in-Some-opposite_at-clause-only c = λ r ws more is fit cut.
    by_opposite (lexemes c.args.words.now) (lexemes c.in-Some-opposite_at.more.now) c.in-Some-opposite_at.order c.in_default.ensures.only c.in-Some-opposite_at.ensures.found c.in-Some-opposite_at.ensures.only r.opposite r.order ws more is fit cut

pub returns-in_err-order-clause-only : goal.returns-in_err-order-clause-only
returns-in_err-order-clause-only c = λ r ws more is fit cut.
    absurd (by_none (lexemes c.args.words.now) c.in_default.ensures.only c.in_default-opposite_at.ensures.only c.in_err-order.ensures.only r.opposite r.order ws more is fit cut)

pub returns-clause-only : goal.returns-clause-only
returns-clause-only c = λ r ws more is fit cut.
    by_order (lexemes c.args.words.now) (lexemes c.in_ok-order.more.now) c.in_ok-order.order c.in_default.ensures.only c.in_default-opposite_at.ensures.only c.in_ok-order.ensures.only r.opposite r.order ws more is fit cut
