use Rattle.std.proofs.Common.{◌∙◌, ap, subst, sym}
use Rattle.cob_source.specs.Tokens.{lexemes}
use Rattle.cob_move_loops.specs.declared.parts.Place.TheVariants as standing
use Rattle.cob_move_loops.specs.Passages.{FrontAt, PassageFront}
use Rattle.cob_move_loops.specs.Reading.{item_front}
use Rattle.cob_move.proofs.ChoosingLemmas.{never_other}
use Rattle.cob_move.proofs.choosing.branch_in_front.Goals as goal

pub returns-in-Branch-clause-found : goal.returns-in-Branch-clause-found
returns-in-Branch-clause-found c =
    subst (λ (f : PassageFront). FrontAt (standing.Branches c.args.kind) f (lexemes c.args.words.now) (lexemes c.in_ok-item.more.now)) (ap item_front c.in-Branch.is) c.in_ok-item.ensures.found

pub returns-in-Branch-clause-only : goal.returns-in-Branch-clause-only
returns-in-Branch-clause-only c = λ f more stands.
    let read = c.in_ok-item.ensures.only f more stands in
    (sym (ap item_front c.in-Branch.is) ∙ read.0, read.1)

pub returns-in_default-clause-none : goal.returns-in_default-clause-none
returns-in_default-clause-none c = λ f more stands.
    absurd (never_other c.args.kind c.in_ok-item.item (lexemes c.args.words.now) (lexemes c.in_ok-item.more.now) c.in_ok-item.ensures.found c.in_default.not-Branch)
