use Rattle.std.proofs.Common.{sym, ◌∙◌}
use denote.Enum.Bare.{differs_true, differs_false}
use Rattle.cob_picture.specs.contracts.symbol.Symbol.{the_type}
use Rattle.cob_picture.proofs.EditedFacts.{kept_not, kept_too}
use Rattle.cob_picture.proofs.edited.keep.Goals as goal

pub returns-then-ne-clause-symbols : goal.returns-then-ne-clause-symbols
returns-then-ne-clause-symbols c = rw c.push.ensures.items (kept_too c.args.kept.now.items c.args.run (differs_true the_type _ _ (sym c.ne.ensures ∙ c.if-ne.true)))

pub returns-else-ne-clause-symbols : goal.returns-else-ne-clause-symbols
returns-else-ne-clause-symbols c = kept_not c.args.kept.now.items c.args.run.count c.args.run.symbol (differs_false the_type tt _ _ (sym c.ne.ensures ∙ c.if-ne.false))
