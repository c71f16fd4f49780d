use Rattle.std.proofs.Common.{rules}
use Rattle.cob_copybook_tree.proofs.ItemLemmas.{written_reads}
use Rattle.cob_copybook_tree.proofs.kinds.store_number.Goals as goal

pub returns-in-Zoned-clause-reads : goal.returns-in-Zoned-clause-reads
returns-in-Zoned-clause-reads c = written_reads c.args.item.now c.args.number.now.negative c.args.number.now.digits _ c.requires.number c.shape-shape.ensures.some (search rules) (search rules)

pub returns-in-Packed-clause-reads : goal.returns-in-Packed-clause-reads
returns-in-Packed-clause-reads c = written_reads c.args.item.now c.args.number.now.negative c.args.number.now.digits _ c.requires.number c.shape-shape.ensures.some (search rules) (search rules)

pub returns-in-Binary-clause-reads : goal.returns-in-Binary-clause-reads
returns-in-Binary-clause-reads c = written_reads c.args.item.now c.args.number.now.negative c.args.number.now.digits _ c.requires.number c.shape-shape.ensures.some (search rules) (search rules)
