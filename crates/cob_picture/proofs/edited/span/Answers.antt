use Rattle.std.proofs.Common.{sym, ◌∙◌}
use Rattle.std.proofs.lemmas.List.{take_rest}
use Rattle.cob_picture.specs.declared.symbol.Symbol.TheVariants.{A}
use Rattle.cob_picture.specs.declared.symbol.Run.{Run}
use Rattle.cob_picture.proofs.Parts.{cut_runs, are_more, stops_at}
use Rattle.cob_picture.proofs.edited.span.Goals as goal

pub returns-then-not-is_of-clause-parts : goal.returns-then-not-is_of-clause-parts
returns-then-not-is_of-clause-parts c = rw take_rest (cut_runs c.args.runs.now c.loop-i.i)

pub returns-then-not-is_of-clause-other : goal.returns-then-not-is_of-clause-other
returns-then-not-is_of-clause-other c =
    let d : Run = record { symbol = A; count = 0 } in
    rw take_rest (stops_at c.args.part c.args.run c.args.runs.now c.loop-i.i d c.loop-i-test.true c.requires.positive (sym c.is_of.ensures ∙ c.if-not-is_of.true))

pub loop-i-preserved : goal.loop-i-preserved
loop-i-preserved c =
    let d : Run = record { symbol = A; count = 0 } in
    are_more c.args.part c.args.run c.args.runs.now c.loop-i.i d c.loop-i-test.true (sym c.is_of.ensures ∙ c.if-not-is_of.false) c.loop-i.invariant
