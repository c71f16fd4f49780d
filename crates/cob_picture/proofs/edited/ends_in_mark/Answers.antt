use Rattle.std.proofs.Common.{sym, ◌∙◌}
use Rattle.cob_picture.specs.declared.symbol.Symbol.TheVariants.{A}
use Rattle.cob_picture.specs.declared.symbol.Run.{Run}
use Rattle.cob_picture.proofs.EditedFacts.{mark_more}
use Rattle.cob_picture.proofs.edited.ends_in_mark.Goals as goal

pub loop-run-preserved : goal.loop-run-preserved
loop-run-preserved c =
    let d : Run = record { symbol = A; count = 0 } in
    c.is_mark-mark.ensures ∙ sym (mark_more c.args.runs.now c.loop-run.run-index d c.loop-run-test.true)
