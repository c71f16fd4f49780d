use Rattle.std.proofs.Common.{◌≡◌, take}
use Rattle.cob_source.specs.Cuts.{word_text}
use Rattle.cob_source.proofs.word.capitals.Given as goal

abbrev pub invariant-loop-cell : goal.invariant-loop-cell
invariant-loop-cell l = l.text.items ≡ word_text (take l.cell-index l.cells)
