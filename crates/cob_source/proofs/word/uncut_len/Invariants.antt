use Rattle.std.proofs.Common.{◌≡◌, take}
use Rattle.std.specs.Prelude.{false}
use Rattle.std.specs.List.{AllByRecursion}
use Rattle.cob_source.specs.Pieces.{is_cut}
use Rattle.cob_source.proofs.word.uncut_len.Given as goal

abbrev pub invariant-loop-i : goal.invariant-loop-i
invariant-loop-i l = AllByRecursion (λ c. is_cut c.byte ≡ false) (take l.i l.cells)
