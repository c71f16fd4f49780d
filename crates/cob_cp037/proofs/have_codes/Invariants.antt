use Rattle.std.proofs.Common.{ℕ, ◌<◌, get_or}
use Rattle.cob_cp037.specs.Table.{HasCode}
use Rattle.cob_cp037.proofs.have_codes.Given as goal

abbrev pub invariant-loop-character : goal.invariant-loop-character
invariant-loop-character l = (k : ℕ) → k < l.character-index → HasCode (get_or l.characters k 0)
