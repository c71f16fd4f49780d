use Rattle.std.proofs.Common.{◌≡◌, ◌≤◌, take}
use Rattle.cob_decimal.specs.Literals.{AreDigits}
use Rattle.cob_move_names.specs.References.{subscript_number}
use Rattle.cob_move_names.proofs.subscripts.number_within.Given as goal

abbrev pub invariant-loop-character : goal.invariant-loop-character
invariant-loop-character l = record {
  digits : AreDigits (take l.character-index l.text);
  value : l.number ≡ subscript_number (take l.character-index l.text);
  most : l.number ≤ l.most;
}
