-- The characters so far, behind the quotation mark.
use Rattle.std.proofs.Common.{◌≡◌, ◌≤◌, ◌+◌, ◌*◌, ◌++◌, ◌∷◌, length, take}
use Rattle.std.specs.List.{flat_map}
use Rattle.cob_report_show.specs.Constants.{literal_character}
use Rattle.cob_report_show.proofs.constants.push_quoted.Given as goal

abbrev pub invariant-loop-character : goal.invariant-loop-character
invariant-loop-character l = record {
  text : l.out.items ≡ l.fn.out.items ++ 34 ∷ flat_map literal_character (take l.character-index l.text);
  long : length l.out.items ≤ length l.fn.out.items + 1 + 2 * l.character-index;
}
