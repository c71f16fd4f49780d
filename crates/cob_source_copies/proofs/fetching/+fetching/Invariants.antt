use Rattle.std.proofs.Common.{◌*◌, ◌+◌, ◌-◌, List, [], length, map}
use Rattle.std.specs.List.{flat_map}
use Rattle.cob_source.specs.Tokens.{lexemes}
use Rattle.cob_source_copies.specs.Statements.{written_text_name}
use Rattle.cob_source_copies.specs.Texts.{BeginWithParts, TextPart, copied_text}
use Rattle.cob_source_copies.specs.Libraries.{LibraryGrows, names_in_part}
use Rattle.cob_source_copies.proofs.FetchLemmas.{LeftNames}
use Rattle.cob_source_copies.proofs.fetching.+fetching.Given as goal

abbrev pub decreases-fetch_text : goal.decreases-fetch_text
decreases-fetch_text g l = 2 * (8 - length l.opened.now)

abbrev pub decreases-fetch_wanted : goal.decreases-fetch_wanted
decreases-fetch_wanted g l = 2 * (8 - length l.opened.now) + 1

abbrev pub invariant-fetch_wanted-loop-first : goal.invariant-fetch_wanted-loop-first
invariant-fetch_wanted-loop-first g l = record {
  grows : LibraryGrows (map copied_text l.fn.library.texts.items) (map copied_text l.library.texts.items);
  left : (parts : List TextPart) → BeginWithParts parts (lexemes l.words) [] → LeftNames (map copied_text l.library.texts.items) (map written_text_name l.rest) (flat_map names_in_part parts);
}

abbrev pub decreases-fetch_wanted-loop-first : goal.decreases-fetch_wanted-loop-first
decreases-fetch_wanted-loop-first g l = length l.rest
