-- Lemmas on what one sentence adds.
use Rattle.std.proofs.Common.{◌≡◌, true, false, List, Option, Some, None, refl, sym, ◌∙◌}
use Rattle.std.proofs.lemmas.Bool.{true≢false}
use Rattle.cob_source.specs.Tokens.{Lexeme}
use Rattle.cob_copybook_clauses.specs.Entries.{is_condition}
use Rattle.cob_copybook_entry.specs.Described.{PlainEntry}
use Rattle.cob_copybook_entries.specs.Books.{IsEntry}
use Rattle.cob_copybook_entries.specs.Adds.{IsAdded}

-- a sentence that isn't of level 88 adds a data entry
pub data_added : (s : List Lexeme) (d : Option PlainEntry) → IsAdded s d → is_condition s ≡ false → (x : PlainEntry) × (d ≡ Some x) × IsEntry s x
data_added s None h data_entry = let e : true ≡ false = sym h.0 ∙ data_entry in absurd (true≢false e)
data_added s (Some x) h data_entry = (x, refl, h.1)
