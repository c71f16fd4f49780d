-- What stands in a text behind its first lines.
use Rattle.std.specs.Prelude.{◌≡◌, ◌<◌, ◌++◌, ℕ, List, length}
use Rattle.cob_source.specs.Lines.{lines}

-- so many lines of the text stand before the rest of it
abbrev pub IsBehind : ℕ → List ℕ → List ℕ → Type 0
IsBehind count text rest = (front : List (List ℕ)) × (lines text ≡ front ++ lines rest) × (count ≡ length front)

-- they do, unless no byte is left
abbrev pub StandsBehind : ℕ → List ℕ → List ℕ → Type 0
StandsBehind count text rest = 0 < length rest → IsBehind count text rest
