-- A record that is held, as it stands by itself in a stream.
use Rattle.std.specs.Prelude.{◌≡◌, ℕ, ◌-◌, ◌==◌, ◌&&◌, Bool, List, ◌++◌, take, drop}
use Rattle.cob_records_parts.specs.declared.held.Held.{Held}

-- what is held: the end of the descriptors, and then a part of the record
abbrev pub held_bytes : Held → List ℕ
held_bytes held = drop held.at held.front ++ take (held.end - held.from) (drop held.from held.body.items)

-- nothing is held: all was given
abbrev pub IsGivenAway : Held → Type 0
IsGivenAway held = (held.at ≡ 8) × (held.from ≡ held.end)

-- the same as a test
abbrev pub holds_none : Held → Bool
holds_none held = held.at == 8 && held.from == held.end
