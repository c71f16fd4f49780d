-- Listed entries without where they lie in memory.
use Rattle.std.specs.Prelude.{ℕ, List, [], ◌∷◌, map, Option, Some, None, option_map}
use Rattle.std.specs.Borrow.{Bor}
use Rattle.cob_copybook_names.specs.declared.bearer.Bearer.{Bearer as Listed}
use Rattle.cob_copybook_names.specs.Naming.{Bearer}

-- texts behind references
abbrev pub texts : List (Bor (List ℕ)) → List (List ℕ)
texts names = map (λ t. t.now) names

-- a name behind a reference, if there is one
abbrev pub name_text : Option (Bor (List ℕ)) → Option (List ℕ)
name_text name = option_map (λ t. t.now) name

-- a listed entry, of which this is known besides its names
abbrev pub bearer_by : {E A : Type 0} → (E → A) → Listed E → Bearer A
bearer_by known b = record { name = name_text b.name; above = texts b.above.items; entry = known b.entry }

-- a listed entry with all that is kept of it
abbrev pub seen : {E : Type 0} → Listed E → Bearer E
seen b = record { name = name_text b.name; above = texts b.above.items; entry = b.entry }

-- what was found, as a list
abbrev pub found_list : {E : Type 0} → Option (Bor (Listed E)) → List (Bearer E)
found_list None = []
found_list (Some b) = seen b.now ∷ []
