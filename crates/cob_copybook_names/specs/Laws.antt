-- What follows from the definitions, said as laws.
use Rattle.std.specs.Prelude.{◌↔◌, ℕ, List, IsTrue}
use Rattle.cob_copybook_names.specs.Naming.{Qualify, qualifies}

-- law: qualifiers qualify where they name groups above an entry in order, with gaps
abbrev pub QualifyingIsOne : Type 0
QualifyingIsOne = (qualifiers above : List (List ℕ)) → IsTrue (qualifies qualifiers above) ↔ Qualify qualifiers above
