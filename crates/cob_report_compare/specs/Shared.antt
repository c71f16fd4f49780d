-- Elements that two records both have stand in either.
use Rattle.std.specs.Prelude.{ℕ, List, [], ◌++◌}
use Rattle.std.specs.List.{AllByRecursion}
use Rattle.cob_report_show.specs.Elements.{AreSubscriptsUpTo, NamedItem, Printed, StandsWithin}
use Rattle.cob_report_compare.specs.Differences.{shared_times}

-- each element of the item under these subscripts and further ones, one for each of the tables that are left, stands within either record
abbrev pub AllShared : Printed → Printed → NamedItem → List ℕ → List ℕ → Type 0
AllShared l r x tables subscripts =
    (inner : List ℕ) → AreSubscriptsUpTo (shared_times l r tables) inner → StandsWithin l x (subscripts ++ inner) × StandsWithin r x (subscripts ++ inner)

-- so it is of all elements of these items
abbrev pub ItemsShared : Printed → Printed → List NamedItem → Type 0
ItemsShared l r xs = AllByRecursion (λ (x : NamedItem). AllShared l r x x.tables []) xs
