-- Entries found by their names.
use Rattle.std.specs.Prelude.{◌≡◌, ℕ, ◌<◌, List, [], ◌∷◌, length, map, Option, Some, None}
use Rattle.std.specs.Borrow.{Bor}
use Rattle.cob_move_statements.specs.declared.fault.MoveRule.{MoveRule}
use Rattle.cob_move_statements.specs.declared.fault.MoveRule.TheVariants as rule
use Rattle.cob_move_names.specs.declared.subordinate.Subordinate.{Subordinate as Listed}
use Rattle.cob_move_names.specs.PlainPairs.{subordinate}
use Rattle.cob_move_names.specs.Pairs.{Subordinate}

-- the names that entries bear
abbrev pub names_listed : List Subordinate → List (Option (List ℕ))
names_listed xs = map (λ x. Some x.name) xs

-- what was found, as a list
abbrev pub partner_list : Option (Bor Listed) → List Subordinate
partner_list None = []
partner_list (Some x) = subordinate x.now ∷ []

-- There are several.
abbrev pub MoreThanOne : MoveRule → List Subordinate → Type 0
MoreThanOne r xs = (r ≡ rule.Twice) × (1 < length xs)
