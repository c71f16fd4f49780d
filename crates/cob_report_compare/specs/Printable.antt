-- Differences of two records that can be printed: each has its item, and stands within both.
use Rattle.std.specs.Prelude.{◌≡◌, ℕ, ◌+◌, ◌≤◌, ⊤, List, length, map, Some}
use Rattle.std.specs.List.{AllByRecursion}
use Rattle.cob_copybook_tree.specs.Lengths.{item_size}
use Rattle.cob_limits.specs.Limits.{most_dimensions}
use Rattle.cob_report_show.specs.Elements.{NamedItem}
use Rattle.cob_report_compare.specs.Differences.{PlainDifference, plain_difference}
use Rattle.cob_report_compare.specs.declared.records.Comparison.{Comparison}
use Rattle.cob_report_compare.specs.declared.records.Comparison.TheVariants.{Same, Equal, Differ, Unlike}

-- a difference has its item, as many subscripts as there may be at most, and stands within both records, with the size of its item
pub record IsPrintable (l r : List ℕ) (d : PlainDifference) : Type 0 where
  pub item : NamedItem
  pub item_is : d.item ≡ Some item
  pub few : length d.subscripts ≤ most_dimensions
  pub left_within : d.left.offset + d.left.length ≤ length l
  pub right_within : d.right.offset + d.right.length ≤ length r
  pub left_sized : d.left.length ≡ item_size item.item
  pub right_sized : d.right.length ≡ item_size item.item

-- so it is of all of these
abbrev pub ArePrintable : List ℕ → List ℕ → List PlainDifference → Type 0
ArePrintable l r ds = AllByRecursion (IsPrintable l r) ds

-- so it is of those of a comparison
abbrev pub IsTellable : List ℕ → List ℕ → Comparison → Type 0
IsTellable l r Same = ⊤
IsTellable l r Equal = ⊤
IsTellable l r (Differ told) = ArePrintable l r (map plain_difference told.first.items)
IsTellable l r (Unlike told) = ⊤
