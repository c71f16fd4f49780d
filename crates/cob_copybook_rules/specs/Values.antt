-- VALUE: which entries may have which constant.
use Rattle.std.specs.Prelude.{◌≡◌, ℕ, ◌+◌, ◌*◌, ◌^◌, ◌<◌, ◌≤◌, ℤ, pos, negsuc, ◌-ℤ◌, Bool, true, false, ◌||◌, is_some, List, length, Option, Some, None, IsTrue}
use Rattle.cob_decimal.specs.Decimal.{number_of}
use Rattle.cob_picture.specs.Positions.{PlainPicture}
use Rattle.cob_picture.specs.Counts as counts
use Rattle.cob_copybook_entry.specs.declared.kinds.Figurative.TheVariants.{Zero}
use Rattle.cob_copybook_entry.specs.Described.{PlainValue, Numeric, Quoted, Figure, Repeated}
use Rattle.cob_copybook_tree.specs.declared.node.Kind.{Kind}
use Rattle.cob_copybook_tree.specs.declared.node.Kind.TheVariants.{Group, Item as ItemKind}
use Rattle.cob_copybook_tree.specs.declared.node.Item.{Item}
use Rattle.cob_copybook_tree.specs.Forests.{Forest, NoEntries, AnEntry}
use Rattle.cob_copybook_tree.specs.Nodes.{Resolved}
use Rattle.cob_copybook_tree.specs.Lengths.{greatest_number, element_length}
use Rattle.cob_copybook_tree.specs.Resolving.{is_number}

-- a units of 10 ^ -s are b units that are so many powers of ten finer, or coarser
abbrev pub IsSameBy : ℤ → ℕ → ℕ → Type 0
IsSameBy (pos k) a b = a * 10 ^ k ≡ b
IsSameBy (negsuc k) a b = a ≡ b * 10 ^ (k + 1)

-- a units of 10 ^ -s and b units of 10 ^ -t are one value
abbrev pub IsSame : ℕ → ℤ → ℕ → ℤ → Type 0
IsSame a s b t = IsSameBy (t -ℤ s) a b

-- a number of this picture can be the one that a literal stands for: nothing is cut at either end, and a sign is written only where the
-- picture has one
pub record HoldsNumber (p : PlainPicture) (sign : Bool) (digits : List ℕ) (scale : ℤ) : Type 0 where
  pub signed : IsTrue sign → IsTrue (counts.signed p.positions)
  pub held : ℕ
  pub few : held < 10 ^ counts.digits p.positions
  pub same : IsSame (number_of digits) scale held (counts.scale p.positions)

-- a numeric item takes ZERO, or a numeric literal that it holds
abbrev pub IsNumericValue : PlainPicture → PlainValue → Type 0
IsNumericValue p (Numeric sign negative digits scale) = HoldsNumber p sign digits scale
IsNumericValue p (Figure Zero) = Unit {0}
IsNumericValue p c = ⊥

-- another item, or a group, of this length takes a quoted literal that isn't longer, a figurative constant, or ALL and a literal
abbrev pub IsCharacterValue : ℕ → PlainValue → Type 0
IsCharacterValue size (Numeric sign negative digits scale) = ⊥
IsCharacterValue size (Quoted text) = length text ≤ size
IsCharacterValue size (Figure f) = Unit {0}
IsCharacterValue size (Repeated text) = Unit {0}

-- an item takes a numeric value if it is a number, and characters if it isn't
abbrev pub IsItemValue : Bool → Item → ℕ → PlainValue → Type 0
IsItemValue true i size c = IsNumericValue i.picture c
IsItemValue false i size c = IsCharacterValue size c

-- what an entry whose element has this length takes
abbrev pub IsValueFor : Kind → ℕ → PlainValue → Type 0
IsValueFor Group size c = IsCharacterValue size c
IsValueFor (ItemKind i) size c = IsItemValue (is_number i) i size c

-- an entry may have the value: it isn't in or under a redefinition, nor beneath a group with a value
abbrev pub MayHaveValue : Bool → Bool → Resolved → Forest Resolved → Option PlainValue → Type 0
MayHaveValue redefined valued e children None = Unit {0}
MayHaveValue redefined valued e children (Some c) = (redefined ≡ false) × (valued ≡ false) × IsValueFor e.kind (element_length greatest_number e children) c

-- the values of entries in a redefinition, or beneath a group with a value, or in neither
abbrev pub AreValues : Bool → Bool → Forest Resolved → Type 0
AreValues redefined valued NoEntries = Unit {0}
AreValues redefined valued (AnEntry e children more) =
    MayHaveValue (redefined || is_some e.redefines) valued e children e.value
    × AreValues (redefined || is_some e.redefines) (valued || is_some e.value) children
    × AreValues redefined valued more
