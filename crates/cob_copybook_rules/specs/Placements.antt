-- JUSTIFIED and BLANK WHEN ZERO: which items may have them.
use Rattle.std.specs.Prelude.{◌≡◌, Bool, true, false, List, Option, Some, None, unwrap_or}
use Rattle.std.specs.List.{list_any}
use Rattle.cob_picture.specs.Positions.{PlainPicture, is}
use Rattle.cob_picture.specs.Counts.{signed, is_scaling}
use Rattle.cob_picture.specs.declared.position.Position.{Position}
use Rattle.cob_picture.specs.declared.symbol.Symbol.TheVariants.{Star}
use Rattle.cob_picture.specs.declared.category.Category.{Category}
use Rattle.cob_picture.specs.declared.category.Category.TheVariants.{Alphabetic, Numeric, Alphanumeric, AlphanumericEdited, NumericEdited}
use Rattle.cob_copybook_entry.specs.declared.kinds.Usage.{Usage}
use Rattle.cob_copybook_entry.specs.declared.kinds.Usage.TheVariants.{Display}
use Rattle.cob_copybook_entry.specs.Described.{PlainEntry}
use Rattle.cob_copybook_tree.specs.Forests.{Forest, NoEntries, AnEntry}
use Rattle.cob_copybook_entry.specs.Kinds.{is_display}
use Rattle.cob_copybook_tree.specs.Resolving.{inherited}

-- letters or characters
abbrev pub TakesCharacters : Category → Type 0
TakesCharacters Alphabetic = Unit {0}
TakesCharacters Alphanumeric = Unit {0}
TakesCharacters Numeric = ⊥
TakesCharacters AlphanumericEdited = ⊥
TakesCharacters NumericEdited = ⊥

-- JUSTIFIED asks for an alphabetic or alphanumeric item
abbrev pub MayBeJustified : Bool → Option PlainPicture → Type 0
MayBeJustified false picture = Unit {0}
MayBeJustified true None = ⊥
MayBeJustified true (Some p) = TakesCharacters p.category

-- an asterisk stands in the picture
abbrev pub has_star : List Position → Bool
has_star ps = list_any (λ p. is Star p.symbol) ps

-- a P stands in the picture
abbrev pub has_scaling : List Position → Bool
has_scaling ps = list_any is_scaling ps

-- an edited number without an asterisk, or an unsigned DISPLAY number without a P
abbrev pub CanBeBlank : Category → Usage → List Position → Type 0
CanBeBlank NumericEdited usage ps = has_star ps ≡ false
CanBeBlank Numeric usage ps = (is_display usage ≡ true) × (signed ps ≡ false) × (has_scaling ps ≡ false)
CanBeBlank Alphabetic usage ps = ⊥
CanBeBlank Alphanumeric usage ps = ⊥
CanBeBlank AlphanumericEdited usage ps = ⊥

-- BLANK WHEN ZERO asks for one of these
abbrev pub MayBeBlank : Bool → Usage → Option PlainPicture → Type 0
MayBeBlank false usage picture = Unit {0}
MayBeBlank true usage None = ⊥
MayBeBlank true usage (Some p) = CanBeBlank p.category usage p.positions

-- the clauses beneath groups with this usage are allowed
abbrev pub ArePlaced : Option Usage → Forest PlainEntry → Type 0
ArePlaced above NoEntries = Unit {0}
ArePlaced above (AnEntry e children more) =
    MayBeJustified e.justified e.picture × MayBeBlank e.blank (unwrap_or (inherited above e.usage) Display) e.picture × ArePlaced (inherited above e.usage) children × ArePlaced above more
