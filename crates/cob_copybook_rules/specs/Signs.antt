-- SIGN: on an item it asks for a signed DISPLAY number. On a group it asks for nothing.
use Rattle.std.specs.Prelude.{◌≡◌, true, Option, Some, None, unwrap_or}
use Rattle.cob_picture.specs.Positions.{PlainPicture}
use Rattle.cob_copybook_entry.specs.declared.kinds.Usage.{Usage}
use Rattle.cob_copybook_entry.specs.declared.kinds.Usage.TheVariants.{Display}
use Rattle.cob_copybook_entry.specs.declared.kinds.Sign.{Sign}
use Rattle.cob_copybook_entry.specs.Described.{PlainEntry}
use Rattle.cob_copybook_tree.specs.Forests.{Forest, NoEntries, AnEntry}
use Rattle.cob_copybook_tree.specs.Resolving.{inherited, keeps_sign}

-- an item of this usage may have the sign
abbrev pub MayBeSigned : Option Sign → Option Usage → Option PlainPicture → Type 0
MayBeSigned None usage picture = Unit {0}
MayBeSigned (Some s) usage None = Unit {0}
MayBeSigned (Some s) usage (Some p) = keeps_sign (unwrap_or usage Display) p ≡ true

-- the signs beneath groups with this usage are allowed
abbrev pub AreSigned : Option Usage → Forest PlainEntry → Type 0
AreSigned above NoEntries = Unit {0}
AreSigned above (AnEntry e children more) =
    MayBeSigned e.sign (inherited above e.usage) e.picture × AreSigned (inherited above e.usage) children × AreSigned above more
