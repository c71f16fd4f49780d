-- USAGE: a group's applies to each item in it.
use Rattle.std.specs.Prelude.{◌≡◌, true, MatchBool, Option, Some, None}
use Rattle.cob_picture.specs.Positions.{PlainPicture}
use Rattle.cob_copybook_entry.specs.declared.kinds.Usage.{Usage}
use Rattle.cob_copybook_entry.specs.Kinds.{is_display}
use Rattle.cob_copybook_entry.specs.Described.{PlainEntry}
use Rattle.cob_copybook_tree.specs.Forests.{Forest, NoEntries, AnEntry}
use Rattle.cob_copybook_tree.specs.Resolving.{inherited, is_numeric}
use Rattle.cob_copybook_tree.specs.Storage.{AllowsPicture, storage_kind_by}

-- an entry's usage is that of the groups that hold it, where both have one
abbrev pub Agree : Option Usage → Option Usage → Type 0
Agree None own = Unit {0}
Agree (Some u) None = Unit {0}
Agree (Some u) (Some v) = u ≡ v

-- each picture may have the usage of characters; an item of another usage is a number, whose picture its kind of storage is allowed
abbrev pub Takes : Usage → PlainPicture → Type 0
Takes usage p = MatchBool (is_display usage) (Unit {0}) ((is_numeric p.category ≡ true) × AllowsPicture (storage_kind_by usage None) p)

-- an item may have the usage that its clause or its groups say, if they say one
abbrev pub MayHave : Option Usage → Option PlainPicture → Type 0
MayHave None picture = Unit {0}
MayHave (Some u) None = Unit {0}
MayHave (Some u) (Some p) = Takes u p

-- the usages beneath groups with this usage are allowed
abbrev pub AreUsages : Option Usage → Forest PlainEntry → Type 0
AreUsages above NoEntries = Unit {0}
AreUsages above (AnEntry e children more) =
    Agree above e.usage × MayHave (inherited above e.usage) e.picture × AreUsages (inherited above e.usage) children × AreUsages above more
