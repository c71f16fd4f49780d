-- Names behind prefixes.
use Rattle.std.proofs.Common.{◌≡◌, Bool, true, false, if◌then◌else◌, List, ℕ, [], refl}
use Rattle.cob_report_partners.specs.Prefixes.{NoPrefixChangesNothing, begins_with}

by_either : (b : Bool) (name : List ℕ) → (if b then name else name) ≡ name
by_either true name = refl
by_either false name = refl

pub no_prefix_changes_nothing : NoPrefixChangesNothing
no_prefix_changes_nothing name = by_either (begins_with [] name) name
