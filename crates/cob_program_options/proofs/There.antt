-- What stands in an option.
use Rattle.std.proofs.Common.{rules, ◌≡◌, Option, Some, None, option_map, true, sym, true≢false}
use Rattle.std.specs.Prelude.{IsSome, is_some}

-- what is there when it is turned into another is there
pub is_there : {X Y : Type 0} (f : X → Y) (found : Option X) → is_some (option_map f found) ≡ true → IsSome found
is_there f None e = absurd (true≢false (sym e))
is_there f (Some x) e = search rules
