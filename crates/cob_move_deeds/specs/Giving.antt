-- What is asked of entries that give something to conditions, and how many counts are read for that.
use Rattle.std.specs.Prelude.{◌≡◌, ℕ, List, length, refl, Ok, Err}
use Rattle.std.specs.List.{AllByRecursion}
use Rattle.cob_copybook_entry.specs.Described.{PlainValue}
use Rattle.cob_copybook_tree.specs.Forests.{Forest}
use Rattle.cob_copybook_tree.specs.Nodes.{Resolved}
use Rattle.cob_layout.specs.Storage.{greatest_length, IsStorage}
use Rattle.cob_move_data.specs.declared.operands.Side.TheVariants.{Out}
use Rattle.cob_move_data.specs.Moves.{Literal, Records}
use Rattle.cob_move_receive.specs.Sent as given
use Rattle.cob_move_apply.specs.Entries.{IsPlacedEntry}
use Rattle.cob_move_apply.specs.Reads.{ReadsFor}
use Rattle.cob_move_apply.specs.Room.{Scratching}
use Rattle.cob_move_apply.specs.declared.placed.PlacedEntry.{PlacedEntry}
use Rattle.cob_move_apply.specs.declared.stop.Stop.{Stop}
use Rattle.cob_move_deeds.specs.Carrying.{HasKept}
use Rattle.cob_move_deeds.specs.Tests.{GivesIn}

-- a constant gives itself
pub constant_gives : (r : Records) (input output : List ℕ) (c : PlainValue) → GivesIn r input output (Literal c) (Ok (given.Literal c))
constant_gives r input output c = (record { sent = given.Literal c; side = Out; offset = 0 }, refl, refl)

-- from whichever moment on: where no more counts were read up to the earlier of two moments than were kept anew, that is so up to the later one too
abbrev pub ReadsOn : Forest Resolved → Scratching → Scratching → Type 0
ReadsOn tree earlier later = (first : Scratching) → ReadsFor {A = Unit {0}} tree 0 (Ok tt) first earlier → ReadsFor {A = Unit {0}} tree 0 (Ok tt) first later

-- the same up to a stop
abbrev pub ReadsOnToStop : Forest Resolved → Scratching → Scratching → Type 0
ReadsOnToStop tree earlier later = (first : Scratching) (stop : Stop) → ReadsFor {A = Unit {0}} tree 0 (Ok tt) first earlier → ReadsFor {A = Unit {0}} tree 0 (Err stop) first later

-- entries may give what they hold: they are ready to be read, both storages are those of their records, and what is kept of their counts is right
pub record MayGive (r : Records) (entries : List PlacedEntry) (input output : List ℕ) (s : Scratching) : Type 0 where
  pub placed : AllByRecursion (IsPlacedEntry r) entries
  pub of_input : IsStorage r.input input
  pub of_output : length output ≡ greatest_length r.output
  pub kept : HasKept r input output s
