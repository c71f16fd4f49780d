-- Receivers whose places meet the items of counts.
use Rattle.std.specs.Prelude.{◌≡◌, ◌⊎◌, ℕ, ◌+◌, true, List, [], ◌∷◌, Ok}
use Rattle.cob_copybook_tree.specs.Forests.{Forest}
use Rattle.cob_copybook_tree.specs.Nodes.{Resolved}
use Rattle.cob_layout.specs.declared.fields.Place.{Place}
use Rattle.cob_layout.specs.Kept.{HasItemAt, IsIn}
use Rattle.cob_layout.specs.Standing.{meets}
use Rattle.cob_move_data.specs.declared.operands.Operand.{Operand}
use Rattle.cob_move_data.specs.declared.operands.Side.TheVariants.{Out}
use Rattle.cob_layout_places.specs.declared.varying.Table.{Table}
use Rattle.cob_layout_places.specs.Counts.{tables_of}
use Rattle.cob_move_data.specs.Moves.{Move, Records}
use Rattle.cob_move_apply.specs.Applied.{Content, Gets, Gives}
use Rattle.cob_move_apply.specs.Located.{Located}

-- the place has a byte of the item of a table's count, where that stands in this storage
abbrev pub MeetsItem : Forest Resolved → List ℕ → Place → Type 0
MeetsItem tree bytes p = (x : Table) × (item : Place) × IsIn x (tables_of tree) × HasItemAt tree bytes x item × (meets p item ≡ true)

-- one receiver, or none, met the item of a count at its place in the storage before it got what is sent
abbrev pub ReceiverMet : Forest Resolved → Operand → List ℕ → ℕ → Type 0
ReceiverMet tree o before n = (n ≡ 0) ⊎ ((n ≡ 1) × ((p : Place) × Located Out tree true o before (Ok p) × MeetsItem tree before p))

-- so many receivers met the item of a count: some of these, in turn, each of which got what is sent, and then others
abbrev pub ReceiversMet : Forest Resolved → Content → List Operand → List ℕ → ℕ → (List ℕ → ℕ → Type 0) → Type 0
ReceiversMet tree content [] before n others = others before n
ReceiversMet tree content (o ∷ os) before n others =
    (n ≡ 0)
    ⊎ ((after : List ℕ) × (own rest : ℕ) × (n ≡ own + rest) × Gets tree content o before (Ok after) × ReceiverMet tree o before own
    × ReceiversMet tree content os after rest others)

-- At least so many of the receivers of moves met the item of a count of the output record: each got what was sent to it, and its place had a byte of
-- the item before.
abbrev pub HaveMet : Records → List Move → List ℕ → List ℕ → ℕ → Type 0
HaveMet r [] input before n = n ≡ 0
HaveMet r (m ∷ ms) input before n =
    (n ≡ 0)
    ⊎ ((content : Content) × Gives r m.sender input before (Ok content)
    × ReceiversMet r.output content m.receivers before n (λ after rest. HaveMet r ms input after rest))
