-- What a draft says of the move of an entry to an item.
use Rattle.std.specs.Prelude.{◌≡◌, ◌≢◌, ℕ, Bool, true, false, ◌&&◌, not, IsFalse, IsTrue, List, length, min, Option, Some, None}
use Rattle.cob_copybook_tree.specs.Lengths.{element_length, greatest_number}
use Rattle.cob_copybook_tree.specs.declared.lengths.TheConstants.{MANY}
use Rattle.cob_copybook_tree.specs.Nodes.{is_group_kind, node}
use Rattle.cob_copybook_tree.specs.declared.node.Node.{Node}
use Rattle.cob_copybook_tree.specs.declared.node.Node.TheViews.{out-Node}
use Rattle.cob_copybook_tree.specs.declared.node.Kind.{Kind}
use Rattle.cob_back_losses.specs.Losses.{LosesBefore, LosesBehind, LosesCharacters, LosesSign}
use Rattle.cob_back_losses.specs.declared.losses.Losses.{Losses}
use Rattle.cob_move_receive.specs.Refusals.{IsAllowed, is_refused}
use Rattle.cob_move_receive.specs.Table.{Entry}
use Rattle.cob_back_losses.specs.Keeping.{Element, KeepsDescription, Nothing, TellsFirstUnkept}
use Rattle.cob_report_partners.specs.Bounds.{all_levels, has_bound, is_among, is_apart, is_unmoved, is_unnamed, some_level}
use Rattle.cob_report_partners.specs.declared.bounds.DraftCounts.{DraftCounts}
use Rattle.cob_report_partners.specs.declared.bounds.TableSize.{TableSize}
use Rattle.cob_report_partners.specs.declared.entries.DraftEntry.{DraftEntry}
use Rattle.cob_report_partners.specs.declared.judge.Objection.{Objection}
use Rattle.cob_report_partners.specs.declared.judge.Objection.TheVariants as objection

-- how long one element of an entry is at most; no record has one of so many bytes as bound it
abbrev pub greatest_element : Node → ℕ
greatest_element n = min (element_length greatest_number (node n).top (node n).beneath) MANY

-- what an entry describes
abbrev pub kind_there : DraftEntry → Kind
kind_there e = (out-Node e.entry.now).kind

-- The losses are those of the move of one entry, of so many bytes, to another.
pub record AreLosses (from : Kind) (sent : ℕ) (to : Kind) (room : ℕ) (l : Losses) : Type 0 where
  pub before : IsTrue l.before → LosesBefore (Entry from) to
  pub behind : IsTrue l.behind → LosesBehind (Entry from) to
  pub characters : IsTrue l.characters → LosesCharacters (Entry from) sent to room
  pub sign : IsTrue l.sign → LosesSign (Entry from) to

-- The move loses nothing.
pub record KeepsAll (from : Kind) (sent : ℕ) (to : Kind) (room : ℕ) : Type 0 where
  pub before : LosesBefore (Entry from) to → ⊥
  pub behind : LosesBehind (Entry from) to → ⊥
  pub characters : LosesCharacters (Entry from) sent to room → ⊥
  pub sign : LosesSign (Entry from) to → ⊥

-- an entry's number
abbrev pub number_there : DraftEntry → ℕ
number_there e = (out-Node e.entry.now).number

-- an entry is the count of a table that is filled: it is an item, and its number is among those of such counts
abbrev pub is_filled_count : DraftCounts → DraftEntry → Bool
is_filled_count counts e = not (is_group_kind (kind_there e)) && is_among counts.filled.now (number_there e)

-- an entry is the count of a table that is not filled, or holds a count
abbrev pub is_open_count : DraftCounts → DraftEntry → Bool
is_open_count counts e = e.counts && not (is_filled_count counts e)

-- Why the move of one entry, of so many bytes, to another doesn't stand as a statement, as far as counts are moved before. No loop ends over some two of their
-- tables that as many tables hold where no statement can name the first one's count, where nothing is moved to the second one's, or where something else is
-- moved to it than the first one's. It may lose the description of the byte that is told where the first byte of the receiver is so that isn't described as
-- what it gets.
abbrev pub Objects : DraftCounts → DraftEntry → ℕ → DraftEntry → ℕ → Objection → Type 0
Objects counts from sent to room objection.Tables = length from.tables.items ≢ length to.tables.items
Objects counts from sent to room objection.Unnamed = IsTrue (some_level (is_unnamed counts) from.tables.items to.tables.items)
Objects counts from sent to room objection.Unmoved = IsTrue (some_level (is_unmoved counts) from.tables.items to.tables.items)
Objects counts from sent to room objection.Apart = IsTrue (some_level (is_apart counts) from.tables.items to.tables.items)
Objects counts from sent to room objection.Counts = IsTrue (is_open_count counts to)
Objects counts from sent to room (objection.Refused refusal) = is_refused refusal (Entry (kind_there from)) (kind_there to) ≡ true
Objects counts from sent to room (objection.Loses losses) = AreLosses (kind_there from) sent (kind_there to) room losses
Objects counts from sent to room (objection.Description unkept) = TellsFirstUnkept (Element (node from.entry.now)) (node to.entry.now) Nothing (Some unkept)

-- Nothing is against it: both stand in as many tables, a loop over each two of these may end, the receiver is no count of a table that is not filled and holds
-- none, there is such a move, it loses nothing, and where it copies bytes each byte of the receiver is described as what it gets.
pub record MayStand (counts : DraftCounts) (from : DraftEntry) (sent : ℕ) (to : DraftEntry) (room : ℕ) : Type 0 where
  pub tables : length from.tables.items ≡ length to.tables.items
  pub bounded : IsTrue (all_levels (has_bound counts) from.tables.items to.tables.items)
  pub uncounted : IsFalse (is_open_count counts to)
  pub allowed : IsAllowed (Entry (kind_there from)) (kind_there to)
  pub whole : KeepsAll (kind_there from) sent (kind_there to) room
  pub described : KeepsDescription (Element (node from.entry.now)) (node to.entry.now) Nothing

-- where no loop ends over two tables for this reason, the two are so
abbrev pub is_so : DraftCounts → Objection → (from to : TableSize) → Bool
is_so counts objection.Unnamed from to = is_unnamed counts from to
is_so counts objection.Unmoved from to = is_unmoved counts from to
is_so counts objection.Apart from to = is_apart counts from to
is_so counts other from to = false

-- a loop over two tables may end, or this is why none does
abbrev pub JudgesLevel : DraftCounts → (from to : TableSize) → Option Objection → Type 0
JudgesLevel counts from to None = IsTrue (has_bound counts from to)
JudgesLevel counts from to (Some o) = IsTrue (is_so counts o from to)

-- and so over each two of these tables, or over some two of them
abbrev pub JudgesLevels : DraftCounts → (from to : List TableSize) → Option Objection → Type 0
JudgesLevels counts from to None = IsTrue (all_levels (has_bound counts) from to)
JudgesLevels counts from to (Some o) = IsTrue (some_level (is_so counts o) from to)

-- nothing is against the move by where the two stand, or this is
abbrev pub JudgesPlaces : DraftCounts → DraftEntry → DraftEntry → Option Objection → Type 0
JudgesPlaces counts from to None = (length from.tables.items ≡ length to.tables.items) × IsTrue (all_levels (has_bound counts) from.tables.items to.tables.items)
JudgesPlaces counts from to (Some o) = (sent room : ℕ) → Objects counts from sent to room o

-- nothing is against it by what they describe, or this is
abbrev pub JudgesKinds : DraftEntry → ℕ → DraftEntry → ℕ → Option Objection → Type 0
JudgesKinds from sent to room None = IsAllowed (Entry (kind_there from)) (kind_there to) × KeepsAll (kind_there from) sent (kind_there to) room
JudgesKinds from sent to room (Some o) = (counts : DraftCounts) → Objects counts from sent to room o

-- nothing is against it by their bytes or as the move of a count, or this is
abbrev pub JudgesBytes : DraftCounts → DraftEntry → DraftEntry → Option Objection → Type 0
JudgesBytes counts from to None = KeepsDescription (Element (node from.entry.now)) (node to.entry.now) Nothing × IsFalse (is_open_count counts to)
JudgesBytes counts from to (Some o) = (sent room : ℕ) → Objects counts from sent to room o
