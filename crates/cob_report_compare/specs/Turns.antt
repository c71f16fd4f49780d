-- What is told of two files next.
use Rattle.std.specs.Prelude.{◌≡◌, ℕ, ◌≤◌, ⊤, List, length, take, Option}
use Rattle.std.specs.declared.cmp.Ordering.{Ordering}
use Rattle.std.specs.declared.cmp.Ordering.TheVariants.{Less, Equal, Greater}
use Rattle.cob_copybook_tree.specs.Forests.{Forest}
use Rattle.cob_copybook_tree.specs.Nodes.{Resolved}
use Rattle.cob_records.specs.Device.{Took}
use Rattle.cob_report_show.specs.Elements.{NamedItem, Printed}
use Rattle.cob_report_compare.specs.declared.counted.PairCounts.{PairCounts}
use Rattle.cob_report_compare.specs.declared.files.FileSide.{FileSide}
use Rattle.cob_report_compare.specs.declared.heads.FileRoom.{FileRoom}
use Rattle.cob_report_compare.specs.declared.heads.Head.{Head}
use Rattle.cob_report_compare.specs.declared.heads.Head.TheVariants as head
use Rattle.cob_report_compare.specs.declared.heads.Reached.{Reached}
use Rattle.cob_report_compare.specs.declared.turns.Turn.{Turn}
use Rattle.cob_report_compare.specs.declared.turns.Turn.TheVariants as turn
use Rattle.cob_report_compare.specs.Equal.{IsCompleteRecord}
use Rattle.cob_report_compare.specs.Files.{HoldsNext}
use Rattle.cob_report_compare.specs.Keys.{AreKeyParts}
use Rattle.cob_report_compare.specs.Lines.{IfTold, IsAloneLine, IsHeading, number_text}
use Rattle.cob_report_compare.specs.Merged.{Alone, Entry, FilePair, KeyedRecord, Next, Unread, Ended, Waits, told_counted, with_entry}
use Rattle.cob_report_compare.specs.Merging.{IsEntryText, IsTold, IsTurn}

-- what stands next in a room, where that is a record: its entries, and its bytes
abbrev pub head_record : Forest Resolved → FileRoom → Head → Printed
head_record tree room head.Unread = record { tree = tree; places = room.places; bytes = take 0 room.bytes.items }
head_record tree room head.Ended = record { tree = tree; places = room.places; bytes = take 0 room.bytes.items }
head_record tree room (head.Waits count) = record { tree = tree; places = room.places; bytes = take count room.bytes.items }

-- it is a record that is complete
abbrev pub IsWhole : Forest Resolved → FileRoom → Head → Type 0
IsWhole tree room head.Unread = ⊥
IsWhole tree room head.Ended = ⊥
IsWhole tree room (head.Waits count) = (count ≤ length room.bytes.items) × IsCompleteRecord (head_record tree room (head.Waits count))

-- what stands next has this key
abbrev pub HasKey : List NamedItem → Next → Type 0
HasKey keys Unread = ⊤
HasKey keys Ended = ⊤
HasKey keys (Waits x) = AreKeyParts keys x.key_bytes x.key

-- what is told of two records whose keys stand so to one another
abbrev pub turn_by : Ordering → Turn
turn_by Less = turn.Left
turn_by Equal = turn.Both
turn_by Greater = turn.Right

-- What a call decides that takes the turn: whatever stands next in both rooms, it is what is told next.
abbrev pub DecidesTurn : List NamedItem → FileRoom → Head → FileRoom → Head → Turn → Type 0
DecidesTurn keys left_room left right_room right t =
    (tree : Forest Resolved) (l r : Next) → HoldsNext tree left_room left l → HoldsNext tree right_room right r → HasKey keys l → HasKey keys r → IsTurn l r t

-- how far a file was read, when a turn was told
abbrev pub left_behind : Turn → Reached → Reached
left_behind turn.Done reached = reached
left_behind turn.Both reached = record reached { head = head.Unread }
left_behind turn.Left reached = record reached { head = head.Unread }
left_behind turn.Right reached = reached

abbrev pub right_behind : Turn → Reached → Reached
right_behind turn.Done reached = reached
right_behind turn.Both reached = record reached { head = head.Unread }
right_behind turn.Left reached = reached
right_behind turn.Right reached = record reached { head = head.Unread }

-- the number of the record that a turn tells, on its side
abbrev pub turn_number : Turn → Reached → Reached → ℕ
turn_number turn.Done left right = left.number
turn_number turn.Both left right = left.number
turn_number turn.Left left right = left.number
turn_number turn.Right left right = right.number

-- what a call that tells a record which stands alone comes to: its line was printed, and it is counted
abbrev pub TellsSingle : FilePair → FileSide → FileRoom → ℕ → PairCounts → (w0 w1 : Option (List ℕ)) → PairCounts → Type 0
TellsSingle files side room number counts w0 w1 now =
    Took w0 w1 (IfTold files.most (told_counted counts) (IsAloneLine side (IsHeading (number_text side number) files.keys room.key.items)))
    × ((x : KeyedRecord) → now ≡ with_entry counts (Alone side x))

-- What a call that tells a turn comes to: whatever stands next in both rooms, an entry is told of it, its lines were printed, and it is counted.
abbrev pub TellsTurn : FilePair → Turn → FileRoom → Reached → FileRoom → Reached → PairCounts → (w0 w1 : Option (List ℕ)) → PairCounts → Type 0
TellsTurn files t left_room left right_room right counts w0 w1 now =
    (l r : Next) → HoldsNext files.tree left_room left.head l → HoldsNext files.tree right_room right.head r → IsTurn l r t
    → (e : Entry) × IsTold files l r t e × Took w0 w1 (IfTold files.most (told_counted counts) (IsEntryText files left.number right.number e))
    × (now ≡ with_entry counts e)
