-- The records of one of two files, as they come, and what stops them.
use Rattle.std.specs.Prelude.{◌≡◌, ℕ, ◌+◌, ◌<◌, ◌≤◌, ◌⊎◌, ⊤, Bool, true, false, ◌&&◌, not, List, [], ◌∷◌, ◌++◌, length, take, Option, Ok, Err, Result}
use Rattle.std.specs.List.{AllByRecursion}
use Rattle.std.specs.Ordering.{is_gt}
use Rattle.std.specs.declared.cmp.Ordering.TheVariants.{Greater}
use Rattle.cob_copybook_tree.specs.Forests.{Forest}
use Rattle.cob_copybook_tree.specs.Nodes.{Resolved}
use Rattle.cob_layout.specs.Standing.{IsRoomFor, Standing}
use Rattle.cob_layout.specs.Storage.{greatest_length}
use Rattle.cob_records.specs.declared.records.Form.{Form}
use Rattle.cob_records.specs.Device.{Told}
use Rattle.cob_records.specs.Forms.{Come}
use Rattle.cob_records.specs.Frame.{IsRecord}
use Rattle.cob_move_data.specs.declared.operands.Side.TheVariants.{In}
use Rattle.cob_convert_stream.specs.declared.fault.Cause.{Cause}
use Rattle.cob_convert_stream.specs.declared.fault.Cause.TheVariants.{Limit}
use Rattle.cob_convert_stream.specs.declared.fault.Reason.{Reason}
use Rattle.cob_report_show.specs.Elements.{NamedItem, Printed}
use Rattle.cob_report_show.specs.Records.{HoldsRecord}
use Rattle.cob_report_show.specs.Runs.{IsLegible, StopsReading}
use Rattle.cob_report_compare.specs.declared.files.CompareStop.{CompareStop}
use Rattle.cob_report_compare.specs.declared.files.FileSide.{FileSide}
use Rattle.cob_report_compare.specs.declared.files.FileSide.TheVariants.{Left, Right}
use Rattle.cob_report_compare.specs.declared.files.StopReason.{StopReason}
use Rattle.cob_report_compare.specs.declared.files.StopReason.TheVariants.{Record, NoNumber, Order}
use Rattle.cob_report_compare.specs.declared.heads.FileRoom.{FileRoom}
use Rattle.cob_report_compare.specs.declared.heads.Head.{Head}
use Rattle.cob_report_compare.specs.declared.heads.Head.TheVariants as head
use Rattle.cob_report_compare.specs.declared.heads.Reached.{Reached}
use Rattle.cob_report_compare.specs.declared.pairs.ComparedFiles.{ComparedFiles}
use Rattle.cob_report_compare.specs.Keys.{AreKeyBytes, AreKeyParts, BeginsKeyAt, IsNoKeyAt, KeyPart, key_order, key_size}
use Rattle.cob_report_compare.specs.Merged.{Ascend, IsKeyedRecord, KeyedRecord, Next, Unread, Ended, Waits, bodies, came, printed_by}

-- ---- what came of a file

-- behind records that came no byte is left
abbrev pub IsFileEnd : (opened : ℕ) → List ℕ → List ℕ → Type 0
IsFileEnd opened left rest = (opened ≡ 0) × (left ≡ []) × (rest ≡ [])

-- nothing of what is left behind them was read
abbrev pub IsNotRead : (opened : ℕ) → List ℕ → List ℕ → Type 0
IsNotRead opened left rest = rest ≡ left

-- the next record stops the reading for this reason
abbrev pub IsReadStop : Form → Forest Resolved → Reason → (opened : ℕ) → List ℕ → List ℕ → Type 0
IsReadStop form tree why opened left rest = (after : ℕ) × StopsReading form tree opened why after left rest

-- these records came one behind another, and this stands behind them
pub record CameBefore (form : Form) (records : List (List ℕ)) (ends : ℕ → List ℕ → List ℕ → Type 0) (bytes rest : List ℕ) : Type 0 where
  pub opened : ℕ
  pub left : List ℕ
  pub come : Come form 0 records bytes opened left
  pub behind : ends opened left rest

-- these records came so far, and the open block holds so many bytes behind them
abbrev pub CameSoFar : Form → List (List ℕ) → (opened : ℕ) → Option (List ℕ) → Option (List ℕ) → Type 0
CameSoFar form records opened before now = Told before now (λ bytes rest. Come form 0 records bytes opened rest)

-- these records were told, and this stands next behind them
abbrev pub HasCome : Form → List KeyedRecord → Next → (opened : ℕ) → Option (List ℕ) → Option (List ℕ) → Type 0
HasCome form told Unread opened before now = CameSoFar form (bodies told) opened before now
HasCome form told Ended opened before now = Told before now (CameBefore form (bodies told) IsFileEnd)
HasCome form told (Waits x) opened before now = CameSoFar form (bodies (told ++ x ∷ [])) opened before now

-- and nothing behind was read
abbrev pub LeavesFile : Form → List KeyedRecord → Next → Option (List ℕ) → Option (List ℕ) → Type 0
LeavesFile form told Unread before now = Told before now (CameBefore form (bodies told) IsNotRead)
LeavesFile form told Ended before now = Told before now (CameBefore form (bodies told) IsFileEnd)
LeavesFile form told (Waits x) before now = Told before now (CameBefore form (bodies (told ++ x ∷ [])) IsNotRead)

-- A file so far: each record that came is whole and legible and has its key, and none stands below the one before it.
pub record FileSoFar (form : Form) (tree : Forest Resolved) (keys : List NamedItem) (told : List KeyedRecord) (next : Next) (opened : ℕ) (before now : Option (List ℕ)) : Type 0 where
  pub come : HasCome form told next opened before now
  pub keyed : AllByRecursion (IsKeyedRecord form tree keys) (came told next)
  pub ascend : Ascend (came told next)

-- ---- what its room holds

-- the room of a file is that of records with these entries and of keys with these items
pub record IsFileRoom (tree : Forest Resolved) (keys : List NamedItem) (room : FileRoom) : Type 0 where
  pub bytes : length room.bytes.items ≡ greatest_length tree
  pub key : length room.key.items ≡ key_size keys
  pub next : length room.next.items ≡ key_size keys
  pub places : IsRoomFor tree room.places

-- it holds this record, of so many bytes, which stands next
pub record HoldsHead (tree : Forest Resolved) (room : FileRoom) (count : ℕ) (x : KeyedRecord) : Type 0 where
  pub most : count ≤ length room.bytes.items
  pub body : x.body ≡ take count room.bytes.items
  pub places : x.places ≡ room.places
  pub key_bytes : x.key_bytes ≡ room.key.items
  pub holds : HoldsRecord tree room.places count

-- what stands next is what the room holds
abbrev pub HoldsNext : Forest Resolved → FileRoom → Head → Next → Type 0
HoldsNext tree room head.Unread Unread = ⊤
HoldsNext tree room head.Ended Ended = ⊤
HoldsNext tree room (head.Waits count) (Waits x) = HoldsHead tree room count x
HoldsNext tree room _ _ = ⊥

-- the room has the key of the last of these records, where there is one
abbrev pub HoldsLast : List KeyedRecord → FileRoom → Type 0
HoldsLast records room =
    (records ≡ []) ⊎ ((front : List KeyedRecord) × (last : KeyedRecord) × (records ≡ front ++ last ∷ []) × (last.key_bytes ≡ room.key.items))

-- so far a file was read, and so it stands in its room
pub record HoldsFile (tree : Forest Resolved) (told : List KeyedRecord) (next : Next) (reached : Reached) (room : FileRoom) : Type 0 where
  pub number : reached.number ≡ length (came told next)
  pub head : HoldsNext tree room reached.head next
  pub last : HoldsLast (came told next) room

-- what stands next after a call that reads it where it was not read
abbrev pub IsReadNext : Next → Next → Type 0
IsReadNext Unread now = (now ≡ Unread) → ⊥
IsReadNext Ended now = now ≡ Ended
IsReadNext (Waits x) now = now ≡ Waits x

-- What an answer to such a call says, whatever records were told before it: so the file was read, and so it stands in its room.
abbrev pub ReadsNextHead : Form → Forest Resolved → List NamedItem → Reached → FileRoom → (r1 r2 : Option (List ℕ)) → FileRoom → Reached → Type 0
ReadsNextHead form tree keys reached room r1 r2 held now =
    (told : List KeyedRecord) (next : Next) (r0 : Option (List ℕ)) → FileSoFar form tree keys told next reached.opened r0 r1 → HoldsFile tree told next reached room
    → (behind : Next) × IsReadNext next behind × FileSoFar form tree keys told behind now.opened r0 r2 × HoldsFile tree told behind now held

-- ---- what stops it

-- the reason of records that are more than are compared
abbrev pub limit_of_pairs : Reason
limit_of_pairs = record { side = In; offset = 0; cause = Limit }

-- The record behind these stops it, for this reason: it cannot be read, or is not legible; or it came whole and is legible, and an item of its key is no
-- number, or its key stands below that of the record before it. Nothing behind it was read.
abbrev pub StopsFile : Form → Forest Resolved → List NamedItem → List KeyedRecord → StopReason → Option (List ℕ) → Option (List ℕ) → Type 0
StopsFile form tree keys told (Record why) before now = Told before now (CameBefore form (bodies told) (IsReadStop form tree why))
StopsFile form tree keys told (NoNumber offset) before now =
    (body : List ℕ) × (places : Standing) × IsRecord form (greatest_length tree) body × IsLegible form tree body places
    × IsNoKeyAt keys (record { tree = tree; places = places; bytes = body }) offset × Told before now (CameBefore form (bodies told ++ body ∷ []) IsNotRead)
StopsFile form tree keys told (Order offset) before now =
    (front : List KeyedRecord) × (last : KeyedRecord) × (x : KeyedRecord) × (told ≡ front ++ last ∷ []) × IsKeyedRecord form tree keys x
    × (key_order last.key x.key ≡ Greater) × BeginsKeyAt keys (printed_by tree x) offset × Told before now (CameBefore form (bodies told ++ x.body ∷ []) IsNotRead)

-- What a stop of such a call says, whatever records were told before it: the record behind these is the one that stops it.
abbrev pub StopsAtHead : Form → Forest Resolved → List NamedItem → Reached → FileRoom → (r1 r2 : Option (List ℕ)) → CompareStop → Type 0
StopsAtHead form tree keys reached room r1 r2 stop =
    (told : List KeyedRecord) (next : Next) (r0 : Option (List ℕ)) → FileSoFar form tree keys told next reached.opened r0 r1 → HoldsFile tree told next reached room
    → (next ≡ Unread) × (stop.number ≡ length told + 1) × StopsFile form tree keys told stop.reason r0 r2

-- the key of these bytes stands below the one whose bytes are held, of the record before it
abbrev pub StandsBelowHeld : List NamedItem → (held next : List ℕ) → (first : Bool) → Type 0
StandsBelowHeld keys held next first =
    (first ≡ false) × (0 < length keys) × ((old key : List KeyPart) → AreKeyParts keys held old → AreKeyParts keys next key → key_order old key ≡ Greater)

-- or it is that of the first record, or does not stand below it
abbrev pub StandsInOrder : List NamedItem → (held next : List ℕ) → (first : Bool) → Type 0
StandsInOrder keys held next first =
    first ≡ false → (old key : List KeyPart) → AreKeyParts keys held old → AreKeyParts keys next key → is_gt (key_order old key) ≡ false

-- the key of a record was taken, which is the first of its file, or does not stand below the one whose bytes were held before
abbrev pub TakesKey : List NamedItem → Printed → (first : Bool) → List ℕ → List ℕ → Type 0
TakesKey keys r first before now =
    AreKeyBytes keys r now
    × ((key : List KeyPart) × AreKeyParts keys now key
    × (first ≡ false → (old : List KeyPart) → AreKeyParts keys before old → is_gt (key_order old key) ≡ false))

-- or it is refused for this reason
abbrev pub RefusesKey : List NamedItem → Printed → (first : Bool) → List ℕ → StopReason → Type 0
RefusesKey keys r first before (Record why) = ⊥
RefusesKey keys r first before (NoNumber offset) = IsNoKeyAt keys r offset
RefusesKey keys r first before (Order offset) =
    (first ≡ false)
    × ((bytes : List ℕ) × (key : List KeyPart) × AreKeyBytes keys r bytes × AreKeyParts keys bytes key
    × ((old : List KeyPart) → AreKeyParts keys before old → key_order old key ≡ Greater) × BeginsKeyAt keys r offset)

-- a reason is one of a cause of this kind
abbrev pub is_reason_for : (Cause → Bool) → StopReason → Bool
is_reason_for is (Record why) = is why.cause
is_reason_for is (NoNumber offset) = false
is_reason_for is (Order offset) = false

-- a record stops it, for a cause of this kind
abbrev pub is_stopped_for : {X : Type 0} → (Cause → Bool) → Result X CompareStop → Bool
is_stopped_for is (Ok x) = false
is_stopped_for is (Err stop) = is_reason_for is stop.reason

-- how the records stand in a file
abbrev pub form_on : ComparedFiles → FileSide → Form
form_on files Left = files.left_form
form_on files Right = files.right_form

-- it is the file on the left
abbrev pub on_left : FileSide → Bool
on_left Left = true
on_left Right = false

-- a record of this file stops it, for a cause of this kind
abbrev pub is_stopped_on : {X : Type 0} → FileSide → (Cause → Bool) → Result X CompareStop → Bool
is_stopped_on side is (Ok x) = false
is_stopped_on Left is (Err stop) = on_left stop.side && is_reason_for is stop.reason
is_stopped_on Right is (Err stop) = not (on_left stop.side) && is_reason_for is stop.reason
