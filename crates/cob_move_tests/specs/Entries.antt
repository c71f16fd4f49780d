-- The entries of two records, as statements name them.
use Rattle.std.specs.Prelude.{◌≡◌, List, map}
use Rattle.cob_layout_places.specs.declared.reference.Ref.{Ref}
use Rattle.cob_copybook_conditions.specs.Names.{plain_span}
use Rattle.cob_copybook_names.specs.Naming.{Bearer}
use Rattle.cob_move_data.specs.declared.operands.Side.{Side}
use Rattle.cob_move_data.specs.declared.operands.Sender as code
use Rattle.cob_move_data.specs.Moves.{Records, operand_in, record_of, sender}
use Rattle.cob_move_names.specs.Candidates.{Candidate, all_entries}
use Rattle.cob_move_names.specs.Directory.{entries_named, values_named}
use Rattle.cob_move_names.specs.References.{NamesOperand}
use Rattle.cob_move_names.specs.Senders.{IsSenderOf}
use Rattle.cob_move_names.specs.Valued.{ValuedEntry}
use Rattle.cob_move_names.specs.Values.{ValuedOperand}
use Rattle.cob_move_statements.specs.Written.{WrittenReference, WrittenSender}
use Rattle.cob_move_tests.specs.declared.entries.Entries.{Entries}
use Rattle.cob_move_tests.specs.declared.entries.ValuedItem.{ValuedItem}

-- the two records
abbrev pub records_of : Entries → Records
records_of e = record { input = e.input.now; output = e.output.now }

-- any entry of the two records may be named, and no other
abbrev pub AllMayBeNamed : Entries → Type 0
AllMayBeNamed e = entries_named e.names.now ≡ all_entries e.input.now e.output.now

-- the entries that may be named
abbrev pub nameable : Entries → List Candidate
nameable e = entries_named e.names.now

-- the condition-names that may be named
abbrev pub valued_in : Entries → List (Bearer ValuedEntry)
valued_in e = values_named e.names.now

-- the reference names this entry of a side's record
abbrev pub NamesAmong : Entries → WrittenReference → Side → Ref → Type 0
NamesAmong e w side entry = NamesOperand (nameable e) w side (operand_in (record_of (records_of e) side) entry)

-- the sender means this one
abbrev pub IsSenderAmong : Entries → WrittenSender → code.Sender → Type 0
IsSenderAmong e w s = IsSenderOf (nameable e) w (sender (records_of e) s)

-- the item of a condition-name, with its values
abbrev pub valued_item : Records → ValuedItem → ValuedOperand
valued_item r v = record {
  side = v.item.side;
  operand = operand_in (record_of r v.item.side) v.item.entry;
  first = plain_span v.first.now;
  more = map plain_span v.more.now;
}
