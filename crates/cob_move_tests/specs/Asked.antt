-- The entries that conditions ask for, by their numbers.
use Rattle.std.specs.Prelude.{◌≡◌, ℕ, ◌<◌, List, ◌++◌, length, Option, Some, None, true, Result, IfErr, IfOk}
use Rattle.std.specs.List.{AllByRecursion, slice_get}
use Rattle.cob_codec.specs.declared.reading.Reading.TheVariants.{Pictured}
use Rattle.cob_copybook_entry.specs.declared.kinds.Figurative.TheVariants.{Space}
use Rattle.cob_copybook_conditions.specs.Names.{PlainSpan}
use Rattle.cob_copybook_entry.specs.Described.{Figure, PlainValue}
use Rattle.cob_copybook_tree.specs.declared.node.Kind.{Kind}
use Rattle.cob_copybook_tree.specs.declared.node.Kind.TheVariants.{Group}
use Rattle.cob_move_condition.specs.declared.condition.Condition as code
use Rattle.cob_move_condition.specs.Comparable.{is_number_operand, may_compare}
use Rattle.cob_move_condition.specs.Tested.{MayBeTested}
use Rattle.cob_move_conditions.specs.declared.phrases.Quality.{Quality}
use Rattle.cob_move_conditions.specs.declared.phrases.Quality.TheVariants as quality
use Rattle.cob_move_data.specs.Moves.{Entry, IsOperand, Literal, Records, Sender, operand_in, record_of}
use Rattle.cob_move_receive.specs.Table.{Entry as EntryOf, Literal as LiteralOf}
use Rattle.cob_move_statements.specs.declared.fault.MoveRule.{MoveRule}
use Rattle.cob_move_statements.specs.declared.fault.MoveRule.TheVariants as rule
use Rattle.cob_move_tests.specs.declared.entries.NamedEntry.{NamedEntry}
use Rattle.cob_move_tests.specs.Spans.{MayBeWithinAll, MayBeWithinBy, constants}

-- the sender that an entry is, read as its picture says; a space where there is none
abbrev pub sender_asked : Records → Option NamedEntry → Sender
sender_asked r None = Literal (Figure Space)
sender_asked r (Some n) = Entry n.side Pictured (operand_in (record_of r n.side) n.entry)

-- what an entry describes; a group where there is none
abbrev pub kind_asked : Records → Option NamedEntry → Kind
kind_asked r None = Group
kind_asked r (Some n) = (operand_in (record_of r n.side) n.entry).kind

-- the sender that each number stands for
abbrev pub sender_named : Records → List NamedEntry → ℕ → Sender
sender_named r asked number = sender_asked r (slice_get asked number)

-- what the entry with each number describes
abbrev pub kind_named : Records → List NamedEntry → ℕ → Kind
kind_named r asked number = kind_asked r (slice_get asked number)

-- there is an entry with this number
abbrev pub IsAsked : List NamedEntry → ℕ → Type 0
IsAsked asked number = number < length asked

-- an entry of its side's record, with a subscript for each of its tables
abbrev pub IsSubscriptedEntry : Records → NamedEntry → Type 0
IsSubscriptedEntry r n = IsOperand (record_of r n.side) (operand_in (record_of r n.side) n.entry)

-- others stand behind those that were asked for before, and are entries of the records
abbrev pub AsksMore : Records → List NamedEntry → List NamedEntry → Type 0
AsksMore r before now = (more : List NamedEntry) × AllByRecursion (IsSubscriptedEntry r) more × (now ≡ before ++ more)

-- a condition may be tested: the entries that it asks for are there, and those that are compared may be
abbrev pub IsTestable : Records → List NamedEntry → code.Condition → Type 0
IsTestable r asked c = MayBeTested (IsAsked asked) (kind_named r asked) c

-- a class may be asked of any kind, and a sign of a number
abbrev pub IsNumberForSign : Quality → Kind → Type 0
IsNumberForSign (quality.Class class) kind = Unit {0}
IsNumberForSign (quality.Sign order) kind = is_number_operand (EntryOf kind) ≡ true

-- a class or a sign of an entry that is there may be tested
abbrev pub MayAskQuality : Records → List NamedEntry → Quality → ℕ → Type 0
MayAskQuality r asked q number = IsAsked asked number × IsNumberForSign q (kind_named r asked number)

-- an answer is so, or memory was refused
abbrev pub IsOrMemory : {A : Type 0} → Result A MoveRule → (A → Type 0) → Type 0
IsOrMemory answer Is = IfOk answer Is × IfErr answer (λ r. r ≡ rule.Memory)

-- an entry that is asked for may be compared with this constant
abbrev pub MayBeListed : Records → List NamedEntry → ℕ → PlainValue → Type 0
MayBeListed r asked number v = IsAsked asked number × (may_compare (EntryOf (kind_named r asked number)) (LiteralOf v) ≡ true)

-- with the values of a span
abbrev pub MayBeSpanned : Records → List NamedEntry → ℕ → PlainSpan → Type 0
MayBeSpanned r asked number v = IsAsked asked number × MayBeWithinBy (EntryOf (kind_named r asked number)) (constants v)

-- and with those of several
abbrev pub MayBeValued : Records → List NamedEntry → ℕ → PlainSpan → List PlainSpan → Type 0
MayBeValued r asked number v more = IsAsked asked number × MayBeWithinAll (EntryOf (kind_named r asked number)) v more
