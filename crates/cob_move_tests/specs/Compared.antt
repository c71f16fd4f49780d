-- What is compared, and what was stated last, as the code has them.
use Rattle.std.specs.Prelude.{◌≡◌, ◌<◌, List, length, Option, Some, None}
use Rattle.cob_copybook_entry.specs.Described.{plain_value}
use Rattle.cob_move_condition.specs.declared.condition.Comparand.{Comparand}
use Rattle.cob_move_condition.specs.declared.condition.Comparand.TheVariants as comparand
use Rattle.cob_move_condition.specs.Conditions.{Condition, condition_of}
use Rattle.cob_move_data.specs.Moves.{Literal, Records, Sender}
use Rattle.cob_move_receive.specs.Table.{SenderKind, Entry as EntryOf, Literal as LiteralOf}
use Rattle.cob_move_tests.specs.declared.entries.NamedEntry.{NamedEntry}
use Rattle.cob_move_tests.specs.declared.compared.Compared.{Compared}
use Rattle.cob_move_tests.specs.declared.compared.Compared.TheVariants as compared
use Rattle.cob_move_tests.specs.declared.compared.LastRelation.{LastRelation}
use Rattle.cob_move_tests.specs.declared.compared.ReadCondition.{ReadCondition}
use Rattle.cob_move_tests.specs.Asked.{IsTestable, kind_named, sender_named}
use Rattle.cob_move_tests.specs.Meant.{NoneStated, Stated, StatedAs}

-- the sender that is compared
abbrev pub sender_in : Records → List NamedEntry → Compared → Sender
sender_in r asked (compared.Entry number kind) = sender_named r asked number
sender_in r asked (compared.Constant value) = Literal (plain_value value)

-- what is known of it
abbrev pub kind_of_compared : Compared → SenderKind
kind_of_compared (compared.Entry number kind) = EntryOf kind
kind_of_compared (compared.Constant value) = LiteralOf (plain_value value)

-- it is among those that are asked for, and describes what it says
abbrev pub IsComparedThere : Records → List NamedEntry → Compared → Type 0
IsComparedThere r asked (compared.Entry number kind) = (number < length asked) × (kind ≡ kind_named r asked number)
IsComparedThere r asked (compared.Constant value) = Unit {0}

-- what conditions have in its place
abbrev pub IsComparandOf : Compared → Comparand → Type 0
IsComparandOf (compared.Entry number kind) (comparand.Entry other) = other ≡ number
IsComparandOf (compared.Constant value) (comparand.Constant other) = plain_value other ≡ plain_value value
IsComparandOf (compared.Entry number kind) (comparand.Constant other) = ⊥
IsComparandOf (compared.Constant value) (comparand.Entry other) = ⊥

-- what was stated last
abbrev pub stated_in : Records → List NamedEntry → Option LastRelation → Stated
stated_in r asked None = NoneStated
stated_in r asked (Some s) = StatedAs (sender_in r asked s.subject) s.relation

-- its subject is there
abbrev pub IsStatedThere : Records → List NamedEntry → Option LastRelation → Type 0
IsStatedThere r asked None = Unit {0}
IsStatedThere r asked (Some s) = IsComparedThere r asked s.subject

-- words were read as this: their condition and what they state are so, and the condition may be tested
pub record IsReadCondition (r : Records) (asked : List NamedEntry) (Is : Condition → Stated → Type 0) (m : ReadCondition) : Type 0 where
  pub is : Is (condition_of (sender_named r asked) m.condition) (stated_in r asked m.last)
  pub testable : IsTestable r asked m.condition
  pub there : IsStatedThere r asked m.last
