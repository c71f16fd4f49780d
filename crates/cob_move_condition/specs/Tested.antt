-- Conditions whose operands are there and may be compared.
use Rattle.std.specs.Prelude.{◌≡◌, ℕ, true}
use Rattle.cob_copybook_entry.specs.Described.{plain_value}
use Rattle.cob_copybook_tree.specs.declared.node.Kind.{Kind}
use Rattle.cob_move_receive.specs.Table.{SenderKind, Entry, Literal}
use Rattle.cob_move_condition.specs.declared.condition.Comparand.{Comparand}
use Rattle.cob_move_condition.specs.declared.condition.Comparand.TheVariants as comparand
use Rattle.cob_move_condition.specs.declared.condition.Condition.{Condition}
use Rattle.cob_move_condition.specs.declared.condition.Condition.TheVariants.{Always, Compares, HasClass, Not', Both', Either'}
use Rattle.cob_move_condition.specs.Comparable.{may_compare}

-- what is known of what is compared, where the entry with each number describes this
abbrev pub kind_compared : (ℕ → Kind) → Comparand → SenderKind
kind_compared kind (comparand.Entry number) = Entry (kind number)
kind_compared kind (comparand.Constant value) = Literal (plain_value value)

-- what is compared is there
abbrev pub IsComparandThere : (ℕ → Type 0) → Comparand → Type 0
IsComparandThere there (comparand.Entry number) = there number
IsComparandThere there (comparand.Constant value) = Unit {0}

-- two operands are there and may be compared
abbrev pub MayBeCompared : (ℕ → Type 0) → (ℕ → Kind) → Comparand → Comparand → Type 0
MayBeCompared there kind a b = IsComparandThere there a × IsComparandThere there b × (may_compare (kind_compared kind a) (kind_compared kind b) ≡ true)

-- A condition may be tested: each of its operands is there, and those that are compared may be.
abbrev pub MayBeTested : (ℕ → Type 0) → (ℕ → Kind) → Condition → Type 0
MayBeTested there kind Always = Unit {0}
MayBeTested there kind (Compares a relation b) = MayBeCompared there kind a b
MayBeTested there kind (HasClass number class) = there number
MayBeTested there kind (Not' q c) = MayBeTested there kind c
MayBeTested there kind (Both' p c q d) = MayBeTested there kind c × MayBeTested there kind d
MayBeTested there kind (Either' p c q d) = MayBeTested there kind c × MayBeTested there kind d
