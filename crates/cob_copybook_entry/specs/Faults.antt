-- What the fault of a text becomes as the fault of a copybook.
use Rattle.std.specs.Prelude.{◌≡◌, ℕ, Result, IfOk, IfErr}
use Rattle.cob_source.specs.declared.fault.SourceRule.{SourceRule}
use Rattle.cob_source.specs.declared.fault.SourceRule.TheVariants as source
use Rattle.cob_source.specs.declared.fault.SourceFault.{SourceFault}
use Rattle.cob_copybook_entry.specs.declared.fault.BookFault.{BookFault}
use Rattle.cob_copybook_entry.specs.declared.fault.BookRule.{BookRule}
use Rattle.cob_copybook_entry.specs.declared.fault.BookRule.TheVariants as rule

-- refused memory stays refused memory, and has line 0; a rule of the reference format is told as such, on its line
abbrev pub from_source_by : SourceRule → ℕ → BookFault
from_source_by source.Memory line = record { rule = rule.Memory; line = 0 }
from_source_by r line = record { rule = rule.Source r; line = line }

-- the fault of a text, as the fault of a copybook
abbrev pub from_source : SourceFault → BookFault
from_source f = from_source_by f.rule f.line

-- The call answers so, memory aside: what it gives is so, and it refuses nothing but for want of memory.
abbrev pub MemoryAside : {A : Type 0} → (A → Type 0) → Result A BookFault → Type 0
MemoryAside P answer = IfOk answer P × IfErr answer (λ f. f.rule ≡ rule.Memory)

-- The same of a call whose fault is the rule alone.
abbrev pub MemoryAsideRule : {A : Type 0} → (A → Type 0) → Result A BookRule → Type 0
MemoryAsideRule P answer = IfOk answer P × IfErr answer (λ r. r ≡ rule.Memory)
