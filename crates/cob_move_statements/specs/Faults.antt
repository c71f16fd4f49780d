-- What the fault of a text becomes as the fault of a paragraph.
use Rattle.std.specs.Prelude.{ℕ}
use Rattle.cob_source.specs.declared.fault.SourceRule.{SourceRule}
use Rattle.cob_source.specs.declared.fault.SourceRule.TheVariants as source
use Rattle.cob_source.specs.declared.fault.SourceFault.{SourceFault}
use Rattle.cob_move_statements.specs.declared.fault.MoveFault.{MoveFault}
use Rattle.cob_move_statements.specs.declared.fault.MoveRule.TheVariants as rule

-- refused memory stays refused memory, and has line 0; a rule of the reference format is told as such, on its line
abbrev pub paragraph_fault_by : SourceRule → ℕ → MoveFault
paragraph_fault_by source.Memory line = record { rule = rule.Memory; line = 0 }
paragraph_fault_by r line = record { rule = rule.Source r; line = line }

-- the fault of a text, as the fault of a paragraph
abbrev pub paragraph_fault : SourceFault → MoveFault
paragraph_fault f = paragraph_fault_by f.rule f.line
