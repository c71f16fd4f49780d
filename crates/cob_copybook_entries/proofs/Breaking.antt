-- What a part of an entry breaks, the entry breaks.
use Rattle.std.proofs.Common.{◌≡◌, Option, Some, None, sym, subst, inl, inr, ◌⊎◌}
use Rattle.cob_copybook_clauses.specs.Written.{WrittenValue, WrittenOccurs, WrittenEntry}
use Rattle.cob_copybook_entry.specs.declared.fault.BookRule.{BookRule}
use Rattle.cob_copybook_entry.specs.declared.fault.BookRule.TheVariants as rule
use Rattle.cob_copybook_entries.specs.Books.{BreaksNumbers, BreaksTable, BreaksConstant, BreaksValue, BreaksEntry, IsNoName, count_name}
use Rattle.cob_copybook_entries.specs.Breaks.{IsTableFault, IsConstantFault, OfOption}

-- memory was refused, or the entry breaks the rule
abbrev pub IsFault : BookRule → WrittenEntry → Type 0
IsFault r w = (r ≡ rule.Memory) ⊎ BreaksEntry r w

as_fault : (r s : BookRule) (w : WrittenEntry) → r ≡ s → IsFault s w → IsFault r w
as_fault r s w e h = subst (λ (t : BookRule). IsFault t w) (sym e) h

-- what the table breaks
table_part : (r : BookRule) (t : WrittenOccurs) (w : WrittenEntry) → w.clauses.occurs ≡ Some t → IsTableFault r t → IsFault r w
table_part r t w e (inl m) = inl m
table_part r t w e (inr (inl g)) =
    as_fault r rule.Grammar w g.0 (inr (inr (inl (subst BreaksNumbers (sym e) g.1))))
table_part r t w e (inr (inr (inl b))) = as_fault r rule.Table w b.0 (inr (subst BreaksTable (sym e) b.1))
table_part r t w e (inr (inr (inr n))) =
    as_fault r rule.Name w n.0 (inr (inr (inr (subst (λ (o : Option WrittenOccurs). IsNoName (count_name o)) (sym e) n.1))))

pub table_breaks : (r : BookRule) (o : Option WrittenOccurs) (w : WrittenEntry) → w.clauses.occurs ≡ o → OfOption (IsTableFault r) o → IsFault r w
table_breaks r None w e h = absurd h
table_breaks r (Some t) w e h = table_part r t w e h

-- what the constant breaks
constant_part : (r : BookRule) (c : WrittenValue) (w : WrittenEntry) → w.clauses.value ≡ Some c → IsConstantFault r c → IsFault r w
constant_part r c w e (inl g) = as_fault r rule.Grammar w g.0 (inr (inr (inr (subst BreaksConstant (sym e) g.1))))
constant_part r c w e (inr v) = as_fault r rule.Value w v.0 (inr (subst BreaksValue (sym e) v.1))

pub constant_breaks : (r : BookRule) (o : Option WrittenValue) (w : WrittenEntry) → w.clauses.value ≡ o → OfOption (IsConstantFault r) o → IsFault r w
constant_breaks r None w e h = absurd h
constant_breaks r (Some c) w e h = constant_part r c w e h
