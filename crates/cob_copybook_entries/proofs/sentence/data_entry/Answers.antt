use Rattle.std.proofs.Common.{inl, inr, sym, subst}
use Rattle.cob_copybook_clauses.specs.Written.{WrittenEntry}
use Rattle.cob_copybook_entries.specs.Meaning.{EntryMeans}
use Rattle.cob_copybook_entries.proofs.Qualifiers.{written_short}
use Rattle.cob_copybook_entries.proofs.sentence.data_entry.Goals as goal

pub returns-in_default-clause-only : goal.returns-in_default-clause-only
returns-in_default-clause-only c = λ d h. absurd (c.in_default.ensures.only h.written h.is)

pub returns-in_default-clause-fault : goal.returns-in_default-clause-fault
returns-in_default-clause-fault c = inr (inl c.in_default.ensures.only)

pub entry_of-requires : goal.entry_of-requires
entry_of-requires c = written_short _ _ c.in-Some.ensures.found

pub returns-clause-only : goal.returns-clause-only
returns-clause-only c = λ d h.
    let same = c.in-Some.ensures.only h.written h.is in
    c.entry_of.ensures.only d (subst (λ (w : WrittenEntry). EntryMeans w d) (sym same) h.means)
