-- Refusals of texts, one after another.
use Rattle.std.proofs.Common.{◌≡◌, ℕ, List, ap, arith, inl, refl, subst, sym}
use Rattle.cob_copybook_tree.specs.Forests.{Forest}
use Rattle.cob_copybook_tree.specs.Nodes.{Resolved}
use Rattle.cob_copybook.specs.Books.{IsBookOf, IsBookRefusal, IsMemory}
use Rattle.cob_copybook.specs.declared.role.Role.{Role}
use Rattle.cob_copybook.specs.declared.role.Role.TheVariants.{In, Out}
use Rattle.cob_copybook_conditions.specs.Names.{PlainConditionName}
use Rattle.cob_copybook_conditions.specs.Refusals.{IsNamesRefusal}
use Rattle.cob_copybook_entry.specs.declared.fault.BookRule.{BookRule}
use Rattle.cob_copybook_entry.specs.declared.fault.BookRule.TheVariants as book
use Rattle.cob_move_deeds.specs.Deeds.{Deeds}
use Rattle.cob_move_deeds.specs.Tests.{Test}
use Rattle.cob_move.specs.Paragraphs.{IsParagraphOf, IsRefusalOf}
use Rattle.cob_move_names.specs.Valued.{PlainConditionNames}
use Rattle.cob_move_statements.specs.declared.fault.MoveFault.{MoveFault}
use Rattle.cob_move_statements.specs.declared.fault.MoveRule.{MoveRule}
use Rattle.cob_move_statements.specs.declared.fault.MoveRule.TheVariants as rule
use Rattle.cob_convert.specs.declared.fault.PrepareFault.{PrepareFault}
use Rattle.cob_convert.specs.declared.fault.PrepareFault.TheVariants.{InBook, OutBook, Moves, Block, Memory}
use Rattle.cob_records.specs.declared.records.Form.{Form}
use Rattle.cob_records.specs.declared.records.Form.TheVariants.{Fixed, Variable, Blocked}
use Rattle.cob_records.specs.Forms.{FitsForm}
use Rattle.cob_convert_record.specs.Conversion.{Conversion, out_length}
use Rattle.cob_convert.specs.Means.{HaveConditionNames, IsBlockRefusal, IsBook, IsInRefusal, IsOutRefusal, IsMovesRefusal, IsPrepareRefusal, IsTooShort, Means, moves_refusal, moves_refusal_by}

-- a refusal of the first copybook
pub in_refused : (form : Form) (f : PrepareFault) (in_book out_book moves : List ℕ) → IsInRefusal f in_book → IsPrepareRefusal form f in_book out_book moves
in_refused form (InBook f) in_book out_book moves refused = refused
in_refused form (OutBook f) in_book out_book moves refused = absurd refused
in_refused form (Moves f) in_book out_book moves refused = absurd refused
in_refused form (Block least) in_book out_book moves refused = absurd refused
in_refused form Memory in_book out_book moves refused = tt

-- a refusal of the second copybook, where the first is a book
pub out_refused : (form : Form) (f : PrepareFault) (in_book out_book moves : List ℕ) → IsBook In in_book → IsOutRefusal f out_book
    → IsPrepareRefusal form f in_book out_book moves
out_refused form (InBook f) in_book out_book moves is refused = absurd refused
out_refused form (OutBook f) in_book out_book moves is refused = (is, refused)
out_refused form (Moves f) in_book out_book moves is refused = absurd refused
out_refused form (Block least) in_book out_book moves is refused = absurd refused
out_refused form Memory in_book out_book moves is refused = tt

-- a refusal of the paragraph, where both copybooks are books
pub moves_refused : (form : Form) (f : PrepareFault) (in_book out_book moves : List ℕ) (input output : Forest Resolved) (names : PlainConditionNames)
    → IsBookOf In in_book input → IsBookOf Out out_book output → HaveConditionNames in_book out_book names → IsMovesRefusal f moves input output names → IsPrepareRefusal form f in_book out_book moves
moves_refused form (InBook f) in_book out_book moves input output names from to named refused = absurd refused
moves_refused form (OutBook f) in_book out_book moves input output names from to named refused = absurd refused
moves_refused form (Moves f) in_book out_book moves input output names from to named refused = (input, output, names, from, to, named, refused)
moves_refused form (Block least) in_book out_book moves input output names from to named refused = absurd refused
moves_refused form Memory in_book out_book moves input output names from to named refused = tt

-- a refusal of blocks, where the texts say a conversion
pub block_refused : (form : Form) (f : PrepareFault) (greatest : ℕ) (in_book out_book moves : List ℕ) (conversion : Conversion) → Means in_book out_book moves conversion
    → greatest ≡ out_length conversion → IsBlockRefusal f form greatest → IsPrepareRefusal form f in_book out_book moves
block_refused form (InBook f) greatest in_book out_book moves conversion means is refused = absurd refused
block_refused form (OutBook f) greatest in_book out_book moves conversion means is refused = absurd refused
block_refused form (Moves f) greatest in_book out_book moves conversion means is refused = absurd refused
block_refused form (Block least) greatest in_book out_book moves conversion means is refused =
    (conversion, means, subst (λ (n : ℕ). IsTooShort form n least) is refused)
block_refused form Memory greatest in_book out_book moves conversion means is refused = absurd refused

too_short : (form : Form) (greatest least : ℕ) → FitsForm form greatest → IsTooShort form greatest least → ⊥
too_short Fixed greatest least fits short = short
too_short Variable greatest least fits short = short
too_short (Blocked size) greatest least fits (is, less) = omega (arith, fits, is, less)

-- blocks that have room are not refused
pub block_refused_not : (form : Form) (f : PrepareFault) (greatest : ℕ) → FitsForm form greatest → IsBlockRefusal f form greatest → ⊥
block_refused_not form (InBook f) greatest fits refused = refused
block_refused_not form (OutBook f) greatest fits refused = refused
block_refused_not form (Moves f) greatest fits refused = refused
block_refused_not form (Block least) greatest fits refused = too_short form greatest least fits refused
block_refused_not form Memory greatest fits refused = refused

refused_by : (r : MoveRule) (f : MoveFault) (moves : List ℕ) (input output : Forest Resolved) (names : PlainConditionNames) → f.rule ≡ r → IsRefusalOf f moves input output names
    → IsMovesRefusal (moves_refusal_by r f) moves input output names
refused_by rule.Memory f moves input output names is refused = tt
refused_by _ f moves input output names is refused = (refused, λ of. rw is at of)

-- what the refusal of a paragraph becomes
pub paragraph_refused : (f : MoveFault) (moves : List ℕ) (input output : Forest Resolved) (names : PlainConditionNames) → IsRefusalOf f moves input output names
    → IsMovesRefusal (moves_refusal f) moves input output names
paragraph_refused f moves input output names refused = refused_by f.rule f moves input output names refl refused

-- refused memory stays refused memory
pub refused_memory : (f : MoveFault) → f.rule ≡ rule.Memory → moves_refusal f ≡ Memory
refused_memory f is = ap (λ (r : MoveRule). moves_refusal_by r f) is

-- a paragraph between two records is one between the same records
pub paragraph_too : (moves : List ℕ) (input output a b : Forest Resolved) (names : PlainConditionNames) (d : Deeds Test) → input ≡ a → output ≡ b → IsParagraphOf moves a b names d
    → IsParagraphOf moves input output names d
paragraph_too moves input output a b names d p q h = rw (p, q) h

-- and what refuses it between them refuses it between the same
pub refusal_too : (f : MoveFault) (moves : List ℕ) (a b input output : Forest Resolved) (names : PlainConditionNames) → a ≡ input → b ≡ output → IsRefusalOf f moves a b names
    → IsRefusalOf f moves input output names
refusal_too f moves a b input output names p q h = rw (sym p, sym q) h

-- ---- condition-names

-- what refuses the condition-names of a text refuses the text
pub names_refused : (role : Role) (r : BookRule) (line : ℕ) (text : List ℕ) → IsNamesRefusal r line text → IsBookRefusal role r line text
names_refused role (book.Source r) line text h = inl h
names_refused role book.Memory line text h = inl h
names_refused role r line text h = inl h

-- a rule that is want of memory is
pub memory_of : (r : BookRule) → r ≡ book.Memory → IsMemory r
memory_of r is = subst IsMemory (sym is) tt

-- a paragraph where the copybooks have these condition-names is one where they are those
pub paragraph_named : (moves : List ℕ) (input output : Forest Resolved) (a b : PlainConditionNames) (d : Deeds Test) → a.input ≡ b.input → a.output ≡ b.output → IsParagraphOf moves input output b d → IsParagraphOf moves input output a d
paragraph_named moves input output a b d p q h =
    subst (λ (ns : List PlainConditionName). IsParagraphOf moves input output (record { input = ns; output = a.output }) d) (sym p)
    (subst (λ (ns : List PlainConditionName). IsParagraphOf moves input output (record { input = b.input; output = ns }) d) (sym q) h)
