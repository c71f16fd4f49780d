-- What three texts mean, and why they are refused.
use Rattle.std.specs.Prelude.{◌≡◌, ◌+◌, ◌<◌, ℕ, List}
use Rattle.cob_codec.specs.declared.reading.Reading.{Reading}
use Rattle.cob_copybook_tree.specs.Forests.{Forest}
use Rattle.cob_copybook_tree.specs.Nodes.{Resolved}
use Rattle.cob_copybook.specs.declared.role.Role.{Role}
use Rattle.cob_copybook.specs.declared.role.Role.TheVariants.{In, Out}
use Rattle.cob_copybook.specs.Books.{IsBookOf, IsBookRefusal, IsMemory}
use Rattle.cob_copybook_conditions.specs.Names.{AreConditionNamesOf}
use Rattle.cob_copybook_entry.specs.declared.fault.BookFault.{BookFault}
use Rattle.cob_records.specs.declared.records.Form.{Form}
use Rattle.cob_records.specs.declared.records.Form.TheVariants.{Fixed, Variable, Blocked}
use Rattle.cob_convert_record.specs.Conversion.{Conversion, conversion_by, out_length}
use Rattle.cob_move.specs.Paragraphs.{IsParagraphOf, IsRefusalOf}
use Rattle.cob_move_names.specs.Valued.{PlainConditionNames}
use Rattle.cob_move_statements.specs.declared.fault.MoveFault.{MoveFault}
use Rattle.cob_move_statements.specs.declared.fault.MoveRule.{MoveRule}
use Rattle.cob_move_statements.specs.declared.fault.MoveRule.TheVariants as rule
use Rattle.cob_convert.specs.declared.fault.PrepareFault.{PrepareFault}
use Rattle.cob_convert.specs.declared.fault.PrepareFault.TheVariants.{InBook, OutBook, Moves, Block, Memory}

-- The copybooks have these condition-names.
pub record HaveConditionNames (in_book out_book : List ℕ) (names : PlainConditionNames) : Type 0 where
  pub input : AreConditionNamesOf in_book names.input
  pub output : AreConditionNamesOf out_book names.output

-- The texts say this conversion: the books describe its records and have condition-names, and the paragraph says what is done between them.
pub record Means (in_book out_book moves : List ℕ) (conversion : Conversion) : Type 0 where
  pub input : IsBookOf In in_book conversion.records.input
  pub output : IsBookOf Out out_book conversion.records.output
  pub names : PlainConditionNames
  pub named : HaveConditionNames in_book out_book names
  pub paragraph : IsParagraphOf moves conversion.records.input conversion.records.output names conversion.deeds

-- The texts say this conversion with its binary senders read so: they say one, and it is the same with the senders of its moves read so.
abbrev pub MeansBy : Reading → List ℕ → List ℕ → List ℕ → Conversion → Type 0
MeansBy reading in_book out_book moves conversion =
    (said : Conversion) × Means in_book out_book moves said × (conversion ≡ conversion_by reading said)

-- the text is a book
abbrev pub IsBook : Role → List ℕ → Type 0
IsBook role text = (t : Forest Resolved) × IsBookOf role text t

-- The copybook breaks the rule that is named. Want of memory is no rule of copybooks, and never told as one.
abbrev pub BreaksRule : Role → BookFault → List ℕ → Type 0
BreaksRule role f book = IsBookRefusal role f.rule f.line book × (IsMemory f.rule → ⊥)

-- the copybook of the input record is refused: it breaks a rule, or memory was refused
abbrev pub IsInRefusal : PrepareFault → List ℕ → Type 0
IsInRefusal (InBook f) book = BreaksRule In f book
IsInRefusal (OutBook f) book = ⊥
IsInRefusal (Moves f) book = ⊥
IsInRefusal (Block least) book = ⊥
IsInRefusal Memory book = Unit {0}

-- the copybook of the output record is refused
abbrev pub IsOutRefusal : PrepareFault → List ℕ → Type 0
IsOutRefusal (InBook f) book = ⊥
IsOutRefusal (OutBook f) book = BreaksRule Out f book
IsOutRefusal (Moves f) book = ⊥
IsOutRefusal (Block least) book = ⊥
IsOutRefusal Memory book = Unit {0}

-- the fault is refused memory, which is no rule of paragraphs
abbrev pub IsOfMemory : MoveRule → Type 0
IsOfMemory rule.Memory = Unit {0}
IsOfMemory _ = ⊥

-- The paragraph breaks the rule that is named, between records of these entries with these condition-names. Want of memory is never told as a rule.
abbrev pub BreaksMoveRule : MoveFault → List ℕ → Forest Resolved → Forest Resolved → PlainConditionNames → Type 0
BreaksMoveRule f moves input output names = IsRefusalOf f moves input output names × (IsOfMemory f.rule → ⊥)

-- the paragraph is refused
abbrev pub IsMovesRefusal : PrepareFault → List ℕ → Forest Resolved → Forest Resolved → PlainConditionNames → Type 0
IsMovesRefusal (InBook f) moves input output names = ⊥
IsMovesRefusal (OutBook f) moves input output names = ⊥
IsMovesRefusal (Moves f) moves input output names = BreaksMoveRule f moves input output names
IsMovesRefusal (Block least) moves input output names = ⊥
IsMovesRefusal Memory moves input output names = Unit {0}

-- what the refusal of a paragraph is for a converter, by its rule: a fault of the text stays one, and want of memory stays that
abbrev pub moves_refusal_by : MoveRule → MoveFault → PrepareFault
moves_refusal_by rule.Memory f = Memory
moves_refusal_by _ f = Moves f

-- what the refusal of a paragraph is for a converter
abbrev pub moves_refusal : MoveFault → PrepareFault
moves_refusal f = moves_refusal_by f.rule f

-- The blocks of this form are too short for the frame of a record of the greatest length, with which a block has the least size that will do: both
-- descriptors and the record.
abbrev pub IsTooShort : Form → (greatest least : ℕ) → Type 0
IsTooShort Fixed greatest least = ⊥
IsTooShort Variable greatest least = ⊥
IsTooShort (Blocked size) greatest least = (least ≡ 8 + greatest) × (size < least)

-- the blocks of the output are refused
abbrev pub IsBlockRefusal : PrepareFault → Form → ℕ → Type 0
IsBlockRefusal (InBook f) form greatest = ⊥
IsBlockRefusal (OutBook f) form greatest = ⊥
IsBlockRefusal (Moves f) form greatest = ⊥
IsBlockRefusal (Block least) form greatest = IsTooShort form greatest least
IsBlockRefusal Memory form greatest = ⊥

-- A refusal names the first of the texts that is refused: a book that breaks a rule, or between two books the paragraph; or, where the texts say a
-- conversion, the blocks of the output. Memory is no text's fault.
abbrev pub IsPrepareRefusal : Form → PrepareFault → List ℕ → List ℕ → List ℕ → Type 0
IsPrepareRefusal out_form (InBook f) in_book out_book moves = BreaksRule In f in_book
IsPrepareRefusal out_form (OutBook f) in_book out_book moves = IsBook In in_book × BreaksRule Out f out_book
IsPrepareRefusal out_form (Moves f) in_book out_book moves =
    (input : Forest Resolved) × (output : Forest Resolved) × (names : PlainConditionNames) × IsBookOf In in_book input × IsBookOf Out out_book output
    × HaveConditionNames in_book out_book names × BreaksMoveRule f moves input output names
IsPrepareRefusal out_form (Block least) in_book out_book moves =
    (conversion : Conversion) × Means in_book out_book moves conversion × IsTooShort out_form (out_length conversion) least
IsPrepareRefusal out_form Memory in_book out_book moves = Unit {0}
