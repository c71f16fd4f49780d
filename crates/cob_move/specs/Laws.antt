-- What follows from the definitions, said as laws.
use Rattle.std.specs.Prelude.{◌≡◌, ◌↔◌, ℕ, List}
use Rattle.std.specs.List.{AllByRecursion}
use Rattle.cob_source.specs.Tokens.{Lexeme}
use Rattle.cob_source.specs.Words.{AreParagraphWordsOf}
use Rattle.cob_copybook_tree.specs.Forests.{Forest}
use Rattle.cob_copybook_tree.specs.Nodes.{Resolved}
use Rattle.cob_move_apply.specs.Applied.{Applied, Ending}
use Rattle.cob_move_data.specs.Moves.{Move, Records}
use Rattle.cob_move_loops.specs.Words.{IsOther}
use Rattle.cob_move_names.specs.Valued.{PlainConditionNames}
use Rattle.cob_move_statements.specs.declared.fault.MoveFault.{MoveFault}
use Rattle.cob_move_statements.specs.declared.fault.MoveRule.TheVariants.{Memory}
use Rattle.cob_move_deeds.specs.Deeds.{Carried, Deeds, Moving, Nothing}
use Rattle.cob_move_deeds.specs.Tests.{Judged, Test}
use Rattle.cob_move.specs.Paragraphs.{AreDone, IsLiteral, IsLiteralParagraphOf, IsParagraphOf, IsPlainParagraphOf, IsRefusalOf}

-- Law: a text does one thing between two records.
abbrev pub OneParagraph : Type 0
OneParagraph = (text : List ℕ) (input output : Forest Resolved) (names : PlainConditionNames) (a b : Deeds Test)
    → IsParagraphOf text input output names a → IsParagraphOf text input output names b → a ≡ b

-- Law: a text that is a paragraph between two records breaks no rule there; it is refused for want of memory alone.
abbrev pub ParagraphBreaksNoRule : Type 0
ParagraphBreaksNoRule = (text : List ℕ) (input output : Forest Resolved) (names : PlainConditionNames) (d : Deeds Test) (f : MoveFault)
    → IsParagraphOf text input output names d → IsRefusalOf f text input output names → f.rule ≡ Memory

-- Law: a text without words of loops does the moves that its statements mean, in their order.
abbrev pub PlainParagraph : Type 0
PlainParagraph = (text : List ℕ) (input output : Forest Resolved) (names : PlainConditionNames) (d : Deeds Test) (words : List Lexeme)
    → AreParagraphWordsOf text words → AllByRecursion IsOther words
    → (IsParagraphOf text input output names d ↔ ((ms : List Move) × IsPlainParagraphOf text input output ms × (d ≡ Moving ms Nothing)))

-- Law: a text whose loops all end by numbers does the moves that its statements mean once its loops are written out, in their order.
abbrev pub LiteralParagraph : Type 0
LiteralParagraph = (text : List ℕ) (input output : Forest Resolved) (names : PlainConditionNames)
    → ((ms : List Move) → IsLiteralParagraphOf text input output ms → (d : Deeds Test) × IsParagraphOf text input output names d × AreDone ms d)
    × ((d : Deeds Test) (p : IsParagraphOf text input output names d) → IsLiteral p.passage → (ms : List Move) × IsLiteralParagraphOf text input output ms × AreDone ms d)

-- Law: what is done without a test is what the moves make of a storage, in their order.
abbrev pub DoneIsApplied : Type 0
DoneIsApplied = (r : Records) (ms : List Move) (d : Deeds Test) (input before : List ℕ) (end : Ending) → AreDone ms d
    → (Carried (Judged r) r d input before end ↔ Applied r ms input before end)
