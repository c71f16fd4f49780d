-- What a written condition means: the condition on the operands that its references name, with what abbreviations leave out.
use Rattle.std.specs.Prelude.{◌≡◌, ◌<◌, Bool, true, false, List, [], ◌∷◌, length}
use Rattle.cob_codec.specs.declared.reading.Reading.TheVariants.{Pictured}
use Rattle.cob_copybook_clauses.specs.Written.{Figure as FigureWord, Quoted as QuotedText, Repeated as RepeatedText, Word, WrittenValue}
use Rattle.cob_copybook_entry.specs.declared.kinds.Figurative.TheVariants.{Zero}
use Rattle.cob_copybook_entry.specs.Described.{Figure}
use Rattle.cob_copybook_names.specs.Naming.{Bearer}
use Rattle.cob_move_condition.specs.Comparable.{may_compare}
use Rattle.cob_move_condition.specs.Conditions.{Both, Compares, Condition, Either, HasClass, Not}
use Rattle.cob_move_conditions.specs.declared.phrases.Quality.{Quality}
use Rattle.cob_move_conditions.specs.declared.phrases.Quality.TheVariants as quality
use Rattle.cob_move_conditions.specs.declared.relations.Relation.{Relation}
use Rattle.cob_move_conditions.specs.Conditions.{IsWholeCondition}
use Rattle.cob_move_conditions.specs.Written.{BehindNot, Has, InBrackets, Relates, RelatesTo, Simple, StandsAlone, WithAnd, WithOr, WrittenCondition, WrittenTest}
use Rattle.cob_move_data.specs.declared.operands.Operand.{Operand}
use Rattle.cob_move_data.specs.declared.operands.Side.{Side}
use Rattle.cob_move_data.specs.Moves.{Entry, Literal, Records, Sender, record_of}
use Rattle.cob_move_names.specs.Candidates.{Candidate, all_entries}
use Rattle.cob_move_names.specs.References.{NamesOperand}
use Rattle.cob_move_names.specs.Senders.{IsSenderOf, kind_of_sender}
use Rattle.cob_move_names.specs.Valued.{ValuedEntry}
use Rattle.cob_move_names.specs.Values.{NamesValues, ValuedOperand, conditions_of}
use Rattle.cob_move_statements.specs.Written.{SentConstant, SentReference, WrittenReference, WrittenSender}
use Rattle.cob_source.specs.Tokens.{Lexeme}
use Rattle.cob_move_tests.specs.Qualities.{may_have}
use Rattle.cob_move_tests.specs.Spans.{MayHold, holds}

-- ---- parts

-- the condition, or that it doesn't hold
abbrev pub opposite_if : Bool → Condition → Condition
opposite_if false c = c
opposite_if true c = Not c

-- a relation of two senders
abbrev pub related : Sender → Relation → Sender → Condition
related a r b = opposite_if r.opposite (Compares a r.order b)

-- a constant is no quoted literal without a character
abbrev pub IsNotEmpty : WrittenValue → Type 0
IsNotEmpty (Word text) = Unit {0}
IsNotEmpty (QuotedText text) = 0 < length text
IsNotEmpty (FigureWord f) = Unit {0}
IsNotEmpty (RepeatedText text) = Unit {0}

-- what is compared is none
abbrev pub IsNoEmptyLiteral : WrittenSender → Type 0
IsNoEmptyLiteral (SentReference r) = Unit {0}
IsNoEmptyLiteral (SentConstant w) = IsNotEmpty w

-- what is compared means this sender
abbrev pub IsOperandOf : List Candidate → WrittenSender → Sender → Type 0
IsOperandOf all w s = IsSenderOf all w s × IsNoEmptyLiteral w

-- a sender, a relation and what stands behind it mean this: the two may be compared
abbrev pub IsRelationOf : List Candidate → Sender → Relation → WrittenSender → Condition → Type 0
IsRelationOf all a r w c = (b : Sender) × IsOperandOf all w b × (may_compare (kind_of_sender a) (kind_of_sender b) ≡ true) × (c ≡ related a r b)

-- a class that is asked of a sender, or a sign, which is its order beside ZERO
abbrev pub quality_asked : Quality → Sender → Condition
quality_asked (quality.Class class) s = HasClass s class
quality_asked (quality.Sign order) s = Compares s order (Literal (Figure Zero))

-- a class or a sign of an operand means this: it may be asked of it
abbrev pub IsQualityOf : Records → Quality → Bool → Side → Operand → Condition → Type 0
IsQualityOf r q opposite side o c = (may_have (record_of r side) q o ≡ true) × (c ≡ opposite_if opposite (quality_asked q (Entry side Pictured o)))

-- what is asked of the operand that a reference names
abbrev pub HasQuality : List Candidate → Records → WrittenReference → Bool → Quality → Condition → Type 0
HasQuality all r w opposite q c = (side : Side) × (o : Operand) × NamesOperand all w side o × IsQualityOf r q opposite side o c

-- ---- abbreviations

-- The subject and the relation that were stated last: a relation that follows may leave out the one or both.
pub data Stated : Type 0 where
  NoneStated : Stated
  StatedAs : Sender → Relation → Stated

-- a sender, a relation and what stands behind it mean this, and state the sender and the relation
abbrev pub StatesRelation : List Candidate → Sender → Relation → WrittenSender → Condition → Stated → Type 0
StatesRelation all a r w c next = IsRelationOf all a r w c × (next ≡ StatedAs a r)

-- a relation whose subject is left out means that of the subject stated last
abbrev pub IsRelationBehind : List Candidate → Relation → WrittenSender → Stated → Condition → Stated → Type 0
IsRelationBehind all r w NoneStated c next = ⊥
IsRelationBehind all r w (StatedAs a last) c next = StatesRelation all a r w c next

-- an operand alone that names no condition means the relation stated last to it
abbrev pub IsLastRelation : List Candidate → WrittenSender → Stated → Condition → Stated → Type 0
IsLastRelation all w NoneStated c next = ⊥
IsLastRelation all w (StatedAs a r) c next = StatesRelation all a r w c next

-- what stands alone names these conditions; a constant names none
abbrev pub conditions_named : List (Bearer ValuedEntry) → WrittenSender → List (Bearer ValuedEntry)
conditions_named values (SentReference w) = conditions_of values w
conditions_named values (SentConstant v) = []

-- it names a condition of this item with these values
abbrev pub NamesCondition : List Candidate → List (Bearer ValuedEntry) → WrittenSender → ValuedOperand → Type 0
NamesCondition all values (SentReference w) v = NamesValues all values w v
NamesCondition all values (SentConstant w) v = ⊥

-- the name of a condition means that its item is one of its values: it may be compared with them
abbrev pub IsNameOf : List Candidate → List (Bearer ValuedEntry) → WrittenSender → Condition → Type 0
IsNameOf all values w c = (v : ValuedOperand) × NamesCondition all values w v × MayHold v × (c ≡ holds v)

-- An operand alone, which names these conditions: where it names none, it means the relation stated last to it, and else the condition that it names, whatever was
-- stated; and behind that nothing is.
abbrev pub IsAlone : List (Bearer ValuedEntry) → List Candidate → List (Bearer ValuedEntry) → WrittenSender → Stated → Condition → Stated → Type 0
IsAlone [] all values w s c next = IsLastRelation all w s c next
IsAlone (b ∷ bs) all values w s c next = IsNameOf all values w c × (next ≡ NoneStated)

-- the same, of the conditions that it names
abbrev pub IsOperandBehind : List Candidate → List (Bearer ValuedEntry) → WrittenSender → Stated → Condition → Stated → Type 0
IsOperandBehind all values w s c next = IsAlone (conditions_named values w) all values w s c next

-- A simple condition means this behind what was stated, and states that: a relation its own subject and relation, a class or a sign nothing.
abbrev pub IsTestOf : List Candidate → List (Bearer ValuedEntry) → Records → WrittenTest → Stated → Condition → Stated → Type 0
IsTestOf all values records (Relates w r v) s c next = (a : Sender) × IsOperandOf all w a × StatesRelation all a r v c next
IsTestOf all values records (RelatesTo r v) s c next = IsRelationBehind all r v s c next
IsTestOf all values records (StandsAlone v) s c next = IsOperandBehind all values v s c next
IsTestOf all values records (Has w opposite q) s c next = HasQuality all records w opposite q c × (next ≡ NoneStated)

-- ---- conditions

-- A written condition means this behind what was stated, and states that: what stands in brackets stands for itself.
abbrev pub IsMeantBy : List Candidate → List (Bearer ValuedEntry) → Records → WrittenCondition → Stated → Condition → Stated → Type 0
IsMeantBy all values r (Simple t) s c next = IsTestOf all values r t s c next
IsMeantBy all values r (InBrackets d) s c next = (last : Stated) × IsMeantBy all values r d NoneStated c last × (next ≡ NoneStated)
IsMeantBy all values r (BehindNot d) s c next = (x : Condition) × IsMeantBy all values r d s x next × (c ≡ Not x)
IsMeantBy all values r (WithAnd d e) s c next = (x y : Condition) × (mid : Stated) × IsMeantBy all values r d s x mid × IsMeantBy all values r e mid y next × (c ≡ Both x y)
IsMeantBy all values r (WithOr d e) s c next = (x y : Condition) × (mid : Stated) × IsMeantBy all values r d s x mid × IsMeantBy all values r e mid y next × (c ≡ Either x y)

-- words are a condition between two records, which have these condition-names, and mean this
pub record IsConditionOf (r : Records) (values : List (Bearer ValuedEntry)) (ws : List Lexeme) (c : Condition) : Type 0 where
  pub written : WrittenCondition
  pub last : Stated
  pub spelled : IsWholeCondition written ws
  pub meant : IsMeantBy (all_entries r.input r.output) values r written NoneStated c last
