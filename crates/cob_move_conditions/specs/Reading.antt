-- What the readers of conditions say of what they answer, and of the words that they leave.
use Rattle.std.specs.Prelude.{◌≡◌, ◌⊎◌, Bool, true, false, List, [], ◌∷◌, ◌++◌, Option, Some, None, IsSomeAnd, Result}
use denote.Ref.{Bor}
use Rattle.cob_source.specs.Tokens.{Lexeme, lexemes}
use Rattle.cob_source.specs.declared.token.Token.{Token}
use Rattle.cob_copybook_clauses.specs.declared.term.WordClass.{WordClass}
use Rattle.cob_copybook_clauses.specs.declared.term.WordClass.TheVariants as term
use Rattle.cob_copybook_clauses.specs.Terms.{word_class}
use Rattle.cob_copybook_clauses.specs.Reading.{Answers, EachCut, StandInFront}
use Rattle.cob_move_statements.specs.declared.parts.StatementSender.{StatementSender}
use Rattle.cob_move_statements.specs.Reading.{OkAnswers}
use Rattle.cob_move_statements.specs.declared.fault.MoveFault.{MoveFault}
use Rattle.cob_move_statements.specs.declared.fault.MoveRule.TheVariants as rule
use Rattle.cob_move_loops.specs.Words.{first_line}
use Rattle.cob_move_statements.specs.Written.{WrittenSender, written_sender}
use Rattle.cob_move_conditions.specs.declared.phrases.ConditionPhrase.{ConditionPhrase}
use Rattle.cob_move_conditions.specs.declared.phrases.TestPhrase.{TestPhrase}
use Rattle.cob_move_conditions.specs.declared.phrases.Quality.{Quality}
use Rattle.cob_move_conditions.specs.declared.relations.Relation.{Relation}
use Rattle.cob_move_conditions.specs.declared.words.ConditionWord.{ConditionWord}
use Rattle.cob_move_conditions.specs.declared.words.ConditionWord.TheVariants as word
use Rattle.cob_move_conditions.specs.Words.{condition_word}
use Rattle.cob_move_conditions.specs.Fronts.{NotConditionWordFirst}
use Rattle.cob_move_conditions.specs.Conditions.{IsWholeCondition, IsConditionBy, GoesBehind, Joining, Alone, ByNot, ByAnd, ByOr}
use Rattle.cob_move_conditions.specs.Written.{WrittenCondition, WrittenTest, Has, Relates, RelatesTo, StandsAlone, written_condition, written_test}

-- a reserved word that may stand behind an operand in a simple condition
abbrev pub goes_on_by_class : WordClass → Bool
goes_on_by_class term.Is = true
goes_on_by_class term.Of = true
goes_on_by_class term.OpenBracket = true
goes_on_by_class term.Zero = true
goes_on_by_class _ = false

-- a word of conditions that may
abbrev pub goes_on_by_word : Option ConditionWord → Bool
goes_on_by_word None = false
goes_on_by_word (Some word.And) = false
goes_on_by_word (Some word.Or) = false
goes_on_by_word (Some c) = true

-- what may follow a simple condition: nothing, or a word with which it doesn't go on
abbrev pub EndsTest : List Lexeme → Type 0
EndsTest [] = Unit {0}
EndsTest (w ∷ ws) = (goes_on_by_class (word_class w) ≡ false) × (goes_on_by_word (condition_word w) ≡ false)

-- what stands behind an operand is a class or a sign
abbrev pub QualifiedBehind : WrittenSender → WrittenTest → List Lexeme → Type 0
QualifiedBehind a (Has r opposite q) ws = GoesBehind a (Has r opposite q) ws
QualifiedBehind a (Relates b r c) ws = ⊥
QualifiedBehind a (RelatesTo r c) ws = ⊥
QualifiedBehind a (StandsAlone b) ws = ⊥

-- however the words are cut into a class or a sign of an operand and words behind it, a reader answers it, and leaves these
abbrev pub AnswersQuality : Option (TestPhrase × Bor (List Token)) → WrittenSender → List Lexeme → Type 0
AnswersQuality answer a words = (t : WrittenTest) (ws more : List Lexeme) → QualifiedBehind a t ws → words ≡ ws ++ more → Answers written_test answer t more

-- what may follow a condition that is joined so far: no AND and no OR that would join it
abbrev pub EndsCondition : Joining → List Lexeme → Type 0
EndsCondition Alone more = EndsTest more
EndsCondition ByNot more = EndsTest more
EndsCondition ByAnd more = EndsTest more × NotConditionWordFirst word.And more
EndsCondition ByOr more = EndsTest more × NotConditionWordFirst word.And more × NotConditionWordFirst word.Or more

-- a reader answers a relation and an operand, and leaves these words
abbrev pub AnswersRelated : Option (Relation × StatementSender × Bor (List Token)) → Relation → WrittenSender → List Lexeme → Type 0
AnswersRelated answer r s more = IsSomeAnd answer (λ a. (a.0 ≡ r) × (written_sender a.1 ≡ s) × (lexemes a.2.now ≡ more))

-- a reader answers whether NOT stands there, and a class or a sign, and leaves these words
abbrev pub AnswersQualified : Option (Bool × Quality × Bor (List Token)) → Bool → Quality → List Lexeme → Type 0
AnswersQualified answer opposite q more = IsSomeAnd answer (λ a. (a.0 ≡ opposite) × (a.1 ≡ q) × (lexemes a.2.now ≡ more))

-- a condition that is joined so far stands in front, before these words
abbrev pub ConditionInFront : Joining → ConditionPhrase → (words more : List Lexeme) → Type 0
ConditionInFront j c words more = StandInFront (IsConditionBy j (written_condition c)) words more

-- memory aside, a reader answers the condition that stands in front, however the words are cut
abbrev pub AnswersCondition : {E : Type 0} → Result (Option (ConditionPhrase × Bor (List Token))) E → Joining → List Lexeme → Type 0
AnswersCondition answer j words = (c : WrittenCondition) → EachCut (IsConditionBy j c) (EndsCondition j) words (OkAnswers written_condition answer c)

-- the fault is want of memory; or that words are no condition, on the line of the first
abbrev pub RefusesCondition : List Lexeme → MoveFault → Type 0
RefusesCondition words f =
    (f.rule ≡ rule.Memory)
    ⊎ ((f.rule ≡ rule.Grammar) × (f.line ≡ first_line words) × ((c : WrittenCondition) → IsWholeCondition c words → ⊥))
