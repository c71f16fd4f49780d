-- What the readers of words say of what they answer, and of the words that they leave.
use Rattle.std.specs.Prelude.{◌≡◌, ◌≢◌, ℕ, true, List, [], ◌∷◌, ◌++◌, Option, Some, None, IsSomeAnd, option_map}
use denote.Ref.{Bor}
use Rattle.cob_source.specs.Tokens.{Lexeme, lexemes}
use Rattle.cob_source.specs.declared.token.Token.{Token}
use Rattle.cob_source.specs.declared.token.TokenKind.TheVariants as kind
use Rattle.cob_copybook_clauses.specs.declared.term.WordClass.{WordClass}
use Rattle.cob_copybook_clauses.specs.declared.term.WordClass.TheVariants as term
use Rattle.cob_copybook_clauses.specs.declared.parts.Clauses.{Clauses}
use Rattle.cob_copybook_clauses.specs.declared.parts.Count.{Count}
use Rattle.cob_copybook_clauses.specs.declared.parts.ValueClause.{ValueClause}
use Rattle.cob_copybook_clauses.specs.declared.clause.ClauseKind.{ClauseKind}
use Rattle.cob_copybook_clauses.specs.declared.clause.ClauseKind.TheVariants as clause_kind
use Rattle.cob_copybook_clauses.specs.declared.clause.WrittenClause.{WrittenClause}
use Rattle.cob_copybook_clauses.specs.declared.clause.WrittenClause.TheVariants as phrase
use Rattle.cob_copybook_clauses.specs.Terms.{word_class}
use Rattle.cob_copybook_clauses.specs.Written.{WrittenClauses, WrittenName, WrittenValue, written_clauses, written_name, written_occurs, written_value}
use Rattle.cob_copybook_clauses.specs.Clauses.{Clause, Redefines, Picture, Stored, Signed, Occurs, Value, Justified, Blank, SaysClause, AreNames, AreQualifiers, IsConstant, IsFree, IsLeast, IsNameWord, IsOptionalWord, IsVaried, IsWord}
use Rattle.cob_copybook_clauses.specs.Entries.{IsAbsent, put, starts_clause}

-- this word doesn't come first
abbrev pub NotFirstWord : WordClass → List Lexeme → Type 0
NotFirstWord t [] = Unit {0}
NotFirstWord t (w ∷ ws) = word_class w ≢ t

-- nothing is left, or a word that may begin a clause comes first
abbrev pub ClauseFirst : List Lexeme → Type 0
ClauseFirst [] = Unit {0}
ClauseFirst (w ∷ ws) = starts_clause (word_class w) ≡ true

-- the kind of a clause
abbrev pub clause_kind_of : Clause → ClauseKind
clause_kind_of (Redefines n) = clause_kind.Redefines
clause_kind_of (Picture p) = clause_kind.Picture
clause_kind_of (Stored u) = clause_kind.Usage
clause_kind_of (Signed s) = clause_kind.Sign
clause_kind_of (Occurs t) = clause_kind.Occurs
clause_kind_of (Value c) = clause_kind.Value
clause_kind_of Justified = clause_kind.Justified
clause_kind_of Blank = clause_kind.Blank

-- the kind of the clause that a word begins
abbrev pub kind_at : WordClass → Option ClauseKind
kind_at term.Redefines = Some clause_kind.Redefines
kind_at term.Picture = Some clause_kind.Picture
kind_at term.Usage = Some clause_kind.Usage
kind_at term.UsageName = Some clause_kind.Usage
kind_at term.Sign = Some clause_kind.Sign
kind_at term.Leading = Some clause_kind.Sign
kind_at term.Trailing = Some clause_kind.Sign
kind_at term.Occurs = Some clause_kind.Occurs
kind_at term.Value = Some clause_kind.Value
kind_at term.Justified = Some clause_kind.Justified
kind_at term.Blank = Some clause_kind.Blank
kind_at _ = None

-- a clause without where its texts lie in memory
abbrev pub clause_of : WrittenClause → Clause
clause_of (phrase.Redefines n) = Redefines n.now
clause_of (phrase.Picture p) = Picture p.now
clause_of (phrase.Usage u) = Stored u
clause_of (phrase.Sign s) = Signed s
clause_of (phrase.Occurs t) = Occurs (written_occurs t)
clause_of (phrase.Value c) = Value (written_value c)
clause_of phrase.Justified = Justified
clause_of phrase.Blank = Blank

-- words of a kind stand in front, before these
abbrev pub StandInFront : (List Lexeme → Type 0) → List Lexeme → List Lexeme → Type 0
StandInFront Says words more = (ws : List Lexeme) × Says ws × (words ≡ ws ++ more)

-- however the words are cut into words of a kind and words that may follow them, this is so of those that follow
abbrev pub EachCut : (List Lexeme → Type 0) → (List Lexeme → Type 0) → List Lexeme → (List Lexeme → Type 0) → Type 0
EachCut Says Follows words Holds = (ws more : List Lexeme) → Says ws → Follows more → words ≡ ws ++ more → Holds more

-- a reader answers what is seen as this, and leaves these words
abbrev pub Answers : {A V : Type 0} → (A → V) → Option (A × Bor (List Token)) → V → List Lexeme → Type 0
Answers view answer v more = IsSomeAnd answer (λ r. (view r.0 ≡ v) × (lexemes r.1.now ≡ more))

-- a reader answers this text, and leaves these words
abbrev pub AnswersText : Option (Bor (List ℕ) × Bor (List Token)) → List ℕ → List Lexeme → Type 0
AnswersText answer text more = IsSomeAnd answer (λ r. (r.0.now ≡ text) × (lexemes r.1.now ≡ more))

-- likewise, where the words that follow begin with neither of two words
abbrev pub EachCutNeither : (List Lexeme → Type 0) → WordClass → WordClass → List Lexeme → (List Lexeme → Type 0) → Type 0
EachCutNeither Says t u words Holds = (ws more : List Lexeme) → Says ws → NotFirstWord t more → NotFirstWord u more → words ≡ ws ++ more → Holds more

-- a reader leaves these words
abbrev pub Leaves : Option (Bor (List Token)) → List Lexeme → Type 0
Leaves answer more = IsSomeAnd answer (λ r. lexemes r.now ≡ more)

-- the clause stands at the front of the words, before these
abbrev pub Stands : Clause → List Lexeme → List Lexeme → Type 0
Stands c words more = StandInFront (SaysClause c) words more

-- where the clause stands in front, before nothing or another clause, a reader answers it, and leaves the words behind it
abbrev pub ReadsClause : Clause → List Lexeme → Option (WrittenClause × Bor (List Token)) → Type 0
ReadsClause c words answer = EachCut (SaysClause c) ClauseFirst words (Answers clause_of answer c)

-- the constant that these words are behind ALL stands in front, before these
abbrev pub RepeatedInFront : WrittenValue → List Lexeme → List Lexeme → Type 0
RepeatedInFront c words more = (all : Lexeme) → word_class all ≡ term.All → (ws : List Lexeme) × IsConstant c (all ∷ ws) × (words ≡ ws ++ more)

-- where it stands in front, a reader answers it, and leaves the words behind it
abbrev pub ReadsRepeated : WrittenValue → List Lexeme → Option (ValueClause × Bor (List Token)) → Type 0
ReadsRepeated c words answer = (all : Lexeme) (ws more : List Lexeme)
    → word_class all ≡ term.All → IsConstant c (all ∷ ws) → words ≡ ws ++ more → Answers written_value answer c more

-- where a word stands in front that isn't this one, a reader answers its text, and leaves the words behind it
abbrev pub ReadsOtherWord : WordClass → List Lexeme → Option (Bor (List ℕ) × Bor (List Token)) → Type 0
ReadsOtherWord t words answer = (text : List ℕ) (w : Lexeme) (more : List Lexeme)
    → IsWord text w → word_class w ≢ t → words ≡ w ∷ more → AnswersText answer text more

-- where qualifiers stand in front, and no further one behind them, a reader answers them, and leaves the words behind them
abbrev pub ReadsQualifiers : List Lexeme → Bor (List Token) × Bor (List Token) → Type 0
ReadsQualifiers words answer = (qs more : List Lexeme)
    → AreQualifiers qs → NotFirstWord term.Of more → words ≡ qs ++ more
    → (lexemes answer.0.now ≡ qs) × (lexemes answer.1.now ≡ more)

-- where a qualifier stands in front, OF or IN and a name, a reader leaves the words behind it
abbrev pub SkipsQualifier : List Lexeme → Option (Bor (List Token)) → Type 0
SkipsQualifier words answer = (of name : Lexeme) (more : List Lexeme) → word_class of ≡ term.Of → IsNameWord name → words ≡ of ∷ (name ∷ more) → Leaves answer more

-- ASCENDING or DESCENDING KEY IS and names stand in front, before these words
abbrev pub OrderInFront : List Lexeme → List Lexeme → Type 0
OrderInFront words more = (k : Lexeme) × (key is names : List Lexeme)
    × (word_class k ≡ term.Ordered) × IsOptionalWord term.Key key × IsOptionalWord term.Is is × AreNames names
    × (words ≡ k ∷ (key ++ (is ++ (names ++ more))))

-- where they stand in front, before words that don't begin with a name, a reader leaves these
abbrev pub SkipsOrder : List Lexeme → Option (Bor (List Token)) → Type 0
SkipsOrder words answer = (k : Lexeme) (key is names more : List Lexeme)
    → word_class k ≡ term.Ordered → IsOptionalWord term.Key key → IsOptionalWord term.Is is → AreNames names
    → NotFirstWord term.Plain more → words ≡ k ∷ (key ++ (is ++ (names ++ more))) → Leaves answer more

-- INDEXED BY and names stand in front, before these words
abbrev pub IndexesInFront : List Lexeme → List Lexeme → Type 0
IndexesInFront words more = (k : Lexeme) × (by names : List Lexeme)
    × (word_class k ≡ term.Indexed) × IsOptionalWord term.By by × AreNames names × (words ≡ k ∷ (by ++ (names ++ more)))

-- where they stand in front, before words that don't begin with a name, a reader leaves these
abbrev pub SkipsIndexes : List Lexeme → Option (Bor (List Token)) → Type 0
SkipsIndexes words answer = (k : Lexeme) (by names more : List Lexeme)
    → word_class k ≡ term.Indexed → IsOptionalWord term.By by → AreNames names
    → NotFirstWord term.Plain more → words ≡ k ∷ (by ++ (names ++ more)) → Leaves answer more

-- the word before TO, or none, and the word behind it stand in front, before these words
abbrev pub LimitsInFront : Option (List ℕ) → List ℕ → List Lexeme → List Lexeme → Type 0
LimitsInFront a b words more = (least : List Lexeme) × (most : Lexeme) × IsLeast a least × IsFree b most × (words ≡ least ++ most ∷ more)

-- where they stand in front, before words that don't begin with TO, a reader answers both, and leaves these
abbrev pub ReadsLimits : Option (List ℕ) → List ℕ → List Lexeme → Option (Option (Bor (List ℕ)) × Bor (List ℕ) × Bor (List Token)) → Type 0
ReadsLimits a b words answer = (least : List Lexeme) (most : Lexeme) (more : List Lexeme)
    → IsLeast a least → IsFree b most → NotFirstWord term.To more → words ≡ least ++ most ∷ more
    → IsSomeAnd answer (λ r. (option_map (λ t. t.now) r.0 ≡ a) × (r.1.now ≡ b) × (lexemes r.2.now ≡ more))

-- the count of a table that varies stands in front, or none where none is due, before these words
abbrev pub VariedInFront : Option WrittenName → Option (List ℕ) → List Lexeme → List Lexeme → Type 0
VariedInFront count least words more = StandInFront (IsVaried count least) words more

-- where the count of a table that varies stands in front, or none is due, a reader answers it, and leaves the words behind it
abbrev pub ReadsVaried : Option WrittenName → Option (List ℕ) → List Lexeme → Option (Option Count × Bor (List Token)) → Type 0
ReadsVaried count least words answer = EachCutNeither (IsVaried count least) term.Depending term.Of words (Answers (option_map written_name) answer count)

-- clauses that lacked this one, with it
abbrev pub HasPut : Clause → WrittenClauses → WrittenClauses → Type 0
HasPut c f g = IsAbsent c f × (g ≡ put c f)

-- clauses that lack this one are answered with it
abbrev pub PutsClause : Clause → WrittenClauses → Option Clauses → Type 0
PutsClause c f answer = IsAbsent c f → IsSomeAnd answer (λ g. written_clauses g ≡ put c f)

-- nothing is left, or a Stop comes first
abbrev pub StopFirst : List Lexeme → Type 0
StopFirst [] = Unit {0}
StopFirst (w ∷ ws) = w.kind ≡ kind.Stop
