-- The words of an entry, and how a text's words are cut into entries.
use Rattle.std.specs.Prelude.{◌≡◌, ◌≢◌, ◌⊎◌, ℕ, Bool, true, false, not, ◌&&◌, if◌then◌else◌, bytes_eq, List, [], ◌∷◌, ◌++◌, take, codes, Option, Some, None}
use Rattle.std.specs.List.{AllByRecursion}
use Rattle.cob_source.specs.Tokens.{Lexeme}
use Rattle.cob_source.specs.declared.token.TokenKind.{TokenKind}
use Rattle.cob_source.specs.declared.token.TokenKind.TheVariants as kind
use Rattle.cob_copybook_clauses.specs.declared.term.WordClass.{WordClass}
use Rattle.cob_copybook_clauses.specs.declared.term.WordClass.TheVariants as term
use Rattle.cob_copybook_clauses.specs.Terms.{word_class}
use Rattle.cob_copybook_clauses.specs.Written.{WrittenClauses, WrittenEntry}
use Rattle.cob_copybook_clauses.specs.Clauses.{Clause, Redefines, Picture, Stored, Signed, Occurs, Value, Justified, Blank, SaysClause, IsWord}

-- no clause yet
abbrev pub bare : WrittenClauses
bare = record { redefines = None; picture = None; usage = None; sign = None; occurs = None; value = None; justified = false; blank = false }

-- the clause isn't there yet
abbrev pub IsAbsent : Clause → WrittenClauses → Type 0
IsAbsent (Redefines n) f = f.redefines ≡ None
IsAbsent (Picture p) f = f.picture ≡ None
IsAbsent (Stored u) f = f.usage ≡ None
IsAbsent (Signed s) f = f.sign ≡ None
IsAbsent (Occurs t) f = f.occurs ≡ None
IsAbsent (Value c) f = f.value ≡ None
IsAbsent Justified f = f.justified ≡ false
IsAbsent Blank f = f.blank ≡ false

-- the clauses with this one
abbrev pub put : Clause → WrittenClauses → WrittenClauses
put (Redefines n) f = record f { redefines = Some n }
put (Picture p) f = record f { picture = Some p }
put (Stored u) f = record f { usage = Some u }
put (Signed s) f = record f { sign = Some s }
put (Occurs t) f = record f { occurs = Some t }
put (Value c) f = record f { value = Some c }
put Justified f = record f { justified = true }
put Blank f = record f { blank = true }

-- the words say, beyond the first clauses, what makes them the last: clauses in any order, each at most once
pub data SaysClauses : List Lexeme → WrittenClauses → WrittenClauses → Type 0 where
  End : {ws : List Lexeme} {f g : WrittenClauses} → ws ≡ [] → f ≡ g → SaysClauses ws f g
  Then : {ws more : List Lexeme} {f g : WrittenClauses} (c : Clause) (words : List Lexeme) → SaysClause c words → ws ≡ words ++ more → IsAbsent c f → SaysClauses more (put c f) g → SaysClauses ws f g

-- a word that may begin a clause
abbrev pub starts_clause : WordClass → Bool
starts_clause term.Redefines = true
starts_clause term.Picture = true
starts_clause term.Usage = true
starts_clause term.UsageName = true
starts_clause term.Sign = true
starts_clause term.Leading = true
starts_clause term.Trailing = true
starts_clause term.Occurs = true
starts_clause term.Value = true
starts_clause term.Justified = true
starts_clause term.Blank = true
starts_clause _ = false

-- what names an entry: nothing or FILLER, or a word that begins no clause
abbrev pub NamesEntry : Option (List ℕ) → List Lexeme → Type 0
NamesEntry None [] = Unit {0}
NamesEntry None (w ∷ []) = word_class w ≡ term.Filler
NamesEntry (Some n) (w ∷ []) = IsWord n w × (word_class w ≢ term.Filler) × (starts_clause (word_class w) ≡ false)
NamesEntry name ws = ⊥

-- the words, up to the Stop, are this entry
pub record IsWritten (ws : List Lexeme) (e : WrittenEntry) : Type 0 where
  pub level : Lexeme
  pub names : List Lexeme
  pub more : List Lexeme
  pub level_is : IsWord e.level level
  pub named : NamesEntry e.name names
  pub says : SaysClauses more bare e.clauses
  pub words : ws ≡ level ∷ (names ++ more)

-- the words, up to the Stop, are those of a level 88 entry: it names a value, and what stands behind VALUE isn't looked at
pub record IsCondition (ws : List Lexeme) (name : List ℕ) : Type 0 where
  pub level : Lexeme
  pub named : Lexeme
  pub value : Lexeme
  pub more : List Lexeme
  pub level_is : IsWord (codes "88") level
  pub name_is : IsWord name named
  pub value_is : word_class value ≡ term.Value
  pub words : ws ≡ level ∷ (named ∷ (value ∷ more))

-- whether it is a word, and no literal and no Stop
abbrev pub is_word_kind : TokenKind → Bool
is_word_kind kind.Word = true
is_word_kind kind.Literal = false
is_word_kind kind.Stop = false

-- whether the first word is 88
abbrev pub is_condition : List Lexeme → Bool
is_condition [] = false
is_condition (w ∷ ws) = is_word_kind w.kind && bytes_eq w.text (codes "88")

-- the words of an entry that are looked at: of a level 88 entry those to VALUE
abbrev pub looked_at : List Lexeme → List Lexeme
looked_at ws = if is_condition ws then take 3 ws else ws

-- the level of an entry that is left out by name: 66, 77 or 78
abbrev pub IsLeftOutLevel : List ℕ → List Lexeme → Type 0
IsLeftOutLevel text [] = ⊥
IsLeftOutLevel text (w ∷ ws) = (w.kind ≡ kind.Word) × (w.text ≡ text) × ((text ≡ codes "66") ⊎ ((text ≡ codes "77") ⊎ (text ≡ codes "78")))

-- the word CONSTANT comes first
abbrev pub is_constant_first : List Lexeme → Bool
is_constant_first [] = false
is_constant_first (w ∷ ws) = is_word_kind w.kind && bytes_eq w.text (codes "CONSTANT")

-- the word CONSTANT stands behind a level and a word that begins no clause: the entry says what a name is, and describes no item
abbrev pub names_constant : List Lexeme → Bool
names_constant [] = false
names_constant (level ∷ []) = false
names_constant (level ∷ named ∷ ws) = not (starts_clause (word_class named)) && is_constant_first ws

-- the entry is that of a constant, which is left out by the word CONSTANT
abbrev pub IsLeftOutConstant : List ℕ → List Lexeme → Type 0
IsLeftOutConstant text ws = (names_constant ws ≡ true) × (text ≡ codes "CONSTANT")

-- one of the words is this one, which is left out by name
abbrev pub IsLeftOutWord : List ℕ → List Lexeme → Type 0
IsLeftOutWord text [] = ⊥
IsLeftOutWord text (w ∷ ws) = ((word_class w ≡ term.LeftOut) × (w.text ≡ text)) ⊎ IsLeftOutWord text ws

-- the entry has this word or level, which is left out by name
abbrev pub IsLeftOut : List ℕ → List Lexeme → Type 0
IsLeftOut text ws = IsLeftOutLevel text ws ⊎ (IsLeftOutConstant text ws ⊎ IsLeftOutWord text (looked_at ws))

-- the words up to each Stop, and what is left behind the last one
pub record Sentences : Type 0 where
  pub ended : List (List Lexeme)
  pub open_end : List Lexeme

-- a word before these
abbrev pub word_before : Lexeme → List (List Lexeme) → List Lexeme → Sentences
word_before w [] open_end = record { ended = []; open_end = w ∷ open_end }
word_before w (s ∷ ss) open_end = record { ended = (w ∷ s) ∷ ss; open_end = open_end }

-- sentences with one more word, literal or Stop in front
abbrev pub sentence_before : TokenKind → Lexeme → Sentences → Sentences
sentence_before kind.Stop w ss = record { ended = [] ∷ ss.ended; open_end = ss.open_end }
sentence_before kind.Word w ss = word_before w ss.ended ss.open_end
sentence_before kind.Literal w ss = word_before w ss.ended ss.open_end

-- the words of a text, cut at the Stops
abbrev pub sentences : List Lexeme → Sentences
sentences [] = record { ended = []; open_end = [] }
sentences (w ∷ ws) = sentence_before w.kind w (sentences ws)

-- no Stop among the words
abbrev pub HasNoStop : List Lexeme → Type 0
HasNoStop ws = AllByRecursion (λ w. w.kind ≢ kind.Stop) ws

-- a sentence without a Stop and a Stop stand in front, before these words
abbrev pub FirstSentence : List Lexeme → List Lexeme → List Lexeme → Type 0
FirstSentence sentence words more = (stop : Lexeme) × (stop.kind ≡ kind.Stop) × HasNoStop sentence × (words ≡ sentence ++ stop ∷ more)
