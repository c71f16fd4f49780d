-- Which entry of a record's tree a condition-name belongs to.
use Rattle.std.specs.Prelude.{◌≡◌, ℕ, ◌==◌, Bool, true, false, List, [], ◌∷◌, Option}
use Rattle.cob_source.specs.Tokens.{Lexeme}
use Rattle.cob_source.specs.Words.{AreWordsOf}
use Rattle.cob_copybook_clauses.specs.Entries.{is_condition, sentences}
use Rattle.cob_copybook_entry.specs.Described.{PlainEntry}
use Rattle.cob_copybook_entries.specs.Books.{IsEntry}
use Rattle.cob_copybook_conditions.specs.Names.{PlainConditionName, SaysBy, with_said}
use Rattle.cob_copybook_tree.specs.Forests.{Forest, flat}
use Rattle.cob_copybook_tree.specs.Nodes.{Resolved}
use Rattle.cob_copybook_numbers.specs.Numbers.{IsWrittenAs}

-- the sentence is written for this entry of the tree
abbrev pub IsSentenceOf : List Lexeme → Resolved → Type 0
IsSentenceOf s e = (d : PlainEntry) × IsEntry s d × IsWrittenAs d e

-- Behind a level 88 entry the last entry of the tree is the one before it; a data entry is the next one of the tree.
abbrev pub IsLastBehind : Bool → List Lexeme → (last : Resolved) (rest : List Resolved) (now : Resolved) (others : List Resolved) → Type 0
IsLastBehind true s last rest now others = (now ≡ last) × (others ≡ rest)
IsLastBehind false s last rest now others = IsSentenceOf s now × (rest ≡ now ∷ others)

-- Sentences behind that of the entry `last` say these names, in order, where the tree's entries behind it are `rest`. A level 88 entry has the number of the
-- entry whose sentence is the last before it.
abbrev pub AreNamesOf : (last : Resolved) (ss : List (List Lexeme)) (rest : List Resolved) (ns : List PlainConditionName) → Type 0
AreNamesOf last [] rest ns = (rest ≡ []) × (ns ≡ [])
AreNamesOf last (s ∷ ss) rest ns =
    (said : Option PlainConditionName) × (now : Resolved) × (others : List Resolved) × (more : List PlainConditionName)
    × SaysBy (is_condition s) last.number s said
    × IsLastBehind (is_condition s) s last rest now others
    × AreNamesOf now ss others more
    × (ns ≡ with_said said more)

-- the first sentence is the record's, or the first behind a record that the text doesn't name
abbrev pub IsFirstSentence : Bool → (all : List Resolved) (first : Resolved) (others : List Resolved) → Type 0
IsFirstSentence true all first others = all ≡ first ∷ others
IsFirstSentence false all first others = (implied : Resolved) × (all ≡ implied ∷ (first ∷ others))

-- sentences, of which the first is that of a data entry, say these names of the tree's entries
abbrev pub AreNamesOfTree : List (List Lexeme) → List Resolved → List PlainConditionName → Type 0
AreNamesOfTree [] es ns = ⊥
AreNamesOfTree (s ∷ ss) es ns =
    (first : Resolved) × (others : List Resolved) × IsSentenceOf s first × IsFirstSentence (first.level == 1) es first others × AreNamesOf first ss others ns

-- the text's sentences say these names of the tree's entries
pub record AreNamesOfText (text : List ℕ) (t : Forest Resolved) (ns : List PlainConditionName) : Type 0 where
  pub words : List Lexeme
  pub are_words : AreWordsOf text words
  pub said : AreNamesOfTree (sentences words).ended (flat t) ns
