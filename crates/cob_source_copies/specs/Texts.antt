-- What a text's words come to where its COPY statements are carried out.
use Rattle.std.specs.Prelude.{◌≡◌, ◌⊎◌, ℕ, ◌≤◌, Bool, true, false, ◌&&◌, if◌then◌else◌, bytes_eq, List, [], ◌∷◌, length, Option, Some, None}
use Rattle.std.specs.List.{AllByRecursion, flat_map, list_any}
use Rattle.cob_limits.specs.Limits.{most_copied_words}
use Rattle.cob_source.specs.Tokens.{Lexeme, lexemes}
use Rattle.cob_source_copies.specs.declared.library.LibraryText.{LibraryText}
use Rattle.cob_source_copies.specs.Exchanges.{replaced}
use Rattle.cob_source_copies.specs.Statements.{WrittenCopy, WrittenTextName, copy_front, is_copy, written_text_name}

-- a text that may be copied: its name, its words, and whether a COPY statement stood in it
pub record CopiedText : Type 0 where
  pub named : WrittenTextName
  pub words : List Lexeme
  pub holds_copy : Bool

-- a text without where it lies in memory
abbrev pub copied_text : LibraryText → CopiedText
copied_text t = record { named = written_text_name t.named; words = lexemes t.words.items; holds_copy = t.holds_copy }

-- the two name one library, or both none
abbrev pub is_one_library : Option (List ℕ) → Option (List ℕ) → Bool
is_one_library None None = true
is_one_library None (Some b) = false
is_one_library (Some a) None = false
is_one_library (Some a) (Some b) = bytes_eq a b

-- the two name one text
abbrev pub is_one_name : WrittenTextName → WrittenTextName → Bool
is_one_name a b = bytes_eq a.name b.name && is_one_library a.library b.library

-- the first text of this name
abbrev pub text_named : List CopiedText → WrittenTextName → Option CopiedText
text_named [] n = None
text_named (t ∷ ts) n = if is_one_name t.named n then Some t else text_named ts n

-- a part of a text: a word that stays, or a COPY statement
pub data TextPart : Type 0 where
  Stays : Lexeme → TextPart
  Copies : WrittenCopy → TextPart

-- Words begin with these parts, before others: each word COPY begins a statement, and each other word stays.
abbrev pub BeginWithParts : List TextPart → List Lexeme → List Lexeme → Type 0
BeginWithParts [] ws rest = ws ≡ rest
BeginWithParts (Stays w ∷ ps) ws rest = (more : List Lexeme) × (is_copy w ≡ false) × (ws ≡ w ∷ more) × BeginWithParts ps more rest
BeginWithParts (Copies c ∷ ps) ws rest = (copy : Lexeme) × (behind more : List Lexeme)
    × (is_copy copy ≡ true) × (ws ≡ copy ∷ behind) × (copy_front behind ≡ Some (record { copy = c; behind = more })) × BeginWithParts ps more rest

-- what a COPY statement puts in its place: the words of the text that it names, each x of them replaced
abbrev pub copied : WrittenCopy → Option CopiedText → List Lexeme
copied c None = []
copied c (Some t) = replaced c.replacings t.words

-- what a part of a text puts by copying
abbrev pub put_by_copy : List CopiedText → TextPart → List Lexeme
put_by_copy texts (Stays w) = []
put_by_copy texts (Copies c) = copied c (text_named texts c.named)

-- what a part of a text comes to
abbrev pub part_put : List CopiedText → TextPart → List Lexeme
part_put texts (Stays w) = w ∷ []
part_put texts (Copies c) = copied c (text_named texts c.named)

-- a text may be copied by a statement: one that holds a COPY statement itself only without REPLACING
abbrev pub MayCopyText : WrittenCopy → Option CopiedText → Type 0
MayCopyText c None = ⊥
MayCopyText c (Some t) = (c.replacings ≡ []) ⊎ (t.holds_copy ≡ false)

-- a COPY statement names a text that it may copy
abbrev pub MayCopy : List CopiedText → TextPart → Type 0
MayCopy texts (Stays w) = Unit {0}
MayCopy texts (Copies c) = MayCopyText c (text_named texts c.named)

-- Words come to these where each COPY statement is carried out by texts whose own are carried out: words outside of COPY statements stay, and each statement
-- gives way to the words of its text. No more than so many words are put.
pub record AreExpanded (texts : List CopiedText) (ws done : List Lexeme) : Type 0 where
  pub parts : List TextPart
  pub are_parts : BeginWithParts parts ws []
  pub may_copy : AllByRecursion (MayCopy texts) parts
  pub few : length (flat_map (put_by_copy texts) parts) ≤ most_copied_words
  pub done_is : done ≡ flat_map (part_put texts) parts

-- a COPY statement stands among words
abbrev pub has_copy : List Lexeme → Bool
has_copy ws = list_any is_copy ws
