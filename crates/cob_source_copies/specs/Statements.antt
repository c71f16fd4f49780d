-- COPY statements, as they are written.
use Rattle.std.specs.Prelude.{ℕ, ◌-◌, Bool, true, false, ◌==◌, ◌||◌, ◌&&◌, nat_le, nat_lt, if◌then◌else◌, bytes_eq, codes, List, [], ◌∷◌, ◌++◌, length, map, take, drop, slice_index_or, Option, Some, None, option_map}
use Rattle.cob_source.specs.declared.token.TokenKind.{TokenKind}
use Rattle.cob_source.specs.declared.token.TokenKind.TheVariants as kind
use Rattle.cob_source.specs.Tokens.{Lexeme, lexeme, lexemes}
use Rattle.cob_source_copies.specs.declared.operand.CopyOperand.{CopyOperand}
use Rattle.cob_source_copies.specs.declared.operand.CopyOperand.TheVariants as operand
use Rattle.cob_source_copies.specs.declared.name.TextName.{TextName}
use Rattle.cob_source_copies.specs.declared.statement.Statement.{Statement}
use Rattle.cob_source_copies.specs.TextWords.{is_wordlike}
use Rattle.cob_source_copies.specs.Exchanges.{Replacing, replacing, replacing_by}

-- what stands behind == in front of a text
abbrev pub behind_opening : List ℕ → Option (List ℕ)
behind_opening text = if nat_le 2 (length text) && bytes_eq (take 2 text) (codes "==") then Some (drop 2 text) else None

-- what stands before == at the end of a text
abbrev pub before_closing : List ℕ → Option (List ℕ)
before_closing text = if nat_le 2 (length text) && bytes_eq (drop (length text - 2) text) (codes "==") then Some (take (length text - 2) text) else None

-- only a word begins or ends pseudo-text, and no literal
abbrev pub of_word : TokenKind → Option (List ℕ) → Option (List ℕ)
of_word kind.Word found = found
of_word kind.Literal found = None
of_word kind.Stop found = None

-- a word of this text in the place of another one, if the text has a character
abbrev pub word_of_text : Lexeme → List ℕ → List Lexeme
word_of_text w [] = []
word_of_text w (b ∷ bs) = record { kind = kind.Word; text = b ∷ bs; line = w.line; column = w.column } ∷ []

-- a period in the place of a word
abbrev pub period_at : Lexeme → List Lexeme
period_at w = record { kind = kind.Stop; text = 46 ∷ []; line = w.line; column = w.column } ∷ []

-- a text by its last character: a comma or a semicolon separates, a period ends a sentence
abbrev pub words_by_last : Lexeme → List ℕ → ℕ → List Lexeme
words_by_last w text last =
    if (last == 44) || (last == 59) then word_of_text w (take (length text - 1) text) else
    if last == 46 then word_of_text w (take (length text - 1) text) ++ period_at w else word_of_text w text

-- the words that a text before == is: one sign at its end is none of its word, as before a space
abbrev pub words_before_closing : Lexeme → List ℕ → List Lexeme
words_before_closing w text = words_by_last w text (slice_index_or text (length text - 1) 0)

-- an operand of COPY: a word or a literal by itself, or the words of a pseudo-text
pub data WrittenOperand : Type 0 where
  Alone : Lexeme → WrittenOperand
  Within : List Lexeme → WrittenOperand

-- an operand without where it lies in memory
abbrev pub written_operand : CopyOperand → WrittenOperand
written_operand (operand.Single token) = Alone (lexeme token)
written_operand (operand.PseudoText words) = Within (lexemes words.items)

-- a word that begins with == outside of pseudo-text: it is a whole one if it ends with == too
abbrev pub operands_of_opened : Lexeme → Option (List ℕ) → List WrittenOperand
operands_of_opened w None = []
operands_of_opened w (Some inside) = Within (words_before_closing w inside) ∷ []

-- a word outside of pseudo-text, which begins with == or not
abbrev pub operands_of_word : Lexeme → Option (List ℕ) → List WrittenOperand
operands_of_word w None = Alone w ∷ []
operands_of_word w (Some more) = operands_of_opened w (before_closing more)

-- a word inside a pseudo-text, which ends it or not
abbrev pub operands_of_closed : List Lexeme → Lexeme → Option (List ℕ) → List WrittenOperand
operands_of_closed begun w None = []
operands_of_closed begun w (Some front) = Within (begun ++ words_before_closing w front) ∷ []

-- the operand that ends with a word, where the words of this pseudo-text are open before it, or of none
abbrev pub operands_at : Option (List Lexeme) → Lexeme → List WrittenOperand
operands_at None w = operands_of_word w (of_word w.kind (behind_opening w.text))
operands_at (Some begun) w = operands_of_closed begun w (of_word w.kind (before_closing w.text))

-- a word that begins with == outside of pseudo-text leaves one open, if it does not end with == too
abbrev pub open_of_opened : Lexeme → List ℕ → Option (List ℕ) → Option (List Lexeme)
open_of_opened w more None = Some (word_of_text w more)
open_of_opened w more (Some inside) = None

-- a word outside of pseudo-text, which begins with == or not
abbrev pub open_of_word : Lexeme → Option (List ℕ) → Option (List Lexeme)
open_of_word w None = None
open_of_word w (Some more) = open_of_opened w more (before_closing more)

-- a word inside a pseudo-text, which ends it or not
abbrev pub open_of_closed : List Lexeme → Lexeme → Option (List ℕ) → Option (List Lexeme)
open_of_closed begun w None = Some (begun ++ w ∷ [])
open_of_closed begun w (Some front) = None

-- the words of the pseudo-text that is open behind a word, where this one or none was open before it
abbrev pub open_at : Option (List Lexeme) → Lexeme → Option (List Lexeme)
open_at None w = open_of_word w (of_word w.kind (behind_opening w.text))
open_at (Some begun) w = open_of_closed begun w (of_word w.kind (before_closing w.text))

-- a period outside of pseudo-text ends a statement
abbrev pub ends_statement : Option (List Lexeme) → TokenKind → Bool
ends_statement None kind.Word = false
ends_statement None kind.Literal = false
ends_statement None kind.Stop = true
ends_statement (Some begun) k = false

-- the operands of a statement, and the words behind its period
pub record Operands : Type 0 where
  pub all : List WrittenOperand
  pub behind : List Lexeme

-- operands before those of a statement
abbrev pub operands_before : List WrittenOperand → Operands → Operands
operands_before given os = record { all = given ++ os.all; behind = os.behind }

-- The operands up to the first period outside of pseudo-text, where the words of this pseudo-text are open, or of none.
abbrev pub operands_in : Option (List Lexeme) → List Lexeme → Option Operands
operands_in begun [] = None
operands_in begun (w ∷ ws) =
    if ends_statement begun w.kind then Some (record { all = []; behind = ws })
    else option_map (operands_before (operands_at begun w)) (operands_in (open_at begun w) ws)

-- the name of a text, and of its library if one is written
pub record WrittenTextName : Type 0 where
  pub name : List ℕ
  pub library : Option (List ℕ)

-- a name without where it lies in memory
abbrev pub written_text_name : TextName → WrittenTextName
written_text_name n = record { name = n.name.items; library = option_map (λ t. t.items) n.library }

-- what a COPY statement says
pub record WrittenCopy : Type 0 where
  pub named : WrittenTextName
  pub replacings : List Replacing

-- a statement without where it lies in memory
abbrev pub written_copy : Statement → WrittenCopy
written_copy s = record { named = written_text_name s.named; replacings = map replacing s.exchanges.items }

-- the text of a word or a literal that stands by itself
abbrev pub own_text : WrittenOperand → Option (List ℕ)
own_text (Alone w) = Some w.text
own_text (Within ws) = None

-- the operand is this word
abbrev pub is_keyword : List ℕ → WrittenOperand → Bool
is_keyword text (Alone w) = is_wordlike w.kind && bytes_eq w.text text
is_keyword text (Within ws) = false

-- the words of an operand
abbrev pub words_in : WrittenOperand → List Lexeme
words_in (Alone w) = w ∷ []
words_in (Within ws) = ws

-- the library that is named, if one is, and what stands behind it
pub record NamedLibrary : Type 0 where
  pub library : Option (List ℕ)
  pub behind : List WrittenOperand

-- the library's name in front
abbrev pub library_first : List WrittenOperand → Option NamedLibrary
library_first [] = None
library_first (o ∷ os) = option_map (λ text. record { library = Some text; behind = os }) (own_text o)

-- OF or IN, and the library's name; or no library
abbrev pub named_library : List WrittenOperand → Option NamedLibrary
named_library [] = Some (record { library = None; behind = [] })
named_library (o ∷ os) = if is_keyword (codes "OF") o || is_keyword (codes "IN") o then library_first os else Some (record { library = None; behind = o ∷ os })

-- what stands behind SUPPRESS, which may be absent and means nothing here
abbrev pub behind_suppress : List WrittenOperand → List WrittenOperand
behind_suppress [] = []
behind_suppress (o ∷ os) = if is_keyword (codes "SUPPRESS") o then os else o ∷ os

-- x BY y; x has a text word
abbrev pub replacing_of : WrittenOperand → WrittenOperand → WrittenOperand → Option Replacing
replacing_of x by y = if is_keyword (codes "BY") by then replacing_by (words_in x) (words_in y) else None

-- one x BY y before others, if both are there
abbrev pub with_replacing : Option Replacing → Option (List Replacing) → Option (List Replacing)
with_replacing None rs = None
with_replacing (Some r) rs = option_map (λ more. r ∷ more) rs

-- x BY y, as often as they stand
abbrev pub replacings_in : List WrittenOperand → Option (List Replacing)
replacings_in [] = Some []
replacings_in (x ∷ []) = None
replacings_in (x ∷ by ∷ []) = None
replacings_in (x ∷ by ∷ y ∷ os) = with_replacing (replacing_of x by y) (replacings_in os)

-- REPLACING and one x BY y at least, or nothing
abbrev pub replacings_behind : List WrittenOperand → Option (List Replacing)
replacings_behind [] = Some []
replacings_behind (o ∷ os) = if is_keyword (codes "REPLACING") o && nat_lt 0 (length os) then replacings_in os else None

-- what a statement says that names this text in this library
abbrev pub copy_of_library : List ℕ → Option NamedLibrary → Option WrittenCopy
copy_of_library name None = None
copy_of_library name (Some l) =
    option_map (λ rs. record { named = record { name = name; library = l.library }; replacings = rs }) (replacings_behind (behind_suppress l.behind))

-- what a statement says that names this text, or none
abbrev pub copy_of_name : Option (List ℕ) → List WrittenOperand → Option WrittenCopy
copy_of_name None os = None
copy_of_name (Some name) os = copy_of_library name (named_library os)

-- What the operands behind COPY say: name [OF or IN library] [SUPPRESS] [REPLACING x BY y ..].
abbrev pub copy_in : List WrittenOperand → Option WrittenCopy
copy_in [] = None
copy_in (o ∷ os) = copy_of_name (own_text o) os

-- a COPY statement, and the words behind its period
pub record CopyFront : Type 0 where
  pub copy : WrittenCopy
  pub behind : List Lexeme

-- a statement by its operands
abbrev pub front_by : Option Operands → Option CopyFront
front_by None = None
front_by (Some os) = option_map (λ c. record { copy = c; behind = os.behind }) (copy_in os.all)

-- The COPY statement that goes on with these words behind its word COPY, if one does.
abbrev pub copy_front : List Lexeme → Option CopyFront
copy_front ws = front_by (operands_in None ws)

-- the word COPY
abbrev pub is_copy : Lexeme → Bool
is_copy w = is_wordlike w.kind && bytes_eq w.text (codes "COPY")
