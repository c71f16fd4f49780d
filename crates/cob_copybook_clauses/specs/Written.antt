-- Entries as they are written, without where their texts lie in memory.
use Rattle.std.specs.Prelude.{ℕ, Bool, List, [], ◌∷◌, Option, option_map}
use Rattle.cob_source.specs.Tokens.{Lexeme, lexemes}
use Rattle.cob_copybook_entry.specs.declared.kinds.Usage.{Usage}
use Rattle.cob_copybook_entry.specs.declared.kinds.Sign.{Sign}
use Rattle.cob_copybook_entry.specs.declared.kinds.Figurative.{Figurative}
use Rattle.cob_copybook_clauses.specs.declared.parts.ValueClause.{ValueClause}
use Rattle.cob_copybook_clauses.specs.declared.parts.ValueClause.TheVariants as constant
use Rattle.cob_copybook_clauses.specs.declared.parts.Count.{Count}
use Rattle.cob_copybook_clauses.specs.declared.parts.OccursClause.{OccursClause}
use Rattle.cob_copybook_clauses.specs.declared.parts.Clauses.{Clauses}
use Rattle.cob_copybook_clauses.specs.declared.parts.Written.{Written}

-- the constant of a VALUE clause: a word, a literal's characters, a figurative constant, or ALL and a literal's characters
pub data WrittenValue : Type 0 where
  Word : List ℕ → WrittenValue
  Quoted : List ℕ → WrittenValue
  Figure : Figurative → WrittenValue
  Repeated : List ℕ → WrittenValue

-- a name and its qualifiers, the nearest first
pub record WrittenName : Type 0 where
  pub name : List ℕ
  pub qualifiers : List (List ℕ)

-- an OCCURS clause: the word before TO, the number of times or the greatest one, and the count of a table that varies
pub record WrittenOccurs : Type 0 where
  pub least : Option (List ℕ)
  pub most : List ℕ
  pub count : Option WrittenName

-- the clauses of an entry, each where it stands
pub record WrittenClauses : Type 0 where
  pub redefines : Option (List ℕ)
  pub picture : Option (List ℕ)
  pub usage : Option Usage
  pub sign : Option Sign
  pub occurs : Option WrittenOccurs
  pub value : Option WrittenValue
  pub justified : Bool
  pub blank : Bool

-- an entry: its level, its name unless it has none or FILLER, and its clauses
pub record WrittenEntry : Type 0 where
  pub level : List ℕ
  pub name : Option (List ℕ)
  pub clauses : WrittenClauses

-- the constant of a VALUE clause, without where its text lies in memory
abbrev pub written_value : ValueClause → WrittenValue
written_value (constant.Word text) = Word text.now
written_value (constant.Literal text) = Quoted text.now
written_value (constant.Figurative f) = Figure f
written_value (constant.All text) = Repeated text.now

-- the names behind OF or IN
abbrev pub names_behind : List Lexeme → List (List ℕ)
names_behind [] = []
names_behind (w ∷ []) = []
names_behind (w ∷ n ∷ ws) = n.text ∷ names_behind ws

-- the name of a count with its qualifiers, likewise
abbrev pub written_name : Count → WrittenName
written_name c = record { name = c.name.now; qualifiers = names_behind (lexemes c.qualifiers.now) }

-- an OCCURS clause, likewise
abbrev pub written_occurs : OccursClause → WrittenOccurs
written_occurs t = record { least = option_map (λ b. b.now) t.least; most = t.most.now; count = option_map written_name t.count }

-- the clauses of an entry, likewise
abbrev pub written_clauses : Clauses → WrittenClauses
written_clauses c = record {
  redefines = option_map (λ b. b.now) c.redefines;
  picture = option_map (λ b. b.now) c.picture;
  usage = c.usage;
  sign = c.sign;
  occurs = option_map written_occurs c.occurs;
  value = option_map written_value c.value;
  justified = c.justified;
  blank = c.blank;
}

-- an entry as it is written, likewise
abbrev pub written_entry : Written → WrittenEntry
written_entry w = record { level = w.level.now; name = option_map (λ b. b.now) w.name; clauses = written_clauses w.clauses }
