-- What readers of statements see of what they answer.
use Rattle.std.specs.Prelude.{ℕ, List, map, Option, option_map, Vec}
use denote.Ref.{Bor}
use Rattle.cob_source.specs.Tokens.{Lexeme, lexemes}
use Rattle.cob_source.specs.declared.token.Token.{Token}
use Rattle.cob_source_copies.specs.declared.operand.CopyOperand.{CopyOperand}
use Rattle.cob_source_copies.specs.declared.statement.Statement.{Statement}
use Rattle.cob_source_copies.specs.Statements.{CopyFront, NamedLibrary, Operands, written_copy, written_operand}

-- the words of a pseudo-text that is open
abbrev pub open_words : {A : Type 0} → Option (Vec Token A) → Option (List Lexeme)
open_words o = option_map (λ v. lexemes v.items) o

-- operands, and the words behind their period
abbrev pub operands_seen : {A : Type 0} → Vec CopyOperand A × Bor (List Token) → Operands
operands_seen r = record { all = map written_operand r.0.items; behind = lexemes r.1.now }

-- a library's name, and the operands behind it
abbrev pub library_seen : Option (Bor (List ℕ)) × Bor (List CopyOperand) → NamedLibrary
library_seen r = record { library = option_map (λ t. t.now) r.0; behind = map written_operand r.1.now }

-- a statement, and the words behind its period
abbrev pub front_seen : Statement × Bor (List Token) → CopyFront
front_seen r = record { copy = written_copy r.0; behind = lexemes r.1.now }
