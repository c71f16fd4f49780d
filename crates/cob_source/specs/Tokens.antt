-- What a reader of tokens sees of them.
use Rattle.std.specs.Prelude.{ℕ, List, map}
use Rattle.cob_source.specs.declared.token.Token.{Token}
use Rattle.cob_source.specs.declared.token.TokenKind.{TokenKind}

-- a word, a literal or a stop: its characters, and the line and the column of the first of them
pub record Lexeme : Type 0 where
  pub kind : TokenKind
  pub text : List ℕ
  pub line : ℕ
  pub column : ℕ

-- a token without where its text lies in memory
abbrev pub lexeme : Token → Lexeme
lexeme t = record { kind = t.kind; text = t.text.items; line = t.line; column = t.column }

-- tokens, without where they lie in memory
abbrev pub lexemes : List Token → List Lexeme
lexemes ts = map lexeme ts
