-- One COPY statement carried out, as the reader of words sees it.
use Rattle.std.specs.Prelude.{◌≡◌, ℕ, ◌+◌, ◌<◌, List, ◌++◌, length, Some, None}
use Rattle.cob_source.specs.Tokens.{Lexeme}
use Rattle.cob_source_copies.specs.declared.fault.CopyRule.{CopyRule}
use Rattle.cob_source_copies.specs.declared.fault.CopyRule.TheVariants as rule
use Rattle.cob_source_copies.specs.Statements.{CopyFront, WrittenCopy, copy_front}
use Rattle.cob_source_copies.specs.Texts.{CopiedText, MayCopyText, copied, text_named}
use Rattle.cob_source_copies.specs.Refusals.{ReplacesInNested}

-- this is the text that a statement copies
pub record IsTextCopiedBy (texts : List CopiedText) (c : WrittenCopy) (t : CopiedText) : Type 0 where
  pub named : text_named texts c.named ≡ Some t
  pub may : MayCopyText c (Some t)

-- why a statement copies no text
abbrev pub CopiesNoText : CopyRule → List CopiedText → WrittenCopy → Type 0
CopiesNoText rule.Unknown texts c = text_named texts c.named ≡ None
CopiesNoText rule.Nested texts c = ReplacesInNested texts c
CopiesNoText r texts c = ⊥

-- a statement put its words behind others, and so many more may be put, where this many were allowed
pub record IsPut (texts : List CopiedText) (c : WrittenCopy) (room left : ℕ) (old new : List Lexeme) : Type 0 where
  pub may : MayCopyText c (text_named texts c.named)
  pub put : new ≡ old ++ copied c (text_named texts c.named)
  pub left_is : left + length (copied c (text_named texts c.named)) ≡ room

-- why a statement puts nothing
abbrev pub IsPutRefusal : CopyRule → List CopiedText → WrittenCopy → ℕ → Type 0
IsPutRefusal rule.Statement texts c room = ⊥
IsPutRefusal rule.Unknown texts c room = text_named texts c.named ≡ None
IsPutRefusal rule.Nested texts c room = ReplacesInNested texts c
IsPutRefusal rule.TooMany texts c room = room < length (copied c (text_named texts c.named))
IsPutRefusal rule.Memory texts c room = Unit {0}

-- the statement that goes on with words behind its word COPY is carried out
abbrev pub IsCopyCarriedOut : List CopiedText → List Lexeme → List Lexeme → ℕ → ℕ → List Lexeme → List Lexeme → Type 0
IsCopyCarriedOut texts behind more room left old new = (c : WrittenCopy) × (copy_front behind ≡ Some (record { copy = c; behind = more })) × IsPut texts c room left old new

-- why it is not
abbrev pub IsCarryRefusal : CopyRule → List CopiedText → List Lexeme → ℕ → Type 0
IsCarryRefusal rule.Statement texts behind room = copy_front behind ≡ None
IsCarryRefusal rule.Memory texts behind room = Unit {0}
IsCarryRefusal r texts behind room = (front : CopyFront) × (copy_front behind ≡ Some front) × IsPutRefusal r texts front.copy room
