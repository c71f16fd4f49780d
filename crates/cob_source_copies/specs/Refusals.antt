-- Which rules of COPY words break.
use Rattle.std.specs.Prelude.{◌≡◌, ◌≢◌, ℕ, ◌+◌, ◌<◌, true, List, [], ◌∷◌, length, Some, None}
use Rattle.std.specs.List.{flat_map}
use Rattle.cob_limits.specs.Limits.{most_copied_words}
use Rattle.cob_source.specs.Tokens.{Lexeme}
use Rattle.cob_source_copies.specs.declared.fault.CopyRule.{CopyRule}
use Rattle.cob_source_copies.specs.declared.fault.CopyRule.TheVariants as rule
use Rattle.cob_source_copies.specs.Statements.{CopyFront, WrittenCopy, copy_front, is_copy}
use Rattle.cob_source_copies.specs.Texts.{BeginWithParts, CopiedText, TextPart, copied, put_by_copy, text_named}

-- a word COPY stands on this line, and each one before it begins a statement
pub record ReachesCopy (ws : List Lexeme) (line : ℕ) : Type 0 where
  pub parts : List TextPart
  pub copy : Lexeme
  pub behind : List Lexeme
  pub begin : BeginWithParts parts ws (copy ∷ behind)
  pub is : is_copy copy ≡ true
  pub on_line : line ≡ copy.line

-- the word COPY begins this statement
abbrev pub ReachesStatement : List Lexeme → ℕ → (List TextPart → WrittenCopy → Type 0) → Type 0
ReachesStatement ws line Holds = (at : ReachesCopy ws line) × (front : CopyFront) × (copy_front at.behind ≡ Some front) × Holds at.parts front.copy

-- the text that is named holds a COPY statement, and something is to be replaced in it
abbrev pub ReplacesInNested : List CopiedText → WrittenCopy → Type 0
ReplacesInNested texts c = (t : CopiedText) × (text_named texts c.named ≡ Some t) × (t.holds_copy ≡ true) × (c.replacings ≢ [])

-- with what the statement puts, more words are put than may be
abbrev pub PutsTooMany : List CopiedText → List TextPart → WrittenCopy → Type 0
PutsTooMany texts parts c = most_copied_words < length (flat_map (put_by_copy texts) parts) + length (copied c (text_named texts c.named))

-- Words break the rule on this line, with these texts to copy.
abbrev pub BreaksCopyRule : CopyRule → ℕ → List CopiedText → List Lexeme → Type 0
BreaksCopyRule rule.Statement line texts ws = (at : ReachesCopy ws line) × (copy_front at.behind ≡ None)
BreaksCopyRule rule.Unknown line texts ws = ReachesStatement ws line (λ parts c. text_named texts c.named ≡ None)
BreaksCopyRule rule.Nested line texts ws = ReachesStatement ws line (λ parts c. ReplacesInNested texts c)
BreaksCopyRule rule.TooMany line texts ws = ReachesStatement ws line (λ parts c. PutsTooMany texts parts c)
BreaksCopyRule rule.Memory line texts ws = ⊥

-- a refusal names a rule that is broken, on the line that breaks it, or memory, and then line 0
abbrev pub IsCopyRefusal : CopyRule → ℕ → List CopiedText → List Lexeme → Type 0
IsCopyRefusal rule.Memory line texts ws = line ≡ 0
IsCopyRefusal r line texts ws = BreaksCopyRule r line texts ws
