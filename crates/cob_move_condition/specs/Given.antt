-- What an entry gives beside another operand, as the code has it.
use Rattle.std.specs.Prelude.{ℕ, List}
use Rattle.cob_move_condition.specs.declared.characters.Characters.{Characters}
use Rattle.cob_move_condition.specs.declared.characters.Characters.TheVariants.{Bytes, Digits}

-- the characters that the code's value stands for
abbrev pub text_given : Characters → List ℕ
text_given (Bytes bytes) = bytes.now
text_given (Digits digits) = digits.items
