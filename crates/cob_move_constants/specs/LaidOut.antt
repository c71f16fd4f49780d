-- Constants that are laid out beside texts of one length.
use Rattle.std.specs.Prelude.{◌≡◌, ℕ, List, length}
use Rattle.cob_copybook_entry.specs.Described.{PlainValue}
use Rattle.cob_move_receive.specs.Characters.{GivesConstant}
use Rattle.cob_move_condition.specs.Compared.{text_order}

-- These are n bytes, which stand for the characters that a constant gives beside a text of n bytes: any text has the same order beside them as beside those.
pub record IsLaidOut (constant : PlainValue) (n : ℕ) (bytes : List ℕ) : Type 0 where
  pub text : List ℕ
  pub gives : GivesConstant constant n text
  pub long : length bytes ≡ n
  pub same : (beside : List ℕ) → text_order beside bytes ≡ text_order beside text
