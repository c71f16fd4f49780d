-- The bytes of edited texts are characters of code page 037.
use Rattle.std.specs.Prelude.{ℕ, ◌+◌, ◌<◌, Bool, true, false}
use Rattle.cob_cp037.specs.Table.{IsCoded}
use Rattle.cob_cp037.specs.Named.{point_byte, zero_byte}
use Rattle.cob_picture.specs.declared.symbol.Symbol.TheVariants.{B, Zero, Slash, Comma}
use Rattle.cob_edit.specs.declared.place.Mark.TheVariants.{Currency, PlusOrMinus, SpaceOrMinus, CreditC, CreditR, DebitD, DebitB}
use Rattle.cob_edit.specs.declared.place.Fill.TheVariants.{Space, Asterisk}
use Rattle.cob_edit.specs.Places.{mark_byte, fill_byte}
use Rattle.cob_edit.specs.Pictured.{insertion_byte}

-- Each byte of an edited text is that of a character: a digit, a point, `$`, a sign, the letters of CR and DB, an insertion, an asterisk
-- or a space.
pub record PrintsCharacters : Type 0 where
  pub digits : (d : ℕ) → d < 10 → IsCoded (d + 48) (d + zero_byte)
  pub point : IsCoded 46 point_byte
  pub currency : (negative : Bool) → IsCoded 36 (mark_byte Currency negative)
  pub plus_sign : IsCoded 43 (mark_byte PlusOrMinus false)
  pub minus_sign : IsCoded 45 (mark_byte PlusOrMinus true)
  pub floating_space : IsCoded 32 (mark_byte SpaceOrMinus false)
  pub floating_minus : IsCoded 45 (mark_byte SpaceOrMinus true)
  pub credit_c : IsCoded 67 (mark_byte CreditC true)
  pub credit_r : IsCoded 82 (mark_byte CreditR true)
  pub debit_d : IsCoded 68 (mark_byte DebitD true)
  pub debit_b : IsCoded 66 (mark_byte DebitB true)
  pub credit_spaces : IsCoded 32 (mark_byte CreditC false) × IsCoded 32 (mark_byte CreditR false)
  pub debit_spaces : IsCoded 32 (mark_byte DebitD false) × IsCoded 32 (mark_byte DebitB false)
  pub inserted_space : IsCoded 32 (insertion_byte B)
  pub inserted_zero : IsCoded 48 (insertion_byte Zero)
  pub inserted_stroke : IsCoded 47 (insertion_byte Slash)
  pub inserted_comma : IsCoded 44 (insertion_byte Comma)
  pub fill_space : IsCoded 32 (fill_byte Space)
  pub fill_asterisk : IsCoded 42 (fill_byte Asterisk)
