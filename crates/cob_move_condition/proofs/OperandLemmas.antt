-- Operands that are numbers.
use Rattle.std.proofs.Common.{◌≡◌, true, refl, ap, ◌∙◌}
use Rattle.cob_copybook_entry.specs.declared.kinds.Figurative.{Figurative}
use Rattle.cob_copybook_entry.specs.declared.kinds.Figurative.TheVariants.{Space, Zero, HighValue, LowValue, Quote}
use Rattle.cob_copybook_entry.specs.Described.{PlainValue, Quoted, Figure, Repeated}
use Rattle.cob_copybook_entry.specs.Described as constant
use Rattle.cob_move_receive.specs.Sent.{Amount, Sent, Entry, Literal}
use Rattle.cob_move_receive.specs.Numbers.{ConstantGives, FigureGives}
use Rattle.cob_move_receive.specs.Table.{SenderKind}
use Rattle.cob_move_receive.specs.Table as known
use Rattle.cob_move_condition.specs.Comparable.{is_number_constant, is_number_figure, kind_of_sent}
use Rattle.cob_move_condition.specs.Compared.{GivesNoNumber}

figure_gives : (f : Figurative) → is_number_figure f ≡ true → (v : Amount) × FigureGives f v
figure_gives Zero e = (_, refl)
figure_gives Space e = cc
figure_gives HighValue e = cc
figure_gives LowValue e = cc
figure_gives Quote e = cc

-- a constant that is a number gives one
constant_gives : (c : PlainValue) → is_number_constant c ≡ true → (v : Amount) × ConstantGives c v
constant_gives (constant.Numeric sign negative digits scale) e = (_, refl)
constant_gives (Quoted text) e = cc
constant_gives (Figure f) e = figure_gives f e
constant_gives (Repeated text) e = cc

same_constant : (c d : PlainValue) → ◌≡◌ {A = SenderKind} (known.Literal c) (known.Literal d) → c ≡ d
same_constant c d e = cc

-- so it is never without a value
pub never_without : (s : Sent) (c : PlainValue) → kind_of_sent s ≡ known.Literal c → is_number_constant c ≡ true → GivesNoNumber s → ⊥
never_without (Entry kind bytes reading) c e number none = cc
never_without (Literal d) c e number none =
    let there = constant_gives d (ap is_number_constant (same_constant d c e) ∙ number) in
    none there.0 there.1
