-- Whether a number's bytes represent one.
use Rattle.std.proofs.Common.{◌≡◌, ◌↔◌, ℕ, Bool, true, false, List, refl, sym, subst, ◌∙◌, Option, Some, None}
use Rattle.std.specs.Prelude.{IfSome, IsSomeAnd, MatchBool, is_some}
use Rattle.cob_codec.specs.Readings.{keeping_zones}
use Rattle.cob_codec.specs.declared.reading.Reading.{Reading}
use Rattle.cob_decimal.specs.declared.number.Number.{Number}
use Rattle.cob_copybook_tree.specs.declared.node.Kind.{Kind}
use Rattle.cob_copybook_tree.specs.declared.node.Kind.TheVariants.{Group, Item as ItemKind}
use Rattle.cob_move_receive.specs.Sent.{Amount, Sent, Entry, amount}
use Rattle.cob_move_receive.specs.Numbers.{GivesNumber}
use Rattle.cob_move_receive.specs.Table as known
use Rattle.cob_move_condition.specs.declared.class.Class.TheVariants.{Numeric}
use Rattle.cob_move_condition.specs.Classes.{AreOfClass, GivesSomeNumber, IsInClass}
use Rattle.cob_move_condition.specs.Comparable.{is_number_operand}

there_is : (s : Sent) (o : Option Number) → IfSome o (λ n. GivesNumber s (amount n)) → is_some o ≡ true → GivesSomeNumber s
there_is s None found e = cc
there_is s (Some n) found e = (amount n, found)

is_there : (s : Sent) (o : Option Number) → ((v : Amount) → GivesNumber s v → IsSomeAnd o (λ n. amount n ≡ v)) → GivesSomeNumber s → is_some o ≡ true
is_there s None only (v, gives) = absurd (only v gives)
is_there s (Some n) only has = refl

pub numeric_entry : (kind : Kind) (bytes : List ℕ) (reading : Reading) (o : Option Number) (r : Bool) → r ≡ is_some o → is_number_operand (known.Entry kind) ≡ true
    → IfSome o (λ n. GivesNumber (Entry kind bytes (keeping_zones reading)) (amount n))
    → ((v : Amount) → GivesNumber (Entry kind bytes (keeping_zones reading)) v → IsSomeAnd o (λ n. amount n ≡ v))
    → (r ≡ true) ↔ IsInClass Numeric (Entry kind bytes reading)
numeric_entry Group bytes reading o r is number found only = cc
numeric_entry (ItemKind i) bytes reading o r is number found only =
    let s = Entry (ItemKind i) bytes (keeping_zones reading) in (
      λ e. subst (λ (b : Bool). MatchBool b (GivesSomeNumber s) (AreOfClass Numeric bytes)) (sym number) (there_is s o found (sym is ∙ e)),
      λ h. is ∙ is_there s o only (subst (λ (b : Bool). MatchBool b (GivesSomeNumber s) (AreOfClass Numeric bytes)) number h),
    )

pub other_entry : (kind : Kind) (bytes : List ℕ) (reading : Reading) (r : Bool) → is_number_operand (known.Entry kind) ≡ false → (r ≡ true) ↔ AreOfClass Numeric bytes
    → (r ≡ true) ↔ IsInClass Numeric (Entry kind bytes reading)
other_entry Group bytes reading r number is = is
other_entry (ItemKind i) bytes reading r number is =
    let s = Entry (ItemKind i) bytes (keeping_zones reading) in (
      λ e. subst (λ (b : Bool). MatchBool b (GivesSomeNumber s) (AreOfClass Numeric bytes)) (sym number) (is.0 e),
      λ h. is.1 (subst (λ (b : Bool). MatchBool b (GivesSomeNumber s) (AreOfClass Numeric bytes)) number h),
    )
