-- What two operands compare to (ANSI X3.23-1985, Nucleus: relation conditions).
use Rattle.std.specs.Prelude.{◌≡◌, ◌⊎◌, ℕ, ℤ, ◌-ℤ◌, int_lt, Bool, true, false, ◌||◌, not, if◌then◌else◌, List, [], ◌∷◌, length, MatchBool}
use Rattle.std.specs.declared.cmp.Ordering.{Ordering}
use Rattle.std.specs.declared.cmp.Ordering.TheVariants.{Equal}
use Rattle.std.specs.Ordering.{nat_cmp, int_cmp, ordering_then}
use Rattle.cob_codec.specs.Readings.{keeping_zones}
use Rattle.cob_codec.specs.declared.reading.Reading.{Reading}
use Rattle.cob_codec.specs.Binary.{signed_number}
use Rattle.cob_cp037.specs.Named.{space_byte}
use Rattle.cob_decimal.specs.Decimal.{number_of, shifted}
use Rattle.cob_copybook_tree.specs.declared.node.Item.{Item}
use Rattle.cob_copybook_tree.specs.declared.node.Kind.{Kind}
use Rattle.cob_copybook_tree.specs.declared.node.Kind.TheVariants.{Group, Item as ItemKind}
use Rattle.cob_copybook_tree.specs.Nodes.{is_group_kind}
use Rattle.cob_copybook_tree.specs.Resolving.{is_number}
use Rattle.cob_move_receive.specs.Sent.{Amount, Sent, Entry, Literal}
use Rattle.cob_move_receive.specs.Characters.{GivesConstant, GivesDigits}
use Rattle.cob_move_receive.specs.Numbers.{GivesNumber}
use Rattle.cob_move_condition.specs.declared.comparing.WithoutValue.{WithoutValue}
use Rattle.cob_move_condition.specs.declared.comparing.WithoutValue.TheVariants.{First, Second}
use Rattle.cob_move_condition.specs.Comparable.{compares_numbers, kind_of_sent}

-- ---- by value

-- the finer of two scales
abbrev pub finer_scale : ℤ → ℤ → ℤ
finer_scale a b = if int_lt a b then b else a

-- a number as a count of units of 10 ^ -scale, which are no coarser than its own
abbrev pub units_at : ℤ → Amount → ℤ
units_at scale v = signed_number v.negative (shifted (number_of v.digits) (scale -ℤ v.scale))

-- the order of two numbers: that of their counts of the finer unit
abbrev pub amount_order : Amount → Amount → Ordering
amount_order v w = int_cmp (units_at (finer_scale v.scale w.scale) v) (units_at (finer_scale v.scale w.scale) w)

-- both give numbers, and these have this order
abbrev pub NumbersCompared : Sent → Sent → Ordering → Type 0
NumbersCompared a b o = (v w : Amount) × GivesNumber a v × GivesNumber b w × (o ≡ amount_order v w)

-- ---- by characters

-- what a number gives beside characters: its digits, without its sign; or, where its bytes represent no number, these as they are
abbrev pub GivesNumerals : Reading → Item → List ℕ → List ℕ → Type 0
GivesNumerals reading i bytes text =
    GivesDigits reading i bytes text ⊎ (((other : List ℕ) → GivesDigits reading i bytes other → ⊥) × (text ≡ bytes))

-- The characters that an entry gives beside a group, or beside anything else: its bytes, and nothing is interpreted; but a number gives its digits
-- beside anything but a group. Any zones act not here: characters are compared as they are.
abbrev pub GivesBeside : Bool → Kind → List ℕ → Reading → List ℕ → Type 0
GivesBeside group Group bytes reading text = text ≡ bytes
GivesBeside group (ItemKind i) bytes reading text = MatchBool (group || not (is_number i)) (text ≡ bytes) (GivesNumerals (keeping_zones reading) i bytes text)

-- The characters that two operands give beside each other. A figurative constant, or ALL and a literal, is repeated to as many characters as the other
-- gives. Two constants are not compared.
abbrev pub GiveCharacters : Sent → Sent → List ℕ → List ℕ → Type 0
GiveCharacters (Entry kind bytes reading) (Entry other others by) x y =
    GivesBeside (is_group_kind other) kind bytes reading x × GivesBeside (is_group_kind kind) other others by y
GiveCharacters (Entry kind bytes reading) (Literal c) x y = GivesBeside false kind bytes reading x × GivesConstant c (length x) y
GiveCharacters (Literal c) (Entry kind bytes reading) x y = GivesConstant c (length y) x × GivesBeside false kind bytes reading y
GiveCharacters (Literal c) (Literal d) x y = ⊥

-- the order of two texts: that of their first bytes that differ, where the shorter one has spaces behind it
abbrev pub text_order : List ℕ → List ℕ → Ordering
text_order [] [] = Equal
text_order [] (y ∷ ys) = ordering_then (nat_cmp space_byte y) (text_order [] ys)
text_order (x ∷ xs) [] = ordering_then (nat_cmp x space_byte) (text_order xs [])
text_order (x ∷ xs) (y ∷ ys) = ordering_then (nat_cmp x y) (text_order xs ys)

-- both give characters, and these have this order
abbrev pub TextsCompared : Sent → Sent → Ordering → Type 0
TextsCompared a b o = (x y : List ℕ) × GiveCharacters a b x y × (o ≡ text_order x y)

-- ---- together

-- the first is less than the second, equal to it or greater
abbrev pub IsCompared : Sent → Sent → Ordering → Type 0
IsCompared a b o = MatchBool (compares_numbers (kind_of_sent a) (kind_of_sent b)) (NumbersCompared a b o) (TextsCompared a b o)

-- an operand gives no number
abbrev pub GivesNoNumber : Sent → Type 0
GivesNoNumber a = (v : Amount) → GivesNumber a v → ⊥

-- which of two operands that are compared as numbers gives none: the first, or the second where the first gives one
abbrev pub IsWithoutValue : Sent → Sent → WithoutValue → Type 0
IsWithoutValue a b First = (compares_numbers (kind_of_sent a) (kind_of_sent b) ≡ true) × GivesNoNumber a
IsWithoutValue a b Second = (compares_numbers (kind_of_sent a) (kind_of_sent b) ≡ true) × ((v : Amount) × GivesNumber a v) × GivesNoNumber b
