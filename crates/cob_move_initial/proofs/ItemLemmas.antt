-- What an item or a group holds before the first move is what it received.
use Rattle.std.proofs.Common.{◌≡◌, ℕ, Bool, true, false, List, Some, None, refl, sym, subst}
use Rattle.std.specs.Prelude.{MatchBool, if◌then◌else◌}
use Rattle.cob_picture.specs.Positions.{shows_number, PlainPicture}
use Rattle.cob_copybook_entry.specs.declared.kinds.Figurative.{Figurative}
use Rattle.cob_copybook_entry.specs.declared.kinds.Figurative.TheVariants.{Space, Zero, HighValue, LowValue, Quote}
use Rattle.cob_copybook_entry.specs.Described.{PlainValue, Numeric, Quoted, Figure, Repeated}
use Rattle.cob_copybook_tree.specs.declared.node.Kind.TheVariants.{Group, Item as ItemKind}
use Rattle.cob_copybook_tree.specs.declared.node.Item.{Item}
use Rattle.cob_copybook_tree.specs.Lengths.{item_size}
use Rattle.cob_copybook_rules.specs.Values.{IsNumericValue}
use Rattle.cob_copybook_tree.specs.Resolving.{is_number}
use Rattle.cob_move_receive.specs.Sent.{Amount, Literal}
use Rattle.cob_move_receive.specs.Numbers.{ConstantGives}
use Rattle.cob_move_receive.specs.Received.{GetsCharacters, GetsNumber, Received, OneReceived, outcome}
use Rattle.cob_move_receive.proofs.CharacterLemmas.{some_text}
use Rattle.cob_move_initial.specs.Values.{figurative_for, HoldsGroup}
use Rattle.cob_move_initial.specs.Laws.{OneGroup, OneItem}

-- a constant that gives what the item asks for is received
given : (b : Bool) (c : PlainValue) (i : Item) (n : ℕ) → (b ≡ true → (v : Amount) × ConstantGives c v)
    → MatchBool b (GetsNumber (Literal c) i None) (GetsCharacters (Literal c) (ItemKind i) n None) → ⊥
given true c i n gives none = let v = gives refl in none v.0 v.1
given false c i n gives none = let text = some_text c n in none text.0 text.1

pub received : (c : PlainValue) (i : Item) (n : ℕ) (b : Bool) (bytes : List ℕ) → (shows_number i.picture.category ≡ true → (v : Amount) × ConstantGives c v)
    → Received (Literal c) (ItemKind i) n (outcome b bytes) → Received (Literal c) (ItemKind i) n (Some bytes)
received c i n true bytes gives h = h
received c i n false bytes gives h = absurd (given (shows_number i.picture.category) c i n gives h)

-- a constant that a number may have is a number
pub some_number : (p : PlainPicture) (c : PlainValue) → IsNumericValue p c → (v : Amount) × ConstantGives c v
some_number p (Numeric sign negative digits scale) is = (record { negative = negative; digits = digits; scale = scale }, refl)
some_number p (Figure Zero) is = (_, refl)
some_number p (Figure Space) is = absurd is
some_number p (Figure HighValue) is = absurd is
some_number p (Figure LowValue) is = absurd is
some_number p (Figure Quote) is = absurd is
some_number p (Quoted text) is = absurd is
some_number p (Repeated text) is = absurd is

-- ZERO is one
pub zero_given : (shows : Bool) (f : Figurative) → f ≡ (if shows then Zero else Space) → shows ≡ true → (v : Amount) × ConstantGives (Figure f) v
zero_given true f e is = subst (λ (g : Figurative). (v : Amount) × ConstantGives (Figure g) v) (sym e) (_, refl)
zero_given false f e is = absurd cc

-- ---- one thing

same : (a b : List ℕ) → (Some a) ≡ (Some b) → a ≡ b
same a b e = cc

pub one_group : OneReceived → OneGroup
one_group law n c a b x y = same a b (law (Literal c) Group n (Some a) (Some b) x y)

-- of two cases both times the same one
one_of : (c : Bool) (P Q : List ℕ → Type 0) (a b : List ℕ)
    → (P a → P b → a ≡ b) → (Q a → Q b → a ≡ b) → MatchBool c (P a) (Q a) → MatchBool c (P b) (Q b) → a ≡ b
one_of true P Q a b p q x y = p x y
one_of false P Q a b p q x y = q x y

in_item : OneReceived → (c : PlainValue) (i : Item) (a b : List ℕ)
    → Received (Literal c) (ItemKind i) (item_size i) (Some a) → Received (Literal c) (ItemKind i) (item_size i) (Some b) → a ≡ b
in_item law c i a b x y = same a b (law (Literal c) (ItemKind i) (item_size i) (Some a) (Some b) x y)

pub one_item : OneReceived → OneItem
one_item law i None a b x y = in_item law (Figure (figurative_for i)) i a b x y
one_item law i (Some c) a b x y =
    one_of (is_number i) (λ t. Received (Literal c) (ItemKind i) (item_size i) (Some t)) (HoldsGroup (item_size i) c) a b (in_item law c i a b) (one_group law (item_size i) c a b) x y
