-- Characters that are moved to a longer item and back.
use Rattle.std.proofs.Common.{◌≡◌, ℕ, ◌≤◌, Bool, true, false, not, ◌&&◌, List, ◌++◌, length, take, replicate, refl, sym, ap, subst, ◌∙◌, arith}
use Rattle.std.specs.Prelude.{MatchBool, Some}
use Rattle.std.proofs.lemmas.List.{take-append-le, take-take}
use Rattle.std.proofs.Math.Seq.{take-append_seam}
use Rattle.std.proofs.lemmas.Grind.{common_steps}
use Rattle.cob_picture.specs.Positions.{shows_number}
use Rattle.cob_picture.specs.declared.category.Category.{Category}
use Rattle.cob_picture.specs.declared.category.Category.TheVariants.{Alphabetic, Numeric, Alphanumeric, AlphanumericEdited, NumericEdited}
use Rattle.cob_copybook_tree.specs.declared.node.Item.{Item}
use Rattle.cob_copybook_tree.specs.declared.node.Kind.TheVariants.{Group, Item as ItemKind}
use Rattle.cob_copybook_tree.specs.Resolving.{is_number, is_numeric}
use Rattle.cob_move_receive.specs.Sent.{Entry}
use Rattle.cob_move_receive.specs.Characters.{Arranged, FromLeft, GivesCharacters, GivesDigits, Placement, padded, placement_by, placement_in, placement_under}
use Rattle.cob_move_receive.specs.Received.{GetsCharacters, GetsNumber, ItemGets}
use Rattle.cob_back_moves.proofs.NumberLemmas.{as_other, of_other}
use Rattle.cob_codec.specs.declared.reading.Reading.{Reading}
use Rattle.cob_cp037.specs.Named.{space_byte}
use Rattle.cob_move_receive.specs.Copying.{is_of_characters}
use Rattle.cob_back_moves.specs.Wider.{is_left_text}

pub length-padded : (n : ℕ) (bytes : List ℕ) → length (padded n bytes) ≡ n
length-padded n bytes = grind (arith, common_steps)

-- padded and cut back
pub pad_back : (n m : ℕ) (a : List ℕ) → length a ≡ n → n ≤ m → padded n (padded m a) ≡ a
pad_back n m a size le =
    take-append-le n (padded m a) (replicate n space_byte) (omega (arith, le, length-padded m a))
    ∙ take-take n m (a ++ replicate m space_byte) le
    ∙ ap (λ (k : ℕ). take k (a ++ replicate m space_byte)) (sym size)
    ∙ take-append_seam a (replicate m space_byte)

both : (a b : Bool) → (a && b) ≡ true → (a ≡ true) × (b ≡ true)
both true true e = (refl, refl)
both true false e = cc
both false b e = cc

not_true : (b : Bool) → not b ≡ true → b ≡ false
not_true false e = refl
not_true true e = cc

no_number_under : (c : Category) → is_of_characters c ≡ true → (shows_number c ≡ false) × (is_numeric c ≡ false)
no_number_under Alphabetic e = (refl, refl)
no_number_under Alphanumeric e = (refl, refl)
no_number_under Numeric e = cc
no_number_under AlphanumericEdited e = cc
no_number_under NumericEdited e = cc

pub no_number : (i : Item) → is_left_text i ≡ true → (shows_number i.picture.category ≡ false) × (is_number i ≡ false)
no_number i e =
    let (text, left) = both (is_of_characters i.picture.category) (not i.justified) e in
    let (shows, numeric) = no_number_under i.picture.category text in
    (shows, ap (λ b. b && not i.blank) numeric)

left_under : (c : Category) (i : Item) → is_of_characters c ≡ true → i.justified ≡ false → placement_under c i ≡ FromLeft
left_under Alphabetic i e left = ap placement_by left
left_under Alphanumeric i e left = ap placement_by left
left_under Numeric i e left = cc
left_under AlphanumericEdited i e left = cc
left_under NumericEdited i e left = cc

from_left : (i : Item) → is_left_text i ≡ true → placement_in i ≡ FromLeft
from_left i e =
    let (text, left) = both (is_of_characters i.picture.category) (not i.justified) e in
    left_under i.picture.category i text (not_true i.justified left)

-- characters that an item of characters gets from another one
pub gets_text : (reading : Reading) (i j : Item) (n : ℕ) (a b : List ℕ) → is_left_text i ≡ true → is_left_text j ≡ true → ItemGets (Entry (ItemKind i) a reading) j n (Some b) → b ≡ padded n a
gets_text reading i j n a b text also gets =
    let (shows, number) = no_number j also in
    let (shown, numeric) = no_number i text in
    let (sent, gives, stands) = of_other (shows_number j.picture.category) (GetsNumber (Entry (ItemKind i) a reading) j (Some b)) (GetsCharacters (Entry (ItemKind i) a reading) (ItemKind j) n (Some b)) shows gets in
    let is : sent ≡ a = of_other (is_number i) (GivesDigits reading i a sent) (sent ≡ a) numeric gives in
    let at_left = subst (λ (p : Placement). Arranged p n sent b) (from_left j also) stands in
    at_left ∙ ap (padded n) is

pub text_gets : (reading : Reading) (i j : Item) (n : ℕ) (a b : List ℕ) → is_left_text i ≡ true → is_left_text j ≡ true → b ≡ padded n a → ItemGets (Entry (ItemKind i) a reading) j n (Some b)
text_gets reading i j n a b text also is =
    let (shows, number) = no_number j also in
    let (shown, numeric) = no_number i text in
    let gives : GivesCharacters (Entry (ItemKind i) a reading) (ItemKind j) n a = as_other (is_number i) (GivesDigits reading i a a) (a ≡ a) numeric refl in
    let stands : Arranged (placement_in j) n a b = subst (λ (p : Placement). Arranged p n a b) (sym (from_left j also)) is in
    as_other (shows_number j.picture.category) (GetsNumber (Entry (ItemKind i) a reading) j (Some b)) (GetsCharacters (Entry (ItemKind i) a reading) (ItemKind j) n (Some b)) shows (a, gives, stands)
