-- A receiver that is as long as the sender gets the sender's bytes as they are.
use Rattle.std.proofs.Common.{◌≡◌, ℕ, ◌≤◌, Bool, true, false, ◌&&◌, not, List, ◌++◌, length, take, replicate, refl, sym, ap, subst, ◌∙◌, arith, Some}
use Rattle.std.specs.Prelude.{MatchBool}
use Rattle.std.proofs.Math.Seq.{take-append_seam}
use Rattle.cob_codec.specs.declared.reading.Reading.{Reading}
use Rattle.cob_picture.specs.Positions.{shows_number}
use Rattle.cob_picture.specs.declared.category.Category.{Category}
use Rattle.cob_picture.specs.declared.category.Category.TheVariants.{Alphabetic, Numeric, Alphanumeric, AlphanumericEdited, NumericEdited}
use Rattle.cob_copybook_tree.specs.declared.node.Kind.{Kind}
use Rattle.cob_copybook_tree.specs.declared.node.Kind.TheVariants.{Group, Item as ItemKind}
use Rattle.cob_copybook_tree.specs.declared.node.Item.{Item}
use Rattle.cob_copybook_tree.specs.Resolving.{is_number, is_numeric}
use Rattle.cob_move_receive.specs.Sent.{Entry}
use Rattle.cob_move_receive.specs.Characters.{Arranged, GivesDigits, Placement, FromLeft, padded, placement_by, placement_in, placement_under}
use Rattle.cob_move_receive.specs.Received.{Received, GetsCharacters, GetsNumber, ItemGets}
use Rattle.cob_move_receive.specs.Copying.{CopiesBytes, copies_bytes, is_of_characters, takes_characters}

-- as many characters as there are places
as_they_are : (bytes : List ℕ) → bytes ≡ padded (length bytes) bytes
as_they_are bytes = sym (take-append_seam bytes (replicate (length bytes) 0x40))

both : (a b : Bool) → (a && b) ≡ true → (a ≡ true) × (b ≡ true)
both true b e = (refl, e)
both false b e = absurd (cc)

no_number : (c : Category) → is_of_characters c ≡ true → (shows_number c ≡ false) × (is_numeric c ≡ false)
no_number Alphabetic e = (refl, refl)
no_number Alphanumeric e = (refl, refl)
no_number Numeric e = absurd (cc)
no_number AlphanumericEdited e = absurd (cc)
no_number NumericEdited e = absurd (cc)

unless : (b : Bool) (P Q : Type 0) → b ≡ false → Q → MatchBool b P Q
unless false P Q e q = q
unless true P Q e q = absurd (cc)

not_and : (a b : Bool) → a ≡ false → (a && b) ≡ false
not_and a b e = ap (λ x. x && b) e

straight : (justified : Bool) → not justified ≡ true → placement_by justified ≡ FromLeft
straight false e = refl
straight true e = absurd (cc)

from_left : (c : Category) (i : Item) → is_of_characters c ≡ true → not i.justified ≡ true → placement_under c i ≡ FromLeft
from_left Alphabetic i e j = straight i.justified j
from_left Alphanumeric i e j = straight i.justified j
from_left Numeric i e j = absurd (cc)
from_left AlphanumericEdited i e j = absurd (cc)
from_left NumericEdited i e j = absurd (cc)

items : (x i : Item) → takes_characters x i ≡ true → CopiesBytes (ItemKind x) (ItemKind i)
items x i e reading bytes =
    let (sends, rest) = both (is_of_characters x.picture.category) (is_of_characters i.picture.category && not i.justified) e in
    let (receives, left) = both (is_of_characters i.picture.category) (not i.justified) rest in
    let text : MatchBool (is_number x) (GivesDigits reading x bytes bytes) (bytes ≡ bytes) =
    unless (is_number x) (GivesDigits reading x bytes bytes) (bytes ≡ bytes) (not_and (is_numeric x.picture.category) (not x.blank) ((no_number x.picture.category sends).1)) refl in
    let stands : Arranged (placement_in i) (length bytes) bytes bytes =
    subst (λ (p : Placement). Arranged p (length bytes) bytes bytes) (sym (from_left i.picture.category i receives left)) (as_they_are bytes) in
    unless (shows_number i.picture.category) (GetsNumber (Entry (ItemKind x) bytes reading) i (Some bytes)) (GetsCharacters (Entry (ItemKind x) bytes reading) (ItemKind i) (length bytes) (Some bytes))
    ((no_number i.picture.category receives).0) (bytes, text, stands)

pub copies : (from to : Kind) → copies_bytes from to ≡ true → CopiesBytes from to
copies Group Group e reading bytes = (bytes, refl, as_they_are bytes)
copies Group (ItemKind i) e reading bytes = (bytes, refl, as_they_are bytes)
copies (ItemKind x) Group e reading bytes = (bytes, refl, as_they_are bytes)
copies (ItemKind x) (ItemKind i) e reading bytes = items x i e reading bytes
