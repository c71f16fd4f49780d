-- What an item holds, moved to one that loses nothing of it, comes back as it was.
use Rattle.std.proofs.Common.{◌≡◌, ℕ, Bool, true, false, List, length, refl, sym, ap, subst, ◌∙◌, inl, inr, arith}
use Rattle.std.specs.Prelude.{MatchBool, Some}
use Rattle.cob_picture.specs.Positions.{PlainPicture, shows_number}
use Rattle.cob_codec.specs.declared.reading.Reading.{Reading}
use Rattle.cob_codec.specs.declared.reading.Reading.TheVariants.{AnyZones, Pictured, Whole, WholeAnyZones}
use Rattle.cob_copybook_tree.specs.declared.kinds.StorageKind.{StorageKind}
use Rattle.cob_copybook_tree.specs.declared.kinds.StorageKind.TheVariants.{Zoned, Separate, Packed, Binary}
use Rattle.cob_copybook_tree.specs.declared.node.Item.{Item}
use Rattle.cob_copybook_tree.specs.declared.node.Kind.TheVariants.{Group, Item as ItemKind}
use Rattle.cob_copybook_tree.specs.Lengths.{item_size}
use Rattle.cob_copybook_tree.specs.Resolving.{is_number}
use Rattle.cob_copybook_tree.specs.Items.{HoldsNumbers, ItemReadsBack, IsSentBy, storage_kind}
use Rattle.cob_copybook_tree.specs.Storage.{RepresentsAs, SentAs, is_leading, is_read_whole}
use Rattle.cob_decimal.specs.Laws.{BelowPower, KeepsMagnitude}
use Rattle.cob_move_receive.specs.Sent.{Entry, Amount}
use Rattle.cob_move_receive.specs.Numbers.{GivesUnder, HoldsAmount, IsNumberIn, ItemGives}
use Rattle.cob_move_receive.specs.Received.{GetsCharacters, GetsNumber, ItemGets}
use Rattle.cob_move_receive.specs.Characters.{padded}
use Rattle.cob_back_moves.specs.Laws.{IsSoundItem, ItemsReturn}
use Rattle.cob_back_moves.specs.Wider.{IsLongerText, IsReadPictured, IsSameIn, IsWiderNumber}
use Rattle.cob_back_moves.proofs.NumberLemmas.{IsCarried, Laws, as_number, as_other, given_in, moved, of_number, returned}
use Rattle.cob_back_moves.proofs.TextLemmas.{gets_text, no_number, pad_back, text_gets}

-- ---- what is read as its picture says, whichever reading sends it

pictured_by : (f : StorageKind) → is_read_whole f ≡ false → (leading : Bool) (p : PlainPicture) (bytes : List ℕ) (negative : Bool) (ds : List ℕ)
    → SentAs Whole f leading p bytes negative ds ≡ RepresentsAs f leading p bytes negative ds
pictured_by Zoned other leading p bytes negative ds = refl
pictured_by Separate other leading p bytes negative ds = refl
pictured_by Packed other leading p bytes negative ds = refl
pictured_by Binary other leading p bytes negative ds = absurd (cc)

binary_by : (f : StorageKind) → is_read_whole f ≡ true → (leading : Bool) (p : PlainPicture) (bytes : List ℕ) (negative : Bool) (ds : List ℕ)
    → SentAs AnyZones f leading p bytes negative ds ≡ RepresentsAs f leading p bytes negative ds
binary_by Zoned is leading p bytes negative ds = absurd (cc)
binary_by Separate is leading p bytes negative ds = absurd (cc)
binary_by Packed is leading p bytes negative ds = absurd (cc)
binary_by Binary is leading p bytes negative ds = refl

sent_pictured : (reading : Reading) (i : Item) (bytes : List ℕ) (negative : Bool) (ds : List ℕ) → IsReadPictured reading i
    → IsSentBy reading i bytes negative ds ≡ IsSentBy Pictured i bytes negative ds
sent_pictured Pictured i bytes negative ds is = refl
sent_pictured Whole i bytes negative ds is = pictured_by (storage_kind i) is (is_leading i.sign) i.picture bytes negative ds
sent_pictured AnyZones i bytes negative ds is = binary_by (storage_kind i) is (is_leading i.sign) i.picture bytes negative ds
sent_pictured WholeAnyZones i bytes negative ds is = absurd is

to_pictured : (reading : Reading) (i : Item) (bytes : List ℕ) (v : Amount) → IsReadPictured reading i → IsNumberIn reading i bytes v → IsNumberIn Pictured i bytes v
to_pictured reading i bytes v is h =
    record { represents = subst (λ (P : Type 0). P) (sent_pictured reading i bytes v.negative v.digits is) h.represents; point = h.point }

from_pictured : (reading : Reading) (i : Item) (bytes : List ℕ) (v : Amount) → IsReadPictured reading i → IsNumberIn Pictured i bytes v → IsNumberIn reading i bytes v
from_pictured reading i bytes v is h =
    record { represents = subst (λ (P : Type 0). P) (sym (sent_pictured reading i bytes v.negative v.digits is)) h.represents; point = h.point }

number_or : (b : Bool) (P Q R : Type 0) → (P → Q) → MatchBool b P R → MatchBool b Q R
number_or true P Q R f h = f h
number_or false P Q R f h = h

gives_pictured : (reading : Reading) (i : Item) (bytes : List ℕ) (v : Amount) → IsReadPictured reading i → ItemGives reading i bytes v → ItemGives Pictured i bytes v
gives_pictured reading i bytes v is h =
    number_or (is_number i) (IsNumberIn reading i bytes v) (IsNumberIn Pictured i bytes v) (GivesUnder i.picture.category i bytes v) (to_pictured reading i bytes v is) h

pictured_gives : (reading : Reading) (i : Item) (bytes : List ℕ) (v : Amount) → IsReadPictured reading i → ItemGives Pictured i bytes v → ItemGives reading i bytes v
pictured_gives reading i bytes v is h =
    number_or (is_number i) (IsNumberIn Pictured i bytes v) (IsNumberIn reading i bytes v) (GivesUnder i.picture.category i bytes v) (from_pictured reading i bytes v is) h

-- ---- numbers

number_gets : (reading : Reading) (i j : Item) (n : ℕ) (a b : List ℕ) → shows_number j.picture.category ≡ true → ItemGets (Entry (ItemKind i) a reading) j n (Some b)
    → (v : Amount) × ItemGives reading i a v × HoldsAmount j v b
number_gets reading i j n a b e h =
    of_number (shows_number j.picture.category) (GetsNumber (Entry (ItemKind i) a reading) j (Some b)) (GetsCharacters (Entry (ItemKind i) a reading) (ItemKind j) n (Some b)) e h

gets_number : (reading : Reading) (i j : Item) (n : ℕ) (a b : List ℕ) (v : Amount) → shows_number j.picture.category ≡ true → ItemGives reading i a v → HoldsAmount j v b
    → ItemGets (Entry (ItemKind i) a reading) j n (Some b)
gets_number reading i j n a b v e gives holds =
    as_number (shows_number j.picture.category) (GetsNumber (Entry (ItemKind i) a reading) j (Some b)) (GetsCharacters (Entry (ItemKind i) a reading) (ItemKind j) n (Some b)) e (v, gives, holds)

same_number : (i : Item) (a c : List ℕ) (v : Amount) → shows_number i.picture.category ≡ true → ItemGives Pictured i a v → ItemGives Pictured i c v → IsSameIn i a c
same_number i a c v e p q =
    as_number (shows_number i.picture.category) ((w : Amount) × ItemGives Pictured i a w × ItemGives Pictured i c w) (a ≡ c) e (v, p, q)

same_text : (i : Item) (a : List ℕ) → shows_number i.picture.category ≡ false → IsSameIn i a a
same_text i a e = as_other (shows_number i.picture.category) ((w : Amount) × ItemGives Pictured i a w × ItemGives Pictured i a w) (a ≡ a) e refl

numbers_return : Laws → (i j : Item) (there back : Reading) (a b : List ℕ) → IsSoundItem i → IsSoundItem j → IsWiderNumber i j
    → IsReadPictured there i → IsReadPictured back j → ItemGets (Entry (ItemKind i) a there) j (item_size j) (Some b)
    → (c : List ℕ) × ItemGets (Entry (ItemKind j) b back) i (item_size i) (Some c) × IsSameIn i a c
numbers_return law i j there back a b sound also wider read read_back got =
    let (v, sent, holds) = number_gets there i j (item_size j) a b wider.also got in
    let gives : ItemGives Pictured i a v = gives_pictured there i a v read sent in
    let in_i = given_in law i a v sound wider.number gives in
    let (w, is) = moved law i j v b also wider in_i holds in
    let (c, held, again) = returned law i j v w a b sound wider in_i gives is in
    (c, gets_number back j i (item_size i) b c w wider.number (pictured_gives back j b w read_back is.gives) held, same_number i a c v wider.number gives again)

-- ---- characters

texts_return : (i j : Item) (there back : Reading) (a b : List ℕ) → IsLongerText i j → length a ≡ item_size i
    → ItemGets (Entry (ItemKind i) a there) j (item_size j) (Some b)
    → (c : List ℕ) × ItemGets (Entry (ItemKind j) b back) i (item_size i) (Some c) × IsSameIn i a c
texts_return i j there back a b longer size got =
    let is : b ≡ padded (item_size j) a = gets_text there i j (item_size j) a b longer.text longer.also got in
    let (shows, number) = no_number i longer.text in
    let same : IsSameIn i a a = same_text i a shows in
    (a, text_gets back j i (item_size i) b a longer.also longer.text (sym (pad_back (item_size i) (item_size j) a size longer.size) ∙ ap (padded (item_size i)) (sym is)), same)

pub items_return : ItemReadsBack → HoldsNumbers → KeepsMagnitude → BelowPower → ItemsReturn
items_return back held keeps below i j out home a b sound also wide size read read_back got = elim wide [
  | inl wider ↦ numbers_return (record { back = back; held = held; keeps = keeps; below = below }) i j out home a b sound also wider read read_back got
  | inr longer ↦ texts_return i j out home a b longer size got
]
