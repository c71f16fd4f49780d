-- Which items the readers and writers of numbers of any number of digits are made ready for.
use Rattle.std.proofs.Common.{◌≡◌, ◌≤◌, arith, ℕ, ◌+◌, ◌/◌, ◌&&◌, ℤ, Bool, true, false, List, IsSome, refl, sym, ap, subst, ◌∙◌}
use Rattle.cob_picture.specs.Counts.{digits, signed}
use Rattle.cob_picture.specs.Positions.{PlainPicture}
use Rattle.cob_codec.specs.Packed.{IsPacked}
use Rattle.cob_codec.specs.Separate.{IsSignedSeparately, separate_form}
use Rattle.cob_codec.specs.Zoned.{IsZoned, zoned_form}
use Rattle.cob_codec.specs.Readings.{KeepsZones}
use Rattle.cob_codec.specs.declared.reading.Reading.{Reading}
use Rattle.cob_codec.specs.declared.reading.Reading.TheVariants.{AnyZones, Pictured, Whole, WholeAnyZones}
use Rattle.cob_copybook_tree.specs.declared.kinds.StorageKind.{StorageKind}
use Rattle.cob_copybook_tree.specs.declared.kinds.StorageKind.TheVariants.{Packed, Separate, Zoned}
use Rattle.cob_copybook_tree.specs.declared.node.Item.{Item}
use Rattle.cob_copybook_tree.specs.Items.{IsNumberItem, IsSentBy, storage_kind}
use Rattle.cob_copybook_tree.specs.Lengths.{item_size}
use Rattle.cob_copybook_tree.specs.Storage.{SentAs, TakesPicture, is_leading, size_as, written_as}
use Rattle.cob_codec_lanes.specs.Wide.{IsWideKeeperOf}
use Rattle.cob_codec_lanes.specs.declared.wide_keeper.WideKeeper.{WideKeeper}
use Rattle.cob_codec_lanes.specs.DigitItems.{IsDigitWriterOf}
use Rattle.cob_codec_lanes.specs.declared.digit_writer.DigitWriter.{DigitWriter}
use Rattle.cob_move_steps.specs.Steps.{IsLaneItem, lanes_of, received_form}

-- what is said of which bytes represent which numbers, and of their number
abbrev pub OfItems : Type 1
OfItems = (List ℕ → Bool → List ℕ → Type 0) → ℕ → Type 0

-- ---- readers

-- what holds of a form, at the item's length, holds of the item however it is sent
of_item : (P : OfItems) (i : Item) (f : StorageKind) (count n : ℕ) → storage_kind i ≡ f → item_size i ≡ size_as (storage_kind i) count → size_as f count ≡ n
    → ((reading : Reading) → KeepsZones reading → P (SentAs reading f (is_leading i.sign) i.picture) n) → (reading : Reading) → KeepsZones reading → P (IsSentBy reading i) (item_size i)
of_item P i f count n form size many h reading keeps =
    let e : n ≡ item_size i = sym (size ∙ ap (λ g. size_as g count) form ∙ many) in
    let a : P (SentAs reading (storage_kind i) (is_leading i.sign) i.picture) n = subst (λ (g : StorageKind). P (SentAs reading g (is_leading i.sign) i.picture) n) (sym form) (h reading keeps) in
    subst (λ m. P (IsSentBy reading i) m) e a

sent_zoned : (P : OfItems) (leading : Bool) (p : PlainPicture) (n : ℕ) → P (IsZoned (digits p.positions) (signed p.positions) leading) n → (reading : Reading) → KeepsZones reading → P (SentAs reading Zoned leading p) n
sent_zoned P leading p n h Pictured keeps = h
sent_zoned P leading p n h Whole keeps = h
sent_zoned P leading p n h AnyZones keeps = absurd (cc)
sent_zoned P leading p n h WholeAnyZones keeps = absurd (cc)

sent_separate : (P : OfItems) (leading : Bool) (p : PlainPicture) (n : ℕ) → P (IsSignedSeparately (digits p.positions) leading) n → (reading : Reading) → KeepsZones reading → P (SentAs reading Separate leading p) n
sent_separate P leading p n h Pictured keeps = h
sent_separate P leading p n h Whole keeps = h
sent_separate P leading p n h AnyZones keeps = absurd (cc)
sent_separate P leading p n h WholeAnyZones keeps = absurd (cc)

sent_packed : (P : OfItems) (leading : Bool) (p : PlainPicture) (n : ℕ) → P (IsPacked (digits p.positions) (signed p.positions)) n → (reading : Reading) → KeepsZones reading → P (SentAs reading Packed leading p) n
sent_packed P leading p n h Pictured keeps = h
sent_packed P leading p n h Whole keeps = h
sent_packed P leading p n h AnyZones keeps = absurd (cc)
sent_packed P leading p n h WholeAnyZones keeps = absurd (cc)

pub zoned_item : (P : OfItems) (i : Item) (count : ℕ) (sign leading : Bool) → storage_kind i ≡ Zoned → item_size i ≡ size_as (storage_kind i) count → count ≡ digits i.picture.positions → sign ≡ signed i.picture.positions → leading ≡ is_leading i.sign
    → P (IsZoned count sign leading) count → (reading : Reading) → KeepsZones reading → P (IsSentBy reading i) (item_size i)
zoned_item P i count sign leading form size many has lead h =
    let a : P (IsZoned count (signed i.picture.positions) (is_leading i.sign)) count = subst (λ b. P (IsZoned count b (is_leading i.sign)) count) has (subst (λ b. P (IsZoned count sign b) count) lead h) in
    let b : P (IsZoned (digits i.picture.positions) (signed i.picture.positions) (is_leading i.sign)) count = subst (λ n. P (IsZoned n (signed i.picture.positions) (is_leading i.sign)) count) many a in
    of_item P i Zoned count count form size refl (sent_zoned P (is_leading i.sign) i.picture count b)

pub separate_item : (P : OfItems) (i : Item) (count : ℕ) (leading : Bool) → storage_kind i ≡ Separate → item_size i ≡ size_as (storage_kind i) count → count ≡ digits i.picture.positions → leading ≡ is_leading i.sign
    → P (IsSignedSeparately count leading) (count + 1) → (reading : Reading) → KeepsZones reading → P (IsSentBy reading i) (item_size i)
separate_item P i count leading form size many lead h =
    let a : P (IsSignedSeparately count (is_leading i.sign)) (count + 1) = subst (λ b. P (IsSignedSeparately count b) (count + 1)) lead h in
    let b : P (IsSignedSeparately (digits i.picture.positions) (is_leading i.sign)) (count + 1) = subst (λ n. P (IsSignedSeparately n (is_leading i.sign)) (count + 1)) many a in
    of_item P i Separate count (count + 1) form size refl (sent_separate P (is_leading i.sign) i.picture (count + 1) b)

pub packed_item : (P : OfItems) (i : Item) (count : ℕ) (sign : Bool) → storage_kind i ≡ Packed → item_size i ≡ size_as (storage_kind i) count → count ≡ digits i.picture.positions → sign ≡ signed i.picture.positions
    → P (IsPacked count sign) (count / 2 + 1) → (reading : Reading) → KeepsZones reading → P (IsSentBy reading i) (item_size i)
packed_item P i count sign form size many has h =
    let a : P (IsPacked count (signed i.picture.positions)) (count / 2 + 1) = subst (λ b. P (IsPacked count b) (count / 2 + 1)) has h in
    let b : P (IsPacked (digits i.picture.positions) (signed i.picture.positions)) (count / 2 + 1) = subst (λ n. P (IsPacked n (signed i.picture.positions)) (count / 2 + 1)) many a in
    of_item P i Packed count (count / 2 + 1) form size refl (sent_packed P (is_leading i.sign) i.picture (count / 2 + 1) b)

-- ---- writers

-- a form that is written without looking at the minus of an unsigned item
written : (i : Item) (f : StorageKind) (count n : ℕ) (form : Bool → List ℕ → List ℕ) (w : DigitWriter) → storage_kind i ≡ f → item_size i ≡ size_as (storage_kind i) count → size_as f count ≡ n → count ≡ digits i.picture.positions
    → ((minus : Bool) (ds : List ℕ) → form minus ds ≡ written_as f (is_leading i.sign) i.picture (signed i.picture.positions && minus) ds) → IsDigitWriterOf form count n w
    → IsDigitWriterOf (received_form i) (digits i.picture.positions) (item_size i) w
written i f count n form w is size many digits_are same h =
    let e : n ≡ item_size i = sym (size ∙ ap (λ g. size_as g count) is ∙ many) in
    let a : IsDigitWriterOf (received_form i) count n w = record {
      many = h.many;
      bytes = h.bytes;
      writes = λ minus ds bytes long valid made.
          h.writes minus ds bytes long valid made ∙ same minus ds
          ∙ ap (λ (g : StorageKind). written_as g (is_leading i.sign) i.picture (signed i.picture.positions && minus) ds) (sym is);
    } in
    subst (λ m. IsDigitWriterOf (received_form i) m (item_size i) w) digits_are (subst (λ m. IsDigitWriterOf (received_form i) count m w) e a)

zoned_same : (sign leading minus : Bool) (ds : List ℕ) → zoned_form sign leading minus ds ≡ zoned_form sign leading (sign && minus) ds
zoned_same true leading minus ds = refl
zoned_same false leading minus ds = refl

pub zoned_written : (i : Item) (count : ℕ) (sign leading : Bool) (w : DigitWriter) → storage_kind i ≡ Zoned → item_size i ≡ size_as (storage_kind i) count → count ≡ digits i.picture.positions → sign ≡ signed i.picture.positions → leading ≡ is_leading i.sign
    → IsDigitWriterOf (zoned_form sign leading) count count w → IsDigitWriterOf (received_form i) (digits i.picture.positions) (item_size i) w
zoned_written i count sign leading w form size many has lead h =
    written i Zoned count count (zoned_form sign leading) w form size refl many (λ minus ds.
    zoned_same sign leading minus ds ∙ ap (λ b. zoned_form b leading (b && minus) ds) has ∙ ap (λ b. zoned_form (signed i.picture.positions) b (signed i.picture.positions && minus) ds) lead) h

pub separate_written : (i : Item) (count : ℕ) (leading : Bool) (w : DigitWriter) → storage_kind i ≡ Separate → IsNumberItem i → item_size i ≡ size_as (storage_kind i) count → count ≡ digits i.picture.positions → leading ≡ is_leading i.sign
    → IsDigitWriterOf (separate_form leading) count (count + 1) w → IsDigitWriterOf (received_form i) (digits i.picture.positions) (item_size i) w
separate_written i count leading w form number size many lead h =
    let has : signed i.picture.positions ≡ true = subst (λ (f : StorageKind). TakesPicture f i.picture) form number.taken in
    written i Separate count (count + 1) (separate_form leading) w form size refl many (λ minus ds.
    ap (λ b. separate_form b minus ds) lead ∙ sym (ap (λ b. separate_form (is_leading i.sign) (b && minus) ds) has)) h

-- an item of at most sixteen digits and bytes, of a kind of storage that lanes read and write
pub lane_item : (i : Item) (f : StorageKind) (count : ℕ) → IsNumberItem i → storage_kind i ≡ f → IsSome (lanes_of f) → item_size i ≡ size_as (storage_kind i) count → count ≡ digits i.picture.positions
    → count ≤ 16 → size_as f count ≤ 16 → IsLaneItem i
lane_item i f count number form halves size many few fits = record {
  number = number;
  halves = subst (λ (g : StorageKind). IsSome (lanes_of g)) (sym form) halves;
  few = omega (arith, many, few);
  fits = omega (arith, size ∙ ap (λ (g : StorageKind). size_as g count) form, fits);
}

-- ---- keepers

-- the same, where the digits that are wanted are another's
pub keeper_as : (w v : ℕ) (s z : ℤ) (k : WideKeeper) → w ≡ v → s ≡ z → IsWideKeeperOf w s k → IsWideKeeperOf v z k
keeper_as w v s z k wanted shift h = subst (λ x. IsWideKeeperOf v x k) shift (subst (λ m. IsWideKeeperOf m s k) wanted h)
