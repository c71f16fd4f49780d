-- From kinds of storage to items.
use Rattle.std.proofs.Common.{◌≡◌, ◌≤◌, arith, ℕ, ◌+◌, ◌/◌, ◌&&◌, ℤ, Bool, true, false, List, take, refl, sym, ap, subst, ◌∙◌}
use Rattle.cob_picture.specs.Counts.{digits, signed}
use Rattle.cob_picture.specs.Positions.{PlainPicture}
use Rattle.cob_codec.specs.Zoned.{IsZoned, zoned_form}
use Rattle.cob_codec.specs.Separate.{IsSignedSeparately, separate_form}
use Rattle.cob_codec.specs.Packed.{IsPacked, packed_form}
use Rattle.cob_codec.specs.Readings.{KeepsZones}
use Rattle.cob_codec.specs.declared.reading.Reading.{Reading}
use Rattle.cob_codec.specs.declared.reading.Reading.TheVariants.{AnyZones, Pictured, Whole, WholeAnyZones}
use Rattle.cob_copybook_tree.specs.declared.kinds.StorageKind.{StorageKind}
use Rattle.cob_copybook_tree.specs.declared.kinds.StorageKind.TheVariants.{Zoned, Separate, Packed}
use Rattle.cob_copybook_tree.specs.declared.node.Item.{Item}
use Rattle.cob_copybook_tree.specs.Items.{IsSentBy, IsNumberItem, storage_kind}
use Rattle.cob_copybook_tree.specs.Storage.{SentAs, TakesPicture, is_leading, size_as, written_as}
use Rattle.cob_copybook_tree.specs.Lengths.{item_size}
use Rattle.cob_codec_lanes.specs.Readers.{IsReaderOf}
use Rattle.cob_codec_lanes.specs.Writers.{IsWriterOf}
use Rattle.cob_codec_lanes.specs.declared.reader.LaneReader.{LaneReader}
use Rattle.cob_codec_lanes.specs.declared.writer.LaneWriter.{LaneWriter}
use Rattle.cob_move_steps.specs.Steps.{IsItemReader, IsWriterFor, received_form}

-- ---- readers

sent_zoned : (reading : Reading) (leading : Bool) (p : PlainPicture) (n w : ℕ) (s : ℤ) (r : LaneReader) → IsReaderOf (IsZoned (digits p.positions) (signed p.positions) leading) n w s r → KeepsZones reading → IsReaderOf (SentAs reading Zoned leading p) n w s r
sent_zoned Pictured leading p n w s r h keeps = h
sent_zoned Whole leading p n w s r h keeps = h
sent_zoned AnyZones leading p n w s r h keeps = absurd (cc)
sent_zoned WholeAnyZones leading p n w s r h keeps = absurd (cc)

sent_separate : (reading : Reading) (leading : Bool) (p : PlainPicture) (n w : ℕ) (s : ℤ) (r : LaneReader) → IsReaderOf (IsSignedSeparately (digits p.positions) leading) n w s r → KeepsZones reading → IsReaderOf (SentAs reading Separate leading p) n w s r
sent_separate Pictured leading p n w s r h keeps = h
sent_separate Whole leading p n w s r h keeps = h
sent_separate AnyZones leading p n w s r h keeps = absurd (cc)
sent_separate WholeAnyZones leading p n w s r h keeps = absurd (cc)

sent_packed : (reading : Reading) (leading : Bool) (p : PlainPicture) (n w : ℕ) (s : ℤ) (r : LaneReader) → IsReaderOf (IsPacked (digits p.positions) (signed p.positions)) n w s r → KeepsZones reading → IsReaderOf (SentAs reading Packed leading p) n w s r
sent_packed Pictured leading p n w s r h keeps = h
sent_packed Whole leading p n w s r h keeps = h
sent_packed AnyZones leading p n w s r h keeps = absurd (cc)
sent_packed WholeAnyZones leading p n w s r h keeps = absurd (cc)

-- the reader of a form, at the item's length, is that of the item
as_item : (i : Item) (f : StorageKind) (count n w : ℕ) (s : ℤ) (r : LaneReader) → storage_kind i ≡ f → item_size i ≡ size_as (storage_kind i) count → size_as f count ≡ n
    → ((reading : Reading) → KeepsZones reading → IsReaderOf (SentAs reading f (is_leading i.sign) i.picture) n w s r) → IsItemReader i w s r
as_item i f count n w s r form size many h = λ reading keeps.
    let e : n ≡ item_size i = sym (size ∙ ap (λ g. size_as g count) form ∙ many) in
    let a : IsReaderOf (SentAs reading (storage_kind i) (is_leading i.sign) i.picture) n w s r = subst (λ g. IsReaderOf (SentAs reading g (is_leading i.sign) i.picture) n w s r) (sym form) (h reading keeps) in
    subst (λ m. IsReaderOf (IsSentBy reading i) m w s r) e a

pub zoned_reader : (i : Item) (count : ℕ) (sign leading : Bool) (w : ℕ) (s : ℤ) (r : LaneReader) → storage_kind i ≡ Zoned → item_size i ≡ size_as (storage_kind i) count → count ≡ digits i.picture.positions → sign ≡ signed i.picture.positions → leading ≡ is_leading i.sign
    → IsReaderOf (IsZoned count sign leading) count w s r → IsItemReader i w s r
zoned_reader i count sign leading w s r form size many has lead h =
    let a : IsReaderOf (IsZoned count (signed i.picture.positions) (is_leading i.sign)) count w s r =
    subst (λ b. IsReaderOf (IsZoned count b (is_leading i.sign)) count w s r) has (subst (λ b. IsReaderOf (IsZoned count sign b) count w s r) lead h) in
    let b : IsReaderOf (IsZoned (digits i.picture.positions) (signed i.picture.positions) (is_leading i.sign)) count w s r = subst (λ n. IsReaderOf (IsZoned n (signed i.picture.positions) (is_leading i.sign)) count w s r) many a in
    as_item i Zoned count count w s r form size refl (λ reading. sent_zoned reading (is_leading i.sign) i.picture count w s r b)

pub separate_reader : (i : Item) (count : ℕ) (leading : Bool) (w : ℕ) (s : ℤ) (r : LaneReader) → storage_kind i ≡ Separate → item_size i ≡ size_as (storage_kind i) count → count ≡ digits i.picture.positions → leading ≡ is_leading i.sign
    → IsReaderOf (IsSignedSeparately count leading) (count + 1) w s r → IsItemReader i w s r
separate_reader i count leading w s r form size many lead h =
    let a : IsReaderOf (IsSignedSeparately count (is_leading i.sign)) (count + 1) w s r = subst (λ b. IsReaderOf (IsSignedSeparately count b) (count + 1) w s r) lead h in
    let b : IsReaderOf (IsSignedSeparately (digits i.picture.positions) (is_leading i.sign)) (count + 1) w s r = subst (λ n. IsReaderOf (IsSignedSeparately n (is_leading i.sign)) (count + 1) w s r) many a in
    as_item i Separate count (count + 1) w s r form size refl (λ reading. sent_separate reading (is_leading i.sign) i.picture (count + 1) w s r b)

pub packed_reader : (i : Item) (count : ℕ) (sign : Bool) (w : ℕ) (s : ℤ) (r : LaneReader) → storage_kind i ≡ Packed → item_size i ≡ size_as (storage_kind i) count → count ≡ digits i.picture.positions → sign ≡ signed i.picture.positions
    → IsReaderOf (IsPacked count sign) (count / 2 + 1) w s r → IsItemReader i w s r
packed_reader i count sign w s r form size many has h =
    let a : IsReaderOf (IsPacked count (signed i.picture.positions)) (count / 2 + 1) w s r = subst (λ b. IsReaderOf (IsPacked count b) (count / 2 + 1) w s r) has h in
    let b : IsReaderOf (IsPacked (digits i.picture.positions) (signed i.picture.positions)) (count / 2 + 1) w s r = subst (λ n. IsReaderOf (IsPacked n (signed i.picture.positions)) (count / 2 + 1) w s r) many a in
    as_item i Packed count (count / 2 + 1) w s r form size refl (λ reading. sent_packed reading (is_leading i.sign) i.picture (count / 2 + 1) w s r b)

-- the same, where the digits that are wanted are another's
pub reader_as : (i : Item) (w v : ℕ) (s z : ℤ) (r : LaneReader) → w ≡ v → s ≡ z → IsItemReader i w s r → IsItemReader i v z r
reader_as i w v s z r wanted shift h = λ reading keeps.
    subst (λ x. IsReaderOf (IsSentBy reading i) (item_size i) v x r) shift (subst (λ m. IsReaderOf (IsSentBy reading i) (item_size i) m s r) wanted (h reading keeps))

-- ---- writers

-- a form that is written without looking at the minus of an unsigned item
written : (i : Item) (f : StorageKind) (count n : ℕ) (form : Bool → List ℕ → List ℕ) (w : LaneWriter) → storage_kind i ≡ f → item_size i ≡ size_as (storage_kind i) count → size_as f count ≡ n → count ≡ digits i.picture.positions
    → ((minus : Bool) (ds : List ℕ) → form minus ds ≡ written_as f (is_leading i.sign) i.picture (signed i.picture.positions && minus) ds) → IsWriterOf form count n w → IsWriterFor i w
written i f count n form w is size many digits_are same h =
    let e : n ≡ item_size i = sym (size ∙ ap (λ g. size_as g count) is ∙ many) in
    let a : IsWriterOf (received_form i) count n w = record {
      room = h.room;
      fits = h.fits;
      writes = λ minus ds bytes long tens made.
          h.writes minus ds bytes long tens made ∙ same minus (take count ds)
          ∙ ap (λ g. written_as g (is_leading i.sign) i.picture (signed i.picture.positions && minus) (take count ds)) (sym is);
    } in
    subst (λ m. IsWriterOf (received_form i) m (item_size i) w) digits_are (subst (λ m. IsWriterOf (received_form i) count m w) e a)

zoned_same : (sign leading minus : Bool) (ds : List ℕ) → zoned_form sign leading minus ds ≡ zoned_form sign leading (sign && minus) ds
zoned_same true leading minus ds = refl
zoned_same false leading minus ds = refl

pub packed_same : (sign minus : Bool) (ds : List ℕ) → packed_form sign minus ds ≡ packed_form sign (sign && minus) ds
packed_same true minus ds = refl
packed_same false minus ds = refl

pub zoned_writer : (i : Item) (count : ℕ) (sign leading : Bool) (w : LaneWriter) → storage_kind i ≡ Zoned → item_size i ≡ size_as (storage_kind i) count → count ≡ digits i.picture.positions → sign ≡ signed i.picture.positions → leading ≡ is_leading i.sign
    → IsWriterOf (zoned_form sign leading) count count w → IsWriterFor i w
zoned_writer i count sign leading w form size many has lead h =
    written i Zoned count count (zoned_form sign leading) w form size refl many (λ minus ds.
    zoned_same sign leading minus ds ∙ ap (λ b. zoned_form b leading (b && minus) ds) has ∙ ap (λ b. zoned_form (signed i.picture.positions) b (signed i.picture.positions && minus) ds) lead) h

pub separate_writer : (i : Item) (count : ℕ) (leading : Bool) (w : LaneWriter) → storage_kind i ≡ Separate → IsNumberItem i → item_size i ≡ size_as (storage_kind i) count → count ≡ digits i.picture.positions → leading ≡ is_leading i.sign
    → IsWriterOf (separate_form leading) count (count + 1) w → IsWriterFor i w
separate_writer i count leading w form number size many lead h =
    let has : signed i.picture.positions ≡ true = subst (λ f. TakesPicture f i.picture) form number.taken in
    written i Separate count (count + 1) (separate_form leading) w form size refl many (λ minus ds.
    ap (λ b. separate_form b minus ds) lead ∙ sym (ap (λ b. separate_form (is_leading i.sign) (b && minus) ds) has)) h

pub packed_writer : (i : Item) (count : ℕ) (sign : Bool) (w : LaneWriter) → storage_kind i ≡ Packed → item_size i ≡ size_as (storage_kind i) count → count ≡ digits i.picture.positions → sign ≡ signed i.picture.positions
    → IsWriterOf (packed_form sign) count (count / 2 + 1) w → IsWriterFor i w
packed_writer i count sign w form size many has h =
    written i Packed count (count / 2 + 1) (packed_form sign) w form size refl many (λ minus ds. packed_same sign minus ds ∙ ap (λ b. packed_form b (b && minus) ds) has) h

-- ---- what lanes hold

-- a zoned item has as many digits as bytes
pub as_many_digits : (i : Item) (count : ℕ) → item_size i ≡ size_as (storage_kind i) count → storage_kind i ≡ Zoned → item_size i ≤ 16 → count ≤ 16
as_many_digits i count size form fits =
    let e : item_size i ≡ count = size ∙ ap (λ f. size_as f count) form in
    omega (arith, e)

-- an item with a separate sign has fewer digits than bytes
pub fewer_digits : (i : Item) (count : ℕ) → item_size i ≡ size_as (storage_kind i) count → storage_kind i ≡ Separate → item_size i ≤ 16 → count ≤ 15
fewer_digits i count size form fits =
    let e : item_size i ≡ count + 1 = size ∙ ap (λ f. size_as f count) form in
    omega (arith, e)
