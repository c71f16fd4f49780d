-- Numbers of items that are not below zero, as a few steps tell them.
use Rattle.std.proofs.Common.{◌≡◌, ℕ, List, length, sym, subst, ap, ◌∙◌, Bool, Option, Some, None}
use Rattle.std.specs.Prelude.{IfSome}
use Rattle.cob_picture.specs.Counts.{digits, signed, size}
use Rattle.cob_codec.specs.Binary.{IsBinary}
use Rattle.cob_codec.specs.Naturals.{IsNaturalOf}
use Rattle.cob_codec.specs.Packed.{IsPacked}
use Rattle.cob_codec.specs.Zoned.{IsZoned}
use Rattle.cob_copybook_tree.specs.declared.node.Item.{Item}
use Rattle.cob_copybook_tree.specs.declared.kinds.StorageKind.{StorageKind}
use Rattle.cob_copybook_tree.specs.declared.kinds.StorageKind.TheVariants.{Zoned, Packed, Binary}
use Rattle.cob_copybook_tree.specs.Items.{Represents, storage_kind}
use Rattle.cob_copybook_tree.specs.Lengths.{item_size}
use Rattle.cob_copybook_tree.specs.Storage.{RepresentsAs, is_leading, size_as}
use Rattle.cob_copybook_tree.proofs.ItemLemmas.{sizes}

-- the bytes of a zoned item are its digits
pub zoned_long : (i : Item) → digits i.picture.positions ≡ size i.picture.positions → storage_kind i ≡ Zoned → item_size i ≡ digits i.picture.positions
zoned_long i e kind = sizes i e ∙ ap (λ k. size_as k (digits i.picture.positions)) kind

-- a number that is told of zoned bytes is the item's
pub zoned_number : (i : Item) (bytes : List ℕ) (r : Option ℕ) → storage_kind i ≡ Zoned → length bytes ≡ digits i.picture.positions
    → IfSome r (λ v. (count : ℕ) (sign leading : Bool) → length bytes ≡ count → IsNaturalOf (IsZoned count sign leading) bytes v) → IfSome r (λ v. IsNaturalOf (Represents i) bytes v)
zoned_number i bytes None kind long h = tt
zoned_number i bytes (Some v) kind long h =
    subst (λ (k : StorageKind). IsNaturalOf (RepresentsAs k (is_leading i.sign) i.picture) bytes v) (sym kind) (h (digits i.picture.positions) (signed i.picture.positions) (is_leading i.sign) long)

-- and of binary bytes
pub binary_number : (i : Item) (bytes : List ℕ) (count : ℕ) (r : Option ℕ) → storage_kind i ≡ Binary → count ≡ digits i.picture.positions
    → IfSome r (λ v. (sign : Bool) → IsNaturalOf (IsBinary count sign) bytes v) → IfSome r (λ v. IsNaturalOf (Represents i) bytes v)
binary_number i bytes count None kind is h = tt
binary_number i bytes count (Some v) kind is h =
    let told = subst (λ n. IsNaturalOf (IsBinary n (signed i.picture.positions)) bytes v) is (h (signed i.picture.positions)) in
    subst (λ (k : StorageKind). IsNaturalOf (RepresentsAs k (is_leading i.sign) i.picture) bytes v) (sym kind) told

-- and of packed bytes
pub packed_number : (i : Item) (bytes : List ℕ) (count : ℕ) (r : Option ℕ) → storage_kind i ≡ Packed → count ≡ digits i.picture.positions
    → IfSome r (λ v. (sign : Bool) → IsNaturalOf (IsPacked count sign) bytes v) → IfSome r (λ v. IsNaturalOf (Represents i) bytes v)
packed_number i bytes count None kind is h = tt
packed_number i bytes count (Some v) kind is h =
    let told = subst (λ n. IsNaturalOf (IsPacked n (signed i.picture.positions)) bytes v) is (h (signed i.picture.positions)) in
    subst (λ (k : StorageKind). IsNaturalOf (RepresentsAs k (is_leading i.sign) i.picture) bytes v) (sym kind) told
