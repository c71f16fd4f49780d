-- Constants that fill their receiver.
use Rattle.std.proofs.Common.{◌≡◌, ℕ, ◌-◌, Bool, true, false, List, length, refl, sym, ◌∙◌, arith, replicate}
use Rattle.std.proofs.lemmas.List.{take-append-le, take_all}
use Rattle.cob_picture.specs.declared.category.Category.{Category}
use Rattle.cob_picture.specs.declared.category.Category.TheVariants.{Alphabetic, Numeric, Alphanumeric, AlphanumericEdited, NumericEdited}
use Rattle.cob_copybook_tree.specs.declared.node.Item.{Item}
use Rattle.cob_move_receive.specs.Characters.{Arranged, placement_by, has_insertions, padded, padded_left, placement_under}

-- as many bytes as there is room for stand there as they are
pub padded_same : (n : ℕ) (bytes : List ℕ) → length bytes ≡ n → bytes ≡ padded n bytes
padded_same n bytes e = sym (take-append-le n bytes (replicate n 0x40) (omega (arith, e)) ∙ take_all n bytes (omega (arith, e)))

padded_left_same : (n : ℕ) (bytes : List ℕ) → length bytes ≡ n → bytes ≡ padded_left n bytes
padded_left_same n bytes e =
    let none : n - length bytes ≡ 0 = omega (arith, e) in
    let all : length bytes - n ≡ 0 = omega (arith, e) in
    rw (none, all) refl

-- as many characters as the receiver has bytes stand there as they are
placed_same : (b : Bool) (n : ℕ) (bytes : List ℕ) → length bytes ≡ n → Arranged (placement_by b) n bytes bytes
placed_same false n bytes e = padded_same n bytes e
placed_same true n bytes e = padded_left_same n bytes e

pub stands_same : (category : Category) (i : Item) (n : ℕ) (bytes : List ℕ) → has_insertions category ≡ false → length bytes ≡ n → Arranged (placement_under category i) n bytes bytes
stands_same AlphanumericEdited i n bytes other e = cc
stands_same Alphabetic i n bytes other e = placed_same i.justified n bytes e
stands_same Alphanumeric i n bytes other e = placed_same i.justified n bytes e
stands_same Numeric i n bytes other e = placed_same i.justified n bytes e
stands_same NumericEdited i n bytes other e = placed_same i.justified n bytes e
