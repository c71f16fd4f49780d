use Rattle.std.proofs.Common.{arith, ap, length, map, refl, sym, subst, List, ℕ, ◌≡◌, ◌+◌, ◌∙◌}
use Rattle.cob_copybook_tree.specs.Lengths.{item_size}
use Rattle.std.proofs.lemmas.Result.{IfErr-weaker, on_ok_weaker}
use Rattle.cob_report_show.specs.declared.named.ListedItem.{ListedItem}
use Rattle.cob_report_show.specs.Elements.{named_item}
use Rattle.cob_report_compare.specs.Equal.{printed_of}
use Rattle.cob_report_compare.specs.Keys.{AreKeyItems, IsKeyPart, KeyPart, key_size}
use Rattle.cob_report_compare.proofs.KeyLemmas.{bytes_taken, key_long, key_taken, no_bytes_taken, no_key_behind, no_key_here, no_key_taken}
use Rattle.cob_report_compare.proofs.keys.+take_key.Goals as goal

pub key_place-place-requires-clause-key : goal.key_place-place-requires-clause-key
key_place-place-requires-clause-key n c =
    let all = subst (λ (ks : List ListedItem). AreKeyItems c.args.compared.layout.now (map named_item ks)) c.in-Some.ensures.cases.0 c.requires.keys in
    (all.0, tt)

pub take_key-requires : goal.take_key-requires
take_key-requires n c =
    let first = c.in-Some.ensures.cases.0 in
    let sizes : key_size (map named_item c.args.keys.now) ≡ item_size c.in-Some.key.now.item + key_size (map named_item c.in-Some.further.now) =
    ap (λ (ks : List ListedItem). key_size (map named_item ks)) first in
    let long : length c.field-bytes.result.now ≡ item_size c.in-Some.key.now.item =
    ap (λ (bytes : List ℕ). length bytes) c.field-bytes.ensures
    ∙ key_long (printed_of c.args.compared) (named_item c.in-Some.key.now) c.key_place-place.result c.key_place-place.ensures.at c.key_place-place.ensures.sized in (
      omega (arith, c.decreases, ap (λ (ks : List ListedItem). length ks) first),
      (
        c.requires.holds,
        (
          (subst (λ (ks : List ListedItem). AreKeyItems c.args.compared.layout.now (map named_item ks)) first c.requires.keys).1,
          omega (arith, sizes, long, c.requires.room, c.split_at_mut-front.ensures.back_len),
        ),
      ),
    )

pub returns-in_default : goal.returns-in_default
returns-in_default n c = record {
  room = refl;
  bytes = no_bytes_taken c.args.keys.now (printed_of c.args.compared) c.args.slot.now c.in_default.ensures.cases c.requires.room;
  key = no_key_taken c.args.keys.now c.args.slot.now c.in_default.ensures.cases;
  none = tt;
}

pub returns-then-not-is_key_part-clause-none : goal.returns-then-not-is_key_part-clause-none
returns-then-not-is_key_part-clause-none n c =
    no_key_here c.args.keys.now c.in-Some.key.now c.in-Some.further.now (printed_of c.args.compared) c.key_place-place.result c.field-bytes.result.now _ c.in-Some.ensures.cases.0
    c.key_place-place.ensures.at c.field-bytes.ensures (c.is_key_part.ensures.no c.if-not-is_key_part.true) refl

pub returns-clause-bytes : goal.returns-clause-bytes
returns-clause-bytes n c =
    on_ok_weaker c.take_key.result
    (λ rest. bytes_taken c.args.keys.now c.in-Some.key.now c.in-Some.further.now (printed_of c.args.compared) c.key_place-place.result c.copy_from_slice.new.self c.take_key.new.slot _
    c.in-Some.ensures.cases.0 c.key_place-place.ensures.at (c.copy_from_slice.ensures.after ∙ c.field-bytes.ensures) rest refl) c.take_key.ensures.bytes

pub returns-clause-key : goal.returns-clause-key
returns-clause-key n c =
    let part = subst (λ (bytes : List ℕ). (p : KeyPart) × IsKeyPart c.in-Some.key.now.item bytes p) (sym c.copy_from_slice.ensures.after) (c.is_key_part.ensures.yes c.if-not-is_key_part.false) in
    let long =
    ap (λ (bytes : List ℕ). length bytes) (c.copy_from_slice.ensures.after ∙ c.field-bytes.ensures)
    ∙ key_long (printed_of c.args.compared) (named_item c.in-Some.key.now) c.key_place-place.result c.key_place-place.ensures.at c.key_place-place.ensures.sized
    in
    on_ok_weaker c.take_key.result
    (λ rest. key_taken c.args.keys.now c.in-Some.key.now c.in-Some.further.now c.copy_from_slice.new.self c.take_key.new.slot _ c.in-Some.ensures.cases.0 long part rest refl)
    c.take_key.ensures.key

pub returns-clause-none : goal.returns-clause-none
returns-clause-none n c =
    IfErr-weaker c.take_key.result _ _
    (λ offset behind. no_key_behind c.args.keys.now c.in-Some.key.now c.in-Some.further.now (printed_of c.args.compared) c.key_place-place.result c.field-bytes.result.now offset
    c.in-Some.ensures.cases.0 c.key_place-place.ensures.at c.field-bytes.ensures (c.is_key_part.ensures.yes c.if-not-is_key_part.false) behind) c.take_key.ensures.none
