use Rattle.std.proofs.Common.{◌++◌, ◌+◌, ◌∙◌, List, ap, arith, map, sym, take}
use Rattle.std.proofs.lemmas.List.{length-map}
use Rattle.cob_copybook_tree.specs.Nodes.{forest, node}
use Rattle.cob_layout_places.proofs.ForestLemmas.{left}
use Rattle.cob_back_losses.specs.Bytes.{ItemByte, bytes_beneath, element_bytes, item_byte}
use Rattle.cob_back_losses.proofs.ByteLemmas.{begin_child, done_full, group_bytes, left_none, next_element, no_child, no_element, skip_child, within}
use Rattle.cob_back_losses.proofs.bytes.+push_element.Goals as goal
use Rattle.cob_back_losses.proofs.bytes.+push_element.Goals.{then-is_none+else-loop-test, else-is_none}

pub loop-init : goal.loop-init
loop-init t c =
    let ns = c.deref-child-items.result.now in
    let i = c.loop-child.child-index in
    let n = c.child-item.result in
    let now = map item_byte c.loop-child.bytes.items in
    record {
      left = ap (λ (xs : List ItemByte). take c.args.limit (now ++ xs)) (begin_child ns i n c.most-end.result c.loop-child-test.true c.child-item.is c.if-is_none.ensures c.most-end.ensures) ∙ c.loop-child.invariant.left;
      short = c.loop-child.invariant.short;
      more = omega arith;
    }

pub returns-then-len-limit : goal.returns-then-len-limit
returns-then-len-limit t c =
    let now = map item_byte c.loop.bytes.items in
    let same = group_bytes c.args.entry.now c.deref-child-items.result.now c.in-Group.is c.deref-child-items.ensures.value in
    done_full c.args.limit now _ _ (omega (arith, length-map c.loop.bytes.items item_byte, c.len.ensures, c.if-len-limit.true)) c.loop.invariant.left
    ∙ ap (λ (xs : List ItemByte). take c.args.limit (map item_byte c.args.bytes.now.items ++ xs)) same

pub loop-preserved : goal.loop-preserved
loop-preserved t c =
    let put = c.in_ok-push_element-in-Group.ensures in
    record {
      left = next_element c.args.limit c.most-end.result c.loop.counter (map item_byte c.loop.bytes.items) (map item_byte c.push_element.new.bytes.items) (element_bytes (node c.child-item.result)) _ _ c.loop-test.true put c.loop.invariant.left;
      short = omega (arith, length-map c.push_element.new.bytes.items item_byte, within c.args.limit _ _ put);
      more = omega (arith, c.loop-test.true);
    }

pub loop-child-preserved : goal.loop-child-preserved
loop-child-preserved t c =
    let ns = c.deref-child-items.result.now in
    let i = c.loop-child.child-index in
    let n = c.child-item.result in
    elim c.if-is_none.branch [
      | then-is_none+else-loop-test w ↦
          record {
            left = rw w.bytes-is (no_element c.args.limit w.most-end.result w.loop.counter (map item_byte w.loop.bytes.items) (element_bytes (node n)) (bytes_beneath (left ns (i + 1))) _ (omega (arith, w.loop-test.false)) w.loop.invariant.left);
            short = rw w.bytes-is w.loop.invariant.short;
          }
      | else-is_none w ↦
          record {
            left = rw w.bytes-is (ap (λ (xs : List ItemByte). take c.args.limit (map item_byte c.loop-child.bytes.items ++ xs)) (skip_child ns i n c.loop-child-test.true c.child-item.is w.if-is_none.ensures) ∙ c.loop-child.invariant.left);
            short = rw w.bytes-is c.loop-child.invariant.short;
          }
    ]

pub returns-after-loop-child : goal.returns-after-loop-child
returns-after-loop-child t c =
    let ns = c.deref-child-items.result.now in
    let now = map item_byte c.loop-child.bytes.items in
    let all = take c.args.limit (map item_byte c.args.bytes.now.items ++ bytes_beneath (forest ns)) in
    let none = no_child ns c.loop-child.child-index c.loop-child-test.false in
    left_none c.args.limit now all (omega (arith, length-map c.loop-child.bytes.items item_byte, c.loop-child.invariant.short)) (ap (λ (xs : List ItemByte). take c.args.limit (now ++ xs)) (sym none) ∙ c.loop-child.invariant.left)
    ∙ ap (λ (xs : List ItemByte). take c.args.limit (map item_byte c.args.bytes.now.items ++ xs)) (group_bytes c.args.entry.now ns c.in-Group.is c.deref-child-items.ensures.value)
