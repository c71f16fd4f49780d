use Rattle.std.proofs.Common.{◌≡◌, ◌∙◌, Some, subst}
use Rattle.cob_copybook_tree.specs.declared.node.Kind.TheVariants.{Group, Item as ItemKind}
use Rattle.cob_copybook_tree.specs.Nodes.{tree_of}
use Rattle.cob_layout_places.specs.Counts.{kind_in}
use Rattle.cob_layout_places.proofs.CountLemmas.{counted_err, counted_ok}
use Rattle.cob_layout.specs.Sound.{IsSound}
use Rattle.cob_layout.proofs.KindLaw.{room_of_kinds}
use Rattle.cob_layout.proofs.TakingLemmas.{count_item, described}
use Rattle.cob_layout.proofs.layout.Layout.count_found.Goals as goal

pub kind_at-requires : goal.kind_at-requires
kind_at-requires c =
    let item = count_item c.args.self.now c.args.table c.requires.stands.0 (subst IsSound c.self.view_is c.self.invariant.1) c.requires.table in
    room_of_kinds (tree_of c.self.inside.root) c.args.self.now c.deref.result.now c.args.table.count c.self.view_is (c.deref.ensures.value ∙ c.self.invariant.8) item.below

pub count_at-requires-clause-number : goal.count_at-requires-clause-number
count_at-requires-clause-number c =
    let item = count_item c.args.self.now c.args.table c.requires.stands.0 (subst IsSound c.self.view_is c.self.invariant.1) c.requires.table in
    let is : kind_in c.args.table.count c.args.self.now ≡ Some (ItemKind c.in-Item.item) = described (tree_of c.self.inside.root) c.args.self.now c.deref.result.now c.args.table.count c.kind_at.result.now (ItemKind c.in-Item.item) c.self.invariant.1.numbered c.self.view_is
    (c.deref.ensures.value ∙ c.self.invariant.8) item.below c.kind_at.ensures c.in-Item.is in
    item.number c.in-Item.item is

pub count_at-requires-clause-long : goal.count_at-requires-clause-long
count_at-requires-clause-long c =
    let item = count_item c.args.self.now c.args.table c.requires.stands.0 (subst IsSound c.self.view_is c.self.invariant.1) c.requires.table in
    let is : kind_in c.args.table.count c.args.self.now ≡ Some (ItemKind c.in-Item.item) = described (tree_of c.self.inside.root) c.args.self.now c.deref.result.now c.args.table.count c.kind_at.result.now (ItemKind c.in-Item.item) c.self.invariant.1.numbered c.self.view_is
    (c.deref.ensures.value ∙ c.self.invariant.8) item.below c.kind_at.ensures c.in-Item.is in
    item.long c.in-Item.item c.args.found is c.requires.stands.1

pub returns-in-Item-clause-ok : goal.returns-in-Item-clause-ok
returns-in-Item-clause-ok c =
    let item = count_item c.args.self.now c.args.table c.requires.stands.0 (subst IsSound c.self.view_is c.self.invariant.1) c.requires.table in
    let is : kind_in c.args.table.count c.args.self.now ≡ Some (ItemKind c.in-Item.item) = described (tree_of c.self.inside.root) c.args.self.now c.deref.result.now c.args.table.count c.kind_at.result.now (ItemKind c.in-Item.item) c.self.invariant.1.numbered c.self.view_is
    (c.deref.ensures.value ∙ c.self.invariant.8) item.below c.kind_at.ensures c.in-Item.is in
    counted_ok c.args.self.now c.args.bytes.now c.args.table c.in-Item.item c.args.found c.count_at.result is c.count_at.ensures.ok

pub returns-in-Item-clause-err : goal.returns-in-Item-clause-err
returns-in-Item-clause-err c =
    let item = count_item c.args.self.now c.args.table c.requires.stands.0 (subst IsSound c.self.view_is c.self.invariant.1) c.requires.table in
    let is : kind_in c.args.table.count c.args.self.now ≡ Some (ItemKind c.in-Item.item) = described (tree_of c.self.inside.root) c.args.self.now c.deref.result.now c.args.table.count c.kind_at.result.now (ItemKind c.in-Item.item) c.self.invariant.1.numbered c.self.view_is
    (c.deref.ensures.value ∙ c.self.invariant.8) item.below c.kind_at.ensures c.in-Item.is in
    counted_err c.args.self.now c.args.bytes.now c.args.table c.in-Item.item c.args.found c.count_at.result is c.count_at.ensures.err

pub returns-in-Group-clause-err : goal.returns-in-Group-clause-err
returns-in-Group-clause-err c =
    let item = count_item c.args.self.now c.args.table c.requires.stands.0 (subst IsSound c.self.view_is c.self.invariant.1) c.requires.table in
    absurd (item.item (described (tree_of c.self.inside.root) c.args.self.now c.deref.result.now c.args.table.count c.kind_at.result.now Group c.self.invariant.1.numbered c.self.view_is
    (c.deref.ensures.value ∙ c.self.invariant.8) item.below c.kind_at.ensures c.in-Group.is))
