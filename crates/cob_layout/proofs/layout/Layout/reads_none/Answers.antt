use Rattle.std.proofs.Common.{◌≡◌, ◌==◌, ◌&&◌, length, map, ap, arith}
use Rattle.cob_copybook_tree.specs.Nodes.{tree_of}
use Rattle.cob_layout_places.specs.declared.varying.Table.{Table}
use Rattle.cob_layout_places.specs.Needs.{keep, is_needed}
use Rattle.cob_layout.specs.Standing.{are_none}
use Rattle.cob_layout.specs.Ways.{held, held_at, end_of_table}
use Rattle.cob_layout.proofs.ReadLaw.{known_in, first_is, none_of, some_of, those_read, reads_below}
use Rattle.cob_layout.proofs.layout.Layout.reads_none.Goals as goal

pub returns-in-Some-clause-must : goal.returns-in-Some-clause-must
returns-in-Some-clause-must c =
    let t = tree_of c.self.inside.root in
    let u = c.args.self.now in
    let ways = c.self.inside.ways.items in
    let tables = c.self.inside.tables.items in
    let k = known_in t u ways tables c.args.number c.self.invariant.1 c.self.view_is c.self.invariant.6 c.self.invariant.2 c.requires.there in
    let b : c.end_of_table-behind.result ≡ end_of_table (map held ways) c.args.number = rw c.deref.ensures.value at c.end_of_table-behind.ensures in
    let l : c.is_last_receiver-last.result ≡ (c.args.receiving && ((held_at (map held ways) c.args.number).end == length ways)) = rw c.deref-in-Some.ensures.value at c.is_last_receiver-last.ensures in
    let n : c.none_needed.result ≡ are_none (keep (is_needed c.end_of_table-behind.result c.is_last_receiver-last.result c.args.number) tables) = rw c.deref-in-Some-2.ensures.value at c.none_needed.ensures in
    let those = those_read c.needs_are_read.ensures u ways tables c.args.number c.end_of_table-behind.result c.args.receiving c.is_last_receiver-last.result k b l in
    λ yes_. none_of _ _ _ _ those n yes_

pub returns-in-Some-clause-only : goal.returns-in-Some-clause-only
returns-in-Some-clause-only c =
    let t = tree_of c.self.inside.root in
    let u = c.args.self.now in
    let ways = c.self.inside.ways.items in
    let tables = c.self.inside.tables.items in
    let k = known_in t u ways tables c.args.number c.self.invariant.1 c.self.view_is c.self.invariant.6 c.self.invariant.2 c.requires.there in
    let b : c.end_of_table-behind.result ≡ end_of_table (map held ways) c.args.number = rw c.deref.ensures.value at c.end_of_table-behind.ensures in
    let l : c.is_last_receiver-last.result ≡ (c.args.receiving && ((held_at (map held ways) c.args.number).end == length ways)) = rw c.deref-in-Some.ensures.value at c.is_last_receiver-last.ensures in
    let n : c.none_needed.result ≡ are_none (keep (is_needed c.end_of_table-behind.result c.is_last_receiver-last.result c.args.number) tables) = rw c.deref-in-Some-2.ensures.value at c.none_needed.ensures in
    let those = those_read c.needs_are_read.ensures u ways tables c.args.number c.end_of_table-behind.result c.args.receiving c.is_last_receiver-last.result k b l in
    λ no_ none. some_of _ _ _ _ those n no_ none

pub returns-in_default-clause-must : goal.returns-in_default-clause-must
returns-in_default-clause-must c =
    let t = tree_of c.self.inside.root in
    let u = c.args.self.now in
    let ways = c.self.inside.ways.items in
    let tables = c.self.inside.tables.items in
    let k = known_in t u ways tables c.args.number c.self.invariant.1 c.self.view_is c.self.invariant.6 c.self.invariant.2 c.requires.there in
    let b : c.end_of_table-behind.result ≡ end_of_table (map held ways) c.args.number = rw c.deref.ensures.value at c.end_of_table-behind.ensures in
    λ yes_. reads_below c.needs_are_read.ensures u ways tables c.args.number c.end_of_table-behind.result c.args.receiving k b (λ x xs cut.
    (let first = first_is tables xs x c.in-Some.first.now (rw c.deref-2.ensures.value at c.in-Some.ensures.value) cut in
    omega (arith, c.if-first-behind.false, ap (λ (y : Table). y.number) first)))
