use Rattle.std.proofs.Common.{◌≡◌, ◌==◌, ◌&&◌, length, map, sym, ◌∙◌}
use Rattle.cob_copybook_tree.specs.Nodes.{tree_of}
use Rattle.cob_layout.specs.Ways.{held, held_at, end_of_table}
use Rattle.cob_layout.proofs.ReadLaw.{known_in, last_is}
use Rattle.cob_layout.proofs.WayLaw.{reach_table_end}
use Rattle.cob_layout.proofs.layout.Layout.needed_by.Goals as goal

pub returns-clause-behind : goal.returns-clause-behind
returns-clause-behind c =
    let t = tree_of c.self.inside.root in
    let u = c.args.self.now in
    let ways = c.self.inside.ways.items in
    let k = known_in t u ways c.self.inside.tables.items c.args.number c.self.invariant.1 c.self.view_is c.self.invariant.6 c.self.invariant.2 c.requires.there in
    let b : c.end_of_table-behind.result ≡ end_of_table (map held ways) c.args.number = rw c.deref.ensures.value at c.end_of_table-behind.ensures in
    b ∙ sym (reach_table_end u (map held ways) c.args.number k.sound.numbered k.ways_are k.has)

pub returns-clause-last : goal.returns-clause-last
returns-clause-last c =
    let t = tree_of c.self.inside.root in
    let u = c.args.self.now in
    let ways = c.self.inside.ways.items in
    let k = known_in t u ways c.self.inside.tables.items c.args.number c.self.invariant.1 c.self.view_is c.self.invariant.6 c.self.invariant.2 c.requires.there in
    let l : c.is_last_receiver-last.result ≡ (c.args.receiving && ((held_at (map held ways) c.args.number).end == length ways)) = rw c.deref-2.ensures.value at c.is_last_receiver-last.ensures in
    l ∙ last_is u ways c.self.inside.tables.items c.args.number c.args.receiving k
