use Rattle.std.proofs.Common.{◌≡◌, ◌∙◌, List, None, ap, length, replicate, sym}
use Rattle.cob_copybook_tree.specs.Nodes.{tree_of}
use Rattle.cob_layout_places.specs.declared.spots.Spot.{Spot}
use Rattle.cob_layout_places.specs.declared.varying.Table.{Table}
use Rattle.cob_layout_places.specs.Counts.{tables_of}
use Rattle.cob_layout_places.specs.Lengths.{times}
use Rattle.cob_layout_places.proofs.SpotLemmas.{length_spots}
use Rattle.cob_layout.specs.Counting.{greatest_counts}
use Rattle.cob_layout.specs.Shifts.{growths_from}
use Rattle.cob_layout.specs.Standing.{Standing, IsRoomFor, KeepsNone}
use Rattle.cob_layout.proofs.GreatestLemmas.{greatest_length}
use Rattle.cob_layout.proofs.RecordLemmas.{made, new_room}
use Rattle.cob_layout.proofs.RefreshLemmas.{unkept}
use Rattle.cob_layout.proofs.layout.Layout.new_counts.Goals as goal

pub new-requires : goal.new-requires
new-requires c =
    let t = tree_of c.self.inside.root in
    record {
      spots = ap length (c.in_ok-spots.ensures ∙ c.spots.ensures ∙ c.self.invariant.7) ∙ length_spots (times (greatest_counts t)) t 0 0
          ∙ sym (ap length (c.in_ok-taken.ensures ∙ c.as_slice.ensures ∙ c.self.invariant.3) ∙ greatest_length t c.self.invariant.1.numbered);
    }

pub returns-clause-room : goal.returns-clause-room
returns-clause-room c =
    let t = tree_of c.self.inside.root in
    let all : c.deref.result.now ≡ tables_of t = c.deref.ensures.value ∙ c.self.invariant.2 in
    let s : Standing = record {
      counts = c.in_ok-taken.taken.items;
      spots = c.in_ok-spots.spots.items;
      kept = replicate (length c.deref.result.now) None;
      tables = c.deref.result.now;
      growths = c.deref-2.result.now;
    } in
    made (IsRoomFor c.args.self.now) c.new.result s c.new.ensures
    (new_room t c.args.self.now s c.self.invariant.1 c.self.view_is (c.in_ok-taken.ensures ∙ c.as_slice.ensures ∙ c.self.invariant.3) (ap (λ (xs : List Table). replicate (length xs) None) all) all
    (c.deref-2.ensures.value ∙ c.self.invariant.12 ∙ ap (λ (ls : List Spot). growths_from ls 0 t) c.self.invariant.10))

pub returns-clause-none : goal.returns-clause-none
returns-clause-none c =
    let s : Standing = record {
      counts = c.in_ok-taken.taken.items;
      spots = c.in_ok-spots.spots.items;
      kept = replicate (length c.deref.result.now) None;
      tables = c.deref.result.now;
      growths = c.deref-2.result.now;
    } in
    made KeepsNone c.new.result s c.new.ensures (unkept (length c.deref.result.now))
