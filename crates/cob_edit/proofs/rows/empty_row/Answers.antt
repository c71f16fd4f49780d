use Rattle.std.proofs.Common.{ap, ◌∙◌}
use Rattle.std.specs.List.{flat_map}
use Rattle.std.specs.Option.{option_to_list}
use Rattle.cob_edit.specs.Editing.{empty_cell}
use Rattle.cob_edit.specs.Rows.{row_bytes}
use Rattle.cob_edit.proofs.RowLemmas.{room_more, row_done, row_more}
use Rattle.cob_edit.proofs.rows.empty_row.Goals as goal

pub loop-place-preserved : goal.loop-place-preserved
loop-place-preserved c = record {
  room = room_more c.loop-place.row.items (option_to_list c.empty_place.result) c.push_shown.new.row.items c.args.places.now c.loop-place.place-index _ c.loop-place-test.true c.loop-place.invariant.room c.push_shown.ensures c.empty_place.ensures.count;
  text = λ ds negative. row_more ds negative c.loop-place.row.items (option_to_list c.empty_place.result) c.push_shown.new.row.items (empty_cell c.has_stars-stars.result) c.args.places.now c.loop-place.place-index _
      c.loop-place-test.true (c.loop-place.invariant.text ds negative) c.push_shown.ensures (c.empty_place.ensures.bytes ds negative);
}

pub returns-clause-text : goal.returns-clause-text
returns-clause-text c = λ ds negative.
    row_done (row_bytes ds negative c.loop-place.row.items) (empty_cell c.has_stars-stars.result) c.args.places.now c.loop-place.place-index _ c.loop-place-test.false (c.loop-place.invariant.text ds negative)
    ∙ ap (λ stars. flat_map (empty_cell stars) c.args.places.now) c.has_stars-stars.ensures
