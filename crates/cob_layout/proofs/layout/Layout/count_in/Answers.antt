use Rattle.cob_layout.proofs.layout.Layout.count_in.Goals as goal

pub count_found-requires-clause-stands : goal.count_found-requires-clause-stands
count_found-requires-clause-stands c = (c.args.counts.now, c.place_of_count-found.ensures)

pub returns-in-Ok-clause-ok : goal.returns-in-Ok-clause-ok
returns-in-Ok-clause-ok c = c.in-Ok.ensures.ok c.args.counts.now c.place_of_count-found.ensures

pub returns-in-Err-clause-err : goal.returns-in-Err-clause-err
returns-in-Err-clause-err c = c.in-Err.ensures.err c.args.counts.now c.place_of_count-found.ensures
