use Rattle.std.proofs.Common.{◌∙◌, Err, Ok, arith}
use Rattle.std.proofs.lemmas.Result.{err_from_is_err_and}
use Rattle.cob_layout.proofs.MeasuringLemmas.{measures, measures_some}
use Rattle.cob_layout.proofs.WholeLemmas.{found_long, keeps_all, needs_all, occurs_once, reads_lone, refers_whole}
use Rattle.cob_layout.proofs.layout.Layout.length_by_lone_count.Goals as goal

pub found_lone-requires-clause-refers : goal.found_lone-requires-clause-refers
found_lone-requires-clause-refers c =
    let u = c.args.self.now in
    rw (c.whole_record-whole.ensures.node, c.whole_record-whole.ensures.none) (refers_whole u (c.records_are_sound.ensures u c.greatest.ensures.record) (occurs_once u c.greatest.ensures.record))

pub found_lone-requires-clause-read : goal.found_lone-requires-clause-read
found_lone-requires-clause-read c =
    let u = c.args.self.now in
    let sound = c.records_are_sound.ensures u c.greatest.ensures.record in
    let own = c.whole_record-whole.ensures in
    reads_lone c.needs_are_read.ensures u _ _ sound own.node c.requires.lone.only

pub overflow_cast-result : goal.overflow_cast-result
overflow_cast-result c =
    let u = c.args.self.now in
    let sound = c.records_are_sound.ensures u c.greatest.ensures.record in
    let own = c.whole_record-whole.ensures in
    let (cs, needed, at, kept) = c.in_ok-found.ensures.came in
    let long = found_long u cs _ c.in_ok-found.found c.greatest.ensures.record sound own.node own.none at in
    omega (arith, (measures u cs c.in_ok-found.found.length sound long).small)

pub returns-clause-ok : goal.returns-clause-ok
returns-clause-ok c =
    let u = c.args.self.now in
    let sound = c.records_are_sound.ensures u c.greatest.ensures.record in
    let own = c.whole_record-whole.ensures in
    let (cs, needed, at, kept) = c.in_ok-found.ensures.came in
    (cs, needs_all u _ c.args.bytes.now (Ok cs) sound own.node needed, found_long u cs _ c.in_ok-found.found c.greatest.ensures.record sound own.node own.none at)

pub returns-clause-least : goal.returns-clause-least
returns-clause-least c =
    let u = c.args.self.now in
    let sound = c.records_are_sound.ensures u c.greatest.ensures.record in
    let own = c.whole_record-whole.ensures in
    let (cs, needed, at, kept) = c.in_ok-found.ensures.came in
    let long = found_long u cs _ c.in_ok-found.found c.greatest.ensures.record sound own.node own.none at in
    measures_some u cs c.in_ok-found.found.length sound c.greatest.ensures.bytes long

pub returns-clause-most : goal.returns-clause-most
returns-clause-most c =
    let u = c.args.self.now in
    let sound = c.records_are_sound.ensures u c.greatest.ensures.record in
    let own = c.whole_record-whole.ensures in
    let (cs, needed, at, kept) = c.in_ok-found.ensures.came in
    let long = found_long u cs _ c.in_ok-found.found c.greatest.ensures.record sound own.node own.none at in
    (measures u cs c.in_ok-found.found.length sound long).most

pub returns-clause-kept : goal.returns-clause-kept
returns-clause-kept c =
    let u = c.args.self.now in
    let sound = c.records_are_sound.ensures u c.greatest.ensures.record in
    let own = c.whole_record-whole.ensures in
    let (cs, needed, at, kept) = c.in_ok-found.ensures.came in
    (cs, needs_all u _ c.args.bytes.now (Ok cs) sound own.node needed, kept ∙ keeps_all c.needs_are_read.ensures u _ cs _ sound own.node)

pub returns-in_err-found-clause-err : goal.returns-in_err-found-clause-err
returns-in_err-found-clause-err c =
    let u = c.args.self.now in
    let sound = c.records_are_sound.ensures u c.greatest.ensures.record in
    let own = c.whole_record-whole.ensures in
    let p = err_from_is_err_and c.from_residual.result c.from_residual.ensures.1 in
    rw (p.1, p.2) (needs_all u _ c.args.bytes.now (Err c.in_err-found.field-0.0) sound own.node c.in_err-found.ensures.err)
