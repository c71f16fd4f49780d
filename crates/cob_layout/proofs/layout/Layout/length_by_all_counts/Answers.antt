use Rattle.std.proofs.Common.{◌∙◌, Err, Ok}
use Rattle.cob_layout.proofs.MeasuringLemmas.{measures_some}
use Rattle.cob_layout.proofs.WholeLemmas.{keeps_all, needs_all, occurs_once, refers_whole, whole_long}
use Rattle.cob_layout.proofs.layout.Layout.length_by_all_counts.Goals as goal

pub find-requires-clause-refers : goal.find-requires-clause-refers
find-requires-clause-refers c =
    let u = c.args.self.now in
    rw (c.whole_record-whole.ensures.node, c.whole_record-whole.ensures.none) (refers_whole u (c.records_are_sound.ensures u c.greatest-greatest.ensures.record) (occurs_once u c.greatest-greatest.ensures.record))

pub returns-in-Ok-clause-ok : goal.returns-in-Ok-clause-ok
returns-in-Ok-clause-ok c =
    let u = c.args.self.now in
    let sound = c.records_are_sound.ensures u c.greatest-greatest.ensures.record in
    let own = c.whole_record-whole.ensures in
    let (cs, needed, at) = c.in-Ok.ensures.found in
    (cs, needs_all u _ c.args.bytes.now (Ok cs) sound own.node needed, whole_long u cs _ c.in-Ok.place c.greatest-greatest.ensures.record sound own.node own.none at)

pub returns-in-Ok-clause-least : goal.returns-in-Ok-clause-least
returns-in-Ok-clause-least c =
    let u = c.args.self.now in
    let sound = c.records_are_sound.ensures u c.greatest-greatest.ensures.record in
    let own = c.whole_record-whole.ensures in
    let (cs, needed, at) = c.in-Ok.ensures.found in
    measures_some u cs c.in-Ok.place.length sound c.greatest-greatest.ensures.bytes (whole_long u cs _ c.in-Ok.place c.greatest-greatest.ensures.record sound own.node own.none at)

pub returns-in-Ok-clause-kept : goal.returns-in-Ok-clause-kept
returns-in-Ok-clause-kept c =
    let u = c.args.self.now in
    let sound = c.records_are_sound.ensures u c.greatest-greatest.ensures.record in
    let own = c.whole_record-whole.ensures in
    let (cs, needed, kept) = c.in-Ok.ensures.kept in
    (cs, needs_all u _ c.args.bytes.now (Ok cs) sound own.node needed, kept ∙ keeps_all c.needs_are_read.ensures u _ cs _ sound own.node)

pub returns-in-Err-Count-clause-err : goal.returns-in-Err-Count-clause-err
returns-in-Err-Count-clause-err c =
    let u = c.args.self.now in
    let sound = c.records_are_sound.ensures u c.greatest-greatest.ensures.record in
    let own = c.whole_record-whole.ensures in
    let found = c.in-Err-Count.ensures.found in
    needs_all u _ c.args.bytes.now (Err c.in-Err-Count.fault) sound own.node (rw c.in-Err-Count.field-0-is at found)
