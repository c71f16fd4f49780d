use Rattle.std.proofs.Common.{◌∙◌, Ok}
use Rattle.cob_layout.proofs.MeasuringLemmas.{measures_some}
use Rattle.cob_layout.proofs.WholeLemmas.{keeps_all, needs_all, occurs_once, refers_whole, whole_long}
use Rattle.cob_layout.proofs.layout.Layout.length_at_once.Goals as goal

pub place_at_once-requires-clause-refers : goal.place_at_once-requires-clause-refers
place_at_once-requires-clause-refers c =
    let u = c.args.self.now in
    rw (c.whole_record-whole.ensures.node, c.whole_record-whole.ensures.none) (refers_whole u (c.records_are_sound.ensures u c.greatest.ensures.record) (occurs_once u c.greatest.ensures.record))

pub returns-in-Some-clause-ok : goal.returns-in-Some-clause-ok
returns-in-Some-clause-ok c =
    let u = c.args.self.now in
    let sound = c.records_are_sound.ensures u c.greatest.ensures.record in
    let own = c.whole_record-whole.ensures in
    let (cs, needed, at) = c.in-Some.ensures.found in
    (cs, needs_all u _ c.args.bytes.now (Ok cs) sound own.node needed, whole_long u cs _ c.in-Some.place c.greatest.ensures.record sound own.node own.none at)

pub returns-in-Some-clause-least : goal.returns-in-Some-clause-least
returns-in-Some-clause-least c =
    let u = c.args.self.now in
    let sound = c.records_are_sound.ensures u c.greatest.ensures.record in
    let own = c.whole_record-whole.ensures in
    let (cs, needed, at) = c.in-Some.ensures.found in
    measures_some u cs c.in-Some.place.length sound c.greatest.ensures.bytes (whole_long u cs _ c.in-Some.place c.greatest.ensures.record sound own.node own.none at)

pub returns-in-Some-clause-kept : goal.returns-in-Some-clause-kept
returns-in-Some-clause-kept c =
    let u = c.args.self.now in
    let sound = c.records_are_sound.ensures u c.greatest.ensures.record in
    let own = c.whole_record-whole.ensures in
    let (cs, needed, kept) = c.in-Some.ensures.kept in
    (cs, needs_all u _ c.args.bytes.now (Ok cs) sound own.node needed, kept ∙ keeps_all c.needs_are_read.ensures u _ cs _ sound own.node)
