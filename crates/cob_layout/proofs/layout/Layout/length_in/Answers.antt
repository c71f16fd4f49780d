use Rattle.std.proofs.Common.{arith}
use Rattle.cob_layout.proofs.StandingLemmas.{length_by}
use Rattle.cob_layout.proofs.layout.Layout.length_in.Goals as goal

pub overflow_mul-result : goal.overflow_mul-result
overflow_mul-result c =
    let u = c.args.self.now in
    let h = length_by u c.args.counts.now c.spots.result.now c.spot_at-record.result (c.records_are_sound.ensures u c.greatest.ensures.record) c.greatest.ensures.bytes c.requires.stands c.spots.ensures c.spot_at-record.ensures in
    omega (arith, h.small)

pub overflow_cast-result : goal.overflow_cast-result
overflow_cast-result c =
    let u = c.args.self.now in
    let h = length_by u c.args.counts.now c.spots.result.now c.spot_at-record.result (c.records_are_sound.ensures u c.greatest.ensures.record) c.greatest.ensures.bytes c.requires.stands c.spots.ensures c.spot_at-record.ensures in
    omega (arith, h.small)

pub returns-clause-value : goal.returns-clause-value
returns-clause-value c =
    let u = c.args.self.now in
    let h = length_by u c.args.counts.now c.spots.result.now c.spot_at-record.result (c.records_are_sound.ensures u c.greatest.ensures.record) c.greatest.ensures.bytes c.requires.stands c.spots.ensures c.spot_at-record.ensures in
    h.is

pub returns-clause-least : goal.returns-clause-least
returns-clause-least c =
    let u = c.args.self.now in
    let h = length_by u c.args.counts.now c.spots.result.now c.spot_at-record.result (c.records_are_sound.ensures u c.greatest.ensures.record) c.greatest.ensures.bytes c.requires.stands c.spots.ensures c.spot_at-record.ensures in
    h.least

pub returns-clause-most : goal.returns-clause-most
returns-clause-most c =
    let u = c.args.self.now in
    let h = length_by u c.args.counts.now c.spots.result.now c.spot_at-record.result (c.records_are_sound.ensures u c.greatest.ensures.record) c.greatest.ensures.bytes c.requires.stands c.spots.ensures c.spot_at-record.ensures in
    h.most
