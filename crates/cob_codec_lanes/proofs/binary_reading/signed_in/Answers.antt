use Rattle.cob_codec_lanes.proofs.WordReading.{last_long, word_below, word_plain}
use Rattle.cob_codec_lanes.proofs.binary_reading.signed_in.Goals as goal

pub returns-then-number-plain-clause-value : goal.returns-then-number-plain-clause-value
returns-then-number-plain-clause-value c = λ signed is.
    let word = c.word_in-number in
    word_below c.args.width signed c.args.plain word.result c.greatest-greatest.result _ is word.ensures.fits c.greatest-greatest.ensures c.if-number-plain.true word.ensures.value (last_long _ c.args.bytes.now c.requires)

pub returns-else-number-plain-clause-value : goal.returns-else-number-plain-clause-value
returns-else-number-plain-clause-value c = λ signed is.
    let word = c.word_in-number in
    word_plain c.args.width signed c.args.plain word.result _ is c.if-number-plain.false word.ensures.value (last_long _ c.args.bytes.now c.requires)
