use Rattle.std.proofs.Common.{refl}
use Rattle.cob_codec_lanes.proofs.WideWordLemmas.{read_wide_word}
use Rattle.cob_codec_lanes.proofs.wide_word.WideWordReader.read.Goals as goal

pub returns : goal.returns
returns c = λ count signed is within.
    let read = c.signed_in-minus in
    let r = c.args.self.now in
    read_wide_word count signed r c.args.bytes.now c.both_lanes_of.result.0 c.both_lanes_of.result.1 _ read.result.0 read.result.1 is c.requires (read.ensures.value r.signed r.signs) read.ensures.nonzero
    refl c.both_lanes_of.ensures
