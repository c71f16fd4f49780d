use Rattle.cob_codec_lanes.proofs.WordReading.{read_none, read_word}
use Rattle.cob_codec_lanes.proofs.binary.BinaryReader.read.Goals as goal

pub returns-then-magnitude-self : goal.returns-then-magnitude-self
returns-then-magnitude-self c = λ count signed wanted shift is within.
    let read = c.signed_in-minus in
    read_none count signed wanted shift c.args.self.now c.args.bytes.now _ read.result.0 read.result.1 is (read.ensures.value c.args.self.now.signed c.args.self.now.signs) read.ensures.nonzero c.if-magnitude-self.true

pub returns : goal.returns
returns c = λ count signed wanted shift is within.
    let read = c.signed_in-minus in
    read_word count signed wanted shift c.args.self.now c.args.bytes.now c.lanes_of.result c.picked.result read.result.0 read.result.1 is c.requires (read.ensures.value c.args.self.now.signed c.args.self.now.signs) read.ensures.nonzero
    c.if-magnitude-self.false c.lanes_of.ensures.long c.lanes_of.ensures.valid c.lanes_of.ensures.value c.picked.ensures.long c.picked.ensures.lanes
