use Rattle.std.proofs.Common.{ap, ◌∙◌}
use Rattle.cob_codec_lanes.specs.Words.{turned}
use Rattle.cob_codec_lanes.proofs.WordWriting.{written_word}
use Rattle.cob_codec_lanes.proofs.binary.BinaryWriter.write.Goals as goal

pub returns : goal.returns
returns c = λ count signed is size tens some.
    written_word count signed c.args.self.now c.args.digits c.picked.result c.put_word.new.out c.args.minus c.number_in-magnitude.result c.turned.result is c.fits-digits.0 tens some
    c.picked.ensures.long c.picked.ensures.lanes c.number_in-magnitude.ensures (c.turned.ensures ∙ ap (λ b. turned b c.number_in-magnitude.result) c.is_below-below.ensures) c.put_word.ensures
