use Rattle.std.proofs.Common.{ap, ◌∙◌}
use Rattle.cob_codec_lanes.specs.Words.{turned}
use Rattle.cob_codec_lanes.proofs.WideWordLemmas.{written_wide_word}
use Rattle.cob_codec_lanes.proofs.wide_word.WideWordWriter.write.Goals as goal

pub returns : goal.returns
returns c = λ count signed is tens more some.
    written_wide_word count signed c.args.self.now c.args.front c.args.back c.picked.result c.put_word.new.out c.args.minus c.number_in_both-magnitude.result c.turned.result is c.fits-front.0 c.fits-back.0 tens more some
    c.picked.ensures.long c.picked.ensures.lanes c.number_in_both-magnitude.ensures (c.turned.ensures ∙ ap (λ b. turned b c.number_in_both-magnitude.result) c.is_below-below.ensures) c.put_word.ensures
