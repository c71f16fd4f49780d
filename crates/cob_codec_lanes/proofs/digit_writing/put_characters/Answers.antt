use Rattle.std.proofs.Common.{◌∙◌}
use Rattle.cob_codec_lanes.proofs.DigitWriting.{both_put}
use Rattle.cob_codec_lanes.proofs.digit_writing.put_characters.Goals as goal

pub returns : goal.returns
returns c = λ tens more.
    both_put c.args.out.now c.args.front c.args.back c.copy_from_slice.new.self c.copy_from_slice-2.new.self c.requires.many c.requires.room c.fits-front.0 c.fits-back.0
    (c.copy_from_slice.ensures.after ∙ c.characters.ensures tens) (c.copy_from_slice-2.ensures.after ∙ c.characters-2.ensures more)
