use Rattle.std.proofs.Common.{subst}
use Rattle.cob_picture.specs.Counts.{signed}
use Rattle.cob_codec_lanes.specs.WideWords.{IsWideWordReaderOf}
use Rattle.cob_move_steps.proofs.long_preparing.word_reader.Goals as goal

pub returns : goal.returns
returns c =
    let shape = c.shape.result in
    let s = c.shape.ensures in
    record {
      number = c.requires.number;
      binary = c.requires.kind;
      reads = subst (λ n. IsWideWordReaderOf n (signed c.args.item.now.picture.positions) c.of.result) s.digits (subst (λ b. IsWideWordReaderOf shape.digits b c.of.result) s.signed c.of.ensures);
    }
