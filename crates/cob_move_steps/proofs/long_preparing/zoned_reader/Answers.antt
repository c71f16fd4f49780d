use Rattle.std.proofs.Common.{inl}
use Rattle.cob_codec_lanes.specs.DigitItems.{IsDigitReaderOf}
use Rattle.cob_codec_lanes.specs.Pairs.{IsPairReaderOf}
use Rattle.cob_move_steps.proofs.LongKinds.{zoned_item}
use Rattle.cob_move_steps.proofs.long_preparing.zoned_reader.Goals as goal

pub returns-then-shape-lt16 : goal.returns-then-shape-lt16
returns-then-shape-lt16 c =
    let shape = c.shape-shape.result in
    let s = c.shape-shape.ensures in
    inl (record {
      number = c.requires.number;
      reads = zoned_item (λ represents size. IsPairReaderOf represents size c.zoned.result) c.args.item.now shape.digits shape.signed shape.leading c.requires.kind s.size s.digits s.signed s.leading c.zoned.ensures;
    })

pub returns-else-shape-lt16 : goal.returns-else-shape-lt16
returns-else-shape-lt16 c =
    let shape = c.shape-shape.result in
    let s = c.shape-shape.ensures in
    inl (record {
      number = c.requires.number;
      reads = zoned_item (λ represents size. IsDigitReaderOf represents size c.zoned-else-shape-lt16.result) c.args.item.now shape.digits shape.signed shape.leading c.requires.kind s.size s.digits s.signed s.leading c.zoned-else-shape-lt16.ensures;
    })
