use Rattle.std.proofs.Common.{inl}
use Rattle.cob_codec_lanes.specs.Pairs.{IsPairReaderOf}
use Rattle.cob_move_steps.proofs.LongKinds.{packed_item}
use Rattle.cob_move_steps.proofs.long_preparing.packed_reader.Goals as goal

pub returns : goal.returns
returns c =
    let shape = c.shape.result in
    let s = c.shape.ensures in
    inl (record {
      number = c.requires.number;
      reads = packed_item (λ represents size. IsPairReaderOf represents size c.packed.result) c.args.item.now shape.digits shape.signed c.requires.kind s.size s.digits s.signed c.packed.ensures;
    })
