use Rattle.std.proofs.Common.{length, inl, inr}
use Rattle.std.proofs.lemmas.Bool.{cases_lt}
use Rattle.cob_codec_lanes.proofs.WindowLemmas.{take_last, take_padded}
use Rattle.cob_codec_lanes.proofs.reader.LaneReader.take.Goals as goal

pub returns : goal.returns
returns c =
    let r = c.args.self.now in
    let bytes = c.args.bytes.now in
    elim (cases_lt (length bytes) 16) [
      | inl few ↦ take_padded r bytes c.window_of.result c.take_window.result few c.type_inv.bytes (c.window_of.ensures.few few) c.take_window.ensures
      | inr many ↦ take_last r bytes c.window_of.result c.take_window.result many c.type_inv.bytes (c.window_of.ensures.many many) c.take_window.ensures
    ]
