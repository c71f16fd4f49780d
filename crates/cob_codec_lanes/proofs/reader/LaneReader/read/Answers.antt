use Rattle.std.proofs.Common.{length, inl, inr}
use Rattle.std.proofs.lemmas.Bool.{cases_lt}
use Rattle.cob_codec_lanes.proofs.WindowLemmas.{read_last, read_padded}
use Rattle.cob_codec_lanes.proofs.reader.LaneReader.read.Goals as goal

pub returns : goal.returns
returns c =
    let r = c.args.self.now in
    let bytes = c.args.bytes.now in
    let read = c.read_window.result in
    elim (cases_lt (length bytes) 16) [
      | inl few ↦
          read_padded r bytes c.window_of.result read.digits read.is_number read.minus few c.type_inv.bytes (c.window_of.ensures.few few)
          c.read_window.ensures.number c.read_window.ensures.nothing c.read_window.ensures.digits
      | inr many ↦
          read_last r bytes c.window_of.result read.digits read.is_number read.minus many c.type_inv.bytes (c.window_of.ensures.many many)
          c.read_window.ensures.number c.read_window.ensures.nothing c.read_window.ensures.digits
    ]
