use Rattle.std.proofs.Common.{ℕ, ◌+◌, ◌-◌, Option, ap}
use Rattle.cob_records_parts.proofs.Behind.{behind_whole}
use Rattle.cob_records_parts.proofs.part.StreamPart.jumped.Goals as goal
use Rattle.cob_records_parts.specs.declared.part.StreamPart.{StreamPart}

pub returns : goal.returns
returns c = λ file long.
    let whole = c.whole_records-whole in
    let piece = c.size_in.ensures.size file long in
    let part : Option ℕ → StreamPart = λ bytes. record {
      from = c.args.self.from + whole.result.bytes;
      bytes = bytes;
      skip = c.args.self.skip - whole.result.records;
    } in
    behind_whole c.args.greatest whole.result.records whole.result.bytes c.size_in.result c.args.self _ file piece whole.ensures.bytes
    whole.ensures.within whole.ensures.few whole.ensures.most (whole.ensures.front _ piece) (ap part c.less_by.ensures)
