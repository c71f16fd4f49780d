use Rattle.std.proofs.Common.{[], ◌∷◌, ◌∙◌}
use Rattle.std.proofs.lemmas.Result.{err_from_is_err_and}
use Rattle.cob_report_show.specs.declared.values.Notation.TheVariants.{Digits}
use Rattle.cob_report_show.specs.Sent.{BeginsOne, IsAddedTo, IsBehindFront}
use Rattle.cob_report_show.specs.Values.{ArePieces, AreUnknown}
use Rattle.cob_report_show.proofs.PieceLemmas.{cut_line, end_line, unknown_ends}
use Rattle.cob_report_show.proofs.values.put_unknown.Goals as goal

pub returns-in_err-put_pieces-clause-lines : goal.returns-in_err-put_pieces-clause-lines
returns-in_err-put_pieces-clause-lines g c =
    let p = err_from_is_err_and c.from_residual.result c.from_residual.ensures.1 in
    let are = ArePieces Digits c.args.bytes.now in
    rw p.1 (cut_line c.args.line.now.items c.push.new.self.items (10 ∷ []) are (AreUnknown c.args.bytes.now)
    (IsAddedTo c.push.new.self.items c.put_pieces.new.line.items are) c.args.sent.now c.put_pieces.new.sent c.in_err-put_pieces.field-0.0 _ _
    (unknown_ends c.args.line.now.items c.push.new.self.items c.args.bytes.now c.push.ensures.items) c.in_err-put_pieces.ensures.lines)

pub returns-clause-lines : goal.returns-clause-lines
returns-clause-lines g c =
    let are = ArePieces Digits c.args.bytes.now in
    end_line c.args.line.now.items c.push.new.self.items (10 ∷ []) c.put_pieces.new.line.items c.as_slice.result.now are (AreUnknown c.args.bytes.now)
    (BeginsOne (IsBehindFront c.push.new.self.items are)) c.args.sent.now c.put_pieces.new.sent c.put.new.sent c.put.result _ _ _
    (unknown_ends c.args.line.now.items c.push.new.self.items c.args.bytes.now c.push.ensures.items)
    (c.as_slice.ensures.value ∙ c.push-2.ensures.items) c.in_ok-put_pieces.ensures.lines c.put.ensures.lines
