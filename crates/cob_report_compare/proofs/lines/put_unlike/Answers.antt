use Rattle.std.proofs.Common.{◌≡◌, ◌-◌, length}
use Rattle.cob_report_compare.proofs.PrintLemmas.{on_ok, unlike_is}
use Rattle.cob_report_compare.proofs.lines.put_unlike.Goals as goal

pub returns-clause-text : goal.returns-clause-text
returns-clause-text g c =
    let more : c.saturating_sub.result ≡ c.args.told.now.count - length c.as_slice-bytes.result.now = c.saturating_sub.ensures in
    on_ok c.put_more.result _ _
    (λ last. unlike_is c.args.left.now c.args.right.now c.args.told.now c.as_slice-bytes.result.now c.saturating_sub.result _ _ _ _ c.as_slice-bytes.ensures.value more c.in_ok-put_header_end.ensures.text c.in_ok-put_bytes.ensures.text last)
    c.put_more.ensures.text
