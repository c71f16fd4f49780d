use Rattle.std.proofs.Common.{true≢false, sym, map, ◌∙◌}
use Rattle.cob_report_show.specs.Elements.{named_item}
use Rattle.cob_report_compare.proofs.KeyLemmas.{stands_below, stands_in_order}
use Rattle.cob_report_compare.proofs.heads.is_below.Goals as goal

pub returns-then-first : goal.returns-then-first
returns-then-first c = record {
  yes = λ is. absurd (true≢false (sym is));
  no = λ is more. absurd (true≢false (sym c.if-first.true ∙ more));
}

pub returns : goal.returns
returns c =
    let keys = map named_item c.args.keys.now in
    record {
      yes = λ is. stands_below keys c.args.held.now c.args.next.now c.args.first c.order_of_keys.result c.is_gt.result c.order_of_keys.ensures c.is_gt.ensures c.if-first.false is;
      no = λ is. stands_in_order keys c.args.held.now c.args.next.now c.args.first c.order_of_keys.result c.is_gt.result c.order_of_keys.ensures c.is_gt.ensures is;
    }
