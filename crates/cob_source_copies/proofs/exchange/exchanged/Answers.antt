use Rattle.std.proofs.Common.{map, sym, ap, ◌∙◌}
use Rattle.std.proofs.lemmas.List.{drop-map}
use Rattle.cob_source_copies.specs.TextWords.{text_word}
use Rattle.cob_source_copies.specs.Exchanges.{exchanged, first_fitting, part_of_x, replacing}
use Rattle.cob_source_copies.proofs.ExchangeLemmas.{exchanged_more}
use Rattle.cob_source_copies.proofs.exchange.exchanged.Goals as goal

pub loop-first-preserved : goal.loop-first-preserved
loop-first-preserved c =
    let rs = map replacing c.args.exchanges.now in
    let vs = map text_word c.loop-first.rest.now in
    exchanged_more rs (map text_word c.loop-first.out.items) (map text_word c.push_first.new.out.items) vs (map text_word c.in-Some.more.now) (map text_word c.in_ok-rest.rest.now)
    (exchanged rs 0 (map text_word c.args.fragments.now)) (text_word c.in-Some.first.now) (ap (map text_word) c.in-Some.ensures.cases.0) c.in_ok-rest.ensures.put
    (ap (map text_word) c.in_ok-rest.ensures.rest ∙ sym (drop-map text_word (part_of_x (first_fitting rs vs)) c.in-Some.more.now)) c.loop-first.invariant
