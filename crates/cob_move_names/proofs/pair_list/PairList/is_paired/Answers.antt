use Rattle.std.proofs.Common.{sym, ◌∙◌}
use Rattle.cob_move_names.specs.PlainPairs.{pair, pairs}
use Rattle.cob_move_names.specs.Pairs.{receives, sends}
use Rattle.cob_move_names.proofs.NumberLemmas.{some_in}
use Rattle.cob_move_names.proofs.OnceLemmas.{received_twice, sent_twice}
use Rattle.cob_move_names.proofs.pair_list.PairList.is_paired.Goals as goal

pub returns-then-contains-clause-yes : goal.returns-then-contains-clause-yes
returns-then-contains-clause-yes c =
    let ps = pairs c.args.self.now.list.items in
    let number = (pair c.args.one.now).from.number in
    λ _ once. sent_twice ps (pair c.args.one.now) (some_in (sends number ps) (sym (c.contains.ensures ∙ c.args.self.now.sent number) ∙ c.if-contains.true)) once

pub returns-else-contains-clause-yes : goal.returns-else-contains-clause-yes
returns-else-contains-clause-yes c =
    let ps = pairs c.args.self.now.list.items in
    let number = (pair c.args.one.now).to.number in
    λ e once. received_twice ps (pair c.args.one.now) (some_in (receives number ps) (sym (c.contains-else-contains.ensures ∙ c.args.self.now.received number) ∙ e)) once
