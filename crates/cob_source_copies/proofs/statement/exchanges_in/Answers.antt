use Rattle.std.proofs.Common.{List, ◌∷◌, [], map, sym, ap, ◌∙◌, Option, option_map}
use Rattle.std.proofs.lemmas.List.{map-append}
use Rattle.cob_source_copies.specs.declared.exchange.Exchange.{Exchange}
use Rattle.cob_source_copies.specs.declared.operand.CopyOperand.{CopyOperand}
use Rattle.cob_source_copies.specs.Exchanges.{replacing}
use Rattle.cob_source_copies.specs.Statements.{replacings_in, written_operand}
use Rattle.cob_source_copies.proofs.OperandLemmas.{replacings_more}
use Rattle.cob_source_copies.proofs.statement.exchanges_in.Goals as goal

pub loop-x-preserved : goal.loop-x-preserved
loop-x-preserved c =
    let all = c.in-Some.ensures.cases.0 ∙ ap (λ (t : List CopyOperand). c.in-Some.x.now ∷ t) (c.in-Some-split_first.ensures.cases.0 ∙ ap (λ (t : List CopyOperand). c.in-Some-split_first.by.now ∷ t) c.in-Some-split_first-2.ensures.cases.0) in
    replacings_more (map replacing c.loop-x.out.items) (map replacing c.push.new.self.items) (replacing c.in-Some-2.exchange) (map written_operand c.loop-x.rest.now) (map written_operand c.in-Some-split_first-2.more.now)
    (written_operand c.in-Some.x.now) (written_operand c.in-Some-split_first.by.now) (written_operand c.in-Some-split_first-2.y.now) (replacings_in (map written_operand c.args.operands.now))
    (ap (map written_operand) all) (ap (λ (o : Option Exchange). option_map replacing o) (sym c.in-Some-2.is) ∙ c.in_ok-exchange.ensures)
    (ap (map replacing) c.in_ok-push.ensures.items ∙ map-append replacing c.loop-x.out.items (c.in-Some-2.exchange ∷ [])) c.loop-x.invariant
