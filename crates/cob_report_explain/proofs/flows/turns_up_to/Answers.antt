use Rattle.std.proofs.Common.{sym, arith}
use Rattle.cob_move_deeds.proofs.LoopLemmas.{turns_some}
use Rattle.cob_report_explain.proofs.flows.turns_up_to.Goals as goal

pub returns : goal.returns
returns c = sym (turns_some c.args.one.now.from c.args.one.now.by c.args.number (omega (arith, c.if-number-one.false)))
