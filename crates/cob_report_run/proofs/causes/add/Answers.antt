use Rattle.std.proofs.Common.{◌∙◌, refl, sym}
use Rattle.cob_report_run.proofs.CountLemmas.{one_behind}
use Rattle.cob_report_run.proofs.causes.add.Goals as goal

pub returns-then-len-lt-MOST-clause-added : goal.returns-then-len-lt-MOST-clause-added
returns-then-len-lt-MOST-clause-added c = λ ok.
    one_behind c.args.counts.now.items c.push.new.self.items _ refl (rw (sym c.is_ok.ensures.value ∙ ok) at c.push.ensures.items)
