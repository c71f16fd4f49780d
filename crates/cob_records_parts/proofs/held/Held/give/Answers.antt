use Rattle.std.proofs.Common.{rules}
use Rattle.cob_records_parts.proofs.Giving.{from_body, from_front}
use Rattle.cob_records_parts.proofs.held.Held.give.Goals as goal

pub returns-then-self-lt-FRONT-clause-gives : goal.returns-then-self-lt-FRONT-clause-gives
returns-then-self-lt-FRONT-clause-gives c =
    from_front c.args.self.now.at c.give_some-count.result c.args.self.now.front _ _ (search rules) c.give_some-count.ensures.given

pub returns-clause-gives : goal.returns-clause-gives
returns-clause-gives c =
    from_body c.args.self.now.at c.args.self.now.from c.args.self.now.end c.give_some-count-2.result c.args.self.now.front c.args.self.now.body.items _
    (search rules) (search rules) (rw c.deref.ensures.value at c.give_some-count-2.ensures.given)
