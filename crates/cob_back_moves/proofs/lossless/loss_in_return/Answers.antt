use Rattle.std.proofs.Common.{refl, rules}
use Rattle.cob_back_moves.proofs.lossless.loss_in_return.Goals as goal

pub returns-in-Some-clause-loss : goal.returns-in-Some-clause-loss
returns-in-Some-clause-loss c = c.in-Some.ensures.loss c.args.there.now c.args.back.now refl

pub returns-in-Some-loss_of-clause-loss : goal.returns-in-Some-loss_of-clause-loss
returns-in-Some-loss_of-clause-loss c = c.in-Some-loss_of.ensures.loss c.args.there.now c.args.back.now refl

pub returns-clause-none : goal.returns-clause-none
returns-clause-none c =
    let a = c.in_default.ensures.none in
    let b = c.in_default-loss_of.ensures.none in record {
      elementary = a.elementary;
      elementary_back = b.elementary;
      pictured = a.pictured;
      pictured_back = b.pictured;
      once = a.once;
      once_back = b.once;
      named = c.are_all_named.ensures.0 (search rules);
      returned = c.in_default-lost_item.ensures.fine;
    }
