use Rattle.std.proofs.Common.{get_or, refl}
use Rattle.cob_back_losses.proofs.EndLemmas.{known_further, set_end}
use Rattle.cob_back_losses.proofs.later.known_end.Goals as goal

pub returns-clause-covered : goal.returns-clause-covered
returns-clause-covered c = λ marks before. known_further marks c.args.ends.now c.args.at (get_or c.args.ends.now c.args.at 0) refl before

pub returns-clause-ends : goal.returns-clause-ends
returns-clause-ends c = λ marks before.
    let end = get_or c.args.ends.now c.args.at 0 in
    set_end marks c.args.ends.now c.args.at (get_or c.args.ends.now end 0) c.requires (known_further marks c.args.ends.now c.args.at end refl before) before
