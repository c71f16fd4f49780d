use Rattle.std.proofs.Common.{arith}
use Rattle.cob_move_apply.proofs.LocatedLemmas.{made_by_copy}
use Rattle.cob_move_apply.proofs.prepared.make_text.Goals as goal

pub returns-then-places-clause-made : goal.returns-then-places-clause-made
returns-then-places-clause-made c =
    made_by_copy c.args.prepared.now c.args.step c.args.places.now c.args.input.now c.args.output.now c.make_copy.new.output (omega (arith, c.if-places.true)) c.requires.reads c.make_copy.ensures.copied
