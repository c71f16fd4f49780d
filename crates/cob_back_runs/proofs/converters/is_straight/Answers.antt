use Rattle.std.proofs.Common.{subst}
use Rattle.std.specs.Bool.{Decides}
use Rattle.cob_move_deeds.specs.Deeds.{Deeds, IsStraight}
use Rattle.cob_move_deeds.specs.Tests.{Test}
use Rattle.cob_back_runs.proofs.converters.is_straight.Goals as goal

pub is_straight-requires : goal.is_straight-requires
is_straight-requires c = record { prepared = (c.args.conversion.now.records, c.deeds.ensures.prepared) }

pub returns : goal.returns
returns c = subst (λ (d : Deeds Test). Decides c.is_straight.result (IsStraight d)) c.deeds.ensures.value (c.is_straight.ensures c.args.conversion.now.records)
