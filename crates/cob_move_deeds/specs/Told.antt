-- What is told of flows.
use Rattle.cob_move_deeds.specs.declared.flow.Flow.{Flow}
use Rattle.cob_move_deeds.specs.declared.flow.Flow.TheVariants as flow

-- a flow carries out moves alone
abbrev pub MovesAlone : Flow → Type 0
MovesAlone (flow.Moves number) = Unit {0}
MovesAlone (flow.Turns number) = ⊥
MovesAlone (flow.Until bound number skip) = ⊥
MovesAlone (flow.Where condition holding lacking) = ⊥
MovesAlone (flow.Skip count) = ⊥
