-- Why moves stop at a record, as the reason of a run.
use Rattle.cob_move_apply.specs.declared.stop.Stop.{Stop}
use Rattle.cob_move_apply.specs.declared.stop.StopCause.{StopCause}
use Rattle.cob_move_apply.specs.declared.stop.StopCause.TheVariants.{NoValue as StopNoValue, Count as StopCount, Subscript as StopSubscript}
use Rattle.cob_convert_stream.specs.declared.fault.Cause.{Cause}
use Rattle.cob_convert_stream.specs.declared.fault.Cause.TheVariants.{NoValue, Count, Subscript}
use Rattle.cob_convert_stream.specs.declared.fault.Reason.{Reason}

-- a conversion's cause as a run's
abbrev pub cause_from : StopCause → Cause
cause_from StopNoValue = NoValue
cause_from StopCount = Count
cause_from StopSubscript = Subscript

-- the reason of a conversion that stopped
abbrev pub stop_reason : Stop → Reason
stop_reason stop = record { side = stop.side; offset = stop.offset; cause = cause_from stop.cause }
