-- Parts that stand in for outputs until all is converted.
use Rattle.std.specs.Prelude.{Bool, true, false, None, Some, Option}

-- what stands in for outputs: their parts, where outputs are put in their places only when all is converted
abbrev pub part_by : {A : Type 0} → (atomic : Bool) → A → Option A
part_by true part = Some part
part_by false part = None
