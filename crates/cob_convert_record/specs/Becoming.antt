-- What becomes of one record.
use Rattle.std.specs.Prelude.{◌≡◌, ◌⊎◌, ℕ, List, Err}
use Rattle.cob_copybook_tree.specs.Forests.{Forest}
use Rattle.cob_copybook_tree.specs.Nodes.{Resolved}
use Rattle.cob_layout_places.specs.declared.counts.CountFault.{CountFault}
use Rattle.cob_layout.specs.Counting.{CountsOf}
use Rattle.cob_convert_stream.specs.Output.{IsOutputOf}
use Rattle.cob_move_initial.specs.Initial.{IsInitial}
use Rattle.cob_move_data.specs.declared.operands.Side.TheVariants.{Out}
use Rattle.cob_convert_record.specs.Conversion.{Conversion}
use Rattle.cob_move_apply.specs.declared.stop.Stop.{Stop}
use Rattle.cob_move_apply.specs.declared.stop.StopCause.TheVariants.{Count}
use Rattle.cob_move_apply.specs.Located.{stop_at}
use Rattle.cob_move_apply.specs.Applied.{done, stopped}
use Rattle.cob_move_deeds.specs.Deeds.{Carried}
use Rattle.cob_move_deeds.specs.Tests.{Judged}

-- An input record becomes what is written: the output record's storage goes from its initial values through all that is done, and is written.
pub record Becomes (conversion : Conversion) (input written : List ℕ) : Type 0 where
  pub initial : List ℕ
  pub begins : IsInitial conversion.records.output initial
  pub last : List ℕ
  pub carried : Carried (Judged conversion.records) conversion.records conversion.deeds input initial (done last)
  pub writes : IsOutputOf conversion.out_form conversion.records.output last written

-- the first count of an output storage that isn't valid stops the conversion, at its item
abbrev pub IsCountStop : Forest Resolved → List ℕ → Stop → Type 0
IsCountStop tree storage stop = (fault : CountFault) × CountsOf tree storage (Err fault) × (stop ≡ stop_at Out fault.offset Count)

-- The conversion of an input record stops: from the initial values, at a move or a test, or behind all of them at the first count of the output that isn't
-- valid.
pub record StopsAt (conversion : Conversion) (input : List ℕ) (stop : Stop) : Type 0 where
  pub initial : List ℕ
  pub begins : IsInitial conversion.records.output initial
  pub last : List ℕ
  pub stops : Carried (Judged conversion.records) conversion.records conversion.deeds input initial (stopped stop last)
      ⊎ (Carried (Judged conversion.records) conversion.records conversion.deeds input initial (done last) × IsCountStop conversion.records.output last stop)
