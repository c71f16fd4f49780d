-- What is done to a record, flow by flow.
use Rattle.std.specs.Prelude.{◌≡◌, ℕ, List, Ok, Err, Result}
use Rattle.cob_layout.specs.Storage.{IsStorage}
use Rattle.cob_move_data.specs.Moves.{Records}
use Rattle.cob_move_apply.specs.Applied.{Ending, ending}
use Rattle.cob_move_apply.specs.declared.stop.Stop.{Stop}
use Rattle.cob_move_deeds.specs.Prepared.{AreDeedsPrepared}
use Rattle.cob_report_explain.specs.Seen.{records_of_layouts}
use Rattle.cob_report_explain.specs.Walked.{plain_stop}
use Rattle.cob_report_explain.specs.declared.flows.Walk.{Walk}
use Rattle.cob_report_explain.specs.declared.walk.RecordStop.{RecordStop}

-- the records that are walked between
abbrev pub records_walked : Walk → Records
records_walked w = records_of_layouts w.layouts

-- what is done was made ready for these records, its senders are read as the layouts say, and the input is a storage of its record
pub record IsWalk (w : Walk) : Type 0 where
  pub prepared : AreDeedsPrepared (records_walked w) w.deeds.now
  pub reading : w.layouts.reading ≡ w.deeds.now.moves.moves.reading
  pub input : IsStorage w.layouts.input.now w.input.now

-- an answer, with the stop that a run tells
abbrev pub plain_answer : {A : Type 0} → Result A RecordStop → Result A Stop
plain_answer (Ok a) = Ok a
plain_answer (Err stop) = Err (plain_stop stop)

-- how a walk ends: with the stop that a run tells or none, and with the storage that it leaves
abbrev pub walked_ending : {A : Type 0} → Result A RecordStop → List ℕ → Ending
walked_ending answer storage = ending (plain_answer answer) storage
