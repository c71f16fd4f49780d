-- What is done to each record of a stream.
use Rattle.std.specs.Prelude.{◌≡◌, ℕ, List, length}
use Rattle.cob_codec.specs.declared.reading.Reading.{Reading}
use Rattle.cob_records.specs.declared.records.Form.{Form}
use Rattle.cob_copybook_tree.specs.Forests.{Forest}
use Rattle.cob_copybook_tree.specs.Nodes.{Resolved}
use Rattle.cob_layout.specs.Storage.{greatest_length}
use Rattle.cob_move_data.specs.Moves.{Records}
use Rattle.cob_move_deeds.specs.declared.ready.ReadyDeeds.{ReadyDeeds}
use Rattle.cob_move_deeds.specs.Deeds.{Deeds}
use Rattle.cob_move_deeds.specs.Flows.{deeds_by}
use Rattle.cob_move_deeds.specs.Prepared.{deeds_of}
use Rattle.cob_move_deeds.specs.Tests.{Test}
use Rattle.cob_move_initial.specs.Initial.{IsInitial}

-- what is done to each record: in which form it comes and what it becomes goes out, the two records, and what is done between them
pub record Conversion : Type 0 where
  pub in_form : Form
  pub out_form : Form
  pub records : Records
  pub deeds : Deeds Test

-- the conversion of records of these forms by these deeds, which were made ready between the two records
abbrev pub conversion_for : (in_form out_form : Form) → Records → ReadyDeeds → Conversion
conversion_for in_form out_form r deeds = record { in_form = in_form; out_form = out_form; records = r; deeds = deeds_of r deeds }

-- the same conversion, the senders of its moves read so
abbrev pub conversion_by : Reading → Conversion → Conversion
conversion_by reading c =
    record { in_form = c.in_form; out_form = c.out_form; records = c.records; deeds = deeds_by reading c.deeds }

-- the greatest length of an input record
abbrev pub in_length : Conversion → ℕ
in_length c = greatest_length c.records.input

-- the greatest length of an output record
abbrev pub out_length : Conversion → ℕ
out_length c = greatest_length c.records.output

-- this is a storage of the record before the first move, of the greatest length
abbrev pub IsImage : Forest Resolved → List ℕ → Type 0
IsImage tree image = IsInitial tree image × (length image ≡ greatest_length tree)

-- the record has a storage before the first move, of the greatest length
abbrev pub HasImage : Forest Resolved → Type 0
HasImage tree = (image : List ℕ) × IsInitial tree image × (length image ≡ greatest_length tree)
