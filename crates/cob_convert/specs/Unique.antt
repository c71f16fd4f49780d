-- Bytes have one conversion: what is written, what is answered and where it stops are determined.
use Rattle.std.specs.Prelude.{◌≡◌, ℕ, ◌<◌, ◌≤◌, List, Result}
use Rattle.cob_limits.specs.Limits.{longest_record}
use Rattle.cob_copybook_tree.specs.Forests.{Forest}
use Rattle.cob_copybook_tree.specs.Nodes.{Resolved}
use Rattle.cob_layout.specs.Storage.{greatest_length}
use Rattle.cob_records.specs.Forms.{HasBlockSize}
use Rattle.cob_convert_record.specs.Conversion.{Conversion}
use Rattle.cob_convert_stream.specs.declared.fault.RunFault.{RunFault}
use Rattle.cob_convert.specs.Converted.{Converted}

-- a record has from 1 to 32,752 bytes
pub record HasBytes (tree : Forest Resolved) : Type 0 where
  pub some : 0 < greatest_length tree
  pub most : greatest_length tree ≤ longest_record

-- two conversions of the same bytes have written the same bytes, have one answer and leave the same rest
abbrev pub ConversionIsOne : Type 0
ConversionIsOne = (conversion : Conversion) (bytes rest left written other : List ℕ) (answer second : Result ℕ RunFault)
    → HasBytes conversion.records.input → HasBlockSize conversion.in_form
    → Converted conversion bytes rest written answer → Converted conversion bytes left other second
    → (written ≡ other) × (answer ≡ second) × (rest ≡ left)
