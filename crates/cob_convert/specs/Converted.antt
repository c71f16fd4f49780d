-- A run whose ends all worked: the conversion of what came, record by record.
use Rattle.std.specs.Prelude.{◌≡◌, ℕ, false, List, [], Option, Result}
use Rattle.std.specs.List.{AllByRecursion}
use Rattle.cob_records.specs.Device.{Took}
use Rattle.cob_records.specs.Forms.{Come, written_of}
use Rattle.cob_convert_record.specs.Conversion.{Conversion}
use Rattle.cob_convert_stream.specs.declared.fault.RunFault.{RunFault}
use Rattle.cob_convert_stream.specs.Input.{records_in}
use Rattle.cob_convert.specs.Run.{IsConverted, Ends, is_read_stop, is_write_stop, records_out}

-- These bytes are the frames of records, one after another, in form b within their blocks, up to a clean end, a stop or the limit, where the
-- rest is still to come; what is written are the frames of what these records become, in form b in greedy blocks; and the answer says how it
-- ended.
pub record Converted (conversion : Conversion) (bytes rest written : List ℕ) (answer : Result ℕ RunFault) : Type 0 where
  pub pairs : List (List ℕ × List ℕ)
  pub opened : ℕ
  pub left : List ℕ
  pub come : Come conversion.in_form 0 (records_in pairs) bytes opened left
  pub each : AllByRecursion (IsConverted conversion) pairs
  pub output : written ≡ written_of conversion.out_form (records_out pairs)
  pub ends : Ends conversion pairs (record { opened = opened; left = left; rest = rest }) written [] answer
  pub read : is_read_stop answer ≡ false
  pub wrote : is_write_stop answer ≡ false

-- the sink took the conversion of these bytes, up to the rest
abbrev pub Writes : Conversion → Result ℕ RunFault → List ℕ → List ℕ → Option (List ℕ) → Option (List ℕ) → Type 0
Writes conversion answer bytes rest before now = Took before now (λ written. Converted conversion bytes rest written answer)
