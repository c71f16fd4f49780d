-- Conversions of pieces: what conversions of bytes that stand one behind another come to together.
use Rattle.std.specs.Prelude.{◌≡◌, ℕ, ◌+◌, ◌≤◌, true, min, List, [], ◌∷◌, ◌++◌, length, Ok, Err, Result}
use Rattle.cob_records.specs.Blocks.{joined}
use Rattle.cob_records.specs.Device.{greatest_count}
use Rattle.cob_records.specs.Forms.{HasBlockSize, written_of}
use Rattle.cob_records.specs.Frame.{is_unblocked}
use Rattle.cob_convert_record.specs.Conversion.{Conversion}
use Rattle.cob_convert_stream.specs.declared.fault.RunFault.{RunFault}
use Rattle.cob_convert.specs.Converted.{Converted}
use Rattle.cob_convert.specs.Run.{most_records, records_out}
use Rattle.cob_convert.specs.Unique.{HasBytes}

-- the number of the record with which a conversion is over: the one that stopped it, or the first that didn't come any more
abbrev pub last_number : Result ℕ RunFault → ℕ
last_number (Ok number) = number + 1
last_number (Err fault) = fault.number

-- The answer of a conversion as it is where so many records were converted before it, and so many bytes are written in all.
abbrev pub counted_on : (records sent : ℕ) → Result ℕ RunFault → Result ℕ RunFault
counted_on records sent (Ok number) = Ok (records + number)
counted_on records sent (Err fault) =
    Err (record { number = records + fault.number; side = fault.side; offset = fault.offset; cause = fault.cause; written = min sent greatest_count })

-- These bytes and this answer are those of two conversions together, of which the first converted so many records: the records that both became stand
-- one behind another, in form b in blocks that fill anew; in forms f and v that is what the one wrote, and then what the other wrote. The answer is
-- that of the second, with the records counted on, and the bytes.
pub record AreJoined (conversion : Conversion) (became others : List (List ℕ)) (first second : List ℕ) (number : ℕ) (last : Result ℕ RunFault)
    (written : List ℕ) (answer : Result ℕ RunFault) : Type 0 where
  pub records : written ≡ written_of conversion.out_form (became ++ others)
  pub bytes : is_unblocked conversion.out_form ≡ true → written ≡ first ++ second
  pub answered : answer ≡ counted_on number (length written) last

-- what the records became of a conversion
abbrev pub became : {conversion : Conversion} {bytes rest written : List ℕ} {answer : Result ℕ RunFault} → Converted conversion bytes rest written answer
    → List (List ℕ)
became run = records_out run.pairs

-- Pieces are converted, each for itself, and each but the last to its end: for all of them these bytes are written, piece by piece, and the answer
-- is that of the last, with the records of those before it counted on, and the bytes.
abbrev pub AreConverted : Conversion → List (List ℕ) → (last rest written : List ℕ) → Result ℕ RunFault → Type 0
AreConverted conversion [] last rest written answer = Converted conversion last rest written answer
AreConverted conversion (piece ∷ pieces) last rest written answer = (first second : List ℕ) × (number : ℕ) × (behind : Result ℕ RunFault)
    × Converted conversion piece [] first (Ok number) × AreConverted conversion pieces last rest second behind
    × (written ≡ first ++ second) × (answer ≡ counted_on number (length written) behind)

-- Law: where bytes are whole frames, which are converted to their end, and then others, both conversions together are a conversion of all of them,
-- and there is no other; for bytes of fewer records than a run converts at most. In forms f and v it is so of any pieces.
pub record ConversionsJoin : Type 0 where
  pub both : (conversion : Conversion) (front behind rest first second : List ℕ) (number : ℕ) (last : Result ℕ RunFault)
      (one : Converted conversion front [] first (Ok number)) (two : Converted conversion behind rest second last)
      → number + last_number last ≤ most_records
      → (written : List ℕ) × (answer : Result ℕ RunFault) × Converted conversion (front ++ behind) rest written answer
      × AreJoined conversion (became one) (became two) first second number last written answer
  pub only : (conversion : Conversion) (front behind rest over first second written : List ℕ) (number : ℕ) (last answer : Result ℕ RunFault)
      (one : Converted conversion front [] first (Ok number)) (two : Converted conversion behind rest second last)
      → number + last_number last ≤ most_records
      → HasBytes conversion.records.input → HasBlockSize conversion.in_form → Converted conversion (front ++ behind) over written answer
      → AreJoined conversion (became one) (became two) first second number last written answer × (over ≡ rest)
  pub many : (conversion : Conversion) (pieces : List (List ℕ)) (last rest written : List ℕ) (answer : Result ℕ RunFault)
      → is_unblocked conversion.out_form ≡ true → AreConverted conversion pieces last rest written answer → last_number answer ≤ most_records
      → Converted conversion (joined pieces ++ last) rest written answer
