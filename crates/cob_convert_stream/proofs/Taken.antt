-- How many bytes a sink took.
use Rattle.std.proofs.Common.{◌≡◌, ◌∙◌, ℕ, ◌+◌, List, length, ap, sym, arith, min, Ok, Err, Option, Result}
use Rattle.std.proofs.lemmas.Grind.{common_steps}
use Rattle.cob_records.specs.Device.{Took, greatest_count}
use Rattle.cob_records.specs.Frame.{Puts}
use Rattle.cob_records.specs.declared.records.RecordFault.{RecordFault}
use Rattle.cob_records.specs.declared.records.RecordFault.TheVariants.{WriteFailed, TookNothing}
use Rattle.cob_convert_stream.specs.Output.{PutsCounted, taken_in}

-- as many bytes went out as the answer counts
size_taken : (bytes part : List ℕ) (answer : Result (Unit {0}) RecordFault) → Puts bytes answer part → length part ≡ taken_in (length bytes) answer
size_taken bytes part (Ok done) puts = ap length puts
size_taken bytes part (Err (WriteFailed taken)) (low, is) = ap length is ∙ grind (arith, common_steps)
size_taken bytes part (Err (TookNothing taken)) (low, is) = ap length is ∙ grind (arith, common_steps)
size_taken bytes part (Err _) puts = absurd puts

-- and so many are counted
pub counts_taken : (bytes : List ℕ) (whole old new taken : ℕ) (answer : Result (Unit {0}) RecordFault) (before now : Option (List ℕ)) → whole ≡ length bytes
    → taken ≡ taken_in whole answer → new ≡ min (old + taken) greatest_count → Took before now (Puts bytes answer) → Took before now (PutsCounted bytes answer old new)
counts_taken bytes whole old new taken answer before now long is sum (part, puts, took) =
    let size : taken ≡ length part = is ∙ ap (λ (n : ℕ). taken_in n answer) long ∙ sym (size_taken bytes part answer puts) in
    (part, record { puts = puts; counts = sum ∙ ap (λ (n : ℕ). min (old + n) greatest_count) size }, took)
