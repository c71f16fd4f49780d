-- What becomes of a record, and where its conversion stops.
use Rattle.std.proofs.Common.{ℕ, List, inl, inr, IfErr, IfOk, Ok, Err, Result}
use Rattle.cob_move_initial.specs.Initial.{IsInitial}
use Rattle.cob_convert_record.specs.Conversion.{Conversion}
use Rattle.cob_move_apply.specs.declared.stop.Stop.{Stop}
use Rattle.cob_move_apply.specs.Applied.{done, stopped}
use Rattle.cob_move_deeds.specs.Deeds.{Carried}
use Rattle.cob_move_deeds.specs.Tests.{Judged}
use Rattle.cob_convert_record.specs.Becoming.{Becomes, IsCountStop, StopsAt}
use Rattle.cob_convert_stream.specs.Output.{IsOutputOf}

-- the last storage is written
pub becomes : (c : Conversion) (input initial last written : List ℕ) → IsInitial c.records.output initial
    → Carried (Judged c.records) c.records c.deeds input initial (done last) → IsOutputOf c.out_form c.records.output last written → Becomes c input written
becomes c input initial last written begins carried writes =
    record { initial = initial; begins = begins; last = last; carried = carried; writes = writes }

-- it stops at a move or a test
pub at_move : (c : Conversion) (input initial last : List ℕ) (stop : Stop) → IsInitial c.records.output initial
    → Carried (Judged c.records) c.records c.deeds input initial (stopped stop last) → StopsAt c input stop
at_move c input initial last stop begins stops = record { initial = initial; begins = begins; last = last; stops = inl stops }

-- it stops at a count of the output
pub at_count : (c : Conversion) (input initial last : List ℕ) (stop : Stop) → IsInitial c.records.output initial
    → Carried (Judged c.records) c.records c.deeds input initial (done last) → IsCountStop c.records.output last stop → StopsAt c input stop
at_count c input initial last stop begins carried faulty =
    record { initial = initial; begins = begins; last = last; stops = inr (carried, faulty) }

-- what follows from an error where there is one
pub if_error : {A E : Type 0} (answer : Result A E) (P Q : E → Type 0) → IfErr answer P → ((e : E) → P e → Q e) → IfErr answer Q
if_error (Ok a) P Q p follows = tt
if_error (Err e) P Q p follows = follows e p

-- what follows from a value where there is one
pub if_value : {A E : Type 0} (answer : Result A E) (P Q : A → Type 0) → IfOk answer P → ((a : A) → P a → Q a) → IfOk answer Q
if_value (Ok a) P Q p follows = follows a p
if_value (Err e) P Q p follows = tt
