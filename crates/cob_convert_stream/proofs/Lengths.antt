-- What the counts of a storage give.
use Rattle.std.proofs.Common.{◌≡◌, ℕ, List, Ok, Err, IfErr, IfOk, OnOk, Result}
use Rattle.cob_copybook_tree.specs.Forests.{Forest}
use Rattle.cob_copybook_tree.specs.Lengths.{sum_of}
use Rattle.cob_copybook_tree.specs.Nodes.{Resolved}
use Rattle.cob_layout.specs.Counting.{CountsOf}
use Rattle.cob_layout_places.specs.Lengths.{times}
use Rattle.cob_layout_places.specs.declared.counts.CountFault.{CountFault}
use Rattle.cob_layout.specs.Storage.{IsCurrent}
use Rattle.cob_convert_stream.specs.declared.misfit.MeasureFault.{MeasureFault}
use Rattle.cob_convert_stream.specs.Sizes.{GivesLength, IsMisfit}

-- a length or a fault
pub gives_length : (tree : Forest Resolved) (bytes : List ℕ) (answer : Result ℕ CountFault)
    → IfOk answer (λ made. (c : List ℕ) × CountsOf tree bytes (Ok c) × (made ≡ sum_of (times c) tree))
    → IfErr answer (λ e. CountsOf tree bytes (Err e)) → GivesLength tree bytes answer
gives_length tree bytes (Ok made) ok err = ok
gives_length tree bytes (Err fault) ok err = err

-- where a record is one of its layout for whoever's counts give this length, it is for these counts
pub sized_by : (tree : Forest Resolved) (bytes : List ℕ) (current : Result ℕ CountFault) (answer : Result (Unit {0}) MeasureFault) → GivesLength tree bytes current
    → OnOk answer ((t : Forest Resolved) → GivesLength t bytes current → IsCurrent t bytes) → OnOk answer (IsCurrent tree bytes)
sized_by tree bytes current (Ok done) gives sized = sized tree gives
sized_by tree bytes current (Err why) gives sized = tt

-- and so where it is none
pub misfit_by : (tree : Forest Resolved) (bytes : List ℕ) (current : Result ℕ CountFault) (answer : Result (Unit {0}) MeasureFault) → GivesLength tree bytes current
    → IfErr answer (λ why. (t : Forest Resolved) → GivesLength t bytes current → IsMisfit t bytes why) → IfErr answer (λ why. IsMisfit tree bytes why)
misfit_by tree bytes current (Ok done) gives misfit = tt
misfit_by tree bytes current (Err why) gives misfit = misfit tree gives
