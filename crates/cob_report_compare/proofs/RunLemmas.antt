-- Answers of a comparison of two files.
use Rattle.std.proofs.Common.{◌≡◌, ℕ, Bool, true, List, Option, refl, sym, subst, ◌∙◌, ap, Ok, Err, Result}
use Rattle.cob_convert_stream.specs.Reasons.{is_write_cause}
use Rattle.cob_records.specs.Device.{counted}
use Rattle.cob_convert_stream.specs.declared.fault.Cause.{Cause}
use Rattle.cob_report_compare.specs.declared.counted.PairCounts.{PairCounts}
use Rattle.cob_report_compare.specs.declared.files.CompareStop.{CompareStop}
use Rattle.cob_report_compare.specs.declared.files.FileSide.{FileSide}
use Rattle.cob_report_compare.specs.declared.runs.CompareFault.{CompareFault}
use Rattle.cob_report_compare.specs.declared.runs.CompareFault.TheVariants.{Memory, Stop, Uncounted}
use Rattle.cob_report_compare.specs.Files.{is_stopped_for, is_stopped_on}
use Rattle.cob_report_compare.specs.Merged.{FilePair}
use Rattle.cob_report_compare.specs.Merging.{Merges}
use Rattle.cob_report_compare.specs.Runs.{ComparesFiles, CountsUp, is_stopped_at, is_uncounted, is_unprinted}

-- for want of memory nothing was read or printed
pub unread : (files : FilePair) (l r w : Option (List ℕ)) (answer : Result PairCounts CompareFault) → answer ≡ Err Memory → ComparesFiles files l l r r w w answer
unread files l r w answer is = subst (ComparesFiles files l l r r w w) (sym is) (refl, refl, refl)

pub none_failed : (side : FileSide) (f : Cause → Bool) (answer : Result PairCounts CompareFault) (n : ℕ) → answer ≡ Err Memory → n ≡ counted (is_stopped_at side f answer) n
none_failed side f answer n is = ap (λ (a : Result PairCounts CompareFault). counted (is_stopped_at side f a) n) (sym is)

pub none_unprinted : (answer : Result PairCounts CompareFault) (n : ℕ) → answer ≡ Err Memory → n ≡ counted (is_unprinted answer) n
none_unprinted answer n is = ap (λ (a : Result PairCounts CompareFault). counted (is_unprinted a) n) (sym is)

-- what came of the comparison, and the line with its counts
pub as_counted : (files like : FilePair) (l0 l1 r0 r1 w0 w1 w2 : Option (List ℕ)) (answer : Result PairCounts CompareStop) (told : Result PairCounts CompareFault) → like ≡ files
    → Merges like l0 l1 r0 r1 w0 w1 answer → CountsUp w1 w2 answer told → ComparesFiles files l0 l1 r0 r1 w0 w2 told
as_counted files like l0 l1 r0 r1 w0 w1 w2 answer (Ok counts) same compares (is, took) =
    (w1, subst (λ (f : FilePair). Merges f l0 l1 r0 r1 w0 w1 (Ok counts)) same (subst (Merges like l0 l1 r0 r1 w0 w1) is compares), took)
as_counted files like l0 l1 r0 r1 w0 w1 w2 answer (Err Memory) same compares counts = absurd counts
as_counted files like l0 l1 r0 r1 w0 w1 w2 answer (Err (Stop stop)) same compares (is, kept) =
    subst (λ (w : Option (List ℕ)). Merges files l0 l1 r0 r1 w0 w (Err stop)) (sym kept)
    (subst (λ (f : FilePair). Merges f l0 l1 r0 r1 w0 w1 (Err stop)) same (subst (Merges like l0 l1 r0 r1 w0 w1) is compares))
as_counted files like l0 l1 r0 r1 w0 w1 w2 answer (Err Uncounted) same compares (counts, is) =
    (w1, counts, subst (λ (f : FilePair). Merges f l0 l1 r0 r1 w0 w1 (Ok counts)) same (subst (Merges like l0 l1 r0 r1 w0 w1) is compares))

stops_as : (side : FileSide) (f : Cause → Bool) (w1 w2 : Option (List ℕ)) (answer : Result PairCounts CompareStop) (told : Result PairCounts CompareFault) → CountsUp w1 w2 answer told
    → is_stopped_on side f answer ≡ is_stopped_at side f told
stops_as side f w1 w2 answer (Ok counts) (is, took) = ap (is_stopped_on side f) is
stops_as side f w1 w2 answer (Err Memory) counts = absurd counts
stops_as side f w1 w2 answer (Err (Stop stop)) (is, kept) = ap (is_stopped_on side f) is
stops_as side f w1 w2 answer (Err Uncounted) (counts, is) = ap (is_stopped_on side f) is

-- and a read failed where the stop says so
pub reads_as : (side : FileSide) (f : Cause → Bool) (w1 w2 : Option (List ℕ)) (answer : Result PairCounts CompareStop) (told : Result PairCounts CompareFault) (before after : ℕ)
    → CountsUp w1 w2 answer told → after ≡ counted (is_stopped_on side f answer) before → after ≡ counted (is_stopped_at side f told) before
reads_as side f w1 w2 answer told before after counts reads = reads ∙ ap (λ (b : Bool). counted b before) (stops_as side f w1 w2 answer told counts)

-- and a write where that or the line with the counts does
pub writes_as : (w1 w2 : Option (List ℕ)) (answer : Result PairCounts CompareStop) (told : Result PairCounts CompareFault) (before between after : ℕ) → CountsUp w1 w2 answer told
    → between ≡ counted (is_stopped_for is_write_cause answer) before → after ≡ counted (is_uncounted told) between → after ≡ counted (is_unprinted told) before
writes_as w1 w2 answer (Ok counts) before between after (is, took) first last = last ∙ first ∙ ap (λ (a : Result PairCounts CompareStop). counted (is_stopped_for is_write_cause a) before) is
writes_as w1 w2 answer (Err Memory) before between after counts first last = absurd counts
writes_as w1 w2 answer (Err (Stop stop)) before between after (is, kept) first last =
    last ∙ first ∙ ap (λ (a : Result PairCounts CompareStop). counted (is_stopped_for is_write_cause a) before) is
writes_as w1 w2 answer (Err Uncounted) before between after (counts, is) first last =
    last ∙ ap (λ (n : ℕ). counted true n) (first ∙ ap (λ (a : Result PairCounts CompareStop). counted (is_stopped_for is_write_cause a) before) is)
