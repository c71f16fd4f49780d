-- Two files of one layout, compared from their first records to the end.
use Rattle.std.specs.Prelude.{◌≡◌, ℕ, Bool, true, false, List, map, Option, Ok, Err, Result}
use Rattle.cob_copybook_tree.specs.Forests.{Forest}
use Rattle.cob_copybook_tree.specs.Nodes.{Resolved}
use Rattle.cob_records.specs.Device.{Took}
use Rattle.cob_convert_stream.specs.Reasons.{is_write_cause}
use Rattle.cob_convert_stream.specs.declared.fault.Cause.{Cause}
use Rattle.cob_report_show.specs.Elements.{named_item}
use Rattle.cob_report_compare.specs.declared.counted.PairCounts.{PairCounts}
use Rattle.cob_report_compare.specs.declared.files.CompareStop.{CompareStop}
use Rattle.cob_report_compare.specs.declared.files.FileSide.{FileSide}
use Rattle.cob_report_compare.specs.declared.runs.CompareFault.{CompareFault}
use Rattle.cob_report_compare.specs.declared.runs.CompareFault.TheVariants.{Memory, Stop, Uncounted}
use Rattle.cob_report_compare.specs.declared.runs.CompareOptions.{CompareOptions}
use Rattle.cob_report_compare.specs.Chosen.{compared_in}
use Rattle.cob_report_compare.specs.Files.{is_reason_for, is_stopped_on}
use Rattle.cob_report_compare.specs.Merged.{FilePair}
use Rattle.cob_report_compare.specs.Merging.{Merges}
use Rattle.cob_report_compare.specs.Lines.{counts_line}

-- two files of this layout, compared with these options
abbrev pub files_of : Forest Resolved → CompareOptions → FilePair
files_of tree options = record {
  tree = tree;
  items = compared_in options.ignored.now tree;
  keys = map named_item options.keys.now;
  by_bytes = options.by_bytes;
  most = options.most;
  left_form = options.left_form;
  right_form = options.right_form;
}

-- What a comparison came to, told with its counts: their line was printed, or could not be; or a record stopped it, and nothing more was printed.
abbrev pub CountsUp : (w0 w1 : Option (List ℕ)) → Result PairCounts CompareStop → Result PairCounts CompareFault → Type 0
CountsUp w0 w1 answer (Ok counts) = (answer ≡ Ok counts) × Took w0 w1 (λ part. part ≡ counts_line counts)
CountsUp w0 w1 answer (Err Memory) = ⊥
CountsUp w0 w1 answer (Err (Stop stop)) = (answer ≡ Err stop) × (w1 ≡ w0)
CountsUp w0 w1 answer (Err Uncounted) = (counts : PairCounts) × (answer ≡ Ok counts)

-- Two files compared as their keys merge them, with this answer, and told with their counts: for want of memory nothing was read or printed.
abbrev pub ComparesFiles : FilePair → (l0 l1 r0 r1 w0 w1 : Option (List ℕ)) → Result PairCounts CompareFault → Type 0
ComparesFiles files l0 l1 r0 r1 w0 w1 (Ok counts) =
    (w : Option (List ℕ)) × Merges files l0 l1 r0 r1 w0 w (Ok counts) × Took w w1 (λ part. part ≡ counts_line counts)
ComparesFiles files l0 l1 r0 r1 w0 w1 (Err Memory) = (l1 ≡ l0) × (r1 ≡ r0) × (w1 ≡ w0)
ComparesFiles files l0 l1 r0 r1 w0 w1 (Err (Stop stop)) = Merges files l0 l1 r0 r1 w0 w1 (Err stop)
ComparesFiles files l0 l1 r0 r1 w0 w1 (Err Uncounted) =
    (w : Option (List ℕ)) × (counts : PairCounts) × Merges files l0 l1 r0 r1 w0 w (Ok counts)

-- a record of this file stops it, for a cause of this kind
abbrev pub is_stopped_at : FileSide → (Cause → Bool) → Result PairCounts CompareFault → Bool
is_stopped_at side is (Ok counts) = false
is_stopped_at side is (Err Memory) = false
is_stopped_at side is (Err (Stop stop)) = is_stopped_on {X = PairCounts} side is (Err stop)
is_stopped_at side is (Err Uncounted) = false

-- the line with the counts could not be printed
abbrev pub is_uncounted : Result PairCounts CompareFault → Bool
is_uncounted (Ok counts) = false
is_uncounted (Err Memory) = false
is_uncounted (Err (Stop stop)) = false
is_uncounted (Err Uncounted) = true

-- a line could not be printed
abbrev pub is_unprinted : Result PairCounts CompareFault → Bool
is_unprinted (Ok counts) = false
is_unprinted (Err Memory) = false
is_unprinted (Err (Stop stop)) = is_reason_for is_write_cause stop.reason
is_unprinted (Err Uncounted) = true
