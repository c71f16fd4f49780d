use Rattle.std.proofs.Common.{◌≡◌, ◌++◌, length, take, drop}
use Rattle.cob_layout_places.specs.Needs.{is_needed}
use Rattle.cob_layout.specs.Kept.{kept_read}
use Rattle.cob_layout.specs.Shifts.{all_shifted}
use Rattle.cob_layout.proofs.by_sums.keep_by.Given as goal

abbrev pub invariant-loop-index : goal.invariant-loop-index
invariant-loop-index l = record {
  same : take l.index l.kept ++ kept_read (is_needed l.needed.behind l.needed.last l.needed.number) l.counts (all_shifted l.sums l.counts 0 l.shifts l.least) (drop l.index l.tables) (drop l.index l.kept)
      ≡ kept_read (is_needed l.needed.behind l.needed.last l.needed.number) l.counts (all_shifted l.sums l.counts 0 l.shifts l.least) l.tables l.fn.kept;
  room : length l.kept ≡ length l.fn.kept;
}
