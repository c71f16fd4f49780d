use Rattle.std.proofs.Common.{◌≡◌, ◌++◌, length, take, drop}
use Rattle.cob_layout_places.specs.Needs.{is_needed}
use Rattle.cob_layout.specs.Kept.{kept_read}
use Rattle.cob_layout.proofs.keeping.keep_read.Given as goal

abbrev pub invariant-loop-index : goal.invariant-loop-index
invariant-loop-index l = record {
  same : take l.index l.kept ++ kept_read (is_needed l.needed.behind l.needed.last l.needed.number) l.counts l.spots (drop l.index l.tables) (drop l.index l.kept)
      ≡ kept_read (is_needed l.needed.behind l.needed.last l.needed.number) l.counts l.spots l.tables l.fn.kept;
  room : length l.kept ≡ length l.fn.kept;
}
