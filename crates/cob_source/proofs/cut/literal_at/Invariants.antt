use Rattle.std.proofs.Common.{◌≡◌, length, ◌≤◌}
use Rattle.std.specs.Prelude.{Some, None}
use Rattle.cob_source.specs.Cuts.{open_from}
use Rattle.cob_source.proofs.Literals.{Within}
use Rattle.cob_source.proofs.cut.literal_at.Given as goal

abbrev pub invariant-loop-first : goal.invariant-loop-first
invariant-loop-first l = record {
  within : Within l.quote l.cells l.rest l.text.items;
  closed : open_from (Some l.quote) l.rest ≡ None;
  shorter : length l.rest ≤ length l.cells;
}

abbrev pub decreases-loop-first : goal.decreases-loop-first
decreases-loop-first l = length l.rest
