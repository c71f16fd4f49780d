use Rattle.std.proofs.Common.{◌≡◌, ◌<◌, ℕ, length}
use Rattle.std.specs.Prelude.{slice_index}
use Rattle.cob_layout_places.specs.Needs.{is_needed}
use Rattle.cob_layout.specs.Kept.{kept_numbers}
use Rattle.cob_layout.specs.Standing.{first_number}
use Rattle.cob_layout.proofs.KeepingLemmas.{Counted}
use Rattle.cob_layout.proofs.layout.Layout.take_anew.Given as goal

abbrev pub invariant-loop-index : goal.invariant-loop-index
invariant-loop-index l = record {
  counted : Counted l.self l.bytes (is_needed l.needed.behind l.needed.last l.needed.number) l.tables (kept_numbers l.kept) l.fn.counts l.fn.reads l.index l.counts l.reads;
  room : length l.counts ≡ length l.fn.counts;
  early : (k : ℕ) → k < first_number l.tables → slice_index l.counts k ≡ slice_index l.fn.counts k;
}
