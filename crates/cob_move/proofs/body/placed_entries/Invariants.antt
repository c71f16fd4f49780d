use Rattle.std.proofs.Common.{◌≡◌, ◌++◌, length, map}
use Rattle.std.specs.List.{AllByRecursion}
use Rattle.std.specs.Vec.Iter.{into_iter_items, into_iter_len}
use Rattle.cob_move_apply.specs.Entries.{IsPlacedEntry}
use Rattle.cob_move.specs.Among.{both}
use Rattle.cob_move.specs.DeedsRead.{named_of}
use Rattle.cob_move.proofs.body.placed_entries.Given as goal

abbrev pub invariant-loop-named : goal.invariant-loop-named
invariant-loop-named l = record {
  all : l.yielded ++ into_iter_items l.named-iterator ≡ l.fn.asked.items;
  left : into_iter_len l.named-iterator ≡ length (into_iter_items l.named-iterator);
  named : map named_of l.placed.items ≡ l.yielded;
  placed : AllByRecursion (IsPlacedEntry (both l.input l.output)) l.placed.items;
}
