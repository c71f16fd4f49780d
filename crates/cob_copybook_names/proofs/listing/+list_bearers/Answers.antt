use Rattle.std.proofs.Common.{◌≡◌, List, ◌+◌, sym, ap, ◌∙◌, map, ◌++◌, arith, drop, length}
use Rattle.cob_copybook_tree.specs.Forests.{Forest, AnEntry, flat, entries_in}
use Rattle.cob_copybook_tree.specs.Branches.{forest_of}
use Rattle.cob_copybook_tree.specs.declared.branch.Branch.{Branch}
use Rattle.cob_copybook_entry.specs.Described.{PlainEntry, plain_entry}
use Rattle.cob_copybook_tree.specs.declared.branch.Branch.TheViews.{out-Branch}
use Rattle.cob_copybook_names.specs.Entries.{bearer_of, bearers, entry_of}
use Rattle.cob_copybook_names.specs.Listed.{texts}
use Rattle.cob_copybook_names.proofs.Branches.{fewer_left, forest_at, regroup, step_names}
use Rattle.cob_copybook_names.proofs.listing.+list_bearers.Goals as goal

pub list_bearers-requires : goal.list_bearers-requires
list_bearers-requires t c =
    let at = ap (λ (f : Forest PlainEntry). entries_in f) (forest_at c.args.branches.now c.loop-branch.branch-index c.branch-item.result (omega arith) c.branch-item.is) in
    let children = ap (λ (bs : List Branch). entries_in (forest_of bs)) c.as_slice-in-loop-branch.ensures.value in
    let left = fewer_left c.args.branches.now c.loop-branch.branch-index in
    let all : entries_in (forest_of c.args.branches.now) ≡ t = c.decreases in
    let room = c.loop-branch.invariant.room in
    let one = c.in_ok-beneath.ensures.length in
    (omega (arith, at, children, left, all), omega (arith, at, children, room, one, c.requires))

pub loop-branch-preserved : goal.loop-branch-preserved
loop-branch-preserved t c =
    let d = plain_entry (out-Branch c.branch-item.result).entry in
    let children = c.as_slice-in-loop-branch.result.now in
    let more = forest_of (drop (c.loop-branch.branch-index + 1) c.args.branches.now) in
    let at = forest_at c.args.branches.now c.loop-branch.branch-index c.branch-item.result (omega arith) c.branch-item.is in
    let here : forest_of (drop c.loop-branch.branch-index c.args.branches.now) ≡ AnEntry d (forest_of children) more =
    at ∙ ap (λ (bs : List Branch). AnEntry d (forest_of bs) more) (sym c.as_slice-in-loop-branch.ensures.value) in
    let one = c.in_ok-beneath.ensures.length in
    let some = c.in_ok-list_bearers.ensures.length in
    let above = texts c.args.above.now in
    let n = length c.loop-branch.listed.items in
    record {
      room = c.loop-branch.invariant.room ∙ ap (λ (f : Forest PlainEntry). n + entries_in f) here ∙ omega (arith, one, some);
      names = step_names _ _ _ _ above _ c.args.in_table _ n _ _ d (forest_of children) more
          (c.loop-branch.invariant.names ∙ ap (λ (f : Forest PlainEntry). map bearer_of c.loop-branch.listed.items ++ bearers above c.args.in_table n f) here)
          (ap texts c.as_slice.ensures.value ∙ c.in_ok-beneath.ensures.beneath) c.is_in_table-inside.ensures one some c.in_ok-beneath.ensures.bearers c.in_ok-list_bearers.ensures.bearers;
      written = regroup _ _ _ _ (flat (forest_of children)) (flat more) d
          (c.loop-branch.invariant.written ∙ ap (λ (f : Forest PlainEntry). map entry_of c.loop-branch.listed.items ++ flat f) here)
          c.in_ok-beneath.ensures.entries c.in_ok-list_bearers.ensures.entries;
    }
