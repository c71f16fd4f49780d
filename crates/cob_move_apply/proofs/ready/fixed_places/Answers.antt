use Rattle.std.proofs.Common.{◌≡◌, ◌+◌, ◌≤◌, false, Ok, Some, subst, sym}
use Rattle.cob_copybook_tree.specs.Forests.{Forest}
use Rattle.cob_copybook_tree.specs.Nodes.{Resolved}
use Rattle.cob_layout.specs.Counting.{ReadsNone, greatest_counts}
use Rattle.cob_layout.specs.Placed.{placed_under}
use Rattle.cob_layout.specs.Storage.{greatest_length}
use Rattle.cob_layout_places.specs.References.{Refers}
use Rattle.cob_move_apply.proofs.ready.fixed_places.Goals as goal

pub fixed_place-requires : goal.fixed_place-requires
fixed_place-requires c = record {
  refers = subst (λ (t : Forest Resolved). Refers c.args.sent.now.node c.args.sent.now.subscripts.items t) (sym c.layout_of.ensures) c.requires.sent.refers;
}

pub returns : goal.returns
returns c =
    let from = c.in_ok-sends.sends in record {
      sends_by_none = subst (λ (t : Forest Resolved). ReadsNone t c.args.sent.now.node false) c.layout_of.ensures c.in_ok-sends.ensures.fixed;
      sends = subst (λ (t : Forest Resolved). placed_under (greatest_counts t) t c.args.sent.now ≡ Some (Ok from)) c.layout_of.ensures c.in_ok-sends.ensures.value;
      sends_within = subst (λ (t : Forest Resolved). from.offset + from.length ≤ greatest_length t) c.layout_of.ensures c.in_ok-sends.ensures.fits;
      receives_by_none = c.in_ok-receives.ensures.fixed;
      receives = c.in_ok-receives.ensures.value;
      receives_within = c.in_ok-receives.ensures.fits;
    }
