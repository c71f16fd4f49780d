use Rattle.std.proofs.Common.{ℕ, List, refl, sym, subst}
use Rattle.cob_layout_places.specs.Counts.{IsCountValue}
use Rattle.cob_layout_places.proofs.CountLemmas.{part_same}
use Rattle.cob_layout_places.proofs.counts.count_at.Goals as goal

pub returns-in-None-clause-err : goal.returns-in-None-clause-err
returns-in-None-clause-err c = (
  refl,
  (
    c.if-bytes-end.false,
    λ v is.
        c.in-None.ensures.none v (subst (λ (part : List ℕ). IsCountValue c.args.item.now c.args.table part v) (sym (part_same c.args.bytes.now c.args.found.offset c.args.found.length)) is),
  ),
)
