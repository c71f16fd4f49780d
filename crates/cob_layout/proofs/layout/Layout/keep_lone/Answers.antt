use Rattle.std.proofs.Common.{Ok, Some, ap, length, refl, sym, subst}
use Rattle.cob_layout_places.specs.Counts.{IsCounted}
use Rattle.cob_layout.specs.declared.counts.StoredCount.{StoredCount}
use Rattle.cob_layout.specs.Counting.{greatest_counts}
use Rattle.cob_layout.specs.Kept.{AreKeptOf}
use Rattle.cob_layout.specs.Lone.{there}
use Rattle.cob_layout.proofs.LoneLemmas.{is_lone, lone_kept, set_one}
use Rattle.cob_layout.proofs.layout.Layout.keep_lone.Goals as goal

pub count_found-requires-clause-table : goal.count_found-requires-clause-table
count_found-requires-clause-table c = is_lone c.args.self.now c.args.lone.now.table c.requires.lone.only

pub count_found-requires-clause-stands : goal.count_found-requires-clause-stands
count_found-requires-clause-stands c = (greatest_counts c.args.self.now, c.requires.lone.item)

pub returns-clause-keeps : goal.returns-clause-keeps
returns-clause-keeps c =
    let u = c.args.self.now in
    let k : StoredCount = record { number = c.in-Ok.number; place = c.args.lone.now.item } in
    let at = c.requires.lone.item in
    let counted : IsCounted u c.args.bytes.now c.args.lone.now.table (greatest_counts u) (Ok k.number) = c.in-Ok.ensures.ok (greatest_counts u) at in
    subst (AreKeptOf u c.args.bytes.now) (sym (set_one c.args.kept.now (Some k) (ap length c.requires.unread)))
    (lone_kept u c.args.bytes.now c.args.lone.now.table k (there c.args.lone.now.item) c.requires.lone.only c.requires.lone.before counted at refl refl)
