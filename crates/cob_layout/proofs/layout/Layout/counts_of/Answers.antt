use Rattle.std.proofs.Common.{◌≡◌, ◌∙◌, ap, length, None, replicate, rules}
use Rattle.cob_layout.specs.Standing.{are_unkept}
use Rattle.cob_layout.proofs.RefreshLemmas.{unkept}
use Rattle.cob_layout.proofs.layout.Layout.counts_of.Goals as goal

pub returns-clause-none : goal.returns-clause-none
returns-clause-none c =
    let none : c.fill.new.self.items ≡ replicate (length c.counts.inside.kept.items) None = search rules in
    ap are_unkept none ∙ unkept (length c.counts.inside.kept.items)
