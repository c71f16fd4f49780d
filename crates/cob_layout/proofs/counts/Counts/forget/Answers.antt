use Rattle.std.proofs.Common.{◌≡◌, ap, ◌∙◌, length, replicate, None, rules}
use Rattle.cob_layout.specs.Standing.{are_unkept}
use Rattle.cob_layout.proofs.RefreshLemmas.{none_kept, unkept}
use Rattle.cob_layout.proofs.counts.Counts.forget.Goals as goal

pub returns-clause-keeps : goal.returns-clause-keeps
returns-clause-keeps c = λ tree bytes.
    (let none : c.fill.new.self.items ≡ replicate (length c.self.inside.kept.items) None = search rules in
    let e = ap are_unkept none ∙ unkept (length c.self.inside.kept.items) in
    none_kept tree bytes c.fill.new.self.items e)
