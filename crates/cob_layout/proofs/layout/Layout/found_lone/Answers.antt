use Rattle.std.proofs.Common.{◌≡◌, ◌∙◌, ap, arith, rules, sym, List, ℕ}
use Rattle.std.proofs.lemmas.Grind.{common_steps}
use Rattle.cob_layout.specs.Placed.{element_under}
use Rattle.cob_layout.proofs.layout.Layout.found_lone.Goals as goal

pub returns-clause-came : goal.returns-clause-came
returns-clause-came c =
    let (counts, needed, alike, kept) = c.in_ok-read_lone.ensures.came in
    let same : c.read_lone.new.counts ≡ c.deref-2.result.now = grind (arith, common_steps) in
    (counts, needed, sym (alike c.args.reference.now.subscripts.items) ∙ ap (λ (cs : List ℕ). element_under cs c.args.self.now c.args.reference.now) same ∙ c.element_or_apart.ensures, search rules)
