use Rattle.std.proofs.Common.{Bor, List, ℕ, ap, sym, subst, ◌∙◌, ◌≤◌}
use Rattle.std.proofs.lemmas.List.{length-map}
use Rattle.cob_copybook_names.specs.Listed.{texts}
use Rattle.cob_report_partners.specs.Naming.{reach}
use Rattle.cob_report_partners.proofs.NamingLemmas.{spread_further}
use Rattle.cob_report_partners.proofs.naming.spread_with.Goals as goal

pub returns : goal.returns
returns c = λ name bearer front has above before.
    let qualifiers = c.args.qualifiers.now in
    spread_further c.args.before c.with.result c.reach.result name (texts qualifiers) bearer front has
    (c.reach.ensures.value ∙ ap (λ names. reach (texts qualifiers) names) (sym above))
    (subst (λ n. c.reach.result ≤ n) (sym (length-map qualifiers (λ (t : Bor (List ℕ)). t.now))) c.reach.ensures.most)
    c.with.ensures.named c.with.ensures.others c.with.ensures.most before
