use Rattle.std.proofs.Common.{Bor, List, ℕ, length, sym, ◌∙◌}
use Rattle.std.proofs.lemmas.List.{length-map}
use Rattle.cob_copybook_names.specs.Listed.{texts}
use Rattle.cob_report_partners.proofs.RecordLemmas.{differ, not_as_long}
use Rattle.cob_report_partners.proofs.names.same_names.Goals as goal

pub returns-else-one-other : goal.returns-else-one-other
returns-else-one-other c =
    let one = c.args.one.now in
    let other = c.args.other.now in
    let long = λ (names : List (Bor (List ℕ))). length-map names (λ (t : Bor (List ℕ)). t.now) in
    differ (length one) (length other) c.if-one-other.false ∙ sym (not_as_long (texts one) (texts other) (λ e. c.if-one-other.false (sym (long one) ∙ e ∙ long other)))
