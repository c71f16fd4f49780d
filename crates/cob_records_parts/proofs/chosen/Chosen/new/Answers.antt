use Rattle.std.proofs.Common.{ℕ, List, [], subst, sym}
use Rattle.std.specs.Vec.{with_items}
use Rattle.cob_records.specs.Device.{Told}
use Rattle.cob_records_parts.specs.Walks.{HasWalkedTo}
use Rattle.cob_records_parts.proofs.Beginning.{passed_to, told_begun}
use Rattle.cob_records_parts.proofs.Foretelling.{spent_none}
use Rattle.cob_records_parts.proofs.chosen.Chosen.new.Goals as goal

pub returns-in-Ok-pass_over-clause-passed : goal.returns-in-Ok-pass_over-clause-passed
returns-in-Ok-pass_over-clause-passed g c =
    passed_to c.args.form c.args.greatest c.args.choice.skip c.pass_over.new.walk (g.R.Source.coming c.args.inner) (g.R.Source.coming c.pass_over.new.source)
    c.in-Ok-pass_over.ensures.reaches

pub returns-in-Err-clause-stops : goal.returns-in-Err-clause-stops
returns-in-Err-clause-stops g c =
    let coming = g.R.Source.coming c.args.inner in
    (g.R.Source.coming c.pass_over.new.source, c.in-Err.ensures.stops coming [] (told_begun c.args.form c.args.greatest c.args.choice.skip coming))

pub returns-in-Ok-pass_over-clause-none : goal.returns-in-Ok-pass_over-clause-none
returns-in-Ok-pass_over-clause-none g c =
    let coming = g.R.Source.coming c.args.inner in
    let left = g.R.Source.coming c.pass_over.new.source in
    let held = c.in-Ok.held in
    let none = spent_none held.at held.from held.end held.front (with_items held.body c.pass_over.new.body).items held.front_long c.in-Ok.ensures.none.0 c.in-Ok.ensures.none.1 in
    subst (λ (xs : List ℕ). Told coming left (HasWalkedTo c.pass_over.new.walk xs)) (sym none)
    (c.in-Ok-pass_over.ensures.passes coming [] (told_begun c.args.form c.args.greatest c.args.choice.skip coming))
