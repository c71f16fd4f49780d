use Rattle.std.proofs.Common.{◌∙◌, ap, subst, sym}
use Rattle.cob_copybook_tree.specs.Forests.{Forest}
use Rattle.cob_copybook_tree.specs.Nodes.{Resolved}
use Rattle.cob_layout.specs.Storage.{greatest_length}
use Rattle.cob_move_initial.specs.Initial.{IsInitial}
use Rattle.cob_report_explain.proofs.explainer.begin_output.Goals as goal

pub initial-requires-clause-room : goal.initial-requires-clause-room
initial-requires-clause-room c =
    c.requires.output ∙ sym (ap (λ (t : Forest Resolved). greatest_length t) (c.in-Ok.ensures.only c.args.conversion.now.records.output c.requires.book).0)

pub returns : goal.returns
returns c =
    subst (λ (t : Forest Resolved). IsInitial t c.initial.new.bytes) (c.in-Ok.ensures.only c.args.conversion.now.records.output c.requires.book).0 c.initial.ensures.initial
