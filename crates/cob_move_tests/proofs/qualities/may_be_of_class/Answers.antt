use Rattle.std.proofs.Common.{ap, ◌∙◌}
use Rattle.cob_copybook_tree.specs.declared.node.Kind.{Kind}
use Rattle.cob_copybook_tree.specs.Forests.{Forest}
use Rattle.cob_copybook_tree.specs.Nodes.{Resolved}
use Rattle.cob_move_data.specs.Moves.{record_of}
use Rattle.cob_move_names.specs.Groups.{entries_below}
use Rattle.cob_move_tests.specs.Entries.{records_of}
use Rattle.cob_move_tests.specs.Qualities.{may_be_numeric_over}
use Rattle.cob_move_tests.proofs.qualities.may_be_of_class.Goals as goal

pub returns-in-Numeric : goal.returns-in-Numeric
returns-in-Numeric c =
    let tree : Forest Resolved = record_of (records_of c.args.entries.now) c.args.named.now.side in
    let node = c.args.named.now.entry.node in
    let whole = c.root-top.ensures.tree ∙ c.layout.ensures in
    let beneath = c.entries_below.ensures ∙ ap (λ (f : Forest Resolved). entries_below node f) whole in
    rw c.in-Numeric.is (c.may_be_numeric_over.ensures ∙ ap (λ (f : Forest Resolved). may_be_numeric_over f c.args.kind.now) beneath ∙ ap (λ (k : Kind). may_be_numeric_over (entries_below node tree) k) c.requires.kind)
