use Rattle.std.proofs.Common.{List, subst, sym}
use Rattle.std.specs.Prelude.{OnOk}
use Rattle.cob_copybook_conditions.specs.Names.{plain_condition_name}
use Rattle.cob_copybook_names.specs.Naming.{Bearer}
use Rattle.cob_move_names.specs.Listed.{ListsValues}
use Rattle.cob_move_names.specs.Valued.{ValuedEntry}
use Rattle.cob_move_names.proofs.ValuedLemmas.{listed_at, lists_none, none_at}
use Rattle.cob_move_names.proofs.valued.list_named.Goals as goal

pub returns-in-Some : goal.returns-in-Some
returns-in-Some c =
    let (some, here, there, (within, holds), back) = c.in-Some.ensures.lookup in
    subst (λ (vs : List (Bearer ValuedEntry)). OnOk c.list_value.result (ListsValues c.args.listed.now.items c.list_value.new.listed.items vs))
    (sym (listed_at c.args.entries.now (plain_condition_name c.args.name.now) c.in-Some.item.now c.requires.order within here)) c.list_value.ensures

pub returns-in-None : goal.returns-in-None
returns-in-None c =
    let (some, here, there, end, back) = c.in-None.ensures.lookup in
    lists_none c.args.listed.now.items _ (none_at c.args.entries.now (plain_condition_name c.args.name.now) c.requires.order end)
