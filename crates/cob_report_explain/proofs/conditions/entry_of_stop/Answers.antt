use Rattle.std.proofs.Common.{◌∙◌, List, ap, subst, sym}
use Rattle.std.specs.List.{AllByRecursion}
use Rattle.cob_move_data.specs.Moves.{Records}
use Rattle.cob_move_apply.specs.Entries.{IsPlacedEntry}
use Rattle.cob_move_apply.specs.declared.placed.PlacedEntry.{PlacedEntry}
use Rattle.cob_move_deeds.specs.declared.flow.Asked.{Asked}
use Rattle.cob_report_explain.specs.Flowing.{records_walked}
use Rattle.cob_report_explain.proofs.ConditionLemmas.{placed_at}
use Rattle.cob_report_explain.proofs.conditions.entry_of_stop.Goals as goal

pub is_stop_of-requires-clause-placed : goal.is_stop_of-requires-clause-placed
is_stop_of-requires-clause-placed c =
    let r : Records = records_walked c.args.walk.now in
    let same = c.as_slice-entries.ensures.value ∙ ap (λ (a : Asked). a.entries.items) c.asked.ensures in
    placed_at r c.loop-number.number c.as_slice-entries.result.now c.index-entries-number.result c.loop-number-test.true c.index-entries-number.is
    (subst (λ (es : List PlacedEntry). AllByRecursion (IsPlacedEntry r) es) (sym same) c.requires.walk.prepared.asked.entries)
