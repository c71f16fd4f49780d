use Rattle.std.proofs.Common.{◌≡◌, ◌∙◌, ◌++◌, sym, subst, length, map, take, drop, List, ℕ}
use Rattle.std.specs.Prelude.{OnOk}
use Rattle.std.proofs.lemmas.List.{take_at}
use Rattle.cob_report_show.specs.Elements.{Printed, named_item}
use Rattle.cob_report_compare.specs.Files.{TakesKey}
use Rattle.cob_report_compare.proofs.heads.hold_head.Goals as goal

pub returns-clause-takes : goal.returns-clause-takes
returns-clause-takes c =
    let room = c.args.room.now in
    let r : Printed = record { tree = c.args.layout.now; places = room.places; bytes = take c.args.count room.bytes.items } in
    let held = c.hold_key.new.held in
    let written : take room.key.len (held ++ drop (length held) room.key.items) ≡ held = take_at held _ room.key.len (c.hold_key.ensures.held ∙ c.deref_mut.ensures.len) in
    subst (λ (bytes : List ℕ). OnOk c.hold_key.result (TakesKey (map named_item c.args.keys.now) r c.args.first room.key.items bytes)) (sym written)
    (rw (c.as_slice.ensures.value, c.deref_mut.ensures.value) at c.hold_key.ensures.takes)

pub returns-clause-refuses : goal.returns-clause-refuses
returns-clause-refuses c = rw (c.as_slice.ensures.value, c.deref_mut.ensures.value) at c.hold_key.ensures.refuses
