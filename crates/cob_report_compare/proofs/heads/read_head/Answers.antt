use Rattle.std.proofs.Common.{◌≡◌, map, refl, sym, subst, ap, ◌∙◌, ◌++◌, ◌==◌, Bool, List, ℕ, length, take, drop}
use Rattle.std.proofs.lemmas.List.{take_at}
use Rattle.cob_convert_stream.specs.Reasons.{is_read_cause, is_write_cause}
use Rattle.cob_records.specs.Device.{counted}
use Rattle.cob_report_show.specs.Elements.{named_item}
use Rattle.cob_report_compare.specs.declared.files.CompareStop.{CompareStop}
use Rattle.cob_report_compare.specs.Files.{RefusesKey, TakesKey, form_on, is_reason_for}
use Rattle.cob_report_compare.proofs.HeadLemmas.{came_in, head_ended, head_refused, head_unread, head_waits, refused_for}
use Rattle.cob_report_compare.proofs.heads.read_head.Goals as goal

pub returns-in-Ok-None-clause-next : goal.returns-in-Ok-None-clause-next
returns-in-Ok-None-clause-next g c =
    head_ended (form_on c.args.files c.args.side) c.args.files.layout.now (map named_item c.args.files.keys.now) c.args.reached c.args.room.now _ c.read_record.new.left c.read_record.new.bytes _ _
    c.requires.unread (rw (c.in-Ok-None.field-0-is, c.form_on.ensures) at c.in-Ok-None.ensures.next) refl

pub returns-in-Err-clause-stops : goal.returns-in-Err-clause-stops
returns-in-Err-clause-stops g c =
    rw c.stop_on.ensures (head_unread (form_on c.args.files c.args.side) c.args.files.layout.now (map named_item c.args.files.keys.now) c.args.reached c.args.room.now c.args.side
    c.read_record.new.left c.read_record.new.bytes c.in-Err.reason _ _ c.requires.unread (rw c.form_on.ensures at c.in-Err.ensures.next))

pub returns-in-Ok-clause-next : goal.returns-in-Ok-clause-next
returns-in-Ok-clause-next g c =
    let record_is = rw c.in-Ok-Some.field-0-is at c.in-Ok-Some.ensures.record in
    let slot = c.read_record.new.bytes in
    let room = c.args.room.now in
    let written : take room.bytes.len (slot ++ drop (length slot) room.bytes.items) ≡ slot = take_at slot _ room.bytes.len (c.read_record.auto.bytes ∙ c.deref_mut.ensures.len) in
    let takes =
    subst
    (λ (bytes : List ℕ). TakesKey (map named_item c.args.files.keys.now) (came_in c.args.files.layout.now c.read_record.new.places c.in-Ok-Some.count bytes) (c.args.reached.number == 0) room.key.items
    c.hold_head.new.room.key.items)
    written c.in-Ok.ensures.takes
    in
    head_waits (form_on c.args.files c.args.side) c.args.files.layout.now (map named_item c.args.files.keys.now) c.args.reached c.args.room.now c.hold_head.new.room c.read_record.new.bytes
    c.read_record.new.places c.in-Ok-Some.count c.read_record.new.left _ _ c.requires.unread (c.hold_head.ensures.bytes ∙ written) c.hold_head.ensures.places
    (rw (c.in-Ok-Some.field-0-is, c.form_on.ensures) at c.in-Ok-Some.ensures.next) (rw (c.in-Ok-Some.field-0-is, c.form_on.ensures) at c.in-Ok-Some.ensures.whole)
    (rw (c.in-Ok-Some.field-0-is, c.form_on.ensures) at c.in-Ok-Some.ensures.legible) record_is.0 record_is.1 takes

pub returns-in-Err-hold_head-clause-stops : goal.returns-in-Err-hold_head-clause-stops
returns-in-Err-hold_head-clause-stops g c =
    let slot = c.read_record.new.bytes in
    let room = c.args.room.now in
    let written : take room.bytes.len (slot ++ drop (length slot) room.bytes.items) ≡ slot = take_at slot _ room.bytes.len (c.read_record.auto.bytes ∙ c.deref_mut.ensures.len) in
    let refuses =
    subst
    (λ (bytes : List ℕ). RefusesKey (map named_item c.args.files.keys.now) (came_in c.args.files.layout.now c.read_record.new.places c.in-Ok-Some.count bytes) (c.args.reached.number == 0) room.key.items
    c.in-Err-hold_head.reason)
    written c.in-Err-hold_head.ensures.refuses
    in
    rw c.stop_on-in-Err-hold_head.ensures (head_refused (form_on c.args.files c.args.side) c.args.files.layout.now (map named_item c.args.files.keys.now) c.args.reached c.args.room.now c.args.side
    c.read_record.new.bytes c.read_record.new.places c.in-Ok-Some.count c.read_record.new.left c.in-Err-hold_head.reason _ _ c.requires.unread
    (rw (c.in-Ok-Some.field-0-is, c.form_on.ensures) at c.in-Ok-Some.ensures.next) (rw (c.in-Ok-Some.field-0-is, c.form_on.ensures) at c.in-Ok-Some.ensures.whole)
    (rw (c.in-Ok-Some.field-0-is, c.form_on.ensures) at c.in-Ok-Some.ensures.legible) refuses)

pub returns-in-Err-hold_head-clause-reading : goal.returns-in-Err-hold_head-clause-reading
returns-in-Err-hold_head-clause-reading g c =
    ap (λ (stop : CompareStop). is_reason_for is_write_cause stop.reason) c.stop_on-in-Err-hold_head.ensures
    ∙ refused_for is_write_cause (map named_item c.args.files.keys.now) _ (c.args.reached.number == 0) c.args.room.now.key.items c.in-Err-hold_head.reason c.in-Err-hold_head.ensures.refuses

pub returns-in-Err-hold_head-clause-reads : goal.returns-in-Err-hold_head-clause-reads
returns-in-Err-hold_head-clause-reads g c =
    c.in-Ok-Some.ensures.reads
    ∙ ap (λ (b : Bool). counted b (g.S.Source.failures c.args.source.now)) (sym (ap (λ (stop : CompareStop). is_reason_for is_read_cause stop.reason) c.stop_on-in-Err-hold_head.ensures
    ∙ refused_for is_read_cause (map named_item c.args.files.keys.now) _ (c.args.reached.number == 0) c.args.room.now.key.items c.in-Err-hold_head.reason c.in-Err-hold_head.ensures.refuses))
