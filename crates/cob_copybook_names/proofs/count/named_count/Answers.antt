use Rattle.std.proofs.Common.{◌≡◌, map, arith, true, false, refl}
use Rattle.cob_copybook_names.specs.Entries.{bearer_of}
use Rattle.cob_copybook_names.proofs.Counting.{count_missed, count_named, count_same}
use Rattle.cob_copybook_names.proofs.count.named_count.Goals as goal
use Rattle.cob_copybook_names.proofs.count.named_count.Goals.{else-may_count-via-then-may_count+else-named-number, else-may_count-via-else-may_count}

pub returns-in_default-clause-only : goal.returns-in_default-clause-only
returns-in_default-clause-only c =
    count_missed c.args.directory.now.bearers.items c.args.number c.args.count.now.name c.as_bytes.result.now c.args.count.now.qualifiers.items c.as_slice.result.now c.in_default.field-0
    c.as_bytes.ensures.value c.as_slice.ensures.value c.in_default.ensures.fault

pub returns-then-named-number-clause-found : goal.returns-then-named-number-clause-found
returns-then-named-number-clause-found c =
    let is = count_named c.args.directory.now.bearers.items c.args.count.now.name c.as_bytes.result.now c.args.count.now.qualifiers.items c.as_slice.result.now c.in-Ok.bearer.now c.as_bytes.ensures.value c.as_slice.ensures.value c.in-Ok.ensures.found in
    record { bearer = bearer_of c.in-Ok.bearer.now; only = is; may = c.if-may_count.ensures.yes refl; number = refl; before = c.if-named-number.true }

pub returns-then-named-number-clause-only : goal.returns-then-named-number-clause-only
returns-then-named-number-clause-only c = λ n x.
    let is = count_named c.args.directory.now.bearers.items c.args.count.now.name c.as_bytes.result.now c.args.count.now.qualifiers.items c.as_slice.result.now c.in-Ok.bearer.now c.as_bytes.ensures.value c.as_slice.ensures.value c.in-Ok.ensures.found in
    (count_same (map bearer_of c.args.directory.now.bearers.items) c.args.number c.args.count.now.name c.args.count.now.qualifiers.items (bearer_of c.in-Ok.bearer.now) is n x).0

pub returns-else-may_count-clause-only : goal.returns-else-may_count-clause-only
returns-else-may_count-clause-only c = λ n x.
    let is = count_named c.args.directory.now.bearers.items c.args.count.now.name c.as_bytes.result.now c.args.count.now.qualifiers.items c.as_slice.result.now c.in-Ok.bearer.now c.as_bytes.ensures.value c.as_slice.ensures.value c.in-Ok.ensures.found in
    let (number, may, before) = count_same (map bearer_of c.args.directory.now.bearers.items) c.args.number c.args.count.now.name c.args.count.now.qualifiers.items (bearer_of c.in-Ok.bearer.now) is n x in
    elim c.else-may_count.branch [
      | else-may_count-via-then-may_count+else-named-number w ↦ omega (arith, before, w.if-named-number.false)
      | else-may_count-via-else-may_count w ↦ (let t : false ≡ true = w.if-may_count.ensures.must may in cc)
    ]
