use Rattle.std.proofs.Common.{◌≡◌, ◌++◌, ◌+◌, sym, subst, ◌∙◌, drop, map, Bor, Option}
use Rattle.cob_copybook_names.specs.declared.bearer.Bearer.{Bearer as Listed}
use Rattle.cob_copybook_names.specs.Listed.{texts}
use Rattle.cob_report_partners.specs.Entries.{listed_bearer}
use Rattle.cob_report_partners.specs.Groups.{shared_above}
use Rattle.cob_report_partners.specs.Partners.{found_bearer, input_bearers, is_sought, output_bearers, those_sought}
use Rattle.cob_report_partners.specs.declared.entries.DraftEntry.{DraftEntry as ListedEntry}
use Rattle.cob_report_partners.proofs.SoughtLemmas.{read_in, read_there, sought_not, sought_once, sought_twice}
use Rattle.cob_report_partners.proofs.partners.only_sought.Goals as goal
use Rattle.cob_report_partners.proofs.partners.only_sought.Goals.{After-is_sought, then-is_sought+else-is_some, else-is_sought}

-- whether the entry at this place is sought
test_here : (c : After-is_sought) → c.is_sought.result ≡ is_sought c.args.sought.now c.args.records.now (listed_bearer c.args.to.now) (listed_bearer c.from-item.result)
test_here c =
    let r = c.args.records.now in
    let there = read_in r.inputs.items c.inputs-from-items.result.now c.loop-place.place c.from-item.result c.inputs-from-items.ensures c.loop-place-test.true c.from-item.is in
    c.is_sought.ensures r
    (read_there (λ from. texts c.shared_above.result.now ≡ shared_above (output_bearers r) (listed_bearer from)) r.inputs.items c.loop-place.place c.from-item.result there.0 there.1 c.shared_above.ensures)

pub returns-then-is_some : goal.returns-then-is_some
returns-then-is_some c =
    let r = c.args.records.now in
    let there = read_in r.inputs.items c.inputs-from-items.result.now c.loop-place.place c.from-item.result c.inputs-from-items.ensures c.loop-place-test.true c.from-item.is in
    sought_twice c.args.sought.now r (listed_bearer c.args.to.now) _ r.inputs.items c.loop-place.place c.from-item.result c.loop-place.found there.0 there.1
    (sym (test_here (goal.at.returns-then-is_some c).After-is_sought) ∙ c.if-is_sought.true) (sym c.is_some.ensures ∙ c.if-is_some.true) c.loop-place.invariant

pub loop-place-preserved : goal.loop-place-preserved
loop-place-preserved c =
    let r = c.args.records.now in
    let s = c.args.sought.now in
    let to = listed_bearer c.args.to.now in
    let there = read_in r.inputs.items c.inputs-from-items.result.now c.loop-place.place c.from-item.result c.inputs-from-items.ensures c.loop-place-test.true c.from-item.is in
    let test = test_here (goal.at.loop-place-preserved c).After-is_sought in
    let all = input_bearers r in
    let more = those_sought s r to (map listed_bearer (drop (c.loop-place.place + 1) r.inputs.items)) in
    elim c.if-is_sought.branch [
      | then-is_sought+else-is_some w ↦ subst (λ (f : Option (Bor (Listed ListedEntry))). those_sought s r to all ≡ found_bearer f ++ more) (sym w.found-is)
          (sought_once s r to _ r.inputs.items c.loop-place.place c.from-item.result c.loop-place.found there.0 there.1 (sym test ∙ w.if-is_sought.true)
          (sym w.is_some.ensures ∙ w.if-is_some.false) c.loop-place.invariant)
      | else-is_sought w ↦ subst (λ (f : Option (Bor (Listed ListedEntry))). those_sought s r to all ≡ found_bearer f ++ more) (sym w.found-is)
          (sought_not s r to _ r.inputs.items c.loop-place.place c.from-item.result (found_bearer c.loop-place.found) there.0 there.1 (sym test ∙ w.if-is_sought.false) c.loop-place.invariant)
    ]
