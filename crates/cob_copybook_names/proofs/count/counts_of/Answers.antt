use Rattle.std.proofs.Common.{rules, ◌≡◌, ◌+◌, ◌∷◌, map, drop, List, get_or, length, ◌<◌, ◌≤◌, subst, sym, ap, ◌∙◌}
use Rattle.std.proofs.lemmas.List.{drop_all, at_drop_more}
use Rattle.cob_copybook_names.specs.declared.bearer.Bearer.{Bearer as Listed}
use Rattle.cob_copybook_names.specs.declared.listing.NumberedEntry.{NumberedEntry as ListedEntry}
use Rattle.cob_copybook_names.specs.Entries.{entry_of}
use Rattle.cob_copybook_names.proofs.Counting.{step_left, step_whole, all_counted, refused}
use Rattle.cob_copybook_names.proofs.count.counts_of.Goals as goal

pub returns-in_err-count-clause-fault : goal.returns-in_err-count-clause-fault
returns-in_err-count-clause-fault c =
    let bs = c.args.directory.now.bearers.items in
    let i = c.loop-number.number in
    let item = c.bearer-item.result in
    let lt : i < length bs = subst (λ (xs : List (Listed ListedEntry)). i < length xs) c.deref-bearer-items.ensures.value c.loop-number-test.true in
    let is : item ≡ get_or bs i item = c.bearer-item.is ∙ ap (λ (xs : List (Listed ListedEntry)). get_or xs i item) c.deref-bearer-items.ensures.value in
    let here : map entry_of (drop i bs) ≡ entry_of item ∷ map entry_of (drop (i + 1) bs) =
    at_drop_more (map entry_of) bs i item lt ∙ ap (λ (b : Listed ListedEntry). entry_of b ∷ map entry_of (drop (i + 1) bs)) (sym is) in
    let h = refused _ _ _ i (entry_of item) _ c.loop-number.counts.items c.in_err-count.field-0.0.rule here c.in_err-count.ensures.fault c.in_err-count.ensures.only c.loop-number.invariant.whole in
    search rules

pub loop-number-preserved : goal.loop-number-preserved
loop-number-preserved c =
    let bs = c.args.directory.now.bearers.items in
    let i = c.loop-number.number in
    let item = c.bearer-item.result in
    let lt : i < length bs = subst (λ (xs : List (Listed ListedEntry)). i < length xs) c.deref-bearer-items.ensures.value c.loop-number-test.true in
    let is : item ≡ get_or bs i item = c.bearer-item.is ∙ ap (λ (xs : List (Listed ListedEntry)). get_or xs i item) c.deref-bearer-items.ensures.value in
    let here : map entry_of (drop i bs) ≡ entry_of item ∷ map entry_of (drop (i + 1) bs) =
    at_drop_more (map entry_of) bs i item lt ∙ ap (λ (b : Listed ListedEntry). entry_of b ∷ map entry_of (drop (i + 1) bs)) (sym is) in
    record {
      left = λ cs h. rw c.in_ok-push.ensures.items (step_left _ _ _ i _ _ c.loop-number.counts.items cs c.in_ok-count.count here c.loop-number.invariant.left c.in_ok-count.ensures.found h);
      whole = λ cs x. rw c.in_ok-push.ensures.items (step_whole _ _ i _ _ c.loop-number.counts.items cs c.in_ok-count.count here c.in_ok-count.ensures.only (c.loop-number.invariant.whole cs x));
    }

pub returns-clause-found : goal.returns-clause-found
returns-clause-found c =
    let all = subst (λ (xs : List (Listed ListedEntry)). length xs ≤ c.loop-number.number) c.deref-bearer-items.ensures.value c.loop-number-test.false in
    all_counted _ _ _ c.loop-number.number _ (ap (map entry_of) (drop_all _ c.args.directory.now.bearers.items all)) c.loop-number.invariant.left
