use Rattle.std.proofs.Common.{◌≡◌, List, ◌∷◌, map, drop, ap, sym, ◌∙◌, ◌+◌, ◌||◌, arith}
use Rattle.std.proofs.lemmas.List.{drop_more}
use Rattle.cob_copybook_names.specs.declared.bearer.Bearer.{Bearer as Listed}
use Rattle.cob_copybook_names.specs.Listed.{name_text}
use Rattle.cob_report_partners.specs.Entries.{listed_bearer}
use Rattle.cob_report_partners.specs.Groups.{is_group_named, is_noted, names_group}
use Rattle.cob_report_partners.specs.declared.entries.DraftEntry.{DraftEntry as ListedEntry}
use Rattle.cob_report_partners.proofs.RecordLemmas.{noted_more}
use Rattle.cob_report_partners.proofs.groups.GroupNames.of.Goals as goal

pub loop-entry-preserved : goal.loop-entry-preserved
loop-entry-preserved c = λ name.
    let bs = c.args.entries.now in
    let i = c.loop-entry.entry-index in
    let item = c.entry-item.result in
    let old = is_noted c.loop-entry.names name in
    let more = map listed_bearer (drop (i + 1) bs) in
    let left : drop i bs ≡ item ∷ drop (i + 1) bs = drop_more bs i item (omega arith) ∙ ap (λ (b : Listed ListedEntry). b ∷ drop (i + 1) bs) (sym c.entry-item.is) in
    noted_more (name_text c.group_name.result) name old (is_noted c.note.new.names name) (is_group_named name (listed_bearer item)) (names_group more name)
    (c.in_ok-note.ensures.noted name) (c.in_ok-note.ensures.others name) (c.group_name.ensures name)
    ∙ ap (λ (xs : List (Listed ListedEntry)). old || names_group (map listed_bearer xs) name) (sym left) ∙ c.loop-entry.invariant name
