use Rattle.std.proofs.Common.{◌≡◌, ◌++◌, ◌+◌, [], ◌∷◌, List, map, take, ap, sym, subst, ◌∙◌, arith, append_assoc, length}
use Rattle.std.proofs.Math.Seq.{take-length}
use Rattle.cob_copybook_names.specs.declared.bearer.Bearer.{Bearer as Listed}
use Rattle.cob_copybook_names.specs.Listed.{texts}
use Rattle.cob_copybook_names.specs.Naming.{Bearer}
use Rattle.cob_report_partners.specs.Entries.{DraftEntry, listed_bearer}
use Rattle.cob_report_partners.specs.Naming.{Spreads}
use Rattle.cob_report_partners.specs.declared.entries.DraftEntry.{DraftEntry as ListedEntry}
use Rattle.cob_report_partners.proofs.NamingLemmas.{listed_next}
use Rattle.cob_report_partners.proofs.naming.spread_over.Goals as goal

pub loop-entry-preserved : goal.loop-entry-preserved
loop-entry-preserved c = λ front before.
    let bs = c.args.entries.now in
    let i = c.loop-entry.entry-index in
    let item = c.entry-item.result in
    let so_far = map listed_bearer (take i bs) in
    let more : (front ++ so_far) ++ listed_bearer item ∷ [] ≡ front ++ map listed_bearer (take (i + 1) bs) =
    append_assoc front so_far (listed_bearer item ∷ []) ∙ ap (λ (t : List (Bearer DraftEntry)). front ++ t) (sym (listed_next bs i item (omega arith) c.entry-item.is)) in
    subst (Spreads c.spread_by-spread.result c.args.name.now (texts c.args.qualifiers.now)) more (c.spread_by-spread.ensures (front ++ so_far) (c.loop-entry.invariant front before))

pub returns : goal.returns
returns c = λ front before.
    let bs = c.args.entries.now in
    let index : c.loop-entry.entry-index ≡ length bs = omega arith in
    let all : take c.loop-entry.entry-index bs ≡ bs = ap (λ n. take n bs) index ∙ take-length bs in
    subst (λ (xs : List (Listed ListedEntry)). Spreads c.loop-entry.spread c.args.name.now (texts c.args.qualifiers.now) (front ++ map listed_bearer xs)) all (c.loop-entry.invariant front before)
