use Rattle.std.proofs.Common.{◌≡◌, ◌++◌, [], ap, refl, subst, sym, map, ◌∙◌, List, Bor, ◌≤◌, ℕ, arith}
use Rattle.std.proofs.lemmas.List.{length-map}
use Rattle.cob_copybook_names.specs.Listed.{texts}
use Rattle.cob_copybook_names.specs.Naming.{Bearer}
use Rattle.cob_report_partners.specs.Entries.{DraftEntry, listed_bearer}
use Rattle.cob_report_partners.specs.Naming.{Spreads}
use Rattle.cob_report_partners.specs.Partners.{all_bearers}
use Rattle.cob_report_partners.proofs.NamingLemmas.{needed, not_needed, spread_none}
use Rattle.cob_report_partners.proofs.naming.qualifiers_needed.Goals as goal
use Rattle.cob_report_partners.proofs.naming.qualifiers_needed.Goals.{After-spread_over-all}

spread_all : (c : After-spread_over-all) → Spreads c.spread_over-all.result c.args.name.now (texts c.args.above.now) (all_bearers c.args.records.now)
spread_all c =
    let name = c.args.name.now in
    let above = texts c.args.above.now in
    let r = c.args.records.now in
    let inputs = map listed_bearer c.inputs.result.now in
    let outputs = map listed_bearer c.outputs.result.now in
    let both : inputs ++ outputs ≡ all_bearers r = ap (λ xs. map listed_bearer xs ++ outputs) c.inputs.ensures ∙ ap (λ xs. map listed_bearer r.inputs.items ++ map listed_bearer xs) c.outputs.ensures in
    let first = c.spread_over-inputs.ensures [] (spread_none _ name above refl refl) in
    subst (λ (all : List (Bearer DraftEntry)). Spreads c.spread_over-all.result name above all) both (c.spread_over-all.ensures inputs first)

pub returns-then-all-clause-some : goal.returns-then-all-clause-some
returns-then-all-clause-some c =
    needed c.spread_over-all.result c.args.name.now (texts c.args.above.now) (all_bearers c.args.records.now) (spread_all (goal.at.returns-then-all-clause-some c).After-spread_over-all) c.if-all.true

pub returns-clause-none : goal.returns-clause-none
returns-clause-none c = λ k le.
    not_needed c.spread_over-all.result c.args.name.now (texts c.args.above.now) (all_bearers c.args.records.now) (spread_all (goal.at.returns-clause-none c).After-spread_over-all) (λ less. absurd (omega (arith, less, c.if-all.false)))
    k (subst (λ (n : ℕ). k ≤ n) (sym (length-map c.args.above.now (λ (t : Bor (List ℕ)). t.now))) le)
