use Rattle.std.proofs.Common.{◌≡◌, true, false, [], length, sym, ap, ◌∙◌, arith}
use Rattle.std.proofs.lemmas.Grind.{common_steps}
use Rattle.std.proofs.lemmas.List.{nil_from_length}
use Rattle.cob_picture.specs.Positions.{written_out}
use Rattle.cob_picture.proofs.Fronts.{places_nil}
use Rattle.cob_picture.proofs.Parts.{edited_yes, edited_must}
use Rattle.cob_picture.proofs.EditedFacts.{ends_runs}
use Rattle.cob_picture.proofs.edited.is_numeric_edited.Goals as goal

pub returns-then-ends_in_mark-clause-must : goal.returns-then-ends_in_mark-clause-must
returns-then-ends_in_mark-clause-must c = λ h.
    let x : true ≡ false = sym c.if-ends_in_mark.true ∙ c.ends_in_mark.ensures ∙ sym (ends_runs c.args.runs.now c.requires.positive) ∙ h.ending in
    sym x

pub returns-then-not-is_empty-clause-must : goal.returns-then-not-is_empty-clause-must
returns-then-not-is_empty-clause-must c = λ h.
    let m = edited_must _ _ _ _ _ _ _ _ _ c.parted-parts.result.rest.now c.run_symbol_of-run.ensures c.parted-parts.ensures h in
    let nothing : length c.parted-parts.result.rest.now ≡ 0 = places_nil _ c.parted-parts.ensures.left m.0 in
    absurd (grind (arith, common_steps))

pub returns-clause-yes : goal.returns-clause-yes
returns-clause-yes c = λ t.
    let nothing : length c.parted-parts.result.rest.now ≡ 0 = grind (arith, common_steps) in
    let none : written_out c.parted-parts.result.rest.now ≡ [] = ap written_out (nil_from_length c.parted-parts.result.rest.now nothing) in
    edited_yes _ _ _ _ _ _ _ _ _ _ c.run_symbol_of-run.ensures c.parted-parts.ensures none (rw c.counts_in.ensures at (c.is_allowed.ensures.yes t))
    (ends_runs c.args.runs.now c.requires.positive ∙ sym c.ends_in_mark.ensures ∙ c.if-ends_in_mark.false)
    (omega (arith, c.count_of.ensures.value, c.count_of-2.ensures.value, c.total.ensures.value, c.if-count_of-total.false))

pub returns-clause-must : goal.returns-clause-must
returns-clause-must c = λ h.
    let m = edited_must _ _ _ _ _ _ _ _ _ c.parted-parts.result.rest.now c.run_symbol_of-run.ensures c.parted-parts.ensures h in
    c.is_allowed.ensures.must (rw c.counts_in.ensures m.1)
