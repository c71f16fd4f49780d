use Rattle.std.proofs.Common.{◌≡◌, ◌⊎◌, ap, sym, subst, ◌∙◌}
use Rattle.std.specs.Prelude.{true, false}
use Rattle.cob_picture.specs.declared.category.Category.{Category}
use Rattle.cob_picture.specs.Positions.{PlainPicture, written_out, shows_number, is_edited, symbols_of, floating}
use Rattle.cob_picture.proofs.Placed.{symbols_placed}
use Rattle.cob_picture.proofs.Limits.{few_positions}
use Rattle.cob_picture.proofs.picture.Picture.positions.Goals as goal

pub positions_of-requires-clause-few : goal.positions_of-requires-clause-few
positions_of-requires-clause-few c =
    let fits = subst (λ (d : Category). (shows_number d ≡ true) ⊎ (is_edited d ≡ true)) (sym (ap (λ (p : PlainPicture). p.category) c.self.view_is)) c.requires in
    rw c.as_slice.ensures.value (few_positions c.self.inside.category (written_out c.self.inside.runs.items) fits c.self.invariant.0.picture)

pub returns-clause-picture : goal.returns-clause-picture
returns-clause-picture c =
    let xs = written_out c.self.inside.runs.items in
    let items = rw c.as_slice.ensures.value at c.positions_of.ensures in
    let symbols : symbols_of c.positions_of.result.items ≡ xs = ap symbols_of items ∙ symbols_placed c.self.inside.category (floating xs) false xs in
    rw (← c.self.view_is, symbols) c.self.invariant.0.picture

pub returns-clause-roles : goal.returns-clause-roles
returns-clause-roles c =
    let xs = written_out c.self.inside.runs.items in
    let items = rw c.as_slice.ensures.value at c.positions_of.ensures in
    let symbols : symbols_of c.positions_of.result.items ≡ xs = ap symbols_of items ∙ symbols_placed c.self.inside.category (floating xs) false xs in
    rw (← c.self.view_is, symbols) items
