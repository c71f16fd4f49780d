use Rattle.std.proofs.Common.{◌∙◌, ap, subst, sym, refl, inr, false, length}
use Rattle.cob_picture.specs.declared.position.Position.{Position}
use Rattle.cob_picture.specs.declared.category.Category.TheVariants.{AlphanumericEdited}
use Rattle.cob_picture.specs.Positions.{floating, positions, symbols_of, is_edited}
use Rattle.cob_picture.specs.Counts.{size}
use Rattle.cob_picture.specs.Pictures.{IsPicture}
use Rattle.cob_picture.proofs.Placed.{length_placed}
use Rattle.cob_picture.proofs.Limits.{one_byte_each}
use Rattle.cob_edit.specs.Characters.{characters_from, HasCharacters}
use Rattle.cob_edit.proofs.CharacterLemmas.{spelled_has}
use Rattle.cob_edit.proofs.spelling.edit_text.Goals as goal

pub positions-requires : goal.positions-requires
positions-requires c = inr (ap is_edited c.requires.edited)

pub spell-requires : goal.spell-requires
spell-requires c =
    let xs = symbols_of c.positions.result.items in
    let edited : IsPicture AlphanumericEdited xs = subst (λ x. IsPicture x xs) c.requires.edited c.positions.ensures.picture in
    let same = c.positions.ensures.roles ∙ ap (λ x. positions x xs) c.requires.edited in
    record {
      room = c.requires.room
          ∙ ap size (sym c.positions.ensures.value ∙ same)
          ∙ one_byte_each AlphanumericEdited xs refl edited.order
          ∙ sym (length_placed AlphanumericEdited (floating xs) false xs)
          ∙ ap (length {A = Position}) (sym (c.as_slice.ensures.value ∙ same));
    }

pub returns : goal.returns
returns c =
    let ps = c.args.picture.now.positions in
    let text = c.spell.ensures ∙ ap (λ qs. characters_from qs c.args.sender.now) (c.as_slice.ensures.value ∙ c.positions.ensures.value) in
    record { text = subst (λ bytes. HasCharacters ps c.args.sender.now bytes) (sym text) (spelled_has ps c.args.sender.now) }
